mod Entries
mod KeptLemmas
