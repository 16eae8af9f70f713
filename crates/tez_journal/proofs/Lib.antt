mod EntryLemmas
mod TextLemmas
mod ImageLemmas
mod Telling
mod CrashLemmas
mod OpenLemmas
