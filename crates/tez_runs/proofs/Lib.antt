mod RunLemmas
mod FlagLemmas
