mod TableLemmas
mod RecordLemmas
mod StepLemmas
mod RuleLemmas
mod ListLemmas
mod ReadLemmas
mod SinkLemmas
mod Worked
