mod Small
mod Numbers
mod Prefixes
mod Items
mod OptionWords
pub mod CommandWords
mod Rows
