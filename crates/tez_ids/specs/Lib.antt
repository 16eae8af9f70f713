pub mod Fixed
pub mod Same
