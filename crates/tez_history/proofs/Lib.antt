mod Driving
mod Rows
mod Mutated
mod Found
