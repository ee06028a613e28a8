pub mod Fitting
pub mod Log
