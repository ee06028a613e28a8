pub mod Closing
pub mod Done
pub mod Fits
pub mod Lists
pub mod Parts
