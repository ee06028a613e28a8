pub mod Events
pub mod Node
pub mod Letters
pub mod Running
pub mod Report
pub mod Telling
pub mod Input
pub mod Top
