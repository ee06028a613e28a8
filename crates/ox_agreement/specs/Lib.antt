-- Definitions that the laws of this crate cite.
pub mod Begins
pub mod Entries
pub mod Tale
pub mod Steps
pub mod Agreement
pub mod Committed
pub mod Story
