pub mod Changes
pub mod Facts
pub mod Merges
pub mod Places
