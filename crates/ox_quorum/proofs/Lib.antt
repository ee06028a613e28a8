-- Lemmas of this crate.
mod Again
mod Nodes
mod Passing
mod Points
mod Quorums
mod Tables
