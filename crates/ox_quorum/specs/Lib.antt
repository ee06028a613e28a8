-- Definitions that the contracts of this crate cite.
pub mod CommonPoint
pub mod Ensemble
pub mod Forms
pub mod FormLaws
pub mod Quorum
