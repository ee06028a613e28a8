pub mod FormLaws
pub mod Forms
pub mod Laws
pub mod Meaning
pub mod Register
pub mod RegisterLaws
pub mod Store
