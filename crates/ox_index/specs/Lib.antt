pub mod Order
pub mod OrderLaws
pub mod OrderTotal
pub mod PairLaws
pub mod Pairs
pub mod Place
