pub mod Changes
pub mod Given
pub mod GivenLaws
pub mod Records
pub mod Search
