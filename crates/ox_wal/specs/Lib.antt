pub mod ActionForms
pub mod ActionLaws
pub mod Blocks
pub mod Files
pub mod Follow
pub mod State
