pub mod Field
pub mod Reply
pub mod Answer
pub mod Refusal
pub mod Message
pub mod Effect
pub mod History
