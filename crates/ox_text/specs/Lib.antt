pub mod Words
pub mod SpellingLaws
