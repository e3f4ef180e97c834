pub mod LetterLemmas
pub mod DoneLemmas
pub mod SuiteLemmas
pub mod OneShown
