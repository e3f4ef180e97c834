pub mod Places
pub mod Sound
pub mod Variant
pub mod Fit
pub mod Replacements
pub mod Trial
pub use Rattle.type_layout.specs.Layout
pub use Rattle.type_layout.specs.Types
