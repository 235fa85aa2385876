pub mod Types
pub mod Worlds
pub mod Layout
pub mod ParsedJoins
pub mod Valid
pub mod CompactValid
pub mod Laws
pub mod inner
