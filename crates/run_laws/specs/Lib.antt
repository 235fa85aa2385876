pub mod KeptLaw
pub mod KeptReplies
pub mod Laws
pub mod LogLaws
pub mod Types
