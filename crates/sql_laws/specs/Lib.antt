pub mod DatabaseLaw
pub mod KindLaw
pub mod LineageLaw
pub mod QueryLaw
pub mod StatementLaw
pub mod Types
