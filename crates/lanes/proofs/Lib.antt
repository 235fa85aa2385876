pub mod BitLaws
pub mod MergeSteps
pub mod SetLaws
pub mod CountLaws
pub mod NextLaws
pub mod SelectLaws
pub mod MaskLaws
pub mod PlainLaws
