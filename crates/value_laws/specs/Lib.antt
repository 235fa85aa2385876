pub mod Answers
pub mod Fitting
pub mod Literals
pub mod Steps
pub mod Values
