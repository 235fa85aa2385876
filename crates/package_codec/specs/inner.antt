pub mod Cutting
pub mod EventRunTrace
pub mod Trace
