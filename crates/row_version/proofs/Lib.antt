pub mod Later
mod Parts
pub mod Timed
