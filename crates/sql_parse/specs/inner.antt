pub mod Gives
pub mod LentTokens
pub mod Lexing
