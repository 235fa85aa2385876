pub mod TakenKeys
