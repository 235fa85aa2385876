pub mod WordStops
