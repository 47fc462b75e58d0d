pub mod LineStops
