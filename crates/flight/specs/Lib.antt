-- What is in flight: Flights. Shapes: what holds of every flight. ByMask: a message to a mask of sites.
-- Rests on site, posting and sets.
pub mod Flights
pub mod Shapes
pub mod ByMask
