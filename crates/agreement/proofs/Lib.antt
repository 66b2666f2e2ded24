-- What the proof of the theorem is made of: a board as the theory sees it, each call as an event of the theory, and the books.
-- Rests on the specs.
pub mod World
pub mod Shows
pub mod Casts
pub mod Seen
pub mod Counted
pub mod Flown
pub mod Entries
pub mod Ground
pub mod OnFirst
pub mod OnSecond
pub mod OnThird
pub mod Delivered
pub mod OnDeliver
pub mod OnOrder
pub mod OnOffer
pub mod OnRead
pub mod Along
pub mod Begins
pub mod Simulated
pub mod Posted
pub mod Proved
pub mod Drained
