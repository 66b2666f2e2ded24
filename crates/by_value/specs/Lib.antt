-- A changed board takes a call.
-- Rests on counted, decoder, drain, image and machine.
pub mod Changed
