-- Sites: a site's parts. Sends and Steps: what it does. ByMask: the same by masks of receivers.
-- Rests on masks, posting and sets.
pub mod Sites
pub mod Sends
pub mod Steps
pub mod ByMask
