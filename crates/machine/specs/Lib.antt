-- The board and its calls: Boards, Soundness, Calls, Runs, History and Figures are for readers; the others say what the code does on flat arrays and by masks.
-- Rests on books, arrays, index, soundness, cells, steps, flight, site, posting and sets.
pub mod Boards
pub mod Soundness
pub mod Calls
pub mod Runs
pub mod History
pub mod Figures
pub mod View
pub mod ByMask
pub mod SoundParts
pub mod QuietParts
