-- Cases evaluated on the definitions. Trials: what a case tries. Boards: what tables begin from. WholeCase: M6 by its bytes. Cases: M1 to M10.
-- Rests on runfile, drain, machine, flight, site, books, posting and sets.
pub mod Trials
pub mod Boards
pub mod WholeCase
pub mod Cases
