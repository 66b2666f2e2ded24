-- Numbers: what is answered of a pair. Pair: what the code for a pair keeps. Standings: how two postings stand, as a number.
-- Rests on audit_rule.
pub mod Numbers
pub mod Pair
pub mod Standings
