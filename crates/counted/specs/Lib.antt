-- Answers: a count and a slice. Drains: a run file run and drained. Numbers: the refusal numbers of a run.
-- Rests on decoder, runfile, printer, drain and machine.
pub mod Answers
pub mod Drains
pub mod Numbers
