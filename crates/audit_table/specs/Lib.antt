-- Table: the figures of several sites side by side, where they differ.
-- Rests on amounts, printer and sets.
pub mod Table
