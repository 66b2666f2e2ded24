-- Powers: a number taken apart by 10,000 times powers of two.
-- Rests on nothing.
pub mod Powers
