-- The demands with p put in, proved.
--   Demands    Stepwise   the laws over any modulus, at p
--   Follows    what follows from them
--   Worked     the numbers for which they are met, computed or put into the statements
pub mod Demands
pub mod Stepwise
pub mod Follows
pub mod Worked
