-- The page to believe: demands 1 to 3 of the library's own answers, with p = 2147483647 put in.
--   Demands    the three demands
--   Stepwise   the checker in steps
--   Follows    what follows from them for a caller
--   Worked     numbers worked out by hand for which they are met; the count of SoundAtP could not be smaller
pub mod Demands
pub mod Stepwise
pub mod Follows
pub mod Worked
