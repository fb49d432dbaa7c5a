-- What arithmetic modulo n is, for any n.
--   Modulo   sum, difference, negative, product, power
--   Prime    what a prime is; the element that a number times gives 1
pub mod Modulo
pub mod Prime
