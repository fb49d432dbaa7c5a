-- The laws of polynomials modulo n.
--   Lists     what holds of every member; sums of lists
--   Value     Horner's rule; the value of a sum and of a product
--   Horner    the value of a polynomial, from the top coefficient down
--   Shape     how many coefficients a sum and a product have, and that they are elements
--   Padded    polynomials in a list of fixed length, with zeros on top
--   Array     zeros on top change no value
--   Roots     two different polynomials of k + 1 coefficients agree at no more than k elements of a prime field
pub mod Lists
pub mod Value
pub mod Horner
pub mod Shape
pub mod Array
pub mod Roots
pub mod Padded
