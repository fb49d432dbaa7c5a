-- Polynomials modulo n as lists of coefficients, lowest power first (document 01, "Terms"; document 003).
--   Elements     lists of elements, lists with no number twice, sums and products of lists
--   Polynomial   value, sum, product
--   Array        coefficients in an array, zeros on top
pub mod Elements
pub mod Polynomial
pub mod Array
