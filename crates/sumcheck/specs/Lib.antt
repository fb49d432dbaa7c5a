-- The sumcheck protocol over any modulus n, as documents 01, 002 and 003 have it.
--   Corners     the corners of {0,1}^m, and the index of a corner
--   Extension   the extension of a table
--   Function    f, the product of the extensions; its true sum
--   TruePolynomial  the true polynomials
--   Meaning     what the true sum and the true polynomial are, in plain numbers and values
--   Protocol    the checker's verdict
--   Demands     what is demanded of the protocol: demand 3 as statements
--   Lent        what a caller lends, and the tests that turn it down
--   Entries     what each entry answers and leaves, refusals in order
--   Steps       the checker in steps: the state, opening, a step, closing
--   Proving     what is demanded of the prover's own answer and of what it leaves
--   Checker     what is demanded of the checker's own answer: demands 1, 2 and 3
--   Sequences   sequences of steps answer as the protocol does, and agree with the checker
--   Part        the round part of a message list
--   Folding     halving a table by a challenge: not the document's words, and cited by no promise of an entry
pub mod Corners
pub mod Extension
pub mod Function
pub mod TruePolynomial
pub mod Meaning
pub mod Protocol
pub mod Demands
pub mod Lent
pub mod Entries
pub mod Steps
pub mod Part
pub mod Proving
pub mod Checker
pub mod Sequences
pub mod Folding
