-- When a call is turned down (document 01): the limits, and how refusals are ordered.
--   Limits   the most variables, tables and bytes
--   First    a list of refusals, each with its test; the first whose test holds is given
--   Said     a refusal's number, and a result of the code as an answer
--   Pinned   why a promise that is an equation has one answer
pub mod Limits
pub mod Said
pub mod First
pub mod Pinned
