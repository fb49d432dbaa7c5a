-- The laws of refusals in order.
--   First   a refusal whose test holds is given; one whose test fails is passed
--   Order   a list of refusals decided by its number; lists and searches one after the other
--   Pinned  a promise that is an equation has one answer
pub mod First
pub mod Order
pub mod Pinned
