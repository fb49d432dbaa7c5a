-- The laws of the checker in steps.
--   Pinned   no two answers say the same
pub mod Pinned
