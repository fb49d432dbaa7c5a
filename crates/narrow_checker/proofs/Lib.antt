-- The laws of the checker in code.
--   Lists    one list after another
--   Pinned   no two answers say the same
pub mod Lists
pub mod Pinned
