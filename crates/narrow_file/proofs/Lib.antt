-- The laws behind the reader's proofs.
--   Chain     from line to line
--   Collect   the numbers of the second pass are those of the first
--   Pour      the second pass from some place on
--   Left      what the second pass leaves in the lent list
--   Cases     the document's file cases hold of the definitions
--   Pinned    no two answers say the same
pub mod Chain
pub mod Collect
pub mod Pour
pub mod Left
pub mod Cases
pub mod Pinned
