-- The sums done by hand of document 01.
--   Cases   P1 to P12 as one table, and what it says
pub mod Cases
