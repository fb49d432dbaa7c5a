-- The laws behind the reader of one line.
--   Paths     what the machine's steps come to, one law for each path
--   Machine   the machine that reads a line, one byte after another
--   Verdict   the machine over numbers
--   Words     the machine over a whole line comes to what the layout says
--   Runs      the machine from a place of the bytes on
--   Asked     the layout's tests, as a least and a greatest number
--   Told      what a line's answer tells of the bytes, for a reader that goes on from it
--   Classes   the class of a byte, by the tests that the code makes
--   Pinned    no two answers say the same
pub mod Paths
pub mod Machine
pub mod Verdict
pub mod Words
pub mod Runs
pub mod Asked
pub mod Told
pub mod Classes
pub mod Pinned
