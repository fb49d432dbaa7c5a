-- The laws of the layout.
--   Tests     tests and the facts that they stand for
--   Classes   the class of a byte
--   Numbers   numbers in decimal digits, and parts
--   Lines     what is known of bytes by what is found in them
--   Answers   a list of bytes that is answered as a file, line by line
--   Decimal   numbers and their digits
--   Written   lines found and lines written are the same
--   Exact     exactly the files of well_formed parts are answered as files
pub mod Tests
pub mod Classes
pub mod Numbers
pub mod Lines
pub mod Answers
pub mod Decimal
pub mod Written
pub mod Exact
