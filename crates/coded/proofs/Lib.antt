-- The laws of answers in numbers.
--   Told   a conversion's clause says what specs/Coded says of the answer
pub mod Told
