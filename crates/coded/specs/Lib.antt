-- Answers in numbers, as they cross to other languages.
--   Coded   every answer in numbers
pub mod Coded
