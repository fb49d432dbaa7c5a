-- A round's message over the narrow field.
--   Place  where a part of a list lies in memory
pub mod Place
