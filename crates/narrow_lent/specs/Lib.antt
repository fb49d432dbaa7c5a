-- What is lent to an entry over the narrow field.
--   Tables   the tables of a lent list
pub mod Tables
