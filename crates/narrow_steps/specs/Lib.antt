-- The checker in steps over the narrow field.
--   Said   the code's state and answers in the document's terms
pub mod Said
