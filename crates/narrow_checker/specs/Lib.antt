-- The checker over the narrow field.
--   Said   the code's answers in the document's terms
pub mod Said
