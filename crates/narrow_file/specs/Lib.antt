-- What the reader of narrow files answers.
--   Narrow   the layout of narrow files, the reader's answer, and the lent list after the call
--   Example  the file of document 01, and what the document says of it
--   Passes   what the inner functions of the two passes promise; nothing that a caller is promised rests on it
pub mod Narrow
pub mod Example
pub mod Passes
