-- What the reader of one line answers.
--   OneLine  the line that is asked for, and what is told of it
--   Steps    what the machine's inner functions promise; nothing that a caller is promised rests on it
pub mod OneLine
pub mod Steps
