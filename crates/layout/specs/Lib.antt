-- What a proof file is, and what every list of bytes is answered (document 01, "Proof file" and "When a call is turned down").
--   Bytes    the class of a byte; the first line; what commas part
--   Number   decimal digits: which bytes are a number, its value, and the digits of a number
--   Words    the words that lines begin with
--   Line     what a line must be, and what is found where one is expected
--   Reading  the layout's parameters, and the answer for every list of bytes, refusals in the document's order
--   File     the bytes of a file from its parts, and the statement that exactly these are answered as files
pub mod Bytes
pub mod Number
pub mod Words
pub mod Line
pub mod Reading
pub mod File
