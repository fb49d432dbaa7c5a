-- The field modulo 2^31 - 1.
--   Narrow    the modulus
--   Field     what the six operations answer, refusals in order
pub mod Narrow
pub mod Field
