-- The laws of arithmetic modulo n.
--   Ring       one law that decides identities modulo n
--   Modulo     the laws of a commutative ring, of powers, and when an answer is an element
--   Power      powers by squaring, a binary digit at a time
--   Field      modulo a prime: inverses exist and are unique, Euclid's lemma
--   Euclid     Euclid's algorithm, a step at a time, gives the inverse
--   Trial      a number with no divisor up to its root is prime
--   Mersenne   2^31 - 1 is prime
pub mod Ring
pub mod Modulo
pub mod Power
pub mod Field
pub mod Euclid
pub mod Trial
pub mod Mersenne
