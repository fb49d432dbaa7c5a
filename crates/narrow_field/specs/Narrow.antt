-- The modulus of the narrow field, once for all specifications (document 01, "The protocol").
use Rattle.std.specs.Prelude.{ℕ}

-- p = 2^31 - 1
abbrev pub p : ℕ
p = 2147483647
