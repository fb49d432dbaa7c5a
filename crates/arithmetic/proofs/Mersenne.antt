-- 2^31 - 1 is prime, by trial division up to 46,341, whose square is past it. Assumes nothing.
use native.Mathlib.Omega.{arith}
use Rattle.arithmetic.specs.Prime.{Prime}
use Rattle.arithmetic.proofs.Trial.{undivided_from, prime_by_trial}

pub prime_31 : Prime 2147483647
prime_31 = prime_by_trial 2147483647 46340 (omega arith) (omega arith) (unfold undivided_from in tt)
