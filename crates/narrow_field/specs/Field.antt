-- What the field's operations answer (document 01, "What is offered" and "When a call is turned down"): refusal 5 where an operand is no element,
-- refusal 6 for the inverse of 0, in that order; else the value modulo p.
use Rattle.std.specs.Prelude.{List, [], ◌∷◌, ℕ, eqb}
use Rattle.arithmetic.specs.Modulo.{add, sub, neg, mul, pow}
use Rattle.arithmetic.specs.Prime.{inverse}
use Rattle.refusals.specs.First as First
use Rattle.refusals.specs.First.{◌when◌, outside, decide}
use Rattle.narrow_field.specs.Narrow.{p}

-- an answer of elements alone
abbrev pub of_elements : List ℕ → ℕ → First.Answer ℕ
of_elements operands value = decide (5 when outside p operands ∷ []) value

abbrev pub sum_of : ℕ → ℕ → First.Answer ℕ
sum_of a b = of_elements (a ∷ b ∷ []) (add p a b)

abbrev pub difference_of : ℕ → ℕ → First.Answer ℕ
difference_of a b = of_elements (a ∷ b ∷ []) (sub p a b)

abbrev pub negative_of : ℕ → First.Answer ℕ
negative_of a = of_elements (a ∷ []) (neg p a)

abbrev pub product_of : ℕ → ℕ → First.Answer ℕ
product_of a b = of_elements (a ∷ b ∷ []) (mul p a b)

abbrev pub power_of : ℕ → ℕ → First.Answer ℕ
power_of a e = of_elements (a ∷ []) (pow p a e)

abbrev pub inverse_of : ℕ → First.Answer ℕ
inverse_of a = decide (5 when outside p (a ∷ []) ∷ 6 when eqb a 0 ∷ []) (inverse p a)
