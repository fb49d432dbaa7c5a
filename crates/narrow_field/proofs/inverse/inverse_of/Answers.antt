-- `narrow_field::inverse::inverse_of` meets its contract: the loop's invariant is Euclid's, and p is prime. Assumes nothing.
use Rattle.std.proofs.Common.{ℕ, sym, ap, subst, ◌∙◌, ◌%◌}
use native.Mathlib.Omega.{arith}
use Rattle.arithmetic.specs.Modulo.{sub}
use Rattle.arithmetic.proofs.Euclid.{Euclid, euclid_step, euclid_end}
use Rattle.arithmetic.proofs.Mersenne.{prime_31}
use Rattle.narrow_field.specs.Narrow.{p}
use Rattle.narrow_field.proofs.inverse.inverse_of.Goals as goal

pub loop-second-preserved : goal.loop-second-preserved
loop-second-preserved c =
    let at = c.loop-second in
    subst (Euclid p c.args.a at.second (at.first % at.second) at.coefficient) (sym (c.less-next.ensures ∙ ap (sub p at.before) c.times.ensures))
    (euclid_step p c.args.a at.first at.second at.before at.coefficient prime_31 at.invariant c.loop-second-test.true)

pub returns : goal.returns
returns c =
    let at = c.loop-second in
    sym (euclid_end p c.args.a at.first at.before at.coefficient (omega arith)
    (subst (λ (r : ℕ). Euclid p c.args.a at.first r at.before at.coefficient) c.loop-second-test.false at.invariant))
