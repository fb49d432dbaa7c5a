-- `narrow_checker::sent::Sent::walk` meets its contract: so many rounds are taken, and the running claim is theirs. Assumes nothing.
use Rattle.std.proofs.Common.{◌≡◌, ℕ, suc, ◌+◌, ◌-◌, ◌*◌, ◌≤◌, List, length, take, drop, sym, ap, ◌∙◌}
use native.Mathlib.Omega.{arith}
use native.Mathlib.Numerals.{add-one}
use lib.ListN.{get_or}
use Rattle.refusals.specs.Limits.{max_degree}
use Rattle.refusals.specs.First.{given}
use Rattle.polynomial.specs.Polynomial.{value}
use Rattle.polynomial.specs.Array.{padded}
use Rattle.sumcheck.specs.Protocol.{fits, failed}
use Rattle.sumcheck.proofs.Walk.{message_at, message_short, message_part, array_value, array_fits, walked_more, walked_failed}
use Rattle.narrow_field.specs.Narrow.{p}
use Rattle.narrow_checker.proofs.sent.Sent.walk.Goals as goal

-- the array that a round's message travels as has that message's sum and its values
module _ (width : ℕ) (messages : List ℕ) (j : ℕ) (cs : List ℕ)
    (e : cs ≡ padded (suc max_degree) (take (j * width + width - j * width) (drop (j * width) messages))) (least : width ≤ suc max_degree) where
  held : cs ≡ padded (suc max_degree) (message_at width messages j)
  held = e ∙ ap (padded (suc max_degree)) (message_part width messages j)

  short : length (message_at width messages j) ≤ suc max_degree
  short = omega (arith, message_short width messages j)

  judged : (running : ℕ) → fits p cs running ≡ fits p (message_at width messages j) running
  judged running = array_fits p (message_at width messages j) cs running held short

  put : (x : ℕ) → value p cs x ≡ value p (message_at width messages j) x
  put x = array_value p (message_at width messages j) cs x held short

pub returns-then-not-sum_fits : goal.returns-then-not-sum_fits
returns-then-not-sum_fits c =
    let a = c.args in
    let l = c.loop-taken in
    let fit = c.sum_fits.ensures ∙ judged a.width a.self.messages.now l.taken c.coefficients-c.result c.coefficients-c.ensures c.requires.1 l.running in
    ap given
    (ap failed (add-one l.taken)
    ∙ walked_failed p a.self.claim a.self.challenges.now a.width a.self.messages.now l.taken l.running c.loop-taken-test.true l.invariant
    (sym fit ∙ c.if-not-sum_fits.true))

pub loop-taken-preserved : goal.loop-taken-preserved
loop-taken-preserved c =
    let a = c.args in
    let l = c.loop-taken in
    let fit = c.sum_fits.ensures ∙ judged a.width a.self.messages.now l.taken c.coefficients-c.result c.coefficients-c.ensures c.requires.1 l.running in
    walked_more p a.self.claim a.self.challenges.now a.width a.self.messages.now l.taken l.running c.value_at-running.result c.loop-taken-test.true l.invariant
    (sym fit ∙ c.if-not-sum_fits.false)
    (c.value_at-running.ensures
    ∙ put a.width a.self.messages.now l.taken c.coefficients-c.result c.coefficients-c.ensures c.requires.1 (get_or a.self.challenges.now l.taken 0))
