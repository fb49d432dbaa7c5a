-- `narrow_lent::judge::is_outside` meets its contract: the list is searched as `outside` searches it. Assumes nothing.
use Rattle.std.proofs.Common.{refl, rules, leb}
use Rattle.std.proofs.lemmas.List.Recursion.{or_is}
use Rattle.refusals.specs.First.{outside}
use Rattle.refusals.proofs.First.{either_or}
use Rattle.narrow_field.specs.Narrow.{p}
use Rattle.narrow_lent.proofs.judge.is_outside.Goals as goal

pub returns : goal.returns
returns c = or_is (outside p) (leb p) refl (λ x xs. either_or (leb p x) (outside p xs)) c.args.list.now 0 _ (search rules) (search rules)
