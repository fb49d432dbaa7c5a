-- `narrow_array::round::value_at` meets its contract: it folds the coefficients by Horner's rule, the top one first. Assumes nothing.
use Rattle.std.proofs.Common.{rules, ◌∙◌}
use Rattle.std.proofs.lemmas.Iterator.Adapters.{YieldsList-from_rev_slice}
use Rattle.std.proofs.lemmas.Iterator.Consumers.{fold_from_yields_List}
use Rattle.narrow_field.specs.Narrow.{p}
use Rattle.polynomial.proofs.Horner.{below, horner}
use Rattle.narrow_array.proofs.round.value_at.Goals as goal

pub returns : goal.returns
returns c =
    fold_from_yields_List _ (below p c.args.x) 0 _ c.fold.ensures.ran (YieldsList-from_rev_slice c.args.c cc) (λ v k r q h. search rules)
    ∙ horner p c.args.c c.args.x
