-- `packed::inplace::rows_within` meets its contract.
use Rattle.std.proofs.Common.{rules}
use Rattle.std.proofs.lemmas.Iterator.{YieldsList-from_range, serves_from_Range}
use Rattle.std.proofs.lemmas.Iterator.Search.{all_from_yields_List}
use Rattle.rules.specs.Admitted.{FitStatus}
use Rattle.rules.specs.Banks.{open_within}
use Rattle.rules.specs.declared.Status.{Status}
use Rattle.packed.specs.Packed.{bank_in}
use Rattle.rules.specs.declared.Bank.{Bank}
use Rattle.packed.proofs.Puts.{bank_held}
use native.Mathlib.Omega.{arith}
use Prim.Native.Nat.{◌%◌}
use mathlib.Core.Path.{refl, sym, subst, ap, ◌∙◌}
use Rattle.packed.proofs.inplace.rows_within.Goals as goal

pub all-requires-clause-callable : goal.all-requires-clause-callable
all-requires-clause-callable c = serves_from_Range (λ x q k. search rules) (λ x lo hi κs p g a e u v w. λ status z. (c.requires.0, subst (λ (y : Status). FitStatus y) (ap (λ (b : Bank). b.status) (bank_held c.args.held.now (x % 4) (omega arith)) ∙ sym status.ensures) (c.requires.1.each (x % 4)).status))

pub returns : goal.returns
returns c = all_from_yields_List (λ i. open_within c.args.period c.args.max c.args.moment (bank_in c.args.held.now (i % 4)).status) _ _ _ c.all.ensures.ran (YieldsList-from_range 0 4 4 refl refl) (λ x b q k. search rules)
