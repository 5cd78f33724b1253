-- `asking::minima::short_closings` meets its contract: any of the four.
use borrow.Author.Rules.{rules}
use borrow.Author.Tests.{tests}
use mathlib.Core.Path.{◌∙◌, sym, subst}
use Rattle.std.proofs.lemmas.List.{get_or_default}
use Rattle.std.proofs.lemmas.Iterator.{YieldsList-from_slice}
use Rattle.std.proofs.lemmas.Iterator.Adapters.{serves_from_places}
use Rattle.std.proofs.lemmas.Iterator.Search.{any_from_yields_List}
use Rattle.rules.specs.declared.Bank.{Bank}
use Rattle.rules.proofs.Four.{any_four}
use Rattle.rules.specs.Admitted.{FitStatus}
use Rattle.asking.specs.Shorts.{short_closed, short_closings}
use Rattle.asking.proofs.minima.short_closings.Goals as goal

pub any-requires-clause-callable : goal.any-requires-clause-callable
any-requires-clause-callable c = serves_from_places (YieldsList-from_slice c.args.banks cc) (λ x q k. search rules) (λ x k lt e κs p g a u v w z. (subst (λ (b : Bank). FitStatus b.status) (sym (e ∙ get_or_default c.args.banks k x.now _ lt)) (c.requires.0.each k).status, c.requires.1))

pub returns : goal.returns
unfolding short_closings
returns c =
    any_from_yields_List (λ (b : Bank). short_closed b.status c.args.min c.args.moment) _ _ c.any.result c.any.ensures.ran (YieldsList-from_slice c.args.banks cc) (λ x b q k. search (rules, tests))
    ∙ any_four (λ (b : Bank). short_closed b.status c.args.min c.args.moment) c.args.banks (search rules)
