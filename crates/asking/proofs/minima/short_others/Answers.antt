-- `asking::minima::short_others` meets its contract: any of the four.
use mathlib.Core.Path.{refl, ◌∙◌}
use mathlib.Core.Bool.{or-false}
use borrow.Author.Rules.{rules}
use Rattle.std.proofs.lemmas.Iterator.{YieldsList-from_range, serves_from_Range}
use Rattle.std.proofs.lemmas.Iterator.Search.{any_from_yields_List}
use Rattle.rules.specs.Banks.{bank_at}
use Rattle.asking.specs.Shorts.{short_other, short_others}
use Rattle.asking.proofs.minima.short_others.Goals as goal

pub any-requires-clause-callable : goal.any-requires-clause-callable
any-requires-clause-callable c = serves_from_Range (λ x q k. search rules) (λ x lo hi. (λ κs p g a e. search rules, λ κs p g a e. search rules, λ κs p g a e t u v w y z. (c.requires.0, c.requires.1.each x, c.requires.2)))

pub returns : goal.returns
unfolding short_others
returns c = any_from_yields_List (λ i. short_other c.args.period c.args.ba i (bank_at c.args.banks i) c.args.min c.args.moment) _ _ _ c.any.ensures.ran (YieldsList-from_range 0 4 4 refl refl) (λ x b q k. search rules)
    ∙ simp or-false
