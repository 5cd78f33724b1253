-- `admitting::states::banks_fit` meets its contract: each of the four.
use mathlib.Core.Path.{◌∙◌}
use borrow.Author.Rules.{rules}
use borrow.Author.Tests.{tests}
use Rattle.std.proofs.lemmas.Iterator.{YieldsList-from_slice}
use Rattle.std.proofs.lemmas.Iterator.Search.{all_from_yields_List}
use Rattle.rules.specs.Fits.{bank_fits}
use Rattle.rules.proofs.Each.{every_bank}
use Rattle.admitting.proofs.states.banks_fit.Goals as goal

pub returns : goal.returns
returns c =
    all_from_yields_List (bank_fits c.args.m) _ _ c.all.result c.all.ensures.ran (YieldsList-from_slice c.args.all cc) (λ x b q k. search (rules, tests))
    ∙ every_bank (bank_fits c.args.m) c.args.all
