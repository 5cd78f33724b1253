-- `admitting::states::bursts_fit` meets its contract: each of the four.
use mathlib.Core.Path.{◌∙◌}
use borrow.Author.Rules.{rules}
use borrow.Author.Tests.{tests}
use Rattle.std.proofs.lemmas.Iterator.{YieldsList-from_slice}
use Rattle.std.proofs.lemmas.Iterator.Search.{all_from_yields_List}
use Rattle.rules.specs.Fits.{burst_fits}
use Rattle.admitting.proofs.Each.{every_burst}
use Rattle.admitting.proofs.states.bursts_fit.Goals as goal

pub returns : goal.returns
returns c =
    all_from_yields_List (burst_fits c.args.m) _ _ c.all.result c.all.ensures.ran (YieldsList-from_slice c.args.reads cc) (λ x b q k. search (rules, tests))
    ∙ every_burst c.args.m c.args.reads
