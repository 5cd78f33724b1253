-- `rules::banks::all_closed` meets its contract: each of the four.
use mathlib.Core.Path.{◌∙◌}
use borrow.Author.Rules.{rules}
use borrow.Author.Tests.{tests}
use Rattle.std.proofs.lemmas.Iterator.{YieldsList-from_slice}
use Rattle.std.proofs.lemmas.Iterator.Search.{all_from_yields_List}
use Rattle.rules.specs.Banks.{closed}
use Rattle.rules.proofs.Each.{every_bank}
use Rattle.rules.proofs.banks.all_closed.Goals as goal

pub returns : goal.returns
returns c =
    all_from_yields_List closed _ _ c.all.result c.all.ensures.ran (YieldsList-from_slice c.args.banks cc) (λ x b q k. search (rules, tests))
    ∙ every_bank closed c.args.banks
