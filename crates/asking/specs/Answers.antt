-- 21 and 22 as two tests, for the code that asks them. Definitions only.
use Rattle.rules.specs.declared.Refusal.TheVariants.{EndlessBurst, LateClosing}
use Rattle.rules.specs.Numbers.{Verdict}
use Rattle.std.specs.Prelude.{cond, Ok, Err}
use Rattle.units.specs.declared.Clock.{Clock}
use Rattle.speed.specs.declared.SpeedTable.{SpeedTable}
use Rattle.layout.specs.declared.Command.{Command}
use Rattle.rules.specs.declared.Status.{Status}
use Rattle.rules.specs.declared.Core.{Core}
use Rattle.rules.specs.Parts.{word}
use Rattle.rules.specs.Closing.{burst_end, ends_by_itself, closes_within}

unfoldable pub auto_answer : Command → SpeedTable → Core → Status → Clock → Verdict
auto_answer k t c status n =
    cond (ends_by_itself k (word c))
    (cond (closes_within t c.period (burst_end k t c.period (word c) n) status) (Ok tt) (Err LateClosing))
    (Err EndlessBurst)
