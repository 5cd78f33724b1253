-- What every record is asked before its banks are looked at. Definitions only.
use Rattle.std.specs.Prelude.{List, [], take}
use Rattle.units.specs.declared.Clock.{Clock}
use Rattle.units.specs.declared.Ps.{Ps}
use Rattle.speed.specs.declared.SpeedTable.{SpeedTable}
use Rattle.layout.specs.declared.Record.{Record}
use Rattle.rules.specs.declared.Refreshes.{Refreshes}
use Rattle.rules.specs.Numbers.{Rule}
use Rattle.rules.specs.Rules.{every_rules}

-- 10, 23, 11 and 12: the first four of what every record is asked, which speak of no bank
unfoldable pub moment_rules : SpeedTable → Ps → Refreshes → Record → Clock → Ps → List Rule
moment_rules t period refreshes r n moment = take 4 (every_rules t period refreshes [] r n moment)
