-- What is allowed at each step of start-up: number 14 (01, Start-up). Definitions only.
use Rattle.units.specs.declared.Clock.{Clock}
use Rattle.std.specs.Prelude.{Bool, true, false, ◌&&◌, ◌||◌, cond, Option, None, Some}
use Rattle.units.specs.declared.Ps.{Ps}
use Rattle.units.specs.Time.{time, by, occurred}
use Rattle.layout.specs.declared.Record.{Record}
use Rattle.layout.specs.declared.Command.{Command}
use Rattle.layout.specs.declared.Command.TheVariants.{Precharge, Refresh, LoadMode}
use Rattle.layout.specs.Commands.{is, precharge_all}
use Rattle.rules.specs.declared.Refreshes.{Refreshes}
use Rattle.rules.specs.declared.Refreshes.TheVariants.{Zero, One, Two}
use Rattle.rules.specs.declared.Register.{Register}
use Rattle.rules.specs.declared.StartUp.{StartUp}

-- the first PRECHARGE ALL has been
abbrev pub begun : StartUp → Bool
begun u = occurred u.allclosed

-- two or more refreshes are done
abbrev pub two_done : Refreshes → Bool
two_done Zero = false
two_done (One n) = false
two_done (Two n) = true

-- the last refresh
abbrev pub last_refresh : Refreshes → Option Clock
last_refresh Zero = None
last_refresh (One n) = Some n
last_refresh (Two n) = Some n

-- the last refresh where two or more are done: what number 12 counts from
abbrev pub counted_refresh : Refreshes → Option Clock
counted_refresh Zero = None
counted_refresh (One n) = None
counted_refresh (Two n) = Some n

-- the last LOAD MODE
abbrev pub last_load : Option Register → Option Clock
last_load None = None
last_load (Some l) = Some l.clock

-- "that command must stand at 100,000,000 ps or later"
abbrev pub power_up : Ps
power_up = time 100_000_000

-- 14, for an executable command at time now: the first PRECHARGE ALL; "Then PRECHARGE and AUTO REFRESH; after two refreshes
-- also LOAD MODE; after the first LOAD MODE everything"
unfoldable pub allowed : Command → Record → Ps → StartUp → Bool
allowed k r now u =
    cond (begun u)
    (is k Precharge
    || is k Refresh
    || (two_done u.refreshes && (is k LoadMode || occurred (last_load u.register))))
    (precharge_all k r && by power_up now)
