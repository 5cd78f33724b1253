-- When auto precharge closes a bank: numbers 21 and 22 (01, Auto precharge). Definitions only.
use Rattle.std.specs.Prelude.{ℕ, Bool, true, not, ◌&&◌, ◌||◌, cond}
use Rattle.units.specs.declared.Clock.{Clock}
use Rattle.units.specs.declared.Ps.{Ps}
use Rattle.units.specs.Time.{at, by, plus, later, clocks_after}
use Rattle.speed.specs.declared.SpeedTable.{SpeedTable}
use Rattle.layout.specs.declared.Command.{Command}
use Rattle.layout.specs.declared.Command.TheVariants.{Write}
use Rattle.layout.specs.Commands.{is}
use Rattle.mode.specs.Word.{full_page, single, length_of, write_length}
use Rattle.rules.specs.declared.Status.{Status}
use Rattle.rules.specs.declared.Status.TheVariants.{NotStarted, Open, Closed}

-- "for a READ at r, clock r + length; for a WRITE with last beat at e, clock e + 1 plus the addition in ps, not rounded"
abbrev pub burst_end : Command → SpeedTable → Ps → ℕ → Clock → Ps
burst_end k t period word n =
    cond (is k Write) (plus (at period (clocks_after n (write_length word))) t.addition)
    (at period (clocks_after n (length_of word)))

-- "Its closing time is the later of ACTIVE + tRAS min and" the end of its burst
abbrev pub closing_time : SpeedTable → Ps → Clock → Ps → Ps
closing_time t period active end = later (plus (at period active) t.trasmin) end

-- 21 "concerns a READ in full-page mode, and a WRITE there unless M9 = 1"
abbrev pub ends_by_itself : Command → ℕ → Bool
ends_by_itself k word = not (full_page word) || (is k Write && single word)

-- 22: auto precharge does not "start later than tRAS max after the ACTIVE"
abbrev pub closes_within : SpeedTable → Ps → Ps → Status → Bool
closes_within t period end NotStarted = true
closes_within t period end (Open row n) = by (closing_time t period n end) (plus (at period n) t.trasmax)
closes_within t period end (Closed x) = true
