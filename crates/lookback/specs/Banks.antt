-- A bank by looking back: its last ACTIVE, open or closed, its closing (01, Commands and what each must find). Definitions only.
use Rattle.units.specs.declared.Clock.{Clock}
use Rattle.std.specs.Prelude.{ℕ, Bool, ◌&&◌, ◌||◌, cond, List, [], ◌∷◌, eqb, Option, None, Some}
use Rattle.units.specs.declared.Ps.{Ps}
use Rattle.units.specs.Time.{at}
use Rattle.speed.specs.declared.SpeedTable.{SpeedTable}
use Rattle.layout.specs.declared.Record.{Record}
use Rattle.layout.specs.declared.Command.TheVariants.{Active, Precharge}
use Rattle.layout.specs.Commands.{command, is, covers}
use Rattle.rules.specs.declared.Status.{Status}
use Rattle.rules.specs.declared.Status.TheVariants.{NotStarted, Open, Closed}
use Rattle.rules.specs.Closing.{burst_end, closing_time}
use Rattle.rules.specs.Rules.{asks_auto}
use Rattle.lookback.specs.Past.{clock_in, back_to, last_of}
use Rattle.lookback.specs.StartUp.{mode_in}

-- ── What a record does to bank i ──

-- an ACTIVE of it
abbrev pub activates : ℕ → Record → Bool
activates i r = is (command r) Active && eqb i r.ba

-- a READ or WRITE of it with auto precharge
abbrev pub auto_closes : ℕ → Record → Bool
auto_closes i r = asks_auto (command r) r && eqb i r.ba

-- "PRECHARGE, one bank or (A10 HIGH) each of the four"
abbrev pub precharges : ℕ → Record → Bool
precharges i r = is (command r) Precharge && covers r.addr r.ba i

-- a PRECHARGE: "it closes now"; "Auto precharge counts the bank closed at once"
abbrev pub closes : ℕ → Record → Bool
closes i r = auto_closes i r || precharges i r

-- ── Its last ACTIVE ──

-- "tRC since its last ACTIVE; tRRD since the last ACTIVE of another bank"
abbrev pub last_active : ℕ → List Record → Option Clock
last_active i past = last_of (activates i) past

-- the row that the newest of these opened
abbrev pub row_by : List Record → ℕ
row_by [] = 0
row_by (r ∷ past) = r.addr

-- the row of its last ACTIVE
abbrev pub row_in : ℕ → List Record → ℕ
row_in i past = row_by (back_to (activates i) past)

-- ── Its closing ──

-- these, or where there are none, those
abbrev pub or_these : List Record → List Record → List Record
or_these [] l = l
or_these (r ∷ past) l = r ∷ past

-- back from the first record after its last ACTIVE that closes it: "A closed bank .. keeps that closing time"
abbrev pub back_to_close : ℕ → List Record → List Record
back_to_close i [] = []
back_to_close i (r ∷ past) = cond (activates i r) [] (or_these (back_to_close i past) (cond (closes i r) (r ∷ past) []))

-- auto precharge: "the later of ACTIVE + tRAS min and" the end of the burst
abbrev pub auto_time : SpeedTable → Ps → Option Clock → Ps → Ps
auto_time t period None end = end
auto_time t period (Some n) end = closing_time t period n end

-- the end of the burst that record r after these registers
abbrev pub end_in : SpeedTable → Ps → Record → List Record → Ps
end_in t period r past = burst_end (command r) t period (mode_in past) (clock_in past r)

-- the time at which record r after these closes bank i
abbrev pub close_time : SpeedTable → Ps → ℕ → Record → List Record → Ps
close_time t period i r past =
    cond (auto_closes i r) (auto_time t period (last_active i past) (end_in t period r past)) (at period (clock_in past r))

-- ── Open or closed ──

-- open since the newest of these
abbrev pub opened_by : List Record → Status
opened_by [] = NotStarted
opened_by (r ∷ past) = Open r.addr (clock_in past r)

-- closed by the newest of the first list; where there is none, open since that of the second
abbrev pub status_by : SpeedTable → Ps → ℕ → List Record → List Record → Status
status_by t period i [] opens = opened_by opens
status_by t period i (r ∷ past) opens = Closed (close_time t period i r past)

-- "bank open", "bank closed", or neither before the first PRECHARGE ALL
abbrev pub status_in : SpeedTable → Ps → ℕ → List Record → Status
status_in t period i past = status_by t period i (back_to_close i past) (back_to (activates i) past)
