-- The verdict table for a record, rows 10 to 22 with 16 as eight rows (01, Verdicts). Definitions only.
use Rattle.std.specs.Prelude.{ℕ, ◌^◌, Bool, true, ◌&&◌, ◌||◌, cond, List, [], ◌∷◌, ◌++◌, leb, eqb, Option, None, Some}
use Rattle.units.specs.declared.Clock.{Clock}
use Rattle.units.specs.declared.Ps.{Ps}
use Rattle.units.specs.Time.{at, by, plus}
use Rattle.units.specs.declared.Module.{Module}
use Rattle.speed.specs.declared.SpeedTable.{SpeedTable}
use Rattle.layout.specs.declared.Record.{Record}
use Rattle.layout.specs.declared.Command.{Command}
use Rattle.layout.specs.declared.Command.TheVariants.{Write, Terminate, LoadMode}
use Rattle.layout.specs.Commands.{command, is, access, executable, a10}
use Rattle.mode.specs.Word.{legal, latency}
use Rattle.bursts.specs.Bus.{bursts_finished, bus_clear}
use Rattle.rules.specs.declared.Refusal.TheVariants.{BankState, BusNotClear, CkeLow, EndlessBurst, HighClock, LateClosing, LateRefresh, LongRow, RecordZeros, ReservedMode, ShortClock, StartUpStep, TooSoon, UnfinishedBurst}
use Rattle.rules.specs.declared.Interval.TheVariants.{Mrd, Ras, Rc, Rcd, Rfc, Rp, Rrd, Wr}
use Rattle.rules.specs.declared.Refreshes.{Refreshes}
use Rattle.rules.specs.declared.StartUp.{StartUp}
use Rattle.rules.specs.declared.Status.{Status}
use Rattle.rules.specs.declared.Bank.{Bank}
use Rattle.rules.specs.declared.Core.{Core}
use Rattle.rules.specs.declared.State.{State}
use Rattle.rules.specs.declared.Setup.{Setup}
use Rattle.rules.specs.Numbers.{Rule, rule, first_broken, asked, ◌⇒◌, tRCD, tRAS, tRC, tRP, tRRD, tRFC, tWR, tMRD, Verdict}
use Rattle.rules.specs.Parts.{clock_of, now, word_in, state_module}
use Rattle.rules.specs.StartUp.{allowed, counted_refresh}
use Rattle.rules.specs.Banks.{bank_at, every, open_within, banks_found}
use Rattle.rules.specs.Minima.{Since, minima, met}
use Rattle.rules.specs.Closing.{burst_end, ends_by_itself, closes_within}

-- "the record's clock above 2^40"
abbrev pub clock_max : ℕ
clock_max = 2 ^ 40

-- a maximum m is not passed at time now: "no maximum is passed" where the event is ahead
abbrev pub within : Ps → Ps → Ps → Option Clock → Bool
within period m now None = true
within period m now (Some x) = by now (plus (at period x) m)

-- "tCK of the chosen latency"
abbrev pub tCK : SpeedTable → ℕ → Ps
tCK t w = cond (eqb (latency w) 2) t.tck2 t.tck3

-- READ or WRITE that asks auto precharge
abbrev pub asks_auto : Command → Record → Bool
asks_auto k r = access k && a10 r

-- 10, 23, 11, 12 and 13 are tried on every record, here on clock n at time moment
unfoldable pub every_rules : SpeedTable → Ps → Refreshes → List Bank → Record → Clock → Ps → List Rule
every_rules t period refreshes bs r n moment =
    rule RecordZeros (eqb r.zeros 0)
    ∷ rule HighClock (leb n.0 clock_max)
    ∷ rule CkeLow (eqb r.cke 1)
    ∷ rule LateRefresh (within period t.interval moment (counted_refresh refreshes))
    ∷ rule LongRow (every (λ b. open_within period t.trasmax moment b.status) bs)
    ∷ []

-- 14 and 15
unfoldable pub place_rules : Command → StartUp → List Bank → Record → Ps → List Rule
place_rules k u bs r moment = rule StartUpStep (allowed k r moment u) ∷ rule BankState (banks_found k r.ba bs) ∷ []

-- 16, the lowest minimum first, for the events that they count from
unfoldable pub minimum_rules : SpeedTable → Ps → Ps → List Since → List Rule
minimum_rules t period moment events =
    rule (TooSoon Rcd) (met tRCD t.trcd moment events)
    ∷ rule (TooSoon Ras) (met tRAS t.trasmin moment events)
    ∷ rule (TooSoon Rc) (met tRC t.trc moment events)
    ∷ rule (TooSoon Rp) (met tRP t.trp moment events)
    ∷ rule (TooSoon Rrd) (met tRRD t.trrd moment events)
    ∷ rule (TooSoon Rfc) (met tRFC t.trfc moment events)
    ∷ rule (TooSoon Wr) (met tWR t.twr moment events)
    ∷ rule (TooSoon Mrd) (met tMRD (at period t.tmrd) moment events)
    ∷ []

-- 17 and 18
unfoldable pub mode_rules : Command → SpeedTable → Module → Ps → Record → List Rule
mode_rules k t m period r =
    rule ReservedMode (is k LoadMode ⇒ legal m r.addr && eqb r.ba 0)
    ∷ rule ShortClock (is k LoadMode ⇒ by (tCK t r.addr) period)
    ∷ []

-- 19 to 22 on clock n. `word` is the mode loaded, `finished` says that no auto precharge burst is unfinished on this clock, `clear`
-- that the data bus is clear for a WRITE, and `status` is that of the record's bank
unfoldable pub bus_rules : Command → SpeedTable → Ps → ℕ → Bool → Bool → Status → Record → Clock → List Rule
bus_rules k t period word finished clear status r n =
    rule UnfinishedBurst (access k || is k Terminate ⇒ finished)
    ∷ rule BusNotClear (is k Write ⇒ clear)
    ∷ rule EndlessBurst (asks_auto k r ⇒ ends_by_itself k word)
    ∷ rule LateClosing (asks_auto k r ⇒ closes_within t period (burst_end k t period word n) status)
    ∷ []

-- what the rows read of the earlier records. `ask` takes it from the state; the crate `lookback` finds it by looking back
pub record Found : Type 0 where
  pub startup : StartUp
  pub banks : List Bank
  -- 19 and 20: no auto precharge burst is unfinished, and the data bus is clear for a WRITE
  pub finished : Bool
  pub clear : Bool

-- 14 to 22
unfoldable pub command_rules : Command → SpeedTable → Module → Ps → Found → Record → Clock → Ps → List Rule
command_rules k t m period f r n moment =
    place_rules k f.startup f.banks r moment
    ++ (minimum_rules t period moment (minima k period f.startup r f.banks)
    ++ (mode_rules k t m period r
    ++ bus_rules k t period (word_in f.startup.register) f.finished f.clear (bank_at f.banks r.ba).status r n))

-- "12 and 13 are tried on every record, NOP and COMMAND INHIBIT included, 14 to 22 only on executable commands"
unfoldable pub rules : SpeedTable → Module → Ps → Found → Record → Clock → Ps → List Rule
rules t m period f r n moment =
    every_rules t period f.startup.refreshes f.banks r n moment
    ++ asked (executable (command r)) (command_rules (command r) t m period f r n moment)

-- what the state's core and banks give the rows of a record on clock n
abbrev pub found : Core → List Bank → Clock → Found
found c bs n =
    record {
      startup = c.startup;
      banks = bs;
      finished = bursts_finished c.bus.write c.bus.reads n;
      clear = bus_clear c.last c.bus.masks c.bus.reads n;
    }

-- may this record stand here?
unfoldable pub ask : Setup → State → Record → Verdict
ask u s r =
    let n = clock_of s.core r in
    first_broken (rules u.table (state_module s) s.core.period (found s.core s.banks n) r n (now s.core r))
