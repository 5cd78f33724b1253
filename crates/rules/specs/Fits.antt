-- What a state may hold: number 25 (01, Verdicts). Definitions only.
use Rattle.std.specs.Prelude.{ℕ, ◌^◌, Bool, true, ◌&&◌, List, [], ◌∷◌, leb, ltb, Option, None, Some}
use Rattle.units.specs.declared.Clock.{Clock}
use Rattle.units.specs.declared.Module.{Module}
use Rattle.units.specs.Module.{banks, rows, columns}
use Rattle.mode.specs.Word.{legal}
use Rattle.bursts.specs.declared.Burst.{Burst}
use Rattle.bursts.specs.declared.Bus.{Bus}
use Rattle.rules.specs.declared.Register.{Register}
use Rattle.rules.specs.declared.StartUp.{StartUp}
use Rattle.rules.specs.declared.Status.{Status}
use Rattle.rules.specs.declared.Status.TheVariants.{NotStarted, Open, Closed}
use Rattle.rules.specs.declared.Bank.{Bank}
use Rattle.rules.specs.declared.Core.{Core}
use Rattle.rules.specs.declared.State.{State}
use Rattle.rules.specs.Parts.{state_module}
use Rattle.rules.specs.StartUp.{last_refresh}
use Rattle.rules.specs.Rules.{clock_max}
use Rattle.rules.specs.Banks.{every}

-- "a record number above 2^41"
abbrev pub number_max : ℕ
number_max = 2 ^ 41

-- "a time above 2^58 ps"
abbrev pub closing_max : ℕ
closing_max = 2 ^ 58

-- "a clock above 2^40"
abbrev pub clock_fits : Clock → Bool
clock_fits n = leb n.0 clock_max

abbrev pub event_fits : Option Clock → Bool
event_fits None = true
event_fits (Some x) = clock_fits x

abbrev pub status_fits : Module → Status → Bool
status_fits m NotStarted = true
status_fits m (Open row n) = ltb row (rows m) && clock_fits n
status_fits m (Closed t) = leb t.0 closing_max

unfoldable pub bank_fits : Module → Bank → Bool
bank_fits m b = status_fits m b.status && event_fits b.active && event_fits b.stored

-- "a reserved mode word, or a bank, row or column off the module"
unfoldable pub burst_fits : Module → Burst → Bool
burst_fits m b =
    ltb b.bank banks
    && ltb b.row (rows m)
    && ltb b.column (columns m)
    && clock_fits b.start
    && event_fits b.cut
    && legal m b.word

abbrev pub bursts_fit : Module → List Burst → Bool
bursts_fit m [] = true
bursts_fit m (b ∷ bs) = burst_fits m b && bursts_fit m bs

abbrev pub bus_fits : Module → Bus → Bool
bus_fits m u = burst_fits m u.write && bursts_fit m u.reads

abbrev pub register_fits : Module → Option Register → Bool
register_fits m None = true
register_fits m (Some l) = legal m l.word && clock_fits l.clock

abbrev pub startup_fits : Module → StartUp → Bool
startup_fits m u = event_fits u.allclosed && event_fits (last_refresh u.refreshes) && register_fits m u.register

unfoldable pub core_fits : Module → Core → Bool
core_fits m c =
    ltb c.bank banks
    && ltb c.row (rows m)
    && leb c.number number_max
    && event_fits c.last
    && startup_fits m c.startup
    && bus_fits m c.bus

-- 25 is given exactly where this is false
unfoldable pub fits : State → Bool
fits s = core_fits (state_module s) s.core && every (bank_fits (state_module s)) s.banks
