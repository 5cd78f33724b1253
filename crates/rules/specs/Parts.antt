-- The state's parts as the rules name them, the clock of a record, and the state before the first record. Definitions only.
use Rattle.std.specs.Prelude.{ℕ, suc, ◌+◌, [], ◌∷◌, Option, None, Some}
use Rattle.units.specs.declared.Clock.{Clock}
use Rattle.units.specs.declared.Ps.{Ps}
use Rattle.units.specs.declared.Module.{Module}
use Rattle.units.specs.Module.{module_of}
use Rattle.units.specs.Time.{clock, at}
use Rattle.layout.specs.declared.Record.{Record}
use Rattle.bursts.specs.Bus.{quiet_bus}
use Rattle.rules.specs.declared.Refreshes.{Refreshes}
use Rattle.rules.specs.declared.Refreshes.TheVariants.{Zero}
use Rattle.rules.specs.declared.Register.{Register}
use Rattle.rules.specs.declared.StartUp.{StartUp}
use Rattle.rules.specs.declared.Status.{Status}
use Rattle.rules.specs.declared.Status.TheVariants.{NotStarted}
use Rattle.rules.specs.declared.Bank.{Bank}
use Rattle.rules.specs.declared.Core.{Core}
use Rattle.rules.specs.declared.State.{State}

-- the first clock after the last record's
abbrev pub next_clock : Option Clock → ℕ
next_clock None = 0
next_clock (Some x) = suc x.0

-- "The first record stands on the clock equal to its skipped count; each later one on the previous clock plus its skipped count plus 1"
abbrev pub clock_of : Core → Record → Clock
clock_of c r = clock (next_clock c.last + r.skipped)

-- the time of a clock, and of a record
abbrev pub ps : Core → Clock → Ps
ps c n = at c.period n

abbrev pub now : Core → Record → Ps
now c r = ps c (clock_of c r)

-- "The grade in header or state fixes the geometry" (02, K9)
abbrev pub core_module : Core → Module
core_module c = module_of c.grade

abbrev pub state_module : State → Module
state_module s = core_module s.core

-- the register after a LOAD MODE of this word on clock n
abbrev pub loaded : ℕ → Clock → Option Register
loaded word n = Some (record { word = word; clock = n })

-- the mode word in the register; before the first LOAD MODE no record that reads it is taken
abbrev pub word_in : Option Register → ℕ
word_in None = 0x30
word_in (Some l) = l.word

abbrev pub word : Core → ℕ
word c = word_in c.startup.register

-- the steps of start-up: the last PRECHARGE ALL, the refreshes, the mode register
abbrev pub startup_of : Option Clock → Refreshes → Option Register → StartUp
startup_of allclosed refreshes register = record { allclosed = allclosed; refreshes = refreshes; register = register }

-- a bank: what it is, its last ACTIVE, and the last store after that
abbrev pub bank_of : Status → Option Clock → Option Clock → Bank
bank_of status active stored = record { status = status; active = active; stored = stored }

-- a bank before the first PRECHARGE ALL, and what stands past the four
abbrev pub no_bank : Bank
no_bank = bank_of NotStarted None None

-- before the first record: period, grade, watched bank and row
abbrev pub start_core : Ps → ℕ → ℕ → ℕ → Core
start_core period grade bank row =
    record {
      period = period;
      grade = grade;
      bank = bank;
      row = row;
      number = 0;
      last = None;
      startup = startup_of None Zero None;
      bus = quiet_bus;
    }

abbrev pub start : Ps → ℕ → ℕ → ℕ → State
start period grade bank row =
    record { core = start_core period grade bank row; banks = no_bank ∷ no_bank ∷ no_bank ∷ no_bank ∷ [] }
