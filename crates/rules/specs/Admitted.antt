-- An admitted state: what a state that number 25 passes holds, as facts. Clocks, times and the record number apart from places: the
-- arithmetic of the rules relies on the first alone, and only the second looks at the module. Definitions only.
use Rattle.units.specs.declared.Clock.{Clock}
use Rattle.std.specs.Prelude.{◌≤◌, ◌<◌, ◌≡◌, true, List, [], ◌∷◌, Option, None, Some}
use Rattle.units.specs.declared.Module.{Module}
use Rattle.units.specs.Module.{banks, rows, columns}
use Rattle.mode.specs.Word.{legal}
use Rattle.bursts.specs.declared.Burst.{Burst}
use Rattle.bursts.specs.declared.Bus.{Bus}
use Rattle.rules.specs.declared.Register.{Register}
use Rattle.rules.specs.declared.StartUp.{StartUp}
use Rattle.rules.specs.declared.Status.{Status}
use Rattle.rules.specs.declared.Status.TheVariants.{NotStarted, Open, Closed}
use Rattle.rules.specs.declared.Bank.{Bank}
use Rattle.rules.specs.declared.Core.{Core}
use Rattle.rules.specs.declared.State.{State}
use Rattle.rules.specs.Parts.{state_module}
use Rattle.rules.specs.StartUp.{last_refresh}
use Rattle.rules.specs.Rules.{clock_max}
use Rattle.rules.specs.Fits.{number_max, closing_max}

-- it holds of each one of a list
abbrev pub Each : {A : Type 0} → (A → Type 0) → List A → Type 0
Each P [] = Unit {0}
Each P (x ∷ xs) = P x × Each P xs

-- it holds of the WRITE burst and of each READ burst of a bus
pub record EachBurst (P : Burst → Type 0) (u : Bus) : Type 0 where
  pub write : P u.write
  pub reads : Each P u.reads

-- ── "a clock above 2^40, a record number above 2^41, a time above 2^58 ps" ──

abbrev pub FitEvent : Option Clock → Type 0
FitEvent None = Unit {0}
FitEvent (Some x) = x.0 ≤ clock_max

abbrev pub FitStatus : Status → Type 0
FitStatus NotStarted = Unit {0}
FitStatus (Open row n) = n.0 ≤ clock_max
FitStatus (Closed t) = t.0 ≤ closing_max

pub record FitBank (b : Bank) : Type 0 where
  pub status : FitStatus b.status
  pub active : FitEvent b.active
  pub stored : FitEvent b.stored

pub record FitBurst (b : Burst) : Type 0 where
  pub start : b.start.0 ≤ clock_max
  pub cut : FitEvent b.cut

abbrev pub FitRegister : Option Register → Type 0
FitRegister None = Unit {0}
FitRegister (Some l) = l.clock.0 ≤ clock_max

pub record FitStartUp (u : StartUp) : Type 0 where
  pub allclosed : FitEvent u.allclosed
  pub refreshed : FitEvent (last_refresh u.refreshes)
  pub register : FitRegister u.register

pub record FitCore (c : Core) : Type 0 where
  pub number : c.number ≤ number_max
  pub last : FitEvent c.last
  pub startup : FitStartUp c.startup
  pub bus : EachBurst FitBurst c.bus

-- ── "a reserved mode word, or a bank, row or column off the module" ──

abbrev pub StatusOn : Module → Status → Type 0
StatusOn m NotStarted = Unit {0}
StatusOn m (Open row n) = row < rows m
StatusOn m (Closed t) = Unit {0}

abbrev pub BankOn : Module → Bank → Type 0
BankOn m b = StatusOn m b.status

pub record BurstOn (m : Module) (b : Burst) : Type 0 where
  pub bank : b.bank < banks
  pub row : b.row < rows m
  pub column : b.column < columns m
  pub word : legal m b.word ≡ true

abbrev pub RegisterOn : Module → Option Register → Type 0
RegisterOn m None = Unit {0}
RegisterOn m (Some l) = legal m l.word ≡ true

pub record CoreOn (m : Module) (c : Core) : Type 0 where
  pub bank : c.bank < banks
  pub row : c.row < rows m
  pub register : RegisterOn m c.startup.register
  pub bus : EachBurst (BurstOn m) c.bus

pub record StateOn (m : Module) (s : State) : Type 0 where
  pub core : CoreOn m s.core
  pub banks : Each (BankOn m) s.banks

-- ── Both ──

pub record Admitted (s : State) : Type 0 where
  pub core : FitCore s.core
  pub banks : Each FitBank s.banks
  pub places : StateOn (state_module s) s
