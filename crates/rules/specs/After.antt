-- What a taken record leaves: the next state (01, Commands, Auto precharge, Beats). Definitions only.
use Rattle.std.specs.Prelude.{ℕ, suc, ◌+◌, Bool, ◌&&◌, cond, List, [], ◌∷◌, eqb, None, Some}
use Rattle.units.specs.declared.Clock.{Clock}
use Rattle.units.specs.declared.Ps.{Ps}
use Rattle.speed.specs.declared.SpeedTable.{SpeedTable}
use Rattle.layout.specs.declared.Record.{Record}
use Rattle.layout.specs.declared.Command.{Command}
use Rattle.layout.specs.declared.Command.TheVariants.{Active, Precharge, Refresh, LoadMode}
use Rattle.layout.specs.Commands.{command, is, covers, precharge_all}
use Rattle.bursts.specs.declared.Bus.{Bus}
use Rattle.bursts.specs.declared.Beat.{Beat}
use Rattle.bursts.specs.Bus.{write_after, reads_after, bus_after, beat_on, stores_in}
use Rattle.rules.specs.declared.Refreshes.{Refreshes}
use Rattle.rules.specs.declared.Refreshes.TheVariants.{Zero, One, Two}
use Rattle.rules.specs.declared.StartUp.{StartUp}
use Rattle.rules.specs.declared.Status.{Status}
use Rattle.rules.specs.declared.Status.TheVariants.{NotStarted, Open, Closed}
use Rattle.rules.specs.declared.Bank.{Bank}
use Rattle.rules.specs.declared.Core.{Core}
use Rattle.rules.specs.declared.State.{State}
use Rattle.rules.specs.declared.Setup.{Setup}
use Rattle.rules.specs.Parts.{clock_of, now, word, loaded}
use Rattle.rules.specs.StartUp.{begun}
use Rattle.rules.specs.Banks.{bank_at, row_of}
use Rattle.rules.specs.Closing.{burst_end, closing_time}
use Rattle.rules.specs.Rules.{asks_auto}

-- ── Start-up ──

-- one refresh more, on clock n
abbrev pub one_more : Clock → Refreshes → Refreshes
one_more n Zero = One n
one_more n (One x) = Two n
one_more n (Two x) = Two n

unfoldable pub startup_after : Command → Record → Clock → StartUp → StartUp
startup_after k r n u =
    record {
      allclosed = cond (precharge_all k r) (Some n) u.allclosed;
      refreshes = cond (is k Refresh) (one_more n u.refreshes) u.refreshes;
      register = cond (is k LoadMode) (loaded r.addr n) u.register;
    }

-- ── All but the banks; `row` is the open row of the record's bank ──

-- the beat on the record's own clock
unfoldable pub beat : Core → Record → ℕ → Beat
beat c r row =
    beat_on c.last c.bus.masks (write_after (command r) r (clock_of c r) (word c) row c.bus.write)
    (reads_after (command r) r (clock_of c r) (word c) row c.bus.reads) r.masks (clock_of c r)

-- the core after command k on clock n, with this bus
unfoldable pub core_from : Core → Command → Record → Clock → Bus → Core
core_from c k r n bus =
    record {
      period = c.period;
      grade = c.grade;
      bank = c.bank;
      row = c.row;
      number = c.number + 1;
      last = Some n;
      startup = startup_after k r n c.startup;
      bus = bus;
    }

unfoldable pub core_after : Core → Record → ℕ → Core
core_after c r row =
    core_from c (command r) r (clock_of c r) (bus_after (command r) r (clock_of c r) (word c) row c.bus)

-- ── The banks ──

-- a bank's record with another status
abbrev pub with_status : Status → Bank → Bank
with_status x b = record { status = x; active = b.active; stored = b.stored }

-- a PRECHARGE at time now: "it closes now. A closed bank keeps that closing time"; the first PRECHARGE ALL closes whatever it finds
abbrev pub precharged : Bool → Ps → Status → Status
precharged again now NotStarted = Closed now
precharged again now (Open row n) = Closed now
precharged again now (Closed t) = Closed (cond again t now)

-- "Auto precharge counts the bank closed at once"
abbrev pub auto_closed : SpeedTable → Ps → Ps → Status → Status
auto_closed t period end NotStarted = NotStarted
auto_closed t period end (Open row n) = Closed (closing_time t period n end)
auto_closed t period end (Closed x) = Closed x

-- an ACTIVE of this row on clock n
abbrev pub activated : ℕ → Clock → Bank
activated row n = record { status = Open row n; active = Some n; stored = None }

-- bank i after command k on clock n, at time moment; its burst would end at `end`, and a PRECHARGE ALL has been where `again`
unfoldable pub bank_after : Command → SpeedTable → Ps → Ps → Bool → Record → Clock → Ps → ℕ → Bank → Bank
bank_after k t period end again r n moment i b =
    cond (is k Active && eqb i r.ba) (activated r.addr n)
    (cond (asks_auto k r && eqb i r.ba) (with_status (auto_closed t period end b.status) b)
    (cond (is k Precharge && covers r.addr r.ba i) (with_status (precharged again moment b.status) b) b))

-- a byte was stored in it on clock n, where x is true
abbrev pub marked : Bool → Clock → Bank → Bank
marked x n b = record { status = b.status; active = b.active; stored = cond x (Some n) b.stored }

-- f at each bank and its number, from i
abbrev pub each_bank : (ℕ → Bank → Bank) → ℕ → List Bank → List Bank
each_bank f i [] = []
each_bank f i (b ∷ bs) = f i b ∷ each_bank f (suc i) bs

-- the banks after the command, and after the beat on its clock
unfoldable pub commanded : Command → SpeedTable → Ps → Ps → Bool → Record → Clock → Ps → List Bank → List Bank
commanded k t period end again r n moment bs = each_bank (bank_after k t period end again r n moment) 0 bs

unfoldable pub mark_banks : Beat → Clock → List Bank → List Bank
mark_banks w n bs = each_bank (λ i b. marked (stores_in w i) n b) 0 bs

unfoldable pub banks_after : SpeedTable → Core → Record → Beat → List Bank → List Bank
banks_after t c r w bs =
    let n = clock_of c r in
    let end = burst_end (command r) t c.period (word c) n in
    mark_banks w n (commanded (command r) t c.period end (begun c.startup) r n (now c r) bs)

-- ── The state ──

-- the open row of the record's bank
abbrev pub own_row : State → Record → ℕ
own_row s r = row_of (bank_at s.banks r.ba).status

-- the beat that a taken record reports
abbrev pub own_beat : State → Record → Beat
own_beat s r = beat s.core r (own_row s r)

unfoldable pub next : Setup → State → Record → State
next u s r =
    record {
      core = core_after s.core r (own_row s r);
      banks = banks_after u.table s.core r (own_beat s r) s.banks;
    }
