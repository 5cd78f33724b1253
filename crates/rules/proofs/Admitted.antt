-- Number 25 passes a state exactly where it is admitted. Assumes nothing.
use Rattle.units.specs.declared.Clock.{Clock}
use Rattle.std.specs.Prelude.{Option, None, Some}
use Prim.Native.Nat.{ℕ, zero, suc}
use mathlib.Core.Path.{◌≡◌, refl, ap, ◌∙◌}
use mathlib.Core.Bool.{true, ◌&&◌, and-true}
use lib.Dec.{ltb}
use lib.ListN.{length}
use mathlib.Core.List.{List, [], ◌∷◌}
use borrow.Author.Tests.{leb-true, ltb-true, le-leb, lt-ltb}
use Rattle.units.specs.declared.Module.{Module}
use Rattle.units.specs.Module.{rows}
use Rattle.units.proofs.Both.{both, joined}
use Rattle.mode.specs.Word.{legal}
use Rattle.bursts.specs.declared.Burst.{Burst}
use Rattle.bursts.specs.declared.Bus.{Bus}
use Rattle.bursts.proofs.Four.{burst, four}
use Rattle.rules.specs.declared.Refreshes.{Refreshes}
use Rattle.rules.specs.declared.Refreshes.TheVariants.{Zero, One, Two}
use Rattle.rules.specs.declared.Register.{Register}
use Rattle.rules.specs.declared.StartUp.{StartUp}
use Rattle.rules.specs.declared.Status.{Status}
use Rattle.rules.specs.declared.Status.TheVariants.{NotStarted, Open, Closed}
use Rattle.rules.specs.declared.Bank.{Bank}
use Rattle.rules.specs.declared.Core.{Core}
use Rattle.rules.specs.declared.State.{State}
use Rattle.rules.specs.Parts.{no_bank, state_module}
use Rattle.rules.specs.StartUp.{last_refresh, counted_refresh, last_load}
use Rattle.rules.specs.Banks.{bank_at, every}
use Rattle.rules.specs.Fits.{
  event_fits,
  status_fits,
  bank_fits,
  burst_fits,
  bursts_fit,
  bus_fits,
  register_fits,
  startup_fits,
  core_fits,
  fits,
}
use Rattle.rules.specs.Admitted.{
  Each,
  EachBurst,
  FitEvent,
  FitStatus,
  FitBank,
  FitBurst,
  FitRegister,
  FitStartUp,
  FitCore,
  StatusOn,
  BankOn,
  BurstOn,
  RegisterOn,
  CoreOn,
  Admitted,
}

-- ── From the test to the facts ──

event_fit : (e : Option Clock) → event_fits e ≡ true → FitEvent e
event_fit None h = tt
event_fit (Some x) h = leb-true _ _ h

module _ (m : Module) where
  status_both : (x : Status) → status_fits m x ≡ true → FitStatus x × StatusOn m x
  status_both NotStarted h = (tt, tt)
  status_both (Open row n) h = let p = both (ltb row (rows m)) _ h in (leb-true _ _ p.1, ltb-true _ _ p.0)
  status_both (Closed t) h = (leb-true _ _ h, tt)

  bank_both : (b : Bank) → bank_fits m b ≡ true → FitBank b × BankOn m b
  unfolding bank_fits
  bank_both b h =
      let p = both _ _ h in
      let q = both _ _ p.0 in
      let x = status_both b.status q.0 in
      (record { status = x.0; active = event_fit b.active q.1; stored = event_fit b.stored p.1 }, x.1)

  burst_both : (b : Burst) → burst_fits m b ≡ true → FitBurst b × BurstOn m b
  unfolding burst_fits
  burst_both b h =
      let word = both _ _ h in
      let cut = both _ _ word.0 in
      let start = both _ _ cut.0 in
      let column = both _ _ start.0 in
      let row = both _ _ column.0 in (
        record { start = leb-true _ _ start.1; cut = event_fit b.cut cut.1 },
        record { bank = ltb-true _ _ row.0; row = ltb-true _ _ row.1; column = ltb-true _ _ column.1; word = word.1 },
      )

  -- what the test shows of one it shows of each
  each_bank_by : (P : Bank → Type 0) → ((b : Bank) → bank_fits m b ≡ true → P b) → (bs : List Bank) → every (bank_fits m) bs ≡ true → Each P bs
  each_bank_by P one [] h = tt
  each_bank_by P one (b ∷ bs) h = let p = both _ _ h in (one b p.0, each_bank_by P one bs p.1)

  each_burst_by : (P : Burst → Type 0) → ((b : Burst) → burst_fits m b ≡ true → P b) → (bs : List Burst) → bursts_fit m bs ≡ true → Each P bs
  each_burst_by P one [] h = tt
  each_burst_by P one (b ∷ bs) h = let p = both _ _ h in (one b p.0, each_burst_by P one bs p.1)

  bus_by : (P : Burst → Type 0) → ((b : Burst) → burst_fits m b ≡ true → P b) → (u : Bus) → bus_fits m u ≡ true → EachBurst P u
  bus_by P one u h = let p = both _ _ h in record { write = one u.write p.0; reads = each_burst_by P one u.reads p.1 }

  register_both : (x : Option Register) → register_fits m x ≡ true → FitRegister x × RegisterOn m x
  register_both None h = (tt, tt)
  register_both (Some l) h = let p = both (legal m l.word) _ h in (leb-true _ _ p.1, p.0)

  startup_both : (u : StartUp) → startup_fits m u ≡ true → FitStartUp u × RegisterOn m u.register
  startup_both u h =
      let p = both _ _ h in
      let q = both _ _ p.0 in
      let x = register_both u.register p.1 in
      (record { allclosed = event_fit u.allclosed q.0; refreshed = event_fit (last_refresh u.refreshes) q.1; register = x.0 }, x.1)

  core_both : (c : Core) → core_fits m c ≡ true → FitCore c × CoreOn m c
  unfolding core_fits
  core_both c h =
      let bus = both _ _ h in
      let startup = both _ _ bus.0 in
      let last = both _ _ startup.0 in
      let number = both _ _ last.0 in
      let row = both _ _ number.0 in
      let x = startup_both c.startup startup.1 in (
        record {
          number = leb-true _ _ number.1;
          last = event_fit c.last last.1;
          startup = x.0;
          bus = bus_by FitBurst (λ b k. (burst_both b k).0) c.bus bus.1;
        },
        record {
          bank = ltb-true _ _ row.0;
          row = ltb-true _ _ row.1;
          register = x.1;
          bus = bus_by (BurstOn m) (λ b k. (burst_both b k).1) c.bus bus.1;
        },
      )

pub admitted : (s : State) → fits s ≡ true → Admitted s
unfolding fits
admitted s h =
    let m = state_module s in
    let p = both _ _ h in
    let core = core_both m s.core p.0 in
    record {
      core = core.0;
      banks = each_bank_by m FitBank (λ b k. (bank_both m b k).0) s.banks p.1;
      places = record { core = core.1; banks = each_bank_by m (BankOn m) (λ b k. (bank_both m b k).1) s.banks p.1 };
    }

-- ── From the facts to the test ──

fit_event : (e : Option Clock) → FitEvent e → event_fits e ≡ true
fit_event None f = refl
fit_event (Some x) f = le-leb _ _ f

module _ (m : Module) where
  fit_status : (x : Status) → FitStatus x → StatusOn m x → status_fits m x ≡ true
  fit_status NotStarted f o = refl
  fit_status (Open row n) f o = joined (lt-ltb _ _ o) (le-leb _ _ f)
  fit_status (Closed t) f o = le-leb _ _ f

  fit_bank : (b : Bank) → FitBank b → BankOn m b → bank_fits m b ≡ true
  unfolding bank_fits
  fit_bank b f o =
      joined (joined (fit_status b.status f.status o) (fit_event b.active f.active)) (fit_event b.stored f.stored)

  fit_banks : (bs : List Bank) → Each FitBank bs → Each (BankOn m) bs → every (bank_fits m) bs ≡ true
  fit_banks [] f o = refl
  fit_banks (b ∷ bs) f o = joined (fit_bank b f.0 o.0) (fit_banks bs f.1 o.1)

  fit_burst : (b : Burst) → FitBurst b → BurstOn m b → burst_fits m b ≡ true
  unfolding burst_fits
  fit_burst b f o =
      joined
      (joined
      (joined (joined (joined (lt-ltb _ _ o.bank) (lt-ltb _ _ o.row)) (lt-ltb _ _ o.column)) (le-leb _ _ f.start))
      (fit_event b.cut f.cut))
      o.word

  fit_bursts : (bs : List Burst) → Each FitBurst bs → Each (BurstOn m) bs → bursts_fit m bs ≡ true
  fit_bursts [] f o = refl
  fit_bursts (b ∷ bs) f o = joined (fit_burst b f.0 o.0) (fit_bursts bs f.1 o.1)

  fit_register : (x : Option Register) → FitRegister x → RegisterOn m x → register_fits m x ≡ true
  fit_register None f o = refl
  fit_register (Some l) f o = joined o (le-leb _ _ f)

  fit_startup : (u : StartUp) → FitStartUp u → RegisterOn m u.register → startup_fits m u ≡ true
  fit_startup u f o =
      joined (joined (fit_event u.allclosed f.allclosed) (fit_event (last_refresh u.refreshes) f.refreshed))
      (fit_register u.register f.register o)

  fit_core : (c : Core) → FitCore c → CoreOn m c → core_fits m c ≡ true
  unfolding core_fits
  fit_core c f o =
      joined
      (joined
      (joined (joined (joined (lt-ltb _ _ o.bank) (lt-ltb _ _ o.row)) (le-leb _ _ f.number)) (fit_event c.last f.last))
      (fit_startup c.startup f.startup o.register))
      (joined (fit_burst c.bus.write f.bus.write o.bus.write) (fit_bursts c.bus.reads f.bus.reads o.bus.reads))

pub fits_admitted : (s : State) → Admitted s → fits s ≡ true
unfolding fits
fits_admitted s f =
    let m = state_module s in
    joined (fit_core m s.core f.core f.places.core) (fit_banks m s.banks f.banks f.places.banks)

-- ── Parts of an admitted state ──

-- what holds of each bank, and of one past them, holds of the bank with any number
bank_among : (P : Bank → Type 0) → P no_bank → (bs : List Bank) (i : ℕ) → Each P bs → P (bank_at bs i)
bank_among P none [] i h = none
bank_among P none (b ∷ bs) zero h = h.0
bank_among P none (b ∷ bs) (suc i) h = bank_among P none bs i h.1

pub bank_fits_at : (bs : List Bank) (i : ℕ) → Each FitBank bs → FitBank (bank_at bs i)
bank_fits_at = bank_among FitBank (record { status = tt; active = tt; stored = tt })

pub bank_on_at : (m : Module) (bs : List Bank) (i : ℕ) → Each (BankOn m) bs → BankOn m (bank_at bs i)
bank_on_at m = bank_among (BankOn m) tt

pub load_fits : (x : Option Register) → FitRegister x → FitEvent (last_load x)
load_fits None h = tt
load_fits (Some l) h = h

pub counted_fits : (f : Refreshes) → FitEvent (last_refresh f) → FitEvent (counted_refresh f)
counted_fits Zero h = tt
counted_fits (One n) h = tt
counted_fits (Two n) h = h

-- a test of each of four bursts
pub bursts_four : (m : Module) (l : List Burst) → length l ≡ 4
    → bursts_fit m l ≡ (burst_fits m (burst l 0) && (burst_fits m (burst l 1) && (burst_fits m (burst l 2) && burst_fits m (burst l 3))))
bursts_four m l h = ap (bursts_fit m) (four l h) ∙ simp and-true
