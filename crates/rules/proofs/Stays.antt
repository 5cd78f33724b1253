-- A state that a taken record leaves is admitted again, and clocks only grow. Assumes nothing.
use Rattle.std.specs.Prelude.{Some, Option, None, Ok}
use Prim.Native.Nat.{ℕ, zero, suc, ◌+◌, ◌*◌, ◌%◌, ◌^◌, ◌≤◌, ◌<◌}
use native.Mathlib.Nat.{le_refl, le_trans, mul-le-mul}
use native.Mathlib.Omega.{arith}
use mathlib.Core.Path.{◌≡◌, refl}
use mathlib.Core.Bool.{Bool, true, false, ◌&&◌, cond}
use mathlib.Core.List.{List, [], ◌∷◌}
use lib.Dec.{ltb, eqb}
use lib.ListN.{get_or}
use Rattle.units.specs.declared.Clock.{Clock}
use Rattle.units.specs.declared.Ps.{Ps}
use Rattle.units.specs.declared.Module.{Module}
use Rattle.units.specs.Module.{bench_columns, rows, module_of}
use Rattle.units.proofs.Both.{both}
use Rattle.units.proofs.Sizes.{some_row, some_column}
use Rattle.layout.specs.declared.Record.{Record}
use Rattle.layout.specs.declared.Command.{Command}
use Rattle.layout.specs.declared.Command.TheVariants.{
  Active,
  Read,
  Write,
  Precharge,
  Refresh,
  LoadMode,
}
use Rattle.layout.specs.Commands.{command, is, covers, precharge_all}
use Rattle.layout.specs.Widths.{Widths, OnModule}
use Rattle.mode.specs.Word.{legal, single, length_of, write_length}
use Rattle.bursts.specs.declared.Burst.{Burst}
use Rattle.bursts.specs.declared.Bus.{Bus}
use Rattle.bursts.specs.Burst.{no_burst, burst_at, before_cut, cut_on, cut_if, ends}
use Rattle.bursts.specs.Bus.{no_reads, cut_each, written_over, gives_way_first, with_room, reads_from, bus_after, stores_in}
use Rattle.rules.specs.declared.Refreshes.{Refreshes}
use Rattle.rules.specs.declared.Refreshes.TheVariants.{Zero, One, Two}
use Rattle.rules.specs.declared.Register.{Register}
use Rattle.rules.specs.declared.Status.{Status}
use Rattle.rules.specs.declared.Status.TheVariants.{NotStarted, Open, Closed}
use Rattle.rules.specs.declared.Bank.{Bank}
use Rattle.rules.specs.declared.Core.{Core}
use Rattle.rules.specs.declared.State.{State}
use Rattle.rules.specs.declared.Setup.{Setup}
use Rattle.rules.specs.Numbers.{◌⇒◌}
use Rattle.rules.specs.Parts.{clock_of, now, word_in, word, start, no_bank, state_module, core_module, loaded}
use Rattle.rules.specs.StartUp.{begun, last_refresh}
use Rattle.rules.specs.Banks.{bank_at, row_of}
use Rattle.rules.specs.Closing.{burst_end}
use Rattle.rules.specs.Rules.{clock_max, asks_auto, ask}
use Rattle.rules.specs.After.{one_more, startup_after, core_from, core_after, precharged, auto_closed, bank_after, marked, each_bank, commanded, mark_banks, banks_after, own_row, own_beat, next}
use Rattle.rules.specs.Fits.{number_max}
use Rattle.rules.specs.Admitted.{
  Each,
  EachBurst,
  FitEvent,
  FitStatus,
  FitBank,
  FitBurst,
  FitRegister,
  FitStartUp,
  FitCore,
  StatusOn,
  BankOn,
  BurstOn,
  RegisterOn,
  CoreOn,
  Admitted,
}
use Rattle.rules.proofs.Rows.{zeros_kept, clock_kept, mode_kept}
use Rattle.rules.proofs.Admitted.{bank_on_at}

-- ── Small facts ──

cond_keeps : {A : Type 0} (P : A → Type 0) (x : Bool) (a b : A) → P a → P b → P (cond x a b)
cond_keeps P true a b p q = p
cond_keeps P false a b p q = q

row_on : (m : Module) (x : Status) → StatusOn m x → row_of x < rows m
row_on m NotStarted h = some_row m
row_on m (Open row n) h = h
row_on m (Closed t) h = some_row m

word_on : (m : Module) (x : Option Register) → RegisterOn m x → legal m (word_in x) ≡ true
word_on m None h = refl
word_on m (Some l) h = h

refreshes_fit : (x : Bool) (n : Clock) (f : Refreshes) → n.0 ≤ clock_max → FitEvent (last_refresh f)
    → FitEvent (last_refresh (cond x (one_more n f) f))
refreshes_fit true n Zero h g = h
refreshes_fit true n (One y) h g = h
refreshes_fit true n (Two y) h g = h
refreshes_fit false n f h g = g

register_on_after : (m : Module) (x : Bool) (w : ℕ) (z : Bool) (n : Clock) (f : Option Register) → (x ⇒ legal m w && z) ≡ true → RegisterOn m f
    → RegisterOn m (cond x (loaded w n) f)
register_on_after m true w z n f g k = (both (legal m w) z g).0
register_on_after m false w z n f g k = k

pub length_le : (w : ℕ) → length_of w ≤ bench_columns
unfolding length_of
length_le w = go (w % 8)
  where
    go : (k : ℕ) → get_or (1 ∷ 2 ∷ 4 ∷ 8 ∷ []) k bench_columns ≤ bench_columns
    go zero = omega arith
    go (suc zero) = omega arith
    go (suc (suc zero)) = omega arith
    go (suc (suc (suc zero))) = omega arith
    go (suc (suc (suc (suc k)))) = le_refl bench_columns

pub write_length_le : (w : ℕ) → write_length w ≤ bench_columns
write_length_le w = go (single w)
  where
    go : (x : Bool) → cond x 1 (length_of w) ≤ bench_columns
    go true = omega arith
    go false = length_le w

-- ── Bursts and banks ──

cut_fits : (n : Clock) → n.0 ≤ clock_max → (x : Bool) (b : Burst) → FitBurst b → FitBurst (cut_if x n b)
cut_fits n h x b f =
    record {
      start = f.start;
      cut = cond_keeps FitEvent (x && b.live) (cut_on b.start n b.cut) b.cut (cond_keeps FitEvent (ltb b.start.0 n.0 && before_cut b.start n b.cut) (Some n) b.cut h f.cut) f.cut;
    }

cut_stays_on : (m : Module) (n : Clock) (x : Bool) (b : Burst) → BurstOn m b → BurstOn m (cut_if x n b)
cut_stays_on m n x b f = record { bank = f.bank; row = f.row; column = f.column; word = f.word }

no_burst_fits : FitBurst no_burst
no_burst_fits = record { start = omega arith; cut = tt }

no_burst_on : (m : Module) → BurstOn m no_burst
no_burst_on m = record { bank = omega arith; row = some_row m; column = some_column m; word = refl }

no_reads_keep : (P : Burst → Type 0) → P no_burst → Each P no_reads
no_reads_keep P none = (none, (none, (none, (none, tt))))

-- what holds of no burst and of a cut one holds of each burst that a record on clock n leaves
module _ (P : Burst → Type 0) (n : Clock) (none : P no_burst) (cut : (x : Bool) (b : Burst) → P b → P (cut_if x n b)) where
  written_keeps : (bs : List Burst) → Each P bs → Each P (written_over n bs)
  written_keeps [] f = tt
  written_keeps (b ∷ bs) f = (cond_keeps P (ltb b.start.0 n.0) no_burst b none f.0, written_keeps bs f.1)

  room_keeps : (bs : List Burst) → Each P bs → Each P (with_room n bs)
  room_keeps [] f = tt
  room_keeps (b ∷ bs) f =
      cond_keeps (Each P) (gives_way_first n b bs) bs (b ∷ with_room n bs) f.1 (f.0, room_keeps bs f.1)

  cut_each_keeps : (k : Command) (addr ba : ℕ) (bs : List Burst) → Each P bs → Each P (cut_each k addr ba n bs)
  cut_each_keeps k addr ba [] f = tt
  cut_each_keeps k addr ba (b ∷ bs) f = (cut (ends k addr ba b.bank) b f.0, cut_each_keeps k addr ba bs f.1)

  bus_keeps : (k : Command) (r : Record) (word row : ℕ) (u : Bus) → P (burst_at word n r.addr r.column r.ba row) → EachBurst P u
      → EachBurst P (bus_after k r n word row u)
  unfolding bus_after reads_from
  bus_keeps k r word row u new f =
      let cut_all = cut_each_keeps k r.addr r.ba in
      record {
        write = cond_keeps P (is k Write) _ _ new (cut (ends k r.addr r.ba u.write.bank) u.write f.write);
        reads =
            cond_keeps (Each P) (is k Write) _ _ (written_keeps u.reads f.reads)
            (cond_keeps (Each P) (is k Read) _ _ (new, cut_all (with_room n u.reads) (room_keeps u.reads f.reads))
            (cut_all u.reads f.reads));
      }

banks_each : (P : Bank → Type 0) (f : ℕ → Bank → Bank) → ((i : ℕ) (b : Bank) → P b → P (f i b)) → (i : ℕ) (bs : List Bank) → Each P bs
    → Each P (each_bank f i bs)
banks_each P f h i [] q = tt
banks_each P f h i (b ∷ bs) q = (h i b q.0, banks_each P f h (suc i) bs q.1)

-- what the call has shown before: number 3, number 6, the record's widths and its places, and a record number that can still grow
pub record Entered (u : Setup) (c : Core) (r : Record) : Type 0 where
  pub period : c.period.0 ≤ 65_535
  pub trasmin : u.table.trasmin.0 ≤ 200_000_000
  pub addition : u.table.addition.0 ≤ 200_000_000
  pub widths : Widths r
  pub place : OnModule (core_module c) r
  pub number : c.number < number_max

module _ (u : Setup) (s : State) (r : Record) (g : Entered u s.core r) (a : Admitted s) (p : ask u s r ≡ Ok tt) where
  n_fits : (clock_of s.core r).0 ≤ clock_max
  n_fits = clock_kept u s r p

  abbrev n_at : Clock
  n_at = clock_of s.core r

  abbrev m_at : Module
  m_at = state_module s

  new_fits : FitBurst (burst_at (word s.core) n_at r.addr r.column r.ba (own_row s r))
  new_fits = record { start = n_fits; cut = tt }

  new_on : BurstOn m_at (burst_at (word s.core) n_at r.addr r.column r.ba (own_row s r))
  new_on =
      record {
        bank = g.widths.ba;
        row = row_on m_at (bank_at s.banks r.ba).status (bank_on_at m_at s.banks r.ba a.places.banks);
        column = g.place.column;
        word = word_on m_at s.core.startup.register a.places.core.register;
      }

  startup_fits_after : FitStartUp (startup_after (command r) r n_at s.core.startup)
  unfolding startup_after
  startup_fits_after =
      let u = s.core.startup in
      let f = a.core.startup in
      record {
        allclosed = cond_keeps FitEvent (precharge_all (command r) r) (Some n_at) u.allclosed n_fits f.allclosed;
        refreshed = refreshes_fit (is (command r) Refresh) n_at u.refreshes n_fits f.refreshed;
        register = cond_keeps FitRegister (is (command r) LoadMode) (loaded r.addr n_at) u.register n_fits f.register;
      }

  -- what a cut keeps, and holds of no burst and of the record's own, holds of each burst of the bus that the record leaves
  bus_left : (P : Burst → Type 0) → P no_burst → ((x : Bool) (b : Burst) → P b → P (cut_if x n_at b))
      → P (burst_at (word s.core) n_at r.addr r.column r.ba (own_row s r)) → EachBurst P s.core.bus
      → EachBurst P (bus_after (command r) r n_at (word s.core) (own_row s r) s.core.bus)
  bus_left P none cut new = bus_keeps P n_at none cut (command r) r (word s.core) (own_row s r) s.core.bus new

  core_fits_after : FitCore (core_after s.core r (own_row s r))
  unfolding core_after core_from
  core_fits_after =
      record {
        number = omega (arith, g.number);
        last = n_fits;
        startup = startup_fits_after;
        bus = bus_left FitBurst no_burst_fits (cut_fits n_at n_fits) new_fits a.core.bus;
      }

  core_on_after : CoreOn m_at (core_after s.core r (own_row s r))
  unfolding core_after core_from startup_after
  core_on_after =
      record {
        bank = a.places.core.bank;
        row = a.places.core.row;
        register =
            register_on_after m_at (is (command r) LoadMode) r.addr (eqb r.ba 0) n_at s.core.startup.register (mode_kept u s r p)
            a.places.core.register;
        bus = bus_left (BurstOn m_at) (no_burst_on m_at) (cut_stays_on m_at n_at) new_on a.places.core.bus;
      }

  -- a clock within 4,096 of the last possible lasts less than 2^57
  ps_fits : (x : ℕ) → x ≤ clock_max + 4096 → x * s.core.period.0 ≤ 2 ^ 57
  ps_fits x h = le_trans (mul-le-mul h g.period) (omega arith)

  now_fits : (now s.core r).0 ≤ 2 ^ 57
  now_fits = ps_fits n_at.0 (omega (arith, n_fits))

  -- the end of a burst that the record begins
  abbrev end_at : Command → Ps
  end_at k = burst_end k u.table s.core.period (word s.core) n_at

  end_fits : (k : Command) → (end_at k).0 ≤ 2 ^ 57 + 200_000_000
  end_fits k =
      let n = n_at.0 in
      let w = word s.core in
      cond_keeps (λ (x : Ps). x.0 ≤ 2 ^ 57 + 200_000_000) (is k Write) _ _
      (omega (arith, ps_fits (n + write_length w) (omega (arith, n_fits, write_length_le w)), g.addition, g.period))
      (omega (arith, ps_fits (n + length_of w) (omega (arith, n_fits, length_le w))))

  auto_fits : (k : Command) (x : Status) → FitStatus x → FitStatus (auto_closed u.table s.core.period (end_at k) x)
  auto_fits k NotStarted h = tt
  auto_fits k (Open row n) h = omega (arith, end_fits k, ps_fits n.0 (omega arith), g.trasmin)
  auto_fits k (Closed x) h = h

  precharged_fits : (again : Bool) (x : Status) → FitStatus x → FitStatus (precharged again (now s.core r) x)
  precharged_fits again NotStarted h = omega (arith, now_fits)
  precharged_fits again (Open row n) h = omega (arith, now_fits)
  precharged_fits true (Closed y) h = h
  precharged_fits false (Closed y) h = omega (arith, now_fits)

  -- the bank with number i after this command
  abbrev after : Command → ℕ → Bank → Bank
  after k = bank_after k u.table s.core.period (end_at k) (begun s.core.startup) r n_at (now s.core r)

  bank_fits_after : (k : Command) (i : ℕ) (b : Bank) → FitBank b → FitBank (after k i b)
  unfolding bank_after
  bank_fits_after k i b h =
      cond_keeps FitBank (is k Active && eqb i r.ba) _ _ (record { status = n_fits; active = n_fits; stored = tt })
      (cond_keeps FitBank (asks_auto k r && eqb i r.ba) _ _ (record { status = auto_fits k b.status h.status; active = h.active; stored = h.stored })
      (cond_keeps FitBank (is k Precharge && covers r.addr r.ba i) _ _
      (record { status = precharged_fits (begun s.core.startup) b.status h.status; active = h.active; stored = h.stored }) h))

  auto_on : (period end : Ps) (x : Status) → StatusOn m_at (auto_closed u.table period end x)
  auto_on period end NotStarted = tt
  auto_on period end (Open row n) = tt
  auto_on period end (Closed x) = tt

  precharged_on : (again : Bool) (moment : Ps) (x : Status) → StatusOn m_at (precharged again moment x)
  precharged_on again moment NotStarted = tt
  precharged_on again moment (Open row n) = tt
  precharged_on again moment (Closed x) = tt

  bank_on_after : (k : Command) (i : ℕ) (b : Bank) → BankOn m_at b → BankOn m_at (after k i b)
  unfolding bank_after
  bank_on_after k i b h =
      cond_keeps (BankOn m_at) (is k Active && eqb i r.ba) _ _ (g.place.row (zeros_kept u s r p))
      (cond_keeps (BankOn m_at) (asks_auto k r && eqb i r.ba) _ _ (auto_on _ _ b.status)
      (cond_keeps (BankOn m_at) (is k Precharge && covers r.addr r.ba i) _ _ (precharged_on (begun s.core.startup) _ b.status) h))

  marked_fits : (x : Bool) (b : Bank) → FitBank b → FitBank (marked x n_at b)
  marked_fits x b h = record { status = h.status; active = h.active; stored = cond_keeps FitEvent x (Some n_at) b.stored n_fits h.stored }

  -- what a command and a mark keep holds of each bank that the record leaves
  banks_keep : (P : Bank → Type 0) → ((i : ℕ) (b : Bank) → P b → P (after (command r) i b))
      → ((x : Bool) (b : Bank) → P b → P (marked x n_at b)) → Each P s.banks → Each P (next u s r).banks
  unfolding next banks_after mark_banks commanded
  banks_keep P moved mark h =
      banks_each P (λ i b. marked (stores_in (own_beat s r) i) n_at b) (λ i b. mark (stores_in (own_beat s r) i) b) 0
      (each_bank (after (command r)) 0 s.banks) (banks_each P (after (command r)) moved 0 s.banks h)

  -- THE STATE BESIDE A TAKEN RECORD IS ADMITTED
  pub stays : Admitted (next u s r)
  unfolding next core_after core_from
  stays =
      record {
        core = core_fits_after;
        banks = banks_keep FitBank (bank_fits_after (command r)) marked_fits a.banks;
        places = record { core = core_on_after; banks = banks_keep (BankOn m_at) (bank_on_after (command r)) (λ x b h. h) a.places.banks };
      }

-- the next record stands on a later clock
pub clocks_grow : (u : Setup) (s : State) (r q : Record) → (clock_of s.core r).0 < (clock_of (next u s r).core q).0
unfolding next core_after core_from
clocks_grow u s r q = omega arith

-- THE START STATE IS ADMITTED, for each watched bank and row of the module
pub start_admitted : (period : Ps) (grade bank row : ℕ) → bank < 4 → row < rows (module_of grade) → Admitted (start period grade bank row)
start_admitted period grade bank row hb hr =
    let m = module_of grade in
    record {
      core =
          record {
            number = omega arith;
            last = tt;
            startup = record { allclosed = tt; refreshed = tt; register = tt };
            bus = record { write = no_burst_fits; reads = no_reads_keep FitBurst no_burst_fits };
          };
      banks = (fresh, (fresh, (fresh, (fresh, tt))));
      places =
          record {
            core = record { bank = hb; row = hr; register = tt; bus = record { write = no_burst_on m; reads = no_reads_keep (BurstOn m) (no_burst_on m) } };
            banks = (tt, (tt, (tt, (tt, tt))));
          };
    }
  where
    fresh : FitBank no_bank
    fresh = record { status = tt; active = tt; stored = tt }
