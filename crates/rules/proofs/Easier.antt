-- Under a table that is nowhere harder: each rule that the harder table keeps is kept, and what a record leaves is near. Assumes nothing.
use Rattle.std.specs.Prelude.{Option, None, Some, Ok}
use Prim.Native.Nat.{ℕ, ◌≤◌}
use native.Mathlib.Nat.{le_refl, mul-le-mul_right}
use native.Mathlib.Omega.{arith}
use mathlib.Core.Path.{◌≡◌}
use mathlib.Core.Bool.{Bool, true, false, ◌&&◌, cond}
use mathlib.Core.List.{List, []}
use lib.Dec.{eqb}
use Rattle.units.specs.declared.Clock.{Clock}
use Rattle.units.specs.declared.Ps.{Ps}
use Rattle.units.specs.Time.{at}
use Rattle.speed.specs.declared.SpeedTable.{SpeedTable}
use Rattle.units.specs.declared.Module.{Module}
use Rattle.layout.specs.declared.Record.{Record}
use Rattle.layout.specs.declared.Command.{Command}
use Rattle.layout.specs.declared.Command.TheVariants.{Active, Write, Precharge, LoadMode}
use Rattle.layout.specs.Commands.{command, is, executable, covers}
use Rattle.mode.specs.Word.{latency}
use Rattle.bursts.specs.declared.Beat.{Beat}
use Rattle.bursts.specs.Bus.{stores_in}
use Rattle.rules.specs.declared.Refreshes.{Refreshes}
use Rattle.rules.specs.declared.StartUp.{StartUp}
use Rattle.rules.specs.declared.Status.{Status}
use Rattle.rules.specs.declared.Status.TheVariants.{NotStarted, Open, Closed}
use Rattle.rules.specs.declared.Bank.{Bank}
use Rattle.rules.specs.declared.Core.{Core}
use Rattle.rules.specs.declared.State.{State}
use Rattle.rules.specs.declared.Setup.{Setup}
use Rattle.rules.specs.Numbers.{tRCD, tRAS, tRC, tRP, tRRD, tRFC, tWR, tMRD}
use Rattle.rules.specs.Parts.{clock_of, now, word_in, word, core_module}
use Rattle.rules.specs.StartUp.{begun, counted_refresh}
use Rattle.rules.specs.Banks.{open_within}
use Rattle.rules.specs.Minima.{Since, met}
use Rattle.rules.specs.Closing.{burst_end, closing_time, closes_within}
use Rattle.rules.specs.Rules.{
  within,
  tCK,
  asks_auto,
  every_rules,
  place_rules,
  minimum_rules,
  mode_rules,
  bus_rules,
  Found,
  command_rules,
  rules,
  found,
  ask,
}
use Rattle.rules.specs.After.{with_status, precharged, auto_closed, marked, bank_after, commanded, mark_banks, banks_after}
use Rattle.rules.specs.Harder.{NowhereHarder, Near, same, earlier, NearBanks}
use Rattle.rules.proofs.Tests.{◌⊑◌, ⊑_self, ⊑_leb, ⊑_if, Softer, end, ◌▸◌, ◌⧺◌, softer_asked, softer_taken}
use Rattle.rules.proofs.Near.{
  near_at,
  near_cond,
  near_each,
  near_marked,
  ⊑_every,
  ⊑_found,
  Lower,
  lower_minima,
  ⊑_met,
}

-- the state of these parts
abbrev pub state_of : Core → List Bank → State
state_of c bs = record { core = c; banks = bs }

abbrev pub setup : SpeedTable → Setup
setup t = record { table = t }

abbrev parts : StartUp → List Bank → Bool → Bool → Found
parts v bs finished clear = record { startup = v; banks = bs; finished = finished; clear = clear }

cond_le : (x : Bool) {a b d e : Ps} → a.0 ≤ b.0 → d.0 ≤ e.0 → (cond x a d).0 ≤ (cond x b e).0
cond_le true p q = p
cond_le false p q = q

near_precharged : (again : Bool) (p : Ps) {b d : Bank} → Near b d
    → Near (with_status (precharged again p b.status) b) (with_status (precharged again p d.status) d)
near_precharged again p same = same
near_precharged true p (earlier h) = earlier h
near_precharged false p (earlier h) = same

module _ {t u : SpeedTable} (e : NowhereHarder t u) where
  tCK_le : (w : ℕ) → (tCK u w).0 ≤ (tCK t w).0
  tCK_le w = cond_le (eqb (latency w) 2) e.tck2 e.tck3

  end_le : (k : Command) (period : Ps) (w : ℕ) (n : Clock) → (burst_end k u period w n).0 ≤ (burst_end k t period w n).0
  end_le k period w n = cond_le (is k Write) (omega (arith, e.addition)) (le_refl _)

  closing_le : (period : Ps) (active : Clock) {x y : Ps} → y.0 ≤ x.0 → (closing_time u period active y).0 ≤ (closing_time t period active x).0
  closing_le period active h = omega (arith, e.trasmin)

  ⊑_open_within : (period n : Ps) (b d : Bank) → Near b d → open_within period t.trasmax n b.status ⊑ open_within period u.trasmax n d.status
  ⊑_open_within period n b d (earlier h) = ⊑_self
  ⊑_open_within period n b d same = one b.status
    where
      one : (x : Status) → open_within period t.trasmax n x ⊑ open_within period u.trasmax n x
      one NotStarted = ⊑_self
      one (Open row active) = ⊑_leb (le_refl n.0) (omega (arith, e.trasmax))
      one (Closed p) = ⊑_self

  ⊑_within : (period n : Ps) (x : Option Clock) → within period t.interval n x ⊑ within period u.interval n x
  ⊑_within period n None = ⊑_self
  ⊑_within period n (Some x) = ⊑_leb (le_refl n.0) (omega (arith, e.interval))

  ⊑_closes : (period : Ps) {x y : Ps} → y.0 ≤ x.0 → (b d : Bank) → Near b d → closes_within t period x b.status ⊑ closes_within u period y d.status
  ⊑_closes period h b d (earlier g) = ⊑_self
  ⊑_closes period {x} {y} h b d same = one b.status
    where
      one : (b : Status) → closes_within t period x b ⊑ closes_within u period y b
      one NotStarted = ⊑_self
      one (Open row active) = ⊑_leb (closing_le period active h) (omega (arith, e.trasmax))
      one (Closed p) = ⊑_self

  -- a minimum that the tables give as f
  ⊑_minimum : (k : ℕ) (n : Ps) (f : SpeedTable → Ps) → (f u).0 ≤ (f t).0 → {l m : List Since} → Lower l m → met k (f t) n l ⊑ met k (f u) n m
  ⊑_minimum k n f h l = ⊑_met k n h l

  -- a line for each row of the verdict table, in its order
  softer_every : (period : Ps) (f : Refreshes) (r : Record) (n : Clock) (moment : Ps) {bs ds : List Bank} → NearBanks bs ds
      → Softer (every_rules t period f bs r n moment) (every_rules u period f ds r n moment)
  unfolding every_rules
  softer_every period f r n moment h =
      ⊑_self
      ▸ ⊑_self
      ▸ ⊑_self
      ▸ ⊑_within period moment (counted_refresh f)
      ▸ ⊑_every (λ b. open_within period t.trasmax moment b.status) (λ b. open_within period u.trasmax moment b.status)
      (⊑_open_within period moment) h
      ▸ end

  softer_place : (k : Command) (s : StartUp) (r : Record) (moment : Ps) {bs ds : List Bank} → NearBanks bs ds
      → Softer (place_rules k s bs r moment) (place_rules k s ds r moment)
  unfolding place_rules
  softer_place k s r moment h = ⊑_self ▸ ⊑_found k r.ba h ▸ end

  softer_minimum : (period n : Ps) {l m : List Since} → Lower l m → Softer (minimum_rules t period n l) (minimum_rules u period n m)
  unfolding minimum_rules
  softer_minimum period n l =
      ⊑_minimum tRCD n (λ x. x.trcd) e.trcd l
      ▸ ⊑_minimum tRAS n (λ x. x.trasmin) e.trasmin l
      ▸ ⊑_minimum tRC n (λ x. x.trc) e.trc l
      ▸ ⊑_minimum tRP n (λ x. x.trp) e.trp l
      ▸ ⊑_minimum tRRD n (λ x. x.trrd) e.trrd l
      ▸ ⊑_minimum tRFC n (λ x. x.trfc) e.trfc l
      ▸ ⊑_minimum tWR n (λ x. x.twr) e.twr l
      ▸ ⊑_minimum tMRD n (λ x. at period x.tmrd) (mul-le-mul_right period.0 e.tmrd) l
      ▸ end

  softer_mode : (k : Command) (m : Module) (period : Ps) (r : Record) → Softer (mode_rules k t m period r) (mode_rules k u m period r)
  unfolding mode_rules
  softer_mode k m period r = ⊑_self ▸ ⊑_if (is k LoadMode) (⊑_leb (tCK_le r.addr) (le_refl period.0)) ▸ end

  softer_bus : (k : Command) (period : Ps) (word : ℕ) (finished clear : Bool) (r : Record) (n : Clock) (b d : Bank) → Near b d
      → Softer (bus_rules k t period word finished clear b.status r n) (bus_rules k u period word finished clear d.status r n)
  unfolding bus_rules
  softer_bus k period word finished clear r n b d h =
      ⊑_self
      ▸ ⊑_self
      ▸ ⊑_self
      ▸ ⊑_if (asks_auto k r) (⊑_closes period (end_le k period word n) b d h)
      ▸ end

  -- whatever parts of the state the two have in common
  softer : (m : Module) (period : Ps) (v : StartUp) (finished clear : Bool) (r : Record) (n : Clock) (moment : Ps) {bs ds : List Bank} → NearBanks bs ds
      → Softer (rules t m period (parts v bs finished clear) r n moment) (rules u m period (parts v ds finished clear) r n moment)
  unfolding rules command_rules
  softer m period v finished clear r n moment h =
      let k = command r in
      softer_every period v.refreshes r n moment h
      ⧺ softer_asked (executable k)
      (softer_place k v r moment h
      ⧺ (softer_minimum period moment (lower_minima k period v r h)
      ⧺ (softer_mode k m period r ⧺ softer_bus k period (word_in v.register) finished clear r n _ _ (near_at h r.ba))))

  pub easier_taken : (c : Core) (r : Record) {bs ds : List Bank} → NearBanks bs ds
      → ask (setup t) (state_of c bs) r ≡ Ok tt → ask (setup u) (state_of c ds) r ≡ Ok tt
  unfolding ask
  easier_taken c r h p =
      let f = found c [] (clock_of c r) in
      softer_taken (softer (core_module c) c.period c.startup f.finished f.clear r (clock_of c r) (now c r) h) p

  -- ── What a record leaves ──

  near_auto : (period : Ps) {x y : Ps} → y.0 ≤ x.0 → (b d : Bank) → Near b d
      → Near (with_status (auto_closed t period x b.status) b) (with_status (auto_closed u period y d.status) d)
  near_auto period h b d (earlier g) = earlier g
  near_auto period {x} {y} h b d same = one b.status b.active b.stored
    where
      one : (s : Status) (a w : Option Clock)
          → Near (record { status = auto_closed t period x s; active = a; stored = w }) (record { status = auto_closed u period y s; active = a; stored = w })
      one NotStarted a w = same
      one (Open row n) a w = earlier (closing_le period n h)
      one (Closed p) a w = same

  near_bank : (k : Command) (period : Ps) {x y : Ps} → y.0 ≤ x.0 → (again : Bool) (r : Record) (n : Clock) (moment : Ps) (i : ℕ) (b d : Bank) → Near b d
      → Near (bank_after k t period x again r n moment i b) (bank_after k u period y again r n moment i d)
  unfolding bank_after
  near_bank k period e again r n moment i b d h =
      near_cond (is k Active && eqb i r.ba) same
      (near_cond (asks_auto k r && eqb i r.ba) (near_auto period e b d h)
      (near_cond (is k Precharge && covers r.addr r.ba i) (near_precharged again moment h) h))

  near_commanded : (k : Command) (period : Ps) {x y : Ps} → y.0 ≤ x.0 → (again : Bool) (r : Record) (n : Clock) (moment : Ps) {bs ds : List Bank} → NearBanks bs ds
      → NearBanks (commanded k t period x again r n moment bs) (commanded k u period y again r n moment ds)
  unfolding commanded
  near_commanded k period {x} {y} e again r n moment h =
      near_each (bank_after k t period x again r n moment) (bank_after k u period y again r n moment) (near_bank k period e again r n moment) 0 h

  pub near_after : (c : Core) (r : Record) (w : Beat) {bs ds : List Bank} → NearBanks bs ds → NearBanks (banks_after t c r w bs) (banks_after u c r w ds)
  unfolding banks_after mark_banks
  near_after c r w h =
      near_each (λ i b. marked (stores_in w i) (clock_of c r) b) (λ i b. marked (stores_in w i) (clock_of c r) b)
      (λ i b d n. near_marked (stores_in w i) (clock_of c r) n) 0
      (near_commanded (command r) c.period (end_le (command r) c.period (word c) (clock_of c r)) (begun c.startup) r (clock_of c r) (now c r) h)
