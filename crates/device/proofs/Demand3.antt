-- DEMAND 3 of the call of many records, with its page and beats: from the demand by records. Assumes nothing.
use Rattle.std.specs.Prelude.{Ok, Err}
use Prim.Native.Nat.{ℕ, zero, suc, ◌*◌, ◌/◌, ◌%◌, ◌≤◌}
use native.Mathlib.Nat.{le_trans}
use native.Mathlib.Omega.{arith}
use mathlib.Core.Path.{◌≡◌, refl, ap, sym, ◌∙◌}
use mathlib.Core.Bool.{Bool, true, false, cond}
use mathlib.Core.List.{List, [], ◌∷◌}
use lib.Dec.{leb, eqb}
use lib.ListN.{length, take, drop, length-take, length-append}
use borrow.Author.Tests.{le-leb, eq-eqb}
use Rattle.units.specs.declared.Module.{Module}
use Rattle.speed.specs.declared.SpeedTable.{SpeedTable}
use Rattle.speed.specs.Table.{table_fits}
use Rattle.layout.specs.declared.Record.{Record}
use Rattle.layout.specs.Bytes.{record_of, records_of}
use Rattle.layout.proofs.Widths.{records_length}
use Rattle.rules.specs.declared.Refusal.{Refusal}
use Rattle.rules.specs.declared.State.{State}
use Rattle.rules.specs.declared.Setup.{Setup}
use Rattle.rules.specs.Numbers.{first_broken, Verdict}
use Rattle.rules.specs.Parts.{state_module}
use Rattle.rules.specs.OneRecord.{state_rules}
use Rattle.rules.specs.After.{next}
use Rattle.rules.specs.Run.{Line, run, page_after}
use Rattle.rules.specs.Report.{lines_into, Left, ran, fold, records_rules, room, above_number_max, past_room, within_room, records_in, records_call}
use Rattle.rules.specs.Harder.{NowhereHarder}
use Rattle.rules.specs.Demand3.{taken_in, Demand3, Demand3Holds}
use Rattle.rules.proofs.Easier.{setup}
use Rattle.rules.proofs.Runs.{by_answer}
use Rattle.rules.proofs.Demand3.{demand_3, demand_3_before}
use Rattle.device.proofs.FoldRun.{from_run, fold_run}
use Rattle.admitting.proofs.Ladder.{records_ladder}
use Rattle.device.proofs.Starts.{run_in, run_out, most_within, most_room, entry_of, records_within, records_refused, records_entered, records_past}

-- ── Runs and records ──

-- a run has no more lines than records
lines_within : (u : Setup) (s : State) (rs : List Record) → length (run u s rs).lines ≤ length rs
unfolding run
lines_within u s [] = omega arith
lines_within u s (r ∷ rs) =
    by_answer (λ a. length a.lines ≤ length (r ∷ rs)) u s r rs
    (λ p. omega (arith, lines_within u (next u s r) rs))
    (λ w p. omega arith)

-- the first k of n records
first_of : (m : Module) (k n : ℕ) (l : List ℕ) → k ≤ n → take k (records_of m n l) ≡ records_of m k l
unfolding records_of
first_of m zero n l h = refl
first_of m (suc k) zero l h = absurd (omega (arith, h))
first_of m (suc k) (suc n) l h = ap (λ rs. record_of m (take 16 l) ∷ rs) (first_of m k n (drop 16 l) (omega (arith, h)))

-- the page is stored to by the records that have lines
page_by_lines : (m : Module) (bank row : ℕ) (rs : List Record) (ls : List Line) (page : List ℕ)
    → page_after m bank row (take (length ls) rs) ls page ≡ page_after m bank row rs ls page
unfolding page_after
page_by_lines m bank row [] [] page = refl
page_by_lines m bank row [] (l ∷ ls) page = refl
page_by_lines m bank row (r ∷ rs) [] page = refl
page_by_lines m bank row (r ∷ rs) (l ∷ ls) page = page_by_lines m bank row rs ls _

-- ── The call ──

module _ (u : Setup) (s : State) (bytes page beats : List ℕ) where
  abbrev seen : List Record
  seen = records_in s bytes

  -- a call that looks at its records leaves the page and the beats of the fold, and is clean only where the fold is
  module _ (p : first_broken (records_rules u s (length bytes) (length page)) ≡ Ok tt) where
    record Called : Type 0 where
      page_left : (records_call u s bytes page beats).page ≡ (fold u s seen page beats).page
      beats_left : (records_call u s bytes page beats).beats ≡ (fold u s seen page beats).beats
      if_clean : (records_call u s bytes page beats).ran.verdict ≡ Ok tt
          → (leb (length bytes / 16) (room s) ≡ true) × ((run u s seen).verdict ≡ Ok tt)

    called : Called
    called = go (leb (length bytes / 16) (room s)) refl
      where
        count : (x : Bool) → leb (length bytes / 16) (room s) ≡ x → seen ≡ records_of (state_module s) (cond x (length bytes / 16) (room s)) bytes
        count x t = ap (λ (y : Bool). records_of (state_module s) (cond y (length bytes / 16) (room s)) bytes) t

        never : (v : Verdict) (k : ℕ) → (above_number_max (ran v k)).verdict ≡ Ok tt → (leb (length bytes / 16) (room s) ≡ true) × ((run u s seen).verdict ≡ Ok tt)
        never (Ok o) k h = let z : ◌≡◌ {A = ℕ} 0 1 = cc in absurd (omega arith)
        never (Err w) k h = let z : ◌≡◌ {A = ℕ} 0 1 = cc in absurd (omega arith)

        go : (x : Bool) → leb (length bytes / 16) (room s) ≡ x → Called
        go true t =
            let e = records_entered u s bytes page beats p t ∙ ap (λ rs. fold u s rs page beats) (sym (count true t)) in
            record {
              page_left = ap (λ (l : Left). l.page) e;
              beats_left = ap (λ (l : Left). l.beats) e;
              if_clean = λ h. (t, sym (ap (λ (l : Left). l.ran.verdict) (e ∙ fold_run u s seen page beats)) ∙ h);
            }
        go false t =
            let e = records_past u s bytes page beats p t ∙ ap (λ rs. past_room (fold u s rs page beats)) (sym (count false t)) in
            record {
              page_left = ap (λ (l : Left). l.page) e;
              beats_left = ap (λ (l : Left). l.beats) e;
              if_clean = λ h. never (run u s seen).verdict (run u s seen).reported (sym (ap (λ (l : Left). l.ran.verdict) (e ∙ ap past_room (fold_run u s seen page beats))) ∙ h);
            }

-- how many records a call takes, by what it finds before the first
module _ (u : Setup) (s : State) (bytes : List ℕ) (lent : ℕ) where
  taken_some : first_broken (records_rules u s (length bytes) lent) ≡ Ok tt
      → taken_in u s bytes lent ≡ length (run u s (records_in s bytes)).lines
  taken_some p = ap (λ v. length v.lines) (run_in u s bytes lent p)

  taken_none : (w : Refusal) → first_broken (records_rules u s (length bytes) lent) ≡ Err w → taken_in u s bytes lent ≡ 0
  taken_none w p = ap (λ v. length v.lines) (run_out u s bytes lent w p)

-- no records leave page and beats
module _ (u : Setup) (s : State) (page beats : List ℕ) where
  none_left : ((records_call u s [] page beats).page ≡ page) × ((records_call u s [] page beats).beats ≡ beats)
  unfolding fold records_of run page_after lines_into
  none_left = go (first_broken (records_rules u s 0 (length page))) refl
    where
      go : (v : Verdict) → first_broken (records_rules u s 0 (length page)) ≡ v
          → ((records_call u s [] page beats).page ≡ page) × ((records_call u s [] page beats).beats ≡ beats)
      go (Ok o) p =
          let e = records_entered u s [] page beats p (le-leb (length {A = ℕ} [] / 16) (room s) (omega arith)) in
          (ap (λ (l : Left). l.page) e, ap (λ (l : Left). l.beats) e)
      go (Err w) p =
          let e = records_refused u s [] page beats w p in
          (ap (λ (l : Left). l.page) e, ap (λ (l : Left). l.beats) e)

-- ── Demand 3 ──

module _ {t u : SpeedTable} (e : NowhereHarder t u) (ft : table_fits t ≡ true) (fu : table_fits u ≡ true) (s : State) (bytes page beats : List ℕ) where
  -- the two calls are entered alike, with any number of bytes
  alike : (k : ℕ) → first_broken (records_rules (setup t) s k (length page)) ≡ first_broken (records_rules (setup u) s k (length page))
  unfolding records_rules state_rules
  alike k = rw (ft, fu)

  abbrev rs : List Record
  rs = records_in s bytes

  -- how far the call with t gets
  abbrev stop : ℕ
  stop = length (run (setup t) s rs).lines

  abbrev part : List ℕ
  part = take (16 * stop) bytes

  -- the same for either: where no number is above 2^41 it is the run
  as_run : (v : Setup) → first_broken (records_rules v s (length bytes) (length page)) ≡ Ok tt → leb (length bytes / 16) (room s) ≡ true
      → records_call v s bytes page beats ≡ from_run s rs page beats (run v s rs)
  as_run v p h =
      records_entered v s bytes page beats p h
      ∙ sym (ap (λ (y : Bool). fold v s (records_of (state_module s) (cond y (length bytes / 16) (room s)) bytes) page beats) h)
      ∙ fold_run v s rs page beats

  module _ (p : first_broken (records_rules (setup t) s (length bytes) (length page)) ≡ Ok tt) where
    whole : length bytes ≡ 16 * (length bytes / 16)
    whole = omega (arith, (entry_of (setup t) s (length bytes) (length page) p).whole)

    few : stop ≤ within_room s (length bytes / 16)
    few = omega (arith, lines_within (setup t) s rs, records_length (state_module s) (within_room s (length bytes / 16)) bytes)

    in_count : stop ≤ length bytes / 16
    in_count = le_trans few (most_within (length bytes / 16) (room s))

    in_room : stop ≤ room s
    in_room = le_trans few (most_room (length bytes / 16) (room s))

    long : length part ≡ 16 * stop
    long = simp length-take (omega (arith, whole, in_count))

    some : length part / 16 ≡ stop
    some = omega (arith, long)

    part_enters : first_broken (records_rules (setup u) s (length part) (length page)) ≡ Ok tt
    part_enters =
        let none : eqb (length part % 16) 0 ≡ true = eq-eqb (length part % 16) 0 (omega (arith, long)) in
        let all : eqb (length bytes % 16) 0 ≡ true = eq-eqb (length bytes % 16) 0 (entry_of (setup t) s (length bytes) (length page) p).whole in
        records_ladder (setup u) s (length part) (length page) none
        ∙ sym (records_ladder (setup u) s (length bytes) (length page) all)
        ∙ sym (alike (length bytes))
        ∙ p

    -- what the easier call leaves of the records that the harder takes
    part_run : records_call (setup u) s part page beats
        ≡ from_run s (take stop rs) page beats
        (record { verdict = Ok tt; reported = (run (setup t) s rs).reported; lines = (run (setup t) s rs).lines })
    part_run =
        records_entered (setup u) s part page beats part_enters (le-leb (length part / 16) (room s) (omega (arith, some, in_room)))
        ∙ ap (λ (k : ℕ). fold (setup u) s (records_of (state_module s) k part) page beats) some
        ∙ ap (λ l. fold (setup u) s l page beats)
        (records_within (state_module s) stop bytes ∙ sym (first_of (state_module s) stop (within_room s (length bytes / 16)) bytes few))
        ∙ fold_run (setup u) s (take stop rs) page beats
        ∙ ap (from_run s (take stop rs) page beats) (demand_3_before e s rs)

    entered : Demand3 (setup t) (setup u) s bytes page beats
    entered =
        let q = sym (alike (length bytes)) ∙ p in
        let f = demand_3 e s rs in
        let c = called (setup t) s bytes page beats p in
        let some-t = taken_some (setup t) s bytes (length page) p in
        let some-u = taken_some (setup u) s bytes (length page) q in
        record {
          never_earlier = rw (some-t, some-u) (omega (arith, ap length f.lines ∙ length-append (run (setup t) s rs).lines f.more));
          beats_agree =
              rw some-t
              (ap (λ (l : Left). l.beats) part_run
              ∙ sym (c.beats_left ∙ ap (λ (l : Left). l.beats) (fold_run (setup t) s rs page beats)));
          page_agrees =
              rw some-t
              (ap (λ (l : Left). l.page) part_run
              ∙ page_by_lines (state_module s) s.core.bank s.core.row rs (run (setup t) s rs).lines page
              ∙ sym (c.page_left ∙ ap (λ (l : Left). l.page) (fold_run (setup t) s rs page beats)));
          clean =
              λ h.
              let k = c.if_clean h in
              as_run (setup u) q k.0 ∙ ap (from_run s rs page beats) (sym (f.clean k.1)) ∙ sym (as_run (setup t) p k.0);
        }

  refused : (w : Refusal) → first_broken (records_rules (setup t) s (length bytes) (length page)) ≡ Err w → Demand3 (setup t) (setup u) s bytes page beats
  refused w p =
      let q = sym (alike (length bytes)) ∙ p in
      let gone = records_refused (setup t) s bytes page beats w p in
      let none-t = taken_none (setup t) s bytes (length page) w p in
      let none-u = taken_none (setup u) s bytes (length page) w q in
      record {
        never_earlier = rw (none-t, none-u) (omega arith);
        beats_agree = rw (none-t, gone) (none_left (setup u) s page beats).1;
        page_agrees = rw (none-t, gone) (none_left (setup u) s page beats).0;
        clean =
            λ h.
            let x : ◌≡◌ {A = Verdict} (Err w) (Ok tt) = sym (ap (λ (l : Left). l.ran.verdict) gone) ∙ h in
            let z : ◌≡◌ {A = ℕ} 0 1 = cc in
            absurd (omega arith);
      }

-- DEMAND 3 HOLDS of the call of many records
pub demand_3_holds : Demand3Holds
demand_3_holds t u e ft fu s bytes page beats = go (first_broken (records_rules (setup t) s (length bytes) (length page))) refl
  where
    go : (v : Verdict) → first_broken (records_rules (setup t) s (length bytes) (length page)) ≡ v → Demand3 (setup t) (setup u) s bytes page beats
    go (Ok o) p = entered e ft fu s bytes page beats p
    go (Err w) p = refused e ft fu s bytes page beats w p
