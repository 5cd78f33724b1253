-- The one-record call: a refused record leaves state and page as they were; DEMAND 3 by state. Assumes nothing.
use Rattle.std.specs.Prelude.{Ok, Err}
use Prim.Native.Nat.{ℕ, ◌≤◌, ◌<◌}
use native.Mathlib.Nat.{le_refl}
use native.Mathlib.Omega.{arith}
use mathlib.Core.Path.{◌≡◌, refl, ap, sym, subst, ◌∙◌}
use mathlib.Core.Bool.{Bool, true, false, ◌||◌, cond}
use mathlib.Core.List.{List, [], ◌∷◌}
use lib.Dec.{leb, ltb, eqb}
use borrow.Author.Tests.{leb-true, eqb-true, lt-ltb}
use Rattle.units.specs.declared.Ps.{Ps}
use Rattle.units.proofs.Both.{both as both_true}
use Rattle.speed.specs.declared.SpeedTable.{SpeedTable}
use Rattle.speed.specs.Table.{table_fits}
use Rattle.speed.proofs.Bounds.{bounds}
use Rattle.units.specs.declared.Module.{Module}
use Rattle.units.specs.declared.Module.TheVariants.{Bench, Handheld}
use Rattle.units.specs.Module.{module_of}
use Rattle.layout.specs.declared.Record.{Record}
use Rattle.layout.specs.Bytes.{record_of}
use Rattle.layout.specs.Commands.{command, executable}
use Rattle.layout.proofs.Widths.{record_fits, record_on}
use Rattle.bursts.specs.declared.Beat.TheVariants.{Quiet}
use Rattle.page.specs.Store.{stored}
use Rattle.rules.specs.declared.Refusal.{Refusal}
use Rattle.rules.specs.declared.Bank.{Bank}
use Rattle.rules.specs.declared.Core.{Core}
use Rattle.rules.specs.declared.State.{State}
use Rattle.rules.specs.declared.Setup.{Setup}
use Rattle.rules.specs.Parts.{state_module, core_module}
use Rattle.rules.specs.Numbers.{number, number_of, first_broken, Verdict}
use Rattle.rules.specs.Rules.{every_rules, place_rules, minimum_rules, mode_rules, bus_rules, command_rules, rules, ask}
use Rattle.rules.specs.Fits.{bank_fits, core_fits, fits, number_max}
use Rattle.rules.specs.Admitted.{Admitted}
use Rattle.rules.specs.After.{own_beat, beat, core_after, banks_after, next}
use Rattle.rules.specs.OneRecord.{period_fits, grade_known, state_rules, entry_rules, answer_of, found_of, ask_call, took, left_by, take_record, take_call, Stepped, stepped, both, step, record_for}
use Rattle.rules.specs.Run.{run, page_after, all_taken}
use Rattle.rules.proofs.Runs.{page_next, run_taken, run_refused}
use Rattle.rules.specs.Harder.{NowhereHarder, Near, same, earlier, NearBanks, NearStates, near}
use Rattle.rules.proofs.Tests.{◌⊑◌, ⊑_self, ⊑_true, ⊑_leb, ⊑_and, Softer, end, ◌▸◌, softer_taken}
use Rattle.rules.proofs.Kept.{rules_of, command_rules_of, kept, all_numbers, numbers_asked, zero_taken}
use Rattle.rules.proofs.Admitted.{admitted, fits_admitted}
use Rattle.rules.proofs.Stays.{Entered, stays}
use Rattle.rules.proofs.Near.{near_at, near_row, ⊑_every}
use Rattle.rules.proofs.Easier.{state_of, setup, easier_taken, near_after}

-- ── The state's module ──

-- TODAY'S GRADES ARE THE BENCH'S: number 4 lets in no other module
pub known_bench : (grade : ℕ) → grade_known grade ≡ true → module_of grade ≡ Bench
unfolding module_of
known_bench grade h = go (eqb grade 1) refl h
  where
    below : (n : ℕ) → eqb grade n ≡ true → n ≤ 2 → cond (ltb grade 3) Bench Handheld ≡ Bench
    below n e k = rw (lt-ltb grade 3 (omega (arith, eqb-true grade n e, k)))

    go : (x : Bool) → eqb grade 1 ≡ x → (x || eqb grade 2) ≡ true → cond (ltb grade 3) Bench Handheld ≡ Bench
    go true e h = below 1 e (omega arith)
    go false e h = below 2 h (omega arith)

-- ── By what is found ──

-- "the refused record changes neither state nor page"
abbrev pub refused : Refusal → ℕ → State → List ℕ → Stepped
refused w reported s page = stepped (answer_of (Err w) reported Quiet) s page

-- "a taken record 0 and its own number"
abbrev pub taken : Setup → State → Record → List ℕ → Stepped
taken u s r page = stepped (answer_of (Ok tt) s.core.number (own_beat s r)) (next u s r) (page_next s r page)

-- a run of one record
pub take_taken : (u : Setup) (s : State) (r : Record) (page : List ℕ) → ask u s r ≡ Ok tt
    → take_record u s r page ≡ took (own_beat s r) (next u s r) (page_next s r page)
unfolding run all_taken page_after
take_taken u s r page p = ap (left_by u s (r ∷ []) page) (run_taken u s r [] p)

pub take_refused : (u : Setup) (s : State) (r : Record) (page : List ℕ) (w : Refusal) → ask u s r ≡ Err w
    → take_record u s r page ≡ took Quiet s page
unfolding all_taken page_after
take_refused u s r page w p = ap (left_by u s (r ∷ []) page) (run_refused u s r [] w p)

module _ (u : Setup) (s : State) (bytes page : List ℕ) where
  module _ (p : first_broken (entry_rules u s bytes page) ≡ Ok tt) where
    pub asked_entered : ask_call u s bytes page ≡ found_of (ask u s (record_for s bytes)) s.core.number
    unfolding ask_call
    asked_entered = rw (p, ask_call)

    pub took_entered : take_call u s bytes page ≡ take_record u s (record_for s bytes) page
    unfolding take_call
    took_entered = rw (p, take_call)

    pub step_takes : ask u s (record_for s bytes) ≡ Ok tt → step u s bytes page ≡ taken u s (record_for s bytes) page
    unfolding step
    step_takes q =
        λ i. both ((asked_entered ∙ ap (λ v. found_of v s.core.number) q) i) ((took_entered ∙ take_taken u s (record_for s bytes) page q) i)

    pub step_refuses : (w : Refusal) → ask u s (record_for s bytes) ≡ Err w → step u s bytes page ≡ refused w s.core.number s page
    unfolding step
    step_refuses w q =
        λ k. both ((asked_entered ∙ ap (λ v. found_of v s.core.number) q) k) ((took_entered ∙ take_refused u s (record_for s bytes) page w q) k)

  -- 1, 3, 4, 6, 7 AND 25 LEAVE ALL AND REPORT RECORD 0
  module _ (w : Refusal) (p : first_broken (entry_rules u s bytes page) ≡ Err w) where
    pub asked_out : ask_call u s bytes page ≡ found_of (Err w) 0
    unfolding ask_call
    asked_out = rw (p, ask_call)

    pub took_out : take_call u s bytes page ≡ took Quiet s page
    unfolding take_call
    took_out = rw (p, take_call)

    pub entry_refused : step u s bytes page ≡ refused w 0 s page
    unfolding step
    entry_refused = λ k. both (asked_out k) (took_out k)

-- ASKING, THEN TAKING, IS THE ONE-RECORD CALL AS IT STOOD BEFORE IT WAS SPLIT: one elimination of what is found before the record is looked
-- at, and one of what is asked of it
pub as_before : (u : Setup) (s : State) (bytes page : List ℕ)
    → step u s bytes page
    ≡ elim (first_broken (entry_rules u s bytes page)) [
      | Ok x ↦
          elim (ask u s (record_for s bytes)) [
            | Ok x ↦ taken u s (record_for s bytes) page
            | Err w ↦ refused w s.core.number s page
          ]
      | Err w ↦ refused w 0 s page
    ]
as_before u s bytes page = enter (first_broken (entry_rules u s bytes page)) refl
  where
    Old : Verdict → Stepped
    Old v =
        elim v [
          | Ok x ↦
              elim (ask u s (record_for s bytes)) [
                | Ok x ↦ taken u s (record_for s bytes) page
                | Err w ↦ refused w s.core.number s page
              ]
          | Err w ↦ refused w 0 s page
        ]

    Asked : Verdict → Stepped
    Asked v = elim v [ Ok x ↦ taken u s (record_for s bytes) page | Err w ↦ refused w s.core.number s page ]

    enter : (v : Verdict) → first_broken (entry_rules u s bytes page) ≡ v → step u s bytes page ≡ Old (first_broken (entry_rules u s bytes page))
    enter (Err w) p = entry_refused u s bytes page w p ∙ sym (ap Old p)
    enter (Ok o) p = look (ask u s (record_for s bytes)) refl ∙ sym (ap Old p)
      where
        look : (v : Verdict) → ask u s (record_for s bytes) ≡ v → step u s bytes page ≡ Asked (ask u s (record_for s bytes))
        look (Ok o) q = step_takes u s bytes page p q ∙ sym (ap Asked q)
        look (Err w) q = step_refuses u s bytes page p w q ∙ sym (ap Asked q)

-- what holds of a call, shown by what it finds
pub by_step : (P : Stepped → Type 0) (u : Setup) (s : State) (bytes page : List ℕ)
    → (first_broken (entry_rules u s bytes page) ≡ Ok tt → ask u s (record_for s bytes) ≡ Ok tt → P (taken u s (record_for s bytes) page))
    → ((w : Refusal) (k : ℕ) → P (refused w k s page))
    → P (step u s bytes page)
by_step P u s bytes page f g = enter (first_broken (entry_rules u s bytes page)) refl
  where
    enter : (v : Verdict) → first_broken (entry_rules u s bytes page) ≡ v → P (step u s bytes page)
    enter (Err w) p = rw (entry_refused u s bytes page w p) (g w 0)
    enter (Ok o) p = look (ask u s (record_for s bytes)) refl
      where
        look : (v : Verdict) → ask u s (record_for s bytes) ≡ v → P (step u s bytes page)
        look (Ok o) q = rw (step_takes u s bytes page p q) (f p q)
        look (Err w) q = rw (step_refuses u s bytes page p w q) (g w s.core.number)

-- A CALL THAT DOES NOT TAKE ITS RECORD LEAVES STATE AND PAGE AS THEY WERE
pub record Untouched (s : State) (before : List ℕ) (x : Stepped) : Type 0 where
  pub state : x.next ≡ s
  pub page : x.page ≡ before
  pub beat : x.answer.beat ≡ Quiet

pub refused_leaves : (u : Setup) (s : State) (bytes page : List ℕ) → (number_of (step u s bytes page).answer.verdict ≡ 0 → ⊥)
    → Untouched s page (step u s bytes page)
refused_leaves u s bytes page =
    by_step (λ x. (number_of x.answer.verdict ≡ 0 → ⊥) → Untouched s page x) u s bytes page
    (λ p q h. absurd (h refl))
    (λ w k h. record { state = refl; page = refl; beat = refl })

-- ── Number 0 is given exactly where the record is taken ──

abbrev not_zero : ℕ → Bool
not_zero n = cond (eqb n 0) false true

entry_numbers : (u : Setup) (s : State) (bytes page : List ℕ) → all_numbers not_zero (entry_rules u s bytes page) ≡ true
unfolding entry_rules state_rules
entry_numbers u s bytes page = refl

rules_numbers : (u : Setup) (s : State) (r : Record) → all_numbers not_zero (rules_of u s r) ≡ true
unfolding rules every_rules command_rules place_rules minimum_rules mode_rules bus_rules
rules_numbers u s r =
    numbers_asked not_zero (executable (command r)) (command_rules_of u s r) refl

pub record Entering (u : Setup) (s : State) (bytes page : List ℕ) : Type 0 where
  pub entered : first_broken (entry_rules u s bytes page) ≡ Ok tt
  pub asked : ask u s (record_for s bytes) ≡ Ok tt

pub taken_at_zero : (u : Setup) (s : State) (bytes page : List ℕ) → number_of (step u s bytes page).answer.verdict ≡ 0 → Entering u s bytes page
unfolding ask
taken_at_zero u s bytes page z = enter (first_broken (entry_rules u s bytes page)) refl
  where
    enter : (v : Verdict) → first_broken (entry_rules u s bytes page) ≡ v → Entering u s bytes page
    enter (Err w) p =
        let h : number w ≡ 0 = subst (λ (x : Stepped). number_of x.answer.verdict ≡ 0) (entry_refused u s bytes page w p) z in
        let q : ◌≡◌ {A = Verdict} (Err w) (Ok tt) = zero_taken (entry_rules u s bytes page) (Err w) (entry_numbers u s bytes page) p h in
        let e : ◌≡◌ {A = ℕ} 0 1 = cc in
        absurd (omega arith)
    enter (Ok o) p = look (ask u s (record_for s bytes)) refl
      where
        look : (v : Verdict) → ask u s (record_for s bytes) ≡ v → Entering u s bytes page
        look (Ok o) q = record { entered = p; asked = q }
        look (Err w) q =
            let h : number w ≡ 0 = subst (λ (x : Stepped). number_of x.answer.verdict ≡ 0) (step_refuses u s bytes page p w q) z in
            let k : ◌≡◌ {A = Verdict} (Err w) (Ok tt) = zero_taken (rules_of u s (record_for s bytes)) (Err w) (rules_numbers u s (record_for s bytes)) q h in
            let e : ◌≡◌ {A = ℕ} 0 1 = cc in
            absurd (omega arith)

pub step_taken : (u : Setup) (s : State) (bytes page : List ℕ) → Entering u s bytes page → step u s bytes page ≡ taken u s (record_for s bytes) page
step_taken u s bytes page e = step_takes u s bytes page e.entered e.asked

-- ── DEMAND 3 by state ──

⊑_bank_fits : (m : Module) (b d : Bank) → Near b d → bank_fits m b ⊑ bank_fits m d
unfolding bank_fits
⊑_bank_fits m b d same = ⊑_self
⊑_bank_fits m b d (earlier h) = ⊑_and (⊑_and (⊑_leb h (le_refl _)) ⊑_self) ⊑_self

⊑_fits : (c : Core) {bs ds : List Bank} → NearBanks bs ds → fits (state_of c bs) ⊑ fits (state_of c ds)
unfolding fits
⊑_fits c h = ⊑_and {a = core_fits (core_module c) c} ⊑_self (⊑_every (bank_fits (core_module c)) (bank_fits (core_module c)) (⊑_bank_fits (core_module c)) h)

-- the same answer and page, and states that are near
pub record Agree (a b : Stepped) : Type 0 where
  pub answer : a.answer ≡ b.answer
  pub page : a.page ≡ b.page
  pub next : NearStates a.next b.next

module _ {t u : SpeedTable} (e : NowhereHarder t u) (fit : table_fits u ≡ true) (bytes page : List ℕ) where
  entry_softer : (c : Core) {bs ds : List Bank} → NearBanks bs ds
      → Softer (entry_rules (setup t) (state_of c bs) bytes page) (entry_rules (setup u) (state_of c ds) bytes page)
  unfolding entry_rules state_rules
  entry_softer c h = ⊑_self ▸ ⊑_self ▸ ⊑_self ▸ ⊑_true (table_fits t) fit ▸ ⊑_self ▸ ⊑_fits c h ▸ end

  -- what the easier table leaves, by the open row
  abbrev easier_left : Core → Record → List Bank → ℕ → Stepped
  easier_left c r ds row =
      stepped (answer_of (Ok tt) c.number (beat c r row)) (state_of (core_after c r row) (banks_after u c r (beat c r row) ds))
      (stored (core_module c) c.bank c.row r.dq (beat c r row) page)

  taken_agree : (c : Core) (r : Record) {bs ds : List Bank} → NearBanks bs ds → Agree (taken (setup t) (state_of c bs) r page) (taken (setup u) (state_of c ds) r page)
  unfolding next
  taken_agree c r {bs} {ds} h =
      subst (λ (row : ℕ). Agree (taken (setup t) (state_of c bs) r page) (easier_left c r ds row)) (near_row (near_at h r.ba))
      (record { answer = refl; page = refl; next = near (near_after e c r (own_beat (state_of c bs) r) h) })

  -- a record that the harder table takes from a state is taken by the easier one from each state near to it
  pub demand_3_step : {s s' : State} → NearStates s s' → number_of (step (setup t) s bytes page).answer.verdict ≡ 0
      → Agree (step (setup t) s bytes page) (step (setup u) s' bytes page)
  demand_3_step (near {c = c} {bs = bs} {ds = ds} h) z =
      let went = taken_at_zero (setup t) (state_of c bs) bytes page z in
      let goes : Entering (setup u) (state_of c ds) bytes page =
      record {
        entered = softer_taken (entry_softer c h) went.entered;
        asked = easier_taken e c (record_of (core_module c) bytes) h went.asked;
      } in
      rw (step_taken (setup t) (state_of c bs) bytes page went, step_taken (setup u) (state_of c ds) bytes page goes)
      (taken_agree c (record_of (core_module c) bytes) h)

-- ── Admitted stays admitted, by the call ──

pub period_most : (p : Ps) → period_fits p ≡ true → p.0 ≤ 65_535
period_most p h = leb-true _ _ (both_true (leb 1_000 p.0) (leb p.0 65_535) h).1

entered_of : (u : Setup) (s : State) (bytes page : List ℕ) → first_broken (entry_rules u s bytes page) ≡ Ok tt → s.core.number < number_max
    → Entered u s.core (record_for s bytes)
unfolding entry_rules state_rules
entered_of u s bytes page p h =
    let table = bounds u.table (kept 6 0 (entry_rules u s bytes page) p) in
    record {
      period = period_most s.core.period (kept 3 0 (entry_rules u s bytes page) p);
      trasmin = table.trasmin;
      addition = table.addition;
      widths = record_fits (state_module s) bytes;
      place = record_on (state_module s) bytes;
      number = h;
    }

admitted_of : (u : Setup) (s : State) (bytes page : List ℕ) → first_broken (entry_rules u s bytes page) ≡ Ok tt → Admitted s
unfolding entry_rules state_rules
admitted_of u s bytes page p = admitted s (kept 25 0 (entry_rules u s bytes page) p)

-- THE STATE BESIDE A TAKEN RECORD NEVER GETS 25, while its record number is below 2^41
pub taken_fits : (u : Setup) (s : State) (bytes page : List ℕ) → s.core.number < number_max
    → number_of (step u s bytes page).answer.verdict ≡ 0 → fits (step u s bytes page).next ≡ true
taken_fits u s bytes page h z =
    let e = taken_at_zero u s bytes page z in
    rw (step_taken u s bytes page e)
    (fits_admitted (next u s (record_for s bytes))
    (stays u s (record_for s bytes) (entered_of u s bytes page e.entered h) (admitted_of u s bytes page e.entered) e.asked))
