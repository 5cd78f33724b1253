-- One turn of the loop over records is one record of the fold. Assumes nothing.
use Rattle.std.specs.Prelude.{Ok, Err}
use Prim.Native.Nat.{ℕ, ◌+◌, ◌-◌, ◌*◌, ◌<◌}
use native.Mathlib.Omega.{arith}
use native.Mathlib.Numerals.{add-one}
use mathlib.Core.Path.{◌≡◌, refl, ap, sym, subst, ◌∙◌}
use mathlib.Core.List.{List, ◌∷◌}
use lib.ListN.{take, drop}
use lib.Seq.{drop-drop}
use Rattle.units.specs.declared.Clock.{Clock}
use Rattle.units.specs.Time.{at}
use Rattle.units.specs.declared.Module.{Module}
use Rattle.layout.specs.declared.Record.{Record}
use Rattle.layout.specs.Bytes.{record_of, records_of}
use Rattle.layout.specs.Widths.{Widths, OnModule}
use Rattle.layout.proofs.Widths.{record_fits, record_on}
use Rattle.bursts.specs.declared.Beat.{Beat}
use Rattle.page.specs.Store.{stored}
use Rattle.rules.specs.declared.Refusal.{Refusal}
use Rattle.rules.specs.declared.State.{State}
use Rattle.rules.specs.declared.Setup.{Setup}
use Rattle.rules.specs.declared.Core.{Core}
use Rattle.rules.specs.Numbers.{first_broken, Verdict}
use Rattle.rules.specs.Parts.{clock_of, core_module, state_module}
use Rattle.rules.specs.Rules.{rules, found, ask}
use Rattle.rules.specs.After.{core_from, core_after, next}
use Rattle.rules.specs.Calls.{Able, Call}
use Rattle.rules.specs.Report.{put_line}
use Rattle.rules.proofs.Admitted.{bank_fits_at}
use Rattle.rules.proofs.Runs.{next_number}
use Rattle.rules.proofs.Stays.{stays}
use Rattle.device.specs.Engine.{went, gone, went_by}
use Rattle.device.proofs.FoldRun.{went_taken, went_refused}
use Rattle.device.proofs.InPlace.{Settled}

-- ── What a state from which records may be judged gives ──

pub able_call : {u : Setup} {s : State} {count : ℕ} → Able u s count → 0 < count → (r : Record) → Widths r
    → Call u.table s.core s.banks r
able_call {s = s} a h r w =
    record {
      table = a.table;
      period = a.period;
      core = (a.state h).core;
      banks = record { each = λ i. bank_fits_at s.banks i (a.state h).banks };
      widths = w;
    }

next_period : (u : Setup) (s : State) (r : Record) → (next u s r).core.period ≡ s.core.period
unfolding next core_after core_from
next_period u s r = refl

pub able_next : (u : Setup) (s : State) (count : ℕ) (r : Record) → Able u s (count + 1) → Widths r → OnModule (state_module s) r → ask u s r ≡ Ok tt
    → Able u (next u s r) count
able_next u s count r a w o p =
    record {
      table = a.table;
      period = rw (next_period u s r) a.period;
      state =
          λ h.
          stays u s r
          (record {
            period = a.period;
            trasmin = a.table.trasmin;
            addition = a.table.addition;
            widths = w;
            place = o;
            number = omega (arith, a.room, h);
          })
          (a.state (omega arith)) p;
      room = omega (arith, a.room, next_number u s r);
    }

-- what asking gives by its parts is the record's verdict
pub asked_as : (u : Setup) (s : State) (r : Record) {c : Core} {n : Clock} {v : Verdict} → c ≡ s.core → n ≡ clock_of s.core r
    → v ≡ first_broken (rules u.table (core_module c) c.period (found c s.banks n) r n (at c.period n)) → ask u s r ≡ v
unfolding ask
asked_as u s r hc hn hv =
    sym
    (hv ∙ (λ i. first_broken (rules u.table (core_module (hc i)) (hc i).period (found (hc i) s.banks (hn i)) r (hn i) (at (hc i).period (hn i)))))

-- ── The turns ──

module _ (bytes : List ℕ) (count k : ℕ) (more : k < count) where
  -- the records from k on are record k and those from k + 1 on
  rest : (m : Module) → records_of m (count - k) (drop (16 * k) bytes) ≡ (record_of m (take 16 (drop (16 * k) bytes)) ∷ records_of m (count - (k + 1)) (drop (16 * (k + 1)) bytes))
  unfolding records_of
  rest m =
      let c : count - k ≡ (count - (k + 1)) + 1 = omega arith in
      let a : 16 * k + 16 ≡ 16 * (k + 1) = omega arith in
      ap (λ (x : ℕ). records_of m x (drop (16 * k) bytes)) (c ∙ add-one (count - (k + 1)))
      ∙ ap (λ (l : List ℕ). record_of m (take 16 (drop (16 * k) bytes)) ∷ records_of m (count - (k + 1)) l) (drop-drop 16 (16 * k) bytes ∙ ap (λ (x : ℕ). drop x bytes) a)

  module _ (u : Setup) (s : State) (r : Record) (w₀ : Beat) (page beats part : List ℕ) (same : part ≡ take 16 (drop (16 * k) bytes))
      (read : r ≡ record_of (state_module s) part) where
    abbrev m : Module
    m = state_module s

    abbrev after : List Record
    after = records_of m (count - (k + 1)) (drop (16 * (k + 1)) bytes)

    turn_at : went_by u s (records_of m (count - k) (drop (16 * k) bytes)) w₀ page beats ≡ went_by u s (r ∷ after) w₀ page beats
    turn_at =
        ap (λ (rs : List Record). went_by u s rs w₀ page beats) (rest m)
        ∙ ap (λ (x : Record). went_by u s (x ∷ after) w₀ page beats) (sym (read ∙ ap (record_of m) same))

    -- a record that is taken
    module _ (p : ask u s r ≡ Ok tt) {st : State} {w : Beat} (x : Settled u s r st w) where
      pub goes_on : {n : Clock} {page' beats' : List ℕ} → n ≡ clock_of s.core r
          → page' ≡ stored (state_module s) s.core.bank s.core.row r.dq w page
          → beats' ≡ put_line s.core.number (record { clock = n; beat = w }) beats
          → went_by u s (records_of m (count - k) (drop (16 * k) bytes)) w₀ page beats
          ≡ went_by u st after w page' beats'
      goes_on hn hp hb =
          turn_at
          ∙ went_taken u s r after page beats w₀ p
          ∙ sym (rw (hb, hp, hn, x.state, x.beat))

      pub stays_able : Able u s (count - k) → Able u st (count - (k + 1))
      stays_able a =
          let c : count - k ≡ (count - (k + 1)) + 1 = omega arith in
          let widths = subst (λ (y : Record). Widths y) (sym read) (record_fits m part) in
          let place = subst (λ (y : Record). OnModule m y) (sym read) (record_on m part) in
          subst (λ (y : State). Able u y (count - (k + 1))) (sym x.state)
          (able_next u s (count - (k + 1)) r (subst (λ (x : ℕ). Able u s x) c a) widths place p)

    -- one that is refused
    pub stops : (w : Refusal) → ask u s r ≡ Err w
        → went_by u s (records_of m (count - k) (drop (16 * k) bytes)) w₀ page beats ≡ gone (went (Err w) s.core.number w₀ s) page beats
    stops w p = turn_at ∙ went_refused u s r after page beats w₀ w p
