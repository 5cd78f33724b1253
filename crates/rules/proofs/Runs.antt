-- Laws of a run: by its first record's answer, what it reports, and that what it took is a clean trace of its own. Assumes nothing.
use Rattle.rules.specs.declared.Refusal.{Refusal}
use Rattle.rules.specs.Numbers.{Verdict}
use Rattle.std.specs.Prelude.{Ok, Err}
use Prim.Native.Nat.{ℕ, ◌+◌}
use native.Mathlib.Omega.{arith}
use mathlib.Core.Path.{◌≡◌, refl, ap, ◌∙◌}
use mathlib.Core.List.{List, [], ◌∷◌}
use lib.ListN.{length, take}
use Rattle.layout.specs.declared.Record.{Record}
use Rattle.bursts.specs.declared.Beat.{Beat}
use Rattle.rules.specs.declared.State.{State}
use Rattle.rules.specs.declared.Setup.{Setup}
use Rattle.rules.specs.Rules.{ask}
use Rattle.page.specs.Store.{stored}
use Rattle.rules.specs.Parts.{state_module}
use Rattle.rules.specs.After.{core_from, core_after, own_beat, next}
use Rattle.rules.specs.Run.{Run, line, with_line, run, page_after, page_left, all_taken, state_left, last_beat}

pub run_taken : (u : Setup) (s : State) (r : Record) (rs : List Record) → ask u s r ≡ Ok tt
    → run u s (r ∷ rs) ≡ with_line (line s r) (run u (next u s r) rs)
unfolding run
run_taken u s r rs p = rw (p, run)

pub run_refused : (u : Setup) (s : State) (r : Record) (rs : List Record) (w : Refusal) → ask u s r ≡ Err w
    → run u s (r ∷ rs) ≡ record { verdict = Err w; reported = s.core.number; lines = [] }
unfolding run
run_refused u s r rs w p = rw (p, run)

-- what holds of a run, shown by whether its first record is taken
pub by_answer : (P : Run → Type 0) (u : Setup) (s : State) (r : Record) (rs : List Record)
    → (ask u s r ≡ Ok tt → P (with_line (line s r) (run u (next u s r) rs)))
    → ((w : Refusal) → ask u s r ≡ Err w → P (record { verdict = Err w; reported = s.core.number; lines = [] }))
    → P (run u s (r ∷ rs))
by_answer P u s r rs f g = go (ask u s r) refl
  where
    go : (a : Verdict) → ask u s r ≡ a → P (run u s (r ∷ rs))
    go (Ok o) p = rw (run_taken u s r rs p) (f p)
    go (Err w) p = rw (run_refused u s r rs w p) (g w p)

pub next_number : (u : Setup) (s : State) (r : Record) → (next u s r).core.number ≡ s.core.number + 1
unfolding next core_after core_from
next_number u s r = refl

-- a run reports no record before the one that it starts at, and as many lines as it has passed records
pub reports : (u : Setup) (s : State) (rs : List Record) → (run u s rs).reported ≡ s.core.number + length (run u s rs).lines
unfolding run
reports u s [] = omega arith
reports u s (r ∷ rs) =
    by_answer (λ a. a.reported ≡ s.core.number + length a.lines) u s r rs
    (λ p. omega (arith, reports u (next u s r) rs, next_number u s r))
    (λ w p. omega arith)

-- the records that a run took, alone, are clean, with the same lines
pub before_stop : (u : Setup) (s : State) (rs : List Record)
    → run u s (take (length (run u s rs).lines) rs) ≡ record { verdict = Ok tt; reported = (run u s rs).reported; lines = (run u s rs).lines }
unfolding run
before_stop u s [] = refl
before_stop u s (r ∷ rs) =
    by_answer (λ a. run u s (take (length a.lines) (r ∷ rs)) ≡ record { verdict = Ok tt; reported = a.reported; lines = a.lines }) u s r rs
    (λ p. run_taken u s r (take (length (run u (next u s r) rs).lines) rs) p ∙ ap (with_line (line s r)) (before_stop u (next u s r) rs))
    (λ w p. refl)

-- ── What a run leaves, by its first record's answer ──

-- the page after one record that is taken
abbrev pub page_next : State → Record → List ℕ → List ℕ
page_next s r page = stored (state_module s) s.core.bank s.core.row r.dq (own_beat s r) page

module _ (u : Setup) (s : State) (r : Record) (rs : List Record) (v : Run) where
  pub page_on : (page : List ℕ) → page_left s (r ∷ rs) (with_line (line s r) v) page ≡ page_left (next u s r) rs v (page_next s r page)
  unfolding next core_after core_from page_after
  page_on page = refl

  pub state_on : state_left u s (r ∷ rs) (with_line (line s r) v) ≡ state_left u (next u s r) rs v
  unfolding all_taken
  state_on = refl

  pub beat_on : (w : Beat) → last_beat w (with_line (line s r) v).lines ≡ last_beat (own_beat s r) v.lines
  beat_on w = refl

-- none taken, none left
pub page_same : (s : State) (rs : List Record) (page : List ℕ) (v : Run) → v.lines ≡ [] → page_left s rs v page ≡ page
unfolding page_after
page_same s rs page v h = ap (λ ls. page_after (state_module s) s.core.bank s.core.row rs ls page) h ∙ none rs
  where
    none : (rs : List Record) → page_after (state_module s) s.core.bank s.core.row rs [] page ≡ page
    none [] = refl
    none (r ∷ rs) = refl

pub state_same : (u : Setup) (s : State) (rs : List Record) (v : Run) → v.lines ≡ [] → state_left u s rs v ≡ s
unfolding all_taken
state_same u s rs v h = ap (λ ls. all_taken u s (take (length ls) rs)) h
