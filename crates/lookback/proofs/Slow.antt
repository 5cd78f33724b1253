-- THE JUDGE THAT LOOKS BACK IS THE JUDGE: verdict, record, every line and the page, for any number of records. Assumes nothing.
use Rattle.rules.specs.declared.Refusal.{Refusal}
use Rattle.rules.specs.Numbers.{Verdict}
use Rattle.std.specs.Prelude.{Ok, Err}
use Prim.Native.Nat.{ℕ, ◌+◌, ◌≤◌}
use native.Mathlib.Omega.{arith}
use mathlib.Core.Path.{◌≡◌, refl, ap, ap₂, sym, ◌∙◌}
use mathlib.Core.Bool.{Bool, not, ◌&&◌}
use mathlib.Core.List.{List, [], ◌∷◌}
use Rattle.units.specs.declared.Clock.{Clock}
use Rattle.units.specs.declared.Ps.{Ps}
use Rattle.units.specs.Module.{module_of}
use Rattle.layout.specs.declared.Record.{Record}
use Rattle.bursts.specs.Bus.{one_before, two_before, drives_lane, driven, bus_clear}
use Rattle.rules.specs.declared.State.{State}
use Rattle.rules.specs.declared.Setup.{Setup}
use Rattle.rules.specs.Parts.{start}
use Rattle.rules.specs.Rules.{ask}
use Rattle.rules.specs.After.{own_row}
use Rattle.rules.specs.Run.{Run, line, with_line, run, page_after}
use Rattle.rules.proofs.Rows.{banks_kept}
use Rattle.rules.proofs.Runs.{run_taken, run_refused}
use Rattle.lookback.specs.Past.{first_free, clock_in, count, newest, masks_at}
use Rattle.lookback.specs.Beats.{drives_in, clear_in}
use Rattle.lookback.specs.Look.{look, line_in, look_run}
use Rattle.lookback.proofs.Fold.{after}
use Rattle.lookback.proofs.Held.{held}
use Rattle.lookback.proofs.HeldMasks.{masks_held, same_masks}
use Rattle.lookback.proofs.FourReads.{Words, held_beat}
use Rattle.lookback.proofs.OwnBeats.{reads_found}
use Rattle.lookback.proofs.State.{state_in, free_clock}
use Rattle.lookback.proofs.OneMore.{beat_one, same_row}
use Rattle.lookback.proofs.Tied.{Took, Tied, after_more, tied}
use Rattle.lookback.proofs.AutoBursts.{same_finished}

-- ── Number 20 ──

same_driven : (past : List Record) (n : Clock) → Words past → first_free past ≤ n.0 + 1
    → driven (newest past) (masks_held past) (held past) n ≡ drives_in past n
unfolding driven drives_in
same_driven past n w h =
    let m = masks_at past (two_before n) in
    rw (same_masks past (two_before n) (omega arith)) (ap drives_lane (held_beat past m n w h ∙ reads_found past m n h))

same_clear : (past : List Record) (n : Clock) → Words past → first_free past ≤ n.0
    → bus_clear (newest past) (masks_held past) (held past) n ≡ clear_in past n
unfolding bus_clear clear_in
same_clear past n w h =
    ap₂ (λ (x y : Bool). not x && not y) (same_driven past n w (omega arith)) (same_driven past (one_before n) w (omega arith))

-- ── One record ──

module _ (u : Setup) (period : Ps) (grade bank row : ℕ) where
  same_answer : (past : List Record) (r : Record) → Took u (start period grade bank row) past
      → ask u (state_in u.table period grade bank row past) r ≡ look u (module_of grade) period past r
  unfolding ask look
  same_answer past r k =
      rw (
        free_clock past,
        same_finished u period grade bank row past k (clock_in past r) (omega arith),
        same_clear past (clock_in past r) (tied u period grade bank row past k).words (omega arith),
      )

  same_line : (past : List Record) (r : Record) → Tied u period grade bank row past
      → ask u (state_in u.table period grade bank row past) r ≡ Ok tt
      → line (state_in u.table period grade bank row past) r ≡ line_in past r
  same_line past r d p =
      let s = state_in u.table period grade bank row past in
      let w : Words (r ∷ past) = (d.word, d.words) in
      rw (
        beat_one u.table period grade bank row r past (own_row s r)
            (same_row u period grade bank row r past (banks_kept u s r p) d.begun w) w,
        free_clock past,
      )

  -- ── All records ──

  look_taken : (past : List Record) (r : Record) (rs : List Record) → look u (module_of grade) period past r ≡ Ok tt
      → look_run u (module_of grade) period past (r ∷ rs)
      ≡ with_line (line_in past r) (look_run u (module_of grade) period (r ∷ past) rs)
  unfolding look_run
  look_taken past r rs p = rw (p, look_run)

  look_refused : (past : List Record) (r : Record) (rs : List Record) (w : Refusal)
      → look u (module_of grade) period past r ≡ Err w
      → look_run u (module_of grade) period past (r ∷ rs) ≡ record { verdict = Err w; reported = count past; lines = [] }
  unfolding look_run
  look_refused past r rs w p = rw (p, look_run)

  run_none : (s : State) → run u s [] ≡ record { verdict = Ok tt; reported = s.core.number; lines = [] }
  unfolding run
  run_none s = refl

  look_none : (past : List Record)
      → look_run u (module_of grade) period past [] ≡ record { verdict = Ok tt; reported = count past; lines = [] }
  unfolding look_run
  look_none past = refl

  same_run : (past rs : List Record) → Took u (start period grade bank row) past
      → look_run u (module_of grade) period past rs ≡ run u (after u (start period grade bank row) past) rs
  same_run past [] k =
      look_none past
      ∙ (ap (λ (s : State). record { verdict = Ok tt; reported = s.core.number; lines = [] })
      (sym (tied u period grade bank row past k).state)
      ∙ sym (run_none (after u (start period grade bank row) past)))
  same_run past (r ∷ rs) k = go (ask u (after u (start period grade bank row) past) r) refl (λ p. same_run (r ∷ past) rs (p, k))
    where
      s : State
      s = after u (start period grade bank row) past

      same : after u (start period grade bank row) past ≡ state_in u.table period grade bank row past
      same = (tied u period grade bank row past k).state

      answer : ask u (after u (start period grade bank row) past) r ≡ look u (module_of grade) period past r
      answer = ap (λ (x : State). ask u x r) same ∙ same_answer past r k

      go : (v : Verdict) → ask u (after u (start period grade bank row) past) r ≡ v
          → (ask u (after u (start period grade bank row) past) r ≡ Ok tt
          → look_run u (module_of grade) period (r ∷ past) rs ≡ run u (after u (start period grade bank row) (r ∷ past)) rs)
          → look_run u (module_of grade) period past (r ∷ rs) ≡ run u (after u (start period grade bank row) past) (r ∷ rs)
      go (Ok o) p h =
          look_taken past r rs (sym answer ∙ p)
          ∙ (ap₂ with_line
          (sym
          (ap (λ (x : State). line x r) same
          ∙ same_line past r (tied u period grade bank row past k) (sym (ap (λ (x : State). ask u x r) same) ∙ p)))
          (h p ∙ ap (λ (x : State). run u x rs) (after_more u (start period grade bank row) r past))
          ∙ sym (run_taken u s r rs p))
      go (Err w) p h =
          look_refused past r rs w (sym answer ∙ p)
          ∙ (ap (λ (x : State). record { verdict = Err w; reported = x.core.number; lines = [] }) (sym same)
          ∙ sym (run_refused u s r rs w p))

  after_none : after u (start period grade bank row) [] ≡ start period grade bank row
  unfolding after
  after_none = refl

  -- verdict, reported record and every line
  pub slow_is_judge : (rs : List Record) → look_run u (module_of grade) period [] rs ≡ run u (start period grade bank row) rs
  slow_is_judge rs = same_run [] rs tt ∙ ap (λ (s : State). run u s rs) after_none

  -- and the page
  pub slow_page : (rs : List Record) (page : List ℕ)
      → page_after (module_of grade) bank row rs (look_run u (module_of grade) period [] rs).lines page
      ≡ page_after (module_of grade) bank row rs (run u (start period grade bank row) rs).lines page
  slow_page rs page = ap (λ (a : Run). page_after (module_of grade) bank row rs a.lines page) (slow_is_judge rs)
