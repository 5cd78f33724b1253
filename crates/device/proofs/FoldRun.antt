-- What judging records leaves, by its run and by its first record's answer. Assumes nothing.
use Rattle.std.specs.Prelude.{Ok, Err}
use Prim.Native.Nat.{ℕ}
use mathlib.Core.Path.{◌≡◌, refl, ap}
use mathlib.Core.List.{List, [], ◌∷◌}
use Rattle.layout.specs.declared.Record.{Record}
use Rattle.bursts.specs.declared.Beat.{Beat}
use Rattle.rules.specs.declared.Refusal.{Refusal}
use Rattle.rules.specs.declared.State.{State}
use Rattle.rules.specs.declared.Setup.{Setup}
use Rattle.rules.specs.Rules.{ask}
use Rattle.rules.specs.After.{core_from, core_after, own_beat, next}
use Rattle.rules.specs.Run.{Run, line, run, page_after, page_left, all_taken}
use Rattle.rules.specs.Report.{put_line, lines_into, Left, left, ran, fold}
use Rattle.rules.proofs.Runs.{run_taken, run_refused, page_next}
use Rattle.device.specs.Engine.{went, gone, run_left, went_by}

-- ── Page and beats ──

-- what a run leaves of page and beats
abbrev pub from_run : State → List Record → List ℕ → List ℕ → Run → Left
from_run s rs page beats v =
    left (ran v.verdict v.reported) (page_left s rs v page) (lines_into s.core.number v.lines beats)

pub fold_run : (u : Setup) (s : State) (rs : List Record) (page beats : List ℕ) → fold u s rs page beats ≡ from_run s rs page beats (run u s rs)
unfolding fold
fold_run u s rs page beats = refl

module _ (u : Setup) (s : State) (r : Record) (rs : List Record) (page beats : List ℕ) where
  pub fold_taken : ask u s r ≡ Ok tt
      → fold u s (r ∷ rs) page beats ≡ fold u (next u s r) rs (page_next s r page) (put_line s.core.number (line s r) beats)
  unfolding fold next core_after core_from page_after lines_into
  fold_taken p = ap (from_run s (r ∷ rs) page beats) (run_taken u s r rs p)

  pub fold_refused : (w : Refusal) → ask u s r ≡ Err w → fold u s (r ∷ rs) page beats ≡ left (ran (Err w) s.core.number) page beats
  unfolding fold page_after lines_into
  fold_refused w p = ap (from_run s (r ∷ rs) page beats) (run_refused u s r rs w p)

  -- ── With the state and the last beat ──

  module _ (w : Beat) where
    pub went_taken : ask u s r ≡ Ok tt
        → went_by u s (r ∷ rs) w page beats
        ≡ went_by u (next u s r) rs (own_beat s r) (page_next s r page) (put_line s.core.number (line s r) beats)
    unfolding went_by next core_after core_from page_after lines_into all_taken
    went_taken p = ap (run_left u s (r ∷ rs) w page beats) (run_taken u s r rs p)

    pub went_refused : (v : Refusal) → ask u s r ≡ Err v → went_by u s (r ∷ rs) w page beats ≡ gone (went (Err v) s.core.number w s) page beats
    unfolding went_by page_after lines_into all_taken
    went_refused v p = ap (run_left u s (r ∷ rs) w page beats) (run_refused u s r rs v p)

pub went_none : (u : Setup) (s : State) (w : Beat) (page beats : List ℕ) → went_by u s [] w page beats ≡ gone (went (Ok tt) s.core.number w s) page beats
unfolding went_by run page_after lines_into all_taken
went_none u s w page beats = refl
