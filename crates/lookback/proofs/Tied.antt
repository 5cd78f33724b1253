-- THE STATE AFTER TAKEN RECORDS IS WHAT LOOKING BACK FINDS. Assumes nothing.
use Rattle.std.specs.Prelude.{Ok}
use Prim.Native.Nat.{ℕ, ◌≤◌}
use native.Mathlib.Omega.{arith}
use mathlib.Core.Path.{◌≡◌, refl, ap, sym, ◌∙◌}
use mathlib.Core.Bool.{Bool, true, false, true≢false}
use mathlib.Core.List.{List, [], ◌∷◌}
use Rattle.units.specs.declared.Ps.{Ps}
use Rattle.units.specs.Module.{module_of}
use Rattle.speed.specs.declared.SpeedTable.{SpeedTable}
use Rattle.layout.specs.declared.Record.{Record}
use Rattle.layout.specs.declared.Command.{Command}
use Rattle.layout.specs.declared.Command.TheVariants.{
  Inhibit,
  Nop,
  Active,
  Read,
  Write,
  Terminate,
  Precharge,
  Refresh,
  LoadMode,
}
use Rattle.layout.specs.Commands.{command, is, access, executable}
use Rattle.mode.specs.Word.{latency}
use Rattle.rules.specs.declared.State.{State}
use Rattle.rules.specs.declared.Setup.{Setup}
use Rattle.rules.specs.Numbers.{◌⇒◌}
use Rattle.rules.specs.Parts.{now, start}
use Rattle.rules.specs.StartUp.{begun, allowed}
use Rattle.rules.specs.Banks.{is_closed}
use Rattle.rules.specs.Rules.{ask}
use Rattle.rules.specs.After.{next}
use Rattle.rules.proofs.Rows.{allowed_kept, banks_kept, mode_kept}
use Rattle.lookback.specs.StartUp.{closes_all, mode_in, startup_in}
use Rattle.lookback.specs.Banks.{or_these, back_to_close, status_in}
use Rattle.lookback.specs.Beats.{stored_in}
use Rattle.lookback.proofs.Fold.{after}
use Rattle.lookback.proofs.Held.{write_back, reads_back}
use Rattle.lookback.proofs.HeldMasks.{masks_held}
use Rattle.lookback.proofs.FourReads.{Words}
use Rattle.lookback.proofs.State.{state_in}
use Rattle.lookback.proofs.Latency.{word_more}
use Rattle.lookback.proofs.OneMore.{state_more}

-- ── Nothing is closed before the first PRECHARGE ALL ──

idle : (k : Command) → executable k ≡ false → ((is k Active ≡ false) × (access k ≡ false)) × (is k Precharge ≡ false)
idle Inhibit h = ((refl, refl), refl)
idle Nop h = ((refl, refl), refl)
idle Active h = absurd (true≢false h)
idle Read h = absurd (true≢false h)
idle Write h = absurd (true≢false h)
idle Terminate h = absurd (true≢false h)
idle Precharge h = absurd (true≢false h)
idle Refresh h = absurd (true≢false h)
idle LoadMode h = absurd (true≢false h)

or_none : (l : List Record) → or_these l [] ≡ l
or_none [] = refl
or_none (x ∷ xs) = refl

idle_status : (t : SpeedTable) (period : Ps) (i : ℕ) (r : Record) (past : List Record) → executable (command r) ≡ false
    → status_in t period i (r ∷ past) ≡ status_in t period i past
idle_status t period i r past h =
    let e = idle (command r) h in
    rw (e.0.0, e.0.1, e.1, or_none (back_to_close i past))

closed_begun : (t : SpeedTable) (period : Ps) (i : ℕ) (r : Record) (past : List Record) (now : Ps)
    → (executable (command r) ⇒ allowed (command r) r now (startup_in past)) ≡ true
    → (is_closed (status_in t period i past) ≡ true → begun (startup_in past) ≡ true)
    → is_closed (status_in t period i (r ∷ past)) ≡ true → begun (startup_in (r ∷ past)) ≡ true
unfolding allowed
closed_begun t period i r past now a g c = go (closes_all r) (begun (startup_in past)) (executable (command r)) refl refl refl
  where
    go : (x y z : Bool) → closes_all r ≡ x → begun (startup_in past) ≡ y → executable (command r) ≡ z
        → begun (startup_in (r ∷ past)) ≡ true
    go true y z e f h = rw e
    go false true z e f h = rw e f
    go false false true e f h = absurd (true≢false (sym (rw (h, f, e) at a)))
    go false false false e f h = rw e (g (rw (idle_status t period i r past h) at c))

-- ── All of it ──

-- each of these records was taken after those before it
abbrev pub Took : Setup → State → List Record → Type 0
Took u s [] = Unit {0}
Took u s (r ∷ past) = (ask u (after u s past) r ≡ Ok tt) × Took u s past

-- the state is what looking back finds; nothing is closed before the first PRECHARGE ALL; CL is at most 3, now and at each record
pub record Tied (u : Setup) (period : Ps) (grade bank row : ℕ) (past : List Record) : Type 0 where
  pub state : after u (start period grade bank row) past ≡ state_in u.table period grade bank row past
  pub begun : (i : ℕ) → is_closed (status_in u.table period i past) ≡ true → begun (startup_in past) ≡ true
  pub word : latency (mode_in past) ≤ 3
  pub words : Words past

pub after_more : (u : Setup) (s : State) (r : Record) (past : List Record) → after u s (r ∷ past) ≡ next u (after u s past) r
unfolding after
after_more u s r past = refl

module _ (u : Setup) (period : Ps) (grade bank row : ℕ) where
  nothing_yet : Tied u period grade bank row []
  unfolding after write_back reads_back stored_in masks_held
  nothing_yet = record { state = refl; begun = λ i h. absurd (true≢false (sym h)); word = omega arith; words = tt }

  one_more_taken : (r : Record) (past : List Record) → ask u (after u (start period grade bank row) past) r ≡ Ok tt
      → Tied u period grade bank row past → Tied u period grade bank row (r ∷ past)
  one_more_taken r past k d =
      let s = state_in u.table period grade bank row past in
      let p : ask u s r ≡ Ok tt = rw d.state at k in
      record {
        state =
            after_more u (start period grade bank row) r past
            ∙ (ap (λ (x : State). next u x r) d.state
            ∙ state_more u period grade bank row r past (banks_kept u s r p) d.begun (d.word, d.words));
        begun = λ i. closed_begun u.table period i r past (now s.core r) (allowed_kept u s r p) (d.begun i);
        word = word_more (module_of grade) r past (mode_kept u s r p) d.word;
        words = (d.word, d.words);
      }

  pub tied : (past : List Record) → Took u (start period grade bank row) past → Tied u period grade bank row past
  tied [] k = nothing_yet
  tied (r ∷ past) k = one_more_taken r past k.0 (tied past k.1)
