-- A state from which records may be judged, and what it leaves for those after a taken one. Assumes nothing.
use Rattle.std.specs.Prelude.{Ok}
use Prim.Native.Nat.{ℕ, zero, suc, ◌+◌, ◌*◌, ◌/◌, ◌%◌, ◌≤◌}
use native.Mathlib.Omega.{arith}
use native.Mathlib.Numerals.{add-one}
use mathlib.Core.Path.{◌≡◌, refl, sym, subst, ◌∙◌}
use mathlib.Core.Bool.{Bool, true, false, ◌&&◌, cond}
use mathlib.Core.List.{List}
use lib.Dec.{eqb}
use lib.ListN.{length, set, length-set}
use borrow.Author.Tests.{eq-eqb, eqb-true}
use Rattle.units.specs.declared.Module.{Module}
use Rattle.units.specs.Module.{lanes, page_bytes}
use Rattle.speed.specs.Table.{table_fits}
use Rattle.speed.proofs.Bounds.{bounds}
use Rattle.layout.specs.declared.Record.{Record}
use Rattle.layout.specs.Widths.{Widths, OnModule}
use Rattle.layout.proofs.ReadBack.{sixteen_pass}
use Rattle.layout.proofs.Widths.{record_fits, record_on}
use Rattle.bursts.specs.declared.Beat.{Beat}
use Rattle.bursts.specs.declared.Beat.TheVariants.{Quiet, Stores, Drives}
use Rattle.page.specs.Store.{put_lanes, put_cells, stored}
use Rattle.rules.specs.declared.State.{State}
use Rattle.rules.specs.declared.Setup.{Setup}
use Rattle.rules.specs.Parts.{state_module}
use Rattle.rules.specs.Numbers.{first_broken}
use Rattle.rules.specs.Rules.{ask}
use Rattle.rules.specs.After.{own_beat, core_from, core_after, next}
use Rattle.rules.specs.Calls.{Able}
use Rattle.rules.specs.OneRecord.{period_fits, grade_known, state_rules, entry_rules, record_for}
use Rattle.rules.specs.Fits.{number_max}
use Rattle.rules.proofs.Kept.{kept}
use Rattle.rules.proofs.OneRecord.{period_most}
use Rattle.rules.proofs.Admitted.{admitted, fits_admitted}
use Rattle.rules.proofs.Runs.{page_next}
use Rattle.device.proofs.Folds.{able_next}

-- ── A store keeps the page's length ──

lanes_length : (k at low dq : ℕ) (page : List ℕ) → length (put_lanes k at low dq page) ≡ length page
unfolding put_lanes
lanes_length zero at low dq page = refl
lanes_length (suc k) at low dq page =
    lanes_length k (at + 1) (low / 2) (dq / 256) (cond (eqb (low % 2) 1) (set page at (dq % 256)) page) ∙ go (eqb (low % 2) 1)
  where
    go : (b : Bool) → length (cond b (set page at (dq % 256)) page) ≡ length page
    go true = length-set page at (dq % 256)
    go false = refl

pub stored_length : (m : Module) (bank row dq : ℕ) (b : Beat) (page : List ℕ) → length (stored m bank row dq b page) ≡ length page
unfolding stored
stored_length m bank row dq Quiet page = refl
stored_length m bank row dq (Stores c) page = go (eqb c.bank bank && eqb c.row row)
  where
    go : (b : Bool) → length (cond b (put_cells m c dq page) page) ≡ length page
    go true = lanes_length (lanes m) (lanes m * c.column) c.lanes dq page
    go false = refl
stored_length m bank row dq (Drives c) page = refl

-- ── What each call of the walk is entered with ──

-- a state from which so many records may still be judged, whose period, table and page pass 3, 6 and 7
pub record Ready (u : Setup) (s : State) (count : ℕ) (page : List ℕ) : Type 0 where
  pub able : Able u s count
  pub period : period_fits s.core.period ≡ true
  pub grade : grade_known s.core.grade ≡ true
  pub table : table_fits u.table ≡ true
  pub lent : length page ≡ page_bytes (state_module s)

-- a call that passes them is ready for as many records as have numbers up to 2^41
pub ready_of : (u : Setup) (s : State) (count : ℕ) (page : List ℕ) → first_broken (state_rules u s (length page)) ≡ Ok tt
    → s.core.number + count ≤ suc number_max → Ready u s count page
unfolding state_rules
ready_of u s count page p most =
    let l = state_rules u s (length page) in
    record {
      able =
          record {
            table = bounds u.table (kept 6 0 l p);
            period = period_most s.core.period (kept 3 0 l p);
            state = λ h. admitted s (kept 25 0 l p);
            room = most;
          };
      period = kept 3 0 l p;
      grade = kept 4 0 l p;
      table = kept 6 0 l p;
      lent = eqb-true (length page) (page_bytes (state_module s)) (kept 7 0 l p);
    }

-- 3, 4, 6, 7 and 25 pass
pub ready_state : (u : Setup) (s : State) (count : ℕ) (page : List ℕ) → Ready u s (suc count) page → first_broken (state_rules u s (length page)) ≡ Ok tt
unfolding state_rules
ready_state u s count page e =
    rw (e.period, e.grade, e.table, eq-eqb (length page) (page_bytes (state_module s)) e.lent, fits_admitted s (e.able.state (omega arith)))

-- and 1
pub ready_entered : (u : Setup) (s : State) (count : ℕ) (bytes page : List ℕ) → Ready u s (suc count) page → length bytes ≡ 16
    → first_broken (entry_rules u s bytes page) ≡ Ok tt
unfolding entry_rules
ready_entered u s count bytes page e h = rw (sixteen_pass (state_module s) bytes h) (ready_state u s count page e)

-- a taken record leaves the same for one record less
module _ (u : Setup) (s : State) (k : ℕ) (r : Record) (page : List ℕ) where
  pub ready_after : Ready u s (suc k) page → Widths r → OnModule (state_module s) r → ask u s r ≡ Ok tt → Ready u (next u s r) k (page_next s r page)
  unfolding next core_after core_from
  ready_after e w o p =
      record {
        able = able_next u s k r (subst (λ (c : ℕ). Able u s c) (sym (add-one k)) e.able) w o p;
        period = e.period;
        grade = e.grade;
        table = e.table;
        lent = stored_length (state_module s) s.core.bank s.core.row r.dq (own_beat s r) page ∙ e.lent;
      }

pub ready_next : (u : Setup) (s : State) (k : ℕ) (bytes page : List ℕ) → Ready u s (suc k) page → ask u s (record_for s bytes) ≡ Ok tt
    → Ready u (next u s (record_for s bytes)) k (page_next s (record_for s bytes) page)
ready_next u s k bytes page e p =
    ready_after u s k (record_for s bytes) page e (record_fits (state_module s) bytes) (record_on (state_module s) bytes) p
