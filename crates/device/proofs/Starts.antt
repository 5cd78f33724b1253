-- The call that judges many records, by what it finds before the first. Assumes nothing.
use Rattle.std.specs.Prelude.{Ok, Err}
use Prim.Native.Nat.{ℕ, zero, suc, ◌+◌, ◌-◌, ◌*◌, ◌/◌, ◌%◌, ◌≤◌, ◌<◌}
use native.Mathlib.Omega.{arith}
use native.Mathlib.Nat.{zero-add, suc-add}
use mathlib.Core.Path.{◌≡◌, refl, ap, sym, ◌∙◌}
use mathlib.Core.Bool.{Bool, true, false, cond}
use mathlib.Core.List.{List, [], ◌∷◌}
use lib.Dec.{leb}
use lib.ListN.{length, take, drop}
use lib.Seq.{take-take}
use borrow.Author.Tests.{le-leb, lt-leb, leb-true, leb-false, eqb-true}
use Rattle.units.specs.declared.Module.{Module}
use Rattle.speed.proofs.Bounds.{bounds}
use Rattle.layout.specs.Bytes.{record_of, records_of}
use Rattle.layout.specs.declared.Record.{Record}
use Rattle.rules.specs.declared.Refusal.{Refusal}
use Rattle.rules.specs.declared.State.{State}
use Rattle.rules.specs.declared.Setup.{Setup}
use Rattle.rules.specs.declared.Ran.{Ran}
use Rattle.bursts.specs.declared.Beat.{Beat}
use Rattle.bursts.specs.declared.Beat.TheVariants.{Quiet}
use Rattle.rules.specs.Parts.{state_module}
use Rattle.rules.specs.Numbers.{first_broken, Verdict}
use Rattle.rules.specs.Fits.{number_max}
use Rattle.rules.specs.OneRecord.{state_rules}
use Rattle.rules.specs.Calls.{Able}
use Rattle.rules.specs.Run.{Run, run, state_left, beat_left}
use Rattle.rules.specs.Report.{
  Left,
  left,
  ran,
  fold,
  records_rules,
  room,
  above_number_max,
  past_room,
  within_room,
  records_in,
  records_lent,
  records_call,
  call_run,
  records_next,
}
use Rattle.rules.proofs.Admitted.{admitted}
use Rattle.rules.proofs.Kept.{kept}
use Rattle.rules.proofs.Runs.{state_same}
use Rattle.device.specs.declared.Went.{Went}
use Rattle.device.specs.Engine.{Gone, gone, went_by, above_max}
use Rattle.rules.proofs.OneRecord.{period_most}
use Rattle.admitting.proofs.Ladder.{records_ladder}

-- verdict and reported record
abbrev pub left_of : Went → Ran
left_of w = ran w.verdict w.reported

-- so many of the records, those whose numbers are not above 2^41
abbrev pub at_most : ℕ → ℕ → ℕ
at_most count most = cond (leb count most) count most

pub at_most_all : (count most : ℕ) → count ≤ most → count ≡ at_most count most
at_most_all count most h = rw (le-leb count most h)

pub at_most_room : (count most : ℕ) → most < count → most ≡ at_most count most
at_most_room count most h = rw (lt-leb count most h)

pub most_fits : (count number : ℕ) → number ≤ number_max → number + at_most count (suc number_max - number) ≤ suc number_max
most_fits count number h = go (leb count (suc number_max - number)) refl
  where
    go : (x : Bool) → leb count (suc number_max - number) ≡ x → number + cond x count (suc number_max - number) ≤ suc number_max
    go true e = omega (arith, leb-true count (suc number_max - number) e)
    go false e = omega arith

pub most_within : (count most : ℕ) → at_most count most ≤ count
most_within count most = go (leb count most) refl
  where
    go : (x : Bool) → leb count most ≡ x → cond x count most ≤ count
    go true e = omega arith
    go false e = omega (arith, leb-false count most e)

pub most_room : (count most : ℕ) → at_most count most ≤ most
most_room count most = go (leb count most) refl
  where
    go : (x : Bool) → leb count most ≡ x → cond x count most ≤ most
    go true e = leb-true count most e
    go false e = omega arith

-- what a call that is entered may rely on
pub record Entry (u : Setup) (s : State) (bytes : ℕ) : Type 0 where
  pub whole : bytes % 16 ≡ 0
  pub number : s.core.number ≤ number_max
  pub able : Able u s (at_most (bytes / 16) (room s))

pub entry_of : (u : Setup) (s : State) (bytes lent : ℕ) → first_broken (records_rules u s bytes lent) ≡ Ok tt → Entry u s bytes
unfolding records_rules state_rules
entry_of u s bytes lent p =
    let first = kept 1 0 (records_rules u s bytes lent) p in
    let q = sym (records_ladder u s bytes lent first) ∙ p in
    let a = admitted s (kept 25 0 (state_rules u s lent) q) in
    record {
      whole = eqb-true _ _ first;
      number = a.core.number;
      able =
          record {
            table = bounds u.table (kept 6 0 (state_rules u s lent) q);
            period = period_most s.core.period (kept 3 0 (state_rules u s lent) q);
            state = λ h. a;
            room = most_fits (bytes / 16) s.core.number a.core.number;
          };
    }

-- ── The first records of a slice ──

drop_take : (n m : ℕ) (l : List ℕ) → drop n (take (n + m) l) ≡ take m (drop n l)
drop_take zero m l = ap (λ (k : ℕ). take k l) (zero-add m)
drop_take (suc n) m [] = ap (λ (k : ℕ). drop (suc n) (take k [])) (suc-add n m) ∙ sym (take_none m)
  where
    take_none : (k : ℕ) → ◌≡◌ {A = List ℕ} (take k []) []
    take_none zero = refl
    take_none (suc k) = refl
drop_take (suc n) m (x ∷ l) = ap (λ (k : ℕ). drop (suc n) (take k (x ∷ l))) (suc-add n m) ∙ drop_take n m l

pub records_within : (m : Module) (k : ℕ) (l : List ℕ) → records_of m k (take (16 * k) l) ≡ records_of m k l
unfolding records_of
records_within m zero l = refl
records_within m (suc k) l =
    let e : 16 * suc k ≡ 16 + 16 * k = omega arith in
    ap (λ (n : ℕ). records_of m (suc k) (take n l)) e
    ∙ (λ i. record_of m (take-take 16 (16 + 16 * k) l (omega arith) i) ∷ records_of m k (drop_take 16 (16 * k) l i))
    ∙ ap (λ rs. record_of m (take 16 l) ∷ rs) (records_within m k (drop 16 l))

-- a refusal by 25 after the last that may be judged leaves state and beat
pub above_left : (w : Went) → (left_of (above_max w) ≡ above_number_max (left_of w)) × ((above_max w).next ≡ w.next) × ((above_max w).beat ≡ w.beat)
above_left w = go w.verdict refl
  where
    go : (v : Verdict) → w.verdict ≡ v → (left_of (above_max w) ≡ above_number_max (left_of w)) × ((above_max w).next ≡ w.next) × ((above_max w).beat ≡ w.beat)
    go (Ok x) p = (rw (p, above_max, above_number_max), rw (p, above_max), rw (p, above_max))
    go (Err v) p = (rw (p, above_max, above_number_max), rw (p, above_max), rw (p, above_max))

-- ── The call ──

module _ (u : Setup) (s : State) (bytes : List ℕ) (lent : ℕ) where
  -- the run behind it
  pub run_out : (w : Refusal) → first_broken (records_rules u s (length bytes) lent) ≡ Err w
      → call_run u s bytes lent ≡ record { verdict = Err w; reported = 0; lines = [] }
  unfolding call_run
  run_out w p = rw (p, call_run)

  pub run_in : first_broken (records_rules u s (length bytes) lent) ≡ Ok tt → call_run u s bytes lent ≡ run u s (records_in s bytes)
  unfolding call_run
  run_in p = rw (p, call_run)

  module _ (page beats : List ℕ) where
    pub lent_refused : (w : Refusal) → first_broken (records_rules u s (length bytes) lent) ≡ Err w
        → records_lent u s bytes lent page beats ≡ left (ran (Err w) 0) page beats
    unfolding records_lent
    lent_refused w p = rw (p, records_lent)

    module _ (p : first_broken (records_rules u s (length bytes) lent) ≡ Ok tt) where
      -- where no record's number is above 2^41
      pub lent_entered : leb (length bytes / 16) (room s) ≡ true
          → records_lent u s bytes lent page beats ≡ fold u s (records_of (state_module s) (length bytes / 16) bytes) page beats
      unfolding records_lent
      lent_entered h = rw (p, records_lent, h)

      -- where one is: those before it, and 25
      pub lent_past : leb (length bytes / 16) (room s) ≡ false
          → records_lent u s bytes lent page beats ≡ past_room (fold u s (records_of (state_module s) (room s) bytes) page beats)
      unfolding records_lent
      lent_past h = rw (p, records_lent, h)

      -- the same by how many are judged, from so many bytes
      module _ (n k : ℕ) (e : n ≡ within_room s (length bytes / 16)) (long : k ≡ 16 * n) where
        abbrev part : List Record
        part = records_of (state_module s) n (take k bytes)

        same_part : part ≡ records_of (state_module s) n bytes
        same_part = ap (λ (x : ℕ). records_of (state_module s) n (take x bytes)) long ∙ records_within (state_module s) n bytes

        part_is : part ≡ records_in s bytes
        part_is = same_part ∙ ap (λ (x : ℕ). records_of (state_module s) x bytes) e

        -- the state and the beat that the engine leaves
        pub next_is : state_left u s part (run u s part) ≡ records_next u s bytes lent
        next_is = ap (λ rs. state_left u s rs (run u s rs)) part_is ∙ sym (ap (state_left u s (records_in s bytes)) (run_in p))

        pub beat_is : beat_left (run u s part) ≡ beat_left (call_run u s bytes lent)
        beat_is = ap (λ rs. beat_left (run u s rs)) part_is ∙ sym (ap beat_left (run_in p))

        abbrev judged : ℕ → Left
        judged x = fold u s (records_of (state_module s) x bytes) page beats

        pub all_judged : length bytes / 16 ≤ n → fold u s part page beats ≡ records_lent u s bytes lent page beats
        all_judged h = go (leb (length bytes / 16) (room s)) refl
          where
            go : (x : Bool) → leb (length bytes / 16) (room s) ≡ x → fold u s part page beats ≡ records_lent u s bytes lent page beats
            go true t =
                ap (λ rs. fold u s rs page beats) same_part ∙ ap judged (e ∙ ap (λ (y : Bool). cond y (length bytes / 16) (room s)) t) ∙ sym (lent_entered t)
            go false t =
                let m : n ≡ room s = e ∙ ap (λ (y : Bool). cond y (length bytes / 16) (room s)) t in
                absurd (omega (arith, leb-false (length bytes / 16) (room s) t, m, h))

        pub some_judged : n < length bytes / 16 → past_room (fold u s part page beats) ≡ records_lent u s bytes lent page beats
        some_judged h = go (leb (length bytes / 16) (room s)) refl
          where
            go : (x : Bool) → leb (length bytes / 16) (room s) ≡ x → past_room (fold u s part page beats) ≡ records_lent u s bytes lent page beats
            go true t =
                let m : n ≡ length bytes / 16 = e ∙ ap (λ (y : Bool). cond y (length bytes / 16) (room s)) t in
                absurd (omega (arith, m, h))
            go false t =
                ap past_room (ap (λ rs. fold u s rs page beats) same_part ∙ ap judged (e ∙ ap (λ (y : Bool). cond y (length bytes / 16) (room s)) t)) ∙ sym (lent_past t)

        -- ── What the engine leaves of that many is what the call leaves ──

        module _ {w : Went} {page' beats' : List ℕ} (g : gone w page' beats' ≡ went_by u s part Quiet page beats) where
          abbrev folded : Gone → Left
          folded x = left (ran x.went.verdict x.went.reported) x.page x.beats

          as_fold : left (ran w.verdict w.reported) page' beats' ≡ fold u s part page beats
          unfolding went_by fold
          as_fold = ap folded g

          pub all_left : length bytes / 16 ≤ n → left (ran w.verdict w.reported) page' beats' ≡ records_lent u s bytes lent page beats
          all_left h = as_fold ∙ all_judged h

          pub next_left : w.next ≡ records_next u s bytes lent
          unfolding went_by
          next_left = ap (λ (x : Gone). x.went.next) g ∙ next_is

          pub last_left : w.beat ≡ beat_left (call_run u s bytes lent)
          unfolding went_by
          last_left = ap (λ (x : Gone). x.went.beat) g ∙ beat_is

          -- where more follow
          module _ (h : n < length bytes / 16) {x : Went} (past : x ≡ above_max w) where
            pub some_left : left (left_of x) page' beats' ≡ records_lent u s bytes lent page beats
            some_left =
                ap (λ (y : Went). left (left_of y) page' beats') past
                ∙ ap (λ (r : Ran). left r page' beats') (above_left w).0
                ∙ ap past_room as_fold
                ∙ some_judged h

            pub some_next : x.next ≡ records_next u s bytes lent
            some_next = ap (λ (y : Went). y.next) past ∙ (above_left w).1 ∙ next_left

            pub some_last : x.beat ≡ beat_left (call_run u s bytes lent)
            some_last = ap (λ (y : Went). y.beat) past ∙ (above_left w).2 ∙ last_left

-- a call that looks at no record leaves its state, and has no beat
module _ (u : Setup) (s : State) (bytes : List ℕ) (lent : ℕ) (w : Refusal) (p : first_broken (records_rules u s (length bytes) lent) ≡ Err w) where
  abbrev none : Run
  none = record { verdict = Err w; reported = 0; lines = [] }

  pub next_out : s ≡ records_next u s bytes lent
  next_out =
      sym (ap (state_left u s (records_in s bytes)) (run_out u s bytes lent w p) ∙ state_same u s (records_in s bytes) none refl)

  pub beat_out : ◌≡◌ {A = Beat} Quiet (beat_left (call_run u s bytes lent))
  beat_out = sym (ap beat_left (run_out u s bytes lent w p))

-- the same of a call that lends the page for which number 7 is asked
module _ (u : Setup) (s : State) (bytes page beats : List ℕ) where
  pub records_refused : (w : Refusal) → first_broken (records_rules u s (length bytes) (length page)) ≡ Err w
      → records_call u s bytes page beats ≡ left (ran (Err w) 0) page beats
  records_refused = lent_refused u s bytes (length page) page beats

  pub records_entered : first_broken (records_rules u s (length bytes) (length page)) ≡ Ok tt → leb (length bytes / 16) (room s) ≡ true
      → records_call u s bytes page beats ≡ fold u s (records_of (state_module s) (length bytes / 16) bytes) page beats
  records_entered = lent_entered u s bytes (length page) page beats

  pub records_past : first_broken (records_rules u s (length bytes) (length page)) ≡ Ok tt → leb (length bytes / 16) (room s) ≡ false
      → records_call u s bytes page beats ≡ past_room (fold u s (records_of (state_module s) (room s) bytes) page beats)
  records_past = lent_past u s bytes (length page) page beats
