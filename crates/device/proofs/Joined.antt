-- RECORDS OF TWO SLICES IN TURN ARE THE RECORDS OF BOTH JOINED. Assumes nothing.
use Rattle.std.specs.Prelude.{Ok, Err}
use Prim.Native.Nat.{ℕ, zero, suc, ◌+◌, ◌*◌, ◌/◌, ◌%◌, ◌≤◌}
use native.Mathlib.Omega.{arith}
use native.Mathlib.Nat.{zero-add, suc-add}
use mathlib.Core.Path.{◌≡◌, refl, ap, sym, subst, ◌∙◌}
use mathlib.Core.Bool.{Bool, true, cond}
use mathlib.Core.List.{List, [], ◌∷◌, ◌++◌}
use lib.Dec.{leb}
use lib.ListN.{length, take, drop, length-append, length-drop}
use lib.Seq.{take-append-le, drop-append-le}
use borrow.Author.Tests.{le-leb, eq-eqb}
use Rattle.units.specs.declared.Module.{Module}
use Rattle.units.specs.Module.{page_bytes}
use Rattle.layout.specs.declared.Record.{Record}
use Rattle.layout.specs.Bytes.{record_of, records_of}
use Rattle.bursts.specs.declared.Beat.{Beat}
use Rattle.bursts.specs.declared.Beat.TheVariants.{Quiet}
use Rattle.rules.specs.declared.Refusal.{Refusal}
use Rattle.rules.specs.declared.State.{State}
use Rattle.rules.specs.declared.Setup.{Setup}
use Rattle.rules.specs.Parts.{state_module}
use Rattle.rules.specs.Numbers.{first_broken, Verdict}
use Rattle.rules.specs.Rules.{ask}
use Rattle.rules.specs.After.{core_from, core_after, own_beat, next}
use Rattle.rules.specs.Run.{line, run, state_left}
use Rattle.rules.specs.Fits.{number_max}
use Rattle.rules.specs.OneRecord.{state_rules}
use Rattle.rules.specs.Report.{put_line, Left, left, ran, fold, records_rules, room, records_in, records_call, records_next}
use Rattle.rules.proofs.Runs.{next_number, page_next}
use Rattle.device.specs.Engine.{Gone, went_by}
use Rattle.device.proofs.FoldRun.{went_taken, went_refused, went_none}
use Rattle.admitting.proofs.Ladder.{records_ladder}
use Rattle.device.proofs.Starts.{run_in, records_entered}
use Rattle.device.proofs.Ready.{Ready, ready_of, ready_state, ready_next}

-- ── Runs ──

-- the next records where all before them were taken; else nothing more
abbrev pub then_on : Setup → List Record → Gone → Gone
then_on u qs g =
    elim g.went.verdict [
      | Ok x ↦ went_by u g.went.next qs g.went.beat g.page g.beats
      | Err w ↦ g
    ]

then_none : (u : Setup) (qs : List Record) (g : Gone) (w : Refusal) → g.went.verdict ≡ Err w → then_on u qs g ≡ g
then_none u qs g w h =
    ap
    (λ (v : Verdict).
    elim v [ Ok x ↦ went_by u g.went.next qs g.went.beat g.page g.beats | Err m ↦ g ])
    h

pub went_join : (u : Setup) (s : State) (rs qs : List Record) (w : Beat) (page beats : List ℕ)
    → went_by u s (rs ++ qs) w page beats ≡ then_on u qs (went_by u s rs w page beats)
went_join u s [] qs w page beats = sym (ap (then_on u qs) (went_none u s w page beats))
went_join u s (r ∷ rs) qs w page beats =
    go (ask u s r) refl (went_join u (next u s r) rs qs (own_beat s r) (page_next s r page) (put_line s.core.number (line s r) beats))
  where
    go : (v : Verdict) → ask u s r ≡ v
        → went_by u (next u s r) (rs ++ qs) (own_beat s r) (page_next s r page) (put_line s.core.number (line s r) beats)
        ≡ then_on u qs (went_by u (next u s r) rs (own_beat s r) (page_next s r page) (put_line s.core.number (line s r) beats))
        → went_by u s ((r ∷ rs) ++ qs) w page beats ≡ then_on u qs (went_by u s (r ∷ rs) w page beats)
    go (Ok o) p ih =
        went_taken u s r (rs ++ qs) page beats w p ∙ ih ∙ sym (ap (then_on u qs) (went_taken u s r rs page beats w p))
    go (Err v) p ih =
        went_refused u s r (rs ++ qs) page beats w v p ∙ sym (ap (then_on u qs) (went_refused u s r rs page beats w v p))

-- ── The records of two slices ──

none_long : (l : List ℕ) → length l ≡ 0 → l ≡ []
none_long [] h = refl
none_long (x ∷ l) h = absurd (omega (arith, h))

-- so many, and so many after them
abbrev pub longer : ℕ → ℕ → ℕ
longer zero more = more
longer (suc k) more = suc (longer k more)

pub longer_is : (k more : ℕ) → longer k more ≡ k + more
longer_is zero more = sym (zero-add more)
longer_is (suc k) more = ap suc (longer_is k more) ∙ sym (suc-add k more)

records_join : (m : Module) (j k : ℕ) (a b : List ℕ) → length a ≡ 16 * j → records_of m (longer j k) (a ++ b) ≡ records_of m j a ++ records_of m k b
unfolding records_of
records_join m zero k a b h = ap (λ (l : List ℕ). records_of m k (l ++ b)) (none_long a (omega (arith, h)))
records_join m (suc j) k a b h =
    let rest : length (drop 16 a) ≡ 16 * j = simp length-drop (omega (arith, h)) in
    (λ i.
    record_of m (take-append-le 16 a b (omega (arith, h)) i) ∷ records_of m (longer j k) (drop-append-le 16 a b (omega (arith, h)) i))
    ∙ ap (λ rs. record_of m (take 16 a) ∷ rs) (records_join m j k (drop 16 a) b rest)

-- ── What a clean run leaves ──

-- so many more records may be judged from it, with its page
pub record Clean (u : Setup) (s : State) (j k : ℕ) (g : Gone) : Type 0 where
  pub ready : Ready u g.went.next k g.page
  pub number : g.went.next.core.number ≡ s.core.number + j
  pub module_kept : state_module g.went.next ≡ state_module s
  pub length_kept : length g.page ≡ page_bytes (state_module s)

clean : (u : Setup) (s : State) (j k : ℕ) (a : List ℕ) (w : Beat) (page beats : List ℕ) → Ready u s (longer j k) page
    → (went_by u s (records_of (state_module s) j a) w page beats).went.verdict ≡ Ok tt
    → Clean u s j k (went_by u s (records_of (state_module s) j a) w page beats)
unfolding records_of next core_after core_from
clean u s zero k a w page beats e h =
    subst (λ (g : Gone). Clean u s 0 k g) (sym (went_none u s w page beats)) (record { ready = e; number = omega arith; module_kept = refl; length_kept = e.lent })
clean u s (suc j) k a w page beats e h =
    go (ask u s r) refl
    (λ p t. clean u (next u s r) j k (drop 16 a) (own_beat s r) (page_next s r page) (put_line s.core.number (line s r) beats) (ready_next u s (longer j k) (take 16 a) page e p) t)
  where
    r : Record
    r = record_of (state_module s) (take 16 a)

    rs : List Record
    rs = records_of (state_module s) j (drop 16 a)

    go : (v : Verdict) → ask u s r ≡ v
        → (ask u s r ≡ Ok tt
        → (went_by u (next u s r) rs (own_beat s r) (page_next s r page) (put_line s.core.number (line s r) beats)).went.verdict ≡ Ok tt
        → Clean u (next u s r) j k (went_by u (next u s r) rs (own_beat s r) (page_next s r page) (put_line s.core.number (line s r) beats)))
        → Clean u s (suc j) k (went_by u s (r ∷ rs) w page beats)
    go (Ok o) p ih =
        let q = went_taken u s r rs page beats w p in
        let c = ih p (sym (ap (λ (g : Gone). g.went.verdict) q) ∙ h) in
        subst (λ (g : Gone). Clean u s (suc j) k g) (sym q)
        (record {
          ready = c.ready;
          number = omega (arith, c.number, next_number u s r);
          module_kept = c.module_kept;
          length_kept = c.length_kept;
        })
    go (Err v) p ih =
        let x : ◌≡◌ {A = Verdict} (Err v) (Ok tt) = sym (ap (λ (g : Gone). g.went.verdict) (went_refused u s r rs page beats w v p)) ∙ h in
        let z : ◌≡◌ {A = ℕ} 0 1 = cc in
        absurd (omega arith)

-- ── The calls ──

abbrev folded : Gone → Left
folded g = left (ran g.went.verdict g.went.reported) g.page g.beats

as_fold : (u : Setup) (s : State) (rs : List Record) (w : Beat) (page beats : List ℕ) → folded (went_by u s rs w page beats) ≡ fold u s rs page beats
unfolding went_by fold
as_fold u s rs w page beats = refl

next_as : (u : Setup) (s : State) (rs : List Record) (w : Beat) (page beats : List ℕ) → (went_by u s rs w page beats).went.next ≡ state_left u s rs (run u s rs)
unfolding went_by
next_as u s rs w page beats = refl

-- a call that looks at k whole records, none with a number above 2^41
module _ (u : Setup) (s : State) (k : ℕ) (bytes page beats : List ℕ) (long : length bytes ≡ 16 * k) (room_for : s.core.number + k ≤ suc number_max)
    (p : first_broken (state_rules u s (length page)) ≡ Ok tt) where
  count : length bytes / 16 ≡ k
  count = omega (arith, long)

  enters : first_broken (records_rules u s (length bytes) (length page)) ≡ Ok tt
  enters = records_ladder u s (length bytes) (length page) (eq-eqb (length bytes % 16) 0 (omega (arith, long))) ∙ p

  few : leb (length bytes / 16) (room s) ≡ true
  few = le-leb (length bytes / 16) (room s) (omega (arith, count, room_for))

  these : records_in s bytes ≡ records_of (state_module s) k bytes
  these =
      ap (λ (x : Bool). records_of (state_module s) (cond x (length bytes / 16) (room s)) bytes) few
      ∙ ap (λ (x : ℕ). records_of (state_module s) x bytes) count

  call_is : (w : Beat) → records_call u s bytes page beats ≡ folded (went_by u s (records_of (state_module s) k bytes) w page beats)
  call_is w =
      records_entered u s bytes page beats enters few
      ∙ ap (λ (x : ℕ). fold u s (records_of (state_module s) x bytes) page beats) count
      ∙ sym (as_fold u s (records_of (state_module s) k bytes) w page beats)

  next_is : (w : Beat) → records_next u s bytes (length page) ≡ (went_by u s (records_of (state_module s) k bytes) w page beats).went.next
  next_is w =
      ap (state_left u s (records_in s bytes)) (run_in u s bytes (length page) enters)
      ∙ ap (λ rs. state_left u s rs (run u s rs)) these
      ∙ sym (next_as u s (records_of (state_module s) k bytes) w page beats)

-- two whole slices: the first of j records, the second of one and k more, none with a number above 2^41
module _ (u : Setup) (s : State) (j k : ℕ) (a b page beats : List ℕ) (first : length a ≡ 16 * j) (second : length b ≡ 16 * suc k)
    (room_for : s.core.number + j + suc k ≤ suc number_max)
    (p : first_broken (state_rules u s (length page)) ≡ Ok tt) where
  abbrev after : Left
  after = records_call u s a page beats

  abbrev then : State
  then = records_next u s a (length page)

  abbrev both : List ℕ
  both = a ++ b

  abbrev went_a : Gone
  went_a = went_by u s (records_of (state_module s) j a) Quiet page beats

  abbrev went_both : Gone
  went_both = went_by u s (records_of (state_module s) (longer j (suc k)) both) Quiet page beats

  total : length both ≡ 16 * longer j (suc k)
  total = length-append a b ∙ omega (arith, first, second, longer_is j (suc k))

  fits_both : s.core.number + longer j (suc k) ≤ suc number_max
  fits_both = omega (arith, room_for, longer_is j (suc k))

  e : Ready u s (longer j (suc k)) page
  e = ready_of u s (longer j (suc k)) page p fits_both

  joined : went_both ≡ then_on u (records_of (state_module s) (suc k) b) went_a
  joined =
      ap (λ rs. went_by u s rs Quiet page beats) (records_join (state_module s) j (suc k) a b first)
      ∙ went_join u s (records_of (state_module s) j a) (records_of (state_module s) (suc k) b) Quiet page beats

  a_is : after ≡ folded went_a
  a_is = call_is u s j a page beats first (omega (arith, room_for)) p Quiet

  -- WHERE THE FIRST CALL REFUSES, BOTH JOINED ARE THE FIRST
  pub joined_refused : (w : Refusal) → after.ran.verdict ≡ Err w
      → (records_call u s both page beats ≡ after) × (records_next u s both (length page) ≡ then)
  joined_refused w h =
      let v : went_a.went.verdict ≡ Err w = sym (ap (λ (l : Left). l.ran.verdict) a_is) ∙ h in
      let stay : went_both ≡ went_a = joined ∙ then_none u (records_of (state_module s) (suc k) b) went_a w v in (
        call_is u s (longer j (suc k)) both page beats total fits_both p Quiet ∙ ap folded stay ∙ sym a_is,
        next_is u s (longer j (suc k)) both page beats total fits_both p Quiet
            ∙ ap (λ (g : Gone). g.went.next) stay
            ∙ sym (next_is u s j a page beats first (omega (arith, room_for)) p Quiet),
      )

  -- WHERE IT IS CLEAN, THEY ARE THE SECOND FROM THE STATE, PAGE AND BEATS THAT THE FIRST LEAVES
  pub joined_clean : after.ran.verdict ≡ Ok tt
      → (records_call u s both page beats ≡ records_call u then b after.page after.beats)
      × (records_next u s both (length page) ≡ records_next u then b (length after.page))
  joined_clean h =
      let v : went_a.went.verdict ≡ Ok tt = sym (ap (λ (l : Left). l.ran.verdict) a_is) ∙ h in
      let c = clean u s j (suc k) a Quiet page beats e v in
      let s1 = went_a.went.next in
      let at : then ≡ s1 = next_is u s j a page beats first (omega (arith, room_for)) p Quiet in
      let page1 : after.page ≡ went_a.page = ap (λ (l : Left). l.page) a_is in
      let beats1 : after.beats ≡ went_a.beats = ap (λ (l : Left). l.beats) a_is in
      let q = ready_state u s1 k went_a.page c.ready in
      let here : s1.core.number + suc k ≤ suc number_max = omega (arith, c.number, room_for) in
      let on : went_both ≡ went_by u s1 (records_of (state_module s1) (suc k) b) went_a.went.beat went_a.page went_a.beats =
      joined ∙ rw (v, then_on) (ap (λ (m : Module). went_by u s1 (records_of m (suc k) b) went_a.went.beat went_a.page went_a.beats) (sym c.module_kept)) in
      let w = went_a.went.beat in (
        call_is u s (longer j (suc k)) both page beats total fits_both p Quiet
            ∙ ap folded on
            ∙ sym (call_is u s1 (suc k) b went_a.page went_a.beats second here q w)
            ∙ sym (λ i. records_call u (at i) b (page1 i) (beats1 i)),
        next_is u s (longer j (suc k)) both page beats total fits_both p Quiet
            ∙ ap (λ (g : Gone). g.went.next) on
            ∙ sym (next_is u s1 (suc k) b went_a.page went_a.beats second here q w)
            ∙ sym (λ i. records_next u (at i) b (length (page1 i))),
      )
