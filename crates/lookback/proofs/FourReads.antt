-- Four READs are enough: an earlier one has no beat left. Assumes nothing.
use Rattle.std.specs.Prelude.{Option, None, Some}
use Prim.Native.Nat.{ℕ, zero, suc, ◌+◌, ◌-◌, ◌<◌, ◌≤◌}
use native.Mathlib.Omega.{arith}
use mathlib.Core.Path.{◌≡◌, refl, ap, sym, ◌∙◌}
use mathlib.Core.Bool.{Bool, true, false, cond, and-false, and-true}
use mathlib.Core.List.{List, [], ◌∷◌, ◌++◌}
use lib.ListN.{take, length}
use borrow.Author.Tests.{lt-ltb, le-ltb, le-leb}
use Rattle.units.specs.declared.Clock.{Clock}
use Rattle.units.specs.Time.{clock}
use Rattle.layout.specs.declared.Record.{Record}
use Rattle.mode.specs.Word.{latency, length_of, full_page}
use Rattle.bursts.specs.declared.Burst.{Burst}
use Rattle.bursts.specs.declared.Beat.{Beat}
use Rattle.bursts.specs.declared.Beat.TheVariants.{Quiet}
use Rattle.bursts.specs.Burst.{no_burst, before_cut, has_beat, reads_on, to_come, read_beat}
use Rattle.bursts.specs.Bus.{no_reads, later_run, reads_beat, with_room}
use Rattle.bursts.proofs.Room.{fourth_gives_way}
use Rattle.lookback.specs.Past.{first_free, clock_in}
use Rattle.lookback.specs.StartUp.{mode_in}
use Rattle.lookback.specs.Bursts.{reads, writes, cuts_write}
use Rattle.lookback.proofs.Held.{uncut, cuts_from, registered, reads_back, held}

-- ── Cut for good ──

-- a burst from clock s is cut after it, and by clock x
abbrev pub Gone : ℕ → ℕ → Option Clock → Type 0
Gone s x None = ⊥
Gone s x (Some y) = (s < y.0) × (y.0 ≤ x)

-- each of these READs is cut by clock x, and its CL is at most 3
abbrev pub AllGone : ℕ → List Burst → Type 0
AllGone x [] = Unit {0}
AllGone x (b ∷ bs) = (Gone b.start.0 x b.cut × (latency b.word ≤ 3)) × AllGone x bs

-- each READ is registered before clock x, and those before it are cut by then
abbrev pub Ordered : ℕ → List Burst → Type 0
Ordered x [] = Unit {0}
Ordered x (b ∷ bs) = ((b.start.0 < x) × AllGone b.start.0 bs) × Ordered b.start.0 bs

-- the mode at each record had CL 2 or 3
abbrev pub Words : List Record → Type 0
Words [] = Unit {0}
Words (r ∷ past) = (latency (mode_in past) ≤ 3) × Words past

gone_from : (s d x : ℕ) (e : Option Clock) → s ≤ d → Gone d x e → Gone s x e
gone_from s d x None h g = g
gone_from s d x (Some y) h g = (omega (arith, g.0), g.1)

gone_least : (s x : ℕ) (e : Option Clock) → Gone s x e → s < x
gone_least s x None g = absurd g
gone_least s x (Some y) g = omega (arith, g.0, g.1)

gone_cond : (s x : ℕ) (f : Bool) (n : Clock) (e : Option Clock) → s < n.0 → n.0 ≤ x → Gone s x e → Gone s x (cond f (Some n) e)
gone_cond s x true n e h k g = (h, k)
gone_cond s x false n e h k g = g

-- a record back: c says where each bank's bursts were cut, after the records still to come and by clock x
gone_back : (x : ℕ) (c : ℕ → Option Clock) (r : Record) (past : List Record) → ((i : ℕ) → Gone (clock_in past r).0 x (c i))
    → (s : ℕ) → s < first_free past → (i : ℕ) → Gone s x (cuts_from r past c i)
gone_back x c r past g s h i =
    gone_cond s x (cuts_write i r) (clock_in past r) (c i) (omega arith)
    (omega (arith, gone_least (clock_in past r).0 x (c i) (g i)))
    (gone_from s (clock_in past r).0 x (c i) (omega arith) (g i))

pub back_gone : (x : ℕ) (c : ℕ → Option Clock) (past : List Record) → Words past
    → ((s : ℕ) → s < first_free past → (i : ℕ) → Gone s x (c i))
    → AllGone x (reads_back c past)
unfolding reads_back
back_gone x c [] w g = tt
back_gone x c (r ∷ past) w g =
    go (writes r) (reads r)
    (back_gone x (cuts_from r past c) past w.1 (gone_back x c r past (g (clock_in past r).0 (omega arith))))
  where
    go : (f y : Bool) → AllGone x (reads_back (cuts_from r past c) past)
        → AllGone x
        (cond f [] (cond y (registered c r past ∷ reads_back (cuts_from r past c) past) (reads_back (cuts_from r past c) past)))
    go true y rest = tt
    go false true rest = ((g (clock_in past r).0 (omega arith) r.ba, w.0), rest)
    go false false rest = rest

-- a READ cuts each burst
read_cuts : (r : Record) (i : ℕ) → reads r ≡ true → cuts_write i r ≡ true
read_cuts r i e = rw e

pub back_ordered : (x : ℕ) (c : ℕ → Option Clock) (past : List Record) → first_free past ≤ x → Words past → Ordered x (reads_back c past)
unfolding reads_back
back_ordered x c [] h w = tt
back_ordered x c (r ∷ past) h w =
    go (writes r) (reads r) refl (back_ordered x (cuts_from r past c) past (omega arith) w.1)
    (back_ordered (clock_in past r).0 (cuts_from r past c) past (omega arith) w.1)
  where
    gone : reads r ≡ true → (s : ℕ) → s < first_free past → (i : ℕ) → Gone s (clock_in past r).0 (cuts_from r past c i)
    gone e s k i = rw (read_cuts r i e) (omega arith, omega arith)

    go : (f y : Bool) → reads r ≡ y → Ordered x (reads_back (cuts_from r past c) past)
        → Ordered (clock_in past r).0 (reads_back (cuts_from r past c) past)
        → Ordered x
        (cond f [] (cond y (registered c r past ∷ reads_back (cuts_from r past c) past) (reads_back (cuts_from r past c) past)))
    go true y e rest tail = tt
    go false true e rest tail = ((omega arith, back_gone (clock_in past r).0 (cuts_from r past c) past w.1 (gone e)), tail)
    go false false e rest tail = rest

-- ── No beat ──

-- lost from clock x on
gone_lost : (s x : ℕ) (m : Clock) (e : Option Clock) → Gone s x e → x ≤ m.0 → before_cut (clock s) m e ≡ false
gone_lost s x m None g h = absurd g
gone_lost s x m (Some y) g h = rw (lt-ltb s y.0 g.0, le-leb y.0 m.0 (omega (arith, g.1)))

module _ (b : Burst) (x : ℕ) (g : Gone b.start.0 x b.cut) where
  no_beat : (length : ℕ) (endless : Bool) (m : Clock) → x ≤ m.0 → has_beat b length endless m ≡ false
  unfolding has_beat
  no_beat length endless m h = rw (gone_lost b.start.0 x m b.cut g h, and-false)

  module _ (k : latency b.word ≤ 3) (n : Clock) (h : x + 3 ≤ n.0) where
    gone_quiet : reads_on b n ≡ false
    gone_quiet =
        let m = clock (n.0 - latency b.word) in
        rw (no_beat (length_of b.word) (full_page b.word) m (omega (arith, k, h)), and-false)

    -- nor on a later clock
    gone_over : to_come n b ≡ false
    gone_over = no_beat (length_of b.word) (full_page b.word) _ (omega (arith, k, h))

-- ── The latest READ that runs ──

-- of these READs, the beat of the first that runs
abbrev pub latest_beat : List Burst → ℕ → Clock → Beat
latest_beat [] masks n = Quiet
latest_beat (b ∷ bs) masks n = cond (reads_on b n) (read_beat b masks n) (latest_beat bs masks n)

all_quiet : (bs : List Burst) (masks : ℕ) (n : Clock) (x : ℕ) → AllGone x bs → x + 3 ≤ n.0 → latest_beat bs masks n ≡ Quiet
all_quiet [] masks n x g k = refl
all_quiet (b ∷ bs) masks n x g k = rw (gone_quiet b x g.0.0 g.0.1 n k) (all_quiet bs masks n x g.1 k)

-- four are enough
enough : (bs : List Burst) (masks : ℕ) (n : Clock) (x : ℕ) → Ordered x bs → x ≤ n.0 + 1
    → latest_beat bs masks n ≡ latest_beat (take 4 bs) masks n
enough [] masks n x o h = refl
enough (a ∷ []) masks n x o h = refl
enough (a ∷ b ∷ []) masks n x o h = refl
enough (a ∷ b ∷ c ∷ []) masks n x o h = refl
enough (a ∷ b ∷ c ∷ d ∷ bs) masks n x o h =
    rw (all_quiet bs masks n d.start.0 o.1.1.1.0.1
    (omega (arith, o.0.0, o.1.0.0, o.1.1.0.0, o.1.1.1.0.0)))

-- an empty place has no beat
empty_quiet : (n : Clock) → reads_on no_burst n ≡ false
unfolding has_beat
empty_quiet n = rw and-false

none_quiet : (k : ℕ) (masks : ℕ) (n : Clock) → latest_beat (take k no_reads) masks n ≡ Quiet
none_quiet zero masks n = refl
none_quiet (suc zero) masks n = rw (empty_quiet n)
none_quiet (suc (suc zero)) masks n = rw (empty_quiet n)
none_quiet (suc (suc (suc zero))) masks n = rw (empty_quiet n)
none_quiet (suc (suc (suc (suc zero)))) masks n = rw (empty_quiet n)
none_quiet (suc (suc (suc (suc (suc k))))) masks n = rw (empty_quiet n)

padded : (k : ℕ) (bs : List Burst) (masks : ℕ) (n : Clock)
    → latest_beat (take k (bs ++ no_reads)) masks n ≡ latest_beat (take k bs) masks n
padded zero bs masks n = refl
padded (suc k) [] masks n = none_quiet (suc k) masks n
padded (suc k) (b ∷ bs) masks n = ap (cond (reads_on b n) (read_beat b masks n)) (padded k bs masks n)

-- ── The state's list has the latest first ──

-- registered no later than x, each no later than the one before it
abbrev Falling : ℕ → List Burst → Type 0
Falling x [] = Unit {0}
Falling x (b ∷ bs) = (b.start.0 ≤ x) × Falling b.start.0 bs

falling_join : (x : ℕ) (bs : List Burst) → Ordered x bs → Falling x (bs ++ no_reads)
falling_join x [] o = (omega arith, (omega arith, (omega arith, (omega arith, tt))))
falling_join x (b ∷ bs) o = (omega (arith, o.0.0), falling_join b.start.0 bs o.1)

falling_take : (k x : ℕ) (bs : List Burst) → Falling x bs → Falling x (take k bs)
falling_take zero x bs f = tt
falling_take (suc k) x [] f = tt
falling_take (suc k) x (b ∷ bs) f = (f.0, falling_take k b.start.0 bs f.1)

later_none : (y : Clock) (x : ℕ) (bs : List Burst) (n : Clock) → x ≤ y.0 → Falling x bs → later_run y bs n ≡ false
later_none y x [] n h f = refl
later_none y x (b ∷ bs) n h f =
    rw (le-ltb y.0 b.start.0 (omega (arith, f.0)), and-false)
    (later_none y b.start.0 bs n (omega (arith, f.0)) f.1)

first_runs : (x : ℕ) (bs : List Burst) (masks : ℕ) (n : Clock) → Falling x bs → reads_beat bs masks n ≡ latest_beat bs masks n
first_runs x [] masks n f = refl
first_runs x (b ∷ bs) masks n f =
    rw (later_none b.start b.start.0 bs n (omega arith) f.1, and-true)
    (ap (cond (reads_on b n) (read_beat b masks n)) (first_runs b.start.0 bs masks n f.1))

-- THE BEAT OF THE READS HELD IS THAT OF ALL READS, on every clock from the last record's on
pub held_beat : (past : List Record) (masks : ℕ) (n : Clock) → Words past → first_free past ≤ n.0 + 1
    → reads_beat (held past) masks n ≡ latest_beat (reads_back uncut past) masks n
held_beat past masks n w h =
    let o = back_ordered (first_free past) uncut past (omega arith) w in
    first_runs (first_free past) (held past) masks n
    (falling_take 4 (first_free past) (reads_back uncut past ++ no_reads)
    (falling_join (first_free past) (reads_back uncut past) o))
    ∙ (padded 4 (reads_back uncut past) masks n ∙ sym (enough (reads_back uncut past) masks n (first_free past) o h))

-- ── The fourth makes room ──

room_three : (bs : List Burst) (n : Clock) (x : ℕ) → Ordered x bs → x ≤ n.0
    → with_room n (take 4 (bs ++ no_reads)) ≡ take 3 (bs ++ no_reads)
unfolding has_beat
room_three [] n x o h = fourth_gives_way n no_reads refl refl
room_three (a ∷ []) n x o h = fourth_gives_way n (a ∷ no_burst ∷ no_burst ∷ no_burst ∷ []) refl refl
room_three (a ∷ b ∷ []) n x o h = fourth_gives_way n (a ∷ b ∷ no_burst ∷ no_burst ∷ []) refl refl
room_three (a ∷ b ∷ c ∷ []) n x o h = fourth_gives_way n (a ∷ b ∷ c ∷ no_burst ∷ []) refl refl
room_three (a ∷ b ∷ c ∷ d ∷ bs) n x o h =
    fourth_gives_way n (a ∷ b ∷ c ∷ d ∷ []) refl
    (gone_over d c.start.0 o.1.1.0.1.0.0 o.1.1.0.1.0.1 n (omega (arith, o.0.0, o.1.0.0, o.1.1.0.0)))

-- FOR A NEW READ THE OLDEST OF THE FOUR MAKES ROOM
pub held_room : (past : List Record) (n : Clock) → Words past → first_free past ≤ n.0
    → with_room n (held past) ≡ take 3 (reads_back uncut past ++ no_reads)
held_room past n w h =
    room_three (reads_back uncut past) n (first_free past) (back_ordered (first_free past) uncut past (omega arith) w) h
