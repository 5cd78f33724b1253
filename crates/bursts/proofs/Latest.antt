-- Which of four READs has the beat on a clock, by three tests: the one registered last of those that run. Assumes nothing.
use Prim.Native.Nat.{ℕ}
use mathlib.Core.Path.{◌≡◌, refl}
use mathlib.Core.Bool.{Bool, true, false, not, ◌&&◌, ◌||◌, cond, true≢false}
use mathlib.Core.List.{List}
use lib.Dec.{ltb}
use lib.ListN.{length}
use Rattle.units.specs.declared.Clock.{Clock}
use Rattle.bursts.specs.declared.Burst.{Burst}
use Rattle.bursts.specs.declared.Beat.TheVariants.{Quiet}
use Rattle.bursts.specs.Burst.{reads_on, read_beat}
use Rattle.bursts.specs.Bus.{reads_beat}
use Rattle.bursts.proofs.First.{first_of, is_first, is_second, is_third, is_none}
use Rattle.bursts.proofs.Four.{burst, reads_beat_four}

-- none of four
none_of : (a b c d : Bool) → (a || (b || (c || d))) ≡ false → (a ≡ false) × (b ≡ false) × (c ≡ false) × (d ≡ false)
none_of true b c d h = absurd (true≢false h)
none_of false true c d h = absurd (true≢false h)
none_of false false true d h = absurd (true≢false h)
none_of false false false d h = (refl, refl, refl, h)

-- some of four, and none of the first three outruns those after it: the fourth
the_last : (a b c d w x y z t u : Bool) → (a || (b || (c || d))) ≡ true
    → (a && not ((b && w) || ((c && x) || (d && y)))) ≡ false → (b && not ((c && z) || (d && t))) ≡ false → (c && not (d && u)) ≡ false
    → d ≡ true
the_last a b c true w x y z t u s e f g = refl
the_last a b true false w x y z t u s e f g = absurd (true≢false g)
the_last a true false false w x y z t u s e f g = absurd (true≢false f)
the_last true false false false w x y z t u s e f g = absurd (true≢false e)
the_last false false false false w x y z t u s e f g = s

module _ (bs : List Burst) (h : length bs ≡ 4) (masks : ℕ) (n : Clock) where
  module _ (a b c d : Bool) (o : a ≡ reads_on (burst bs 0) n) (p : b ≡ reads_on (burst bs 1) n) (q : c ≡ reads_on (burst bs 2) n)
      (r : d ≡ reads_on (burst bs 3) n) where
    abbrev w : ℕ
    w = (burst bs 0).start.0

    abbrev x : ℕ
    x = (burst bs 1).start.0

    abbrev y : ℕ
    y = (burst bs 2).start.0

    abbrev z : ℕ
    z = (burst bs 3).start.0

    abbrev one : Bool
    one = a && not ((b && ltb w x) || ((c && ltb w y) || (d && ltb w z)))

    abbrev two : Bool
    two = b && not ((c && ltb x y) || (d && ltb x z))

    abbrev three : Bool
    three = c && not (d && ltb y z)

    by_tests :
        reads_beat bs masks n
        ≡ cond one (read_beat (burst bs 0) masks n)
        (cond two (read_beat (burst bs 1) masks n) (cond three (read_beat (burst bs 2) masks n) (cond d (read_beat (burst bs 3) masks n) Quiet)))
    by_tests = rw (o, p, q, r) (reads_beat_four bs h masks n)

    pub none_runs : (a || (b || (c || d))) ≡ false → Quiet ≡ reads_beat bs masks n
    none_runs s = let k = none_of a b c d s in rw (by_tests, k.0, k.1, k.2, k.3)

    module _ (i : ℕ) (e : i ≡ first_of one two three) where
      pub first_runs : i ≡ 0 → read_beat (burst bs 0) masks n ≡ reads_beat bs masks n
      first_runs g = rw (by_tests, is_first one two three i e g)

      pub second_runs : (i ≡ 0 → ⊥) → i ≡ 1 → read_beat (burst bs 1) masks n ≡ reads_beat bs masks n
      second_runs f g = let s = is_second one two three i e f g in rw (by_tests, s.0, s.1)

      pub third_runs : (i ≡ 0 → ⊥) → (i ≡ 1 → ⊥) → i ≡ 2 → read_beat (burst bs 2) masks n ≡ reads_beat bs masks n
      third_runs f g k = let s = is_third one two three i e f g k in rw (by_tests, s.0, s.1, s.2)

      pub fourth_runs : (a || (b || (c || d))) ≡ true → (i ≡ 0 → ⊥) → (i ≡ 1 → ⊥) → (i ≡ 2 → ⊥)
          → read_beat (burst bs 3) masks n ≡ reads_beat bs masks n
      fourth_runs t f g k =
          let s = is_none one two three i e f g k in
          let last : d ≡ true = the_last a b c d (ltb w x) (ltb w y) (ltb w z) (ltb x y) (ltb x z) (ltb y z) t s.0 s.1 s.2 in
          rw (by_tests, s.0, s.1, s.2, last)
