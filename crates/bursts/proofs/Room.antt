-- Which of four READs makes room for a new one, by three tests. Assumes nothing.
use Prim.Native.Nat.{ℕ}
use mathlib.Core.Path.{◌≡◌, ap, sym, ◌∙◌}
use mathlib.Core.Bool.{Bool, true, false, ◌&&◌, cond, and-true, and-false}
use mathlib.Core.List.{List, [], ◌∷◌}
use lib.ListN.{length}
use Rattle.units.specs.declared.Clock.{Clock}
use Rattle.bursts.specs.declared.Burst.{Burst}
use Rattle.bursts.specs.Burst.{to_come}
use Rattle.bursts.specs.Bus.{makes_room, gives_way, with_room}
use Rattle.bursts.proofs.First.{first_of, is_first, is_second, is_third, is_none}
use Rattle.bursts.proofs.Four.{burst, four}

module _ (n : Clock) (bs : List Burst) (h : length bs ≡ 4) where
  room_of_four :
      with_room n bs
      ≡ cond
      (gives_way n (burst bs 0) (burst bs 1) && (gives_way n (burst bs 0) (burst bs 2) && gives_way n (burst bs 0) (burst bs 3)))
      (burst bs 1 ∷ burst bs 2 ∷ burst bs 3 ∷ [])
      (burst bs 0
      ∷ cond (gives_way n (burst bs 1) (burst bs 2) && gives_way n (burst bs 1) (burst bs 3)) (burst bs 2 ∷ burst bs 3 ∷ [])
      (burst bs 1 ∷ cond (gives_way n (burst bs 2) (burst bs 3)) (burst bs 3 ∷ []) (burst bs 2 ∷ [])))
  room_of_four = ap (with_room n) (four bs h) ∙ simp and-true

  -- the fourth, where it has no beat to come
  pub fourth_gives_way : to_come n (burst bs 3) ≡ false → with_room n bs ≡ (burst bs 0 ∷ burst bs 1 ∷ burst bs 2 ∷ [])
  fourth_gives_way e = room_of_four ∙ simp (e, and-false)

  -- else by three tests
  module _ (a b c : Bool) (p : a ≡ to_come n (burst bs 0)) (q : b ≡ to_come n (burst bs 1)) (r : c ≡ to_come n (burst bs 2))
      (d : to_come n (burst bs 3) ≡ true) where
    abbrev w : ℕ
    w = (burst bs 0).start.0

    abbrev x : ℕ
    x = (burst bs 1).start.0

    abbrev y : ℕ
    y = (burst bs 2).start.0

    abbrev z : ℕ
    z = (burst bs 3).start.0

    abbrev one : Bool
    one = makes_room a b w x && (makes_room a c w y && makes_room a true w z)

    abbrev two : Bool
    two = makes_room b c x y && makes_room b true x z

    abbrev three : Bool
    three = makes_room c true y z

    by_tests :
        with_room n bs
        ≡ cond one (burst bs 1 ∷ burst bs 2 ∷ burst bs 3 ∷ [])
        (burst bs 0 ∷ cond two (burst bs 2 ∷ burst bs 3 ∷ []) (burst bs 1 ∷ cond three (burst bs 3 ∷ []) (burst bs 2 ∷ [])))
    by_tests =
        room_of_four
        ∙ (λ j.
        let u = sym p j in
        let v = sym q j in
        let s = sym r j in
        cond (makes_room u v w x && (makes_room u s w y && makes_room u (d j) w z)) (burst bs 1 ∷ burst bs 2 ∷ burst bs 3 ∷ [])
        (burst bs 0
        ∷ cond (makes_room v s x y && makes_room v (d j) x z) (burst bs 2 ∷ burst bs 3 ∷ [])
        (burst bs 1 ∷ cond (makes_room s (d j) y z) (burst bs 3 ∷ []) (burst bs 2 ∷ []))))

    module _ (i : ℕ) (e : i ≡ first_of one two three) where
      pub first_goes : i ≡ 0 → with_room n bs ≡ (burst bs 1 ∷ burst bs 2 ∷ burst bs 3 ∷ [])
      first_goes g = rw (by_tests, is_first one two three i e g)

      pub second_goes : (i ≡ 0 → ⊥) → i ≡ 1 → with_room n bs ≡ (burst bs 0 ∷ burst bs 2 ∷ burst bs 3 ∷ [])
      second_goes f g = let s = is_second one two three i e f g in rw (by_tests, s.0, s.1)

      pub third_goes : (i ≡ 0 → ⊥) → (i ≡ 1 → ⊥) → i ≡ 2 → with_room n bs ≡ (burst bs 0 ∷ burst bs 1 ∷ burst bs 3 ∷ [])
      third_goes f g k = let s = is_third one two three i e f g k in rw (by_tests, s.0, s.1, s.2)

      pub fourth_goes : (i ≡ 0 → ⊥) → (i ≡ 1 → ⊥) → (i ≡ 2 → ⊥) → with_room n bs ≡ (burst bs 0 ∷ burst bs 1 ∷ burst bs 2 ∷ [])
      fourth_goes f g k = let s = is_none one two three i e f g k in rw (by_tests, s.0, s.1, s.2)
