-- What is printed of all the bytes of an input, by those in a buffer of one byte more than the longest trace. Assumes nothing.
use Rattle.std.proofs.Common.{◌≡◌, ℕ, ◌+◌, ◌≤◌, ◌<◌, List, ◌++◌, length, take, ap, ◌∙◌, Option, Some, None, IfSome, sym, subst, inl, inr, arith}
use Rattle.std.proofs.Math.Nat.{eq-or-lt_of_le}
use Rattle.std.proofs.lemmas.List.{length-take-le, length-append, append-nil}
use Rattle.std.specs.Io.KnownBytes.{Consumes, IsAtEnd}
use Rattle.judge.specs.Output.{output}
use Rattle.judge.proofs.Lengths.{too_long_alone}

-- the bytes that were read say what is printed of all of them: they are all, or they are too long
enough : (after : Option (List ℕ)) (bytes buf : List ℕ) (n : ℕ) → length buf ≡ 65537 → n ≤ length buf
    → Consumes (Some bytes) after (take n buf) → (n < length buf → IsAtEnd after)
    → output (take n buf) ≡ output bytes
enough None bytes buf n room fits taken ended = elim taken [ ]
enough (Some rest) bytes buf n room fits taken ended = elim (eq-or-lt_of_le fits) [
  | inl full ↦
      let most : length (take n buf) ≡ 65537 = length-take-le n buf fits ∙ full ∙ room in
      let all : length bytes ≡ length (take n buf) + length rest = ap length taken ∙ length-append (take n buf) rest in
      too_long_alone (take n buf) (omega arith) ∙ sym (too_long_alone bytes (omega arith))
  | inr short ↦ ap output (sym (taken ∙ ap (λ (l : List ℕ). take n buf ++ l) (ended short) ∙ append-nil (take n buf)))
]

pub printed_of_all : (known after : Option (List ℕ)) (buf : List ℕ) (n : ℕ) (P : List ℕ → Type 0)
    → length buf ≡ 65537 → n ≤ length buf
    → Consumes known after (take n buf) → (n < length buf → IsAtEnd after)
    → P (output (take n buf)) → IfSome known (λ bytes. P (output bytes))
printed_of_all None after buf n P room fits taken ended h = tt
printed_of_all (Some bytes) after buf n P room fits taken ended h = subst P (enough after bytes buf n room fits taken ended) h
