-- What is read part by part into a buffer, one part after the other. Assumes nothing.
use Rattle.std.proofs.Common.{◌≡◌, ℕ, ◌+◌, ◌≤◌, List, ◌++◌, length, take, drop, ap, ◌∙◌, Option, Some, None, sym}
use Rattle.std.proofs.Math.Seq.{take-add}
use Rattle.std.proofs.lemmas.List.{take-append-le, drop_at, length-take-le, append_assoc}
use Rattle.std.specs.Io.KnownBytes.{Consumes}
use borrow.Rule.Slice.PartMut.{put_mid, post_of, take_put}

-- the bytes so far and those of the next read
pub both_parts : (at n room : ℕ) (buf part : List ℕ) → at ≤ length buf → n ≤ length part
    → take (at + n) (put_mid at room buf part) ≡ take at buf ++ take n part
both_parts at n room buf part h fits =
    take-add at n (put_mid at room buf part)
    ∙ ap (λ (l : List ℕ). l ++ take n (drop at (put_mid at room buf part))) (take_put at room buf part h)
    ∙ ap (λ (l : List ℕ). take at buf ++ take n l) (drop_at (take at buf) (part ++ post_of at room buf) at (length-take-le at buf h))
    ∙ ap (λ (l : List ℕ). take at buf ++ l) (take-append-le n part (post_of at room buf) fits)

pub both_taken : (a b c : Option (List ℕ)) (first next : List ℕ) → Consumes a b first → Consumes b c next → Consumes a c (first ++ next)
both_taken None b c first next h g = tt
both_taken (Some x) None c first next h g = elim h [ ]
both_taken (Some x) (Some y) None first next h g = elim g [ ]
both_taken (Some x) (Some y) (Some z) first next h g = rw (h, g) (sym (append_assoc first next z))
