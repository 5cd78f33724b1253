-- `words::writing::store_all`: what is left, stored in turn, gives what all the numbers give.
use Rattle.std.proofs.Common.{◌≡◌, ◌+◌, ◌≤◌, length, drop}
use lib.Seq.{sets}
use Rattle.words.proofs.writing.store_all.Given as goal

abbrev pub invariant-loop-i : goal.invariant-loop-i
invariant-loop-i l =
    (l.i ≤ length l.numbers)
    × (sets l.initial.words l.at l.numbers ≡ sets l.words (l.at + l.i) (drop l.i l.numbers))
    × (length l.words ≡ length l.initial.words)
