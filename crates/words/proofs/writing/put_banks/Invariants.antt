-- `words::writing::put_banks`: what is left, stored in turn, gives what all four banks give.
use Rattle.std.proofs.Common.{◌≡◌, ◌+◌, ◌*◌, ◌≤◌, length, drop}
use lib.Seq.{sets}
use Rattle.words.specs.Words.{banks_numbers}
use Rattle.words.proofs.writing.put_banks.Given as goal

abbrev pub invariant-loop-i : goal.invariant-loop-i
invariant-loop-i l =
    (l.i ≤ 4)
    × (sets l.initial.words 62 (banks_numbers l.fn.banks) ≡ sets l.words (62 + 8 * l.i) (banks_numbers (drop l.i l.fn.banks)))
    × (length l.words ≡ length l.initial.words)
