-- `words::writing::put_bursts`: what is left, stored in turn, gives what all the bursts give.
use Rattle.std.proofs.Common.{◌≡◌, ◌+◌, ◌*◌, ◌≤◌, length, drop}
use lib.Seq.{sets}
use Rattle.words.specs.Words.{bursts_numbers}
use Rattle.words.proofs.writing.put_bursts.Given as goal

abbrev pub invariant-loop-i : goal.invariant-loop-i
invariant-loop-i l =
    (l.i ≤ length l.bursts)
    × (sets l.initial.words l.at (bursts_numbers l.bursts) ≡ sets l.words (l.at + 9 * l.i) (bursts_numbers (drop l.i l.bursts)))
    × (length l.words ≡ length l.initial.words)
