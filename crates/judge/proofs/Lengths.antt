-- What is printed, by the length of the input. Assumes nothing.
use Prim.Native.Nat.{ℕ, ◌≤◌, ◌<◌}
use mathlib.Core.Path.{◌≡◌}
use mathlib.Core.List.{List}
use lib.ListN.{length}
use borrow.Author.Tests.{lt-ltb, le-ltb}
use Rattle.lines.specs.Text.{too_long}
use Rattle.judge.specs.Output.{trace_max, printed, output}

module _ (input : List ℕ) where
  pub too_long_alone : trace_max < length input → output input ≡ too_long
  unfolding output
  too_long_alone h = rw (lt-ltb trace_max (length input) h)

  pub judged_up_to_it : length input ≤ trace_max → output input ≡ printed input
  unfolding output
  judged_up_to_it h = rw (le-ltb trace_max (length input) h)
