-- The order inside a burst (01, Beats): a rule, from which 003 table 6 follows (`Cases`). Definitions only.
use Rattle.std.specs.Prelude.{ℕ, ◌+◌, ◌-◌, ◌%◌, cond}
use Rattle.std.specs.Int.Bits.{bit_xor}
use Rattle.units.specs.Module.{bench_columns}
use Rattle.mode.specs.Word.{full_page, length_of, interleaved}

-- beat i inside the block, from start s (02, K3): interleaved, s exclusive or i; sequential, s plus i; both modulo the length
abbrev pub in_block : ℕ → ℕ → ℕ → ℕ
in_block w s i = cond (interleaved w) (bit_xor s i) (s + i) % length_of w

-- the column of beat i of a burst from column c, in c's block; "full page wraps at 2,048 columns and goes on without end"
unfoldable pub beat_column : ℕ → ℕ → ℕ → ℕ
beat_column w c i =
    cond (full_page w) ((c + i) % bench_columns) (c - c % length_of w + in_block w (c % length_of w) i)
