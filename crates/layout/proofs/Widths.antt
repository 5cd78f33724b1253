-- Records and a header that were read from bytes keep to their widths, and records to their module. Assumes nothing.
use Prim.Native.Nat.{ℕ, zero, suc, ◌+◌, ◌^◌, ◌<◌}
use native.Mathlib.Omega.{arith}
use mathlib.Core.Path.{◌≡◌, refl, ap}
use mathlib.Core.List.{List}
use lib.ListN.{length, take, drop}
use mathlib.Core.Bool.{Bool, true, false, cond}
use borrow.Author.Tests.{ltb-true}
use Rattle.units.specs.declared.Module.{Module}
use Rattle.units.specs.declared.Module.TheVariants.{Bench, Handheld}
use Rattle.units.specs.Module.{rows, columns}
use Rattle.units.proofs.Both.{both}
use Rattle.layout.specs.Commands.{column_on}
use Rattle.layout.specs.Bytes.{bits, has_pins, lane_masks, word_at, header_from, header_of, record_from, record_of, records_of}
use Rattle.layout.specs.Widths.{Widths, AllWidths, OnModule}

-- a column is one of the module's
column_fits : (m : Module) (addr : ℕ) → column_on m addr < columns m
unfolding column_on
column_fits Bench addr = omega arith
column_fits Handheld addr = omega arith

masks_fit : (m : Module) (masks : ℕ) → lane_masks m masks < 2 ^ 8
unfolding lane_masks
masks_fit Bench masks = omega arith
masks_fit Handheld masks = omega arith

-- where no zero bit is set, the row is one of the module's
row_fits : (m : Module) (zeros addr masks dq : ℕ) → zeros + cond (has_pins m addr masks dq) 0 1 ≡ 0 → addr < rows m
unfolding has_pins
row_fits m zeros addr masks dq h = go (has_pins m addr masks dq) refl h
  where
    go : (x : Bool) → has_pins m addr masks dq ≡ x → zeros + cond x 0 1 ≡ 0 → addr < rows m
    go true e h = ltb-true addr (rows m) (both _ _ (both _ _ e).0).0
    go false e h = absurd (omega arith)

from_fits : (m : Module) (first second : ℕ) → Widths (record_from m first second)
unfolding record_from
from_fits m first second =
    record { skipped = omega arith; ba = omega arith; addr = omega arith; masks = masks_fit m (bits first 12 8) }

pub record_fits : (m : Module) (bytes : List ℕ) → Widths (record_of m bytes)
record_fits m bytes = from_fits m (word_at bytes 0) (word_at bytes 8)

from_on : (m : Module) (first second : ℕ) → OnModule m (record_from m first second)
unfolding record_from
from_on m first second =
    record {
      row = row_fits m (bits first 0 12) (bits first 20 13) (bits first 12 8) second;
      column = column_fits m (bits first 20 13);
    }

pub record_on : (m : Module) (bytes : List ℕ) → OnModule m (record_of m bytes)
record_on m bytes = from_on m (word_at bytes 0) (word_at bytes 8)

pub records_fit : (m : Module) (k : ℕ) (bytes : List ℕ) → AllWidths (records_of m k bytes)
unfolding records_of
records_fit m zero bytes = tt
records_fit m (suc k) bytes = (record_fits m (take 16 bytes), records_fit m k (drop 16 bytes))

pub records_length : (m : Module) (k : ℕ) (bytes : List ℕ) → length (records_of m k bytes) ≡ k
unfolding records_of
records_length m zero bytes = refl
records_length m (suc k) bytes = ap suc (records_length m k (drop 16 bytes))

-- what the start state reads of a header
pub record HeaderWidths (bytes : List ℕ) : Type 0 where
  pub count : (header_of bytes).count < 2 ^ 16
  pub bank : (header_of bytes).bank < 4
  pub row : (header_of bytes).row < 2 ^ 13

pub header_fits : (bytes : List ℕ) → HeaderWidths bytes
unfolding header_from
header_fits bytes = record { count = omega arith; bank = omega arith; row = omega arith }
