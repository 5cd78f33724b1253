-- What each module has pins for, as the code tests it. Assumes nothing.
use Prim.Native.Nat.{ℕ, ◌+◌, ◌%◌, ◌^◌, ◌<◌}
use native.Mathlib.Omega.{arith}
use mathlib.Core.Path.{◌≡◌, refl}
use mathlib.Core.Bool.{true, ◌&&◌}
use lib.Dec.{ltb}
use borrow.Author.Tests.{lt-ltb}
use Rattle.units.specs.declared.Module.TheVariants.{Bench, Handheld}
use Rattle.layout.specs.Commands.{column_of, column_on}
use Rattle.layout.specs.Bytes.{has_pins, lane_masks}

pub bench_column : (addr : ℕ) → column_of addr ≡ column_on Bench addr
unfolding column_on
bench_column addr = omega arith

pub handheld_column : (addr : ℕ) → addr % 256 ≡ column_on Handheld addr
unfolding column_on
handheld_column addr = omega arith

pub bench_masks : (masks : ℕ) → masks < 256 → masks ≡ lane_masks Bench masks
unfolding lane_masks
bench_masks masks h = omega arith

pub handheld_masks : (masks : ℕ) → masks % 4 + 252 ≡ lane_masks Handheld masks
unfolding lane_masks
handheld_masks masks = omega arith

-- the bench has a pin for each bit
pub bench_pins : (addr masks dq : ℕ) → addr < 8192 → masks < 256 → dq < 2 ^ 64 → true ≡ has_pins Bench addr masks dq
unfolding has_pins
bench_pins addr masks dq a m d = rw (lt-ltb addr 8192 a, lt-ltb masks 256 m, lt-ltb dq (2 ^ 64) d)

pub handheld_pins : (addr masks dq : ℕ) → (ltb addr 4096 && ltb masks 4 && ltb dq 65536) ≡ has_pins Handheld addr masks dq
unfolding has_pins
handheld_pins addr masks dq = refl
