-- What holds of the sizes of every module. Assumes nothing.
use Prim.Native.Nat.{◌≤◌}
use mathlib.Core.Path.{◌≡◌, refl}
use borrow.Author.Tests.{leb-true}
use Rattle.units.specs.declared.Module.{Module}
use Rattle.units.specs.declared.Module.TheVariants.{Bench, Handheld}
use Rattle.units.specs.Module.{rows, columns, lanes, page_bytes}

pub lanes_fit : (m : Module) → lanes m ≤ 8
lanes_fit Bench = leb-true 8 8 refl
lanes_fit Handheld = leb-true 2 8 refl

-- a row is a 13-bit number, a column an 11-bit number
pub rows_fit : (m : Module) → rows m ≤ 8192
rows_fit Bench = leb-true 8192 8192 refl
rows_fit Handheld = leb-true 4096 8192 refl

pub columns_fit : (m : Module) → columns m ≤ 2048
columns_fit Bench = leb-true 2048 2048 refl
columns_fit Handheld = leb-true 256 2048 refl

-- the page that a program of the bench holds
pub bench_page : page_bytes Bench ≡ 16_384
bench_page = refl

-- neither is 0
pub some_row : (m : Module) → 1 ≤ rows m
some_row Bench = leb-true 1 8192 refl
some_row Handheld = leb-true 1 4096 refl

pub some_column : (m : Module) → 1 ≤ columns m
some_column Bench = leb-true 1 2048 refl
some_column Handheld = leb-true 1 256 refl
