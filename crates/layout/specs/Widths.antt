-- The widths of a record's fields (01, Trace layout), as facts. Definitions only.
use Rattle.std.specs.Prelude.{◌^◌, ◌<◌, ◌≡◌, List, [], ◌∷◌}
use Rattle.units.specs.declared.Module.{Module}
use Rattle.units.specs.Module.{rows, columns}
use Rattle.layout.specs.declared.Record.{Record}

-- of any module
pub record Widths (r : Record) : Type 0 where
  pub skipped : r.skipped < 2 ^ 24
  pub ba : r.ba < 4
  pub addr : r.addr < 2 ^ 13
  pub masks : r.masks < 2 ^ 8

abbrev pub AllWidths : List Record → Type 0
AllWidths [] = Unit {0}
AllWidths (r ∷ rs) = Widths r × AllWidths rs

-- of this module: its column is one of the module's and, where no zero bit is set, so is its row
pub record OnModule (m : Module) (r : Record) : Type 0 where
  pub row : r.zeros ≡ 0 → r.addr < rows m
  pub column : r.column < columns m
