-- A WRITE's beat stores its cells where it is for the watched bank and row. Assumes nothing.
use Prim.Native.Nat.{ℕ}
use mathlib.Core.Path.{◌≡◌}
use mathlib.Core.Bool.{true, false, ◌&&◌}
use mathlib.Core.List.{List}
use lib.Dec.{eqb}
use Rattle.units.specs.declared.Module.{Module}
use Rattle.bursts.specs.declared.Cells.{Cells}
use Rattle.bursts.specs.declared.Beat.TheVariants.{Stores}
use Rattle.page.specs.Store.{put_cells, stored}

module _ (m : Module) (bank row dq : ℕ) (c : Cells) (page : List ℕ) where
  pub watched : (eqb c.bank bank && eqb c.row row) ≡ true → put_cells m c dq page ≡ stored m bank row dq (Stores c) page
  unfolding stored
  watched h = rw h

  pub not_watched : (eqb c.bank bank && eqb c.row row) ≡ false → page ≡ stored m bank row dq (Stores c) page
  unfolding stored
  not_watched h = rw h
