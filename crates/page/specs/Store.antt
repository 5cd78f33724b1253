-- What a beat stores in the page of the watched bank and row (01, Trace layout and Beats). Definitions only.
use Rattle.std.specs.Prelude.{ℕ, zero, suc, ◌+◌, ◌*◌, ◌/◌, ◌%◌, ◌&&◌, cond, List, eqb, set}
use Rattle.units.specs.declared.Module.{Module}
use Rattle.units.specs.Module.{lanes}
use Rattle.bursts.specs.declared.Cells.{Cells}
use Rattle.bursts.specs.declared.Beat.{Beat}
use Rattle.bursts.specs.declared.Beat.TheVariants.{Quiet, Stores, Drives}

-- k lanes from page byte `at` on: the lowest bit of `low` says whether the lowest byte of `dq` is stored there
unfoldable pub put_lanes : ℕ → ℕ → ℕ → ℕ → List ℕ → List ℕ
put_lanes zero at low dq page = page
put_lanes (suc k) at low dq page =
    put_lanes k (at + 1) (low / 2) (dq / 256) (cond (eqb (low % 2) 1) (set page at (dq % 256)) page)

-- "Lane i is DQ(8i) to DQ(8i+7). Column c, lane i is page byte 8c+i": with n lanes, nc+i
abbrev pub put_cells : Module → Cells → ℕ → List ℕ → List ℕ
put_cells m c dq page = put_lanes (lanes m) (lanes m * c.column) c.lanes dq page

-- the page of bank `bank`, row `row`, after a beat with this data on its clock
unfoldable pub stored : Module → ℕ → ℕ → ℕ → Beat → List ℕ → List ℕ
stored m bank row dq Quiet page = page
stored m bank row dq (Stores c) page = cond (eqb c.bank bank && eqb c.row row) (put_cells m c dq page) page
stored m bank row dq (Drives c) page = page
