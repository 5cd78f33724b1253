-- A time in reach is far below 64 bits. Assumes nothing.
use Rattle.std.specs.Prelude.{Option, None, Some}
use Prim.Native.Nat.{ℕ, ◌+◌, ◌^◌, ◌≤◌, ◌<◌}
use native.Mathlib.Nat.{le_trans, mul-le-mul}
use native.Mathlib.Omega.{arith}
use mathlib.Core.Path.{◌≡◌, ap, sym, subst}
use Rattle.units.specs.declared.Clock.{Clock}
use Rattle.units.specs.declared.Ps.{Ps}
use Rattle.units.specs.Time.{clock, at}
use Rattle.rules.specs.Parts.{next_clock}
use Rattle.rules.specs.Rules.{clock_max}
use Rattle.units.specs.Reach.{FitPeriod, Reach}
use Rattle.rules.specs.Admitted.{FitEvent}

pub time_most : {p x : Ps} {n : Clock} → x ≡ at p n → n.0 ≤ clock_max + 2 ^ 25 → FitPeriod p → x.0 ≤ 2 ^ 57
time_most {p} {x} {n} e h k = subst (λ (y : Ps). y.0 ≤ 2 ^ 57) (sym e) (le_trans (mul-le-mul h k) (omega arith))

pub next_most : (e : Option Clock) → FitEvent e → next_clock e ≤ clock_max + 1
next_most None h = omega arith
next_most (Some x) h = omega arith

-- the clock of a record from an admitted state is in reach
pub clock_reach : {p : Ps} {n : Clock} (last : Option Clock) (skipped : ℕ) → FitEvent last → skipped < 2 ^ 24 → FitPeriod p → n ≡ clock (next_clock last + skipped) → Reach p n
clock_reach last skipped f h k e =
    let m = next_most last f in
    let q = ap (λ (x : Clock). x.0) e in
    record { clock = omega arith; period = k }
