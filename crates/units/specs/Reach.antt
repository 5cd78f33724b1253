-- How far a clock may lie for its time to fit 64 bits: what 3, 23 and 25 keep to. Definitions only.
use Rattle.std.specs.Prelude.{◌+◌, ◌^◌, ◌≤◌}
use Rattle.units.specs.declared.Clock.{Clock}
use Rattle.units.specs.declared.Ps.{Ps}

-- number 3
abbrev pub FitPeriod : Ps → Type 0
FitPeriod p = p.0 ≤ 65_535

-- a clock whose product with the period fits 64 bits: up to the longest skip, or a full page, past the last clock, 2^40
pub record Reach (p : Ps) (n : Clock) : Type 0 where
  pub clock : n.0 ≤ 2 ^ 40 + 2 ^ 25
  pub period : FitPeriod p
