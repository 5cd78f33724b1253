-- What demand 3 speaks of: a table that is nowhere harder, and states that differ in closing times only. Definitions only.
use Rattle.units.specs.declared.Clock.{Clock}
use Rattle.std.specs.Prelude.{◌≤◌, List, [], ◌∷◌, Option}
use Rattle.units.specs.declared.Ps.{Ps}
use Rattle.speed.specs.declared.SpeedTable.{SpeedTable}
use Rattle.rules.specs.declared.Status.TheVariants.{Closed}
use Rattle.rules.specs.declared.Bank.{Bank}
use Rattle.rules.specs.declared.Core.{Core}
use Rattle.rules.specs.declared.State.{State}

-- u is nowhere harder than t: "Maxima are tRAS max and the refresh interval; the other eleven are minima"
pub record NowhereHarder (t u : SpeedTable) : Type 0 where
  pub tck2 : u.tck2.0 ≤ t.tck2.0
  pub tck3 : u.tck3.0 ≤ t.tck3.0
  pub trasmin : u.trasmin.0 ≤ t.trasmin.0
  pub trasmax : t.trasmax.0 ≤ u.trasmax.0
  pub trc : u.trc.0 ≤ t.trc.0
  pub trcd : u.trcd.0 ≤ t.trcd.0
  pub trp : u.trp.0 ≤ t.trp.0
  pub trrd : u.trrd.0 ≤ t.trrd.0
  pub trfc : u.trfc.0 ≤ t.trfc.0
  pub twr : u.twr.0 ≤ t.twr.0
  pub addition : u.addition.0 ≤ t.addition.0
  pub interval : t.interval.0 ≤ u.interval.0
  pub tmrd : u.tmrd.0 ≤ t.tmrd.0

-- the same bank, or the same but closed earlier
pub data Near : Bank → Bank → Type 0 where
  same : {b : Bank} → Near b b
  earlier : {p q : Ps} {active stored : Option Clock} → q.0 ≤ p.0
      → Near (record { status = Closed p; active = active; stored = stored }) (record { status = Closed q; active = active; stored = stored })

-- bank for bank
pub data NearBanks : List Bank → List Bank → Type 0 where
  none : NearBanks [] []
  both : {b d : Bank} {bs ds : List Bank} → Near b d → NearBanks bs ds → NearBanks (b ∷ bs) (d ∷ ds)

-- the same state, but for closing times that may be earlier in the second
pub data NearStates : State → State → Type 0 where
  near : {c : Core} {bs ds : List Bank} → NearBanks bs ds
      → NearStates (record { core = c; banks = bs }) (record { core = c; banks = ds })
