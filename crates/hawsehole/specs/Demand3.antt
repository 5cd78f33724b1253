-- DEMAND 3 of the whole-trace judge: "A table that is nowhere harder never stops earlier; beats and page agree up to the harder table's
-- stop". The claim; it is proved in hawsehole/proofs/Demand3. Definitions only.
use Rattle.std.specs.Prelude.{ℕ, ◌≤◌, ◌≡◌, true, List, length, take, Ok}
use Rattle.speed.specs.declared.SpeedTable.{SpeedTable}
use Rattle.speed.specs.Table.{table_fits}
use Rattle.rules.specs.declared.Setup.{Setup}
use Rattle.rules.specs.Harder.{NowhereHarder}
use Rattle.hawsehole.specs.Trace.{judge, page_when}

-- the answers to one trace and page: t has the harder table, u the easier
pub record Demand3 (t u : Setup) (trace page : List ℕ) : Type 0 where
  -- "never stops earlier"
  pub never_earlier : (judge t trace page).reported ≤ (judge u trace page).reported
  -- "beats .. agree up to the harder table's stop"
  pub beats_agree : take (length (judge t trace page).lines) (judge u trace page).lines ≡ (judge t trace page).lines
  -- "and page": the harder's is the easier's when as many records were taken
  pub page_agrees : page_when u trace page (length (judge t trace page).lines) ≡ (judge t trace page).page
  -- what the harder table calls clean is clean, with the same beats and the same page
  pub clean : (judge t trace page).verdict ≡ Ok tt → judge u trace page ≡ judge t trace page

-- the claim, of any two tables that number 6 passes
abbrev pub Demand3Holds : Type 0
Demand3Holds =
    (t u : SpeedTable) → NowhereHarder t u → table_fits t ≡ true → table_fits u ≡ true → (trace page : List ℕ)
    → Demand3 (record { table = t }) (record { table = u }) trace page
