-- DEMAND 3 of the call of many records: "A table that is nowhere harder never stops earlier; beats and page agree up to the harder
-- table's stop". The claim; it is proved in device/proofs/Demand3. Definitions only.
use Rattle.std.specs.Prelude.{ℕ, ◌*◌, ◌≤◌, ◌≡◌, true, List, length, take, Ok}
use Rattle.speed.specs.declared.SpeedTable.{SpeedTable}
use Rattle.speed.specs.Table.{table_fits}
use Rattle.rules.specs.declared.State.{State}
use Rattle.rules.specs.declared.Setup.{Setup}
use Rattle.rules.specs.Report.{call_run, records_call}
use Rattle.rules.specs.Harder.{NowhereHarder}

-- how many records a call takes, with a page of so many bytes; none where it looks at no record
abbrev pub taken_in : Setup → State → List ℕ → ℕ → ℕ
taken_in u s bytes lent = length (call_run u s bytes lent).lines

-- the records of these bytes up to the stop of the call with u
abbrev pub up_to_stop : Setup → State → List ℕ → List ℕ → List ℕ
up_to_stop u s bytes page = take (16 * taken_in u s bytes (length page)) bytes

-- the calls from one state with the same bytes, page and beats: t has the harder table, u the easier
pub record Demand3 (t u : Setup) (s : State) (bytes page beats : List ℕ) : Type 0 where
  -- "never stops earlier"
  pub never_earlier : taken_in t s bytes (length page) ≤ taken_in u s bytes (length page)
  -- "beats .. agree up to the harder table's stop"
  pub beats_agree : (records_call u s (up_to_stop t s bytes page) page beats).beats ≡ (records_call t s bytes page beats).beats
  -- "and page"
  pub page_agrees : (records_call u s (up_to_stop t s bytes page) page beats).page ≡ (records_call t s bytes page beats).page
  -- what the harder table calls clean is clean, with the same beats and the same page
  pub clean : (records_call t s bytes page beats).ran.verdict ≡ Ok tt → records_call u s bytes page beats ≡ records_call t s bytes page beats

-- the claim, of any two tables that number 6 passes
abbrev pub Demand3Holds : Type 0
Demand3Holds =
    (t u : SpeedTable) → NowhereHarder t u → table_fits t ≡ true → table_fits u ≡ true → (s : State) (bytes page beats : List ℕ)
    → Demand3 (record { table = t }) (record { table = u }) s bytes page beats
