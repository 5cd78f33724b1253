-- Start-up and the mode loaded, by looking back (01, Start-up). Definitions only.
use Rattle.units.specs.declared.Clock.{Clock}
use Rattle.std.specs.Prelude.{ℕ, Bool, cond, List, [], ◌∷◌, ltb, Option, None, Some}
use Rattle.layout.specs.declared.Record.{Record}
use Rattle.layout.specs.declared.Command.TheVariants.{Refresh, LoadMode}
use Rattle.layout.specs.Commands.{command, is, precharge_all}
use Rattle.rules.specs.declared.Refreshes.{Refreshes}
use Rattle.rules.specs.declared.Refreshes.TheVariants.{Zero, One, Two}
use Rattle.rules.specs.declared.Register.{Register}
use Rattle.rules.specs.declared.StartUp.{StartUp}
use Rattle.rules.specs.Parts.{word_in, startup_of, loaded}
use Rattle.lookback.specs.Past.{clock_in, back_to, last_of, count_of}

-- "PRECHARGE ALL"
abbrev pub closes_all : Record → Bool
closes_all r = precharge_all (command r) r

-- "AUTO REFRESH"
abbrev pub refreshes : Record → Bool
refreshes r = is (command r) Refresh

-- "LOAD MODE"
abbrev pub loads : Record → Bool
loads r = is (command r) LoadMode

-- so many refreshes, the last of them here: none, one, or "two or more refreshes done"
abbrev pub refreshes_by : ℕ → Option Clock → Refreshes
refreshes_by n None = Zero
refreshes_by n (Some x) = cond (ltb n 2) (One x) (Two x)

-- the refreshes done, and the last of them: 12, and "tRFC since the last refresh"
abbrev pub refreshes_in : List Record → Refreshes
refreshes_in past = refreshes_by (count_of refreshes past) (last_of refreshes past)

-- the mode that the newest of these loaded: "Mode word is A12 to A0"
abbrev pub loaded_by : List Record → Option Register
loaded_by [] = None
loaded_by (r ∷ past) = loaded r.addr (clock_in past r)

-- what the last LOAD MODE left: "tMRD since the last mode load"
abbrev pub register_in : List Record → Option Register
register_in past = loaded_by (back_to loads past)

-- the mode loaded
abbrev pub mode_in : List Record → ℕ
mode_in past = word_in (register_in past)

-- the steps of start-up that these records took
abbrev pub startup_in : List Record → StartUp
startup_in past = startup_of (last_of closes_all past) (refreshes_in past) (register_in past)
