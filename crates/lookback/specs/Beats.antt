-- The beat on a record's clock, the last store in a bank, and a clear bus, by looking back (01, Beats). Definitions only.
use Rattle.std.specs.Prelude.{ℕ, Bool, not, ◌&&◌, cond, List, [], ◌∷◌, Option, None, Some}
use Rattle.units.specs.declared.Clock.{Clock}
use Rattle.layout.specs.declared.Record.{Record}
use Rattle.bursts.specs.declared.Beat.{Beat}
use Rattle.bursts.specs.Bus.{one_before, two_before, or_else, drives_lane, stores_in}
use Rattle.lookback.specs.Past.{clock_in, masks_at}
use Rattle.lookback.specs.Banks.{activates}
use Rattle.lookback.specs.Bursts.{write_on, read_on}

-- "Lanes with DQMB LOW on that clock are stored": the beat of a WRITE on the clock of record r after these
abbrev pub stored_on : List Record → Record → Beat
stored_on past r = write_on (r ∷ past) r.masks (clock_in past r) (r ∷ past)

-- "A lane is driven if its DQMB was LOW two clocks earlier": the beat of a READ on clock n. The records up to it are `all`, those
-- before it are `past`
abbrev pub driven_on : List Record → List Record → Clock → Beat
driven_on all past n = read_on all (masks_at past (two_before n)) n all

-- "Each accepted record reports the beat on its own clock"
unfoldable pub beat_in : List Record → Record → Beat
beat_in past r = or_else (stored_on past r) (driven_on (r ∷ past) past (clock_in past r))

-- "the last clock on which a byte was stored in it after its ACTIVE", of bank i. A byte on the ACTIVE's own clock is told too;
-- tWR counts from a later one only (rules/Banks `last_store`)
unfoldable pub stored_in : ℕ → List Record → Option Clock
stored_in i [] = None
stored_in i (r ∷ past) =
    cond (stores_in (beat_in past r) i) (Some (clock_in past r)) (cond (activates i r) None (stored_in i past))

-- some lane is driven on clock n
unfoldable pub drives_in : List Record → Clock → Bool
drives_in past n = drives_lane (driven_on past past n)

-- 20: "without this WRITE" no "lane would be driven on its clock, or is driven one clock before"
unfoldable pub clear_in : List Record → Clock → Bool
clear_in past n = not (drives_in past n) && not (drives_in past (one_before n))
