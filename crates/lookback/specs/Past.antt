-- The earlier records, the newest first: their clocks, those of a kind, their masks (01, Trace layout). Definitions only.
use Rattle.std.specs.Prelude.{ℕ, suc, ◌+◌, Bool, false, ◌&&◌, ◌||◌, cond, List, [], ◌∷◌, leb, ltb, eqb, Option, None, Some}
use Rattle.units.specs.declared.Clock.{Clock}
use Rattle.units.specs.Time.{clock}
use Rattle.layout.specs.declared.Record.{Record}
use Rattle.bursts.specs.Bus.{all_high}

-- ── Clocks ──

-- the first clock after these records
abbrev pub first_free : List Record → ℕ
first_free [] = 0
first_free (r ∷ past) = suc (first_free past + r.skipped)

-- the clock of record r after these: "The first record stands on the clock equal to its skipped count; each later one on the
-- previous clock plus its skipped count plus 1"
abbrev pub clock_in : List Record → Record → Clock
clock_in past r = clock (first_free past + r.skipped)

-- how many they are
abbrev pub count : List Record → ℕ
count [] = 0
count (r ∷ past) = count past + 1

-- ── Records of a kind ──

-- back from the last record of which f holds; nothing where there is none
abbrev pub back_to : (Record → Bool) → List Record → List Record
back_to f [] = []
back_to f (r ∷ past) = cond (f r) (r ∷ past) (back_to f past)

-- the newest of these
abbrev pub newest : List Record → Option Clock
newest [] = None
newest (r ∷ past) = Some (clock_in past r)

-- the last record of which f holds
abbrev pub last_of : (Record → Bool) → List Record → Option Clock
last_of f past = newest (back_to f past)

-- how many of them it holds of
abbrev pub count_of : (Record → Bool) → List Record → ℕ
count_of f [] = 0
count_of f (r ∷ past) = cond (f r) (suc (count_of f past)) (count_of f past)

-- one of which it holds "stands at x with" a "< x <=" b
abbrev pub stands : (Record → Bool) → ℕ → ℕ → List Record → Bool
stands f a b [] = false
stands f a b (r ∷ past) = (f r && (ltb a (clock_in past r).0 && leb (clock_in past r).0 b)) || stands f a b past

-- ── Masks ──

-- the masks on clock m: those of the record that stands there; "A skipped clock had COMMAND INHIBIT and all masks HIGH"
unfoldable pub masks_at : List Record → Clock → ℕ
masks_at [] m = all_high
masks_at (r ∷ past) m = cond (eqb m.0 (clock_in past r).0) r.masks (masks_at past m)
