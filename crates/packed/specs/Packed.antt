-- The four banks read from numbers in one list, eight to a bank, as the loop over records holds them. The numbers of a bank are those of
-- words/Words. Definitions only.
use Rattle.units.specs.declared.Clock.{Clock}
use Rattle.std.specs.Prelude.{ℕ, ◌+◌, ◌*◌, ◌%◌, ◌≡◌, cond, List, [], ◌∷◌, eqb, get_or, Option, None, Some}
use Rattle.units.specs.Time.{clock, time}
use Rattle.rules.specs.declared.Status.{Status}
use Rattle.rules.specs.declared.Status.TheVariants.{NotStarted, Open, Closed}
use Rattle.rules.specs.declared.Bank.{Bank}
use Rattle.words.specs.Words.{banks_numbers}

-- 0 for an event that has not occurred; any other number, and its clock
unfoldable pub event_in : ℕ → ℕ → Option Clock
event_in kind n = cond (eqb kind 0) None (Some (clock n))

-- 0 not started; 1 open, with its row and the clock of its ACTIVE; any other number closed, with the time of its closing
unfoldable pub status_in : ℕ → ℕ → ℕ → ℕ → Status
status_in kind row n t = cond (eqb kind 0) NotStarted (cond (eqb kind 1) (Open (row % 65_536) (clock n)) (Closed (time t)))

-- bank i: its status in four numbers, its last ACTIVE in two, its last store in two
unfoldable pub bank_in : List ℕ → ℕ → Bank
bank_in l i =
    record {
      status = status_in (get_or l (8 * i) 0) (get_or l (8 * i + 1) 0) (get_or l (8 * i + 2) 0) (get_or l (8 * i + 3) 0);
      active = event_in (get_or l (8 * i + 4) 0) (get_or l (8 * i + 5) 0);
      stored = event_in (get_or l (8 * i + 6) 0) (get_or l (8 * i + 7) 0);
    }

abbrev pub banks_in : List ℕ → List Bank
banks_in l = bank_in l 0 ∷ bank_in l 1 ∷ bank_in l 2 ∷ bank_in l 3 ∷ []

-- ── An array that holds banks ──

-- these banks are read from it, and its numbers are theirs
pub record Held (l : List ℕ) (bs : List Bank) : Type 0 where
  pub banks : banks_in l ≡ bs
  pub numbers : l ≡ banks_numbers bs

-- it holds the banks that are read from it
abbrev pub Packed : List ℕ → Type 0
Packed l = l ≡ banks_numbers (banks_in l)
