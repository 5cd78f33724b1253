-- What a bank's record says, and the bank that a command must find: numbers 13 and 15 (01, Commands and what each must find). Definitions only.
use Rattle.std.specs.Prelude.{ℕ, Bool, true, false, ◌&&◌, ◌||◌, cond, List, [], ◌∷◌, ltb, get_or, Option, None, Some}
use Rattle.units.specs.declared.Clock.{Clock}
use Rattle.units.specs.declared.Ps.{Ps}
use Rattle.units.specs.Time.{at, by, plus}
use Rattle.layout.specs.declared.Command.{Command}
use Rattle.layout.specs.declared.Command.TheVariants.{Active, Refresh, LoadMode}
use Rattle.layout.specs.Commands.{is, access}
use Rattle.rules.specs.declared.Status.{Status}
use Rattle.rules.specs.declared.Status.TheVariants.{NotStarted, Open, Closed}
use Rattle.rules.specs.declared.Bank.{Bank}
use Rattle.rules.specs.Numbers.{◌⇒◌}
use Rattle.rules.specs.Parts.{no_bank}

abbrev pub bank_at : List Bank → ℕ → Bank
bank_at bs i = get_or bs i no_bank

-- "bank open"
abbrev pub is_open : Status → Bool
is_open NotStarted = false
is_open (Open row n) = true
is_open (Closed t) = false

-- "bank closed": neither open nor not started
abbrev pub is_closed : Status → Bool
is_closed NotStarted = false
is_closed (Open row n) = false
is_closed (Closed t) = true

-- the open row
abbrev pub row_of : Status → ℕ
row_of NotStarted = 0
row_of (Open row n) = row
row_of (Closed t) = 0

-- the ACTIVE of an open bank
abbrev pub opened : Status → List Clock
opened NotStarted = []
opened (Open row n) = n ∷ []
opened (Closed t) = []

-- the closing time of a closed bank
abbrev pub closings : Status → List Ps
closings NotStarted = []
closings (Open row n) = []
closings (Closed t) = t ∷ []

-- the clock on which an event stands, where that is after clock n
abbrev pub clock_after : Clock → Option Clock → List Clock
clock_after n None = []
clock_after n (Some x) = cond (ltb n.0 x.0) (x ∷ []) []

-- "the last clock on which a byte was stored in it after its ACTIVE", of an open bank
abbrev pub last_store : Status → Option Clock → List Clock
last_store NotStarted e = []
last_store (Open row n) e = clock_after n e
last_store (Closed t) e = []

-- each of the banks
abbrev pub every : (Bank → Bool) → List Bank → Bool
every f [] = true
every f (b ∷ bs) = f b && every f bs

abbrev pub closed : Bank → Bool
closed b = is_closed b.status

-- 13, of one bank at time now: its row is not "open longer than tRAS max"
abbrev pub open_within : Ps → Ps → Ps → Status → Bool
open_within period trasmax now NotStarted = true
open_within period trasmax now (Open row n) = by now (plus (at period n) trasmax)
open_within period trasmax now (Closed t) = true

-- 15: "ACTIVE: bank closed. READ, WRITE: bank open. AUTO REFRESH, LOAD MODE: every bank closed"
unfoldable pub banks_found : Command → ℕ → List Bank → Bool
banks_found k ba bs =
    (is k Active ⇒ is_closed (bank_at bs ba).status)
    && (access k ⇒ is_open (bank_at bs ba).status)
    && (is k Refresh || is k LoadMode ⇒ every closed bs)
