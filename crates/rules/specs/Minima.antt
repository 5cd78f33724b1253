-- The minima that each command must find met: number 16 (01, Commands and what each must find). Definitions only.
use Rattle.std.specs.Prelude.{ℕ, suc, Bool, true, false, not, ◌&&◌, ◌||◌, List, [], ◌∷◌, ◌++◌, eqb}
use Rattle.units.specs.declared.Clock.{Clock}
use Rattle.units.specs.declared.Ps.{Ps}
use Rattle.units.specs.Time.{at, by, plus, clocks_of}
use Rattle.layout.specs.declared.Record.{Record}
use Rattle.layout.specs.declared.Command.{Command}
use Rattle.layout.specs.declared.Command.TheVariants.{Active, Precharge, Refresh, LoadMode}
use Rattle.layout.specs.Commands.{is, access, covers}
use Rattle.rules.specs.declared.Bank.{Bank}
use Rattle.rules.specs.declared.StartUp.{StartUp}
use Rattle.rules.specs.Numbers.{tRCD, tRAS, tRC, tRP, tRRD, tRFC, tWR, tMRD}
use Rattle.rules.specs.StartUp.{begun, last_refresh, last_load}
use Rattle.rules.specs.Banks.{bank_at, opened, closings, last_store}

-- an event, by the interval that counts from it and its time
pub data Since : Type 0 where
  since : (interval : ℕ) (t : Ps) → Since

-- interval k counts from each of these times
abbrev pub from_times : ℕ → List Ps → List Since
from_times k [] = []
from_times k (t ∷ ts) = since k t ∷ from_times k ts

-- interval k counts from each of these clocks
abbrev pub from : ℕ → Ps → List Clock → List Since
from k period [] = []
from k period (x ∷ xs) = since k (at period x) ∷ from k period xs

-- the events, where x is true
abbrev pub only : Bool → List Since → List Since
only true l = l
only false l = []

-- f at each bank and its number, from i
abbrev pub each : (ℕ → Bank → List Since) → ℕ → List Bank → List Since
each f i [] = []
each f i (b ∷ bs) = f i b ++ each f (suc i) bs

-- "tRP since its closing"
unfoldable pub of_closing : Bank → List Since
of_closing b = from_times tRP (closings b.status)

-- "Any executable command: tRFC since the last refresh, tMRD since the last mode load, tRP since the last PRECHARGE ALL"
unfoldable pub of_any : Ps → StartUp → List Since
of_any period u =
    from tRFC period (clocks_of (last_refresh u.refreshes))
    ++ (from tMRD period (clocks_of (last_load u.register)) ++ from tRP period (clocks_of u.allclosed))

-- "tRRD since the last ACTIVE of another bank" than ba: of bank i
abbrev pub of_other : Ps → ℕ → ℕ → Bank → List Since
of_other period ba i b = only (not (eqb i ba)) (from tRRD period (clocks_of b.active))

-- "ACTIVE: tRP since its closing; tRC since its last ACTIVE; tRRD since the last ACTIVE of another bank"
unfoldable pub of_active : Ps → ℕ → List Bank → List Since
of_active period ba bs =
    of_closing (bank_at bs ba) ++ (from tRC period (clocks_of (bank_at bs ba).active) ++ each (of_other period ba) 0 bs)

-- "READ, WRITE: tRCD since its ACTIVE"
unfoldable pub of_access : Ps → Bank → List Since
of_access period b = from tRCD period (opened b.status)

-- "an open bank needs tRAS min, and tWR since the last clock on which a byte was stored in it; a closed bank tRP since its closing"
unfoldable pub of_precharged : Ps → Bank → List Since
of_precharged period b =
    from tRAS period (opened b.status) ++ (from tWR period (last_store b.status b.stored) ++ of_closing b)

-- "PRECHARGE, one bank or (A10 HIGH) each of the four": of bank i
abbrev pub of_covered : Ps → Record → ℕ → Bank → List Since
of_covered period r i b = only (covers r.addr r.ba i) (of_precharged period b)

unfoldable pub of_precharge : Ps → Record → List Bank → List Since
of_precharge period r bs = each (of_covered period r) 0 bs

-- "AUTO REFRESH, LOAD MODE: tRP since each closing"
unfoldable pub of_idle : List Bank → List Since
of_idle bs = each (λ i b. of_closing b) 0 bs

-- the events that the minima of executable command k count from
unfoldable pub events : Command → Ps → StartUp → Record → List Bank → List Since
events k period u r bs =
    of_any period u
    ++ (only (is k Active) (of_active period r.ba bs)
    ++ (only (access k) (of_access period (bank_at bs r.ba))
    ++ (only (is k Precharge) (of_precharge period r bs) ++ only (is k Refresh || is k LoadMode) (of_idle bs))))

-- "the first PRECHARGE ALL has no other condition" than 14
unfoldable pub minima : Command → Ps → StartUp → Record → List Bank → List Since
minima k period u r bs = only (begun u) (events k period u r bs)

-- minimum m of interval k is met at time now: no such event, or each at least m before; "an event still ahead counts too"
abbrev pub met : ℕ → Ps → Ps → List Since → Bool
met k m now [] = true
met k m now (since j e ∷ l) = (not (eqb j k) || by (plus e m) now) && met k m now l
