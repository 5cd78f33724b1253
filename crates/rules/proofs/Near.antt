-- Laws of states that differ in closing times only: the events that minima count from are the same, or earlier. Assumes nothing.
use Rattle.std.specs.Prelude.{Option}
use Prim.Native.Nat.{ℕ, zero, suc, ◌≤◌}
use native.Mathlib.Nat.{le_refl}
use native.Mathlib.Omega.{arith}
use mathlib.Core.Path.{◌≡◌, refl}
use mathlib.Core.Bool.{Bool, true, false, not, ◌||◌, cond}
use mathlib.Core.List.{List, [], ◌∷◌, ◌++◌}
use lib.Dec.{eqb}
use Rattle.units.specs.declared.Clock.{Clock}
use Rattle.units.specs.declared.Ps.{Ps}
use Rattle.units.specs.Time.{clocks_of}
use Rattle.layout.specs.declared.Record.{Record}
use Rattle.layout.specs.declared.Command.{Command}
use Rattle.layout.specs.declared.Command.TheVariants.{Active, Precharge, Refresh, LoadMode}
use Rattle.layout.specs.Commands.{is, access, covers}
use Rattle.rules.specs.declared.Status.TheVariants.{Closed}
use Rattle.rules.specs.declared.Bank.{Bank}
use Rattle.rules.specs.declared.StartUp.{StartUp}
use Rattle.rules.specs.Numbers.{tRCD, tRAS, tRC, tRRD, tWR}
use Rattle.rules.specs.StartUp.{begun}
use Rattle.rules.specs.Banks.{bank_at, row_of, opened, last_store, is_open, closed, every, banks_found}
use Rattle.rules.specs.Minima.{
  Since,
  since,
  only,
  each,
  from,
  of_closing,
  of_any,
  of_other,
  of_active,
  of_access,
  of_precharged,
  of_covered,
  of_precharge,
  of_idle,
  events,
  minima,
  met,
}
use Rattle.rules.specs.After.{each_bank, marked}
use Rattle.rules.specs.Harder.{Near, same, earlier, NearBanks, none, both}
use Rattle.rules.proofs.Tests.{◌⊑◌, ⊑_self, ⊑_leb, ⊑_if, ⊑_or, ⊑_and}

pub near_at : {bs ds : List Bank} → NearBanks bs ds → (i : ℕ) → Near (bank_at bs i) (bank_at ds i)
near_at none i = same
near_at (both h hs) zero = h
near_at (both h hs) (suc i) = near_at hs i

pub near_row : {b d : Bank} → Near b d → row_of b.status ≡ row_of d.status
near_row same = refl
near_row (earlier h) = refl

pub near_self : (bs : List Bank) → NearBanks bs bs
near_self [] = none
near_self (b ∷ bs) = both same (near_self bs)

pub near_cond : (x : Bool) {a b d e : Bank} → Near a b → Near d e → Near (cond x a d) (cond x b e)
near_cond true p q = p
near_cond false p q = q

pub near_each : (f g : ℕ → Bank → Bank) → ((i : ℕ) (b d : Bank) → Near b d → Near (f i b) (g i d))
    → (i : ℕ) {bs ds : List Bank} → NearBanks bs ds → NearBanks (each_bank f i bs) (each_bank g i ds)
near_each f g h i none = none
near_each f g h i (both {b = b} {d = d} p q) = both (h i b d p) (near_each f g h (suc i) q)

pub near_marked : (x : Bool) (n : Clock) {b d : Bank} → Near b d → Near (marked x n b) (marked x n d)
near_marked x n same = same
near_marked x n (earlier h) = earlier h

-- ── Tests of banks ──

pub ⊑_every : (f g : Bank → Bool) → ((b d : Bank) → Near b d → f b ⊑ g d) → {bs ds : List Bank} → NearBanks bs ds → every f bs ⊑ every g ds
⊑_every f g h none = ⊑_self
⊑_every f g h (both {b = b} {d = d} p q) = ⊑_and (h b d p) (⊑_every f g h q)

⊑_closed : (b d : Bank) → Near b d → closed b ⊑ closed d
⊑_closed b d same = ⊑_self
⊑_closed b d (earlier h) = ⊑_self

⊑_open : (b d : Bank) → Near b d → is_open b.status ⊑ is_open d.status
⊑_open b d same = ⊑_self
⊑_open b d (earlier h) = ⊑_self

pub ⊑_found : (k : Command) (ba : ℕ) {bs ds : List Bank} → NearBanks bs ds → banks_found k ba bs ⊑ banks_found k ba ds
unfolding banks_found
⊑_found k ba h =
    ⊑_and (⊑_and (⊑_if (is k Active) (⊑_closed _ _ (near_at h ba))) (⊑_if (access k) (⊑_open _ _ (near_at h ba))))
    (⊑_if (is k Refresh || is k LoadMode) (⊑_every closed closed ⊑_closed h))

-- ── Events: the second's no later ──

pub data Lower : List Since → List Since → Type 0 where
  end : Lower [] []
  low : {k : ℕ} {x y : Ps} {l m : List Since} → y.0 ≤ x.0 → Lower l m → Lower (since k x ∷ l) (since k y ∷ m)

lower_self : (l : List Since) → Lower l l
lower_self [] = end
lower_self (since k x ∷ l) = low (le_refl x.0) (lower_self l)

infixl 20 ◌⊹◌
◌⊹◌ : {l m x y : List Since} → Lower l m → Lower x y → Lower (l ++ x) (m ++ y)
end ⊹ h = h
low p q ⊹ h = low p (q ⊹ h)

lower_only : (x : Bool) {l m : List Since} → Lower l m → Lower (only x l) (only x m)
lower_only true h = h
lower_only false h = end

lower_each : (f : ℕ → Bank → List Since) → ((i : ℕ) (b d : Bank) → Near b d → Lower (f i b) (f i d))
    → (i : ℕ) {bs ds : List Bank} → NearBanks bs ds → Lower (each f i bs) (each f i ds)
lower_each f h i none = end
lower_each f h i (both {b = b} {d = d} p q) = h i b d p ⊹ lower_each f h (suc i) q

lower_closing : {b d : Bank} → Near b d → Lower (of_closing b) (of_closing d)
unfolding of_closing
lower_closing {b} same = lower_self (of_closing b)
lower_closing (earlier h) = low h end

-- what does not read the closing time is the same
abbrev blind : (Bank → List Clock) → Type 0
blind f = (p q : Ps) (a s : Option Clock)
    → f (record { status = Closed p; active = a; stored = s }) ≡ f (record { status = Closed q; active = a; stored = s })

lower_from : (k : ℕ) (period : Ps) (f : Bank → List Clock) → blind f → {b d : Bank} → Near b d → Lower (from k period (f b)) (from k period (f d))
lower_from k period f e {b} same = lower_self (from k period (f b))
lower_from k period f e (earlier {p = p} {q = q} {active = a} {stored = s} h) =
    rw (e p q a s) (lower_self (from k period (f (record { status = Closed q; active = a; stored = s }))))

lower_active : (period : Ps) (ba : ℕ) {bs ds : List Bank} → NearBanks bs ds → Lower (of_active period ba bs) (of_active period ba ds)
unfolding of_active
lower_active period ba h =
    lower_closing (near_at h ba)
    ⊹ (lower_from tRC period (λ b. clocks_of b.active) (λ p q a s. refl) (near_at h ba)
    ⊹ lower_each (of_other period ba)
    (λ i b d n. lower_only (not (eqb i ba)) (lower_from tRRD period (λ b. clocks_of b.active) (λ p q a s. refl) n)) 0 h)

lower_access : (period : Ps) {b d : Bank} → Near b d → Lower (of_access period b) (of_access period d)
unfolding of_access
lower_access period n = lower_from tRCD period (λ b. opened b.status) (λ p q a s. refl) n

lower_precharged : (period : Ps) {b d : Bank} → Near b d → Lower (of_precharged period b) (of_precharged period d)
unfolding of_precharged
lower_precharged period n =
    lower_from tRAS period (λ b. opened b.status) (λ p q a s. refl) n
    ⊹ (lower_from tWR period (λ b. last_store b.status b.stored) (λ p q a s. refl) n ⊹ lower_closing n)

lower_precharge : (period : Ps) (r : Record) {bs ds : List Bank} → NearBanks bs ds → Lower (of_precharge period r bs) (of_precharge period r ds)
unfolding of_precharge
lower_precharge period r h =
    lower_each (of_covered period r) (λ i b d n. lower_only (covers r.addr r.ba i) (lower_precharged period n)) 0 h

lower_idle : {bs ds : List Bank} → NearBanks bs ds → Lower (of_idle bs) (of_idle ds)
unfolding of_idle
lower_idle h = lower_each (λ i b. of_closing b) (λ i b d n. lower_closing n) 0 h

lower_events : (k : Command) (period : Ps) (u : StartUp) (r : Record) {bs ds : List Bank} → NearBanks bs ds
    → Lower (events k period u r bs) (events k period u r ds)
unfolding events
lower_events k period u r h =
    lower_self (of_any period u)
    ⊹ (lower_only (is k Active) (lower_active period r.ba h)
    ⊹ (lower_only (access k) (lower_access period (near_at h r.ba))
    ⊹ (lower_only (is k Precharge) (lower_precharge period r h) ⊹ lower_only (is k Refresh || is k LoadMode) (lower_idle h))))

pub lower_minima : (k : Command) (period : Ps) (u : StartUp) (r : Record) {bs ds : List Bank} → NearBanks bs ds
    → Lower (minima k period u r bs) (minima k period u r ds)
unfolding minima
lower_minima k period u r h = lower_only (begun u) (lower_events k period u r h)

pub ⊑_met : (k : ℕ) {m w : Ps} (now : Ps) → w.0 ≤ m.0 → {l l' : List Since} → Lower l l' → met k m now l ⊑ met k w now l'
⊑_met k now h end = ⊑_self
⊑_met k now h (low {k = j} p q) = ⊑_and (⊑_or (not (eqb j k)) (⊑_leb (omega arith) (le_refl now.0))) (⊑_met k now h q)
