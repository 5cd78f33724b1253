-- The commands by their codes. Assumes nothing.
use Prim.Native.Nat.{ℕ, zero, suc, ◌-◌, ◌≤◌, zero-le}
use mathlib.Core.Path.{◌≡◌, refl, ap, sym, ◌∙◌}
use mathlib.Core.Bool.{Bool, true, false, true≢false, ◌||◌}
use native.Mathlib.Omega.{arith}
use borrow.Author.Tests.{eqb-true, lt-ltb, ltb-true}
use Rattle.layout.specs.declared.Command.{Command}
use Rattle.layout.specs.declared.Command.TheVariants.{Inhibit, Nop, Active, Read, Write, Terminate, Precharge, Refresh, LoadMode}
use Rattle.layout.specs.Commands.{command_of, code_of, is, executable, looks_at_all, access}

-- ── A code past the eight of 003 table 8 is COMMAND INHIBIT ──

-- n is none of 0 to k - 1, as the last arm of a match knows it
abbrev None : ℕ → ℕ → Type 0
None zero n = Unit {0}
None (suc k) n = None k n × (n ≡ k → ⊥)

none_is_past : (k n : ℕ) → None k n → k ≤ n
none_is_past zero n r = zero-le
none_is_past (suc k) n r = omega (arith, none_is_past k n r.0, r.1)

pub past_is_inhibit : (n : ℕ) → None 8 n → Inhibit ≡ command_of n
past_is_inhibit n r =
    let e : n ≡ suc (suc (suc (suc (suc (suc (suc (suc (n - 8)))))))) = omega (arith, none_is_past 8 n r) in
    sym (ap command_of e)

-- ── What the tests of a command tell of it ──

-- a command is that of its own code
of_code : (k : Command) → command_of (code_of k) ≡ k
of_code Inhibit = refl
of_code Nop = refl
of_code Active = refl
of_code Read = refl
of_code Write = refl
of_code Terminate = refl
of_code Precharge = refl
of_code Refresh = refl
of_code LoadMode = refl

pub same : (k this : Command) → is k this ≡ true → k ≡ this
same k this h = sym (of_code k) ∙ ap command_of (eqb-true (code_of k) (code_of this) h) ∙ of_code this

-- a command that passes a test is none that does not
pub other : (f : Command → Bool) (k this : Command) → f this ≡ false → f k ≡ true → is k this ≡ false
other f k this h g = go (is k this) refl
  where
    go : (x : Bool) → is k this ≡ x → x ≡ false
    go true e = absurd (true≢false (sym g ∙ ap f (same k this e) ∙ h))
    go false e = refl

pub is_load_mode : (k : Command) → looks_at_all k ≡ true → is k Precharge ≡ false → is k Refresh ≡ false → k ≡ LoadMode
is_load_mode Inhibit h p r = absurd (true≢false (sym h))
is_load_mode Nop h p r = absurd (true≢false (sym h))
is_load_mode Active h p r = absurd (true≢false (sym h))
is_load_mode Read h p r = absurd (true≢false (sym h))
is_load_mode Write h p r = absurd (true≢false (sym h))
is_load_mode Terminate h p r = absurd (true≢false (sym h))
is_load_mode Precharge h p r = absurd (true≢false p)
is_load_mode Refresh h p r = absurd (true≢false r)
is_load_mode LoadMode h p r = refl

pub for_all_executable : (k : Command) → looks_at_all k ≡ true → executable k ≡ true
for_all_executable k h = lt-ltb (code_of k) 7 (omega (arith, ltb-true (code_of k) 3 h))

pub is_burst : (k : Command) → executable k ≡ true → looks_at_all k ≡ false → is k Active ≡ false → (access k || is k Terminate) ≡ true
is_burst Inhibit e h a = absurd (true≢false (sym e))
is_burst Nop e h a = absurd (true≢false (sym e))
is_burst Active e h a = absurd (true≢false a)
is_burst Read e h a = refl
is_burst Write e h a = refl
is_burst Terminate e h a = refl
is_burst Precharge e h a = absurd (true≢false h)
is_burst Refresh e h a = absurd (true≢false h)
is_burst LoadMode e h a = absurd (true≢false h)
