-- A record that was taken kept each row of the verdict table, by number (01, Verdicts). Assumes nothing.
use Rattle.std.specs.Prelude.{Ok}
use Prim.Native.Nat.{ℕ, ◌≤◌}
use mathlib.Core.Path.{◌≡◌, refl}
use mathlib.Core.Bool.{Bool, true, false, ◌&&◌, ◌||◌}
use mathlib.Core.List.{List}
use lib.Dec.{eqb}
use borrow.Author.Tests.{leb-true, eqb-true}
use Rattle.units.specs.Time.{by}
use Rattle.layout.specs.declared.Record.{Record}
use Rattle.layout.specs.declared.Command.{Command}
use Rattle.layout.specs.declared.Command.TheVariants.{
  Inhibit,
  Nop,
  Active,
  Read,
  Write,
  Terminate,
  Precharge,
  Refresh,
  LoadMode,
}
use Rattle.layout.specs.Commands.{command, is, access, executable}
use Rattle.mode.specs.Word.{legal}
use Rattle.bursts.specs.Bus.{bursts_finished, bus_clear}
use Rattle.rules.specs.declared.State.{State}
use Rattle.rules.specs.declared.Setup.{Setup}
use Rattle.rules.specs.Numbers.{Rule, asked, ◌⇒◌}
use Rattle.rules.specs.Parts.{clock_of, now, word, state_module}
use Rattle.rules.specs.StartUp.{allowed, counted_refresh}
use Rattle.rules.specs.Banks.{bank_at, every, open_within, banks_found}
use Rattle.rules.specs.Minima.{minima}
use Rattle.rules.specs.Closing.{burst_end, ends_by_itself, closes_within}
use Rattle.rules.specs.Rules.{
  clock_max,
  within,
  tCK,
  asks_auto,
  every_rules,
  place_rules,
  minimum_rules,
  mode_rules,
  bus_rules,
  command_rules,
  rules,
  ask,
}
use Rattle.rules.proofs.Kept.{rules_of, command_rules_of, test, kept}

-- a row of those that only executable commands are asked
asked_kept : (n i : ℕ) (x : Bool) (l : List Rule) → test n i (asked x l) ≡ true → (x ⇒ test n i l) ≡ true
asked_kept n i true l h = h
asked_kept n i false l h = refl

-- a test that NOP and COMMAND INHIBIT pass need not say that it is for executable commands
of_all : (f : Command → Bool) → f Inhibit ≡ true → f Nop ≡ true → (k : Command) → (executable k ⇒ f k) ≡ true → f k ≡ true
of_all f p q Inhibit h = p
of_all f p q Nop h = q
of_all f p q Active h = h
of_all f p q Read h = h
of_all f p q Write h = h
of_all f p q Terminate h = h
of_all f p q Precharge h = h
of_all f p q Refresh h = h
of_all f p q LoadMode h = h

module _ (u : Setup) (s : State) (r : Record) (p : ask u s r ≡ Ok tt) where
  -- ── Every record ──

  -- 10
  pub zeros_kept : r.zeros ≡ 0
  unfolding ask rules every_rules
  zeros_kept = eqb-true _ _ (kept 10 0 (rules_of u s r) p)

  -- 23
  pub clock_kept : (clock_of s.core r).0 ≤ clock_max
  unfolding ask rules every_rules
  clock_kept = leb-true _ _ (kept 23 0 (rules_of u s r) p)

  -- 11
  pub cke_kept : r.cke ≡ 1
  unfolding ask rules every_rules
  cke_kept = eqb-true _ _ (kept 11 0 (rules_of u s r) p)

  -- 12
  pub interval_kept : within s.core.period u.table.interval (now s.core r)
      (counted_refresh s.core.startup.refreshes) ≡ true
  unfolding ask rules every_rules
  interval_kept = kept 12 0 (rules_of u s r) p

  -- 13
  pub open_kept : every (λ b. open_within s.core.period u.table.trasmax (now s.core r) b.status) s.banks ≡ true
  unfolding ask rules every_rules
  open_kept = kept 13 0 (rules_of u s r) p

  -- ── Executable commands ──

  command_kept : (n i : ℕ) → test n i (asked (executable (command r)) (command_rules_of u s r)) ≡ true
      → (executable (command r) ⇒ test n i (command_rules_of u s r)) ≡ true
  command_kept n i h = asked_kept n i (executable (command r)) (command_rules_of u s r) h

  -- 14
  pub allowed_kept : (executable (command r) ⇒ allowed (command r) r (now s.core r) s.core.startup) ≡ true
  unfolding ask rules every_rules command_rules place_rules
  allowed_kept = command_kept 14 0 (kept 14 0 (rules_of u s r) p)

  -- 15
  pub banks_kept : banks_found (command r) r.ba s.banks ≡ true
  unfolding ask rules every_rules command_rules place_rules banks_found
  banks_kept =
      of_all (λ k. banks_found k r.ba s.banks) refl refl (command r) (command_kept 15 0 (kept 15 0 (rules_of u s r) p))

  -- 16, of minimum i
  pub minimum_kept : (i : ℕ)
      → (executable (command r)
      ⇒ test 16 i
      (minimum_rules u.table s.core.period (now s.core r)
      (minima (command r) s.core.period s.core.startup r s.banks)))
      ≡ true
  unfolding ask rules every_rules command_rules place_rules minimum_rules mode_rules bus_rules
  minimum_kept i = command_kept 16 i (kept 16 i (rules_of u s r) p)

  -- 17
  pub mode_kept : (is (command r) LoadMode ⇒ legal (state_module s) r.addr && eqb r.ba 0) ≡ true
  unfolding ask rules every_rules command_rules place_rules minimum_rules mode_rules
  mode_kept =
      of_all (λ k. is k LoadMode ⇒ legal (state_module s) r.addr && eqb r.ba 0) refl refl (command r)
      (command_kept 17 0 (kept 17 0 (rules_of u s r) p))

  -- 18
  pub tCK_kept : (is (command r) LoadMode ⇒ by (tCK u.table r.addr) s.core.period) ≡ true
  unfolding ask rules every_rules command_rules place_rules minimum_rules mode_rules
  tCK_kept =
      of_all (λ k. is k LoadMode ⇒ by (tCK u.table r.addr) s.core.period) refl refl (command r)
      (command_kept 18 0 (kept 18 0 (rules_of u s r) p))

  -- 19
  pub finished_kept :
      (access (command r) || is (command r) Terminate
      ⇒ bursts_finished s.core.bus.write s.core.bus.reads (clock_of s.core r)) ≡ true
  unfolding ask rules every_rules command_rules place_rules minimum_rules mode_rules bus_rules
  finished_kept =
      of_all
      (λ k. access k || is k Terminate
      ⇒ bursts_finished s.core.bus.write s.core.bus.reads (clock_of s.core r)) refl refl (command r)
      (command_kept 19 0 (kept 19 0 (rules_of u s r) p))

  -- 20
  pub clear_kept :
      (is (command r) Write ⇒ bus_clear s.core.last s.core.bus.masks s.core.bus.reads (clock_of s.core r)) ≡ true
  unfolding ask rules every_rules command_rules place_rules minimum_rules mode_rules bus_rules
  clear_kept =
      of_all
      (λ k. is k Write ⇒ bus_clear s.core.last s.core.bus.masks s.core.bus.reads (clock_of s.core r)) refl refl
      (command r)
      (command_kept 20 0 (kept 20 0 (rules_of u s r) p))

  -- 21
  pub ends_kept : (asks_auto (command r) r ⇒ ends_by_itself (command r) (word s.core)) ≡ true
  unfolding ask rules every_rules command_rules place_rules minimum_rules mode_rules bus_rules
  ends_kept =
      of_all (λ k. asks_auto k r ⇒ ends_by_itself k (word s.core)) refl refl (command r)
      (command_kept 21 0 (kept 21 0 (rules_of u s r) p))

  -- 22
  pub closes_kept :
      (asks_auto (command r) r
      ⇒ closes_within u.table s.core.period
      (burst_end (command r) u.table s.core.period (word s.core) (clock_of s.core r))
      (bank_at s.banks r.ba).status)
      ≡ true
  unfolding ask rules every_rules command_rules place_rules minimum_rules mode_rules bus_rules
  closes_kept =
      of_all
      (λ k. asks_auto k r
      ⇒ closes_within u.table s.core.period
      (burst_end k u.table s.core.period (word s.core) (clock_of s.core r))
      (bank_at s.banks r.ba).status)
      refl refl (command r) (command_kept 22 0 (kept 22 0 (rules_of u s r) p))
