-- Rows 14 to 22 as the code asks them: for each command, only what document 01 asks of it. Assumes nothing.
use Rattle.std.specs.Prelude.{Ok, Err}
use mathlib.Core.Path.{◌≡◌, refl, sym, ap, ◌∙◌}
use mathlib.Core.Bool.{Bool, true, false, ◌&&◌, ◌||◌, cond, and-true, true≢false}
use mathlib.Core.List.{List, [], ◌∷◌, ◌++◌}
use lib.Dec.{eqb}
use Rattle.units.specs.declared.Clock.{Clock}
use Rattle.units.specs.declared.Ps.{Ps}
use Rattle.units.specs.Time.{by, occurred}
use Rattle.units.specs.declared.Module.{Module}
use Rattle.speed.specs.declared.SpeedTable.{SpeedTable}
use Rattle.layout.specs.declared.Record.{Record}
use Rattle.layout.specs.declared.Command.{Command}
use Rattle.layout.specs.declared.Command.TheVariants.{
  Inhibit,
  Nop,
  Active,
  Read,
  Write,
  Terminate,
  Precharge,
  Refresh,
  LoadMode,
}
use Rattle.layout.specs.Commands.{is, access, precharge_all}
use Rattle.mode.specs.Word.{legal}
use Rattle.bursts.specs.Bus.{bursts_finished, bus_clear}
use Rattle.rules.specs.declared.Refusal.TheVariants.{BankState, BusNotClear, EndlessBurst, LateClosing, ReservedMode, ShortClock, StartUpStep, UnfinishedBurst}
use Rattle.rules.specs.declared.StartUp.{StartUp}
use Rattle.rules.specs.declared.Status.{Status}
use Rattle.rules.specs.declared.Bank.{Bank}
use Rattle.rules.specs.declared.Core.{Core}
use Rattle.rules.specs.Numbers.{Rule, rule, first_broken, ◌⇒◌, Verdict}
use Rattle.rules.specs.Parts.{word, core_module}
use Rattle.rules.specs.Closing.{burst_end, ends_by_itself, closes_within}
use Rattle.rules.specs.StartUp.{begun, two_done, last_load, power_up, allowed}
use Rattle.rules.specs.Banks.{bank_at, is_open, is_closed, closed, every, banks_found}
use Rattle.rules.specs.Minima.{only, of_any, of_active, of_access, of_precharge, of_idle, events, minima}
use Rattle.rules.specs.Rules.{tCK, asks_auto, place_rules, minimum_rules, mode_rules, bus_rules, command_rules, found}
use Rattle.asking.specs.Shorts.{shorts, either, lowest}
use Rattle.asking.specs.Answers.{auto_answer}
use Rattle.asking.proofs.Lowest.{minimum_lowest}
use Rattle.asking.proofs.Events.{
  events_active,
  events_burst,
  events_precharge,
  events_refresh,
  events_load,
}

-- the first answer, unless it is clean
abbrev pub then : Verdict → Verdict → Verdict
then (Ok x) v = v
then (Err w) v = Err w

pub first_join : (l m : List Rule) → first_broken (l ++ m) ≡ then (first_broken l) (first_broken m)
first_join [] m = refl
first_join (rule w true ∷ l) m = first_join l m
first_join (rule w false ∷ l) m = refl

pub then_taken : (v : Verdict) → then v (Ok tt) ≡ v
then_taken (Ok x) = refl
then_taken (Err w) = refl

joined : (l m k : List Rule) → first_broken (l ++ (m ++ k)) ≡ then (first_broken l) (then (first_broken m) (first_broken k))
joined l m k = first_join l (m ++ k) ∙ ap (then (first_broken l)) (first_join m k)

two_rows : (a b : Bool) (l : List Rule) → first_broken (rule StartUpStep a ∷ rule BankState b ∷ l) ≡ cond a (cond b (first_broken l) (Err BankState)) (Err StartUpStep)
two_rows true true l = refl
two_rows true false l = refl
two_rows false b l = refl

-- rows 19 to 22 in a state with this core
abbrev bus_rules_of : Command → SpeedTable → Core → Status → Record → Clock → List Rule
bus_rules_of k t c status r n =
    bus_rules k t c.period (word c) (bursts_finished c.bus.write c.bus.reads n) (bus_clear c.last c.bus.masks c.bus.reads n)
    status r n

-- rows 14 and 15 as two tests before the rest
ladder : (k : Command) (t : SpeedTable) (c : Core) (bs : List Bank) (r : Record) (n : Clock) (now : Ps)
    → first_broken (command_rules k t (core_module c) c.period (found c bs n) r n now)
    ≡ cond (allowed k r now c.startup)
    (cond (banks_found k r.ba bs)
    (then (lowest (shorts t c.period now (minima k c.period c.startup r bs)))
    (then (first_broken (mode_rules k t (core_module c) c.period r)) (first_broken (bus_rules_of k t c (bank_at bs r.ba).status r n))))
    (Err BankState))
    (Err StartUpStep)
unfolding command_rules place_rules
ladder k t c bs r n now =
    two_rows (allowed k r now c.startup) (banks_found k r.ba bs)
    (minimum_rules t c.period now (minima k c.period c.startup r bs)
    ++ (mode_rules k t (core_module c) c.period r ++ bus_rules_of k t c (bank_at bs r.ba).status r n))
    ∙ ap (λ (v : Verdict). cond (allowed k r now c.startup) (cond (banks_found k r.ba bs) v (Err BankState)) (Err StartUpStep))
    (joined (minimum_rules t c.period now (minima k c.period c.startup r bs)) (mode_rules k t (core_module c) c.period r)
    (bus_rules_of k t c (bank_at bs r.ba).status r n)
    ∙ ap
    (λ (v : Verdict). then v
    (then (first_broken (mode_rules k t (core_module c) c.period r)) (first_broken (bus_rules_of k t c (bank_at bs r.ba).status r n))))
    (minimum_lowest t c.period now (minima k c.period c.startup r bs)))

-- rows 19 to 22 as tests
four_rows : (a b x p q : Bool)
    → first_broken (rule UnfinishedBurst a ∷ rule BusNotClear b ∷ rule EndlessBurst (x ⇒ p) ∷ rule LateClosing (x ⇒ q) ∷ [])
    ≡ cond a (cond b (cond x (cond p (cond q (Ok tt) (Err LateClosing)) (Err EndlessBurst)) (Ok tt)) (Err BusNotClear)) (Err UnfinishedBurst)
four_rows true true true true true = refl
four_rows true true true true false = refl
four_rows true true true false q = refl
four_rows true true false p q = refl
four_rows true false x p q = refl
four_rows false b x p q = refl

-- 19 to 22 of WRITE, READ and BURST TERMINATE
pub bus_ladder : (k : Command) → (access k || is k Terminate) ≡ true → (t : SpeedTable) (c : Core) (status : Status) (r : Record) (n : Clock)
    → first_broken (bus_rules_of k t c status r n)
    ≡ cond (bursts_finished c.bus.write c.bus.reads n)
    (cond (is k Write ⇒ bus_clear c.last c.bus.masks c.bus.reads n) (cond (asks_auto k r) (auto_answer k t c status n) (Ok tt)) (Err BusNotClear))
    (Err UnfinishedBurst)
unfolding bus_rules auto_answer
bus_ladder k h t c status r n =
    rw h
    (four_rows (bursts_finished c.bus.write c.bus.reads n) (is k Write ⇒ bus_clear c.last c.bus.masks c.bus.reads n) (asks_auto k r)
    (ends_by_itself k (word c)) (closes_within t c.period (burst_end k t c.period (word c) n) status))

pub mode_ladder : (t : SpeedTable) (m : Module) (period : Ps) (r : Record)
    → first_broken (mode_rules LoadMode t m period r)
    ≡ cond (legal m r.addr && eqb r.ba 0) (cond (by (tCK t r.addr) period) (Ok tt) (Err ShortClock)) (Err ReservedMode)
unfolding mode_rules
mode_ladder t m period r = go (legal m r.addr && eqb r.ba 0) (by (tCK t r.addr) period)
  where
    go : (a b : Bool) → first_broken (rule ReservedMode a ∷ rule ShortClock b ∷ []) ≡ cond a (cond b (Ok tt) (Err ShortClock)) (Err ReservedMode)
    go true true = refl
    go true false = refl
    go false b = refl

-- everything is allowed
abbrev pub started : StartUp → Bool
started u = two_done u.refreshes && occurred (last_load u.register)

-- ── Before the first PRECHARGE ALL ──

module _ (t : SpeedTable) (c : Core) (bs : List Bank) (r : Record) (n : Clock) (now : Ps) where
  pub unbegun : (k : Command) → begun c.startup ≡ false
      → first_broken (command_rules k t (core_module c) c.period (found c bs n) r n now)
      ≡ cond (precharge_all k r && by power_up now) (Ok tt) (Err StartUpStep)
  unfolding allowed banks_found minima mode_rules bus_rules lowest shorts
  unbegun k h = ladder k t c bs r n now ∙ go k
    where
      go : (k : Command)
          → cond (allowed k r now c.startup)
          (cond (banks_found k r.ba bs)
          (then (lowest (shorts t c.period now (minima k c.period c.startup r bs)))
          (then (first_broken (mode_rules k t (core_module c) c.period r)) (first_broken (bus_rules_of k t c (bank_at bs r.ba).status r n))))
          (Err BankState))
          (Err StartUpStep)
          ≡ cond (precharge_all k r && by power_up now) (Ok tt) (Err StartUpStep)
      go Inhibit = rw h
      go Nop = rw h
      go Active = rw h
      go Read = rw h
      go Write = rw h
      go Terminate = rw h
      go Precharge = rw h
      go Refresh = rw h
      go LoadMode = rw h

  -- ── After it ──

  -- 15 and 16 of ACTIVE
  abbrev pub active_answer : Verdict
  active_answer =
      cond (is_closed (bank_at bs r.ba).status)
      (lowest (either (shorts t c.period now (of_any c.period c.startup)) (shorts t c.period now (of_active c.period r.ba bs))))
      (Err BankState)

  -- 15 to 22 of WRITE, READ and BURST TERMINATE
  abbrev pub burst_answer : Command → Verdict
  burst_answer k =
      cond (access k ⇒ is_open (bank_at bs r.ba).status)
      (then
      (lowest
      (either (shorts t c.period now (of_any c.period c.startup)) (shorts t c.period now (only (access k) (of_access c.period (bank_at bs r.ba))))))
      (first_broken (bus_rules_of k t c (bank_at bs r.ba).status r n)))
      (Err BankState)

  module _ (b : begun c.startup ≡ true) where
    minima_begun : (k : Command) → minima k c.period c.startup r bs ≡ events k c.period c.startup r bs
    unfolding minima
    minima_begun k = rw b

    begun_active : first_broken (command_rules Active t (core_module c) c.period (found c bs n) r n now)
        ≡ cond (started c.startup)
        active_answer
        (Err StartUpStep)
    unfolding allowed banks_found mode_rules bus_rules
    begun_active = rw (ladder Active t c bs r n now, minima_begun Active, events_active, then_taken, b, and-true, and-true)

    begun_burst : (k : Command) → (access k || is k Terminate) ≡ true
        → first_broken (command_rules k t (core_module c) c.period (found c bs n) r n now)
        ≡ cond (started c.startup)
        (burst_answer k)
        (Err StartUpStep)
    unfolding allowed banks_found mode_rules
    begun_burst Inhibit h = absurd (true≢false (sym h))
    begun_burst Nop h = absurd (true≢false (sym h))
    begun_burst Active h = absurd (true≢false (sym h))
    begun_burst Read h = rw (ladder Read t c bs r n now, minima_begun Read, events_burst t c.period now c.startup r bs Read h, b, and-true)
    begun_burst Write h = rw (ladder Write t c bs r n now, minima_begun Write, events_burst t c.period now c.startup r bs Write h, b, and-true)
    begun_burst Terminate h = rw (ladder Terminate t c bs r n now, minima_begun Terminate, events_burst t c.period now c.startup r bs Terminate h, b)
    begun_burst Precharge h = absurd (true≢false (sym h))
    begun_burst Refresh h = absurd (true≢false (sym h))
    begun_burst LoadMode h = absurd (true≢false (sym h))

    pub precharge_ladder : first_broken (command_rules Precharge t (core_module c) c.period (found c bs n) r n now)
        ≡ lowest (either (shorts t c.period now (of_any c.period c.startup)) (shorts t c.period now (of_precharge c.period r bs)))
    unfolding allowed banks_found mode_rules bus_rules
    precharge_ladder = rw (ladder Precharge t c bs r n now, minima_begun Precharge, events_precharge, then_taken, b)

    pub refresh_ladder : first_broken (command_rules Refresh t (core_module c) c.period (found c bs n) r n now)
        ≡ cond (every closed bs)
        (lowest (either (shorts t c.period now (of_any c.period c.startup)) (shorts t c.period now (of_idle bs))))
        (Err BankState)
    unfolding allowed banks_found mode_rules bus_rules
    refresh_ladder = rw (ladder Refresh t c bs r n now, minima_begun Refresh, events_refresh, then_taken, b)

    pub load_ladder : first_broken (command_rules LoadMode t (core_module c) c.period (found c bs n) r n now)
        ≡ cond (two_done c.startup.refreshes)
        (cond (every closed bs)
        (then (lowest (either (shorts t c.period now (of_any c.period c.startup)) (shorts t c.period now (of_idle bs))))
        (first_broken (mode_rules LoadMode t (core_module c) c.period r)))
        (Err BankState))
        (Err StartUpStep)
    unfolding allowed banks_found bus_rules
    load_ladder = rw (ladder LoadMode t c bs r n now, minima_begun LoadMode, events_load, then_taken, b, and-true)

  -- ── ACTIVE, before it or after ──

  pub active_ladder : first_broken (command_rules Active t (core_module c) c.period (found c bs n) r n now)
      ≡ cond (begun c.startup && started c.startup)
      active_answer
      (Err StartUpStep)
  active_ladder = go (begun c.startup) refl
    where
      go : (x : Bool) → begun c.startup ≡ x
          → first_broken (command_rules Active t (core_module c) c.period (found c bs n) r n now)
          ≡ cond (begun c.startup && started c.startup)
          active_answer
          (Err StartUpStep)
      go true b = rw b (begun_active b)
      go false b = rw (unbegun Active b, b)

  -- ── WRITE, READ and BURST TERMINATE, before it or after ──

  pub burst_ladder : (k : Command) → (access k || is k Terminate) ≡ true
      → first_broken (command_rules k t (core_module c) c.period (found c bs n) r n now)
      ≡ cond (begun c.startup && started c.startup)
      (burst_answer k)
      (Err StartUpStep)
  burst_ladder k h = go (begun c.startup) refl
    where
      no_precharge : (k : Command) → (access k || is k Terminate) ≡ true → precharge_all k r ≡ false
      no_precharge Inhibit h = absurd (true≢false (sym h))
      no_precharge Nop h = absurd (true≢false (sym h))
      no_precharge Active h = absurd (true≢false (sym h))
      no_precharge Read h = refl
      no_precharge Write h = refl
      no_precharge Terminate h = refl
      no_precharge Precharge h = absurd (true≢false (sym h))
      no_precharge Refresh h = absurd (true≢false (sym h))
      no_precharge LoadMode h = absurd (true≢false (sym h))

      go : (x : Bool) → begun c.startup ≡ x
          → first_broken (command_rules k t (core_module c) c.period (found c bs n) r n now)
          ≡ cond (begun c.startup && started c.startup)
          (burst_answer k)
          (Err StartUpStep)
      go true b = rw b (begun_burst b k h)
      go false b = rw (unbegun k b, no_precharge k h, b)
