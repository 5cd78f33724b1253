-- What a record leaves, part by part, as the loop over records changes it in place. Assumes nothing.
use Rattle.std.specs.Prelude.{Some}
use Prim.Native.Nat.{ℕ, ◌+◌}
use mathlib.Core.Path.{◌≡◌, refl, sym}
use mathlib.Core.Bool.{Bool, false, true≢false, ◌||◌}
use mathlib.Core.List.{List}
use Rattle.units.specs.declared.Clock.{Clock}
use Rattle.units.specs.declared.Ps.{Ps}
use Rattle.units.specs.Time.{at}
use Rattle.speed.specs.declared.SpeedTable.{SpeedTable}
use Rattle.layout.specs.declared.Record.{Record}
use Rattle.layout.specs.declared.Command.{Command}
use Rattle.layout.specs.declared.Command.TheVariants.{
  Inhibit,
  Nop,
  Active,
  Read,
  Write,
  Terminate,
  Precharge,
  Refresh,
  LoadMode,
}
use Rattle.layout.specs.Commands.{command, is, executable}
use Rattle.bursts.specs.declared.Burst.{Burst}
use Rattle.bursts.specs.declared.Bus.{Bus}
use Rattle.bursts.specs.declared.Masks.{Masks}
use Rattle.bursts.specs.declared.Beat.{Beat}
use Rattle.bursts.specs.Bus.{masks_after, write_after, bus_after, beat_on}
use Rattle.bursts.proofs.Untouched.{can_end, reads_untouched}
use Rattle.rules.specs.declared.StartUp.{StartUp}
use Rattle.rules.specs.declared.Bank.{Bank}
use Rattle.rules.specs.declared.State.{State}
use Rattle.rules.specs.declared.Setup.{Setup}
use Rattle.rules.specs.Parts.{clock_of, word_in}
use Rattle.rules.specs.StartUp.{begun}
use Rattle.rules.specs.Banks.{bank_at, row_of}
use Rattle.rules.specs.Closing.{burst_end}
use Rattle.rules.specs.Rules.{asks_auto}
use Rattle.rules.specs.After.{
  beat,
  startup_after,
  core_from,
  core_after,
  banks_after,
  own_beat,
  next,
  commanded,
  mark_banks,
}
use Rattle.taking.proofs.Leaves.{untouched}
use Rattle.device.specs.InPlace.{state_of}

-- ── The bus ──

write_kept : (k : Command) → can_end k ≡ false → (r : Record) (n : Clock) (word row : ℕ) (b : Burst) → b ≡ write_after k r n word row b
write_kept Inhibit h r n word row b = refl
write_kept Nop h r n word row b = refl
write_kept Active h r n word row b = refl
write_kept Read h r n word row b = absurd (true≢false h)
write_kept Write h r n word row b = absurd (true≢false h)
write_kept Terminate h r n word row b = absurd (true≢false h)
write_kept Precharge h r n word row b = absurd (true≢false h)
write_kept Refresh h r n word row b = refl
write_kept LoadMode h r n word row b = refl

-- a command that can end no burst leaves the bus but for its masks
pub bus_kept : (k : Command) → can_end k ≡ false → (r : Record) (n : Clock) (word row : ℕ) (u : Bus)
    → record { write = u.write; reads = u.reads; masks = masks_after r.skipped r.masks u.masks } ≡ bus_after k r n word row u
unfolding bus_after
bus_kept k h r n word row u =
    let w = write_kept k h r n word row u.write in
    let q = reads_untouched k h r n word row u.reads in
    λ i. record { write = w i; reads = q i; masks = masks_after r.skipped r.masks u.masks }

-- the bus as the loop leaves it: moved where the command can end a burst, and its masks set after that
module _ (k : Command) (r : Record) (n : Clock) (word row : ℕ) (u : Bus) {b : Bus} {m : Masks} (hm : m ≡ masks_after r.skipped r.masks u.masks) where
  pub bus_ended : b ≡ bus_after k r n word row u → record { write = b.write; reads = b.reads; masks = m } ≡ bus_after k r n word row u
  unfolding bus_after
  bus_ended hb = rw (hb, hm)

  pub bus_left : can_end k ≡ false → b ≡ u → record { write = b.write; reads = b.reads; masks = m } ≡ bus_after k r n word row u
  bus_left h hb = rw (hb, hm) (bus_kept k h r n word row u)

-- ── Start-up ──

-- NOP and COMMAND INHIBIT leave its steps
pub startup_kept : (k : Command) → executable k ≡ false → (r : Record) (n : Clock) (u : StartUp) → u ≡ startup_after k r n u
unfolding startup_after
startup_kept Inhibit h r n u = refl
startup_kept Nop h r n u = refl
startup_kept Active h r n u = refl
startup_kept Read h r n u = refl
startup_kept Write h r n u = refl
startup_kept Terminate h r n u = refl
startup_kept Precharge h r n u = absurd (true≢false h)
startup_kept Refresh h r n u = absurd (true≢false h)
startup_kept LoadMode h r n u = absurd (true≢false h)

-- ── The banks ──

-- NOP and COMMAND INHIBIT touch no bank
touch_none : (k : Command) → executable k ≡ false → (r : Record) → (is k Active || (asks_auto k r || is k Precharge)) ≡ false
touch_none Inhibit h r = refl
touch_none Nop h r = refl
touch_none Active h r = absurd (true≢false h)
touch_none Read h r = absurd (true≢false h)
touch_none Write h r = absurd (true≢false h)
touch_none Terminate h r = refl
touch_none Precharge h r = absurd (true≢false h)
touch_none Refresh h r = refl
touch_none LoadMode h r = refl

pub banks_kept : (k : Command) → executable k ≡ false → (t : SpeedTable) (period end : Ps) (again : Bool) (r : Record) (n : Clock) (moment : Ps) (l : List Bank)
    → l ≡ commanded k t period end again r n moment l
banks_kept k h t period end again r n moment l = sym (untouched k t period end again r n moment (touch_none k h r) l)

-- ── The next state ──

-- what a record leaves of the parts is the next state, and its beat the record's own
pub record Settled (u : Setup) (s : State) (r : Record) (st : State) (w : Beat) : Type 0 where
  pub state : st ≡ next u s r
  pub beat : w ≡ own_beat s r

module _ (u : Setup) (s : State) (r : Record) {k : Command} {n : Clock} {bus : Bus} {w : Beat} {one two : List Bank} where
  pub settled : {startup : StartUp} → k ≡ command r → n ≡ clock_of s.core r
      → bus ≡ bus_after k r n (word_in s.core.startup.register) (row_of (bank_at s.banks r.ba).status) s.core.bus
      → startup ≡ startup_after k r n s.core.startup
      → w ≡ beat_on s.core.last s.core.bus.masks bus.write bus.reads r.masks n
      → one
      ≡ commanded k u.table s.core.period (burst_end k u.table s.core.period (word_in s.core.startup.register) n)
      (begun s.core.startup) r n (at s.core.period n) s.banks
      → two ≡ mark_banks w n one → Settled u s r (state_of s.core (s.core.number + 1) (Some n) startup bus two) w
  unfolding next core_after core_from banks_after beat bus_after
  settled hk hn hb hs hw ho ht =
      let e : w ≡ own_beat s r = rw (hw, hb, hn, hk) in
      record { state = rw (ht, ho, e, hs, hb, hn, hk); beat = e }
