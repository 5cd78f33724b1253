-- A command that can end no burst leaves the bursts as they were. Assumes nothing.
use Prim.Native.Nat.{ℕ}
use mathlib.Core.Path.{◌≡◌, refl}
use mathlib.Core.Bool.{Bool, true, false, ◌||◌, true≢false}
use mathlib.Core.List.{List, [], ◌∷◌}
use Rattle.units.specs.declared.Clock.{Clock}
use Rattle.layout.specs.declared.Record.{Record}
use Rattle.layout.specs.declared.Command.{Command}
use Rattle.layout.specs.declared.Command.TheVariants.{Inhibit, Nop, Active, Read, Write, Terminate, Precharge, Refresh, LoadMode}
use Rattle.layout.specs.Commands.{is, access}
use Rattle.bursts.specs.declared.Burst.{Burst}
use Rattle.bursts.specs.Burst.{ends, cut_if, cut_by}
use Rattle.bursts.specs.Bus.{cut_each, reads_from, reads_after}

-- where neither of two tests holds
neither : (a b : Bool) → (a || b) ≡ false → (a ≡ false) × (b ≡ false)
neither true b h = absurd (true≢false h)
neither false b h = (refl, h)

-- the command can end a burst
abbrev pub can_end : Command → Bool
can_end k = access k || is k Terminate || is k Precharge

-- a command that is none of the four
pub none_ended : (k : Command) → (k ≡ Read → ⊥) → (k ≡ Write → ⊥) → (k ≡ Terminate → ⊥) → (k ≡ Precharge → ⊥) → can_end k ≡ false
none_ended Inhibit r w t p = refl
none_ended Nop r w t p = refl
none_ended Active r w t p = refl
none_ended Read r w t p = absurd (r refl)
none_ended Write r w t p = absurd (w refl)
none_ended Terminate r w t p = absurd (t refl)
none_ended Precharge r w t p = absurd (p refl)
none_ended Refresh r w t p = refl
none_ended LoadMode r w t p = refl

-- a cut that is not asked is the identity
pub cut_not_asked : (n : Clock) (b : Burst) → cut_if false n b ≡ b
cut_not_asked n b = refl

module _ (k : Command) (none : can_end k ≡ false) where
  pub ends_none : (addr ba i : ℕ) → ends k addr ba i ≡ false
  ends_none addr ba i =
      let p = neither (access k || is k Terminate) (is k Precharge) none in
      rw (p.0, p.1)

  pub untouched : (addr ba : ℕ) (n : Clock) (b : Burst) → cut_by k addr ba n b ≡ b
  untouched addr ba n b = rw (ends_none addr ba b.bank)

  pub all_untouched : (addr ba : ℕ) (n : Clock) (bs : List Burst) → cut_each k addr ba n bs ≡ bs
  all_untouched addr ba n [] = refl
  all_untouched addr ba n (b ∷ bs) = rw (untouched addr ba n b, all_untouched addr ba n bs)

  pub reads_untouched : (r : Record) (n : Clock) (word row : ℕ) (bs : List Burst) → bs ≡ reads_after k r n word row bs
  unfolding reads_from
  reads_untouched r n word row bs =
      let p = neither (access k || is k Terminate) (is k Precharge) none in
      let q = neither (access k) (is k Terminate) p.0 in
      let s = neither (is k Read) (is k Write) q.0 in
      rw (s.0, s.1, all_untouched r.addr r.ba n bs)
