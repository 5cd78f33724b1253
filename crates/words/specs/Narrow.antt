-- What a state must be to be read back from its words: four READs, four banks, and 8 or 16 bits where the words are read so, as
-- the code's types have it. Definitions only.
use Rattle.std.specs.Prelude.{◌<◌, ◌≡◌, length, Option, None, Some}
use Rattle.bursts.specs.declared.Burst.{Burst}
use Rattle.bursts.specs.declared.Masks.{Masks}
use Rattle.rules.specs.declared.Register.{Register}
use Rattle.rules.specs.declared.Status.{Status}
use Rattle.rules.specs.declared.Status.TheVariants.{NotStarted, Open, Closed}
use Rattle.rules.specs.declared.Bank.{Bank}
use Rattle.rules.specs.declared.State.{State}
use Rattle.rules.specs.Admitted.{Each, EachBurst}

pub record NarrowBurst (b : Burst) : Type 0 where
  pub bank : b.bank < 256
  pub row : b.row < 65_536
  pub column : b.column < 65_536
  pub word : b.word < 65_536

pub record NarrowMasks (m : Masks) : Type 0 where
  pub first : m.first < 256
  pub second : m.second < 256
  pub third : m.third < 256

abbrev pub NarrowRegister : Option Register → Type 0
NarrowRegister None = Unit {0}
NarrowRegister (Some l) = l.word < 65_536

abbrev pub NarrowStatus : Status → Type 0
NarrowStatus NotStarted = Unit {0}
NarrowStatus (Open row n) = row < 65_536
NarrowStatus (Closed t) = Unit {0}

abbrev pub NarrowBank : Bank → Type 0
NarrowBank b = NarrowStatus b.status

pub record Narrow (s : State) : Type 0 where
  pub grade : s.core.grade < 256
  pub bank : s.core.bank < 256
  pub row : s.core.row < 65_536
  pub register : NarrowRegister s.core.startup.register
  pub bursts : EachBurst NarrowBurst s.core.bus
  pub masks : NarrowMasks s.core.bus.masks
  pub banks : Each NarrowBank s.banks
  pub four_reads : length s.core.bus.reads ≡ 4
  pub four_banks : length s.banks ≡ 4
