-- The state by its parts, as the loop over records holds it. Definitions only.
use Rattle.units.specs.declared.Clock.{Clock}
use Rattle.std.specs.Prelude.{ℕ, cond, List, leb, length, Option}
use Rattle.layout.specs.Bytes.{word_at}
use Rattle.bursts.specs.declared.Bus.{Bus}
use Rattle.rules.specs.declared.StartUp.{StartUp}
use Rattle.rules.specs.declared.Bank.{Bank}
use Rattle.rules.specs.declared.Core.{Core}
use Rattle.rules.specs.declared.State.{State}
use Rattle.device.specs.declared.Words.{Words}

-- the words of the record at the start of these bytes; zeros where there is none
unfoldable pub words_ahead : List ℕ → Words
words_ahead s = cond (leb 16 (length s)) (record { first = word_at s 0; second = word_at s 8 }) (record { first = 0; second = 0 })

abbrev pub whole : Core → List Bank → State
whole c banks = record { core = c; banks = banks }

-- these parts, with period, watched bank and row of c
abbrev pub core_of : Core → ℕ → Option Clock → StartUp → Bus → Core
core_of c number last startup bus =
    record {
      period = c.period;
      grade = c.grade;
      bank = c.bank;
      row = c.row;
      number = number;
      last = last;
      startup = startup;
      bus = bus;
    }

abbrev pub state_of : Core → ℕ → Option Clock → StartUp → Bus → List Bank → State
state_of c number last startup bus banks = record { core = core_of c number last startup bus; banks = banks }
