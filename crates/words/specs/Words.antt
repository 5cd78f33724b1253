-- The state as 94 numbers, the words, for a caller that holds it in C. Definitions only.
use Rattle.rules.specs.Parts.{loaded}
use Rattle.units.specs.declared.Clock.{Clock}
use Rattle.std.specs.Prelude.{ℕ, ◌+◌, Bool, true, false, not, ◌&&◌, cond, List, [], ◌∷◌, ◌++◌, eqb, ltb, length, get_or, Option, None, Some}
use Rattle.units.specs.Time.{clock, time}
use Rattle.bursts.specs.declared.Burst.{Burst}
use Rattle.bursts.specs.declared.Masks.{Masks}
use Rattle.bursts.specs.declared.Bus.{Bus}
use Rattle.rules.specs.declared.Refreshes.{Refreshes}
use Rattle.rules.specs.declared.Refreshes.TheVariants.{Zero, One, Two}
use Rattle.rules.specs.declared.Register.{Register}
use Rattle.rules.specs.declared.StartUp.{StartUp}
use Rattle.rules.specs.declared.Status.{Status}
use Rattle.rules.specs.declared.Status.TheVariants.{NotStarted, Open, Closed}
use Rattle.rules.specs.declared.Bank.{Bank}
use Rattle.rules.specs.declared.Core.{Core}
use Rattle.rules.specs.declared.State.{State}
use Rattle.rules.specs.Banks.{row_of}

-- how many numbers a state has
abbrev pub state_words : ℕ
state_words = 94

-- ── How the numbers are read ──

-- number i; 0 past the end
abbrev pub number_in : List ℕ → ℕ → ℕ
number_in l i = get_or l i 0

-- a number of 8 bits; a larger one is read as the largest of them
unfoldable pub small : ℕ → ℕ
small n = cond (ltb n 256) n 255

-- a number of 16 bits; a larger one is read as the largest of them
unfoldable pub middle : ℕ → ℕ
middle n = cond (ltb n 65_536) n 65_535

-- 0 is no, any other number yes
unfoldable pub flag : ℕ → Bool
flag n = not (eqb n 0)

-- two numbers from i on: 0 for an event that has not occurred; any other number, and its clock
unfoldable pub event_in : List ℕ → ℕ → Option Clock
event_in l i = cond (eqb (number_in l i) 0) None (Some (clock (number_in l (i + 1))))

-- numbers 9 and 10: 0 none; 1 one, any other number two, and the clock of the last
unfoldable pub refreshes_in : List ℕ → Refreshes
refreshes_in l =
    cond (eqb (number_in l 9) 0) Zero (cond (eqb (number_in l 9) 1) (One (clock (number_in l 10))) (Two (clock (number_in l 10))))

-- numbers 11 to 13: 0 unloaded; any other number, the mode word, and the clock of the LOAD MODE
unfoldable pub register_in : List ℕ → Option Register
register_in l = cond (eqb (number_in l 11) 0) None (loaded (middle (number_in l 12)) (clock (number_in l 13)))

-- numbers 7 to 13: the steps of start-up
unfoldable pub startup_in : List ℕ → StartUp
startup_in l = record { allclosed = event_in l 7; refreshes = refreshes_in l; register = register_in l }

-- nine numbers from i on: live, auto precharge, bank, row, column, the clock of its start, its cut in two, mode word
unfoldable pub burst_in : List ℕ → ℕ → Burst
burst_in l i =
    record {
      live = flag (number_in l i);
      auto = flag (number_in l (i + 1));
      bank = small (number_in l (i + 2));
      row = middle (number_in l (i + 3));
      column = middle (number_in l (i + 4));
      start = clock (number_in l (i + 5));
      cut = event_in l (i + 6);
      word = middle (number_in l (i + 8));
    }

-- numbers 59 to 61: the masks, the last record's first
unfoldable pub masks_in : List ℕ → Masks
masks_in l = record { first = small (number_in l 59); second = small (number_in l 60); third = small (number_in l 61) }

-- numbers 14 to 61: the WRITE, the four READs, the masks
unfoldable pub bus_in : List ℕ → Bus
bus_in l =
    record {
      write = burst_in l 14;
      reads = burst_in l 23 ∷ burst_in l 32 ∷ burst_in l 41 ∷ burst_in l 50 ∷ [];
      masks = masks_in l;
    }

-- numbers 0 to 61: all but the banks
unfoldable pub core_in : List ℕ → Core
core_in l =
    record {
      period = time (number_in l 0);
      grade = small (number_in l 1);
      bank = small (number_in l 2);
      row = middle (number_in l 3);
      number = number_in l 4;
      last = event_in l 5;
      startup = startup_in l;
      bus = bus_in l;
    }

-- four numbers from i on: 0 not started; 1 open, with its row and the clock of its ACTIVE; any other number closed, with its time
unfoldable pub status_in : List ℕ → ℕ → Status
status_in l i =
    cond (eqb (number_in l i) 0) NotStarted
    (cond (eqb (number_in l i) 1) (Open (middle (number_in l (i + 1))) (clock (number_in l (i + 2))))
    (Closed (time (number_in l (i + 3)))))

-- eight numbers from i on: its status in four, its last ACTIVE in two, its last store in two
unfoldable pub bank_in : List ℕ → ℕ → Bank
bank_in l i = record { status = status_in l i; active = event_in l (i + 4); stored = event_in l (i + 6) }

-- numbers 62 to 93: the four banks
abbrev pub banks_in : List ℕ → List Bank
banks_in l = bank_in l 62 ∷ bank_in l 70 ∷ bank_in l 78 ∷ bank_in l 86 ∷ []

-- the state that the numbers are read as
unfoldable pub state_in : List ℕ → State
state_in l = record { core = core_in l; banks = banks_in l }

-- ── The numbers of a state; one that its kind does not use is 0 ──

-- 0 no, 1 yes
abbrev pub flag_number : Bool → ℕ
flag_number false = 0
flag_number true = 1

abbrev pub event_kind : Option Clock → ℕ
event_kind None = 0
event_kind (Some n) = 1

abbrev pub event_number : Option Clock → ℕ
event_number None = 0
event_number (Some n) = n.0

-- an event's two numbers
abbrev pub event_numbers : Option Clock → List ℕ
event_numbers e = event_kind e ∷ event_number e ∷ []

abbrev pub refreshes_kind : Refreshes → ℕ
refreshes_kind Zero = 0
refreshes_kind (One n) = 1
refreshes_kind (Two n) = 2

abbrev pub refreshes_number : Refreshes → ℕ
refreshes_number Zero = 0
refreshes_number (One n) = n.0
refreshes_number (Two n) = n.0

-- the two numbers of the refreshes
abbrev pub refreshes_numbers : Refreshes → List ℕ
refreshes_numbers x = refreshes_kind x ∷ refreshes_number x ∷ []

abbrev pub register_kind : Option Register → ℕ
register_kind None = 0
register_kind (Some l) = 1

abbrev pub register_word : Option Register → ℕ
register_word None = 0
register_word (Some l) = l.word

abbrev pub register_number : Option Register → ℕ
register_number None = 0
register_number (Some l) = l.clock.0

-- the three numbers of the mode register
abbrev pub register_numbers : Option Register → List ℕ
register_numbers x = register_kind x ∷ register_word x ∷ register_number x ∷ []

abbrev pub status_kind : Status → ℕ
status_kind NotStarted = 0
status_kind (Open row n) = 1
status_kind (Closed t) = 2

-- the clock of the ACTIVE of an open bank
abbrev pub status_clock : Status → ℕ
status_clock NotStarted = 0
status_clock (Open row n) = n.0
status_clock (Closed t) = 0

-- the closing time of a closed bank
abbrev pub status_time : Status → ℕ
status_time NotStarted = 0
status_time (Open row n) = 0
status_time (Closed t) = t.0

-- a status's four numbers
abbrev pub status_numbers : Status → List ℕ
status_numbers x = status_kind x ∷ row_of x ∷ status_clock x ∷ status_time x ∷ []

-- the seven numbers of the steps of start-up
abbrev pub startup_numbers : StartUp → List ℕ
startup_numbers u = event_numbers u.allclosed ++ (refreshes_numbers u.refreshes ++ register_numbers u.register)

-- the fourteen numbers before the bus
abbrev pub head_numbers : Core → List ℕ
head_numbers c =
    c.period.0 ∷ c.grade ∷ c.bank ∷ c.row ∷ c.number ∷ (event_numbers c.last ++ startup_numbers c.startup)

-- a burst's nine numbers
abbrev pub burst_numbers : Burst → List ℕ
burst_numbers b =
    flag_number b.live
    ∷ flag_number b.auto
    ∷ b.bank
    ∷ b.row
    ∷ b.column
    ∷ b.start.0
    ∷ (event_numbers b.cut ++ (b.word ∷ []))

-- the numbers of bursts, one after another
abbrev pub bursts_numbers : List Burst → List ℕ
bursts_numbers [] = []
bursts_numbers (b ∷ bs) = burst_numbers b ++ bursts_numbers bs

-- the 48 numbers of the bus, where it has four READs: its bursts and the masks
abbrev pub bus_numbers : Bus → List ℕ
bus_numbers u = bursts_numbers (u.write ∷ u.reads) ++ (u.masks.first ∷ u.masks.second ∷ u.masks.third ∷ [])

-- a bank's eight numbers
abbrev pub bank_numbers : Bank → List ℕ
bank_numbers b = status_numbers b.status ++ (event_numbers b.active ++ event_numbers b.stored)

-- the numbers of banks, one after another
abbrev pub banks_numbers : List Bank → List ℕ
banks_numbers [] = []
banks_numbers (b ∷ bs) = bank_numbers b ++ banks_numbers bs

-- the numbers of a state: 94 where it has four READs and four banks
unfoldable pub words_of : State → List ℕ
words_of s = head_numbers s.core ++ (bus_numbers s.core.bus ++ banks_numbers s.banks)

-- ── Words that hold a state, and words that are written ──

-- two lists are equal, number by number
unfoldable pub same : List ℕ → List ℕ → Bool
same [] [] = true
same [] (y ∷ ys) = false
same (x ∷ xs) [] = false
same (x ∷ xs) (y ∷ ys) = eqb x y && same xs ys

-- there are as many as a state has, and each is the one that the state read from them has
unfoldable pub holds : List ℕ → Bool
holds l = eqb (length l) state_words && same l (words_of (state_in l))

-- the first list's numbers over the second's, where the second has their places
unfoldable pub put_words : List ℕ → List ℕ → List ℕ
put_words [] l = l
put_words (w ∷ ws) [] = []
put_words (w ∷ ws) (x ∷ xs) = w ∷ put_words ws xs
