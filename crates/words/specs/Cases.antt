-- The words by rows: what each place means, both ways; then words that no state has, and which words hold one. Assumes nothing.
use Rattle.units.specs.declared.Clock.{Clock}
use Rattle.std.specs.Prelude.{ℕ, suc, ◌≡◌, refl, Bool, true, false, not, List, [], ◌∷◌, ◌++◌, T, replicate, set, Option, None, Some}
use Rattle.units.specs.Time.{clock, time}
use Rattle.units.specs.Facts.{all_true}
use Rattle.bursts.specs.declared.Burst.{Burst}
use Rattle.bursts.specs.declared.Bus.{Bus}
use Rattle.rules.specs.declared.Refreshes.TheVariants.{Zero, One, Two}
use Rattle.rules.specs.declared.StartUp.{StartUp}
use Rattle.rules.specs.declared.Status.TheVariants.{NotStarted, Open, Closed}
use Rattle.rules.specs.declared.Bank.{Bank}
use Rattle.rules.specs.declared.State.{State}
use Rattle.rules.specs.Parts.{startup_of, bank_of, no_bank, loaded}
use Rattle.words.specs.Words.{
  state_words,
  small,
  middle,
  flag,
  event_in,
  refreshes_in,
  register_in,
  startup_in,
  burst_in,
  masks_in,
  bus_in,
  core_in,
  status_in,
  bank_in,
  state_in,
  words_of,
  same,
  holds,
  put_words,
}

-- ── Words and states of the rows ──

-- 94 zeros, but for these: a place and its number, the next place and its number ..
abbrev but : List ℕ → List ℕ
but [] = replicate state_words 0
but (i ∷ []) = replicate state_words 0
but (i ∷ n ∷ more) = set (but more) i n

-- the state of 94 zeros, but for these parts
abbrev state_of : ℕ → ℕ → ℕ → ℕ → ℕ → Option Clock → StartUp → Bus → List Bank → State
state_of period grade bank row number last startup bus banks =
    record {
      core =
          record {
            period = time period;
            grade = grade;
            bank = bank;
            row = row;
            number = number;
            last = last;
            startup = startup;
            bus = bus;
          };
      banks = banks;
    }

abbrev burst : Bool → Bool → ℕ → ℕ → ℕ → ℕ → Option Clock → ℕ → Burst
burst live auto bank row column start cut word =
    record { live = live; auto = auto; bank = bank; row = row; column = column; start = clock start; cut = cut; word = word }

-- bursts of zeros
abbrev none : Burst
none = burst false false 0 0 0 0 None 0

abbrev bus : Burst → Burst → Burst → Burst → Burst → ℕ → ℕ → ℕ → Bus
bus w a b c d first second third =
    record { write = w; reads = a ∷ b ∷ c ∷ d ∷ []; masks = record { first = first; second = second; third = third } }

abbrev no_bus : Bus
no_bus = bus none none none none none 0 0 0

abbrev no_startup : StartUp
no_startup = startup_of None Zero None

abbrev no_banks : List Bank
no_banks = no_bank ∷ no_bank ∷ no_bank ∷ no_bank ∷ []

abbrev blank : State
blank = state_of 0 0 0 0 0 None no_startup no_bus no_banks

abbrev with_last : Option Clock → State
with_last e = state_of 0 0 0 0 0 e no_startup no_bus no_banks

abbrev with_startup : StartUp → State
with_startup u = state_of 0 0 0 0 0 None u no_bus no_banks

abbrev with_bus : Bus → State
with_bus u = state_of 0 0 0 0 0 None no_startup u no_banks

abbrev with_write : Burst → State
with_write w = with_bus (bus w none none none none 0 0 0)

abbrev with_banks : Bank → Bank → Bank → Bank → State
with_banks a b c d = state_of 0 0 0 0 0 None no_startup no_bus (a ∷ b ∷ c ∷ d ∷ [])

abbrev with_first : Bank → State
with_first b = with_banks b no_bank no_bank no_bank

-- these numbers from place i on
abbrev from : ℕ → List ℕ → List ℕ
from i [] = []
from i (n ∷ ns) = i ∷ n ∷ from (suc i) ns

-- a burst that uses each of its nine numbers, and a bank that uses all but its closing time
abbrev full : Burst
full = burst true true 2 3 4 5 (Some (clock 6)) 7

abbrev full_numbers : List ℕ
full_numbers = 1 ∷ 1 ∷ 2 ∷ 3 ∷ 4 ∷ 5 ∷ 1 ∷ 6 ∷ 7 ∷ []

abbrev busy : Bank
busy = bank_of (Open 7 (clock 8)) (Some (clock 10)) (Some (clock 11))

abbrev busy_numbers : List ℕ
busy_numbers = 1 ∷ 7 ∷ 8 ∷ 0 ∷ 1 ∷ 10 ∷ 1 ∷ 11 ∷ []

-- ── A row: words, and the state that they are read as ──

pub record Row : Type 0 where
  pub words : List ℕ
  pub state : State

infix 68 ◌are◌
abbrev pub ◌are◌ : List ℕ → State → Row
l are s = record { words = but l; state = s }

abbrev read : List Row → List State
read [] = []
read (r ∷ rs) = state_in r.words ∷ read rs

abbrev states : List Row → List State
states [] = []
states (r ∷ rs) = r.state ∷ states rs

abbrev written : List Row → List (List ℕ)
written [] = []
written (r ∷ rs) = words_of r.state ∷ written rs

abbrev words_in : List Row → List (List ℕ)
words_in [] = []
words_in (r ∷ rs) = r.words ∷ words_in rs

-- ── Each place, both ways ──

-- the largest number of 64 bits
abbrev most : ℕ
most = 0xffff_ffff_ffff_ffff

abbrev pub places : List Row
places =
    [] are blank
    -- 0 to 4: the period, the grade, the watched bank and row, the number of the next record
    ∷ (0 ∷ 7_500 ∷ 1 ∷ 2 ∷ 2 ∷ 3 ∷ 3 ∷ 8_191 ∷ 4 ∷ 12 ∷ []) are state_of 7_500 2 3 8_191 12 None no_startup no_bus no_banks
    -- 5 and 6: the last record, also on clock 0
    ∷ (5 ∷ 1 ∷ []) are with_last (Some (clock 0))
    ∷ (5 ∷ 1 ∷ 6 ∷ 9 ∷ []) are with_last (Some (clock 9))
    -- 7 to 13: PRECHARGE ALL, the refreshes, the mode register
    ∷ (7 ∷ 1 ∷ 8 ∷ 9 ∷ []) are with_startup (startup_of (Some (clock 9)) Zero None)
    ∷ (9 ∷ 1 ∷ 10 ∷ 9 ∷ []) are with_startup (startup_of None (One (clock 9)) None)
    ∷ (9 ∷ 2 ∷ 10 ∷ 9 ∷ []) are with_startup (startup_of None (Two (clock 9)) None)
    ∷ (11 ∷ 1 ∷ 12 ∷ 0x33 ∷ 13 ∷ 9 ∷ []) are with_startup (startup_of None Zero (loaded 0x33 (clock 9)))
    -- 14 to 22: the WRITE, each of its numbers; then its two flags and its cut, each alone
    ∷ from 14 full_numbers are with_write full
    ∷ (14 ∷ 1 ∷ []) are with_write (burst true false 0 0 0 0 None 0)
    ∷ (15 ∷ 1 ∷ []) are with_write (burst false true 0 0 0 0 None 0)
    ∷ (20 ∷ 1 ∷ []) are with_write (burst false false 0 0 0 0 (Some (clock 0)) 0)
    -- 23, 32, 41 and 50 on: the four READs, the latest first
    ∷ from 23 full_numbers are with_bus (bus none full none none none 0 0 0)
    ∷ from 32 full_numbers are with_bus (bus none none full none none 0 0 0)
    ∷ from 41 full_numbers are with_bus (bus none none none full none 0 0 0)
    ∷ from 50 full_numbers are with_bus (bus none none none none full 0 0 0)
    -- 59 to 61: the masks, on the last record's clock first
    ∷ (59 ∷ 253 ∷ 60 ∷ 254 ∷ 61 ∷ 255 ∷ []) are with_bus (bus none none none none none 253 254 255)
    -- 62 to 69: bank 0 open, closed, and its two events, each alone
    ∷ (62 ∷ 1 ∷ 63 ∷ 7 ∷ 64 ∷ 8 ∷ []) are with_first (bank_of (Open 7 (clock 8)) None None)
    ∷ (62 ∷ 2 ∷ 65 ∷ 9 ∷ []) are with_first (bank_of (Closed (time 9)) None None)
    ∷ (66 ∷ 1 ∷ 67 ∷ 10 ∷ []) are with_first (bank_of NotStarted (Some (clock 10)) None)
    ∷ (68 ∷ 1 ∷ 69 ∷ 11 ∷ []) are with_first (bank_of NotStarted None (Some (clock 11)))
    -- 70, 78 and 86 on: the other banks
    ∷ from 70 busy_numbers are with_banks no_bank busy no_bank no_bank
    ∷ from 78 busy_numbers are with_banks no_bank no_bank busy no_bank
    ∷ from 86 busy_numbers are with_banks no_bank no_bank no_bank busy
    -- just below the largest of 8 and of 16 bits
    ∷ (1 ∷ 254 ∷ 3 ∷ 65_534 ∷ []) are state_of 0 254 0 65_534 0 None no_startup no_bus no_banks
    -- 64 bits: the period, the record number, clocks, a closing time
    ∷ (0 ∷ most ∷ 4 ∷ most ∷ 5 ∷ 1 ∷ 6 ∷ most ∷ []) are state_of most 0 0 0 most (Some (clock most)) no_startup no_bus no_banks
    ∷ (9 ∷ 1 ∷ 10 ∷ most ∷ 11 ∷ 1 ∷ 13 ∷ most ∷ []) are with_startup (startup_of None (One (clock most)) (loaded 0 (clock most)))
    ∷ (9 ∷ 2 ∷ 10 ∷ most ∷ []) are with_startup (startup_of None (Two (clock most)) None)
    ∷ (19 ∷ most ∷ []) are with_write (burst false false 0 0 0 most None 0)
    ∷ (62 ∷ 1 ∷ 64 ∷ most ∷ []) are with_first (bank_of (Open 0 (clock most)) None None)
    ∷ (62 ∷ 2 ∷ 65 ∷ most ∷ []) are with_first (bank_of (Closed (time most)) None None)
    ∷ []

pub places_read : read places ≡ states places
unfolding state_in core_in startup_in refreshes_in register_in bus_in burst_in masks_in bank_in status_in event_in
    small middle flag
places_read = refl

pub places_written : written places ≡ words_in places
unfolding words_of
places_written = refl

-- ── Words that no state has, and the state that they are read as ──

abbrev pub loose : List Row
loose =
    -- past 8 bits: the grade, the watched bank, the bank of a burst, the masks
    (1 ∷ 256 ∷ 2 ∷ 1_000 ∷ []) are state_of 0 255 255 0 0 None no_startup no_bus no_banks
    ∷ (16 ∷ 256 ∷ []) are with_write (burst false false 255 0 0 0 None 0)
    ∷ (59 ∷ 256 ∷ 60 ∷ 257 ∷ 61 ∷ 65_536 ∷ []) are with_bus (bus none none none none none 255 255 255)
    -- past 16 bits: the rows, the column, the mode words
    ∷ (3 ∷ 65_536 ∷ []) are state_of 0 0 0 65_535 0 None no_startup no_bus no_banks
    ∷ (17 ∷ 65_536 ∷ 18 ∷ 65_537 ∷ 22 ∷ 1_000_000 ∷ []) are with_write (burst false false 0 65_535 65_535 0 None 65_535)
    ∷ (11 ∷ 1 ∷ 12 ∷ 65_536 ∷ []) are with_startup (startup_of None Zero (loaded 65_535 (clock 0)))
    ∷ (62 ∷ 1 ∷ 63 ∷ 65_536 ∷ []) are with_first (bank_of (Open 65_535 (clock 0)) None None)
    -- a kind past the last is the last
    ∷ (14 ∷ 2 ∷ 15 ∷ 3 ∷ []) are with_write (burst true true 0 0 0 0 None 0)
    ∷ (5 ∷ 2 ∷ 6 ∷ 9 ∷ []) are with_last (Some (clock 9))
    ∷ (9 ∷ 3 ∷ 10 ∷ 9 ∷ []) are with_startup (startup_of None (Two (clock 9)) None)
    ∷ (11 ∷ 2 ∷ 13 ∷ 9 ∷ []) are with_startup (startup_of None Zero (loaded 0 (clock 9)))
    ∷ (62 ∷ 3 ∷ 65 ∷ 9 ∷ []) are with_first (bank_of (Closed (time 9)) None None)
    -- a number that the kind does not use
    ∷ (6 ∷ 9 ∷ []) are blank
    ∷ (8 ∷ 9 ∷ []) are blank
    ∷ (10 ∷ 9 ∷ []) are blank
    ∷ (12 ∷ 0x33 ∷ []) are blank
    ∷ (13 ∷ 9 ∷ []) are blank
    ∷ (21 ∷ 9 ∷ []) are blank
    ∷ (63 ∷ 7 ∷ []) are blank
    ∷ (64 ∷ 8 ∷ []) are blank
    ∷ (65 ∷ 9 ∷ []) are blank
    ∷ (67 ∷ 9 ∷ []) are blank
    ∷ (69 ∷ 9 ∷ []) are blank
    ∷ (62 ∷ 1 ∷ 65 ∷ 9 ∷ []) are with_first (bank_of (Open 0 (clock 0)) None None)
    ∷ (62 ∷ 2 ∷ 63 ∷ 7 ∷ []) are with_first (bank_of (Closed (time 0)) None None)
    ∷ (62 ∷ 2 ∷ 64 ∷ 8 ∷ []) are with_first (bank_of (Closed (time 0)) None None)
    ∷ []

pub loose_read : read loose ≡ states loose
unfolding state_in core_in startup_in refreshes_in register_in bus_in burst_in masks_in bank_in status_in event_in
    small middle flag
loose_read = refl

-- the largest of 8 and of 16 bits are read as they are; too few words, none, and too many
pub bounds_read :
    (state_in (but (1 ∷ 255 ∷ 3 ∷ 65_535 ∷ []))
    ∷ state_in (7_500 ∷ [])
    ∷ state_in []
    ∷ state_in (replicate 94 0 ++ (5 ∷ []))
    ∷ [])
    ≡ (state_of 0 255 0 65_535 0 None no_startup no_bus no_banks
    ∷ state_of 7_500 0 0 0 0 None no_startup no_bus no_banks
    ∷ blank
    ∷ blank
    ∷ [])
unfolding state_in core_in startup_in refreshes_in register_in bus_in burst_in masks_in bank_in status_in event_in
    small middle flag
bounds_read = refl

-- ── Which words hold a state ──

abbrev hold : List Row → List Bool
hold [] = []
hold (r ∷ rs) = holds r.words ∷ hold rs

abbrev hold_not : List Row → List Bool
hold_not [] = []
hold_not (r ∷ rs) = not (holds r.words) ∷ hold_not rs

abbrev pub held : List Bool
held =
    -- as many as a state has
    not (holds [])
    ∷ not (holds (replicate 93 0))
    ∷ holds (replicate 94 0)
    ∷ not (holds (replicate 95 0))
    -- the largest of 8 and of 16 bits
    ∷ holds (but (1 ∷ 255 ∷ 3 ∷ 65_535 ∷ []))
    -- each place's words, and none of those that no state has
    ∷ (hold places ++ hold_not loose)

pub held_right : T (all_true held)
unfolding holds same words_of state_in core_in startup_in refreshes_in register_in bus_in burst_in masks_in bank_in status_in
    event_in small middle flag
held_right = tt

-- ── Two lists ──

abbrev pub lists : List Bool
lists =
    same [] []
    ∷ not (same [] (0 ∷ []))
    ∷ not (same (0 ∷ []) [])
    ∷ same (1 ∷ 2 ∷ []) (1 ∷ 2 ∷ [])
    ∷ not (same (1 ∷ 2 ∷ []) (1 ∷ 3 ∷ []))
    ∷ not (same (1 ∷ 2 ∷ []) (0 ∷ 2 ∷ []))
    ∷ []

pub lists_right : T (all_true lists)
unfolding same
lists_right = tt

-- numbers are put where there are places, and what stands after them is left
pub put_right :
    (put_words (1 ∷ 2 ∷ 3 ∷ []) []
    ∷ put_words (1 ∷ 2 ∷ 3 ∷ []) (9 ∷ [])
    ∷ put_words (1 ∷ 2 ∷ 3 ∷ []) (9 ∷ 8 ∷ 7 ∷ 6 ∷ [])
    ∷ put_words [] (9 ∷ [])
    ∷ [])
    ≡ ([] ∷ (1 ∷ []) ∷ (1 ∷ 2 ∷ 3 ∷ 6 ∷ []) ∷ (9 ∷ []) ∷ [])
unfolding put_words
put_right = refl
