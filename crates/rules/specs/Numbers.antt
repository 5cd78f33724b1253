-- The paper's numbers, of refusals and of the intervals of number 16, and how a list of rules gives a verdict (01, Verdicts). Definitions only.
use Rattle.std.specs.Prelude.{ℕ, Bool, true, false, List, [], ◌∷◌, Result, Ok, Err}
use Rattle.rules.specs.declared.Refusal.{Refusal}
use Rattle.rules.specs.declared.Refusal.TheVariants.{
  WrongLength,
  WrongVersion,
  WrongPeriod,
  WrongGrade,
  HeaderZeros,
  WrongTable,
  WrongPage,
  RecordZeros,
  CkeLow,
  LateRefresh,
  LongRow,
  StartUpStep,
  BankState,
  TooSoon,
  ReservedMode,
  ShortClock,
  UnfinishedBurst,
  BusNotClear,
  EndlessBurst,
  LateClosing,
  HighClock,
  UnfitState,
}
use Rattle.rules.specs.declared.Interval.{Interval}
use Rattle.rules.specs.declared.Interval.TheVariants.{Rcd, Ras, Rc, Rp, Rrd, Rfc, Wr, Mrd}

-- "the lowest such is named: 1 tRCD, 2 tRAS, 3 tRC, 4 tRP, 5 tRRD, 6 tRFC, 7 tWR, 8 tMRD"
abbrev pub tRCD : ℕ
tRCD = 1

abbrev pub tRAS : ℕ
tRAS = 2

abbrev pub tRC : ℕ
tRC = 3

abbrev pub tRP : ℕ
tRP = 4

abbrev pub tRRD : ℕ
tRRD = 5

abbrev pub tRFC : ℕ
tRFC = 6

abbrev pub tWR : ℕ
tWR = 7

abbrev pub tMRD : ℕ
tMRD = 8

abbrev pub interval_number : Interval → ℕ
interval_number Rcd = tRCD
interval_number Ras = tRAS
interval_number Rc = tRC
interval_number Rp = tRP
interval_number Rrd = tRRD
interval_number Rfc = tRFC
interval_number Wr = tWR
interval_number Mrd = tMRD

-- the verdict table's numbers
abbrev pub number : Refusal → ℕ
number WrongLength = 1
number WrongVersion = 2
number WrongPeriod = 3
number WrongGrade = 4
number HeaderZeros = 5
number WrongTable = 6
number WrongPage = 7
number RecordZeros = 10
number CkeLow = 11
number LateRefresh = 12
number LongRow = 13
number StartUpStep = 14
number BankState = 15
number (TooSoon i) = 16
number ReservedMode = 17
number ShortClock = 18
number UnfinishedBurst = 19
number BusNotClear = 20
number EndlessBurst = 21
number LateClosing = 22
number HighClock = 23
number UnfitState = 25

-- "The interval is 0 unless the number is 16"
abbrev pub interval : Refusal → ℕ
interval (TooSoon i) = interval_number i
interval w = 0

-- what judging answers: taken, or why it was refused
abbrev pub Verdict : Type 0
Verdict = Result (Unit {0}) Refusal

-- a row of the verdict table: what it refuses with, and whether the rule is kept
pub data Rule : Type 0 where
  rule : (refusal : Refusal) (kept : Bool) → Rule

-- "tried in the order listed": the first rule that is not kept
abbrev pub first_broken : List Rule → Verdict
first_broken [] = Ok tt
first_broken (rule w true ∷ l) = first_broken l
first_broken (rule w false ∷ l) = Err w

-- rows that are tried only where x is true
abbrev pub asked : Bool → List Rule → List Rule
asked true l = l
asked false l = []

-- the paper's number of a verdict: "a taken record 0"
abbrev pub number_of : Verdict → ℕ
number_of (Ok x) = 0
number_of (Err w) = number w

-- its interval
abbrev pub interval_of : Verdict → ℕ
interval_of (Ok x) = 0
interval_of (Err w) = interval w

-- a rule that is asked only where a is true
infixr 20 ◌⇒◌
abbrev pub ◌⇒◌ : Bool → Bool → Bool
true ⇒ b = b
false ⇒ b = true
