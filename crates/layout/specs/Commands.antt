-- The command of a record and the bits of its address (01, Commands; 003 table 8). Definitions only.
use Rattle.std.specs.Prelude.{ℕ, ◌+◌, ◌*◌, ◌/◌, ◌%◌, Bool, ◌&&◌, ◌||◌, [], ◌∷◌, ltb, eqb, get_or}
use Rattle.units.specs.declared.Module.{Module}
use Rattle.units.specs.Module.{columns}
use Rattle.layout.specs.declared.Record.{Record}
use Rattle.layout.specs.declared.Command.{Command}
use Rattle.layout.specs.declared.Command.TheVariants.{
  Inhibit,
  Nop,
  Active,
  Read,
  Write,
  Terminate,
  Precharge,
  Refresh,
  LoadMode,
}

-- CS#, RAS#, CAS#, WE# as a number of four bits: 003 table 8, from LLLL on; with CS# HIGH each is COMMAND INHIBIT
abbrev pub command_of : ℕ → Command
command_of code = get_or (LoadMode ∷ Refresh ∷ Precharge ∷ Active ∷ Write ∷ Read ∷ Terminate ∷ Nop ∷ []) code Inhibit

abbrev pub command : Record → Command
command r = command_of r.code

-- the number of each command: its code, and 8 for the eight codes of COMMAND INHIBIT
abbrev pub code_of : Command → ℕ
code_of LoadMode = 0
code_of Refresh = 1
code_of Precharge = 2
code_of Active = 3
code_of Write = 4
code_of Read = 5
code_of Terminate = 6
code_of Nop = 7
code_of Inhibit = 8

abbrev pub is : Command → Command → Bool
is a b = eqb (code_of a) (code_of b)

-- "executable commands (all but those two)": NOP and COMMAND INHIBIT
abbrev pub executable : Command → Bool
executable k = ltb (code_of k) (code_of Nop)

-- LOAD MODE, AUTO REFRESH and PRECHARGE: "all banks closed" and "one bank or (A10 HIGH) each of the four"
abbrev pub looks_at_all : Command → Bool
looks_at_all k = ltb (code_of k) (code_of Active)

-- READ or WRITE
abbrev pub access : Command → Bool
access k = is k Read || is k Write

-- "A10 asks auto precharge"; of a PRECHARGE, each of the four banks
abbrev pub a10_of : ℕ → Bool
a10_of addr = eqb (addr / 1024 % 2) 1

abbrev pub a10 : Record → Bool
a10 r = a10_of r.addr

-- "Column is A11 then A9 to A0; A12 is ignored"
abbrev pub column_of : ℕ → ℕ
column_of addr = addr / 2048 % 2 * 1024 + addr % 1024

-- of those, the bits that the module has: of the handheld "A11, A9 and A8 of a column are ignored"
unfoldable pub column_on : Module → ℕ → ℕ
column_on m addr = column_of addr % columns m

-- a PRECHARGE is for bank i: "one bank or (A10 HIGH) each of the four"
abbrev pub covers : ℕ → ℕ → ℕ → Bool
covers addr ba i = a10_of addr || eqb i ba

-- "PRECHARGE ALL"
abbrev pub precharge_all : Command → Record → Bool
precharge_all k r = is k Precharge && a10 r
