-- A beat that stores a byte, as the code that marks its bank asks it. Definitions only.
use Rattle.std.specs.Prelude.{ℕ, Bool, false, not, ◌&&◌, ltb, eqb}
use Rattle.bursts.specs.declared.Beat.{Beat}
use Rattle.bursts.specs.declared.Beat.TheVariants.{Quiet, Stores, Drives}
use Rattle.units.specs.Module.{banks}

-- it stores a byte in a bank of the module
unfoldable pub stores_byte : Beat → Bool
stores_byte Quiet = false
stores_byte (Stores c) = not (eqb c.lanes 0) && ltb c.bank banks
stores_byte (Drives c) = false

-- the bank of a WRITE's beat
unfoldable pub bank_of : Beat → ℕ
bank_of Quiet = 0
bank_of (Stores c) = c.bank
bank_of (Drives c) = 0
