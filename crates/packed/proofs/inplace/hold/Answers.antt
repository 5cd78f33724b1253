-- `packed::inplace::hold` meets its contract.
use Rattle.packed.specs.Packed.{event_in, status_in, bank_in}
use mathlib.Core.Path.{refl}
use Rattle.packed.proofs.inplace.hold.Goals as goal

pub put_banks-requires : goal.put_banks-requires
unfolding bank_in status_in event_in
put_banks-requires c = refl
