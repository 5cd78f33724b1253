-- `packed::numbers::put_stored` meets its contract.
use native.Mathlib.Omega.{arith}
use Prim.Native.Nat.{◌%◌}
use Rattle.packed.proofs.Puts.{stored_put}
use Rattle.packed.proofs.numbers.put_stored.Goals as goal

pub returns : goal.returns
returns c = stored_put c.args.held.now c.requires (c.args.i % 4) (omega arith) c.place-at.ensures c.args.n
