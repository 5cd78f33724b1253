-- `packed::numbers::put_status` meets its contract.
use native.Mathlib.Omega.{arith}
use Prim.Native.Nat.{◌%◌}
use Rattle.packed.proofs.Puts.{status_put}
use Rattle.packed.proofs.numbers.put_status.Goals as goal

pub returns : goal.returns
returns c = status_put c.args.held.now c.requires (c.args.i % 4) (omega arith) c.place-at.ensures c.args.x (record { kind = c.status_kind.ensures; row = c.row.ensures; on_clock = c.status_clock.ensures; at_time = c.status_time.ensures; small = omega (arith, c.row.type_inv) })
