-- `packed::numbers::put_bank` meets its contract.
use native.Mathlib.Omega.{arith}
use Prim.Native.Nat.{◌%◌}
use Rattle.packed.proofs.Puts.{bank_put}
use Rattle.packed.proofs.numbers.put_bank.Goals as goal

pub returns : goal.returns
returns c = bank_put c.args.held.now c.requires (c.args.i % 4) (omega arith) c.place-at.ensures c.args.b (record { kind = c.status_kind.ensures; row = c.row.ensures; on_clock = c.status_clock.ensures; at_time = c.status_time.ensures; small = omega (arith, c.row.type_inv) }) (record { kind = c.event_kind.ensures; number = c.event_number.ensures }) (record { kind = c.event_kind-2.ensures; number = c.event_number-2.ensures })
