-- `judge::run` meets its contract: what was read says what is printed of all there is to read.
use Rattle.std.proofs.Common.{rules, List, ℕ, subst}
use Rattle.std.proofs.lemmas.Result.{on_ok_weaker}
use Rattle.std.specs.Io.KnownBytes.{Appends}
use Rattle.judge.proofs.Reading.{printed_of_all}
use Rattle.judge.proofs.run.Goals as goal

pub returns : goal.returns
returns g c =
    let known = g.R.Read.remaining c.args.input.now in
    let after = g.R.Read.remaining c.read_full.new.input in
    let told = c.in_ok-n.ensures in
    let Written : List ℕ → Type 0 = λ bytes. Appends (g.W.Write.contents c.args.to.now) (g.W.Write.contents c.write_all.new.self) bytes in
    on_ok_weaker c.write_all.result
    (λ w. printed_of_all known after c.read_full.new.buf c.in_ok-n.n Written (search rules) told.within told.taken told.ended
    (subst Written c.print_input-bytes.ensures.held w))
    c.write_all.ensures.bytes
