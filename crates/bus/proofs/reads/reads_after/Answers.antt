-- `bus::reads::reads_after` meets its contract: a WRITE, a READ by which of the four makes room, another command that can end a burst, and one that can end none.
use mathlib.Core.Path.{◌≡◌, sym, ◌∙◌}
use lib.ListN.{length}
use borrow.Author.Rules.{rules}
use Rattle.bursts.proofs.Untouched.{reads_untouched}
use Rattle.bursts.proofs.Four.{after_write, after_read, after_others}
use Rattle.bursts.proofs.Room.{first_goes, second_goes, third_goes, fourth_goes, fourth_gives_way}
use Rattle.bus.proofs.reads.reads_after.Goals as goal

pub returns-then-eq : goal.returns-then-eq
returns-then-eq c = let a = c.args in rw c.written_over.ensures (after_write a.k a.r a.n a.word a.row a.bs (search rules))

pub returns-then-i-eq0 : goal.returns-then-i-eq0
returns-then-i-eq0 c = let a = c.args in
    let h : length a.bs ≡ 4 = search rules in
    rw (c.cut_if-d.ensures, c.cut_if-c.ensures, c.cut_if-b.ensures, c.at-new.ensures) (after_read a.k a.r a.n a.word a.row a.bs (search rules) (search rules) _ _ _ (first_goes a.n a.bs h c.to_come-then-to_come.result c.to_come-then-to_come-2.result c.to_come-then-to_come-3.result c.to_come-then-to_come.ensures c.to_come-then-to_come-2.ensures c.to_come-then-to_come-3.ensures (sym c.to_come.ensures ∙ c.if-to_come.true) _ c.room-i.ensures c.if-i-eq0.true))

pub returns-then-i-eq1 : goal.returns-then-i-eq1
returns-then-i-eq1 c = let a = c.args in
    let h : length a.bs ≡ 4 = search rules in
    rw (c.cut_if-d.ensures, c.cut_if-c.ensures, c.cut_if-a.ensures, c.at-new.ensures) (after_read a.k a.r a.n a.word a.row a.bs (search rules) (search rules) _ _ _ (second_goes a.n a.bs h c.to_come-then-to_come.result c.to_come-then-to_come-2.result c.to_come-then-to_come-3.result c.to_come-then-to_come.ensures c.to_come-then-to_come-2.ensures c.to_come-then-to_come-3.ensures (sym c.to_come.ensures ∙ c.if-to_come.true) _ c.room-i.ensures c.if-i-eq0.false c.if-i-eq1.true))

pub returns-then-i-eq2 : goal.returns-then-i-eq2
returns-then-i-eq2 c = let a = c.args in
    let h : length a.bs ≡ 4 = search rules in
    rw (c.cut_if-d.ensures, c.cut_if-b.ensures, c.cut_if-a.ensures, c.at-new.ensures) (after_read a.k a.r a.n a.word a.row a.bs (search rules) (search rules) _ _ _ (third_goes a.n a.bs h c.to_come-then-to_come.result c.to_come-then-to_come-2.result c.to_come-then-to_come-3.result c.to_come-then-to_come.ensures c.to_come-then-to_come-2.ensures c.to_come-then-to_come-3.ensures (sym c.to_come.ensures ∙ c.if-to_come.true) _ c.room-i.ensures c.if-i-eq0.false c.if-i-eq1.false c.if-i-eq2.true))

pub returns-then-to_come : goal.returns-then-to_come
returns-then-to_come c = let a = c.args in
    let h : length a.bs ≡ 4 = search rules in
    rw (c.cut_if-c.ensures, c.cut_if-b.ensures, c.cut_if-a.ensures, c.at-new.ensures) (after_read a.k a.r a.n a.word a.row a.bs (search rules) (search rules) _ _ _ (fourth_goes a.n a.bs h c.to_come-then-to_come.result c.to_come-then-to_come-2.result c.to_come-then-to_come-3.result c.to_come-then-to_come.ensures c.to_come-then-to_come-2.ensures c.to_come-then-to_come-3.ensures (sym c.to_come.ensures ∙ c.if-to_come.true) _ c.room-i.ensures c.if-i-eq0.false c.if-i-eq1.false c.if-i-eq2.false))

pub returns-then-eq-2 : goal.returns-then-eq-2
returns-then-eq-2 c = let a = c.args in
    let h : length a.bs ≡ 4 = search rules in
    rw (c.cut_if-c.ensures, c.cut_if-b.ensures, c.cut_if-a.ensures, c.at-new.ensures) (after_read a.k a.r a.n a.word a.row a.bs (search rules) (search rules) _ _ _ (fourth_gives_way a.n a.bs h (sym c.to_come.ensures ∙ c.if-to_come.false)))

pub returns-then-can_end : goal.returns-then-can_end
returns-then-can_end c = let a = c.args in rw c.cut_each.ensures (after_others a.k a.r a.n a.word a.row a.bs (search rules) (search rules))

pub returns : goal.returns
returns c = let a = c.args in reads_untouched _ (sym c.can_end.ensures ∙ c.if-can_end.false) a.r a.n a.word a.row _
