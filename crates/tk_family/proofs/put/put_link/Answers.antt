use Rattle.std.proofs.Common.{refl, ◌∙◌}
use Rattle.tk_family.specs.Children.{others_in}
use Rattle.tk_family.specs.Rows.{table}
use Rattle.tk_family.proofs.Assembly.{Puts-seen}
use Rattle.tk_family.proofs.HangLaws.{Hangs-seen, Hangs-puts}
use Rattle.tk_family.proofs.put.put_link.Goals as goal

pub answer-requires-clause-hung : goal.answer-requires-clause-hung
answer-requires-clause-hung c = Hangs-seen (table c.args.rows.now) (table c.make_room.new.rows)
    (others_in c.args.others.now) (others_in c.args.others.now) c.in_ok-make_room.ensures.same
    (λ k e. refl) c.requires.hung

pub returns-in_err-list_other-clause-hung : goal.returns-in_err-list_other-clause-hung
returns-in_err-list_other-clause-hung c =
    Hangs-seen (table c.args.rows.now) (table c.make_room.new.rows) (others_in c.args.others.now)
    (others_in c.list_other.new.others) c.in_ok-make_room.ensures.same
    c.in_err-list_other.ensures.err c.requires.hung

pub returns-clause-hung : goal.returns-clause-hung
returns-clause-hung c =
    let M = table c.make_room.new.rows in
    let seen = c.in_ok-make_room.ensures.same in
    Hangs-puts M (table c.write_put.new.rows) (others_in c.args.others.now)
    (others_in c.list_other.new.others) c.args.dot c.args.link.now c.as_slice.result.now
    (seen.links c.args.dot ∙ c.requires.free) c.write_put.ensures.puts c.write_put.ensures.first
    c.in_ok-list_other.ensures.ok c.list_other.ensures.ranged
    (Hangs-seen (table c.args.rows.now) M (others_in c.args.others.now)
    (others_in c.args.others.now) seen (λ k e. refl) c.requires.hung)

pub returns-clause-ok : goal.returns-clause-ok
returns-clause-ok c = Puts-seen (table c.args.rows.now) (table c.make_room.new.rows)
    (table c.write_put.new.rows) c.args.dot c.args.link.now c.in_ok-dots.dots.items
    c.as_slice.result.now c.as_slice.ensures.value c.in_ok-make_room.ensures.same
    c.write_put.ensures.puts
