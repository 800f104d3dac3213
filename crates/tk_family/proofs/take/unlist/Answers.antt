use Rattle.std.proofs.Common.{Option, sym, ◌∙◌, subst}
use Rattle.tk_handle.specs.declared.dot.Dot.{Dot}
use Rattle.tk_family.specs.Children.{others_in, token_at}
use Rattle.tk_family.specs.Kept.{Hangs}
use Rattle.tk_family.specs.Rows.{table, links_of, firsts_of}
use Rattle.tk_family.specs.Takes.{without, with_first}
use Rattle.tk_family.proofs.HangRemovalLaws.{Hangs-promoted, Hangs-dropped}
use Rattle.tk_family.proofs.take.unlist.Goals as goal

pub returns-then-is_first : goal.returns-then-is_first
returns-then-is_first c =
    let T = table c.args.rows.now in
    Hangs-promoted (links_of T) (firsts_of T) (others_in c.args.others.now)
    (others_in c.promote.new.others) c.args.dot (token_at c.args.above c.args.kind) c.promote.result
    c.requires.hung c.requires.uses (sym c.is_first.ensures ∙ c.if-is_first.true) c.promote.ensures

pub returns : goal.returns
returns c =
    let T = table c.args.rows.now in
    subst (λ (o : Option Dot).
    Hangs (without (links_of T) c.args.dot) (with_first (firsts_of T) c.args.above o)
    (others_in c.drop_child.new.others)) (sym c.first_at.ensures)
    (Hangs-dropped (links_of T) (firsts_of T) (others_in c.args.others.now)
    (others_in c.drop_child.new.others) c.args.dot (token_at c.args.above c.args.kind)
    c.requires.hung c.requires.uses (sym c.is_first.ensures ∙ c.if-is_first.false)
    c.drop_child.ensures)
