use Rattle.std.proofs.Common.{refl, subst}
use Rattle.tk_family.specs.declared.row.Uses.{Uses}
use Rattle.tk_family.specs.Children.{others_in, token_at}
use Rattle.tk_family.specs.Rows.{table, links_of, firsts_of}
use Rattle.tk_family.specs.Takes.{without, with_first}
use Rattle.tk_family.proofs.HangLaws.{Hangs-same}
use Rattle.tk_family.proofs.Unhung.{IsRewritten, KeptBut-unhung, firsts-unhung, HasUses-unhung}
use Rattle.tk_family.proofs.take.unhang.Goals as goal

pub returns-clause-hung : goal.returns-clause-hung
returns-clause-hung c =
    let T = table c.args.rows.now in
    let N = table c.set_users.new.rows in
    let f = without (links_of T) c.args.dot in
    let E = others_in c.unlist-first.new.others in
    Hangs-same f f (with_first (firsts_of T) c.args.above c.unlist-first.result) (firsts_of N) E E
    (λ q. refl)
    (firsts-unhung T N c.args.dot (token_at c.args.above c.args.kind) c.unlist-first.result
    c.count_uses-uses.result c.requires.known c.requires.uses c.set_users.ensures.rows) (λ k e.
    refl) c.unlist-first.ensures

pub returns-clause-kept : goal.returns-clause-kept
returns-clause-kept c = KeptBut-unhung (table c.args.rows.now) (table c.set_users.new.rows)
    (token_at c.args.above c.args.kind) c.unlist-first.result c.count_uses-uses.result
    c.set_users.ensures.rows

pub returns-clause-known : goal.returns-clause-known
returns-clause-known c =
    let T = table c.args.rows.now in
    let N = table c.set_users.new.rows in
    let t = token_at c.args.above c.args.kind in
    HasUses-unhung T N c.unlist-first.new.others c.args.dot t c.unlist-first.result c.requires.known
    (record {
      uses = c.requires.uses;
      hangs = c.unlist-first.ensures;
      ordered = c.count_uses-uses.ensures.ordered;
    })
    (subst (λ (u : Uses). IsRewritten T N t c.unlist-first.result u) c.count_uses-uses.ensures.uses
    c.set_users.ensures.rows)
