use Rattle.std.proofs.Common.{◌≡◌, ◌∷◌, Err, inl, map, refl, rules, subst, sym}
use Rattle.std.specs.Prelude.{string_bytes}
use Rattle.tokend.specs.FactsRun.{PrintsEach}
use Rattle.tokend.proofs.facts.+print_each.Goals as goal

pub returns-in-Err : goal.returns-in-Err
returns-in-Err g t c =
    let is : map string_bytes c.args.names.now
    ≡ c.deref.result.now ∷ map string_bytes c.in-Some.more.now = search rules in
    subst (λ l. PrintsEach l (g.I.Read.remaining c.args.input.now) (Err c.in-Err.fault)
    (g.O.Write.contents c.args.output.now) (g.O.Write.contents c.print_source.new.output)) (sym is)
    (inl (c.in-Err.fault, refl, c.in-Err.ensures.printed))
