use Rattle.std.proofs.Common.{◌≡◌, ◌∙◌, ap, sym, Some}
use Rattle.std.specs.FinMap as map
use Rattle.tk_dots.specs.Marks.{value_of, without_value}
use Rattle.tk_dots.proofs.MarkLaws.{value_there, value_on, value_off, taken_marked, taken_apart}
use Rattle.tk_dots.proofs.marks.MarkMap.take.Goals as goal
use Rattle.std.proofs.lemmas.Option.{none-some as none_is, same_Some as some_same}

pub invariant_of-self : goal.invariant_of-self
invariant_of-self g c = taken_apart c.self.inside.pages c.self.inside.runs c.args.self.now
    c.self.view_is c.take.new.self c.args.dot c.take.ensures.rest c.self.invariant

pub unreachable-requires : goal.unreachable-requires
unreachable-requires g c =
    let there : (x : g.row.V.Denot) × (map.get c.args.self.now c.args.dot ≡ Some (Some x)) =
    value_there c.self.inside.pages c.self.inside.runs c.args.self.now c.self.view_is c.args.dot
    (sym c.has_value.ensures ∙ c.if-not-has_value.false) in
    none_is (Some there.0)
    (c.in-None.ensures.value
    ∙ value_on c.self.inside.pages c.self.inside.runs c.args.self.now c.self.view_is c.args.dot
    there.0 there.1)

pub returns-clause-value : goal.returns-clause-value
returns-clause-value g c =
    let there : (x : g.row.V.Denot) × (map.get c.args.self.now c.args.dot ≡ Some (Some x)) =
    value_there c.self.inside.pages c.self.inside.runs c.args.self.now c.self.view_is c.args.dot
    (sym c.has_value.ensures ∙ c.if-not-has_value.false) in
    some_same c.in-Some.taken (Some there.0)
    (c.in-Some.ensures.value
    ∙ value_on c.self.inside.pages c.self.inside.runs c.args.self.now c.self.view_is c.args.dot
    there.0 there.1)
    ∙ ap value_of (sym there.1)

pub returns-clause-rest : goal.returns-clause-rest
returns-clause-rest g c =
    let there : (x : g.row.V.Denot) × (map.get c.args.self.now c.args.dot ≡ Some (Some x)) =
    value_there c.self.inside.pages c.self.inside.runs c.args.self.now c.self.view_is c.args.dot
    (sym c.has_value.ensures ∙ c.if-not-has_value.false) in
    taken_marked c.self.inside.pages c.self.inside.runs c.args.self.now c.self.view_is
    c.take.new.self c.args.dot c.take.ensures.rest
    (value_off c.self.inside.pages c.self.inside.runs c.args.self.now c.self.view_is c.args.dot
    there.0 there.1)
    ∙ ap (without_value c.args.self.now c.args.dot) (sym there.1)
