use Rattle.std.specs.FinMap as map
use Rattle.std.proofs.Common.{◌≡◌, ◌++◌, ◌∷◌, ◌<◌, ◌≤◌, [], List, sym, ◌∙◌, ap, arith, length}
use Rattle.std.proofs.Common.{append-nil, Vec, Global, vec_capacity}
use Rattle.tk_handle.specs.declared.dot.Dot.{Dot}
use Rattle.tk_family.specs.Rows.{table, links_of}
use Rattle.tk_family.specs.Puts.{with_link, Pushes}
use Rattle.tk_family.proofs.Gathering.{Gathering-starts, Gathering-turns, Gathering-ends}
use Rattle.tk_family.proofs.Gathering.{Gathering-short, AreChildren-from, AreChildren-none}
use Rattle.tk_family.proofs.gather.gather_into.Goals as goal
use Rattle.tk_family.proofs.gather.gather_into.Goals.{in-Some+in_ok-push_children, in_default}
use Rattle.tk_handle.proofs.TestLaws.{always_err as on_err}

pub loop-i-init : goal.loop-i-init
loop-i-init c =
    let one : c.push.new.self.items ≡ c.args.dot ∷ [] =
    c.in_ok-push.ensures.items ∙ ap (λ (xs : List Dot). xs ++ c.args.dot ∷ []) c.requires.empty in
    record {
      gathering = rw one
          (Gathering-starts c.args.rows.now c.args.dot c.args.link.now c.requires.row);
      capacity =
          c.in_ok-push.ensures.capacity;
    }

pub loop-i-smaller : goal.loop-i-smaller
loop-i-smaller c =
    let room : length c.loop-i.list.items ≤ map.len c.args.rows.now =
    c.loop-i.invariant.gathering.room in
    omega arith

pub loop-i-preserved : goal.loop-i-preserved
loop-i-preserved c =
    let ys : List Dot = c.loop-i.list.items in
    let below : c.loop-i.i < length ys = omega arith in
    record {
      gathering = elim c.match-link_with.branch [
        | in-Some+in_ok-push_children w ↦
            let pushed : Pushes (links_of (table c.args.rows.now)) c.index-at.result.now
            w.in-Some.above ys w.push_children.new.list.items = w.in_ok-push_children.ensures.ok in
            Gathering-turns c.args.rows.now c.args.dot c.args.link.now ys pushed.children
            c.match-link_with.list.items c.loop-i.i c.index-at.result.now c.requires.row below
            c.index-at.ensures
            (ap (λ (v : Vec Dot Global). v.items) w.list-is ∙ pushed.after)
            (AreChildren-from (links_of (table c.args.rows.now)) c.args.dot c.args.link.now
            c.index-at.result.now w.in-Some.above pushed.children c.requires.other
            (sym c.link_with.ensures ∙ w.in-Some.is) pushed.fit)
            c.loop-i.invariant.gathering
        | in_default w ↦
            Gathering-turns c.args.rows.now c.args.dot c.args.link.now ys []
            c.match-link_with.list.items c.loop-i.i c.index-at.result.now c.requires.row below
            c.index-at.ensures
            (ap (λ (v : Vec Dot Global). v.items) w.list-is ∙ sym (append-nil ys))
            (AreChildren-none
            (with_link (links_of (table c.args.rows.now)) c.args.dot c.args.link.now) c.args.dot
            c.index-at.result.now (sym c.link_with.ensures ∙ w.in_default.is))
            c.loop-i.invariant.gathering
      ];
      capacity = elim c.match-link_with.branch [
        | in-Some+in_ok-push_children w ↦ rw w.list-is
            (omega (arith, c.loop-i.invariant.capacity, w.push_children.ensures.capacity))
        | in_default w ↦ rw w.list-is c.loop-i.invariant.capacity
      ];
    }

pub returns-in_err-push-clause-full : goal.returns-in_err-push-clause-full
returns-in_err-push-clause-full c =
    let one : length (c.args.dot ∷ []) ≤ map.len c.args.rows.now =
    (Gathering-starts c.args.rows.now c.args.dot c.args.link.now c.requires.row).room in
    let none : length c.args.list.now.items ≡ 0 = ap length c.requires.empty in
    on_err (vec_capacity c.args.list.now < map.len c.args.rows.now) c.from_residual.result
    (omega (arith, one, none, c.in_err-push.ensures.full, c.args.list.now.ok.0))

pub returns-in_err-push_children-clause-full : goal.returns-in_err-push_children-clause-full
returns-in_err-push_children-clause-full c =
    let below : c.loop-i.i < length c.loop-i.list.items = omega arith in
    let short : vec_capacity c.loop-i.list < map.len c.args.rows.now =
    Gathering-short c.args.rows.now c.args.dot c.args.link.now c.loop-i.list.items c.loop-i.i
    (vec_capacity c.loop-i.list) c.index-at.result.now c.in-Some.above c.requires.row below
    c.index-at.ensures c.requires.other
    (sym c.link_with.ensures ∙ c.in-Some.is) c.in_err-push_children.ensures.full
    c.loop-i.invariant.gathering in
    on_err (vec_capacity c.args.list.now < map.len c.args.rows.now)
    c.from_residual-in_err-push_children.result (omega (arith, short, c.loop-i.invariant.capacity))

pub returns-clause-ok : goal.returns-clause-ok
returns-clause-ok c = Gathering-ends c.args.rows.now c.args.dot c.args.link.now c.loop-i.list.items
    c.loop-i.i (omega arith) c.loop-i.invariant.gathering
