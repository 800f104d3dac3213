use Rattle.std.proofs.Common.{◌≡◌, ◌≤◌, ◌++◌, ◌∷◌, [], cond, Some, Option, List, Vec, Global, sym}
use Rattle.std.proofs.Common.{◌∙◌, ap, subst, arith, length, vec_capacity}
use Rattle.tk_handle.specs.declared.dot.Dot.{Dot}
use Rattle.tk_family.specs.declared.children.Child.{Child}
use Rattle.tk_family.specs.Children.{users_in, token_at}
use Rattle.tk_family.specs.Puts.{fits_at}
use Rattle.tk_family.specs.Rows.{table, links_of, firsts_of, grant_kind}
use Rattle.tk_family.specs.Takes.{IsShort}
use Rattle.tk_family.proofs.ChildLaws.{dots_of, span_is}
use Rattle.tk_family.proofs.Hanging.{Pushing, listed, Pushing-from, Pushing-first, Pushing-turns}
use Rattle.tk_family.proofs.Hanging.{Pushing-ends, Pushing-short}
use Rattle.tk_family.proofs.gather.push_children.Goals as goal
use Rattle.tk_family.proofs.gather.push_children.Goals.{in-Some+in_ok-push_fitting, in_default}
use Rattle.tk_handle.proofs.TestLaws.{always_err as on_err}

pub loop-child-init : goal.loop-child-init
loop-child-init c =
    let f = links_of (table c.args.rows.now) in
    let old : List Dot = c.args.list.now.items in
    let token = token_at c.args.dot c.grant_kind-kind.result in
    let span : c.range-users.result
    ≡ users_in c.args.others.now (token_at c.args.dot (grant_kind c.args.above.now)) =
    c.range-users.ensures.between tt
    ∙ (span_is c.args.others.now token c.span-least.result.0 c.span-least.result.1
    c.span-least.ensures.first c.span-least.ensures.last
    ∙ ap (λ k. users_in c.args.others.now (token_at c.args.dot k)) c.grant_kind-kind.ensures) in
    let iterated : c.into_iter-child-iterator.result
    ≡ users_in c.args.others.now (token_at c.args.dot (grant_kind c.args.above.now)) =
    c.into_iter-child-iterator.ensures.into_iter_gives ∙ span in
    let start : Pushing f c.args.dot c.args.above.now
    (listed c.first_at.result ++ dots_of c.into_iter-child-iterator.result) old old =
    Pushing-from f (firsts_of (table c.args.rows.now)) c.args.others.now c.args.dot c.args.above.now
    c.first_at.result c.into_iter-child-iterator.result old c.requires c.range-users.ensures.ordered
    (sym c.first_at.ensures) iterated in
    record {
      pushing = elim c.match-first_at.branch [
        | in-Some+in_ok-push_fitting w ↦ Pushing-first f c.args.dot c.args.above.now
            c.first_at.result w.in-Some.first (dots_of c.into_iter-child-iterator.result) old
            c.match-first_at.list.items w.in-Some.is start
            (ap (λ (v : Vec Dot Global). v.items) w.list-is ∙ w.in_ok-push_fitting.ensures.ok)
        | in_default w ↦ subst (λ (now : List Dot).
            Pushing f c.args.dot c.args.above.now (dots_of c.into_iter-child-iterator.result) old
            now) (sym (ap (λ (v : Vec Dot Global). v.items) w.list-is))
            (subst (λ (o : Option Dot).
            Pushing f c.args.dot c.args.above.now
            (listed o ++ dots_of c.into_iter-child-iterator.result) old old) w.in_default.is start)
      ];
      capacity = elim c.match-first_at.branch [
        | in-Some+in_ok-push_fitting w ↦ rw w.list-is w.in_ok-push_fitting.ensures.capacity
        | in_default w ↦ rw w.list-is (omega arith)
      ];
    }

pub loop-child-preserved : goal.loop-child-preserved
loop-child-preserved c =
    let f = links_of (table c.args.rows.now) in
    let now : Pushing f c.args.dot c.args.above.now
    (c.in-Some-child.child.now.child ∷ dots_of c.next.new.self) c.args.list.now.items
    c.loop-child.list.items =
    subst (λ (cs : List Child).
    Pushing f c.args.dot c.args.above.now (dots_of cs) c.args.list.now.items
    c.loop-child.list.items) c.in-Some-child.ensures.steps c.loop-child.invariant.pushing in
    record {
      pushing = Pushing-turns f c.args.dot c.args.above.now c.in-Some-child.child.now.child
          (dots_of c.next.new.self) c.args.list.now.items c.loop-child.list.items
          c.push_fitting-in-loop-child.new.list.items now
          (c.in_ok-push_fitting-2.ensures.ok
          ∙ ap (λ (e : Dot).
          cond (fits_at (f e) c.args.above.now) (c.loop-child.list.items ++ e ∷ [])
          c.loop-child.list.items) c.dot.ensures);
      capacity =
          omega (arith, c.loop-child.invariant.capacity, c.in_ok-push_fitting-2.ensures.capacity);
    }

pub returns-in_err-push_fitting-clause-full : goal.returns-in_err-push_fitting-clause-full
returns-in_err-push_fitting-clause-full c =
    let f = links_of (table c.args.rows.now) in
    let old : List Dot = c.args.list.now.items in
    let token = token_at c.args.dot c.grant_kind-kind.result in
    let span : c.range-users.result
    ≡ users_in c.args.others.now (token_at c.args.dot (grant_kind c.args.above.now)) =
    c.range-users.ensures.between tt
    ∙ (span_is c.args.others.now token c.span-least.result.0 c.span-least.result.1
    c.span-least.ensures.first c.span-least.ensures.last
    ∙ ap (λ k. users_in c.args.others.now (token_at c.args.dot k)) c.grant_kind-kind.ensures) in
    let start : Pushing f c.args.dot c.args.above.now
    (listed (Some c.in-Some.first) ++ dots_of c.range-users.result) old old =
    Pushing-from f (firsts_of (table c.args.rows.now)) c.args.others.now c.args.dot c.args.above.now
    (Some c.in-Some.first) c.range-users.result old c.requires c.range-users.ensures.ordered
    (sym c.first_at.ensures ∙ c.in-Some.is) span in
    on_err (IsShort f c.args.dot c.args.above.now old (vec_capacity c.args.list.now))
    c.from_residual.result
    (Pushing-short f c.args.dot c.args.above.now c.in-Some.first (dots_of c.range-users.result) old
    old (vec_capacity c.args.list.now) start c.in_err-push_fitting.ensures.full.0
    c.in_err-push_fitting.ensures.full.1)

pub returns-in_err-push_fitting-2-clause-full : goal.returns-in_err-push_fitting-2-clause-full
returns-in_err-push_fitting-2-clause-full c =
    let f = links_of (table c.args.rows.now) in
    let e : Dot = c.in-Some-child.child.now.child in
    let now : Pushing f c.args.dot c.args.above.now (e ∷ dots_of c.next.new.self)
    c.args.list.now.items c.loop-child.list.items =
    subst (λ (cs : List Child).
    Pushing f c.args.dot c.args.above.now (dots_of cs) c.args.list.now.items
    c.loop-child.list.items) c.in-Some-child.ensures.steps c.loop-child.invariant.pushing in
    let room : vec_capacity c.args.list.now ≤ length c.loop-child.list.items =
    omega (arith, c.loop-child.invariant.capacity, c.in_err-push_fitting-2.ensures.full.1) in
    on_err (IsShort f c.args.dot c.args.above.now c.args.list.now.items
    (vec_capacity c.args.list.now)) c.from_residual-in_err-push_fitting-2.result
    (Pushing-short f c.args.dot c.args.above.now e (dots_of c.next.new.self) c.args.list.now.items
    c.loop-child.list.items (vec_capacity c.args.list.now) now
    (ap (λ (x : Dot). fits_at (f x) c.args.above.now) (sym c.dot.ensures)
    ∙ c.in_err-push_fitting-2.ensures.full.0) room)

pub returns-clause-ok : goal.returns-clause-ok
returns-clause-ok c = Pushing-ends (links_of (table c.args.rows.now)) c.args.dot c.args.above.now
    c.args.list.now.items c.loop-child.list.items
    (subst (λ (cs : List Child).
    Pushing (links_of (table c.args.rows.now)) c.args.dot c.args.above.now
    (dots_of cs) c.args.list.now.items c.loop-child.list.items) c.in-None.ensures.steps.0
    c.loop-child.invariant.pushing)
