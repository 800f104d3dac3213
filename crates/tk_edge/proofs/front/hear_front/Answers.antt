use Rattle.std.proofs.Common.{◌≡◌, ◌<◌, ◌≤◌, [], length, rules, subst, sym}
use Rattle.tk_edge.specs.Fronts.{IsFront}
use Rattle.tk_edge.specs.Heads.{field_limit, head_limit}
use Rattle.tk_edge.proofs.FrontLaws.{error_none, front_heard, headless_comes, long_none, none_of}
use Rattle.tk_edge.proofs.front.hear_front.Goals as goal

pub returns-then-is_empty : goal.returns-then-is_empty
returns-then-is_empty c =
    let empty : length c.args.bytes.now ≡ 0 = search rules in
    let none : c.args.bytes.now ≡ [] = none_of c.args.bytes.now empty in
    subst (λ x. IsFront c.args.reach x c.args.is_over c.nothing_front.result) (sym none)
    (c.nothing_front.ensures c.args.reach)

pub returns-then-spans-gt-MAX_HEAD : goal.returns-then-spans-gt-MAX_HEAD
returns-then-spans-gt-MAX_HEAD c =
    let some : 0 < length c.args.bytes.now = search rules in
    let long : head_limit < c.in-Ok-Complete.spans.len = search rules in
    let facts = rw c.in-Ok-Complete.field-0-is at c.in-Ok-Complete.ensures in
    rw (c.headless_front.ensures) (headless_comes c.args.reach c.args.bytes.now c.args.is_over
    some (λ tail follows. long_none c.args.bytes.now tail c.parse_request.new.headers
    c.in-Ok-Complete.spans facts.complete.0 facts.complete.1 long))

pub returns-else-spans-gt-MAX_HEAD : goal.returns-else-spans-gt-MAX_HEAD
returns-else-spans-gt-MAX_HEAD c =
    let fits : c.in-Ok-Complete.spans.len ≤ head_limit = search rules in
    let full : length c.parse_request.new.headers ≡ field_limit = search rules in
    let facts = rw c.in-Ok-Complete.field-0-is at c.in-Ok-Complete.ensures in
    front_heard c.args.reach c.args.bytes.now c.args.is_over c.parse_request.new.headers
    c.in-Ok-Complete.spans facts.complete.0 c.head_front.result facts.within facts.complete.1 fits
    full
    (c.head_front.ensures.came facts.complete.0 facts.complete.1) c.head_front.ensures.within
    (c.head_front.ensures.takes facts.complete.0 facts.complete.1) c.head_front.ensures.fewer
    c.head_front.ensures.may (c.head_front.ensures.names facts.complete.0 facts.complete.1)

pub returns-in-Ok-Partial : goal.returns-in-Ok-Partial
returns-in-Ok-Partial c = c.partial_front.ensures c.args.reach

pub returns-in-Err : goal.returns-in-Err
returns-in-Err c =
    let some : 0 < length c.args.bytes.now = search rules in
    rw (c.headless_front-in-Err.ensures)
    (headless_comes c.args.reach c.args.bytes.now c.args.is_over
    some (λ tail follows. error_none c.args.bytes.now tail c.in-Err.ensures.no_room))
