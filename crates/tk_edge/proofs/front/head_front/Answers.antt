use Rattle.std.proofs.Common.{◌+◌, ◌++◌, ◌≤◌, length, map, drop, subst, sym, ◌∙◌, add-zero, arith}
use Rattle.std.proofs.Common.{ℕ, List, IfOk, ap, refl, rules}
use Rattle.std.proofs.lemmas.List.{take_rest}
use Rattle.httparse.specs.Spans.{name_and_value}
use Rattle.tk_edge.specs.Bounds.{body_limit, request_limit}
use Rattle.tk_edge.specs.Fronts.{IsOneRequest, NamesIn}
use Rattle.tk_edge.specs.HeadFields.{AreFields}
use Rattle.tk_edge.specs.Heard.{request_at}
use Rattle.tk_edge.specs.Judged.{MayAsk}
use Rattle.tk_edge.specs.declared.hear.Arrival.TheVariants.{Request}
use Rattle.tk_edge.specs.declared.judge.Judged.TheVariants.{Body, Notice, Query, Refused, Vector}
use Rattle.tk_edge.proofs.BoundLaws.{size_within}
use Rattle.tk_edge.proofs.FrontLaws.{fewer_within, request_takes, rest_is_all, same_front, size_at}
use Rattle.tk_edge.proofs.FrontLaws.{named_at, names_come, query_whole, stays_at}
use Rattle.tk_edge.proofs.StreamLaws.{judged_same, judged_may}
use Rattle.tk_edge.proofs.front.head_front.Goals as goal

pub returns-in-Refused-clause-came : goal.returns-in-Refused-clause-came
returns-in-Refused-clause-came c = λ h at.
    let pairs = map name_and_value h.fields in
    let are : AreFields c.fields_of-fields.result pairs =
    rw at.fields at c.fields_of-fields.ensures in
    rw (c.refused_front.ensures) (λ tail follows.
    judged_same c.args.reach h (drop c.args.spans.len c.args.bytes.now ++ tail)
    c.of-method.result.now c.of-target.result.now (Refused c.in-Refused.why)
    (c.of-method.ensures ∙ at.method) (c.of-target.ensures ∙ at.path)
    (sym c.in-Refused.is ∙ c.judge-judged.ensures _ are))

pub returns-in-Query-clause-came : goal.returns-in-Query-clause-came
returns-in-Query-clause-came c = λ h at.
    let pairs = map name_and_value h.fields in
    let are : AreFields c.fields_of-fields.result pairs =
    rw at.fields at c.fields_of-fields.ensures in
    rw (c.whole_front.ensures)
    (query_whole c.args.is_over _ _ _ c.asked.result (λ tail.
    ap (λ (query : List ℕ). Request (request_at c.in-Query.endpoint query pairs))
    c.split_target-in-Query.ensures.query
    ∙ judged_same c.args.reach h (drop c.args.spans.len c.args.bytes.now ++ tail)
    c.of-method.result.now c.of-target.result.now (Query c.in-Query.endpoint)
    (c.of-method.ensures ∙ at.method) (c.of-target.ensures ∙ at.path)
    (sym c.in-Query.is ∙ c.judge-judged.ensures _ are))
    (c.asked.ensures.came pairs are))

pub returns-in-Vector-clause-came : goal.returns-in-Vector-clause-came
returns-in-Vector-clause-came c = λ h at tail follows.
    let pairs = map name_and_value h.fields in
    let are : AreFields c.fields_of-fields.result pairs =
    rw at.fields at c.fields_of-fields.ensures in
    judged_same c.args.reach h (drop c.args.spans.len c.args.bytes.now ++ tail)
    c.of-method.result.now c.of-target.result.now Vector
    (c.of-method.ensures ∙ at.method) (c.of-target.ensures ∙ at.path)
    (sym c.in-Vector.is ∙ c.judge-judged.ensures _ are)

pub returns-in-Notice-clause-came : goal.returns-in-Notice-clause-came
returns-in-Notice-clause-came c = λ h at tail follows.
    let pairs = map name_and_value h.fields in
    let are : AreFields c.fields_of-fields.result pairs =
    rw at.fields at c.fields_of-fields.ensures in
    judged_same c.args.reach h (drop c.args.spans.len c.args.bytes.now ++ tail)
    c.of-method.result.now c.of-target.result.now (Notice c.in-Notice.notice)
    (c.of-method.ensures ∙ at.method) (c.of-target.ensures ∙ at.path)
    (sym c.in-Notice.is ∙ c.judge-judged.ensures _ are)

pub returns-in-Query-clause-takes : goal.returns-in-Query-clause-takes
returns-in-Query-clause-takes c = λ h at.
    let pairs = map name_and_value h.fields in
    let are : AreFields c.fields_of-fields.result pairs =
    rw at.fields at c.fields_of-fields.ensures in
    let size = size_at c.args.reach h c.args.spans.len c.of-method.result.now c.of-target.result.now
    (Query c.in-Query.endpoint) at.len (c.of-method.ensures ∙ at.method)
    (c.of-target.ensures ∙ at.path) (sym c.in-Query.is ∙ c.judge-judged.ensures _ are) in
    let stays = stays_at c.args.reach h c.args.spans.version c.of-method.result.now
    c.of-target.result.now pairs c.judge-judged.result c.stays_by.result at.version
    (c.of-method.ensures ∙ at.method) (c.of-target.ensures ∙ at.path) refl
    (c.judge-judged.ensures pairs are) (c.stays_by.ensures pairs are) in
    let one : IsOneRequest c.args.reach c.args.bytes.now
    (record {
      size = c.args.spans.len;
      stays = c.stays_by.result;
      path = c.path_named-path.result;
    }) = (
      h,
      drop c.args.spans.len c.args.bytes.now,
      at.reads,
      sym (add-zero c.args.spans.len) ∙ size,
      stays,
    ) in
    rw (c.whole_front.ensures)
    (request_takes c.args.reach c.args.bytes.now _ _ c.asked.result one
    (c.asked.ensures.came pairs are))

pub returns-in-Vector-clause-takes : goal.returns-in-Vector-clause-takes
returns-in-Vector-clause-takes c = λ h at.
    let pairs = map name_and_value h.fields in
    let are : AreFields c.fields_of-fields.result pairs =
    rw at.fields at c.fields_of-fields.ensures in
    let size = size_at c.args.reach h c.args.spans.len c.of-method.result.now c.of-target.result.now
    Vector at.len (c.of-method.ensures ∙ at.method) (c.of-target.ensures ∙ at.path)
    (sym c.in-Vector.is ∙ c.judge-judged.ensures _ are) in
    let stays = stays_at c.args.reach h c.args.spans.version c.of-method.result.now
    c.of-target.result.now pairs c.judge-judged.result c.stays_by.result at.version
    (c.of-method.ensures ∙ at.method) (c.of-target.ensures ∙ at.path) refl
    (c.judge-judged.ensures pairs are) (c.stays_by.ensures pairs are) in (
      h,
      drop c.args.spans.len c.args.bytes.now,
      at.reads,
      sym (add-zero c.args.spans.len) ∙ size,
      stays,
    )

pub returns-in-Vector-clause-may : goal.returns-in-Vector-clause-may
returns-in-Vector-clause-may c =
    subst (MayAsk c.args.reach) c.in-Vector.is (judged_may c.args.reach c.of-method.result.now
    c.of-target.result.now _ _ _ c.fields_of-fields.ensures c.judge-judged.ensures)

pub returns-in-Notice-clause-takes : goal.returns-in-Notice-clause-takes
returns-in-Notice-clause-takes c = λ h at.
    let pairs = map name_and_value h.fields in
    let are : AreFields c.fields_of-fields.result pairs =
    rw at.fields at c.fields_of-fields.ensures in
    let size = size_at c.args.reach h c.args.spans.len c.of-method.result.now c.of-target.result.now
    (Notice c.in-Notice.notice) at.len (c.of-method.ensures ∙ at.method)
    (c.of-target.ensures ∙ at.path)
    (sym c.in-Notice.is ∙ c.judge-judged.ensures _ are) in
    let stays = stays_at c.args.reach h c.args.spans.version c.of-method.result.now
    c.of-target.result.now pairs c.judge-judged.result c.stays_by.result at.version
    (c.of-method.ensures ∙ at.method) (c.of-target.ensures ∙ at.path) refl
    (c.judge-judged.ensures pairs are) (c.stays_by.ensures pairs are) in (
      h,
      drop c.args.spans.len c.args.bytes.now,
      at.reads,
      sym (add-zero c.args.spans.len) ∙ size,
      stays,
    )

pub returns-in-Notice-clause-may : goal.returns-in-Notice-clause-may
returns-in-Notice-clause-may c =
    subst (MayAsk c.args.reach) c.in-Notice.is (judged_may c.args.reach c.of-method.result.now
    c.of-target.result.now _ _ _ c.fields_of-fields.ensures c.judge-judged.ensures)

pub returns-in-Body-clause-came : goal.returns-in-Body-clause-came
returns-in-Body-clause-came c = λ h at.
    let pairs = map name_and_value h.fields in
    let are : AreFields c.fields_of-fields.result pairs =
    rw at.fields at c.fields_of-fields.ensures in
    same_front c.args.is_over _ _ c.body_front.result
    (λ tail. judged_same c.args.reach h (drop c.args.spans.len c.args.bytes.now ++ tail)
    c.of-method.result.now c.of-target.result.now (Body c.in-Body.posted c.in-Body.size)
    (c.of-method.ensures ∙ at.method) (c.of-target.ensures ∙ at.path)
    (sym c.in-Body.is ∙ c.judge-judged.ensures _ are))
    (rw (take_rest c.args.bytes.now c.args.spans.len) at
    c.body_front.ensures.came c.of-target.result.now pairs are)

pub returns-in-Body-clause-takes : goal.returns-in-Body-clause-takes
returns-in-Body-clause-takes c = λ h at.
    let pairs = map name_and_value h.fields in
    let are : AreFields c.fields_of-fields.result pairs =
    rw at.fields at c.fields_of-fields.ensures in
    let size = size_at c.args.reach h c.args.spans.len c.of-method.result.now c.of-target.result.now
    (Body c.in-Body.posted c.in-Body.size) at.len (c.of-method.ensures ∙ at.method)
    (c.of-target.ensures ∙ at.path) (sym c.in-Body.is ∙ c.judge-judged.ensures _ are) in
    let stays = stays_at c.args.reach h c.args.spans.version c.of-method.result.now
    c.of-target.result.now pairs c.judge-judged.result c.stays_by.result at.version
    (c.of-method.ensures ∙ at.method) (c.of-target.ensures ∙ at.path) refl
    (c.judge-judged.ensures pairs are) (c.stays_by.ensures pairs are) in
    let one : IsOneRequest c.args.reach c.args.bytes.now
    (record {
      size = c.args.spans.len + c.in-Body.size;
      stays = c.stays_by.result;
      path = c.path_named-path.result;
    }) =
    (h, drop c.args.spans.len c.args.bytes.now, at.reads, size, stays) in
    let fits : c.args.spans.len ≤ length c.args.bytes.now = search rules in
    c.body_front.ensures.takes c.args.reach c.args.bytes.now pairs are
    (rest_is_all c.args.bytes.now c.args.spans.len fits) one

pub returns-in-Body-clause-fewer : goal.returns-in-Body-clause-fewer
returns-in-Body-clause-fewer c =
    let may = judged_may c.args.reach c.of-method.result.now c.of-target.result.now _ _ _
    c.fields_of-fields.ensures c.judge-judged.ensures in
    let fits = subst (MayAsk c.args.reach) c.in-Body.is may in
    let small : c.in-Body.size ≤ body_limit c.args.reach.paths =
    size_within c.args.reach c.in-Body.posted c.in-Body.size fits.0 fits.1 in
    let most : c.args.spans.len + c.in-Body.size ≤ request_limit c.args.reach =
    omega (arith, small, c.requires.short) in
    let fits : c.args.spans.len ≤ length c.args.bytes.now = search rules in
    fewer_within _ _ _ _ c.body_front.result
    (sym (rest_is_all c.args.bytes.now c.args.spans.len fits))
    most c.body_front.ensures.fewer

pub returns-in-Body-clause-may : goal.returns-in-Body-clause-may
returns-in-Body-clause-may c =
    let may = judged_may c.args.reach c.of-method.result.now c.of-target.result.now _ _ _
    c.fields_of-fields.ensures c.judge-judged.ensures in
    c.body_front.ensures.may c.args.reach (subst (MayAsk c.args.reach) c.in-Body.is may).0

pub returns-in-Refused-clause-names : goal.returns-in-Refused-clause-names
returns-in-Refused-clause-names c = λ h at.
    rw (c.refused_front.ensures)
    (named_at c.args.reach h c.of-target.result.now c.split_target.result.0.now
    c.path_named-path.result (c.of-target.ensures ∙ at.path) c.split_target.ensures.path
    c.path_named-path.ensures)

pub returns-in-Query-clause-names : goal.returns-in-Query-clause-names
returns-in-Query-clause-names c = λ h at.
    rw (c.whole_front.ensures)
    (names_come _ c.asked.result _
    (named_at c.args.reach h c.of-target.result.now c.split_target.result.0.now
    c.path_named-path.result (c.of-target.ensures ∙ at.path) c.split_target.ensures.path
    c.path_named-path.ensures))

pub returns-in-Body-clause-names : goal.returns-in-Body-clause-names
returns-in-Body-clause-names c = λ h at.
    subst (λ p. IfOk c.body_front.result (NamesIn p))
    (named_at c.args.reach h c.of-target.result.now c.split_target.result.0.now
    c.path_named-path.result (c.of-target.ensures ∙ at.path) c.split_target.ensures.path
    c.path_named-path.ensures)
    c.body_front.ensures.names
