use Rattle.std.proofs.Common.{◌≡◌, ◌++◌, List, ℕ, Bool, Option, ap, ◌∙◌, rules}
use Rattle.std.proofs.lemmas.Result.{on_ok_weaker}
use Rattle.json.specs.Tree.{json_tokens}
use Rattle.serde_json.specs.Written.{outline}
use Rattle.tk_fact.specs.declared.client_kind.ClientKind.{ClientKind}
use Rattle.tk_fact.specs.declared.client_lives.ClientLives.{ClientLives}
use Rattle.tk_message.specs.Bodies.{shown_body}
use Rattle.tk_message.proofs.ShownLaws.{shown_of}
use Rattle.tk_message.proofs.client_page.put_client.Goals as goal

pub returns-clause-ok : goal.returns-clause-ok
returns-clause-ok c =
    let old = c.args.out.now.tokens in
    let d = c.args.client.now.0 in
    let fields = c.args.client.now.1 in
    let view = c.view.inside in
    let kind : c.view.inside.client_kind.now ≡ fields.client_kind = search rules in
    let lives : c.view.inside.lives ≡ fields.lives = search rules in
    let live : c.view.inside.live ≡ fields.live = search rules in
    let scope : c.view.inside.scope.now ≡ fields.scope = search rules in
    on_ok_weaker c.end_object.result
    (λ h. shown_of old _ c.put_shown.new.out.tokens _ d view.client_kind.now view.lives view.live
    view.scope.now
    c.in_ok-begin_object.ensures.ok c.in_ok-put_shown.ensures.ok h
    ∙ ap (λ (k : ClientKind).
    old ++ json_tokens (outline (shown_body d k view.lives view.live view.scope.now))) kind
    ∙ ap (λ (l : Option ClientLives).
    old ++ json_tokens (outline (shown_body d fields.client_kind l view.live view.scope.now))) lives
    ∙ ap (λ (b : Bool).
    old ++ json_tokens (outline (shown_body d fields.client_kind fields.lives b view.scope.now)))
    live
    ∙ ap (λ (s : List ℕ).
    old ++ json_tokens (outline (shown_body d fields.client_kind fields.lives fields.live s)))
    scope)
    c.end_object.ensures.ok
