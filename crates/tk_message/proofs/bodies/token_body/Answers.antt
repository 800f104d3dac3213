use Rattle.std.proofs.Common.{◌≡◌, [], ◌∷◌, ◌++◌, ap, ◌∙◌, codes, decimal, rules}
use Rattle.json.specs.Token.{begin_object, end_object, key, string, number}
use Rattle.serde_json.specs.Data as json
use Rattle.tk_handle.specs.Handle.{handle_text}
use Rattle.tk_message.proofs.MemberLaws.{five_of}
use Rattle.tk_message.proofs.bodies.token_body.Goals as goal

pub returns : goal.returns
returns c =
    let scope : c.text-scope.result.now ≡ c.args.scope.now = search rules in
    let first = key (codes "access_token") ∷ string (handle_text c.args.access.now) ∷ [] in
    let all = five_of (begin_object ∷ []) c.put_handle.new.out.tokens c.put_number.new.out.tokens
    c.put_handle-2.new.out.tokens c.put_text.new.out.tokens c.put_text-2.new.out.tokens
    first
    (key (codes "expires_in") ∷ number (decimal c.args.lifetime) ∷ [])
    (key (codes "refresh_token") ∷ string (handle_text c.args.refresh.now) ∷ [])
    (key (codes "scope") ∷ string c.args.scope.now ∷ [])
    (key (codes "token_type") ∷ string (codes "Bearer") ∷ [])
    (c.in_ok-put_handle.ensures.ok ∙ ap (λ tokens. tokens ++ first) c.in_ok-out.ensures.tokens)
    c.in_ok-put_number.ensures.ok
    c.in_ok-put_handle-2.ensures.ok
    (c.in_ok-put_text.ensures.ok
    ∙ ap (λ x. c.put_handle-2.new.out.tokens ++ key (codes "scope") ∷ string x ∷ []) scope)
    c.in_ok-put_text-2.ensures.ok in
    c.end.ensures
    (json.member (codes "access_token") (json.string (handle_text c.args.access.now))
    (json.member (codes "expires_in") (json.number (json.unsigned c.args.lifetime))
    (json.member (codes "refresh_token") (json.string (handle_text c.args.refresh.now))
    (json.member (codes "scope") (json.string c.args.scope.now)
    (json.member (codes "token_type") (json.string (codes "Bearer")) json.no_members)))))
    (c.in_ok-put_text-2.ensures.before ∙ c.in_ok-put_text.ensures.before
    ∙ c.in_ok-put_handle-2.ensures.before ∙ c.in_ok-put_number.ensures.before
    ∙ c.in_ok-put_handle.ensures.before ∙ c.in_ok-out.ensures.before)
    (ap (λ tokens. tokens ++ end_object ∷ []) all)
