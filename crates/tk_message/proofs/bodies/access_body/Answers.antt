use Rattle.std.proofs.Common.{[], ◌∷◌, ◌++◌, ap, ◌∙◌, codes, decimal, true}
use Rattle.json.specs.Token.{begin_object, end_object, key, string, number, boolean}
use Rattle.serde_json.specs.Data as json
use Rattle.tk_handle.specs.ClientId.{client_text}
use Rattle.tk_message.proofs.MemberLaws.{two_of}
use Rattle.tk_message.proofs.bodies.access_body.Goals as goal

pub returns : goal.returns
returns c =
    let s = c.args.standing.now in
    let shared =
    key (codes "active") ∷ boolean true
    ∷ key (codes "client_id") ∷ string (client_text s.client)
    ∷ key (codes "exp") ∷ number (decimal s.expiry)
    ∷ key (codes "iat") ∷ number (decimal s.start)
    ∷ key (codes "scope") ∷ string s.scope
    ∷ key (codes "sub") ∷ string s.subject ∷ [] in
    let last = key (codes "token_type") ∷ string (codes "Bearer") ∷ [] in
    let all =
    two_of (begin_object ∷ []) c.put_standing.new.out.tokens c.put_text.new.out.tokens shared last
    (c.in_ok-put_standing.ensures.ok ∙ ap (λ tokens. tokens ++ shared) c.in_ok-out.ensures.tokens)
    c.in_ok-put_text.ensures.ok in
    c.end.ensures
    (json.member (codes "active") (json.boolean true)
    (json.member (codes "client_id") (json.string (client_text s.client))
    (json.member (codes "exp") (json.number (json.unsigned s.expiry))
    (json.member (codes "iat") (json.number (json.unsigned s.start))
    (json.member (codes "scope") (json.string s.scope)
    (json.member (codes "sub") (json.string s.subject)
    (json.member (codes "token_type") (json.string (codes "Bearer")) json.no_members)))))))
    (c.in_ok-put_text.ensures.before ∙ c.in_ok-put_standing.ensures.before
    ∙ c.in_ok-out.ensures.before)
    (ap (λ tokens. tokens ++ end_object ∷ []) all)
