use Rattle.std.proofs.Common.{[], ◌∷◌, ◌++◌, ap, ◌∙◌, codes, decimal, true}
use Rattle.json.specs.Token.{end_object, key, string, number, boolean}
use Rattle.serde_json.specs.Data as json
use Rattle.tk_handle.specs.ClientId.{client_text}
use Rattle.tk_message.proofs.bodies.refresh_body.Goals as goal

pub returns : goal.returns
returns c =
    let s = c.args.standing.now in
    let shared =
    key (codes "active") ∷ boolean true
    ∷ key (codes "client_id") ∷ string (client_text s.client)
    ∷ key (codes "exp") ∷ number (decimal s.expiry)
    ∷ key (codes "iat") ∷ number (decimal s.start)
    ∷ key (codes "scope") ∷ string s.scope
    ∷ key (codes "sub") ∷ string s.subject ∷ [] in
    c.end.ensures
    (json.member (codes "active") (json.boolean true)
    (json.member (codes "client_id") (json.string (client_text s.client))
    (json.member (codes "exp") (json.number (json.unsigned s.expiry))
    (json.member (codes "iat") (json.number (json.unsigned s.start))
    (json.member (codes "scope") (json.string s.scope)
    (json.member (codes "sub") (json.string s.subject) json.no_members))))))
    (c.in_ok-put_standing.ensures.before ∙ c.in_ok-out.ensures.before)
    (ap (λ tokens. tokens ++ end_object ∷ [])
    (c.in_ok-put_standing.ensures.ok ∙ ap (λ tokens. tokens ++ shared) c.in_ok-out.ensures.tokens))
