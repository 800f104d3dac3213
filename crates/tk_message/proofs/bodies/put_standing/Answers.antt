use Rattle.std.proofs.Common.{◌≡◌, [], ◌∷◌, ◌++◌, ap, ◌∙◌, codes, decimal, true, rules}
use Rattle.std.proofs.lemmas.Result.{on_ok_weaker}
use Rattle.json.specs.Token.{key, string, number, boolean}
use Rattle.tk_handle.specs.ClientId.{client_text}
use Rattle.tk_message.proofs.MemberLaws.{six_of}
use Rattle.tk_message.proofs.bodies.put_standing.Goals as goal

pub returns-clause-ok : goal.returns-clause-ok
returns-clause-ok c =
    let s = c.args.standing.now in
    let id : c.as_str.result.now ≡ client_text s.client = search rules in
    let expiry : c.seconds.result ≡ s.expiry = search rules in
    let start : c.seconds-2.result ≡ s.start = search rules in
    let scope : c.text.result.now ≡ s.scope = search rules in
    let subject : c.as_str-2.result.now ≡ s.subject = search rules in
    on_ok_weaker c.put_text-3.result
    (λ h. six_of c.args.out.now.tokens c.put_flag.new.out.tokens c.put_text.new.out.tokens
    c.put_number.new.out.tokens c.put_number-2.new.out.tokens c.put_text-2.new.out.tokens
    c.put_text-3.new.out.tokens
    (key (codes "active") ∷ boolean true ∷ [])
    (key (codes "client_id") ∷ string (client_text s.client) ∷ [])
    (key (codes "exp") ∷ number (decimal s.expiry) ∷ [])
    (key (codes "iat") ∷ number (decimal s.start) ∷ [])
    (key (codes "scope") ∷ string s.scope ∷ [])
    (key (codes "sub") ∷ string s.subject ∷ [])
    c.in_ok-put_flag.ensures.ok
    (c.in_ok-put_text.ensures.ok
    ∙ ap (λ x. c.put_flag.new.out.tokens ++ key (codes "client_id") ∷ string x ∷ []) id)
    (c.in_ok-put_number.ensures.ok
    ∙ ap (λ x. c.put_text.new.out.tokens ++ key (codes "exp") ∷ number (decimal x) ∷ []) expiry)
    (c.in_ok-put_number-2.ensures.ok
    ∙ ap (λ x. c.put_number.new.out.tokens ++ key (codes "iat") ∷ number (decimal x) ∷ []) start)
    (c.in_ok-put_text-2.ensures.ok
    ∙ ap (λ x. c.put_number-2.new.out.tokens ++ key (codes "scope") ∷ string x ∷ []) scope)
    (h ∙ ap (λ x. c.put_text-2.new.out.tokens ++ key (codes "sub") ∷ string x ∷ []) subject))
    c.put_text-3.ensures.ok
