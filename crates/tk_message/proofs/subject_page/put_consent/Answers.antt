use Rattle.std.proofs.Common.{◌≡◌, [], ◌∷◌, ◌++◌, ap, ◌∙◌, codes, rules}
use Rattle.std.proofs.lemmas.Result.{on_ok_weaker}
use Rattle.json.specs.Token.{begin_object, end_object, key, string}
use Rattle.tk_handle.specs.ClientId.{client_text}
use Rattle.tk_handle.specs.ConsentId.{consent_text}
use Rattle.tk_message.proofs.MemberLaws.{five_of}
use Rattle.tk_message.proofs.subject_page.put_consent.Goals as goal

pub returns-clause-ok : goal.returns-clause-ok
returns-clause-ok c =
    let dot = c.args.consent.now.0 in
    let fields = c.args.consent.now.1 in
    let client : c.as_str.result.now ≡ client_text fields.client = search rules in
    let id : c.as_str-2.result.now ≡ consent_text dot = search rules in
    let scope : c.text.result.now ≡ fields.scope = search rules in
    let t1 = c.begin_object.new.self.tokens in
    let t2 = c.put_text.new.out.tokens in
    let t3 = c.put_text-2.new.out.tokens in
    on_ok_weaker c.end_object.result
    (λ h. five_of c.args.out.now.tokens t1 t2 t3 c.put_text-3.new.out.tokens _
    (begin_object ∷ [])
    (key (codes "client_id") ∷ string (client_text fields.client) ∷ [])
    (key (codes "consent_id") ∷ string (consent_text dot) ∷ [])
    (key (codes "scope") ∷ string fields.scope ∷ [])
    (end_object ∷ [])
    c.in_ok-begin_object.ensures.ok
    (c.in_ok-put_text.ensures.ok ∙ ap (λ x. t1 ++ key (codes "client_id") ∷ string x ∷ []) client)
    (c.in_ok-put_text-2.ensures.ok ∙ ap (λ x. t2 ++ key (codes "consent_id") ∷ string x ∷ []) id)
    (c.in_ok-put_text-3.ensures.ok ∙ ap (λ x. t3 ++ key (codes "scope") ∷ string x ∷ []) scope)
    h)
    c.end_object.ensures.ok
