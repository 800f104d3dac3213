use Rattle.std.proofs.Common.{◌≡◌, [], ◌∷◌, ◌++◌, ap, ◌∙◌, codes, decimal, rules}
use Rattle.std.proofs.lemmas.Result.{on_ok_weaker}
use Rattle.json.specs.Token.{begin_object, end_object, key, string, number}
use Rattle.tk_handle.specs.ClientId.{client_text}
use Rattle.tk_handle.specs.LoginId.{login_text}
use Rattle.tk_message.specs.SubjectPage.{state_name}
use Rattle.tk_message.proofs.MemberLaws.{eight_of}
use Rattle.tk_message.proofs.subject_page.put_login.Goals as goal

pub returns-clause-ok : goal.returns-clause-ok
returns-clause-ok c =
    let dot = c.args.login.now.0 in
    let fields = c.args.login.now.1 in
    let client : c.as_str.result.now ≡ client_text fields.client = search rules in
    let expiry : c.seconds.result ≡ fields.family_end = search rules in
    let start : c.seconds-2.result ≡ fields.start = search rules in
    let id : c.as_str-2.result.now ≡ login_text dot = search rules in
    let scope : c.text.result.now ≡ fields.scope = search rules in
    let state : c.state_name.result.now ≡ state_name fields.state = search rules in
    let t1 = c.begin_object.new.self.tokens in
    let t2 = c.put_text.new.out.tokens in
    let t3 = c.put_number.new.out.tokens in
    let t4 = c.put_number-2.new.out.tokens in
    let t5 = c.put_text-2.new.out.tokens in
    let t6 = c.put_text-3.new.out.tokens in
    on_ok_weaker c.end_object.result
    (λ h. eight_of c.args.out.now.tokens t1 t2 t3 t4 t5 t6 c.put_text-4.new.out.tokens _
    (begin_object ∷ [])
    (key (codes "client_id") ∷ string (client_text fields.client) ∷ [])
    (key (codes "exp") ∷ number (decimal fields.family_end) ∷ [])
    (key (codes "iat") ∷ number (decimal fields.start) ∷ [])
    (key (codes "login_id") ∷ string (login_text dot) ∷ [])
    (key (codes "scope") ∷ string fields.scope ∷ [])
    (key (codes "state") ∷ string (state_name fields.state) ∷ [])
    (end_object ∷ [])
    c.in_ok-begin_object.ensures.ok
    (c.in_ok-put_text.ensures.ok ∙ ap (λ x. t1 ++ key (codes "client_id") ∷ string x ∷ []) client)
    (c.in_ok-put_number.ensures.ok
    ∙ ap (λ x. t2 ++ key (codes "exp") ∷ number (decimal x) ∷ []) expiry)
    (c.in_ok-put_number-2.ensures.ok
    ∙ ap (λ x. t3 ++ key (codes "iat") ∷ number (decimal x) ∷ []) start)
    (c.in_ok-put_text-2.ensures.ok ∙ ap (λ x. t4 ++ key (codes "login_id") ∷ string x ∷ []) id)
    (c.in_ok-put_text-3.ensures.ok ∙ ap (λ x. t5 ++ key (codes "scope") ∷ string x ∷ []) scope)
    (c.in_ok-put_text-4.ensures.ok ∙ ap (λ x. t6 ++ key (codes "state") ∷ string x ∷ []) state)
    h)
    c.end_object.ensures.ok
