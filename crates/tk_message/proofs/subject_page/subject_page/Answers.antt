use Rattle.std.proofs.Common.{◌≡◌, [], ◌∷◌, ◌++◌, codes, Option, ℕ, ap, ◌∙◌, rules}
use Rattle.std.specs.Option.{option_map}
use Rattle.json.specs.Token.{key, string}
use Rattle.serde_json.specs.Data as json
use Rattle.tk_handle.specs.declared.dot.Dot.{Dot}
use Rattle.tk_handle.specs.ConsentId.{consent_text}
use Rattle.tk_handle.specs.LoginId.{login_text}
use Rattle.tk_store.specs.StoreFields.{held_facts}
use Rattle.tk_store.specs.Walk.{above}
use Rattle.tk_ledger.specs.SubjectWalk.{consents_of, logins_of}
use Rattle.tk_message.specs.Bodies.{with_number, with_text, number_written, text_written}
use Rattle.tk_message.specs.LastSignOut.{last_sign_out}
use Rattle.tk_message.specs.Page.{max_listed, listed, cursor_of}
use Rattle.tk_message.specs.SubjectPage.{consent_item, login_item}
use Rattle.tk_message.proofs.SubjectPageLaws.{page_of_writes}
use Rattle.tk_message.proofs.subject_page.subject_page.Goals as goal

pub returns : goal.returns
returns c =
    let facts = held_facts c.args.ledger.now in
    let subject = c.args.subject.now in
    let given = above (consents_of facts subject) c.args.consents_after in
    let begun = above (logins_of facts c.args.now subject) c.args.logins_after in
    let consents = listed consent_item max_listed given in
    let logins = listed login_item max_listed begun in
    let consent = cursor_of max_listed c.args.consents_after given in
    let login = cursor_of max_listed c.args.logins_after begun in
    let last = last_sign_out facts subject in
    let name : c.as_str.result.now ≡ subject = search rules in
    let t2 = c.put_logins.new.out.tokens in
    let t3 = c.put_next_consent.new.out.tokens in
    let t4 = c.put_next_login.new.out.tokens in
    let t5 = c.put_optional.new.out.tokens in
    c.end.ensures
    (json.member (codes "consents") (json.array consents)
    (json.member (codes "logins") (json.array logins)
    (with_text (codes "next_consent") (option_map consent_text consent)
    (with_text (codes "next_login") (option_map login_text login)
    (with_number (codes "signed_out") last
    (json.member (codes "subject") (json.string subject) json.no_members))))))
    (c.in_ok-put_text.ensures.before ∙ c.in_ok-put_optional.ensures.before
    ∙ c.in_ok-put_next_login.ensures.before ∙ c.in_ok-put_next_consent.ensures.before
    ∙ c.in_ok-next_login.ensures.before ∙ c.in_ok-next_consent.ensures.before
    ∙ c.in_ok-out.ensures.before)
    (page_of_writes _ c.put_consents.new.out.tokens t2 t3 t4 t5 c.put_text.new.out.tokens
    consents logins consent login last subject
    c.in_ok-out.ensures.tokens
    c.in_ok-next_consent.ensures.ok
    c.in_ok-next_login.ensures.ok
    (c.in_ok-put_next_consent.ensures.ok
    ∙ ap (λ (o : Option Dot). t2 ++ text_written (codes "next_consent") (option_map consent_text o))
    c.in_ok-next_consent.ensures.next)
    (c.in_ok-put_next_login.ensures.ok
    ∙ ap (λ (o : Option Dot). t3 ++ text_written (codes "next_login") (option_map login_text o))
    c.in_ok-next_login.ensures.next)
    (c.in_ok-put_optional.ensures.ok
    ∙ ap (λ (o : Option ℕ). t4 ++ number_written (codes "signed_out") o) c.last_out.ensures)
    (c.in_ok-put_text.ensures.ok ∙ ap (λ x. t5 ++ key (codes "subject") ∷ string x ∷ []) name))
