-- The decision of a request for what a subject has, GET /admin/subject (own).
--   consents_after   the consent behind which the page of consents begins, if one is named
--   logins_after     the login behind which the page of logins begins, if one is named
--   asked_of         what the parameters request, or the first refusal that holds
--   shown_by         the decision by what is requested
--   subject_of       the decision of a request
use Rattle.std.specs.Prelude.{ℕ, List, [], ◌∷◌, codes, Option, Some, None, Result, Ok, Err}
use Rattle.std.specs.Prelude.{if◌then◌else◌}
use Rattle.tk_handle.specs.declared.dot.Dot.{Dot}
use Rattle.tk_handle.specs.ConsentId.{consent_in}
use Rattle.tk_handle.specs.LoginId.{login_in}
use Rattle.tk_fact.specs.Subject.{is_subject}
use Rattle.tk_store.specs.FactSet.{FactSet}
use Rattle.tk_params.specs.Params.{Pairs, value_of, has_twice}
use Rattle.tk_message.specs.declared.decision.Decision.{Decision}
use Rattle.tk_message.specs.declared.status_code.StatusCode.TheVariants as status
use Rattle.tk_message.specs.Decision.{answered, refused}
use Rattle.tk_message.specs.Reply.{json_reply}
use Rattle.tk_message.specs.SubjectPage.{subject_page}
use Rattle.tk_authorize.specs.declared.admin_refusal.AdminRefusal.{AdminRefusal}
use Rattle.tk_authorize.specs.declared.admin_refusal.AdminRefusal.TheVariants.{
  DuplicateParameter,
  MissingParameter,
  MalformedSubject,
  UnknownConsent,
  UnknownLogin,
}
use Rattle.tk_authorize.specs.declared.subject_listing.SubjectAsked.{SubjectAsked}
use Rattle.tk_authorize.specs.Administration.{code_of}

-- the names of the parameters that GET /admin/subject knows (own)
abbrev pub subject_names : List (List ℕ)
subject_names = codes "subject" ∷ codes "consents_after" ∷ codes "logins_after" ∷ []

-- the dot of a consent id, whether or not a consent has it, or a refusal if the text is none (own)
abbrev pub consent_cursor : Option Dot → Result (Option Dot) AdminRefusal
consent_cursor None = Err UnknownConsent
consent_cursor (Some consent) = Ok (Some consent)

-- the dot of the consent id that may be sent (own)
abbrev pub consents_after : Option (List ℕ) → Result (Option Dot) AdminRefusal
consents_after None = Ok None
consents_after (Some id) = consent_cursor (consent_in id)

-- the dot of a login id, whether or not a login has it, or a refusal if the text is none (own)
abbrev pub login_cursor : Option Dot → Result (Option Dot) AdminRefusal
login_cursor None = Err UnknownLogin
login_cursor (Some login) = Ok (Some login)

-- the dot of the login id that may be sent (own)
abbrev pub logins_after : Option (List ℕ) → Result (Option Dot) AdminRefusal
logins_after None = Ok None
logins_after (Some id) = login_cursor (login_in id)

-- what is requested of the subject, by the two dots; the consent is judged first (own)
abbrev pub asked_behind : List ℕ → Result (Option Dot) AdminRefusal
    → Result (Option Dot) AdminRefusal → Result SubjectAsked AdminRefusal
asked_behind subject (Err why) login = Err why
asked_behind subject (Ok consent) (Err why) = Err why
asked_behind subject (Ok consent) (Ok login) =
    Ok (record { subject = subject; consents_after = consent; logins_after = login })

-- what is requested, by the subject, which is required and must be the name of one (own)
abbrev pub asked_by : Option (List ℕ) → Option (List ℕ) → Option (List ℕ)
    → Result SubjectAsked AdminRefusal
asked_by None consent login = Err MissingParameter
asked_by (Some subject) consent login =
    if is_subject subject
    then asked_behind subject (consents_after consent) (logins_after login)
    else Err MalformedSubject

-- what the parameters request; none that the endpoint knows may occur twice (own)
abbrev pub asked_of : Pairs → Result SubjectAsked AdminRefusal
asked_of params =
    if has_twice subject_names params then Err DuplicateParameter
    else asked_by (value_of (codes "subject") params) (value_of (codes "consents_after") params)
    (value_of (codes "logins_after") params)

-- the page of the subject (own)
abbrev pub decided_shown : FactSet → ℕ → SubjectAsked → Decision
decided_shown F now asked = answered
    (json_reply status.Ok
    (subject_page F now asked.subject asked.consents_after asked.logins_after))

-- the page of the subject, or a refusal; no fact is made (own)
abbrev pub shown_by : FactSet → ℕ → Result SubjectAsked AdminRefusal → Decision
shown_by F now (Err why) = refused (code_of why)
shown_by F now (Ok asked) = decided_shown F now asked

-- the decision of GET /admin/subject (own)
abbrev pub subject_of : FactSet → ℕ → Pairs → Decision
subject_of F now params = shown_by F now (asked_of params)
