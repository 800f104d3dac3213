-- What a subject has, as an administrator sees it (own).
--   state_name     the name of a login's state
--   consent_item   a consent of the page
--   login_item     a login of the page
--   shown_page     {"consents":[CONSENT,..],"logins":[LOGIN,..],"next_consent":ID,"next_login":ID,
--                  "signed_out":MOMENT,"subject":SUBJECT}
--   page_of        the page of some consents and some logins
--   subject_page   the page of a subject
use Rattle.std.specs.Prelude.{ℕ, List, codes, Option}
use Rattle.std.specs.Option.{option_map}
use Rattle.serde_json.specs.Data.{
  Data,
  Items,
  no_members,
  member,
  string,
  number,
  unsigned,
  array,
  object,
}
use Rattle.tk_handle.specs.declared.dot.Dot.{Dot}
use Rattle.tk_handle.specs.ClientId.{client_text}
use Rattle.tk_handle.specs.ConsentId.{consent_text}
use Rattle.tk_handle.specs.LoginId.{login_text}
use Rattle.tk_store.specs.FactSet.{FactSet}
use Rattle.tk_store.specs.Walk.{above}
use Rattle.tk_ledger.specs.SubjectWalk.{consents_of, logins_of}
use Rattle.tk_ledger.specs.ViewFields.{ConsentFields, LoginFields}
use Rattle.tk_ledger.specs.declared.status.State.{State}
use Rattle.tk_ledger.specs.declared.status.State.TheVariants as state
use Rattle.tk_message.specs.Bodies.{with_number, with_text}
use Rattle.tk_message.specs.LastSignOut.{last_sign_out}
use Rattle.tk_message.specs.Page.{max_listed, listed, cursor_of}

-- the name of a login's state: tokens may be active, the code can be redeemed, the code expired
-- unredeemed, the family is dead, or client or consent isn't live (own)
abbrev pub state_name : State → List ℕ
state_name state.Used = codes "active"
state_name state.Live = codes "waiting"
state_name state.Past = codes "unused"
state_name state.Dead = codes "ended"
state_name state.Withdrawn = codes "withdrawn"
state_name state.Over = codes "over"
state_name state.Ended = codes "ended"

-- a consent of the page: its client, its id and its scope (own)
abbrev pub consent_item : Dot × ConsentFields → Data
consent_item c = object
    (member (codes "client_id") (string (client_text c.1.client))
    (member (codes "consent_id") (string (consent_text c.0))
    (member (codes "scope") (string c.1.scope) no_members)))

-- a login of the page: its client, the end of its family, its start, its id, its scope and its
-- state (own)
abbrev pub login_item : Dot × LoginFields → Data
login_item l = object
    (member (codes "client_id") (string (client_text l.1.client))
    (member (codes "exp") (number (unsigned l.1.family_end))
    (member (codes "iat") (number (unsigned l.1.start))
    (member (codes "login_id") (string (login_text l.0))
    (member (codes "scope") (string l.1.scope)
    (member (codes "state") (string (state_name l.1.state)) no_members))))))

-- the body with these consents and logins, what the next pages begin behind, the last moment of a
-- sign-out, and the subject; a member without a value is left out (own)
abbrev pub shown_page : Items → Items → Option Dot → Option Dot → Option ℕ → List ℕ → Data
shown_page consents logins next_consent next_login signed_out subject = object
    (member (codes "consents") (array consents)
    (member (codes "logins") (array logins)
    (with_text (codes "next_consent") (option_map consent_text next_consent)
    (with_text (codes "next_login") (option_map login_text next_login)
    (with_number (codes "signed_out") signed_out
    (member (codes "subject") (string subject) no_members))))))

-- the page of these consents, which follow one, and these logins, which follow one (own)
abbrev pub page_of : Option Dot → List (Dot × ConsentFields) → Option Dot
    → List (Dot × LoginFields) → Option ℕ → List ℕ → Data
page_of consents_after consents logins_after logins signed_out subject =
    shown_page (listed consent_item max_listed consents) (listed login_item max_listed logins)
    (cursor_of max_listed consents_after consents) (cursor_of max_listed logins_after logins)
    signed_out subject

-- the page of a subject at a moment: its live consents above a dot, or the first, its logins above
-- a dot, or the first, and when it last signed out everywhere (own)
abbrev pub subject_page : FactSet → ℕ → List ℕ → Option Dot → Option Dot → Data
subject_page F now subject consents_after logins_after =
    page_of consents_after (above (consents_of F subject) consents_after)
    logins_after (above (logins_of F now subject) logins_after)
    (last_sign_out F subject) subject
