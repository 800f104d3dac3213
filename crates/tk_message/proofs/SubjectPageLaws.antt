-- The page of a subject, as it is written. Key results:
--   page_written     the members of the page, one behind the other
--   page_of_writes   the page, by what each write leaves behind
use Rattle.std.proofs.Common.{◌≡◌, List, ℕ, [], ◌∷◌, ◌++◌, codes, Option, Some, None, refl}
use Rattle.std.proofs.Common.{◌∙◌, append_assoc}
use Rattle.json.specs.Token as token
use Rattle.json.specs.Token.{Token}
use Rattle.json.specs.Tree.{items_tokens, json_tokens}
use Rattle.serde_json.specs.Data.{Items}
use Rattle.serde_json.specs.Written.{items_outline, outline}
use Rattle.tk_handle.specs.declared.dot.Dot.{Dot}
use Rattle.tk_handle.specs.ConsentId.{consent_text}
use Rattle.tk_handle.specs.LoginId.{login_text}
use Rattle.std.specs.Option.{option_map}
use Rattle.tk_message.specs.Bodies.{text_written, number_written}
use Rattle.tk_message.specs.SubjectPage.{shown_page}

-- the member with these entries
abbrev pub array_written : List ℕ → Items → List Token
array_written name items =
    token.key name ∷ token.begin_array ∷ items_tokens (items_outline items)

-- the end of the page: what its next pages begin behind, the last sign-out, the subject
abbrev tail_written : Option (List ℕ) → Option (List ℕ) → Option ℕ → List ℕ → List Token
tail_written consent login out subject =
    text_written (codes "next_consent") consent
    ++ (text_written (codes "next_login") login
    ++ (number_written (codes "signed_out") out
    ++ (token.key (codes "subject") ∷ token.string subject ∷ token.end_object ∷ [])))

-- the tokens that are written of what a subject has are those of the page's outline
pub page_written : (consents logins : Items) (consent login : Option Dot) (out : Option ℕ)
    (subject : List ℕ)
    → token.begin_object ∷ (array_written (codes "consents") consents
    ++ (array_written (codes "logins") logins
    ++ tail_written (option_map consent_text consent) (option_map login_text login) out subject))
    ≡ json_tokens (outline (shown_page consents logins consent login out subject))
page_written consents logins None None None subject = refl
page_written consents logins None None (Some out) subject = refl
page_written consents logins None (Some login) None subject = refl
page_written consents logins None (Some login) (Some out) subject = refl
page_written consents logins (Some consent) None None subject = refl
page_written consents logins (Some consent) None (Some out) subject = refl
page_written consents logins (Some consent) (Some login) None subject = refl
page_written consents logins (Some consent) (Some login) (Some out) subject = refl

-- the page, written one member behind the other
pub page_of_writes : (t0 t1 t2 t3 t4 t5 t6 : List Token) (consents logins : Items)
    (consent login : Option Dot) (out : Option ℕ) (subject : List ℕ)
    → t0 ≡ token.begin_object ∷ []
    → t1 ≡ t0 ++ array_written (codes "consents") consents
    → t2 ≡ t1 ++ array_written (codes "logins") logins
    → t3 ≡ t2 ++ text_written (codes "next_consent") (option_map consent_text consent)
    → t4 ≡ t3 ++ text_written (codes "next_login") (option_map login_text login)
    → t5 ≡ t4 ++ number_written (codes "signed_out") out
    → t6 ≡ t5 ++ token.key (codes "subject") ∷ token.string subject ∷ []
    → t6 ++ token.end_object ∷ []
    ≡ json_tokens (outline (shown_page consents logins consent login out subject))
page_of_writes t0 t1 t2 t3 t4 t5 t6 consents logins consent login out subject h0 h1 h2 h3 h4 h5 h6 =
    let all : t6 ++ token.end_object ∷ []
    ≡ token.begin_object ∷ (array_written (codes "consents") consents
    ++ (array_written (codes "logins") logins
    ++ tail_written (option_map consent_text consent) (option_map login_text login) out subject)) =
    rw (h6, h5, h4, h3, h2, h1, h0) (simp append_assoc) in
    all ∙ page_written consents logins consent login out subject
