-- What a subject has, by the dots of the facts: live consents, and logins; and a walk over each
-- (own).
--   shown_in        what a view shows at the dots of a set's facts
--   consents_of     the consents that the subject gave and that no withdrawal names
--   logins_of       the logins of the subject
--   Walks           one step of a walk
use Rattle.std.specs.Prelude.{◌≡◌, ℕ, Bool, false, ◌&&◌, List, [], ◌∷◌}
use Rattle.std.specs.Prelude.{Option, Some, None, if◌then◌else◌}
use Rattle.std.specs.FinMap as map
use Rattle.std.specs.List.{filter_map}
use Rattle.std.specs.Option.{option_map}
use Rattle.std.specs.Str.{bytes_eq}
use Rattle.tk_handle.specs.declared.dot.Dot.{Dot}
use Rattle.tk_handle.specs.Dot.{dot_cmp}
use Rattle.tk_fact.specs.declared.code_issued.CodeIssued as issued
use Rattle.tk_store.specs.FactSet.{FactSet}
use Rattle.tk_store.specs.Walk.{above}
use Rattle.tk_ledger.specs.Logins.{login_view}
use Rattle.tk_ledger.specs.Tokens.{issued_at}
use Rattle.tk_ledger.specs.ViewFields.{ConsentFields, LoginFields}
use Rattle.tk_ledger.specs.Views.{consent_view}

-- ---- what a view shows

-- what a view shows at the dot of an entry, if it shows something there, with the dot (own)
abbrev pub seen : {X Y : Type 0} → (Dot → Option X) → Dot × Y → Option (Dot × X)
seen view e = option_map (λ x. (e.0, x)) (view e.0)

-- what a view shows at the dots of the set's facts, by the dots (own)
abbrev pub shown_in : {X : Type 0} → FactSet → (Dot → Option X) → map.FinMap dot_cmp X
shown_in F view = map.from_entries (filter_map (seen view) (map.entries F))

-- ---- consents

-- the consent, if there is one, is live, and the subject gave it (RFC 6749, 4.1)
abbrev pub live_by : List ℕ → Option ConsentFields → Option ConsentFields
live_by subject None = None
live_by subject (Some c) = if c.live && bytes_eq c.subject subject then Some c else None

-- the consent that the subject gave at the dot and that no withdrawal names (RFC 6749, 4.1)
abbrev pub consent_of : FactSet → List ℕ → Dot → Option ConsentFields
consent_of F subject d = live_by subject (consent_view F d)

-- the live consents of the subject, by their dots (own)
abbrev pub consents_of : FactSet → List ℕ → map.FinMap dot_cmp ConsentFields
consents_of F subject = shown_in F (consent_of F subject)

-- ---- logins

-- the code, if there is one, was issued to the subject (RFC 6749, 4.1.2)
abbrev pub is_issued_to : List ℕ → Option issued.CodeIssued → Bool
is_issued_to subject None = false
is_issued_to subject (Some code) = bytes_eq code.subject subject

-- the login of the subject that the code of the dot began, if it is there at the moment (own)
abbrev pub login_by : FactSet → ℕ → List ℕ → Dot → Option LoginFields
login_by F now subject d =
    if is_issued_to subject (issued_at (map.get F) d) then login_view F now d else None

-- the logins of the subject at the moment, by the dots of their codes (own)
abbrev pub logins_of : FactSet → ℕ → List ℕ → map.FinMap dot_cmp LoginFields
logins_of F now subject = shown_in F (login_by F now subject)

-- ---- a walk

-- one step of a walk: the first entry above a dot, or above none, behind which the others are; or
-- nothing, if no entry is above (own)
abbrev pub Walks : {X : Type 0} → map.FinMap dot_cmp X → Option Dot → Option (Dot × X) → Type 0
Walks m after None = above m after ≡ []
Walks m after (Some e) = above m after ≡ e ∷ above m (Some e.0)
