-- Authorization and administration make no fact that uses a token. Key results:
--   authorizes_alone    authorization requests
--   UsesNothing         a fact names no token's dot, or revokes a token
--   administers_alone   administration requests
--   lists_alone         requests for a page of clients, which make no fact
--   shows_alone         requests for what a subject has, which make no fact
use Rattle.std.proofs.Common.{◌≡◌, ℕ, true, false, List, codes, Option, None, Some, IfSome, Result}
use Rattle.std.proofs.Common.{Ok}
use Rattle.std.proofs.Common.{Err, refl}
use Rattle.std.specs.Option.{option_map}
use Rattle.tk_handle.specs.declared.dot.Dot.{Dot}
use Rattle.tk_fact.specs.Administered.{with_by}
use Rattle.tk_fact.specs.Keeping.{names_of}
use Rattle.tk_fact.specs.declared.by.By.{By}
use Rattle.tk_fact.specs.declared.body.Body.{Body}
use Rattle.tk_fact.specs.declared.body.Body.TheVariants.{CodeRedeemed, RefreshRotated, ReuseSeen}
use Rattle.tk_fact.specs.declared.body.Body.TheVariants.{AccessRefreshed, ClientAdded}
use Rattle.tk_fact.specs.declared.body.Body.TheVariants.{ClientRetired, ConsentGiven}
use Rattle.tk_fact.specs.declared.body.Body.TheVariants.{ConsentWithdrawn, TokenRevoked}
use Rattle.tk_fact.specs.declared.body.Body.TheVariants.{SubjectOut, SecretSet}
use Rattle.tk_store.specs.FactSet.{FactSet}
use Rattle.tk_params.specs.Params.{Pairs, value_of}
use Rattle.tk_message.specs.RequestFields.{RequestFields}
use Rattle.tk_message.specs.declared.decision.Decision.{Decision}
use Rattle.tk_message.specs.declared.place.Place.{Place}
use Rattle.tk_authorize.specs.Administered.{administered_of}
use Rattle.tk_authorize.specs.Administration.{administered_by, decided_alone, decided_as}
use Rattle.tk_authorize.specs.Administration.{administration_of}
use Rattle.tk_authorize.specs.Operators.{by_asked}
use Rattle.tk_authorize.specs.Chosen.{chosen}
use Rattle.tk_authorize.specs.Authorization.{decided_by, authorization_of, kept_state}
use Rattle.tk_authorize.specs.Judged.{judged_of}
use Rattle.tk_authorize.specs.Listing.{after_named, listed_by, listing_of}
use Rattle.tk_authorize.specs.SubjectListing.{asked_of, shown_by, subject_of}
use Rattle.tk_authorize.specs.declared.admin_refusal.AdminRefusal.{AdminRefusal}
use Rattle.tk_authorize.specs.declared.administered.Administered.{Administered}
use Rattle.tk_authorize.specs.declared.administered.Administered.TheVariants as administered
use Rattle.tk_authorize.specs.declared.subject_listing.SubjectAsked.{SubjectAsked}
use Rattle.tk_authorize.specs.declared.judged.Judged.{Judged}
use Rattle.tk_authorize.specs.declared.judged.Judged.TheVariants as judged

-- a decision makes no fact that names a token's dot
abbrev MakesAlone : Decision → Type 0
MakesAlone d = IfSome d.made (λ b. names_of b ≡ None)

-- what is decided of a judged request makes no fact that names a dot
decides_alone : (place : Place) (now : ℕ) (words : List ℕ) (sent : Option (List ℕ)) (j : Judged)
    → MakesAlone (decided_by place now words sent j)
decides_alone place now words sent (judged.Refused why) = tt
decides_alone place now words sent (judged.Denied target why) = tt
decides_alone place now words sent (judged.Approved target approval) = refl

-- the fact that an authorization request makes, if any, names no dot
pub authorizes_alone : (F : FactSet) (place : Place) (now : ℕ) (words : List ℕ)
    (request : RequestFields)
    → IfSome (authorization_of F place now words request).made (λ b. names_of b ≡ None)
authorizes_alone F place now words request =
    decides_alone place now words (kept_state (value_of (codes "state") request.params))
    (judged_of F place.choices.challenge request.params request.subject)

-- a fact that uses no code or refresh token and refreshes no access token: it names no token's dot,
-- or revokes a token
abbrev pub UsesNothing : Body → Type 0
UsesNothing (CodeRedeemed f) = ⊥
UsesNothing (RefreshRotated f) = ⊥
UsesNothing (ReuseSeen f) = ⊥
UsesNothing (AccessRefreshed f) = ⊥
UsesNothing b = Unit {0}

-- the fact that an administration request makes, if any, uses nothing
carried_out_alone : (place : Place) (a : Administered)
    → IfSome (administered_by place a).made UsesNothing
carried_out_alone place (administered.Refused why) = tt
carried_out_alone place (administered.Registers client) = tt
carried_out_alone place (administered.Shows client) = tt
carried_out_alone place (administered.Retires client true) = tt
carried_out_alone place (administered.Retires client false) = tt
carried_out_alone place (administered.Consents consent) = tt
carried_out_alone place (administered.HasConsent consent) = tt
carried_out_alone place (administered.Withdraws consent true) = tt
carried_out_alone place (administered.Withdraws consent false) = tt
carried_out_alone place (administered.AlreadyOut subject) = tt
carried_out_alone place (administered.SignsOut sign_out) = tt
carried_out_alone place (administered.LogsOut login revocation) = tt
carried_out_alone place (administered.AlreadyEnded login) = tt
carried_out_alone place (administered.SetsSecret secret) = tt
carried_out_alone place (administered.HasSecret client) = tt

-- a fact that uses nothing uses nothing by whomever it was administered
alone_by : (by : Option By) (b : Body) → UsesNothing b → UsesNothing (with_by by b)
alone_by by (ClientAdded f) h = tt
alone_by by (ClientRetired f) h = tt
alone_by by (ConsentGiven f) h = tt
alone_by by (ConsentWithdrawn f) h = tt
alone_by by (TokenRevoked f) h = tt
alone_by by (SubjectOut f) h = tt
alone_by by (SecretSet f) h = tt
alone_by by b h = h

-- a fact that uses nothing, if any, uses nothing by whomever it was administered
made_by : (by : Option By) (made : Option Body) → IfSome made UsesNothing
    → IfSome (option_map (with_by by) made) UsesNothing
made_by by None h = tt
made_by by (Some b) h = alone_by by b h

-- for `administers_alone`: by who administers, or why the request is refused
decided_alone_by : (F : FactSet) (place : Place) (now : ℕ) (request : RequestFields)
    (r : Result (Option By) AdminRefusal)
    → IfSome (decided_as F place now request r).made UsesNothing
decided_alone_by F place now request (Err why) = tt
decided_alone_by F place now request (Ok by) =
    made_by by (decided_alone F place now request).made
    (carried_out_alone place (chosen F place.choices (administered_of F now request)))

-- the fact that an administration request makes, if any, names no token's dot, or revokes a token
pub administers_alone : (F : FactSet) (place : Place) (now : ℕ) (request : RequestFields)
    → IfSome (administration_of F place now request).made UsesNothing
administers_alone F place now request =
    decided_alone_by F place now request (by_asked now request.operator)

-- for `lists_alone`: by the page that is asked for, or why the request is refused
lists_none : (F : FactSet) (r : Result (Option Dot) AdminRefusal) → (listed_by F r).made ≡ None
lists_none F (Err why) = refl
lists_none F (Ok after) = refl

-- a request for a page of clients makes no fact
pub lists_alone : (F : FactSet) (params : Pairs) → (listing_of F params).made ≡ None
lists_alone F params = lists_none F (after_named params)

-- for `shows_alone`: by the subject that is asked for, or why the request is refused
shows_none : (F : FactSet) (now : ℕ) (r : Result SubjectAsked AdminRefusal)
    → (shown_by F now r).made ≡ None
shows_none F now (Err why) = refl
shows_none F now (Ok asked) = refl

-- a request for what a subject has makes no fact
pub shows_alone : (F : FactSet) (now : ℕ) (params : Pairs) → (subject_of F now params).made ≡ None
shows_alone F now params = shows_none F now (asked_of params)
