-- What a region decides makes a fact that is within its family, if it makes one. Key results:
--   made_within       each decision
--   prepares_within   what is prepared of a decision
use Rattle.std.proofs.Common.{◌≡◌, ℕ, nat_lt, true, false, ◌&&◌, cond, List}
use Rattle.std.proofs.Common.{Option, None, Some, is_some, IfSome, option_map, sym, subst}
use Rattle.tk_fact.specs.Keeping.{names_of}
use Rattle.tk_fact.specs.declared.body.Body.{Body}
use Rattle.tk_fact.specs.declared.body.Body.TheVariants as body
use Rattle.tk_store.specs.FactSet.{FactSet}
use Rattle.tk_store.specs.StoreFields.{StoreFields, held_facts}
use Rattle.tk_store.proofs.PutLaws.{none_is_not_some}
use Rattle.tk_message.specs.Decision.{refused}
use Rattle.tk_message.specs.Place.{next_in}
use Rattle.tk_message.specs.RequestFields.{RequestFields}
use Rattle.tk_message.specs.declared.decision.Decision.{Decision}
use Rattle.tk_message.specs.declared.error_code.ErrorCode.TheVariants.{TemporarilyUnavailable}
use Rattle.tk_message.specs.declared.place.Place.{Place}
use Rattle.tk_message.specs.declared.request.Endpoint.{Endpoint}
use Rattle.tk_message.specs.declared.request.Endpoint.TheVariants as endpoint
use Rattle.tk_authorize.proofs.MadeLaws.{authorizes_alone, UsesNothing, administers_alone}
use Rattle.tk_authorize.proofs.MadeLaws.{lists_alone, shows_alone}
use Rattle.tk_grant.specs.Within.{IsWithin}
use Rattle.tk_grant.proofs.MadeLaws.{grants_within}
use Rattle.tk_query.proofs.MadeLaws.{Revoking, revokes_alone}
use Rattle.tk_region.specs.Decision.{decision_by}
use Rattle.tk_region.specs.Step.{at_dot, prepared_at, prepared_by}

-- a decision makes a fact that is within its family, if it makes one
abbrev pub MakesWithin : FactSet → Decision → Type 0
MakesWithin F d = IfSome d.made (IsWithin F)

-- a fact that names no token's dot is within
alone_within : (F : FactSet) (o : Option Body) → IfSome o (λ b. names_of b ≡ None)
    → IfSome o (IsWithin F)
alone_within F None alone = tt
alone_within F (Some (body.CodeRedeemed f)) alone = absurd (none_is_not_some _ (sym alone))
alone_within F (Some (body.RefreshRotated f)) alone = absurd (none_is_not_some _ (sym alone))
alone_within F (Some (body.ReuseSeen f)) alone = absurd (none_is_not_some _ (sym alone))
alone_within F (Some (body.AccessRefreshed f)) alone = absurd (none_is_not_some _ (sym alone))
alone_within F (Some b) alone = tt

-- a fact that uses and refreshes nothing is within
unused_within : (F : FactSet) (o : Option Body) → IfSome o UsesNothing → IfSome o (IsWithin F)
unused_within F None unused = tt
unused_within F (Some (body.CodeRedeemed f)) unused = absurd unused
unused_within F (Some (body.RefreshRotated f)) unused = absurd unused
unused_within F (Some (body.ReuseSeen f)) unused = absurd unused
unused_within F (Some (body.AccessRefreshed f)) unused = absurd unused
unused_within F (Some b) unused = tt

-- a revocation is within
revoking_within : (F : FactSet) (o : Option Body) → IfSome o Revoking → IfSome o (IsWithin F)
revoking_within F None revoking = tt
revoking_within F (Some b) revoking = subst (IsWithin F) (sym revoking.1) tt

module _ (P : StoreFields) (place : Place) (now : ℕ) (words : List ℕ)
    (request : RequestFields) where
  -- an administration request makes a fact that is within its family, if it makes one
  administered : MakesWithin (held_facts P)
      (decision_by endpoint.AddClient P place now words request)
  administered = unused_within (held_facts P)
      (decision_by endpoint.AddClient P place now words request).made
      (administers_alone (held_facts P) place now request)

  -- each decision makes a fact that is within its family, if it makes one
  pub made_within : (e : Endpoint)
      → MakesWithin (held_facts P) (decision_by e P place now words request)
  made_within endpoint.Authorize = alone_within (held_facts P)
      (decision_by endpoint.Authorize P place now words request).made
      (authorizes_alone (held_facts P) place now words request)
  made_within endpoint.Token = grants_within P place now words request
  made_within endpoint.Introspect = tt
  made_within endpoint.Revoke = revoking_within (held_facts P)
      (decision_by endpoint.Revoke P place now words request).made
      (revokes_alone P place now request)
  made_within endpoint.AddClient = administered
  made_within endpoint.ShowClient = administered
  made_within endpoint.ListClients = subst (λ (o : Option Body). IfSome o (IsWithin (held_facts P)))
      (sym (lists_alone (held_facts P) request.params)) tt
  made_within endpoint.Retire = administered
  made_within endpoint.ChangeSecret = administered
  made_within endpoint.Consent = administered
  made_within endpoint.Withdraw = administered
  made_within endpoint.SignOut = administered
  made_within endpoint.ShowSubject = subst (λ (o : Option Body). IfSome o (IsWithin (held_facts P)))
      (sym (shows_alone (held_facts P) now request.params)) tt
  made_within endpoint.Logout = administered

  -- what is prepared of a decision is within its family, if what the decision makes is
  prepares_at : (d : Decision) → MakesWithin (held_facts P) d
      → IfSome (prepared_at (next_in place) d).fact (λ f. IsWithin (held_facts P) f.1)
  prepares_at d within = by d.made within
    where
      by : (o : Option Body) → IfSome o (IsWithin (held_facts P))
          → IfSome (option_map (at_dot (next_in place)) o) (λ f. IsWithin (held_facts P) f.1)
      by None x = tt
      by (Some b) x = x

  -- the fact that is prepared of a decision is within its family, if the decision's is
  pub prepares_within : (cap : ℕ) (d : Decision) → MakesWithin (held_facts P) d
      → IfSome (prepared_by cap place d).fact (λ f. IsWithin (held_facts P) f.1)
  prepares_within cap d within =
      elim (is_some d.made && nat_lt cap place.next) as
      (λ t. IfSome (prepared_at (next_in place) (cond t (refused TemporarilyUnavailable) d)).fact
      (λ f. IsWithin (held_facts P) f.1)) [
        | true ↦ tt
        | false ↦ prepares_at d within
      ]
