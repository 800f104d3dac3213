-- The judgement of an authorization request: its cases in their order (RFC 6749, 3.1.2.3, 3.1.2.4,
-- 4.1.1 and 4.1.2.1).
--   judged_of   the first case that holds: refused in place, denied at the URI, or approved
use Rattle.std.specs.Prelude.{
  ℕ,
  if◌then◌else◌,
  List,
  [],
  ◌∷◌,
  codes,
  Option,
  Some,
  None,
  is_some,
  Result,
  Ok,
  Err,
}
use Rattle.tk_handle.specs.declared.dot.Dot.{Dot}
use Rattle.tk_handle.specs.ClientId.{client_in}
use Rattle.tk_match.specs.Pick.{Picked, Uri, Missing, Unknown, picked}
use Rattle.tk_fact.specs.declared.client_lives.ClientLives.{ClientLives}
use Rattle.tk_store.specs.FactSet.{FactSet}
use Rattle.tk_ledger.specs.Views.{client_view}
use Rattle.tk_ledger.specs.ViewFields.{ClientFields}
use Rattle.tk_params.specs.Params.{Pairs, value_of, has_twice}
use Rattle.tk_message.specs.declared.choices.ChallengeRules.{ChallengeRules}
use Rattle.tk_authorize.specs.declared.approval.Approval.{Approval}
use Rattle.tk_authorize.specs.declared.denial.Denial.{Denial}
use Rattle.tk_authorize.specs.declared.judged.Judged.{Judged}
use Rattle.tk_authorize.specs.declared.judged.Judged.TheVariants.{Refused, Denied, Approved}
use Rattle.tk_authorize.specs.declared.judged.Target.{Target}
use Rattle.tk_authorize.specs.declared.refusal.Refusal.TheVariants as refusal
use Rattle.tk_authorize.specs.Approval.{approval_of}
use Rattle.tk_authorize.specs.Asked.{asked_of}

-- the judgement by an approval or a denial. The reply goes to the client's URI (RFC 6749, 4.1.2.1)
abbrev pub judged_at : Target → Result Approval Denial → Judged
judged_at target (Err why) = Denied target why
judged_at target (Ok approval) = Approved target approval

-- the client and its lives, the URI that the reply goes to, and whether the request named the URI:
-- the token request must repeat it then (RFC 6749, 4.1.3)
abbrev pub target_of : Dot → Option ClientLives → List ℕ → Pairs → Target
target_of client lives uri params = record {
  client = client;
  lives = lives;
  uri = uri;
  sent = is_some (value_of (codes "redirect_uri") params);
}

-- the judgement by the redirection URI. There must be one, and it must match a registered one (RFC
-- 6749, 3.1.2.3; RFC 8252, 7.3)
abbrev pub judged_by_redirect : FactSet → ChallengeRules → Pairs → Option (List ℕ) → Dot
    → ClientFields → Picked → Judged
judged_by_redirect F rules params subject client view Missing = Refused refusal.MissingRedirect
judged_by_redirect F rules params subject client view Unknown = Refused refusal.UnknownRedirect
judged_by_redirect F rules params subject client view (Uri uri) =
    judged_at (target_of client view.lives uri params)
    (approval_of F client subject (asked_of rules view.client_kind view.scope params))

-- the judgement by the client, which must be added (RFC 6749, 4.1.2.1) and not retired (own)
abbrev pub judged_by_view : FactSet → ChallengeRules → Pairs → Option (List ℕ) → Dot
    → Option ClientFields → Judged
judged_by_view F rules params subject client None = Refused refusal.UnknownClient
judged_by_view F rules params subject client (Some view) =
    if view.live then judged_by_redirect F rules params subject client view
    (picked view.redirects (value_of (codes "redirect_uri") params))
    else Refused refusal.RetiredClient

-- the judgement by the client id, which must be one (RFC 6749, 4.1.2.1)
abbrev pub judged_by_client : FactSet → ChallengeRules → Pairs → Option (List ℕ) → Option Dot
    → Judged
judged_by_client F rules params subject None = Refused refusal.UnknownClient
judged_by_client F rules params subject (Some client) =
    judged_by_view F rules params subject client (client_view F client)

-- the judgement by the client id, which is required (RFC 6749, 4.1.1)
abbrev pub judged_by_id : FactSet → ChallengeRules → Pairs → Option (List ℕ) → Option (List ℕ)
    → Judged
judged_by_id F rules params subject None = Refused refusal.MissingClient
judged_by_id F rules params subject (Some id) =
    judged_by_client F rules params subject (client_in id)

-- the names of the parameters that decide where the reply goes (RFC 6749, 4.1.2.1)
abbrev pub target_names : List (List ℕ)
target_names = codes "client_id" ∷ codes "redirect_uri" ∷ []

-- the judgement of a request. The client id and the redirection URI must not occur twice (RFC 6749,
-- 3.1)
abbrev pub judged_of : FactSet → ChallengeRules → Pairs → Option (List ℕ) → Judged
judged_of F rules params subject =
    if has_twice target_names params then Refused refusal.DuplicateClientOrRedirect
    else judged_by_id F rules params subject (value_of (codes "client_id") params)
