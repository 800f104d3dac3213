-- The judgement of a request that changes the secret of a client, POST /admin/secret: its cases in
-- their order (own; RFC 6749, 2.3.1 for the secret).
--   first_secret   the digest of the secret with which a client of a kind was registered
--   set_at         a secret is set at a turn after the last one
--   changed_once   without `old`: the secrets of the last turn stay good
--   ended_if       by `old`: they end
--   changed_of     the judgement of a request
use Rattle.std.specs.Prelude.{
  ℕ,
  ◌+◌,
  nat_lt,
  List,
  [],
  ◌∷◌,
  codes,
  Option,
  Some,
  None,
  Result,
  Ok,
  Err,
  if◌then◌else◌,
}
use Rattle.std.specs.Str.{bytes_eq}
use Rattle.tk_handle.specs.declared.dot.Dot.{Dot}
use Rattle.tk_fact.specs.Check.{max_turns}
use Rattle.tk_fact.specs.declared.client_kind.ClientKind.{ClientKind}
use Rattle.tk_fact.specs.declared.client_kind.ClientKind.TheVariants.{
  Public,
  Confidential,
  Resource,
  Keeping,
}
use Rattle.tk_store.specs.FactSet.{FactSet}
use Rattle.tk_ledger.specs.Secrets.{last_turn, is_secret_at}
use Rattle.tk_ledger.specs.Views.{client_view}
use Rattle.tk_ledger.specs.ViewFields.{ClientFields}
use Rattle.tk_params.specs.Params.{Pairs, value_of, has_twice}
use Rattle.tk_authorize.specs.ClientParams.{client_asked, digest_asked}
use Rattle.tk_authorize.specs.declared.admin_refusal.AdminRefusal.{AdminRefusal}
use Rattle.tk_authorize.specs.declared.admin_refusal.AdminRefusal.TheVariants.{
  DuplicateParameter,
  UnknownClient,
  UnwantedSecret,
  WrongOld,
  TooManyTurns,
}
use Rattle.tk_authorize.specs.declared.administered.Administered.{Administered}
use Rattle.tk_authorize.specs.declared.administered.Administered.TheVariants.{
  Refused,
  SetsSecret,
  HasSecret,
}

-- the digest of the secret with which a client of the kind was registered: a public client has no
-- secret (RFC 6749, 2.1)
abbrev pub first_secret : ClientKind → Option (List ℕ)
first_secret Public = None
first_secret (Confidential first) = Some first
first_secret (Resource first) = Some first
first_secret (Keeping first) = Some first

-- the judgement that sets a secret the given number of turns after the last turn, unless that is
-- above the greatest turn (own)
abbrev pub set_at : ℕ → Dot → List ℕ → ℕ → ℕ → Administered
set_at now client digest last turns =
    if nat_lt max_turns (last + turns) then Refused TooManyTurns
    else SetsSecret (record {
      client = client;
      turn = last + turns;
      digest = digest;
      moment = now;
      by = None;
    })

-- the judgement that sets a secret of the next turn, unless the client has the secret at its last
-- turn already: a request that is sent again sets nothing (own)
abbrev pub changed_once : FactSet → ℕ → Dot → List ℕ → List ℕ → Administered
changed_once F now client first digest =
    if is_secret_at F client first (last_turn F client) digest then HasSecret client
    else set_at now client digest (last_turn F client) 1

-- the judgement of a change by the value of `old`, which must be `ended`: the secret is set two
-- turns after the last one, so that it alone is good (own)
abbrev pub ended_if : FactSet → ℕ → Dot → List ℕ → List ℕ → Administered
ended_if F now client digest old =
    if bytes_eq old (codes "ended") then set_at now client digest (last_turn F client) 2
    else Refused WrongOld

-- the judgement of a change by `old`, if it is sent (own)
abbrev pub changed_as : FactSet → ℕ → Dot → List ℕ → List ℕ → Option (List ℕ) → Administered
changed_as F now client first digest None = changed_once F now client first digest
changed_as F now client first digest (Some old) = ended_if F now client digest old

-- the judgement of a change by the digest of the new secret, which is required (own)
abbrev pub changed_to : FactSet → ℕ → Dot → List ℕ → Result (List ℕ) AdminRefusal
    → Option (List ℕ) → Administered
changed_to F now client first (Err why) old = Refused why
changed_to F now client first (Ok digest) old = changed_as F now client first digest old

-- the judgement of a change by the digest of the client's first secret, which a public client
-- doesn't have (own; RFC 6749, 2.1)
abbrev pub changed_from : FactSet → ℕ → Dot → Option (List ℕ) → Option (List ℕ)
    → Option (List ℕ) → Administered
changed_from F now client None secret old = Refused UnwantedSecret
changed_from F now client (Some first) secret old =
    changed_to F now client first (digest_asked secret) old

-- the judgement of a change by its client, which must be live (own)
abbrev pub changed_at : FactSet → ℕ → Dot → Option (List ℕ) → Option (List ℕ)
    → Option ClientFields → Administered
changed_at F now client secret old None = Refused UnknownClient
changed_at F now client secret old (Some view) =
    if view.live then changed_from F now client (first_secret view.client_kind) secret old
    else Refused UnknownClient

-- the judgement of a change by the client's id, which is required (own)
abbrev pub changed_by : FactSet → ℕ → Option (List ℕ) → Option (List ℕ)
    → Result Dot AdminRefusal → Administered
changed_by F now secret old (Err why) = Refused why
changed_by F now secret old (Ok client) =
    changed_at F now client secret old (client_view F client)

-- the names of the parameters that POST /admin/secret knows (own)
abbrev pub change_names : List (List ℕ)
change_names = codes "client_id" ∷ codes "secret" ∷ codes "old" ∷ []

-- the judgement of POST /admin/secret: no parameter that the endpoint knows may occur twice (own)
abbrev pub changed_of : FactSet → ℕ → Pairs → Administered
changed_of F now params =
    if has_twice change_names params then Refused DuplicateParameter
    else changed_by F now (value_of (codes "secret") params) (value_of (codes "old") params)
    (client_asked (value_of (codes "client_id") params))
