-- The judgement of a request that ends a login, POST /admin/logout: its cases in their order (own;
-- RFC 7009, 2.1 for the fact).
--   ended_by        by the revocation that ends it
--   ended_in        by its state
--   ended_at        by the login, if there is one
--   logged_out_of   the judgement of a request
use Rattle.std.specs.Prelude.{ℕ, List, [], ◌∷◌, codes, Option, Some, None, if◌then◌else◌}
use Rattle.tk_handle.specs.declared.dot.Dot.{Dot}
use Rattle.tk_handle.specs.LoginId.{login_in}
use Rattle.tk_fact.specs.declared.token_revoked.TokenRevoked as revoked
use Rattle.tk_store.specs.FactSet.{FactSet}
use Rattle.tk_ledger.specs.Logins.{login_view, ending_of}
use Rattle.tk_ledger.specs.ViewFields.{LoginFields}
use Rattle.tk_ledger.specs.declared.status.State.{State}
use Rattle.tk_ledger.specs.declared.status.State.TheVariants as state
use Rattle.tk_params.specs.Params.{Pairs, value_of, has_twice}
use Rattle.tk_authorize.specs.declared.admin_refusal.AdminRefusal.TheVariants.{
  DuplicateParameter,
  MissingParameter,
  UnknownLogin,
  UnredeemedCode,
}
use Rattle.tk_authorize.specs.declared.administered.Administered.{Administered}
use Rattle.tk_authorize.specs.declared.administered.Administered.TheVariants.{
  Refused,
  LogsOut,
  AlreadyEnded,
}

-- the judgement of a login whose code was redeemed, by the revocation that ends it (RFC 7009, 2.1)
abbrev pub ended_by : Dot → Option revoked.TokenRevoked → Administered
ended_by d None = Refused UnredeemedCode
ended_by d (Some revocation) = LogsOut d revocation

-- the judgement by the login's state: one whose code was redeemed is ended; of one that is dead or
-- withdrawn nothing is left to end; another one's code wasn't redeemed here (own)
abbrev pub ended_in : FactSet → Dot → State → Administered
ended_in F d state.Used = ended_by d (ending_of F d)
ended_in F d state.Dead = AlreadyEnded d
ended_in F d state.Withdrawn = AlreadyEnded d
ended_in F d state = Refused UnredeemedCode

-- the judgement by the login of the dot, which must be there (own)
abbrev pub ended_at : FactSet → Dot → Option LoginFields → Administered
ended_at F d None = Refused UnknownLogin
ended_at F d (Some login) = ended_in F d login.state

-- the judgement by the dot of the login's id, which must be one (own)
abbrev pub logged_out_to : FactSet → ℕ → Option Dot → Administered
logged_out_to F now None = Refused UnknownLogin
logged_out_to F now (Some d) = ended_at F d (login_view F now d)

-- the judgement by the login's id, which is required (own)
abbrev pub logged_out_by : FactSet → ℕ → Option (List ℕ) → Administered
logged_out_by F now None = Refused MissingParameter
logged_out_by F now (Some id) = logged_out_to F now (login_in id)

-- the names of the parameters that POST /admin/logout knows (own)
abbrev pub logout_names : List (List ℕ)
logout_names = codes "login_id" ∷ []

-- the judgement of POST /admin/logout: the id must not occur twice (own)
abbrev pub logged_out_of : FactSet → ℕ → Pairs → Administered
logged_out_of F now params =
    if has_twice logout_names params then Refused DuplicateParameter
    else logged_out_by F now (value_of (codes "login_id") params)
