-- What holds of every judgement of an administration request (own).
--   IsSoundAdministered   the fact that the judgement makes passes its check
use Rattle.std.specs.Prelude.{◌≡◌, None}
use Rattle.tk_fact.specs.Check.{refusal_of}
use Rattle.tk_fact.specs.declared.body.Body.TheVariants.{ClientAdded, ConsentGiven, SubjectOut}
use Rattle.tk_fact.specs.declared.body.Body.TheVariants.{TokenRevoked, SecretSet}
use Rattle.tk_authorize.specs.declared.administered.Administered.{Administered}
use Rattle.tk_authorize.specs.declared.administered.Administered.TheVariants.{
  Refused,
  Registers,
  Shows,
  Retires,
  Consents,
  HasConsent,
  Withdraws,
  AlreadyOut,
  SignsOut,
  LogsOut,
  AlreadyEnded,
  SetsSecret,
  HasSecret,
}

-- the client, the consent, the sign-out, the revocation or the secret in the judgement passes its
-- check (own)
abbrev pub IsSoundAdministered : Administered → Type 0
IsSoundAdministered (Refused why) = Unit {0}
IsSoundAdministered (Registers client) = refusal_of (ClientAdded client) ≡ None
IsSoundAdministered (Shows client) = Unit {0}
IsSoundAdministered (Retires client live) = Unit {0}
IsSoundAdministered (Consents consent) = refusal_of (ConsentGiven consent) ≡ None
IsSoundAdministered (HasConsent consent) = Unit {0}
IsSoundAdministered (Withdraws consent live) = Unit {0}
IsSoundAdministered (AlreadyOut subject) = Unit {0}
IsSoundAdministered (SignsOut sign_out) = refusal_of (SubjectOut sign_out) ≡ None
IsSoundAdministered (LogsOut login revocation) = refusal_of (TokenRevoked revocation) ≡ None
IsSoundAdministered (AlreadyEnded login) = Unit {0}
IsSoundAdministered (SetsSecret set) = refusal_of (SecretSet set) ≡ None
IsSoundAdministered (HasSecret client) = Unit {0}
