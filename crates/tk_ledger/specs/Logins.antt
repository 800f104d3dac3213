-- Logins: a code begins one, and the tokens of its family belong to it (own). A login is there
-- until its family is over.
--   code_token      the code of a dot
--   login_view      the login that a code began, unless its family is over
--   redemption_of   the fact that redeems a code
--   ending_of       the revocation that ends a login
use Rattle.std.specs.Prelude.{ℕ, nat_le, Option, Some, None, if◌then◌else◌}
use Rattle.std.specs.FinMap as map
use Rattle.std.specs.List.{find}
use Rattle.std.specs.Option.{option_and_then}
use Rattle.tk_handle.specs.declared.dot.Dot.{Dot}
use Rattle.tk_handle.specs.declared.kind.Kind.TheVariants as kind
use Rattle.tk_handle.specs.declared.token_id.TokenId.{TokenId}
use Rattle.tk_fact.specs.declared.body.Body.{Body}
use Rattle.tk_fact.specs.declared.body.Body.TheVariants.{CodeRedeemed}
use Rattle.tk_fact.specs.declared.code_issued.CodeIssued as issued
use Rattle.tk_fact.specs.declared.token_revoked.TokenRevoked as revoked
use Rattle.tk_fact.specs.Tokens.{MintedFields}
use Rattle.tk_store.specs.FactSet.{FactSet}
use Rattle.tk_ledger.specs.Status.{state_in}
use Rattle.tk_ledger.specs.Tokens.{issued_at, uses}
use Rattle.tk_ledger.specs.ViewFields.{LoginFields}

-- the code of the dot
abbrev pub code_token : Dot → TokenId
code_token d = record { dot = d; kind = kind.Code }

-- the first refresh token of a login, by the dot of the fact that redeems its code
abbrev pub refresh_token : Dot → TokenId
refresh_token d = record { dot = d; kind = kind.Refresh }

-- the code as it was minted (RFC 6749, 4.1.2)
abbrev pub minted_code : issued.CodeIssued → MintedFields
minted_code code = record {
  digest = code.digest;
  start = code.start;
  expiry = code.expiry;
  scope = code.scope;
}

-- the login that the code of a dot began: its state is that of the code, which shows whether tokens
-- of the family may be active (own)
abbrev pub login_of : FactSet → ℕ → Dot → issued.CodeIssued → LoginFields
login_of F now d code = record {
  client = code.client;
  scope = code.scope;
  start = code.start;
  family_end = code.family_end;
  state = state_in F now (code_token d) (minted_code code) (record { code = d; issued = code });
}

-- the login that the code, if there is one, began, unless its family is over at the moment (own)
abbrev pub login_by_code : FactSet → ℕ → Dot → Option issued.CodeIssued → Option LoginFields
login_by_code F now d None = None
login_by_code F now d (Some code) =
    if nat_le code.family_end now then None else Some (login_of F now d code)

-- the login that the code of the dot began, if one was issued there, unless its family is over at
-- the moment (own)
abbrev pub login_view : FactSet → ℕ → Dot → Option LoginFields
login_view F now d = login_by_code F now d (issued_at (map.get F) d)

-- ---- the end of a login

-- the fact that redeems the code of the dot, the first by dot (RFC 6749, 4.1.3)
abbrev pub redemption_of : FactSet → Dot → Option (Dot × Body)
redemption_of F d = find (uses (code_token d)) (map.entries F)

-- the revocation, by the client, of the refresh token that the redemption minted (RFC 7009, 2.1)
abbrev pub revocation_by : Dot → Dot × Body → Option revoked.TokenRevoked
revocation_by client (d, CodeRedeemed f) =
    Some (record {
      token = refresh_token d;
      digest = f.refresh.digest;
      client = client;
      by = None;
    })
revocation_by client (d, body) = None

-- the revocation that ends the login of the code, if that was redeemed (RFC 7009, 2.1)
abbrev pub ending_by : FactSet → Dot → Option issued.CodeIssued → Option revoked.TokenRevoked
ending_by F d None = None
ending_by F d (Some code) = option_and_then (revocation_by code.client) (redemption_of F d)

-- the revocation that ends the login of the code of the dot, if that was redeemed: of the refresh
-- token that it was redeemed for, in the name of its client (RFC 7009, 2.1)
abbrev pub ending_of : FactSet → Dot → Option revoked.TokenRevoked
ending_of F d = ending_by F d (issued_at (map.get F) d)
