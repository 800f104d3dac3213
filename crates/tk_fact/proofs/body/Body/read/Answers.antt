use Rattle.tk_fact.specs.declared.body.Body.TheVariants as bodies
use Rattle.tk_format.specs.Format.{◌⊗◌}
use Rattle.tk_handle.specs.DotBytes.{dot_field}
use Rattle.tk_fact.specs.Fields.{by_field}
use Rattle.tk_fact.specs.Followed.{bare, followed}
use Rattle.tk_fact.specs.Kinds as fields
use Rattle.tk_fact.specs.FactBytes.{kinds}
use Rattle.tk_fact.proofs.BodyLaws.{behind_byte, made_of, none_of, fails_as, made_by, fails_by}
use Rattle.tk_fact.proofs.body.Body.read.Goals as goal

pub returns-in_ok-read-in-1 : goal.returns-in_ok-read-in-1
unfolding kinds
returns-in_ok-read-in-1 c = behind_byte _ _ _ 1 _ c.in-Some.ensures.read c.in-1.is
    (made_by bodies.ClientAdded (bare fields.unlimited) fields.client_terms _ _ _
    c.in_ok-read-in-1.ensures)

pub returns-in_err-read-in-1 : goal.returns-in_err-read-in-1
unfolding kinds
returns-in_err-read-in-1 c =
    fails_by bodies.ClientAdded (bare fields.unlimited) fields.client_terms _ _ _ _ _
    c.from_residual.ensures.1 c.in_err-read-in-1.ensures
    (behind_byte _ _ _ 1 _ c.in-Some.ensures.read c.in-1.is)

pub returns-in_ok-read-in-2 : goal.returns-in_ok-read-in-2
unfolding kinds
returns-in_ok-read-in-2 c = behind_byte _ _ _ 2 _ c.in-Some.ensures.read c.in-2.is
    (made_by bodies.ClientRetired (bare fields.retirement_on) dot_field _ _ _
    c.in_ok-read-in-2.ensures)

pub returns-in_err-read-in-2 : goal.returns-in_err-read-in-2
unfolding kinds
returns-in_err-read-in-2 c =
    fails_by bodies.ClientRetired (bare fields.retirement_on) dot_field _ _ _ _ _
    c.from_residual-in_err-read-in-2.ensures.1 c.in_err-read-in-2.ensures
    (behind_byte _ _ _ 2 _ c.in-Some.ensures.read c.in-2.is)

pub returns-in_ok-read-in-3 : goal.returns-in_ok-read-in-3
unfolding kinds
returns-in_ok-read-in-3 c = behind_byte _ _ _ 3 _ c.in-Some.ensures.read c.in-3.is
    (made_by bodies.ConsentGiven (bare fields.consent_on) fields.consent_terms _ _ _
    c.in_ok-read-in-3.ensures)

pub returns-in_err-read-in-3 : goal.returns-in_err-read-in-3
unfolding kinds
returns-in_err-read-in-3 c =
    fails_by bodies.ConsentGiven (bare fields.consent_on) fields.consent_terms _ _ _ _ _
    c.from_residual-in_err-read-in-3.ensures.1 c.in_err-read-in-3.ensures
    (behind_byte _ _ _ 3 _ c.in-Some.ensures.read c.in-3.is)

pub returns-in_ok-read-in-4 : goal.returns-in_ok-read-in-4
unfolding kinds
returns-in_ok-read-in-4 c = behind_byte _ _ _ 4 _ c.in-Some.ensures.read c.in-4.is
    (made_by bodies.ConsentWithdrawn (bare fields.withdrawal_on) dot_field _ _ _
    c.in_ok-read-in-4.ensures)

pub returns-in_err-read-in-4 : goal.returns-in_err-read-in-4
unfolding kinds
returns-in_err-read-in-4 c =
    fails_by bodies.ConsentWithdrawn (bare fields.withdrawal_on) dot_field _ _ _ _ _
    c.from_residual-in_err-read-in-4.ensures.1 c.in_err-read-in-4.ensures
    (behind_byte _ _ _ 4 _ c.in-Some.ensures.read c.in-4.is)

pub returns-in_ok-read-in-5 : goal.returns-in_ok-read-in-5
unfolding kinds
returns-in_ok-read-in-5 c = behind_byte _ _ _ 5 _ c.in-Some.ensures.read c.in-5.is
    (made_of bodies.CodeIssued fields.code_issued _ _ _ c.in_ok-read-in-5.ensures)

pub returns-in_err-read-in-5 : goal.returns-in_err-read-in-5
unfolding kinds
returns-in_err-read-in-5 c = fails_as bodies.CodeIssued fields.code_issued _ _ _ _ _
    c.from_residual-in_err-read-in-5.ensures.1 c.in_err-read-in-5.ensures
    (behind_byte _ _ _ 5 _ c.in-Some.ensures.read c.in-5.is)

pub returns-in_ok-read-in-6 : goal.returns-in_ok-read-in-6
unfolding kinds
returns-in_ok-read-in-6 c = behind_byte _ _ _ 6 _ c.in-Some.ensures.read c.in-6.is
    (made_of bodies.CodeRedeemed fields.code_redeemed _ _ _ c.in_ok-read-in-6.ensures)

pub returns-in_err-read-in-6 : goal.returns-in_err-read-in-6
unfolding kinds
returns-in_err-read-in-6 c = fails_as bodies.CodeRedeemed fields.code_redeemed _ _ _ _ _
    c.from_residual-in_err-read-in-6.ensures.1 c.in_err-read-in-6.ensures
    (behind_byte _ _ _ 6 _ c.in-Some.ensures.read c.in-6.is)

pub returns-in_ok-read-in-7 : goal.returns-in_ok-read-in-7
unfolding kinds
returns-in_ok-read-in-7 c = behind_byte _ _ _ 7 _ c.in-Some.ensures.read c.in-7.is
    (made_of bodies.RefreshRotated fields.refresh_rotated _ _ _ c.in_ok-read-in-7.ensures)

pub returns-in_err-read-in-7 : goal.returns-in_err-read-in-7
unfolding kinds
returns-in_err-read-in-7 c = fails_as bodies.RefreshRotated fields.refresh_rotated _ _ _ _ _
    c.from_residual-in_err-read-in-7.ensures.1 c.in_err-read-in-7.ensures
    (behind_byte _ _ _ 7 _ c.in-Some.ensures.read c.in-7.is)

pub returns-in_ok-read-in-8 : goal.returns-in_ok-read-in-8
unfolding kinds
returns-in_ok-read-in-8 c = behind_byte _ _ _ 8 _ c.in-Some.ensures.read c.in-8.is
    (made_by bodies.TokenRevoked (bare fields.revocation_on) fields.revocation_terms _ _ _
    c.in_ok-read-in-8.ensures)

pub returns-in_err-read-in-8 : goal.returns-in_err-read-in-8
unfolding kinds
returns-in_err-read-in-8 c =
    fails_by bodies.TokenRevoked (bare fields.revocation_on) fields.revocation_terms _ _ _ _ _
    c.from_residual-in_err-read-in-8.ensures.1 c.in_err-read-in-8.ensures
    (behind_byte _ _ _ 8 _ c.in-Some.ensures.read c.in-8.is)

pub returns-in-Some-read : goal.returns-in-Some-read
unfolding kinds
returns-in-Some-read c = behind_byte _ _ _ 9 _ c.in-Some.ensures.read c.in-9.is
    (made_of bodies.ReuseSeen fields.reuse_seen _ _ _ c.in-Some-read.ensures)

pub returns-in-None : goal.returns-in-None
unfolding kinds
returns-in-None c = behind_byte _ _ _ 9 _ c.in-Some.ensures.read c.in-9.is
    (none_of bodies.ReuseSeen fields.reuse_seen _ c.in-None.ensures)

pub returns-in_ok-read-in-10 : goal.returns-in_ok-read-in-10
unfolding kinds
returns-in_ok-read-in-10 c = behind_byte _ _ _ 10 _ c.in-Some.ensures.read c.in-10.is
    (made_by bodies.SubjectOut (bare fields.sign_out_on) fields.sign_out_terms _ _ _
    c.in_ok-read-in-10.ensures)

pub returns-in_err-read-in-10 : goal.returns-in_err-read-in-10
unfolding kinds
returns-in_err-read-in-10 c =
    fails_by bodies.SubjectOut (bare fields.sign_out_on) fields.sign_out_terms _ _ _ _ _
    c.from_residual-in_err-read-in-10.ensures.1 c.in_err-read-in-10.ensures
    (behind_byte _ _ _ 10 _ c.in-Some.ensures.read c.in-10.is)

pub returns-in_ok-read-in-12 : goal.returns-in_ok-read-in-12
unfolding kinds
returns-in_ok-read-in-12 c = behind_byte _ _ _ 12 _ c.in-Some.ensures.read c.in-12.is
    (made_of bodies.AccessRefreshed fields.access_refreshed _ _ _ c.in_ok-read-in-12.ensures)

pub returns-in_err-read-in-12 : goal.returns-in_err-read-in-12
unfolding kinds
returns-in_err-read-in-12 c = fails_as bodies.AccessRefreshed fields.access_refreshed _ _ _ _ _
    c.from_residual-in_err-read-in-12.ensures.1 c.in_err-read-in-12.ensures
    (behind_byte _ _ _ 12 _ c.in-Some.ensures.read c.in-12.is)

pub returns-in_ok-read_limited-in-13 : goal.returns-in_ok-read_limited-in-13
unfolding kinds
returns-in_ok-read_limited-in-13 c = behind_byte _ _ _ 13 _ c.in-Some.ensures.read c.in-13.is
    (made_by bodies.ClientAdded (bare fields.limited) fields.limited_terms _ _ _
    c.in_ok-read_limited-in-13.ensures)

pub returns-in_err-read_limited-in-13 : goal.returns-in_err-read_limited-in-13
unfolding kinds
returns-in_err-read_limited-in-13 c =
    fails_by bodies.ClientAdded (bare fields.limited) fields.limited_terms _ _ _ _ _
    c.from_residual-in_err-read_limited-in-13.ensures.1 c.in_err-read_limited-in-13.ensures
    (behind_byte _ _ _ 13 _ c.in-Some.ensures.read c.in-13.is)

pub returns-in_ok-read-in-15 : goal.returns-in_ok-read-in-15
unfolding kinds
returns-in_ok-read-in-15 c = behind_byte _ _ _ 15 _ c.in-Some.ensures.read c.in-15.is
    (made_by bodies.SecretSet (bare fields.secret_on) fields.secret_terms _ _ _
    c.in_ok-read-in-15.ensures)

pub returns-in_err-read-in-15 : goal.returns-in_err-read-in-15
unfolding kinds
returns-in_err-read-in-15 c =
    fails_by bodies.SecretSet (bare fields.secret_on) fields.secret_terms _ _ _ _ _
    c.from_residual-in_err-read-in-15.ensures.1 c.in_err-read-in-15.ensures
    (behind_byte _ _ _ 15 _ c.in-Some.ensures.read c.in-15.is)

pub returns-in_ok-read_by-in-16 : goal.returns-in_ok-read_by-in-16
unfolding kinds
returns-in_ok-read_by-in-16 c = behind_byte _ _ _ 16 _ c.in-Some.ensures.read c.in-16.is
    (made_by bodies.ClientAdded (followed fields.unlimited) (fields.client_terms ⊗ by_field) _ _ _
    c.in_ok-read_by-in-16.ensures)

pub returns-in_err-read_by-in-16 : goal.returns-in_err-read_by-in-16
unfolding kinds
returns-in_err-read_by-in-16 c =
    fails_by bodies.ClientAdded (followed fields.unlimited) (fields.client_terms ⊗ by_field) _ _ _ _
    _
    c.from_residual-in_err-read_by-in-16.ensures.1 c.in_err-read_by-in-16.ensures
    (behind_byte _ _ _ 16 _ c.in-Some.ensures.read c.in-16.is)

pub returns-in_ok-read_limited_by-in-17 : goal.returns-in_ok-read_limited_by-in-17
unfolding kinds
returns-in_ok-read_limited_by-in-17 c = behind_byte _ _ _ 17 _ c.in-Some.ensures.read c.in-17.is
    (made_by bodies.ClientAdded (followed fields.limited) (fields.limited_terms ⊗ by_field) _ _ _
    c.in_ok-read_limited_by-in-17.ensures)

pub returns-in_err-read_limited_by-in-17 : goal.returns-in_err-read_limited_by-in-17
unfolding kinds
returns-in_err-read_limited_by-in-17 c =
    fails_by bodies.ClientAdded (followed fields.limited) (fields.limited_terms ⊗ by_field) _ _ _ _
    _
    c.from_residual-in_err-read_limited_by-in-17.ensures.1 c.in_err-read_limited_by-in-17.ensures
    (behind_byte _ _ _ 17 _ c.in-Some.ensures.read c.in-17.is)

pub returns-in_ok-read_by-in-18 : goal.returns-in_ok-read_by-in-18
unfolding kinds
returns-in_ok-read_by-in-18 c = behind_byte _ _ _ 18 _ c.in-Some.ensures.read c.in-18.is
    (made_by bodies.ClientRetired (followed fields.retirement_on) (dot_field ⊗ by_field) _ _ _
    c.in_ok-read_by-in-18.ensures)

pub returns-in_err-read_by-in-18 : goal.returns-in_err-read_by-in-18
unfolding kinds
returns-in_err-read_by-in-18 c =
    fails_by bodies.ClientRetired (followed fields.retirement_on) (dot_field ⊗ by_field) _ _ _ _ _
    c.from_residual-in_err-read_by-in-18.ensures.1 c.in_err-read_by-in-18.ensures
    (behind_byte _ _ _ 18 _ c.in-Some.ensures.read c.in-18.is)

pub returns-in_ok-read_by-in-19 : goal.returns-in_ok-read_by-in-19
unfolding kinds
returns-in_ok-read_by-in-19 c = behind_byte _ _ _ 19 _ c.in-Some.ensures.read c.in-19.is
    (made_by bodies.ConsentGiven (followed fields.consent_on) (fields.consent_terms ⊗ by_field) _ _
    _ c.in_ok-read_by-in-19.ensures)

pub returns-in_err-read_by-in-19 : goal.returns-in_err-read_by-in-19
unfolding kinds
returns-in_err-read_by-in-19 c =
    fails_by bodies.ConsentGiven (followed fields.consent_on) (fields.consent_terms ⊗ by_field) _ _
    _ _ _
    c.from_residual-in_err-read_by-in-19.ensures.1 c.in_err-read_by-in-19.ensures
    (behind_byte _ _ _ 19 _ c.in-Some.ensures.read c.in-19.is)

pub returns-in_ok-read_by-in-20 : goal.returns-in_ok-read_by-in-20
unfolding kinds
returns-in_ok-read_by-in-20 c = behind_byte _ _ _ 20 _ c.in-Some.ensures.read c.in-20.is
    (made_by bodies.ConsentWithdrawn (followed fields.withdrawal_on) (dot_field ⊗ by_field) _ _ _
    c.in_ok-read_by-in-20.ensures)

pub returns-in_err-read_by-in-20 : goal.returns-in_err-read_by-in-20
unfolding kinds
returns-in_err-read_by-in-20 c =
    fails_by bodies.ConsentWithdrawn (followed fields.withdrawal_on) (dot_field ⊗ by_field) _ _ _ _
    _
    c.from_residual-in_err-read_by-in-20.ensures.1 c.in_err-read_by-in-20.ensures
    (behind_byte _ _ _ 20 _ c.in-Some.ensures.read c.in-20.is)

pub returns-in_ok-read_by-in-21 : goal.returns-in_ok-read_by-in-21
unfolding kinds
returns-in_ok-read_by-in-21 c = behind_byte _ _ _ 21 _ c.in-Some.ensures.read c.in-21.is
    (made_by bodies.TokenRevoked (followed fields.revocation_on)
    (fields.revocation_terms ⊗ by_field) _ _ _ c.in_ok-read_by-in-21.ensures)

pub returns-in_err-read_by-in-21 : goal.returns-in_err-read_by-in-21
unfolding kinds
returns-in_err-read_by-in-21 c =
    fails_by bodies.TokenRevoked (followed fields.revocation_on)
    (fields.revocation_terms ⊗ by_field) _ _ _ _ _
    c.from_residual-in_err-read_by-in-21.ensures.1 c.in_err-read_by-in-21.ensures
    (behind_byte _ _ _ 21 _ c.in-Some.ensures.read c.in-21.is)

pub returns-in_ok-read_by-in-22 : goal.returns-in_ok-read_by-in-22
unfolding kinds
returns-in_ok-read_by-in-22 c = behind_byte _ _ _ 22 _ c.in-Some.ensures.read c.in-22.is
    (made_by bodies.SubjectOut (followed fields.sign_out_on) (fields.sign_out_terms ⊗ by_field) _ _
    _ c.in_ok-read_by-in-22.ensures)

pub returns-in_err-read_by-in-22 : goal.returns-in_err-read_by-in-22
unfolding kinds
returns-in_err-read_by-in-22 c =
    fails_by bodies.SubjectOut (followed fields.sign_out_on) (fields.sign_out_terms ⊗ by_field) _ _
    _ _ _
    c.from_residual-in_err-read_by-in-22.ensures.1 c.in_err-read_by-in-22.ensures
    (behind_byte _ _ _ 22 _ c.in-Some.ensures.read c.in-22.is)

pub returns-in_ok-read_by-in-23 : goal.returns-in_ok-read_by-in-23
unfolding kinds
returns-in_ok-read_by-in-23 c = behind_byte _ _ _ 23 _ c.in-Some.ensures.read c.in-23.is
    (made_by bodies.SecretSet (followed fields.secret_on) (fields.secret_terms ⊗ by_field) _ _ _
    c.in_ok-read_by-in-23.ensures)

pub returns-in_err-read_by-in-23 : goal.returns-in_err-read_by-in-23
unfolding kinds
returns-in_err-read_by-in-23 c =
    fails_by bodies.SecretSet (followed fields.secret_on) (fields.secret_terms ⊗ by_field) _ _ _ _ _
    c.from_residual-in_err-read_by-in-23.ensures.1 c.in_err-read_by-in-23.ensures
    (behind_byte _ _ _ 23 _ c.in-Some.ensures.read c.in-23.is)
