use Rattle.tk_fact.specs.FactBytes.{kinds}
use Rattle.tk_fact.proofs.BodyLaws.{client_fits, retirement_fits, consent_fits, withdrawal_fits}
use Rattle.tk_fact.proofs.BodyLaws.{revocation_fits, sign_out_fits, secret_fits}
use Rattle.tk_fact.proofs.body.Body.known.Goals as goal

pub returns-in-ClientAdded : goal.returns-in-ClientAdded
unfolding kinds
returns-in-ClientAdded c =
    rw c.in-ClientAdded.is ((client_fits _ _ _).1 c.known.ensures)

pub returns-in-ClientRetired : goal.returns-in-ClientRetired
unfolding kinds
returns-in-ClientRetired c = rw c.in-ClientRetired.is
    ((retirement_fits _ _).1
    (c.known-in-ClientRetired.ensures.fields, c.known-in-ClientRetired.ensures.by))

pub returns-in-ConsentGiven : goal.returns-in-ConsentGiven
unfolding kinds
returns-in-ConsentGiven c = rw c.in-ConsentGiven.is
    ((consent_fits _ _).1
    (c.known-in-ConsentGiven.ensures.fields, c.known-in-ConsentGiven.ensures.by))

pub returns-in-ConsentWithdrawn : goal.returns-in-ConsentWithdrawn
unfolding kinds
returns-in-ConsentWithdrawn c = rw c.in-ConsentWithdrawn.is
    ((withdrawal_fits _ _).1
    (c.known-in-ConsentWithdrawn.ensures.fields, c.known-in-ConsentWithdrawn.ensures.by))

pub returns-in-CodeIssued : goal.returns-in-CodeIssued
unfolding kinds
returns-in-CodeIssued c = rw c.in-CodeIssued.is c.known-in-CodeIssued.ensures

pub returns-in-CodeRedeemed : goal.returns-in-CodeRedeemed
unfolding kinds
returns-in-CodeRedeemed c = rw c.in-CodeRedeemed.is c.known-in-CodeRedeemed.ensures

pub returns-in-RefreshRotated : goal.returns-in-RefreshRotated
unfolding kinds
returns-in-RefreshRotated c = rw c.in-RefreshRotated.is c.known-in-RefreshRotated.ensures

pub returns-in-TokenRevoked : goal.returns-in-TokenRevoked
unfolding kinds
returns-in-TokenRevoked c = rw c.in-TokenRevoked.is
    ((revocation_fits _ _).1
    (c.known-in-TokenRevoked.ensures.fields, c.known-in-TokenRevoked.ensures.by))

pub returns-in-ReuseSeen : goal.returns-in-ReuseSeen
unfolding kinds
returns-in-ReuseSeen c = rw c.in-ReuseSeen.is c.known-in-ReuseSeen.ensures

pub returns-in-SubjectOut : goal.returns-in-SubjectOut
unfolding kinds
returns-in-SubjectOut c = rw c.in-SubjectOut.is
    ((sign_out_fits _ _).1 (c.known-in-SubjectOut.ensures.fields, c.known-in-SubjectOut.ensures.by))

pub returns-in-AccessRefreshed : goal.returns-in-AccessRefreshed
unfolding kinds
returns-in-AccessRefreshed c = rw c.in-AccessRefreshed.is c.known-in-AccessRefreshed.ensures

pub returns-in-SecretSet : goal.returns-in-SecretSet
unfolding kinds
returns-in-SecretSet c = rw c.in-SecretSet.is
    ((secret_fits _ _).1 (c.known-in-SecretSet.ensures.fields, c.known-in-SecretSet.ensures.by))
