use Rattle.std.proofs.Common.{rules}
use Rattle.tk_fact.specs.FactBytes.{kinds}
use Rattle.tk_fact.proofs.BodyLaws.{client_written}
use Rattle.tk_fact.proofs.body.Body.write_fields.Goals as goal

pub returns-in-ClientAdded : goal.returns-in-ClientAdded
returns-in-ClientAdded c =
    client_written _ _ _ _ _ c.in-ClientAdded.is c.write.ensures

pub returns-in-ClientRetired : goal.returns-in-ClientRetired
unfolding kinds
returns-in-ClientRetired c = search rules

pub returns-in-ConsentGiven : goal.returns-in-ConsentGiven
unfolding kinds
returns-in-ConsentGiven c = search rules

pub returns-in-ConsentWithdrawn : goal.returns-in-ConsentWithdrawn
unfolding kinds
returns-in-ConsentWithdrawn c = search rules

pub returns-in-CodeIssued : goal.returns-in-CodeIssued
unfolding kinds
returns-in-CodeIssued c = search rules

pub returns-in-CodeRedeemed : goal.returns-in-CodeRedeemed
unfolding kinds
returns-in-CodeRedeemed c = search rules

pub returns-in-RefreshRotated : goal.returns-in-RefreshRotated
unfolding kinds
returns-in-RefreshRotated c = search rules

pub returns-in-TokenRevoked : goal.returns-in-TokenRevoked
unfolding kinds
returns-in-TokenRevoked c = search rules

pub returns-in-ReuseSeen : goal.returns-in-ReuseSeen
unfolding kinds
returns-in-ReuseSeen c = search rules

pub returns-in-SubjectOut : goal.returns-in-SubjectOut
unfolding kinds
returns-in-SubjectOut c = search rules

pub returns-in-AccessRefreshed : goal.returns-in-AccessRefreshed
unfolding kinds
returns-in-AccessRefreshed c = search rules

pub returns-in-SecretSet : goal.returns-in-SecretSet
unfolding kinds
returns-in-SecretSet c = search rules
