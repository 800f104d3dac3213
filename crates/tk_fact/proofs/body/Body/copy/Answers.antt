use Rattle.std.proofs.Common.{refl}
use Rattle.tk_fact.specs.declared.body.Body.TheVariants as bodies
use Rattle.tk_fact.proofs.BodyLaws.{no_copy, copy_of}
use Rattle.tk_fact.proofs.body.Body.copy.Goals as goal

pub returns-in_ok-copy-in-ClientAdded : goal.returns-in_ok-copy-in-ClientAdded
returns-in_ok-copy-in-ClientAdded c =
    copy_of bodies.ClientAdded _ _ _ c.in_ok-copy-in-ClientAdded.ensures c.in-ClientAdded.is

pub returns-in_err-copy-in-ClientAdded : goal.returns-in_err-copy-in-ClientAdded
returns-in_err-copy-in-ClientAdded c = no_copy _ _ c.from_residual.ensures.0

pub returns-in_ok-copy-in-ClientRetired : goal.returns-in_ok-copy-in-ClientRetired
returns-in_ok-copy-in-ClientRetired c =
    copy_of bodies.ClientRetired _ _ _ c.in_ok-copy-in-ClientRetired.ensures c.in-ClientRetired.is

pub returns-in_err-copy-in-ClientRetired : goal.returns-in_err-copy-in-ClientRetired
returns-in_err-copy-in-ClientRetired c =
    no_copy _ _ c.from_residual-in_err-copy-in-ClientRetired.ensures.0

pub returns-in_ok-copy-in-ConsentGiven : goal.returns-in_ok-copy-in-ConsentGiven
returns-in_ok-copy-in-ConsentGiven c =
    copy_of bodies.ConsentGiven _ _ _ c.in_ok-copy-in-ConsentGiven.ensures c.in-ConsentGiven.is

pub returns-in_err-copy-in-ConsentGiven : goal.returns-in_err-copy-in-ConsentGiven
returns-in_err-copy-in-ConsentGiven c =
    no_copy _ _ c.from_residual-in_err-copy-in-ConsentGiven.ensures.0

pub returns-in_ok-copy-in-ConsentWithdrawn : goal.returns-in_ok-copy-in-ConsentWithdrawn
returns-in_ok-copy-in-ConsentWithdrawn c =
    copy_of bodies.ConsentWithdrawn _ _ _ c.in_ok-copy-in-ConsentWithdrawn.ensures
    c.in-ConsentWithdrawn.is

pub returns-in_err-copy-in-ConsentWithdrawn : goal.returns-in_err-copy-in-ConsentWithdrawn
returns-in_err-copy-in-ConsentWithdrawn c =
    no_copy _ _ c.from_residual-in_err-copy-in-ConsentWithdrawn.ensures.0

pub returns-in_ok-copy-in-CodeIssued : goal.returns-in_ok-copy-in-CodeIssued
returns-in_ok-copy-in-CodeIssued c =
    copy_of bodies.CodeIssued _ _ _ c.in_ok-copy-in-CodeIssued.ensures c.in-CodeIssued.is

pub returns-in_err-copy-in-CodeIssued : goal.returns-in_err-copy-in-CodeIssued
returns-in_err-copy-in-CodeIssued c =
    no_copy _ _ c.from_residual-in_err-copy-in-CodeIssued.ensures.0

pub returns-in_ok-copy-in-CodeRedeemed : goal.returns-in_ok-copy-in-CodeRedeemed
returns-in_ok-copy-in-CodeRedeemed c =
    copy_of bodies.CodeRedeemed _ _ _ c.in_ok-copy-in-CodeRedeemed.ensures c.in-CodeRedeemed.is

pub returns-in_err-copy-in-CodeRedeemed : goal.returns-in_err-copy-in-CodeRedeemed
returns-in_err-copy-in-CodeRedeemed c =
    no_copy _ _ c.from_residual-in_err-copy-in-CodeRedeemed.ensures.0

pub returns-in_ok-copy-in-RefreshRotated : goal.returns-in_ok-copy-in-RefreshRotated
returns-in_ok-copy-in-RefreshRotated c = copy_of bodies.RefreshRotated _ _ _
    c.in_ok-copy-in-RefreshRotated.ensures c.in-RefreshRotated.is

pub returns-in_err-copy-in-RefreshRotated : goal.returns-in_err-copy-in-RefreshRotated
returns-in_err-copy-in-RefreshRotated c =
    no_copy _ _ c.from_residual-in_err-copy-in-RefreshRotated.ensures.0

pub returns-in_ok-copy-in-TokenRevoked : goal.returns-in_ok-copy-in-TokenRevoked
returns-in_ok-copy-in-TokenRevoked c =
    copy_of bodies.TokenRevoked _ _ _ c.in_ok-copy-in-TokenRevoked.ensures c.in-TokenRevoked.is

pub returns-in_err-copy-in-TokenRevoked : goal.returns-in_err-copy-in-TokenRevoked
returns-in_err-copy-in-TokenRevoked c =
    no_copy _ _ c.from_residual-in_err-copy-in-TokenRevoked.ensures.0

pub returns-in-ReuseSeen : goal.returns-in-ReuseSeen
returns-in-ReuseSeen c = copy_of bodies.ReuseSeen _ _ _ refl c.in-ReuseSeen.is

pub returns-in_ok-copy-in-SubjectOut : goal.returns-in_ok-copy-in-SubjectOut
returns-in_ok-copy-in-SubjectOut c =
    copy_of bodies.SubjectOut _ _ _ c.in_ok-copy-in-SubjectOut.ensures c.in-SubjectOut.is

pub returns-in_err-copy-in-SubjectOut : goal.returns-in_err-copy-in-SubjectOut
returns-in_err-copy-in-SubjectOut c =
    no_copy _ _ c.from_residual-in_err-copy-in-SubjectOut.ensures.0

pub returns-in_ok-copy-in-AccessRefreshed : goal.returns-in_ok-copy-in-AccessRefreshed
returns-in_ok-copy-in-AccessRefreshed c =
    copy_of bodies.AccessRefreshed _ _ _ c.in_ok-copy-in-AccessRefreshed.ensures
    c.in-AccessRefreshed.is

pub returns-in_err-copy-in-AccessRefreshed : goal.returns-in_err-copy-in-AccessRefreshed
returns-in_err-copy-in-AccessRefreshed c =
    no_copy _ _ c.from_residual-in_err-copy-in-AccessRefreshed.ensures.0

pub returns-in_ok-copy-in-SecretSet : goal.returns-in_ok-copy-in-SecretSet
returns-in_ok-copy-in-SecretSet c =
    copy_of bodies.SecretSet _ _ _ c.in_ok-copy-in-SecretSet.ensures c.in-SecretSet.is

pub returns-in_err-copy-in-SecretSet : goal.returns-in_err-copy-in-SecretSet
returns-in_err-copy-in-SecretSet c =
    no_copy _ _ c.from_residual-in_err-copy-in-SecretSet.ensures.0
