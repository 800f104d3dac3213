-- Approvals: what a code is issued for, or why the request is denied (RFC 6749, 4.1.1 and 4.1.2.1).
--   approval_of   the scope and challenge requested, with the subject and consent; or a denial
use Rattle.std.specs.Prelude.{ℕ, if◌then◌else◌, List, Option, Some, None, Result, Ok, Err}
use Rattle.tk_handle.specs.declared.dot.Dot.{Dot}
use Rattle.tk_fact.specs.Subject.{is_subject}
use Rattle.tk_store.specs.FactSet.{FactSet}
use Rattle.tk_ledger.specs.Clients.{consent_for}
use Rattle.tk_authorize.specs.declared.approval.Approval.{Approval}
use Rattle.tk_authorize.specs.declared.asked.Asked.{Asked}
use Rattle.tk_authorize.specs.declared.denial.Denial.{Denial}
use Rattle.tk_authorize.specs.declared.denial.Denial.TheVariants as denial

-- the approval by a consent. Without one that includes the scope, the request is denied (RFC 6749,
-- 4.1.2.1)
abbrev pub approval_by_consent : List ℕ → Asked → Option Dot → Result Approval Denial
approval_by_consent subject asked None = Err denial.MissingConsent
approval_by_consent subject asked (Some consent) =
    Ok (record {
      consent = consent;
      subject = subject;
      scope = asked.scope;
      challenge = asked.challenge;
    })

-- the approval by the least consent of the subject for the scope. A subject must have signed in
-- (RFC 6749, 3.1) under the name of one (own)
abbrev pub approval_by_subject : FactSet → Dot → Asked → Option (List ℕ) → Result Approval Denial
approval_by_subject F client asked None = Err denial.MissingSubject
approval_by_subject F client asked (Some subject) =
    if is_subject subject then approval_by_consent subject asked
    (consent_for F client subject asked.scope)
    else Err denial.MalformedSubject

-- the approval of what the parameters request (RFC 6749, 4.1.1). A denial for the parameters is
-- returned before one for the subject or the consent (own)
abbrev pub approval_of : FactSet → Dot → Option (List ℕ) → Result Asked Denial
    → Result Approval Denial
approval_of F client subject (Err why) = Err why
approval_of F client subject (Ok asked) = approval_by_subject F client asked subject
