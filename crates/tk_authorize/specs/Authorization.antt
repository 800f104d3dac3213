-- The decision of an authorization request (RFC 6749, 4.1.2 and 4.1.2.1).
--   authorization_of   the decision of a request
--   kept_state         the state that is sent back
--   code_handle        the handle of a code
--   code_issued        the fact that a code was issued
--   code_reply         the redirect that takes a code to the client
use Rattle.std.specs.Prelude.{
  ℕ,
  if◌then◌else◌,
  List,
  [],
  ◌∷◌,
  codes,
  slice_index,
  Option,
  Some,
  None,
}
use Rattle.tk_handle.specs.declared.dot.Dot.{Dot}
use Rattle.tk_handle.specs.declared.kind.Kind.TheVariants as kind
use Rattle.tk_handle.specs.declared.handle.Handle.{Handle}
use Rattle.tk_handle.specs.Handle.{handle_text}
use Rattle.tk_handle.specs.Moment.{moment_plus}
use Rattle.tk_fact.specs.declared.body.Body.TheVariants as body
use Rattle.tk_fact.specs.declared.code_issued.CodeIssued.{CodeIssued}
use Rattle.tk_store.specs.FactSet.{FactSet}
use Rattle.tk_ledger.specs.Status.{digest_of}
use Rattle.tk_params.specs.Params.{value_of}
use Rattle.tk_message.specs.declared.decision.Decision.{Decision}
use Rattle.tk_message.specs.declared.place.Place.{Place}
use Rattle.tk_message.specs.declared.reply.Reply.{Reply}
use Rattle.tk_message.specs.Decision.{answered, refused}
use Rattle.tk_message.specs.ErrorCode.{error_name}
use Rattle.tk_message.specs.Lives.{lives_within}
use Rattle.tk_message.specs.Place.{next_in}
use Rattle.tk_message.specs.Reply.{redirect_reply}
use Rattle.tk_message.specs.RequestFields.{RequestFields}
use Rattle.tk_authorize.specs.declared.approval.Approval.{Approval}
use Rattle.tk_authorize.specs.declared.judged.Judged.{Judged}
use Rattle.tk_authorize.specs.declared.judged.Judged.TheVariants.{Refused, Denied, Approved}
use Rattle.tk_authorize.specs.declared.judged.Target.{Target}
use Rattle.tk_authorize.specs.Asked.{is_state}
use Rattle.tk_authorize.specs.Denial.{denial_code}
use Rattle.tk_authorize.specs.Judged.{judged_of}
use Rattle.tk_authorize.specs.Refusal.{refusal_code}

-- the state as it was sent, if it may be sent back (RFC 6749, 4.1.2 and appendix A.5)
abbrev pub kept_state : Option (List ℕ) → Option (List ℕ)
kept_state state = if is_state state then state else None

-- the handle of the code at the dot, of the first three random words (own)
abbrev pub code_handle : Dot → List ℕ → Handle
code_handle next words = record {
  id = record { dot = next; kind = kind.Code };
  words = slice_index words 0 ∷ slice_index words 1 ∷ slice_index words 2 ∷ [];
}

-- the fact that a code was issued. The code and its family start now, and each has its own life
-- (RFC 6749, 4.1.2; the family's life, which the client's bounds, is own)
abbrev pub code_issued : Place → ℕ → Handle → Target → Approval → CodeIssued
code_issued place now code target approval = record {
  client = target.client;
  consent = approval.consent;
  digest = digest_of code;
  start = now;
  expiry = moment_plus now place.lives.code;
  family_end = moment_plus now (lives_within place.lives target.lives).family;
  subject = approval.subject;
  scope = approval.scope;
  uri = target.uri;
  sent = target.sent;
  challenge = approval.challenge;
}

-- the redirect that takes a code to the client (RFC 6749, 4.1.2)
abbrev pub code_reply : List ℕ → Handle → Option (List ℕ) → Reply
code_reply uri code state = redirect_reply uri (codes "code") (handle_text code) state

-- the decision by a judgement: an error in place (RFC 6749, 3.1.2.4), an error at the URI (RFC
-- 6749, 4.1.2.1), or a code at the URI and the fact that it was issued (RFC 6749, 4.1.2)
abbrev pub decided_by : Place → ℕ → List ℕ → Option (List ℕ) → Judged → Decision
decided_by place now words state (Refused why) = refused (refusal_code why)
decided_by place now words state (Denied target why) =
    answered (redirect_reply target.uri (codes "error") (error_name (denial_code why)) state)
decided_by place now words state (Approved target approval) = record {
  reply = code_reply target.uri (code_handle (next_in place) words) state;
  made = Some (body.CodeIssued (code_issued place now (code_handle (next_in place) words) target
      approval));
}

-- the decision of an authorization request (RFC 6749, 4.1.2 and 4.1.2.1)
abbrev pub authorization_of : FactSet → Place → ℕ → List ℕ → RequestFields → Decision
authorization_of F place now words request =
    decided_by place now words (kept_state (value_of (codes "state") request.params))
    (judged_of F place.choices.challenge request.params request.subject)
