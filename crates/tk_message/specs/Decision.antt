-- Decisions: the reply to a request, and the fact that the request makes.
--   answered    a reply without a fact
--   refused     an error reply without a fact
--   postponed   a reply, without a fact, that the request may be sent again later
--   Passes      the body made, if any, passes the check of facts
use Rattle.std.specs.Prelude.{◌≡◌, Option, None, IfSome}
use Rattle.tk_fact.specs.Check.{refusal_of}
use Rattle.tk_fact.specs.declared.body.Body.{Body}
use Rattle.tk_message.specs.declared.decision.Decision.{Decision}
use Rattle.tk_message.specs.declared.error_code.ErrorCode.{ErrorCode}
use Rattle.tk_message.specs.ReplyFields.{ReplyFields}
use Rattle.tk_message.specs.Reply.{error_reply, later_reply}

-- a reply without a fact (own)
abbrev pub answered : ReplyFields → Decision
answered reply = record { reply = reply; made = None }

-- an error reply without a fact (RFC 6749, 5.2)
abbrev pub refused : ErrorCode → Decision
refused code = answered (error_reply code)

-- the request may be sent again later (RFC 7009, 2.2.1), and makes no fact
abbrev pub postponed : Decision
postponed = answered later_reply

-- the body made, if any, passes the check of facts (own)
abbrev pub Passes : Option Body → Type 0
Passes made = IfSome made (λ body. refusal_of body ≡ None)
