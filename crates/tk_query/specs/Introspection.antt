-- The reply to an introspection request (RFC 7662, 2.2). Facts, moment, request and the choice of
-- who sees refresh tokens determine the reply: no region number, serial, life or random word is
-- among the arguments.
--   told               the reply by the outcome of introspection
--   introspection_of   the reply to a request
use Rattle.std.specs.Prelude.{ℕ}
use Rattle.tk_store.specs.StoreFields.{StoreFields, held_facts}
use Rattle.tk_message.specs.declared.status_code.StatusCode.TheVariants.{Ok}
use Rattle.tk_message.specs.Bodies.{access_body, refresh_body, standing_body}
use Rattle.tk_message.specs.Caller.{caller_of}
use Rattle.tk_message.specs.Reply.{error_reply, inactive_reply, json_reply}
use Rattle.tk_message.specs.ReplyFields.{ReplyFields}
use Rattle.tk_message.specs.RequestFields.{RequestFields}
use Rattle.tk_message.specs.declared.choices.RefreshSeen.{RefreshSeen}
use Rattle.tk_query.specs.declared.introspected.Introspected.{Introspected}
use Rattle.tk_query.specs.declared.introspected.Introspected.TheVariants.{
  Refused,
  Inactive,
  Access,
  Refresh,
}
use Rattle.tk_query.specs.Caller.{known_names}
use Rattle.tk_query.specs.Introspected.{introspected_by_caller}
use Rattle.tk_query.specs.Refusal.{refusal_code}

-- the reply by the outcome of introspection: an error (RFC 7662, 2.3), or what the sender may know
-- of the token (RFC 7662, 2.2)
abbrev pub told : Introspected → ReplyFields
told (Refused why) = error_reply (refusal_code why)
told Inactive = inactive_reply
told (Access s) = json_reply Ok (standing_body access_body s)
told (Refresh s) = json_reply Ok (standing_body refresh_body s)

-- the reply to an introspection request (RFC 7662, 2.2)
abbrev pub introspection_of : StoreFields → RefreshSeen → ℕ → RequestFields → ReplyFields
introspection_of P seen now request =
    told
    (introspected_by_caller P seen now request.params
    (caller_of (held_facts P) known_names request))
