-- What a server counts since its start (own). A sum that is beyond a `u64` is the greatest `u64`.
--   sum_of       a count with more
--   with_status  the replies of a path, with one more of a status
--   with_reply   the replies of all paths, with one more
--   last_push    when the last push was taken in
--   with_end     the counts with one more request
--   first_tally  nothing is counted
use Rattle.std.specs.Prelude.{ℕ, ◌+◌, ◌-◌, ◌^◌, min, Option, None, Some, Result, Ok, Err}
use Rattle.tk_edge.specs.declared.edge.Served.{Served}
use Rattle.tk_edge.specs.declared.edge.Served.TheVariants.{Nothing, Done}
use Rattle.tk_edge.specs.declared.notice.Notice.TheVariants.{Discovery, Health, Metrics}
use Rattle.tk_edge.specs.declared.path.Path.{Path}
use Rattle.tk_edge.specs.declared.path.Path.TheVariants as named
use Rattle.tk_edge.specs.declared.reach.PathSet.{PathSet}
use Rattle.tk_edge.specs.declared.reach.PathSet.TheVariants.{Clients}
use Rattle.tk_edge.specs.declared.tell.Fault.{Fault}
use Rattle.tk_edge.specs.declared.tell.Fault.TheVariants.{Read, Write, Log, Memory}
use Rattle.tk_message.specs.declared.status_code.StatusCode.{StatusCode}
use Rattle.tk_message.specs.declared.status_code.StatusCode.TheVariants as code
use Rattle.tokend.specs.declared.metrics.Counts.{Counts}
use Rattle.tokend.specs.declared.metrics.Replies.{Replies}
use Rattle.tokend.specs.declared.metrics.Statuses.{Statuses}
use Rattle.tokend.specs.declared.metrics.Tally.{Tally}

-- a count with some more
abbrev pub sum_of : ℕ → ℕ → ℕ
sum_of count more = min (count + more) (2 ^ 64 - 1)

-- the replies of a path, with one more of this status (RFC 9110, 15)
abbrev pub with_status : StatusCode → Statuses → Statuses
with_status code.Ok s = record s { ok = sum_of s.ok 1 }
with_status code.Created s = record s { created = sum_of s.created 1 }
with_status code.Found s = record s { found = sum_of s.found 1 }
with_status code.BadRequest s = record s { bad_request = sum_of s.bad_request 1 }
with_status code.Unauthorized s = record s { unauthorized = sum_of s.unauthorized 1 }
with_status code.NotFound s = record s { not_found = sum_of s.not_found 1 }
with_status code.MethodNotAllowed s = record s { not_allowed = sum_of s.not_allowed 1 }
with_status code.Conflict s = record s { conflict = sum_of s.conflict 1 }
with_status code.LengthRequired s = record s { no_length = sum_of s.no_length 1 }
with_status code.ContentTooLarge s = record s { too_large = sum_of s.too_large 1 }
with_status code.ServiceUnavailable s = record s { unavailable = sum_of s.unavailable 1 }

-- the replies with one more of this status, to a request that names this path; one that names none
-- is among the unknown
abbrev pub with_reply : Option Path → StatusCode → Replies → Replies
with_reply (Some named.Authorize) status r = record r { authorize = with_status status r.authorize }
with_reply (Some named.Token) status r = record r { token = with_status status r.token }
with_reply (Some named.Introspect) status r =
    record r { introspect = with_status status r.introspect }
with_reply (Some named.Revoke) status r = record r { revoke = with_status status r.revoke }
with_reply (Some named.Client) status r = record r { client = with_status status r.client }
with_reply (Some named.Clients) status r = record r { clients = with_status status r.clients }
with_reply (Some named.Retire) status r = record r { retire = with_status status r.retire }
with_reply (Some named.Secret) status r = record r { secret = with_status status r.secret }
with_reply (Some named.Consent) status r = record r { consent = with_status status r.consent }
with_reply (Some named.Withdraw) status r = record r { withdraw = with_status status r.withdraw }
with_reply (Some named.SignOut) status r = record r { sign_out = with_status status r.sign_out }
with_reply (Some named.Subject) status r = record r { subject = with_status status r.subject }
with_reply (Some named.Logout) status r = record r { logout = with_status status r.logout }
with_reply (Some named.Vector) status r = record r { vector = with_status status r.vector }
with_reply (Some named.Pull) status r = record r { pull = with_status status r.pull }
with_reply (Some named.Push) status r = record r { push = with_status status r.push }
with_reply (Some (named.Notice Discovery)) status r =
    record r { metadata = with_status status r.metadata }
with_reply (Some (named.Notice Health)) status r = record r { health = with_status status r.health }
with_reply (Some (named.Notice Metrics)) status r =
    record r { metrics = with_status status r.metrics }
with_reply None status r = record r { unknown = with_status status r.unknown }

-- when the last push was taken in, behind a reply at this moment: a push that is taken in gets 200,
-- and no other
abbrev pub last_push : StatusCode → Option Path → ℕ → Option ℕ → Option ℕ
last_push code.Ok (Some named.Push) now last = Some now
last_push status path now last = last

-- the counts with one more request, which reached these paths, names this one, and ended so at a
-- moment; a failed log seals the edge, which shows no metrics
abbrev pub with_end : Result Served Fault → PathSet → Option Path → ℕ → Counts → Counts
with_end (Ok Nothing) paths path now c = c
with_end (Ok (Done status)) Clients path now c = record c {
  clients = with_reply path status c.clients;
  pushed = last_push status path now c.pushed;
}
with_end (Ok (Done status)) paths path now c = record c {
  all = with_reply path status c.all;
  pushed = last_push status path now c.pushed;
}
with_end (Err Read) paths path now c = record c { unread = sum_of c.unread 1 }
with_end (Err Memory) paths path now c = record c { short = sum_of c.short 1 }
with_end (Err Write) paths path now c = record c { unwritten = sum_of c.unwritten 1 }
with_end (Err Log) paths path now c = c

-- no reply
abbrev pub no_statuses : Statuses
no_statuses = record {
  ok = 0;
  created = 0;
  found = 0;
  bad_request = 0;
  unauthorized = 0;
  not_found = 0;
  not_allowed = 0;
  conflict = 0;
  no_length = 0;
  too_large = 0;
  unavailable = 0;
}

-- no reply to a request of any path
abbrev pub no_replies : Replies
no_replies = record {
  authorize = no_statuses;
  token = no_statuses;
  introspect = no_statuses;
  revoke = no_statuses;
  client = no_statuses;
  clients = no_statuses;
  retire = no_statuses;
  secret = no_statuses;
  consent = no_statuses;
  withdraw = no_statuses;
  sign_out = no_statuses;
  subject = no_statuses;
  logout = no_statuses;
  vector = no_statuses;
  pull = no_statuses;
  push = no_statuses;
  metadata = no_statuses;
  health = no_statuses;
  metrics = no_statuses;
  unknown = no_statuses;
}

-- no request
abbrev pub no_counts : Counts
no_counts = record {
  clients = no_replies;
  all = no_replies;
  pushed = None;
  unread = 0;
  short = 0;
  unwritten = 0;
}

-- nothing is counted, and this many connections are to be served
abbrev pub first_tally : ℕ → Tally
first_tally limit =
    record { counts = no_counts; untaken = 0; pruned = 0; limit = limit; shown = None }
