-- The reply to a stream of bytes, with the fact that is made for it (own).
--   told_by      an answer with a status, bytes and a record
--   rendered     the answer with the bytes of a reply
--   refused_by   the answer to a request that the region doesn't see
--   answered_by  the answer with a reply that may not be given
--   metrics_by   the answer with the text of the metrics
--   notice_by    the answer to a request for a notice, by the terms
--   answer_at    the answer to an arrival that is no exchange, by the terms
--   answer_by    the answer without an issuer and notices
--   fact_by      the fact that the region makes for an arrival, if any
--   IsRecorded   the record of a fact can be read
--   AnswersBy    how replying with a given answer and fact may end
use Rattle.std.specs.Prelude.{◌≡◌, ℕ, List, [], ◌∷◌, Option, None, Some, IfSome, Result, Ok, Err}
use Rattle.std.specs.declared.alloc.AllocError.{AllocError}
use Rattle.tk_handle.specs.declared.dot.Dot.{Dot}
use Rattle.tk_fact.specs.declared.body.Body.{Body}
use Rattle.tk_bundle.specs.Bundle.{bundle}
use Rattle.tk_bundle.specs.BundleFields.{of_facts}
use Rattle.tk_message.specs.Reply.{error_reply}
use Rattle.tk_message.specs.ReplyFields.{ReplyFields}
use Rattle.tk_message.specs.declared.status_code.StatusCode.{StatusCode}
use Rattle.tk_message.specs.declared.status_code.StatusCode.TheVariants as status
use Rattle.tk_region.specs.RegionFields.{RegionFields, Gains}
use Rattle.tk_region.specs.Step.{prepared_of, IsNextFact}
use Rattle.tk_edge.specs.Issuer.{with_iss}
use Rattle.tk_edge.specs.Judged.{code_of, allowed_by}
use Rattle.tk_edge.specs.Notices.{health_of, metadata_of}
use Rattle.tk_edge.specs.Rendering.{metrics_bytes, reply_bytes}
use Rattle.tk_edge.specs.Terms.{TermsFields, accept_all}
use Rattle.tk_edge.specs.Told.{AnswerFields}
use Rattle.tk_edge.specs.declared.hear.Arrival.{Arrival}
use Rattle.tk_edge.specs.declared.hear.Arrival.TheVariants.{Silence, Refused, Request, Exchange}
use Rattle.tk_edge.specs.declared.hear.Arrival.TheVariants as arrival
use Rattle.tk_edge.specs.declared.notice.Notice.{Notice}
use Rattle.tk_edge.specs.declared.notice.Notice.TheVariants.{Discovery, Health, Metrics}
use Rattle.tk_edge.specs.declared.refusal.Refusal.{Refusal}
use Rattle.tk_edge.specs.declared.refusal.Refusal.TheVariants.{UnknownPath}

-- an answer with this status, these bytes, and the record of the fact made, if any
abbrev pub told_by : StatusCode → List ℕ → Option (List ℕ) → AnswerFields
told_by status bytes logged = record { status = status; bytes = bytes; logged = logged }

-- the answer with the bytes of a reply, which names the methods allowed, if there are any
abbrev pub rendered : ReplyFields → Option (List ℕ) → Option (List ℕ) → AnswerFields
rendered reply allowed logged = told_by reply.status (reply_bytes reply allowed) logged

-- the answer to a request that the region doesn't see
abbrev pub refused_by : Refusal → AnswerFields
refused_by why = rendered (error_reply (code_of why)) (allowed_by why) None

-- the answer to an empty stream: status 400 and no bytes
abbrev pub silent : AnswerFields
silent = record { status = status.BadRequest; bytes = []; logged = None }

-- the answer with a notice's reply, if it is given
abbrev pub answered_by : Option ReplyFields → AnswerFields
answered_by None = refused_by UnknownPath
answered_by (Some reply) = rendered reply None None

-- the answer to a request for the metrics: their text, if there is one (own)
abbrev pub metrics_by : Option (List ℕ) → AnswerFields
metrics_by None = refused_by UnknownPath
metrics_by (Some text) = told_by status.Ok (metrics_bytes text) None

-- the answer to a request for a notice at the moment, by the terms (RFC 8414, 3; own)
abbrev pub notice_by : TermsFields → RegionFields → ℕ → Notice → AnswerFields
notice_by terms r now Discovery =
    answered_by (metadata_of terms.issuer r.settings.choices.challenge)
notice_by terms r now Health = answered_by (health_of terms.health r.facts.horizon now)
notice_by terms r now Metrics = metrics_by terms.metrics

-- The answer to an arrival by the terms, at the moment and with the random words, if regions don't
-- exchange facts: the path of an exchange is then unknown. specs/Exchanges has the answers to
-- exchanges.
abbrev pub answer_at : TermsFields → RegionFields → ℕ → List ℕ → Arrival → AnswerFields
answer_at terms r now words Silence = silent
answer_at terms r now words (Refused why) = refused_by why
answer_at terms r now words (Request request) =
    rendered (with_iss terms.issuer (prepared_of r now words request).reply) None
    (prepared_of r now words request).logged
answer_at terms r now words (Exchange asked) = refused_by UnknownPath
answer_at terms r now words (arrival.Notice notice) = notice_by terms r now notice

-- the answer to an arrival without an issuer and notices
abbrev pub answer_by : RegionFields → ℕ → List ℕ → Arrival → AnswerFields
answer_by r now words came = answer_at accept_all r now words came

-- the fact that the region makes for an arrival, if any; for an exchange it makes none
abbrev pub fact_by : RegionFields → ℕ → List ℕ → Arrival → Option (Dot × Body)
fact_by r now words Silence = None
fact_by r now words (Refused why) = None
fact_by r now words (Request request) = (prepared_of r now words request).fact
fact_by r now words (Exchange asked) = None
fact_by r now words (arrival.Notice notice) = None

-- the record of the fact can be read: it is a bundle
abbrev pub IsRecorded : Dot × Body → Type 0
IsRecorded f = bundle.Fits (of_facts (f ∷ []))

-- Success: the answer is the given one, and the fact, if any, is the region's next and is added.
-- Out of memory: the region is unchanged.
abbrev pub AnswersBy : RegionFields → AnswerFields → Option (Dot × Body)
    → Result AnswerFields AllocError → RegionFields → Type 0
AnswersBy old told fact (Ok answer) new =
    (answer ≡ told) × Gains old fact new × IfSome fact (IsNextFact old)
AnswersBy old told fact (Err e) new = new ≡ old
