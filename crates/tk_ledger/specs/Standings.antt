-- What holds of every standing, whatever the facts (own).
--   IsSoundStanding   the subject's name is one; the family of a live token has not ended
--   IsSound           the standing of a status, if it has one, is sound
use Rattle.std.specs.Prelude.{◌≡◌, ◌<◌, ℕ, true}
use Rattle.tk_fact.specs.Subject.{is_subject}
use Rattle.tk_ledger.specs.declared.status.State.TheVariants as state
use Rattle.tk_ledger.specs.declared.status.Status.{Status}
use Rattle.tk_ledger.specs.declared.status.Status.TheVariants.{Unseen, Wrong, Broken, Known}
use Rattle.tk_ledger.specs.StandingFields.{StandingFields}

-- the subject keeps the rules of names, and the family of a live token ends after the moment
abbrev pub IsSoundStanding : ℕ → StandingFields → Type 0
IsSoundStanding now s = (is_subject s.subject ≡ true) × (s.state ≡ state.Live → now < s.family_end)

-- the standing of the status, if it has one, is sound
abbrev pub IsSound : ℕ → Status → Type 0
IsSound now Unseen = Unit {0}
IsSound now Wrong = Unit {0}
IsSound now (Broken expiry) = Unit {0}
IsSound now (Known standing) = IsSoundStanding now standing
