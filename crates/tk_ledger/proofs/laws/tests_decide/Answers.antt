use Rattle.tk_ledger.proofs.ClientLaws.{is_retired-sound, is_retired-complete, is_withdrawn-sound}
use Rattle.tk_ledger.proofs.ClientLaws.{is_withdrawn-complete, live_sound, live_complete}
use Rattle.tk_ledger.proofs.ClientLaws.{consent_sound, consent_complete}
use Rattle.tk_ledger.proofs.TokenLaws.{is_used-sound, is_used-complete, is_twice-sound}
use Rattle.tk_ledger.proofs.TokenLaws.{is_twice-complete, is_revoked-sound, is_revoked-complete}
use Rattle.tk_ledger.proofs.TokenLaws.{is_ended-sound, is_ended-complete, is_marked-sound}
use Rattle.tk_ledger.proofs.TokenLaws.{is_marked-complete, is_dead-sound, is_dead-complete}
use Rattle.tk_ledger.proofs.laws.tests_decide.Goals as goal

pub returns-clause-used : goal.returns-clause-used
returns-clause-used c = λ F k. (is_used-sound F k, is_used-complete F k)

pub returns-clause-twice : goal.returns-clause-twice
returns-clause-twice c = λ F k. (is_twice-sound F k, is_twice-complete F k)

pub returns-clause-revoked : goal.returns-clause-revoked
returns-clause-revoked c =
    λ F k digest client. (is_revoked-sound F k digest client, is_revoked-complete F k digest client)

pub returns-clause-ended : goal.returns-clause-ended
returns-clause-ended c = λ F k. (is_ended-sound F k, is_ended-complete F k)

pub returns-clause-marked : goal.returns-clause-marked
returns-clause-marked c = λ F k. (is_marked-sound F k, is_marked-complete F k)

pub returns-clause-dead : goal.returns-clause-dead
returns-clause-dead c = λ F code. (is_dead-sound F code, is_dead-complete F code)

pub returns-clause-retired : goal.returns-clause-retired
returns-clause-retired c = λ F d. (is_retired-sound F d, is_retired-complete F d)

pub returns-clause-withdrawn : goal.returns-clause-withdrawn
returns-clause-withdrawn c = λ F d. (is_withdrawn-sound F d, is_withdrawn-complete F d)

pub returns-clause-live_client : goal.returns-clause-live_client
returns-clause-live_client c = λ F d. (live_sound F d, live_complete F d)

pub returns-clause-live_consent : goal.returns-clause-live_consent
returns-clause-live_consent c = λ F code. (consent_sound F code, consent_complete F code)
