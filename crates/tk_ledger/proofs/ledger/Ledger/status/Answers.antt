use Rattle.std.proofs.Common.{ap, subst, sym}
use Rattle.std.specs.FinMap as map
use Rattle.tk_store.specs.FactSet.{IsFactSet}
use Rattle.tk_store.specs.StoreFields.{held_facts}
use Rattle.tk_ledger.specs.Standings.{IsSound}
use Rattle.tk_ledger.specs.Status.{IsKnown, IsLive, SaysHere}
use Rattle.tk_ledger.proofs.FamilyEnds.{revoked_ends, family_ends}
use Rattle.tk_ledger.proofs.HereLaws.{says_here, known_here, live_here, sound_here}
use Rattle.tk_ledger.proofs.ledger.Ledger.status.Goals as goal

pub returns-clause-says : goal.returns-clause-says
returns-clause-says c = subst (SaysHere c.args.self.now c.args.handle.now)
    (sym c.of_handle.ensures.value) (says_here c.args.self.now c.args.now c.args.handle.now)

pub returns-clause-known : goal.returns-clause-known
returns-clause-known c =
    let both = known_here c.args.self.now c.args.now c.args.handle.now in
    let value = c.of_handle.ensures.value in
    (λ known. both.0 (subst IsKnown value known), λ token. subst IsKnown (sym value) (both.1 token))

pub returns-clause-live : goal.returns-clause-live
returns-clause-live c = λ no_code.
    let both = live_here c.args.self.now c.args.now c.args.handle.now no_code in
    let value = c.of_handle.ensures.value in
    (λ live. both.0 (subst IsLive value live), λ active. subst IsLive (sym value) (both.1 active))

pub returns-clause-code : goal.returns-clause-code
returns-clause-code c = λ code active. active.no_code code

pub returns-clause-revoked : goal.returns-clause-revoked
returns-clause-revoked c =
    revoked_ends (map.get (held_facts c.args.self.now)) c.args.now c.args.handle.now

pub returns-clause-family : goal.returns-clause-family
returns-clause-family c =
    family_ends (map.get (held_facts c.args.self.now)) c.args.now c.args.handle.now

pub returns-clause-sound : goal.returns-clause-sound
returns-clause-sound c =
    subst (IsSound c.args.now) (sym c.of_handle.ensures.value)
    (sound_here c.args.self.now c.args.now c.args.handle.now
    (subst IsFactSet (ap held_facts c.self.view_is) c.known.ensures))
