-- The promises about introspection in a world, over its runs and its stores (RFC 7662, 2.2; RFC
-- 7009, 2.1; RFC 6749, 4.1.2 and 10.4). The promises are clauses of `World::run`.
--   held_before        the facts of a region before an event of a run
--   IsFromHorizon      a moment is not before the horizon that a region has before an event
--   IsIntrospected     an event of a run is an introspection request with this reply
--   TellsOfSets        from the horizon on, the reply to an introspection request depends only on
--                      the facts of its region, the moment and the request
--   IntrospectAlike    from their horizons on, regions with equal facts give equal replies
--   IsInactive         a token is active at no moment, and introspection reports it as inactive to
--                      everyone
--   RevokedInactive    a token that its client revoked is inactive
--   FamiliesInactive   each token of a family with a bad grant is inactive
use Rattle.std.specs.Prelude.{◌≡◌, ◌≤◌, ℕ, List, Vec, take, slice_get, Some, None}
use Rattle.std.specs.declared.alloc.Global.{Global}
use Rattle.std.specs.FinMap as map
use Rattle.tk_handle.specs.declared.dot.Dot.{Dot}
use Rattle.tk_handle.specs.declared.handle.Handle.{Handle}
use Rattle.tk_family.specs.Families.{IsUnder, IsBad}
use Rattle.tk_fact.specs.declared.client_kind.ClientKind.{ClientKind}
use Rattle.tk_store.specs.FactSet.{FactSet, Facts, IsSubset, set_of, joined}
use Rattle.tk_store.specs.StoreFields.{StoreFields, held_facts}
use Rattle.tk_store.specs.WholeStores.{whole_store}
use Rattle.tk_ledger.specs.Status.{IsActive}
use Rattle.tk_ledger.specs.Tokens.{links_in, IsEnded, IsMarked, IsMintedUnder}
use Rattle.tk_message.specs.declared.choices.RefreshSeen.{RefreshSeen}
use Rattle.tk_message.specs.declared.request.Endpoint.TheVariants.{Introspect}
use Rattle.tk_message.specs.Reply.{inactive_reply}
use Rattle.tk_message.specs.declared.status_code.StatusCode.{StatusCode}
use Rattle.tk_message.specs.RequestFields.{RequestFields}
use Rattle.tk_query.specs.Introspection.{introspection_of}
use Rattle.tk_query.specs.Laws.{told_to}
use Rattle.tk_world.specs.declared.event.Event.{Event}
use Rattle.tk_world.specs.declared.event.Event.TheVariants.{Request}
use Rattle.tk_world.specs.declared.event.Outcome.{Outcome}
use Rattle.tk_world.specs.declared.event.Outcome.TheVariants.{Reply}
use Rattle.tk_world.specs.State.{State, facts_in, horizon_in}
use Rattle.tk_edge.specs.Answers.{rendered}
use Rattle.tk_edge.specs.Heard.{IsHeard}
use Rattle.tk_edge.specs.declared.hear.Arrival.TheVariants.{Request as Asked}
use Rattle.tk_world.specs.Carrying.{in_place, IsReplied}
use Rattle.tk_world.specs.World.{Run, seen_by, state_before}

-- ---- regions with equal facts introspect alike

-- the facts of the region before the event at this index: its old ones joined with what it has seen
abbrev pub held_before : State → List Event → List Facts → ℕ → ℕ → FactSet
held_before old es ss i r = joined (facts_in old r) (set_of (seen_by r (take i es) (take i ss)))

-- the moment is not before the horizon that the region has before the event at this index
abbrev pub IsFromHorizon : (old : State) (es : List Event) (os : List Outcome) (ss : List Facts)
    (new : State) → Run old es os ss new → ℕ → ℕ → ℕ → Type 0
IsFromHorizon old es os ss new run i r now =
    horizon_in (state_before in_place old es os ss new run i) r ≤ now

-- the event at this index is an introspection request to the region, at the moment and with some
-- random words, and this is its reply
pub record IsIntrospected (es : List Event) (os : List Outcome) (i r now : ℕ)
    (request : RequestFields) (status : StatusCode) (reply : List ℕ) : Type 0 where
  pub words : List ℕ
  pub bytes : Vec ℕ Global
  pub written : Vec ℕ Global
  pub asked : slice_get es i ≡ Some (Request r now words bytes)
  pub answered : slice_get os i ≡ Some (Reply status written)
  pub heard : IsHeard bytes.items (Asked request)
  pub introspects : request.endpoint ≡ Introspect
  pub replied : written.items ≡ reply

-- From the region's horizon on, the reply to an introspection request depends only on the facts of
-- its region, the moment and the request, besides the settings, which all regions share: one of
-- their choices is who sees refresh tokens.
abbrev pub TellsOfSets : (old : State) (es : List Event) (os : List Outcome) (ss : List Facts)
    (new : State) → Run old es os ss new → Type 0
TellsOfSets old es os ss new run =
    (i r now : ℕ) (request : RequestFields) (status : StatusCode) (reply : List ℕ)
    → IsIntrospected es os i r now request status reply
    → IsFromHorizon old es os ss new run i r now
    → IsReplied (rendered (introspection_of (whole_store (held_before old es ss i r))
    old.settings.choices.refresh_seen now request) None None) status reply

-- Two regions that have equal facts, each when its request arrives and from its horizon on, give
-- equal replies to equal requests at equal moments. The replies are equal byte for byte, whatever
-- the regions' numbers, lives and random words, and whatever the regions skipped.
abbrev pub IntrospectAlike : (old : State) (es : List Event) (os : List Outcome)
    (ss : List Facts) (new : State) → Run old es os ss new → Type 0
IntrospectAlike old es os ss new run =
    (i j q r now : ℕ) (request : RequestFields) (a b : StatusCode) (one two : List ℕ)
    → IsIntrospected es os i q now request a one → IsIntrospected es os j r now request b two
    → IsFromHorizon old es os ss new run i q now → IsFromHorizon old es os ss new run j r now
    → held_before old es ss i q ≡ held_before old es ss j r → (a ≡ b) × (one ≡ two)

-- ---- tokens of revoked and reused families are inactive

-- the token is active at no moment, and introspection reports it as inactive to everyone, whoever
-- sees refresh tokens
abbrev pub IsInactive : StoreFields → Handle → Type 0
IsInactive P h =
    (now : ℕ)
    → (¬ IsActive (map.get (held_facts P)) now h)
    × ((seen : RefreshSeen) (client_kind : ClientKind) (asker : Dot)
    → told_to P seen now client_kind asker h ≡ inactive_reply)

-- a token is inactive in each region that holds facts by which its client revoked it
abbrev pub RevokedInactive : (ℕ → StoreFields) → Type 0
RevokedInactive store =
    (r : ℕ) (F : FactSet) → IsSubset F (held_facts (store r)) → (h : Handle)
    → IsEnded (map.get F) h.id → IsInactive (store r) h

-- A token is inactive in each region that holds facts by which a grant of its family is bad: used
-- twice, seen to be reused, revoked, or a code whose subject signed out. Access tokens that were
-- refreshed for a refresh token that is kept are among them.
abbrev pub FamiliesInactive : (ℕ → StoreFields) → Type 0
FamiliesInactive store =
    (r : ℕ) (F : FactSet) → IsSubset F (held_facts (store r)) → (h : Handle) (d c : Dot)
    → IsBad (links_in (map.get F)) (IsMarked (map.get F)) d
    → IsUnder (links_in (map.get (held_facts (store r)))) d c
    → IsMintedUnder (map.get (held_facts (store r))) h.id.dot c → IsInactive (store r) h
