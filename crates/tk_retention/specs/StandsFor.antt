-- What a store that skipped facts stands for (own).
--   SlotStands   what one slot stands for
--   StandsFor    a store stands for a set of facts
--   AreSound     no token outlives its family, and what a fact names was minted for it; the refresh
--                token of an access token that was refreshed is in a family
--   AddsOne      a set with one fact more
--   MeetsFamily  the tokens of a new fact end with their family, and what it names was minted for
--                it; the refresh token of an access token that it refreshed is in a family
use Rattle.std.specs.Prelude.{◌≡◌, ◌≢◌, ◌≤◌, ℕ, Option, Some, None}
use Rattle.std.specs.FinMap as map
use Rattle.tk_handle.specs.declared.dot.Dot.{Dot}
use Rattle.tk_handle.specs.declared.kind.Kind.TheVariants as kind
use Rattle.tk_handle.specs.declared.token_id.TokenId.{TokenId}
use Rattle.tk_family.specs.Families.{IsParent, use_of}
use Rattle.tk_fact.specs.declared.access_refreshed.AccessRefreshed as renewed
use Rattle.tk_fact.specs.declared.body.Body.{Body}
use Rattle.tk_fact.specs.declared.body.Body.TheVariants.{ReuseSeen, AccessRefreshed}
use Rattle.tk_fact.specs.declared.code_issued.CodeIssued as issued
use Rattle.tk_fact.specs.declared.reuse_seen.ReuseSeen as seen
use Rattle.tk_fact.specs.Tokens.{MintedFields}
use Rattle.tk_store.specs.FactSet.{FactSet}
use Rattle.tk_store.specs.Slots.{Slot, Held, Skipped}
use Rattle.tk_store.specs.StoreFields.{StoreFields}
use Rattle.tk_ledger.specs.Retention.{MaySkip}
use Rattle.tk_ledger.specs.Tokens.{links_in, minted_in, issued_at, IsMintedUnder}

-- where U is the set of all facts made, a slot stands for the fact at its dot, if there is one: for
-- none, for the fact that it holds, or for the fact of U, which may be skipped at the horizon
abbrev pub SlotStands : FactSet → ℕ → Dot → Option Slot → Option Body → Type 0
SlotStands U horizon d None fact = fact ≡ None
SlotStands U horizon d (Some (Held b)) fact = (fact ≡ Some b) × (map.get U d ≡ Some b)
SlotStands U horizon d (Some Skipped) fact =
    (fact ≡ map.get U d) × MaySkip (map.get U) horizon d

-- where U is the set of all facts made, the store P stands for the facts F
abbrev pub StandsFor : StoreFields → FactSet → FactSet → Type 0
StandsFor P U F =
    (d : Dot) → SlotStands U P.horizon d (map.get P.slots d) (map.get F d)

-- no access or refresh token outlives its family, a fact that uses a token has its parent there,
-- and a token whose reuse was seen was minted. A fact that refreshed an access token names a dot
-- with a link: that of the fact that minted the refresh token
pub record AreSound (U : FactSet) : Type 0 where
  pub ends : (k : TokenId) (minted : MintedFields) (c : Dot) (code : issued.CodeIssued)
      → k.kind ≢ kind.Code → minted_in (map.get U) k ≡ Some minted
      → IsMintedUnder (map.get U) k.dot c → issued_at (map.get U) c ≡ Some code
      → minted.expiry ≤ code.family_end
  pub parents : (d : Dot) (k : TokenId) → use_of (links_in (map.get U) d) ≡ Some k
      → IsParent (links_in (map.get U)) d k.dot
  pub reuses : (d : Dot) (reuse : seen.ReuseSeen) → map.get U d ≡ Some (ReuseSeen reuse)
      → minted_in (map.get U) reuse.token ≢ None
  pub refreshed : (d : Dot) (f : renewed.AccessRefreshed) → map.get U d ≡ Some (AccessRefreshed f)
      → links_in (map.get U) f.parent ≢ None

-- V is U with the fact of the body b at the free dot d
pub record AddsOne (U : FactSet) (d : Dot) (b : Body) (V : FactSet) : Type 0 where
  pub free : map.get U d ≡ None
  pub here : map.get V d ≡ Some b
  pub others : (q : Dot) → q ≢ d → map.get V q ≡ map.get U q

-- the access and refresh tokens that are minted at d end with their family at the latest, the token
-- that the fact at d uses is at its parent, and the token whose reuse it saw was minted before. If
-- the fact at d refreshed an access token, the dot that it names had a link before
pub record MeetsFamily (U : FactSet) (d : Dot) (V : FactSet) : Type 0 where
  pub cut : (k : TokenId) (minted : MintedFields) (c : Dot) (code : issued.CodeIssued)
      → k.dot ≡ d → k.kind ≢ kind.Code → minted_in (map.get V) k ≡ Some minted
      → IsMintedUnder (map.get V) k.dot c → issued_at (map.get V) c ≡ Some code
      → minted.expiry ≤ code.family_end
  pub parent : (k : TokenId) → use_of (links_in (map.get V) d) ≡ Some k
      → IsParent (links_in (map.get V)) d k.dot
  pub reused : (reuse : seen.ReuseSeen) → map.get V d ≡ Some (ReuseSeen reuse)
      → minted_in (map.get U) reuse.token ≢ None
  pub refreshed : (f : renewed.AccessRefreshed) → map.get V d ≡ Some (AccessRefreshed f)
      → links_in (map.get U) f.parent ≢ None
