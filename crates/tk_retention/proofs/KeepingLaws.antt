-- Standing for is kept. Key results:
--   stands_more     more facts are made
--   prune_stands    a prune
--   mark_stands     a dot is skipped
--   fact_stands     a fact is made, or taken in at an unknown dot
--   drop_stands     a fact is dropped at a skipped dot
--   sound_stays     soundness of all facts made is kept by one more
use Rattle.std.proofs.Common.{◌≡◌, ◌≢◌, ◌⊎◌, inl, inr, true, ℕ, ◌≤◌, max, List, [], ◌∷◌, Option}
use Rattle.std.proofs.Common.{None, Some, refl, sym, ap, subst, ◌∙◌, arith}
use Rattle.std.specs.FinMap as map
use Rattle.tk_handle.specs.declared.dot.Dot.{Dot}
use Rattle.tk_handle.specs.declared.kind.Kind.TheVariants as kind
use Rattle.tk_handle.specs.declared.token_id.TokenId.{TokenId}
use Rattle.tk_family.specs.declared.link.Link.{Link}
use Rattle.tk_family.specs.declared.link.Link.TheVariants.{Code, Redeems, Rotates}
use Rattle.tk_family.specs.Families.{Links, used_by, named_by, IsParent, IsTrail, IsUnder, use_of}
use Rattle.tk_store.proofs.SubsetLaws.{subset_itself}
use Rattle.tk_family.proofs.DotLaws.{cases_dots}
use Rattle.tk_family.proofs.FamilyLaws.{IsParent-within}
use Rattle.tk_fact.specs.Tokens.{MintedFields, minted_of}
use Rattle.tk_fact.specs.declared.body.Body.{Body}
use Rattle.tk_fact.specs.declared.body.Body.TheVariants as body
use Rattle.tk_store.specs.FactSet.{FactSet, IsSubset}
use Rattle.tk_store.specs.Slots.{Slot, Slots, Held, Skipped, is_skipped}
use Rattle.tk_store.specs.StoreFields.{StoreFields, held_facts, with_fact, with_skipped}
use Rattle.tk_store.specs.StoreFields.{with_horizon}
use Rattle.tk_store.proofs.PutLaws.{by_dot, get_here, none_is_not_some, some_injective}
use Rattle.std.specs.Option.{option_and_then}
use Rattle.tk_ledger.specs.Retention.{IsOverAt, MintsNothing, MaySkip, Prunes}
use Rattle.tk_ledger.specs.Tokens.{anchor_by, anchor_in, link_of, links_in, minted_in, issued_in}
use Rattle.tk_ledger.proofs.RootLaws.{links-below, minted-below, minted-under-below, from_some}
use Rattle.tk_retention.specs.StandsFor.{SlotStands, StandsFor, AreSound, AddsOne, MeetsFamily}
use Rattle.tk_retention.proofs.OverLaws.{none_some}
use Rattle.tk_retention.proofs.StandingLaws.{at_skipped, held_made, held_part}

-- a token that is minted by some facts is minted by more facts
pub minted_more : (F G : FactSet) → IsSubset F G → (k : TokenId) (o : Option MintedFields)
    → minted_in (map.get F) k ≡ o → o ≢ None → minted_in (map.get G) k ≢ None
minted_more F G w k None h some = absurd (some refl)
minted_more F G w k (Some m) h some =
    λ none. none_some (minted_in (map.get G) k) m none (minted-below F G w k m h)

-- a dot that has a link among some facts has one among more facts
link_more : (F G : FactSet) → IsSubset F G → (d : Dot) (o : Option Link)
    → links_in (map.get F) d ≡ o → o ≢ None → links_in (map.get G) d ≢ None
link_more F G w d None h some = absurd (some refl)
link_more F G w d (Some l) h some =
    λ none. none_some (links_in (map.get G) d) l none (links-below F G w d l h)

-- what may be skipped may be skipped where more facts are made, and later
pub may_more : (U V : FactSet) → IsSubset U V → (t s : ℕ) → t ≤ s → (d : Dot)
    → MaySkip (map.get U) t d → MaySkip (map.get V) s d
may_more U V w t s h d may = record {
  fact = may.fact;
  here = w d may.fact may.here;
  token = may.token;
  kept = may.kept;
  why = by may.token.dot may.why;
}
  where
    by : (q : Dot) → IsOverAt (map.get U) t q ⊎ MintsNothing (map.get U) q
        → IsOverAt (map.get V) s q ⊎ MintsNothing (map.get V) q
    by q (inr none) =
        inr (record { fact = none.fact; here = w q none.fact none.here; barren = none.barren })
    by q (inl o) = (let code = from_some issued_in (map.get U o.root) o.code o.issues in
        inl (record {
          root = o.root;
          under = minted-under-below U V w q o.root o.under;
          code = o.code;
          issues = ap (option_and_then issued_in) (w o.root code.0 code.1) ∙ code.2;
          over = (let a = o.over in omega (arith, a, h));
        }))

-- a slot that stands for a body still does with more facts and at a later moment
pub slot_more : (U V : FactSet) → IsSubset U V → (t s : ℕ) → t ≤ s
    → (d : Dot) (o : Option Slot) (p : Option Body) → SlotStands U t d o p → SlotStands V s d o p
slot_more U V w t s h d None p x = x
slot_more U V w t s h d (Some (Held b)) p x = (x.0, w d b x.1)
slot_more U V w t s h d (Some Skipped) p x =
    (x.0 ∙ (x.1.here ∙ sym (w d x.1.fact x.1.here)), may_more U V w t s h d x.1)

-- more facts are made
pub stands_more : (P : StoreFields) (U V F : FactSet) → IsSubset U V → StandsFor P U F
    → StandsFor P V F
stands_more P U V F w S d =
    slot_more U V w P.horizon P.horizon (omega arith) d (map.get P.slots d) (map.get F d) (S d)

-- an equal slot stands for the same fact
slot_at : (U : FactSet) (t : ℕ) (d : Dot) (o p : Option Slot) (f : Option Body) → o ≡ p
    → SlotStands U t d p f → SlotStands U t d o f
slot_at U t d o p f same x = subst (λ (q : Option Slot). SlotStands U t d q f) (sym same) x

-- a prune
pub prune_stands : (old new : StoreFields) (moment n : ℕ) (U F : FactSet) → Prunes old moment n new
    → StandsFor old U F → StandsFor new U F
prune_stands old new moment n U F prunes S d =
    let later : old.horizon ≤ new.horizon = (let raised = prunes.raised in omega (arith, raised)) in
    elim (prunes.keeps d) [
      | inl same ↦ slot_at U new.horizon d (map.get new.slots d) (map.get old.slots d)
          (map.get F d) same
          (slot_more U U (subset_itself U) old.horizon new.horizon later d (map.get old.slots d)
          (map.get F d) (S d))
      | inr may ↦
          let made = may_more (held_facts old) U (held_made old U F S) new.horizon new.horizon
          (omega arith) d may in
          let here : map.get F d ≡ Some may.fact = held_part old U F S d may.fact may.here in
          slot_at U new.horizon d (map.get new.slots d) (Some Skipped) (map.get F d)
          (prunes.skips d may) (here ∙ sym (held_made old U F S d may.fact may.here), made)
    ]

-- what stands at a dot after one slot was put there
pub slot_put : (U : FactSet) (t : ℕ) (T : Slots) (d : Dot) (s : Slot) (G : FactSet)
    → SlotStands U t d (Some s) (map.get G d)
    → ((q : Dot) → q ≢ d → SlotStands U t q (map.get T q) (map.get G q)) → (q : Dot)
    → SlotStands U t q (map.get (map.insert T d s) q) (map.get G q)
slot_put U t T d s G here others q = elim (cases_dots q d) [
  | inl same ↦
      subst (λ (x : Dot). SlotStands U t x (map.get (map.insert T d s) x) (map.get G x)) (sym same)
      (slot_at U t d (map.get (map.insert T d s) d) (Some s) (map.get G d) (get_here T d s) here)
  | inr ne ↦ slot_at U t q (map.get (map.insert T d s) q) (map.get T q) (map.get G q)
      (by_dot (λ o. o ≡ map.get T q) T d s q (λ same. absurd (ne same)) refl) (others q ne)
]

-- a dot is skipped, with the horizon of the bundle that said so
pub mark_stands : (P : StoreFields) (U F G : FactSet) (horizon : ℕ) (d : Dot)
    → MaySkip (map.get U) horizon d → map.get G d ≡ map.get U d
    → ((q : Dot) → q ≢ d → map.get G q ≡ map.get F q) → StandsFor P U F
    → StandsFor (with_skipped (with_horizon P horizon) d) U G
mark_stands P U F G horizon d may here others S =
    slot_put U (max P.horizon horizon) P.slots d Skipped G
    (here, may_more U U (subset_itself U) horizon (max P.horizon horizon) (omega arith) d may)
    (λ q ne. subst (λ (f : Option Body).
    SlotStands U (max P.horizon horizon) q (map.get P.slots q) f) (sym (others q ne))
    (slot_more U U (subset_itself U) P.horizon (max P.horizon horizon) (omega arith) q
    (map.get P.slots q)
    (map.get F q) (S q)))

-- a fact that is made, or taken in at an unknown dot
pub fact_stands : (P : StoreFields) (U F G : FactSet) (d : Dot) (b : Body) → map.get U d ≡ Some b
    → map.get G d ≡ Some b → ((q : Dot) → q ≢ d → map.get G q ≡ map.get F q) → StandsFor P U F
    → StandsFor (with_fact P d b) U G
fact_stands P U F G d b made here others S =
    slot_put U P.horizon P.slots d (Held b) G (here, made)
    (λ q ne. subst (λ (f : Option Body). SlotStands U P.horizon q (map.get P.slots q) f)
    (sym (others q ne)) (S q))

-- a fact that is dropped at a skipped dot changes nothing
pub drop_stands : (P : StoreFields) (U F G : FactSet) (d : Dot) → is_skipped P.slots d ≡ true
    → map.get G d ≡ map.get U d → ((q : Dot) → q ≢ d → map.get G q ≡ map.get F q) → StandsFor P U F
    → StandsFor P U G
drop_stands P U F G d skipped here others S q = elim (cases_dots q d) [
  | inl same ↦
      subst (λ (x : Dot). SlotStands U P.horizon x (map.get P.slots x) (map.get G x)) (sym same)
      (subst (λ (f : Option Body). SlotStands U P.horizon d (map.get P.slots d) f)
      (at_skipped P U F S d skipped ∙ sym here) (S d))
  | inr ne ↦ subst (λ (f : Option Body). SlotStands U P.horizon q (map.get P.slots q) f)
      (sym (others q ne)) (S q)
]

-- ---- soundness of all facts made is kept by one more

-- the dot that a link names is that of the token that the link uses
named_use : (l : Link) (p : Dot) → named_by l ≡ Some p
    → (k : TokenId) × (used_by l ≡ Some k) × (k.dot ≡ p)
named_use Code p h = absurd (none_is_not_some p h)
named_use (Redeems c) p h = (record { dot = c; kind = kind.Code }, refl, some_injective c p h)
named_use (Rotates q g) p h = (record { dot = q; kind = kind.Refresh }, refl, some_injective q p h)

-- the parent of a dot is the dot of the token that is used there
parent_use : (f : Links) (e p : Dot) → IsParent f e p
    → (k : TokenId) × (use_of (f e) ≡ Some k) × (k.dot ≡ p)
parent_use f e p a = (let x = named_use a.link p a.names in (x.0, ap use_of a.here ∙ x.1, x.2))

-- a set is a subset of the set with one fact added
part_of_adds : (U V : FactSet) (d : Dot) (b : Body) → AddsOne U d b V → IsSubset U V
part_of_adds U V d b a q x h = elim (cases_dots q d) [
  | inl same ↦ absurd (none_some (map.get U q) x (ap (map.get U) same ∙ a.free) h)
  | inr ne ↦ a.others q ne ∙ h
]

module _ (U V : FactSet) (d : Dot) (b : Body) (A : AddsOne U d b V) (sound : AreSound U) where
  -- one more fact leaves the link at each other dot
  links_old : (q : Dot) → q ≢ d → links_in (map.get V) q ≡ links_in (map.get U) q
  links_old q ne = ap (option_and_then link_of) (A.others q ne)

  -- nothing made before names the new dot
  parent_old : (e p : Dot) → e ≢ d → IsParent (links_in (map.get V)) e p → p ≢ d
  parent_old e p ne a same =
      let by = parent_use (links_in (map.get V)) e p a in
      let u : use_of (links_in (map.get U) e) ≡ Some by.0 =
      ap use_of (sym (links_old e ne)) ∙ by.1 in
      let free : map.get U by.0.dot ≡ None = ap (map.get U) (by.2 ∙ same) ∙ A.free in
      let old = sound.parents e by.0 u in
      none_some (links_in (map.get U) by.0.dot) old.above (ap (option_and_then link_of) free)
      old.there

  -- a trail from another dot than the new one was there before the new fact
  trail_old : (q : Dot) (ps : List Dot) (c : Dot) → q ≢ d → IsTrail (links_in (map.get V)) q ps c
      → IsTrail (links_in (map.get U)) q ps c
  trail_old q [] c ne m = m
  trail_old q (p ∷ ps) c ne m =
      let other : p ≢ d = parent_old q p ne m.0 in (
        record {
          link = m.0.link;
          above = m.0.above;
          here = sym (links_old q ne) ∙ m.0.here;
          names = m.0.names;
          there = sym (links_old p other) ∙ m.0.there;
          fitting = m.0.fitting;
        },
        trail_old p ps c other m.1,
      )

  -- a trail from another dot than the new one does not end at the new one
  root_old : (q : Dot) (ps : List Dot) (c : Dot) → q ≢ d → IsTrail (links_in (map.get V)) q ps c
      → c ≢ d
  root_old q [] c ne m = λ same. ne (m ∙ same)
  root_old q (p ∷ ps) c ne m = root_old p ps c (parent_old q p ne m.0) m.1

  -- the anchor of a fact made before is not the new dot
  anchor_old : (q : Dot) → q ≢ d → anchor_in (map.get U) q ≢ d
  anchor_old q ne = by (map.get U q) refl
    where
      refreshed : (p : Dot) → links_in (map.get U) p ≢ None → p ≢ d
      refreshed p some same =
          some (ap (links_in (map.get U)) same ∙ ap (option_and_then link_of) A.free)

      by : (o : Option Body) → map.get U q ≡ o → anchor_by q o ≢ d
      by None at = ne
      by (Some (body.AccessRefreshed f)) at = refreshed f.parent (sound.refreshed q f at)
      by (Some b) at = ne

  -- what was minted before is under the codes that it was under
  under_old : (q c : Dot) → q ≢ d → IsUnder (links_in (map.get V)) q c
      → IsUnder (links_in (map.get U)) q c
  under_old q c ne under =
      let away : c ≢ d = root_old q under.path c ne under.leads.0 in
      record {
        path = under.path;
        leads =
            (trail_old q under.path c ne under.leads.0, sym (links_old c away) ∙ under.leads.1);
      }

  -- facts that are sound stay sound with one more that meets its family
  pub sound_stays : MeetsFamily U d V → AreSound V
  sound_stays meets = record {
    ends = λ k m c code other minted under is. elim (cases_dots k.dot d) [
      | inl same ↦ meets.cut k m c code same other minted under is
      | inr ne ↦
          let a : Dot = anchor_in (map.get U) k.dot in
          let old : IsUnder (links_in (map.get V)) a c =
          subst (λ (x : Dot). IsUnder (links_in (map.get V)) x c)
          (ap (anchor_by k.dot) (A.others k.dot ne)) under in
          let away : c ≢ d = root_old a old.path c (anchor_old k.dot ne) old.leads.0 in
          sound.ends k m c code other
          (ap (option_and_then (λ (x : Body). minted_of x k.kind)) (sym (A.others k.dot ne))
          ∙ minted)
          (under_old a c (anchor_old k.dot ne) old)
          (ap (option_and_then issued_in) (sym (A.others c away)) ∙ is)
    ];
    parents = λ e k u. elim (cases_dots e d) [
      | inl same ↦ subst (λ (x : Dot). IsParent (links_in (map.get V)) x k.dot) (sym same)
          (meets.parent k (subst (λ (x : Dot). use_of (links_in (map.get V) x) ≡ Some k) same u))
      | inr ne ↦ IsParent-within (links_in (map.get U)) (links_in (map.get V))
          (links-below U V part) e k.dot (sound.parents e k (ap use_of (sym (links_old e ne)) ∙ u))
    ];
    reuses = λ e reuse at. elim (cases_dots e d) [
      | inl same ↦ minted_more U V part reuse.token (minted_in (map.get U) reuse.token) refl
          (meets.reused reuse (ap (map.get V) (sym same) ∙ at))
      | inr ne ↦ minted_more U V part reuse.token (minted_in (map.get U) reuse.token) refl
          (sound.reuses e reuse (sym (A.others e ne) ∙ at))
    ];
    refreshed = λ e f at. elim (cases_dots e d) [
      | inl same ↦ link_more U V part f.parent (links_in (map.get U) f.parent) refl
          (meets.refreshed f (ap (map.get V) (sym same) ∙ at))
      | inr ne ↦ link_more U V part f.parent (links_in (map.get U) f.parent) refl
          (sound.refreshed e f (sym (A.others e ne) ∙ at))
    ];
  }
    where
      part : IsSubset U V
      part = part_of_adds U V d b A
