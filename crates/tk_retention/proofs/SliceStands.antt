-- Slices of a prune. Key results:
--   goes_soundly   a fact that may go may be skipped by all facts made
--   slice_stands   a store of which a slice was pruned stands for the same facts
--   progresses     as long as a fact that may be skipped is held, some fact may go
use Rattle.std.proofs.Common.{◌≡◌, ◌≢◌, ◌⊎◌, inl, inr, Bool, true, false, ℕ, ◌≤◌, max, List, []}
use Rattle.std.proofs.Common.{◌∷◌, Option, None, Some, refl, sym, ap, subst, ◌∙◌, arith}
use Rattle.std.proofs.lemmas.Bool.{true≢false, cases_Bool}
use Rattle.std.specs.Option.{option_and_then}
use Rattle.std.specs.FinMap as map
use Rattle.tk_handle.specs.declared.dot.Dot.{Dot}
use Rattle.tk_handle.specs.declared.kind.Kind.TheVariants as kind
use Rattle.tk_handle.specs.declared.token_id.TokenId.{TokenId}
use Rattle.tk_family.specs.declared.link.Link.{Link}
use Rattle.tk_family.specs.declared.link.Link.TheVariants.{Code, Redeems, Rotates}
use Rattle.tk_family.specs.Families.{named_by, use_of, IsParent, IsPath, IsUnder}
use Rattle.tk_fact.specs.Keeping.{kept_for, names_of, refresh_at}
use Rattle.tk_fact.specs.declared.body.Body.{Body}
use Rattle.tk_fact.specs.declared.body.Body.TheVariants as body
use Rattle.tk_fact.specs.declared.code_issued.CodeIssued as issued
use Rattle.tk_store.specs.FactSet.{FactSet}
use Rattle.tk_store.specs.Slots.{Skipped, is_skipped}
use Rattle.tk_store.specs.StoreFields.{StoreFields, held_facts, with_horizon, with_skipped}
use Rattle.tk_store.proofs.PutLaws.{none_is_not_some, some_injective}
use Rattle.tk_ledger.specs.Retention.{IsOverAt, MintsNothing, MaySkip, mints}
use Rattle.tk_ledger.specs.Slices.{Goes, PrunesSome, Steps}
use Rattle.tk_ledger.specs.Tokens.{IsMintedUnder, anchor_by, link_of, links_in, issued_in}
use Rattle.tk_ledger.specs.Tokens.{issued_at}
use Rattle.tk_ledger.specs.declared.slices.Slice.{Slice}
use Rattle.tk_ledger.proofs.RootLaws.{from_some, under-minted}
use Rattle.tk_ledger.proofs.EndingLaws.{under_itself as code_under}
use Rattle.tk_retention.specs.StandsFor.{StandsFor, AreSound}
use Rattle.tk_retention.proofs.KeepingLaws.{may_more, slot_more, slot_put}
use Rattle.tk_retention.proofs.OverLaws.{link_from, linked_mints, over_here}
use Rattle.tk_ledger.proofs.RootLaws.{minted-linked as minted_linked}
use Rattle.tk_retention.proofs.StandingLaws.{at_held, may_skip, held_made, held_part}

module _ (P : StoreFields) (U F : FactSet) (S : StandsFor P U F) where
  -- the facts that the store holds
  abbrev H : FactSet
  H = held_facts P

  -- ---- what may go may be skipped

  -- a fact whose parent may be skipped may be skipped
  child_skips : AreSound U → (d q : Dot) (b : Body) (k : TokenId) → map.get U d ≡ Some b
      → kept_for d b ≡ Some k → k.dot ≡ d → IsParent (links_in (map.get U)) d q
      → MaySkip (map.get U) P.horizon q → MaySkip (map.get U) P.horizon d
  child_skips sound d q b k here kept own parent may =
      let mint = linked_mints may.fact parent.above
      (link_from (map.get U q) may.fact may.here parent.above parent.there) in
      let o = over_here U P.horizon sound q may mint in
      let above : IsUnder (links_in (map.get U)) q o.root =
      minted_linked (map.get U) q o.root parent.above parent.there o.under in
      let under : IsUnder (links_in (map.get U)) d o.root =
      record { path = q ∷ above.path; leads = ((parent, above.leads.0), above.leads.1) } in
      record {
        fact = b;
        here = here;
        token = k;
        kept = kept;
        why = inl (record {
          root = o.root;
          under = subst (λ (x : Dot). IsMintedUnder (map.get U) x o.root) (sym own)
              (under-minted (map.get U) d o.root under);
          code = o.code;
          issues = o.issues;
          over = o.over;
        });
      }

  -- a token whose dot may be skipped is of a family that is over, or can't come
  named_over : AreSound U → (q : Dot) → MaySkip (map.get U) P.horizon q
      → IsOverAt (map.get U) P.horizon q ⊎ MintsNothing (map.get U) q
  named_over sound q may = by (mints may.fact) refl
    where
      by : (t : Bool) → mints may.fact ≡ t
          → IsOverAt (map.get U) P.horizon q ⊎ MintsNothing (map.get U) q
      by false none = inr (record { fact = may.fact; here = may.here; barren = none })
      by true some = inl (over_here U P.horizon sound q may some)

  module _ (sound : AreSound U) (d : Dot) where
    -- a fact that names a skipped dot may be skipped by all facts made
    names_soundly : (b : Body) (q : Dot) → map.get U d ≡ Some b → names_of b ≡ Some q
        → is_skipped P.slots q ≡ true → MaySkip (map.get U) P.horizon d
    names_soundly (body.CodeRedeemed f) q here names skipped =
        child_skips sound d f.code (body.CodeRedeemed f) (record { dot = d; kind = kind.Refresh })
        here refl refl
        (sound.parents d (record { dot = f.code; kind = kind.Code })
        (ap (λ o. use_of (option_and_then link_of o)) here))
        (may_skip P U F S f.code
        (ap (is_skipped P.slots) (some_injective f.code q names) ∙ skipped))
    names_soundly (body.RefreshRotated f) q here names skipped =
        child_skips sound d f.parent (body.RefreshRotated f)
        (record { dot = d; kind = kind.Refresh }) here refl refl
        (sound.parents d (record { dot = f.parent; kind = kind.Refresh })
        (ap (λ o. use_of (option_and_then link_of o)) here))
        (may_skip P U F S f.parent
        (ap (is_skipped P.slots) (some_injective f.parent q names) ∙ skipped))
    names_soundly (body.TokenRevoked f) q here names skipped = record {
      fact = body.TokenRevoked f;
      here = here;
      token = f.token;
      kept = refl;
      why = named_over sound f.token.dot
          (may_skip P U F S f.token.dot
          (ap (is_skipped P.slots) (some_injective f.token.dot q names) ∙ skipped));
    }
    names_soundly (body.ReuseSeen f) q here names skipped = record {
      fact = body.ReuseSeen f;
      here = here;
      token = f.token;
      kept = refl;
      why = named_over sound f.token.dot
          (may_skip P U F S f.token.dot
          (ap (is_skipped P.slots) (some_injective f.token.dot q names) ∙ skipped));
    }
    names_soundly (body.AccessRefreshed f) q here names skipped = record {
      fact = body.AccessRefreshed f;
      here = here;
      token = refresh_at f.parent;
      kept = refl;
      why = named_over sound f.parent
          (may_skip P U F S f.parent
          (ap (is_skipped P.slots) (some_injective f.parent q names) ∙ skipped));
    }
    names_soundly b q here names skipped = absurd (none_is_not_some q names)

    -- a fact that may go, by what the store knows, may be skipped by all facts made
    pub goes_soundly : Goes P d → MaySkip (map.get U) P.horizon d
    goes_soundly (inl may) =
        may_more H U (held_made P U F S) P.horizon P.horizon (omega arith) d may
    goes_soundly (inr names) = names_soundly names.fact names.named
        (held_made P U F S d names.fact names.here) names.names names.skipped

  -- a fact that may go is held
  held_goes : (d : Dot) → Goes P d → (b : Body) × (map.get H d ≡ Some b)
  held_goes d (inl may) = (may.fact, may.here)
  held_goes d (inr names) = (names.fact, names.here)

  -- ---- one fact is skipped

  -- a store of which a fact that may go was skipped stands for the same facts
  step_stands : AreSound U → (d : Dot) → Goes P d → StandsFor (with_skipped P d) U F
  step_stands sound d go =
      let fact = held_goes d go in
      slot_put U P.horizon P.slots d Skipped F (
        held_part P U F S d fact.0 fact.1 ∙ sym (held_made P U F S d fact.0 fact.1),
        goes_soundly sound d go,
      )
      (λ q ne. S q)

  -- ---- some fact may go

  -- at a dot that isn't skipped, the store holds what the facts have there
  unskipped : (q : Dot) → is_skipped P.slots q ≢ true → map.get F q ≡ map.get H q
  unskipped q off = elim (cases_Bool (is_skipped P.slots q)) [
    | inl on ↦ absurd (off on)
    | inr held ↦ at_held P U F S q held
  ]

  -- the dot that a fact's link names is the one that the fact names
  names_link : (b : Body) (l : Link) (p : Dot) → link_of b ≡ Some l → named_by l ≡ Some p
      → names_of b ≡ Some p
  names_link (body.CodeIssued f) l p h n =
      absurd (none_is_not_some p (ap named_by (some_injective Code l h) ∙ n))
  names_link (body.CodeRedeemed f) l p h n = ap named_by (some_injective (Redeems f.code) l h) ∙ n
  names_link (body.RefreshRotated f) l p h n =
      ap named_by (some_injective (Rotates f.parent f.generation) l h) ∙ n
  names_link b l p h n = absurd (none_is_not_some l h)

  -- a code that is held, and whose family is over, may go
  code_goes : (c : Dot) (code : issued.CodeIssued) → issued_at (map.get H) c ≡ Some code
      → code.family_end ≤ P.horizon → Goes P c
  code_goes c code held over =
      let x = from_some issued_in (map.get H c) code held in
      by x.0 x.1 x.2
    where
      by : (b : Body) → map.get H c ≡ Some b → issued_in b ≡ Some code → Goes P c
      by (body.CodeIssued f) here is = inl (record {
        fact = body.CodeIssued f;
        here = here;
        token = record { dot = c; kind = kind.Code };
        kept = refl;
        why = inl
            (record {
              root = c;
              under = under-minted (map.get H) c c (code_under H c code held);
              code = code;
              issues = held;
              over = over;
            });
      })
      by b here is = absurd (none_is_not_some code is)

  -- along the chain of a fact that is held, to its code
  on_path : (d : Dot) (ps : List Dot) (c : Dot) (code : issued.CodeIssued)
      → IsPath (links_in (map.get F)) d ps c → issued_at (map.get F) c ≡ Some code
      → code.family_end ≤ P.horizon
      → is_skipped P.slots d ≢ true → (e : Dot) × Goes P e
  on_path d [] c code m issues over off = (
    c,
    code_goes c code
        (ap (option_and_then issued_in)
        (sym (unskipped c (λ on. off (ap (is_skipped P.slots) m.0 ∙ on))))
        ∙ issues) over,
  )
  on_path d (p ∷ ps) c code m issues over off = elim (cases_Bool (is_skipped P.slots p)) [
    | inr held ↦ on_path p ps c code (m.0.1, m.1) issues over (λ on. true≢false (sym on ∙ held))
    | inl skipped ↦
        let x = from_some link_of (map.get F d) m.0.0.link m.0.0.here in (
          d,
          inr (record {
            fact = x.0;
            here = sym (unskipped d off) ∙ x.1;
            named = p;
            names = names_link x.0 m.0.0.link p x.2 m.0.0.names;
            skipped = skipped;
          }),
        )
  ]

  -- along the chain of a token whose fact is held: an access token that was refreshed goes once the
  -- fact that minted its refresh token is skipped
  from_token : (q c : Dot) (code : issued.CodeIssued) (o : Option Body) → map.get F q ≡ o
      → IsUnder (links_in (map.get F)) (anchor_by q o) c → issued_at (map.get F) c ≡ Some code
      → code.family_end ≤ P.horizon
      → is_skipped P.slots q ≢ true → (e : Dot) × Goes P e
  from_token q c code None at under issues over off =
      on_path q under.path c code under.leads issues over off
  from_token q c code (Some (body.AccessRefreshed f)) at under issues over off =
      elim (cases_Bool (is_skipped P.slots f.parent)) [
        | inr held ↦ on_path f.parent under.path c code under.leads issues over
            (λ on. true≢false (sym on ∙ held))
        | inl skipped ↦ (
          q,
          inr (record {
            fact = body.AccessRefreshed f;
            here = sym (unskipped q off) ∙ at;
            named = f.parent;
            names = refl;
            skipped = skipped;
          }),
        )
      ]
  from_token q c code (Some b) at under issues over off =
      on_path q under.path c code under.leads issues over off

  -- a fact is kept for a token of its own, or names the token's dot
  own_or_named : (d : Dot) (b : Body) (k : TokenId) → kept_for d b ≡ Some k
      → (k.dot ≡ d) ⊎ (names_of b ≡ Some k.dot)
  own_or_named d (body.CodeIssued f) k h =
      inl (ap (λ (x : TokenId). x.dot) (sym (some_injective _ k h)))
  own_or_named d (body.CodeRedeemed f) k h =
      inl (ap (λ (x : TokenId). x.dot) (sym (some_injective _ k h)))
  own_or_named d (body.RefreshRotated f) k h =
      inl (ap (λ (x : TokenId). x.dot) (sym (some_injective _ k h)))
  own_or_named d (body.TokenRevoked f) k h =
      inr (ap (λ (x : TokenId). Some x.dot) (some_injective f.token k h))
  own_or_named d (body.ReuseSeen f) k h =
      inr (ap (λ (x : TokenId). Some x.dot) (some_injective f.token k h))
  own_or_named d (body.AccessRefreshed f) k h =
      inr (ap (λ (x : TokenId). Some x.dot) (some_injective _ k h))
  own_or_named d b k h = absurd (none_is_not_some k h)

  -- as long as a fact that may be skipped, by the facts stood for, is not skipped, some fact may go
  pub progresses : (d : Dot) → MaySkip (map.get F) P.horizon d → is_skipped P.slots d ≢ true
      → (e : Dot) × Goes P e
  progresses d may off = elim (cases_Bool (is_skipped P.slots may.token.dot)) [
    | inr held ↦ by may.why (λ on. true≢false (sym on ∙ held))
    | inl skipped ↦ elim (own_or_named d may.fact may.token may.kept) [
      | inl own ↦ absurd (off (ap (is_skipped P.slots) (sym own) ∙ skipped))
      | inr names ↦ (
        d,
        inr (record {
          fact = may.fact;
          here = sym (unskipped d off) ∙ may.here;
          named = may.token.dot;
          names = names;
          skipped = skipped;
        }),
      )
    ]
  ]
    where
      by : IsOverAt (map.get F) P.horizon may.token.dot ⊎ MintsNothing (map.get F) may.token.dot
          → is_skipped P.slots may.token.dot ≢ true → (e : Dot) × Goes P e
      by (inl o) held = from_token may.token.dot o.root o.code (map.get F may.token.dot) refl
          o.under o.issues o.over held
      by (inr none) held = (
        d,
        inl (record {
          fact = may.fact;
          here = sym (unskipped d off) ∙ may.here;
          token = may.token;
          kept = may.kept;
          why = inr
              (record {
                fact = none.fact;
                here = sym (unskipped may.token.dot held) ∙ none.here;
                barren = none.barren;
              });
        }),
      )

-- ---- slices

-- a store stands for the same facts with a later horizon
later_stands : (P : StoreFields) (U F : FactSet) → StandsFor P U F → (moment : ℕ)
    → StandsFor (with_horizon P moment) U F
later_stands P U F S moment q = slot_more U U (λ d b h. h) P.horizon (max P.horizon moment)
    (omega arith) q (map.get P.slots q) (map.get F q) (S q)

-- a store stands for the same facts after the steps of a slice
steps_stand : (P Q : StoreFields) (U F : FactSet) → StandsFor P U F → AreSound U → (ds : List Dot)
    → Steps P ds Q → StandsFor Q U F
steps_stand P Q U F S sound [] is = subst (λ (R : StoreFields). StandsFor R U F) (sym is) S
steps_stand P Q U F S sound (d ∷ ds) steps =
    steps_stand (with_skipped P d) Q U F (step_stands P U F S sound d steps.0) sound ds steps.1

-- a store of which a slice was pruned stands for the same facts
pub slice_stands : (old new : StoreFields) (moment : ℕ) (after : Option Dot) (count : ℕ)
    (slice : Slice) (U F : FactSet)
    → PrunesSome old moment after count slice new → StandsFor old U F → AreSound U
    → StandsFor new U F
slice_stands old new moment after count slice U F looks S sound =
    steps_stand (with_horizon old moment) new U F (later_stands old U F S moment) sound
    looks.went.dots looks.went.steps
