-- What holds of the facts that a store stands for holds of those that it holds, or the family is
-- over. Key results, where P stands for F and U are all facts made:
--   at_skipped, at_held, may_skip     what stands at a dot
--   held_made, all_made, held_part    the sets within each other
--   lasting_held                      a fact that is kept for no token is held
--   skipped_over                      what is skipped is under a code whose family is over
--   under_held, minted_held, mint_held, code_held
--                                     it is held, or the family is over
use Rattle.std.proofs.Common.{◌≡◌, ◌⊎◌, inl, inr, ℕ, true, false, Option, None, Some, List, [], ◌∷◌}
use Rattle.std.proofs.Common.{refl, sym, ap, subst, ◌∙◌}
use Rattle.std.proofs.lemmas.Bool.{true≢false, cases_Bool}
use Rattle.std.specs.Option.{option_and_then}
use Rattle.std.specs.FinMap as map
use Rattle.tk_handle.specs.declared.dot.Dot.{Dot}
use Rattle.tk_handle.specs.declared.token_id.TokenId.{TokenId}
use Rattle.tk_family.specs.declared.link.Link.{Link}
use Rattle.tk_family.specs.declared.link.Link.TheVariants.{Code}
use Rattle.tk_family.specs.Families.{IsParent, IsPath, IsUnder, use_of, IsTwice}
use Rattle.tk_family.proofs.FamilyLaws.{IsUnder-one, IsUnder-within, use_of-within}
use Rattle.tk_fact.specs.Keeping.{kept_for}
use Rattle.tk_fact.specs.Tokens.{MintedFields, minted_of}
use Rattle.tk_fact.specs.declared.body.Body.{Body}
use Rattle.tk_fact.specs.declared.body.Body.TheVariants as body
use Rattle.tk_fact.specs.declared.code_issued.CodeIssued as issued
use Rattle.tk_store.specs.FactSet.{FactSet, IsSubset}
use Rattle.tk_store.specs.Slots.{Slot, Held, Skipped, held_slot, is_skipped, is_skipped_slot}
use Rattle.tk_store.specs.StoreFields.{StoreFields, held_facts}
use Rattle.tk_store.proofs.PutLaws.{none_is_not_some, some_injective}
use Rattle.tk_store.proofs.SlotLaws.{get_held}
use Rattle.tk_ledger.specs.Retention.{IsOverAt, MintsNothing, MaySkip}
use Rattle.tk_ledger.specs.Tokens.{link_of, links_in, issued_in, issued_at, minted_in, anchor_by}
use Rattle.tk_ledger.specs.Tokens.{anchor_in, IsMintedUnder, IsReused}
use Rattle.tk_ledger.proofs.RootLaws.{links-below, minted-under-below, under-minted}
use Rattle.tk_ledger.proofs.EndingLaws.{under_itself as code_under}
use Rattle.tk_retention.specs.StandsFor.{SlotStands, StandsFor}
use Rattle.tk_retention.proofs.OverLaws.{IsOver, none_some, kept_linked, use_named, link_from}
use Rattle.tk_retention.proofs.OverLaws.{used_link, under_at, over_at, minted_to, barren_unlinked}
use Rattle.tk_retention.proofs.OverLaws.{anchor_here, minting, kept_anchor}
use Rattle.tk_ledger.proofs.RootLaws.{minted-linked as minted_linked}
use Rattle.tk_retention.proofs.OverLaws.{over_from}

-- ---- what a slot stands for

-- a skipped dot stands for the fact made there, which may be skipped
skipped_stands : (U : FactSet) (t : ℕ) (d : Dot) (o : Option Slot) (p : Option Body)
    → SlotStands U t d o p → is_skipped_slot o ≡ true → (p ≡ map.get U d) × MaySkip (map.get U) t d
skipped_stands U t d None p s h = absurd (true≢false (sym h))
skipped_stands U t d (Some (Held b)) p s h = absurd (true≢false (sym h))
skipped_stands U t d (Some Skipped) p s h = s

-- a dot that isn't skipped stands for what it holds
held_stands : (U : FactSet) (t : ℕ) (d : Dot) (o : Option Slot) (p : Option Body)
    → SlotStands U t d o p → is_skipped_slot o ≡ false → p ≡ held_slot o
held_stands U t d None p s h = s
held_stands U t d (Some (Held b)) p s h = s.0
held_stands U t d (Some Skipped) p s h = absurd (true≢false h)

-- a skipped dot holds no fact
slot_apart : (o : Option Slot) → is_skipped_slot o ≡ true → held_slot o ≡ None
slot_apart None h = refl
slot_apart (Some (Held b)) h = absurd (true≢false (sym h))
slot_apart (Some Skipped) h = refl

-- a fact that is held is among the facts made
held_slot_made : (U : FactSet) (t : ℕ) (d : Dot) (o : Option Slot) (p : Option Body)
    → SlotStands U t d o p → (b : Body) → held_slot o ≡ Some b → map.get U d ≡ Some b
held_slot_made U t d None p s b h = absurd (none_is_not_some b h)
held_slot_made U t d (Some (Held c)) p s b h = s.1 ∙ h
held_slot_made U t d (Some Skipped) p s b h = absurd (none_is_not_some b h)

-- ---- where P stands for F

module _ (P : StoreFields) (U F : FactSet) (S : StandsFor P U F) where
  -- the facts that the store holds
  abbrev H : FactSet
  H = held_facts P

  -- at a skipped dot F has what all facts made have
  pub at_skipped : (d : Dot) → is_skipped P.slots d ≡ true → map.get F d ≡ map.get U d
  at_skipped d h = (skipped_stands U P.horizon d (map.get P.slots d) (map.get F d) (S d) h).0

  -- a skipped dot is one that may be skipped by all facts made at the horizon
  pub may_skip : (d : Dot) → is_skipped P.slots d ≡ true → MaySkip (map.get U) P.horizon d
  may_skip d h = (skipped_stands U P.horizon d (map.get P.slots d) (map.get F d) (S d) h).1

  -- at a dot that is not skipped F has what the store holds
  pub at_held : (d : Dot) → is_skipped P.slots d ≡ false → map.get F d ≡ map.get H d
  at_held d h =
      held_stands U P.horizon d (map.get P.slots d) (map.get F d) (S d) h ∙ sym (get_held P.slots d)

  -- at a skipped dot the store holds no fact
  pub apart : (d : Dot) → is_skipped P.slots d ≡ true → map.get H d ≡ None
  apart d h = get_held P.slots d ∙ slot_apart (map.get P.slots d) h

  -- each fact held was made
  pub held_made : IsSubset H U
  held_made d b h = held_slot_made U P.horizon d (map.get P.slots d) (map.get F d) (S d) b
      (sym (get_held P.slots d) ∙ h)

  -- each fact of F was made
  pub all_made : IsSubset F U
  all_made d b h = elim (cases_Bool (is_skipped P.slots d)) [
    | inl skipped ↦ sym (at_skipped d skipped) ∙ h
    | inr held ↦ held_made d b (sym (at_held d held) ∙ h)
  ]

  -- each fact held is one of F
  pub held_part : IsSubset H F
  held_part d b h = elim (cases_Bool (is_skipped P.slots d)) [
    | inl skipped ↦ absurd (none_some (map.get H d) b (apart d skipped) h)
    | inr held ↦ at_held d held ∙ h
  ]

  -- a fact that is kept for no token is held
  pub lasting_held : (d : Dot) (b : Body) → kept_for d b ≡ None → map.get F d ≡ Some b
      → map.get H d ≡ Some b
  lasting_held d b none h = elim (cases_Bool (is_skipped P.slots d)) [
    | inl skipped ↦
        let may = may_skip d skipped in
        let same : may.fact ≡ b =
        some_injective may.fact b (sym may.here ∙ sym (at_skipped d skipped) ∙ h) in
        absurd (none_some (kept_for d b) may.token none (ap (kept_for d) (sym same) ∙ may.kept))
    | inr held ↦ sym (at_held d held) ∙ h
  ]

  -- what is skipped is under a code whose family is over
  pub skipped_over : (d c : Dot) → is_skipped P.slots d ≡ true → IsMintedUnder (map.get U) d c
      → IsOver U P.horizon c
  skipped_over d c skipped under =
      let may = may_skip d skipped in
      let a : Dot = anchor_in (map.get U) d in
      let mint = minting (map.get U) d c may.fact may.here under in
      let own : may.token.dot ≡ a = kept_anchor d may.fact may.token mint may.kept
      ∙ sym (anchor_here (map.get U) d may.fact may.here) in
      over_from U P.horizon may.token.dot a c may.why own (under-minted (map.get U) a c under)

  -- what is under a code by F is so by all facts made
  pub made_up : (d c : Dot) → IsUnder (links_in (map.get F)) d c
      → IsUnder (links_in (map.get U)) d c
  made_up d c u =
      IsUnder-within (links_in (map.get F)) (links_in (map.get U)) (links-below F U all_made) d c u

  -- a link of F under a code is held, or the code's family is over
  pub link_held : (d c : Dot) (l : Link) → links_in (map.get F) d ≡ Some l
      → IsUnder (links_in (map.get U)) d c
      → (links_in (map.get H) d ≡ Some l) ⊎ IsOver U P.horizon c
  link_held d c l h under = elim (cases_Bool (is_skipped P.slots d)) [
    | inl skipped ↦ inr (skipped_over d c skipped (under-minted (map.get U) d c under))
    | inr held ↦ inl (ap (option_and_then link_of) (sym (at_held d held)) ∙ h)
  ]

  -- a parent by the facts is one by those that are held, or the family is over
  parent_held : (e p c : Dot) → IsParent (links_in (map.get F)) e p
      → IsUnder (links_in (map.get U)) e c → IsUnder (links_in (map.get U)) p c
      → IsParent (links_in (map.get H)) e p ⊎ IsOver U P.horizon c
  parent_held e p c a low high = elim (link_held e c a.link a.here low) [
    | inr over ↦ inr over
    | inl here ↦ elim (link_held p c a.above a.there high) [
      | inr over ↦ inr over
      | inl there ↦ inl
          (record {
            link = a.link;
            above = a.above;
            here = here;
            names = a.names;
            there = there;
            fitting = a.fitting;
          })
    ]
  ]

  -- a dot from which a path leads to a code is under that code by all facts made
  made_under : (d : Dot) (ps : List Dot) (c : Dot) → IsPath (links_in (map.get F)) d ps c
      → IsUnder (links_in (map.get U)) d c
  made_under d ps c m = made_up d c (record { path = ps; leads = m })

  -- a path by the facts is one by those that are held, or the family is over
  path_held : (d : Dot) (ps : List Dot) (c : Dot) → IsPath (links_in (map.get F)) d ps c
      → IsPath (links_in (map.get H)) d ps c ⊎ IsOver U P.horizon c
  path_held d [] c m = elim (link_held c c Code m.1 (made_under c [] c (refl, m.1))) [
    | inl here ↦ inl (m.0, here)
    | inr over ↦ inr over
  ]
  path_held d (p ∷ ps) c m =
      elim (parent_held d p c m.0.0 (made_under d (p ∷ ps) c m) (made_under p ps c (m.0.1, m.1))) [
        | inr over ↦ inr over
        | inl one ↦ elim (path_held p ps c (m.0.1, m.1)) [
          | inl more ↦ inl ((one, more.0), more.1)
          | inr over ↦ inr over
        ]
      ]

  -- a whole chain is held, or its family is over
  pub under_held : (d c : Dot) → IsUnder (links_in (map.get F)) d c
      → IsUnder (links_in (map.get H)) d c ⊎ IsOver U P.horizon c
  under_held d c u = elim (path_held d u.path c u.leads) [
    | inl held ↦ inl (record { path = u.path; leads = held })
    | inr over ↦ inr over
  ]

  -- a token's whole chain is held, or its family is over
  pub minted_held : (d c : Dot) → IsMintedUnder (map.get F) d c
      → IsMintedUnder (map.get H) d c ⊎ IsOver U P.horizon c
  minted_held d c u = elim (cases_Bool (is_skipped P.slots d)) [
    | inl skipped ↦ inr (skipped_over d c skipped (minted-under-below F U all_made d c u))
    | inr held ↦ elim (under_held (anchor_in (map.get F) d) c u) [
      | inr over ↦ inr over
      | inl under ↦ inl
          (under_at (links_in (map.get H)) (anchor_in (map.get F) d) (anchor_in (map.get H) d) c
          (ap (anchor_by d) (at_held d held)) under)
    ]
  ]

  -- the path of a fact that uses a token ends at the code that the token is under
  user_over : (e c : Dot) (k : TokenId) (r : Dot) (ps : List Dot)
      → use_of (links_in (map.get U) e) ≡ Some k → IsPath (links_in (map.get U)) e ps r
      → IsUnder (links_in (map.get U)) k.dot c → r ≡ c
  user_over e c k r [] u m under = absurd
      (none_some (use_of (links_in (map.get U) e)) k
      (ap use_of (ap (links_in (map.get U)) m.0 ∙ m.1)) u)
  user_over e c k r (p ∷ ps) u m under =
      let same : k.dot ≡ p =
      use_named (links_in (map.get U) e) k m.0.0.link p u m.0.0.here m.0.0.names in
      IsUnder-one (links_in (map.get U)) p r c (record { path = ps; leads = (m.0.1, m.1) })
      (under_at (links_in (map.get U)) k.dot p c same under)

  -- the use of a token by the facts is one by all facts made
  made_use : (e : Dot) (k : TokenId) → use_of (links_in (map.get F) e) ≡ Some k
      → use_of (links_in (map.get U) e) ≡ Some k
  made_use e k u = use_of-within (links_in (map.get F)) (links_in (map.get U))
      (links-below F U all_made) e (links_in (map.get F) e) k refl u

  -- a use is held, or the family is over
  pub use_held : (e c : Dot) (k : TokenId) → use_of (links_in (map.get F) e) ≡ Some k
      → IsUnder (links_in (map.get U)) k.dot c
      → (use_of (links_in (map.get H) e) ≡ Some k) ⊎ IsOver U P.horizon c
  use_held e c k u under = elim (cases_Bool (is_skipped P.slots e)) [
    | inr held ↦ inl
        (ap (λ (o : Option Body). use_of (option_and_then link_of o)) (sym (at_held e held)) ∙ u)
    | inl skipped ↦
        let may = may_skip e skipped in
        let above = used_link (links_in (map.get U) e) k (made_use e k u) in
        let own : may.token.dot ≡ e = kept_linked e may.fact above.0 may.token
        (link_from (map.get U e) may.fact may.here above.0 above.1) may.kept in
        inr (by may.token.dot own above.0 above.1 may.why)
  ]
    where
      by : (q : Dot) → q ≡ e → (l : Link) → links_in (map.get U) e ≡ Some l
          → IsOverAt (map.get U) P.horizon q ⊎ MintsNothing (map.get U) q → IsOver U P.horizon c
      by q own l at (inl o) =
          let here : IsUnder (links_in (map.get U)) e o.root =
          minted_linked (map.get U) e o.root l at (minted_to (map.get U) q e o.root own o.under) in
          over_at U P.horizon o.root c o.code
          (user_over e c k o.root here.path (made_use e k u) here.leads under) o.issues o.over
      by q own l at (inr none) =
          absurd (barren_unlinked (map.get U) e l at
          (subst (λ (x : Dot). MintsNothing (map.get U) x) own none))

  -- a token under a code that is used twice by F is so by the facts held, or the code's family is
  -- over
  pub twice_held : (c : Dot) (k : TokenId) → IsTwice (links_in (map.get F)) k
      → IsUnder (links_in (map.get U)) k.dot c
      → IsTwice (links_in (map.get H)) k ⊎ IsOver U P.horizon c
  twice_held c k t under = elim (use_held t.one c k t.by_one under) [
    | inr over ↦ inr over
    | inl one ↦ elim (use_held t.two c k t.by_two under) [
      | inr over ↦ inr over
      | inl two ↦
          inl (record { one = t.one; two = t.two; apart = t.apart; by_one = one; by_two = two })
    ]
  ]

  -- a reuse seen by F of a token under a code is held, or the code's family is over
  pub reuse_held : (c : Dot) (k : TokenId) → IsReused (map.get F) k
      → IsUnder (links_in (map.get U)) k.dot c → IsReused (map.get H) k ⊎ IsOver U P.horizon c
  reuse_held c k s under = elim (cases_Bool (is_skipped P.slots s.place)) [
    | inr held ↦ inl
        (record {
          place = s.place;
          reuse = s.reuse;
          held = sym (at_held s.place held) ∙ s.held;
          token = s.token;
        })
    | inl skipped ↦
        let may = may_skip s.place skipped in
        let fact : may.fact ≡ body.ReuseSeen s.reuse =
        some_injective may.fact (body.ReuseSeen s.reuse)
        (sym may.here ∙ sym (at_skipped s.place skipped) ∙ s.held) in
        let token : may.token ≡ s.reuse.token =
        some_injective may.token s.reuse.token (sym may.kept ∙ ap (kept_for s.place) fact) in
        inr (over_from U P.horizon may.token.dot k.dot c may.why
        (ap (λ (x : TokenId). x.dot) (token ∙ s.token)) (under-minted (map.get U) k.dot c under))
  ]

  -- a token that F minted under a code is minted by the facts held, or the code's family is over
  pub mint_held : (c : Dot) (k : TokenId) (m : MintedFields) → minted_in (map.get F) k ≡ Some m
      → IsMintedUnder (map.get U) k.dot c
      → (minted_in (map.get H) k ≡ Some m) ⊎ IsOver U P.horizon c
  mint_held c k m h under = elim (cases_Bool (is_skipped P.slots k.dot)) [
    | inl skipped ↦ inr (skipped_over k.dot c skipped under)
    | inr held ↦
        inl (ap (option_and_then (λ (b : Body). minted_of b k.kind)) (sym (at_held k.dot held)) ∙ h)
  ]

  -- a code that F issued is issued by the facts held, or its family is over
  pub code_held : (c : Dot) (code : issued.CodeIssued) → issued_at (map.get F) c ≡ Some code
      → (issued_at (map.get H) c ≡ Some code) ⊎ IsOver U P.horizon c
  code_held c code is = elim (cases_Bool (is_skipped P.slots c)) [
    | inl skipped ↦ inr
        (skipped_over c c skipped
        (under-minted (map.get U) c c (made_up c c (code_under F c code is))))
    | inr held ↦ inl (ap (option_and_then issued_in) (sym (at_held c held)) ∙ is)
  ]
