-- What ends a token by the facts that a store stands for ends it by those that it holds, or the
-- token's family is over. Key results:
--   revoked_held, ended_held, used_held   a token that is revoked, ended, used
--   dead_held                             a code whose family is dead
use Rattle.std.proofs.Common.{◌≡◌, ◌⊎◌, inl, inr, ℕ, List, refl, sym, ap, subst, ◌∙◌}
use Rattle.std.proofs.lemmas.Bool.{cases_Bool}
use Rattle.std.specs.FinMap as map
use Rattle.tk_handle.specs.declared.dot.Dot.{Dot}
use Rattle.tk_handle.specs.declared.token_id.TokenId.{TokenId}
use Rattle.tk_family.specs.Families.{grant_at, IsUnder, IsUsed, IsTwice, IsDead}
use Rattle.tk_family.proofs.FamilyLaws.{IsUnder-one}
use Rattle.tk_fact.specs.Keeping.{kept_for}
use Rattle.tk_fact.specs.declared.body.Body.TheVariants as body
use Rattle.tk_store.specs.FactSet.{FactSet}
use Rattle.tk_store.specs.Slots.{is_skipped}
use Rattle.tk_store.specs.StoreFields.{StoreFields, held_facts}
use Rattle.tk_store.proofs.PutLaws.{some_injective}
use Rattle.tk_ledger.specs.Retention.{IsOverAt, MintsNothing}
use Rattle.tk_ledger.specs.SignOuts.{IsSignedOut}
use Rattle.tk_ledger.specs.Tokens.{links_in, IsRevoked, anchor_in, IsMintedUnder, IsEnded, IsOut}
use Rattle.tk_ledger.specs.Tokens.{IsMarked}
use Rattle.tk_ledger.proofs.RootLaws.{minted-under-below, under-minted}
use Rattle.tk_ledger.proofs.EndingLaws.{under_itself as code_under}
use Rattle.tk_ledger.proofs.WakeLaws.{grant_place as grant_dot}
use Rattle.tk_retention.specs.StandsFor.{StandsFor}
use Rattle.tk_retention.proofs.OverLaws.{IsOver, under_at, over_from}
use Rattle.tk_retention.proofs.StandingLaws.{all_made, at_held, at_skipped, code_held, lasting_held}
use Rattle.tk_retention.proofs.StandingLaws.{link_held, made_up, may_skip, mint_held, minted_held}
use Rattle.tk_retention.proofs.StandingLaws.{reuse_held, twice_held, under_held, use_held}

module _ (P : StoreFields) (U F : FactSet) (S : StandsFor P U F) where
  -- the facts that the store holds
  abbrev H : FactSet
  H = held_facts P

  -- a revocation is held, or its token's family is over, or its token can't come
  pub revoked_held : (k : TokenId) (digest : List ℕ) (client : Dot)
      → IsRevoked (map.get F) k digest client
      → IsRevoked (map.get H) k digest client
      ⊎ (IsOverAt (map.get U) P.horizon k.dot ⊎ MintsNothing (map.get U) k.dot)
  revoked_held k digest client r = elim (cases_Bool (is_skipped P.slots r.place)) [
    | inr held ↦ inl (record {
      place = r.place;
      revocation = r.revocation;
      held = sym (at_held P U F S r.place held) ∙ r.held;
      token = r.token;
      digest_is = r.digest_is;
      client_is = r.client_is;
    })
    | inl skipped ↦
        let may = may_skip P U F S r.place skipped in
        let fact : may.fact ≡ body.TokenRevoked r.revocation =
        some_injective may.fact (body.TokenRevoked r.revocation)
        (sym may.here ∙ sym (at_skipped P U F S r.place skipped) ∙ r.held) in
        let token : may.token ≡ r.revocation.token =
        some_injective may.token r.revocation.token (sym may.kept ∙ ap (kept_for r.place) fact) in
        inr (subst (λ (q : Dot). IsOverAt (map.get U) P.horizon q ⊎ MintsNothing (map.get U) q)
        (ap (λ (x : TokenId). x.dot) (token ∙ r.token)) may.why)
  ]

  -- a subject that was signed out by the facts was so by those that are held
  signed_held : (subject : List ℕ) (moment : ℕ) → IsSignedOut (map.get F) subject moment
      → IsSignedOut (map.get H) subject moment
  signed_held subject moment s = record {
    place = s.place;
    sign_out = s.sign_out;
    held = lasting_held P U F S s.place (body.SubjectOut s.sign_out) refl s.held;
    subject_is = s.subject_is;
    not_before = s.not_before;
  }

  -- a token under a code that ended by the facts stood for ended by those held, or the code's
  -- family is over
  pub ended_held : (c : Dot) (k : TokenId) → IsEnded (map.get F) k
      → IsMintedUnder (map.get U) k.dot c → IsEnded (map.get H) k ⊎ IsOver U P.horizon c
  ended_held c k e under =
      let same : e.code ≡ c = IsUnder-one (links_in (map.get U)) (anchor_in (map.get U) k.dot)
      e.code c (minted-under-below F U (all_made P U F S) k.dot e.code e.under) under in
      elim (mint_held P U F S c k e.minted e.mints under) [
        | inr over ↦ inr over
        | inl held ↦ elim (minted_held P U F S k.dot e.code e.under) [
          | inr over ↦ inr (subst (λ (q : Dot). IsOver U P.horizon q) same over)
          | inl above ↦ elim (code_held P U F S e.code e.issued e.issues) [
            | inr over ↦ inr (subst (λ (q : Dot). IsOver U P.horizon q) same over)
            | inl is ↦ elim (revoked_held k e.minted.digest e.issued.client e.by_client) [
              | inr why ↦ inr (over_from U P.horizon k.dot k.dot c why refl under)
              | inl by ↦ inl (record {
                minted = e.minted;
                code = e.code;
                issued = e.issued;
                mints = held;
                under = above;
                issues = is;
                by_client = by;
              })
            ]
          ]
        ]
      ]

  -- a sign-out that ends a code is held, or the code's family is over
  out_held : (c d : Dot) → IsOut (map.get F) d → IsUnder (links_in (map.get U)) d c
      → IsOut (map.get H) d ⊎ IsOver U P.horizon c
  out_held c d x under =
      let same : d ≡ c = IsUnder-one (links_in (map.get U)) d d c
      (made_up P U F S d d (code_under F d x.issued x.issues)) under in
      elim (code_held P U F S d x.issued x.issues) [
        | inr over ↦ inr (subst (λ (q : Dot). IsOver U P.horizon q) same over)
        | inl is ↦ inl
            (record {
              issued = x.issued;
              issues = is;
              signed_out = signed_held x.issued.subject x.issued.start x.signed_out;
            })
      ]

  -- a token that is marked is so by the facts held, or its family is over
  marked_held : (c : Dot) (k : TokenId) → IsMarked (map.get F) k
      → IsUnder (links_in (map.get U)) k.dot c → IsMarked (map.get H) k ⊎ IsOver U P.horizon c
  marked_held c k (inl seen) under =
      elim (reuse_held P U F S c k seen under) [ inl s ↦ inl (inl s) | inr over ↦ inr over ]
  marked_held c k (inr (inl ended)) under =
      elim (ended_held c k ended.1 (under-minted (map.get U) k.dot c under)) [
        | inl e ↦ inl (inr (inl (ended.0, e)))
        | inr over ↦ inr over
      ]
  marked_held c k (inr (inr out)) under = elim (out_held c k.dot out.1 under) [
    | inl o ↦ inl (inr (inr (out.0, o)))
    | inr over ↦ inr over
  ]

  -- a token that is marked or used twice is so by the facts held, or its family is over
  why_held : (c : Dot) (k : TokenId) → IsMarked (map.get F) k ⊎ IsTwice (links_in (map.get F)) k
      → IsUnder (links_in (map.get U)) k.dot c
      → (IsMarked (map.get H) k ⊎ IsTwice (links_in (map.get H)) k) ⊎ IsOver U P.horizon c
  why_held c k (inl marked) under =
      elim (marked_held c k marked under) [ inl m ↦ inl (inl m) | inr over ↦ inr over ]
  why_held c k (inr twice) under =
      elim (twice_held P U F S c k twice under) [ inl t ↦ inl (inr t) | inr over ↦ inr over ]

  -- a death is that of the facts that are held, or the family is over
  pub dead_held : (c : Dot) → IsDead (links_in (map.get F)) (IsMarked (map.get F)) c
      → IsDead (links_in (map.get H)) (IsMarked (map.get H)) c ⊎ IsOver U P.horizon c
  dead_held c x =
      let made : IsUnder (links_in (map.get U)) x.member c = made_up P U F S x.member c x.under in
      elim (under_held P U F S x.member c x.under) [
        | inr over ↦ inr over
        | inl under ↦ elim (link_held P U F S x.member c x.bad.link x.bad.here made) [
          | inr over ↦ inr over
          | inl here ↦ elim (why_held c (grant_at x.member x.bad.link) x.bad.why
              (under_at (links_in (map.get U)) x.member (grant_at x.member x.bad.link).dot c
              (sym (grant_dot x.member x.bad.link)) made)) [
                | inr over ↦ inr over
                | inl why ↦ inl
                    (record {
                      member = x.member;
                      under = under;
                      bad = record { link = x.bad.link; here = here; why = why };
                    })
              ]
        ]
      ]

  -- a token under a code that is used by the facts stood for is used by those held, or the code's
  -- family is over
  pub used_held : (c : Dot) (k : TokenId) → IsUsed (links_in (map.get F)) k
      → IsUnder (links_in (map.get U)) k.dot c
      → IsUsed (links_in (map.get H)) k ⊎ IsOver U P.horizon c
  used_held c k u under = elim (use_held P U F S u.user c k u.by under) [
    | inl held ↦ inl (record { user = u.user; by = held })
    | inr over ↦ inr over
  ]
