-- The status of a token by the forest's top is the status by the set. Key results:
--   top_says, used_says   what the forest's look-ups return, by the set
--   found_body, found_dot the body and the dot of the fact that a look-up finds
--   status_by_top         the status by the top is the status of the handle
use Rattle.std.proofs.Common.{◌≡◌, inl, inr, ℕ, Bool, true, false, List, Option, Some, None}
use Rattle.std.proofs.Common.{if◌then◌else◌, refl, sym, ap, subst, ◌∙◌}
use Rattle.std.proofs.lemmas.Bool.{false_from_ne_true}
use Rattle.std.specs.Option.{option_and_then, option_map}
use Rattle.std.specs.Str.{bytes_eq}
use Rattle.std.specs.FinMap as map
use Rattle.tk_handle.specs.declared.dot.Dot.{Dot}
use Rattle.tk_handle.specs.declared.token_id.TokenId.{TokenId}
use Rattle.tk_handle.specs.declared.handle.Handle.{Handle}
use Rattle.tk_family.specs.declared.link.Link.{Link}
use Rattle.tk_family.specs.declared.top.Top.{Top}
use Rattle.tk_family.specs.declared.top.Top.TheVariants as top
use Rattle.tk_family.specs.Families.{Links, Marks, IsUnder, IsDead, IsUsed, grant_at}
use Rattle.tk_family.specs.ForestFacts.{ForestFacts, links_at, marks_at}
use Rattle.tk_family.specs.Tops.{IsTop}
use Rattle.tk_family.proofs.WalkLaws.{code_of-complete}
use Rattle.tk_fact.specs.declared.body.Body.{Body}
use Rattle.tk_fact.specs.Tokens.{MintedFields, anchor_of, minted_of}
use Rattle.tk_store.specs.FactSet.{FactSet}
use Rattle.tk_ledger.specs.ByTop.{TopSays, state_by, by_root, by_top}
use Rattle.tk_ledger.specs.Index.{IsTied}
use Rattle.tk_ledger.specs.Status.{state_in, standing_in, with_digest, digest_of, minted_as}
use Rattle.tk_ledger.specs.Status.{status_by, status_in}
use Rattle.tk_ledger.specs.Tokens.{links_in, code_in, anchor_by, anchor_in, Root, root_of, root_in}
use Rattle.tk_ledger.specs.Tokens.{minted_in, is_dead}
use Rattle.tk_ledger.specs.Tokens.{is_used, is_revoked, is_ended, is_ended_by, IsMarked}
use Rattle.tk_ledger.specs.declared.status.State.{State}
use Rattle.tk_ledger.specs.declared.status.Status.TheVariants.{Known}
use Rattle.tk_ledger.proofs.TokenLaws.{is_marked-sound, is_marked-complete, is_dead-sound}
use Rattle.tk_ledger.proofs.RootLaws.{root_at}
use Rattle.tk_ledger.proofs.TokenLaws.{is_dead-complete, is_used-sound, is_used-complete}
use Rattle.tk_ledger.proofs.KeyLaws.{same_tests}
use Rattle.tk_ledger.proofs.ForestLaws.{top_code}
use Rattle.tk_ledger.proofs.WakeLaws.{links_path}

-- ---- the forest's look-ups

-- marks of grants in a family are all that a death looks at
abbrev GrantsWithin : Links → Marks → Marks → Type 0
GrantsWithin f m n =
    (q c : Dot) (l : Link) → f q ≡ Some l → IsUnder f q c → m (grant_at q l) → n (grant_at q l)

-- a dead family is dead by other marks that have the marks of its grants
dead_grants : (f : Links) (m n : Marks) → GrantsWithin f m n → (c : Dot) → IsDead f m c
    → IsDead f n c
dead_grants f m n w c x = record {
  member = x.member;
  under = x.under;
  bad = record {
    link = x.bad.link;
    here = x.bad.here;
    why = elim x.bad.why [
      | inl marked ↦ inl (w x.member c x.bad.link x.bad.here x.under marked)
      | inr twice ↦ inr twice
    ];
  };
}

-- two relations that mark the same grants in families give the same tops
top_grants : (f : Links) (m n : Marks) → GrantsWithin f m n → GrantsWithin f n m
    → (d : Dot) (t : Top) → IsTop f m d t → IsTop f n d t
top_grants f m n there back d top.Absent h = h
top_grants f m n there back d top.Broken h = h
top_grants f m n there back d (top.Code c) h = (h.0, λ dead. h.1 (dead_grants f n m back c dead))
top_grants f m n there back d (top.Dead c) h = (h.0, dead_grants f m n there c h.1)

-- the top of a dot in a forest that follows the set is its top by the set
top_of_set : (F : FactSet) (x : ForestFacts) (d : Dot) (r : Top) → IsTied F x
    → IsTop (links_at x) (marks_at x) d r → IsTop (links_in (map.get F)) (IsMarked (map.get F)) d r
top_of_set F x d r t h =
    top_grants (links_in (map.get F)) (marks_at x) (IsMarked (map.get F))
    (λ q c l at under m. is_marked-sound F (grant_at q l) (sym (t.marks q c l at under) ∙ m))
    (λ q c l at under m. t.marks q c l at under ∙ is_marked-complete F (grant_at q l) m)
    d r (subst (λ (l : Links). IsTop l (marks_at x) d r) (links_path F x t.links) h)

-- for `top_says`: by what the top is
says : (F : FactSet) (d : Dot) (r : Top) → IsTop (links_in (map.get F)) (IsMarked (map.get F)) d r
    → TopSays F d r
says F d top.Absent h = sym (top_code (links_in (map.get F)) (IsMarked (map.get F)) d top.Absent h)
says F d top.Broken h = sym (top_code (links_in (map.get F)) (IsMarked (map.get F)) d top.Broken h)
says F d (top.Code c) h = (
  code_of-complete (links_in (map.get F)) d c h.0,
  false_from_ne_true (is_dead F c) (λ e. h.1 (is_dead-sound F c e)),
)
says F d (top.Dead c) h =
    (code_of-complete (links_in (map.get F)) d c h.0, is_dead-complete F c h.1)

-- what the forest's top says of a dot, by the set
pub top_says : (F : FactSet) (x : ForestFacts) (d : Dot) (r : Top) → IsTied F x
    → IsTop (links_at x) (marks_at x) d r → TopSays F d r
top_says F x d r t h = says F d r (top_of_set F x d r t h)

-- whether a token is used, by the forest, is what the set says
pub used_says : (F : FactSet) (x : ForestFacts) (k : TokenId) (r : Bool) → IsTied F x
    → ((r ≡ true → IsUsed (links_at x) k) × (IsUsed (links_at x) k → r ≡ true)) → r ≡ is_used F k
used_says F x k r t both = same_tests r (is_used F k)
    (λ h. is_used-complete F k
    (subst (λ (l : Links). IsUsed l k) (links_path F x t.links) (both.0 h)))
    (λ h. both.1
    (subst (λ (l : Links). IsUsed l k) (sym (links_path F x t.links)) (is_used-sound F k h)))

-- ---- the status

-- a minted token of a family is ended exactly if the client of the code revoked it
ended_is : (F : FactSet) (k : TokenId) (m : MintedFields) (o : Root)
    → minted_in (map.get F) k ≡ Some m → root_in (map.get F) k.dot ≡ Some o
    → is_ended F k ≡ is_revoked F k m.digest o.issued.client
ended_is F k m o h i =
    ap (λ (x : Option MintedFields). is_ended_by F k x (root_in (map.get F) k.dot)) h
    ∙ ap (is_ended_by F k (Some m)) i

-- the state by whether the family is dead is the state by the set
state_is : (F : FactSet) (now : ℕ) (k : TokenId) (m : MintedFields) (o : Root) (dead : Bool)
    → is_dead F o.code ≡ dead → is_ended F k ≡ is_revoked F k m.digest o.issued.client
    → state_by dead F now k m o.issued ≡ state_in F now k m o
state_is F now k m o dead h i = rw (h, i) refl

-- for `by_top_is`: the status under a code, by the fact that issued it
root_is : (F : FactSet) (now : ℕ) (k : TokenId) (b : Body) (m : MintedFields) (c : Dot)
    (dead : Bool) (o : Option Root)
    → minted_in (map.get F) k ≡ Some m → code_in (map.get F) (anchor_in (map.get F) k.dot) ≡ Some c
    → is_dead F c ≡ dead → root_of (map.get F) c ≡ o
    → by_root dead F now k b m o ≡ status_by F now k (Some b) (Some m) o
root_is F now k b m c dead None h i j e = refl
root_is F now k b m c dead (Some o) h i j e =
    let in_family : root_in (map.get F) k.dot ≡ Some o =
    ap (option_and_then (root_of (map.get F))) i ∙ e in
    ap (λ (s : State). Known (record {
      client = o.issued.client;
      subject = o.issued.subject;
      code = o.code;
      issued = o.issued;
      scope = m.scope;
      start = m.start;
      expiry = m.expiry;
      family_end = o.issued.family_end;
      generation = (standing_in F now k b m o).generation;
      state = s;
    })) (state_is F now k m o dead (ap (is_dead F) (sym (root_at F c o e).0) ∙ j)
    (ended_is F k m o h in_family))

-- for `status_by_top`: by what the top is
by_top_is : (F : FactSet) (now : ℕ) (k : TokenId) (b : Body) (m : MintedFields) (r : Top)
    → minted_in (map.get F) k ≡ Some m → TopSays F (anchor_in (map.get F) k.dot) r
    → by_top F now k b m r ≡ status_by F now k (Some b) (Some m) (root_in (map.get F) k.dot)
by_top_is F now k b m top.Absent h t = sym (ap (λ (o : Option Dot).
    status_by F now k (Some b) (Some m) (option_and_then (root_of (map.get F)) o)) t)
by_top_is F now k b m top.Broken h t = sym (ap (λ (o : Option Dot).
    status_by F now k (Some b) (Some m) (option_and_then (root_of (map.get F)) o)) t)
by_top_is F now k b m (top.Code c) h t =
    root_is F now k b m c false (root_of (map.get F) c) h t.0 t.1 refl
    ∙ sym (ap (λ (o : Option Dot).
    status_by F now k (Some b) (Some m) (option_and_then (root_of (map.get F)) o)) t.0)
by_top_is F now k b m (top.Dead c) h t =
    root_is F now k b m c true (root_of (map.get F) c) h t.0 t.1 refl
    ∙ sym (ap (λ (o : Option Dot).
    status_by F now k (Some b) (Some m) (option_and_then (root_of (map.get F)) o)) t.0)

-- what is found with a digest was minted
pub digest_kept : (digest : List ℕ) (o : Option MintedFields) (m : MintedFields)
    → with_digest digest o ≡ Some m → o ≡ Some m
digest_kept digest None m h = h
digest_kept digest (Some x) m h = kept (test x) h
  where
    test : MintedFields → Bool
    test x = bytes_eq x.digest digest

    kept : (b : Bool) → (if b then Some x else None) ≡ Some m → Some x ≡ Some m
    kept true h = h
    kept false h = absurd (cc)

-- values that are equal as options are equal
some_first : {A : Type 0} (x y : A) → Some x ≡ Some y → x ≡ y
some_first x y h = cc

-- the body of the fact that a look-up finds
pub found_body : (d : Dot) (o : Option Body) (f : Dot × Body) → Some f ≡ option_map (λ b. (d, b)) o
    → o ≡ Some f.1
found_body d None f h = absurd (cc)
found_body d (Some b) f h = ap (λ (p : Dot × Body). Some p.1) (sym (some_first f (d, b) h))

-- a fact that is found at a dot has that dot
pub found_dot : (d : Dot) (o : Option Body) (f : Dot × Body) → Some f ≡ option_map (λ b. (d, b)) o
    → f.0 ≡ d
found_dot d None f h = absurd (cc)
found_dot d (Some b) f h = ap (λ (p : Dot × Body). p.0) (some_first f (d, b) h)

-- the status of a token that the fact at its dot minted, by the top
pub status_by_top : (F : FactSet) (now : ℕ) (h : Handle) (b : Body) (m : MintedFields) (r : Top)
    → map.get F h.id.dot ≡ Some b → with_digest (digest_of h) (minted_of b h.id.kind) ≡ Some m
    → TopSays F (anchor_of h.id.dot b) r → by_top F now h.id b m r ≡ status_in F now h
status_by_top F now h b m r held mints at =
    let t : TopSays F (anchor_in (map.get F) h.id.dot) r =
    subst (λ (q : Dot). TopSays F q r) (sym (ap (anchor_by h.id.dot) held)) at in
    let minted : minted_in (map.get F) h.id ≡ Some m =
    ap (option_and_then (λ x. minted_of x h.id.kind)) held
    ∙ digest_kept (digest_of h) (minted_of b h.id.kind) m mints in
    by_top_is F now h.id b m r minted t
    ∙ ap (λ (o : Option MintedFields).
    status_by F now h.id (Some b) o (root_in (map.get F) h.id.dot))
    (sym (ap (λ (o : Option Body).
    with_digest (digest_of h) (option_and_then (λ x. minted_of x h.id.kind) o)) held
    ∙ mints))
    ∙ ap (λ (o : Option Body).
    status_by F now h.id o (minted_as (map.get F) h) (root_in (map.get F) h.id.dot)) (sym held)
