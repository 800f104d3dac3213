-- The forest follows the set when that gets one more fact. Key results:
--   tied_by                               the forest after any fact
--   tied_still, tied_put, tied_mark, tied_revoke
--                                         the forest after each kind of change
--   top_code                              the code of a top
use Rattle.std.proofs.Common.{◌≡◌, ◌⊎◌, inl, inr, Bool, true, false, cond, List, Option, Some, None}
use Rattle.std.proofs.Common.{refl, sym, ap, subst, ◌∙◌}
use Rattle.std.proofs.lemmas.Bool.{true≢false, cases_Bool, cond-true, cond-false}
use Rattle.std.specs.Option.{option_and_then}
use Rattle.std.specs.FinMap as map
use Rattle.std.specs.FinSet as set
use Rattle.tk_handle.specs.declared.dot.Dot.{Dot}
use Rattle.tk_handle.specs.declared.token_id.TokenId.{TokenId}
use Rattle.tk_family.specs.declared.link.Link.{Link}
use Rattle.tk_family.specs.declared.link.Link.TheVariants.{Code}
use Rattle.tk_family.specs.declared.top.Top.{Top}
use Rattle.tk_family.specs.declared.top.Top.TheVariants as top
use Rattle.tk_family.specs.Dots.{dot_eq, has}
use Rattle.tk_family.specs.Families.{Links, Marks, IsUnder, grant_at}
use Rattle.tk_family.specs.ForestFacts.{ForestFacts, links_at}
use Rattle.tk_family.specs.Tops.{IsTop, IsRaised}
use Rattle.tk_family.specs.Walks.{code_of}
use Rattle.tk_family.proofs.WalkLaws.{code_of-sound, code_of-complete}
use Rattle.tk_fact.specs.declared.body.Body.{Body}
use Rattle.tk_fact.specs.declared.body.Body.TheVariants.{CodeIssued, CodeRedeemed, RefreshRotated}
use Rattle.tk_fact.specs.declared.body.Body.TheVariants.{ReuseSeen}
use Rattle.tk_ledger.specs.declared.change.RevokedToken as revoked
use Rattle.tk_store.specs.FactSet.{FactSet}
use Rattle.tk_store.proofs.PutLaws.{some_injective, none_is_not_some}
use Rattle.tk_store.proofs.OneMoreLaws.{OneMore, more_subset, cases_dots, apart_at}
use Rattle.tk_ledger.specs.Tokens.{link_of, links_in, reuse_of, is_marked}
use Rattle.tk_ledger.specs.ByTop.{code_in_top}
use Rattle.tk_ledger.specs.Changes.{change_in, reuses_of, revoked_in}
use Rattle.tk_ledger.specs.Index.{IsTied, Wakes}
use Rattle.tk_ledger.specs.declared.change.Change.{Change}
use Rattle.tk_ledger.specs.declared.change.Change.TheVariants as change
use Rattle.tk_ledger.proofs.TokenLaws.{is_marked-sound, is_marked-complete}
use Rattle.tk_ledger.proofs.TokenGrowthLaws.{IsMarked-below}
use Rattle.tk_ledger.proofs.RootLaws.{link_under, links-below}
use Rattle.tk_ledger.proofs.SameLaws.{same_token-true}
use Rattle.tk_ledger.proofs.KeyLaws.{same_tests}
use Rattle.tk_store.proofs.OneMoreLaws.{at_itself}
use Rattle.tk_ledger.proofs.EndingLaws.{Revokes, SignsOut, Stops, marks_by_one}
use Rattle.tk_ledger.proofs.WakeLaws.{grant_place, wakes_none}

-- ---- a change and its body have the same link, revocation and sign-out

-- the link that a change adds
abbrev pub puts : Change → Option Link
puts (change.Issue subject start) = Some Code
puts (change.Put l) = Some l
puts other = None

-- the link of a body is the one that its change puts
pub link-change : (b : Body) → link_of b ≡ puts (change_in b)
link-change (CodeIssued f) = refl
link-change (CodeRedeemed f) = refl
link-change (RefreshRotated f) = refl
link-change body = refl

-- a body is of a token's reuse exactly if its change is
pub reuse-change : (k : TokenId) (b : Body) → reuse_of k b ≡ reuses_of k (change_in b)
reuse-change k (ReuseSeen f) = refl
reuse-change k body = refl

-- the revocation that a change has, if it has one
abbrev pub revoking : Change → Option revoked.RevokedToken
revoking (change.Revoke f) = Some f
revoking other = None

-- the change of a fact that revokes a token is the revocation of that token
revoking-change : (b : Body) (k : TokenId) (r : Revokes b k)
    → revoking (change_in b) ≡ Some (revoked_in r.revocation)
revoking-change b k r = ap (λ (x : Body). revoking (change_in x)) r.body

-- the change is a sign-out
abbrev pub signs : Change → Bool
signs (change.SignOut subject moment) = true
signs other = false

-- the change of a fact that signs out the subject of a code is a sign-out
signs-change : (G : FactSet) (b : Body) (k : TokenId) → SignsOut G b k → signs (change_in b) ≡ true
signs-change G b k r = ap (λ (x : Body). signs (change_in x)) r.body

-- a change with a link is no reuse, revocation or sign-out
pub put_reuses : (y : Change) (l : Link) (k : TokenId) → puts y ≡ Some l → reuses_of k y ≡ false
put_reuses (change.Mark j) l k h = absurd (none_is_not_some l h)
put_reuses other l k h = refl

-- a change that puts a link revokes no token
pub put_revokes : (y : Change) (l : Link) → puts y ≡ Some l → revoking y ≡ None
put_revokes (change.Revoke f) l h = absurd (none_is_not_some l h)
put_revokes other l h = refl

-- a change that puts a link signs nobody out
pub put_signs : (y : Change) (l : Link) → puts y ≡ Some l → signs y ≡ false
put_signs (change.SignOut subject moment) l h = absurd (none_is_not_some l h)
put_signs other l h = refl

-- ---- links

-- the links stay with one more fact whose change puts no link
pub links_still : (F G : FactSet) (d : Dot) (b : Body) → OneMore F G d b → puts (change_in b) ≡ None
    → (q : Dot) → links_in (map.get F) q ≡ links_in (map.get G) q
links_still F G d b m none q = elim (cases_dots q d) [
  | inl same ↦ ap (option_and_then link_of) (ap (map.get F) same ∙ m.free)
      ∙ sym (ap (option_and_then link_of) (ap (map.get G) same ∙ m.here) ∙ link-change b ∙ none)
  | inr ne ↦ sym (ap (option_and_then link_of) (m.there q ne))
]

-- the links with the one that a fact puts are those of the set with the fact
pub links_put : (F G : FactSet) (d : Dot) (b : Body) (l : Link) (L N : Links) → OneMore F G d b
    → puts (change_in b) ≡ Some l
    → ((q : Dot) → L q ≡ links_in (map.get F) q)
    → ((q : Dot) → N q ≡ cond (dot_eq q d) (Some l) (L q)) → (q : Dot)
    → N q ≡ links_in (map.get G) q
links_put F G d b l L N m some old new q = elim (cases_dots q d) [
  | inl same ↦ new q
      ∙ cond-true (dot_eq q d) (Some l) (L q) (ap (λ (x : Dot). dot_eq x d) same ∙ at_itself d)
      ∙ sym some ∙ sym (link-change b)
      ∙ sym (ap (option_and_then link_of) (ap (map.get G) same ∙ m.here))
  | inr ne ↦ new q ∙ cond-false (dot_eq q d) (Some l) (L q) (apart_at q d ne) ∙ old q
      ∙ sym (ap (option_and_then link_of) (m.there q ne))
]

-- no dot is raised between links that are the same at each dot
unraised : (f g : Links) (q : Dot) → ((x : Dot) → f x ≡ g x) → IsRaised f g q → ⊥
unraised f g q h r =
    r.before r.code (subst (λ (x : Links). IsUnder x q r.code) (sym (λ i x. h x i)) r.now)

-- a dot that is raised between two links is raised between links equal to these
raised_by : (f g L N : Links) (q : Dot) → ((x : Dot) → L x ≡ f x) → ((x : Dot) → N x ≡ g x)
    → IsRaised f g q → IsRaised L N q
raised_by f g L N q h i r = subst (λ (x : Links). IsRaised x N q) (sym (λ j x. h x j))
    (subst (λ (x : Links). IsRaised f x q) (sym (λ j x. i x j)) r)

-- ---- the forest after one more fact

-- the fact may change whether the token is marked
abbrev pub Touches : FactSet → FactSet → Body → TokenId → Type 0
Touches F G b k = (reuses_of k (change_in b) ≡ true) ⊎ Stops F G b k

-- a marked token stays marked with one more fact
still_marked : (F G : FactSet) (d : Dot) (b : Body) → OneMore F G d b → (k : TokenId)
    → is_marked F k ≡ true → is_marked G k ≡ true
still_marked F G d b m k h =
    is_marked-complete G k (IsMarked-below F G (more_subset F G d b m) k (is_marked-sound F k h))

-- a token that one more fact does not touch, or that was marked before, is marked as before
pub same_mark : (F G : FactSet) (d : Dot) (b : Body) (k : TokenId) → OneMore F G d b
    → (Touches F G b k → is_marked F k ≡ true) → is_marked F k ≡ is_marked G k
same_mark F G d b k m touched = same_tests (is_marked F k) (is_marked G k)
    (still_marked F G d b m k)
    (λ h. elim (marks_by_one F G d b k m h) [
      | inl before ↦ before
      | inr (inl seen) ↦ touched (inl (sym (reuse-change k b) ∙ seen))
      | inr (inr more) ↦ touched (inr more.1)
    ])

-- the forest of one more fact, if the marks at all dots with a token that the fact touches were
-- written, but for tokens that were marked before
pub tied_by : (F G : FactSet) (d : Dot) (b : Body) (x y z : ForestFacts) (at : Dot → Bool)
    → OneMore F G d b → IsTied F x
    → ((q : Dot) → map.get y.links q ≡ links_in (map.get G) q) → y.marks ≡ x.marks → Wakes G y at z
    → ((q : Dot) → IsRaised (links_in (map.get F)) (links_in (map.get G)) q → at q ≡ true)
    → ((k : TokenId) → Touches F G b k → (at k.dot ≡ true) ⊎ (is_marked F k ≡ true)) → IsTied G z
tied_by F G d b x y z at m t links same woke raised touched = record {
  links = λ q. ap (λ s. map.get s q) woke.links ∙ links q;
  marks = λ q c l link under. by_test q c l link under (cases_Bool (at q));
}
  where
    marked : (q : Dot) (l : Link) → at q ≡ false → Touches F G b (grant_at q l)
        → is_marked F (grant_at q l) ≡ true
    marked q l apart x = elim (touched (grant_at q l) x) [
      | inl now ↦ absurd (true≢false (sym now ∙ (ap at (grant_place q l) ∙ apart)))
      | inr before ↦ before
    ]

    by_code : (q c : Dot) (l : Link) → at q ≡ false → links_in (map.get G) q ≡ Some l
        → IsUnder (links_in (map.get G)) q c
        → (o : Option Dot) → code_of (links_in (map.get F)) q ≡ o
        → set.contains x.marks (grant_at q l) ≡ is_marked G (grant_at q l)
    by_code q c l apart link under None none =
        let here : IsRaised (links_in (map.get F)) (links_in (map.get G)) q = record {
          code = c;
          now = under;
          before =
              λ e u. none_is_not_some e (sym none ∙ code_of-complete (links_in (map.get F)) q e u);
        } in
        absurd (true≢false (sym (raised q here) ∙ apart))
    by_code q c l apart link under (Some e) found =
        let before : IsUnder (links_in (map.get F)) q e =
        code_of-sound (links_in (map.get F)) q e found in
        let one : (j : Link) × (links_in (map.get F) q ≡ Some j) =
        link_under (links_in (map.get F)) q e before in
        let kept : one.0 ≡ l = some_injective one.0 l
        (sym (links-below F G (more_subset F G d b m) q one.0 one.1) ∙ link) in
        t.marks q e l (one.1 ∙ ap (λ (j : Link). Some j) kept) before
        ∙ same_mark F G d b (grant_at q l) m (marked q l apart)

    by_test : (q c : Dot) (l : Link) → links_in (map.get G) q ≡ Some l
        → IsUnder (links_in (map.get G)) q c → (at q ≡ true) ⊎ (at q ≡ false)
        → set.contains z.marks (grant_at q l) ≡ is_marked G (grant_at q l)
    by_test q c l link under (inl now) = woke.here q c l now link under
    by_test q c l link under (inr apart) =
        woke.there (grant_at q l) (ap at (grant_place q l) ∙ apart)
        ∙ ap (λ s. set.contains s (grant_at q l)) same
        ∙ by_code q c l apart link under (code_of (links_in (map.get F)) q) refl

-- a change that is no sign-out signs out no code's subject
pub unsigned : (G : FactSet) (b : Body) (k : TokenId) {P : Type 0} → signs (change_in b) ≡ false
    → SignsOut G b k → P
unsigned G b k none r = absurd (true≢false (sym (signs-change G b k r) ∙ none))

-- a change that revokes nothing revokes no token
pub unrevoked : (b : Body) (k : TokenId) {P : Type 0} → revoking (change_in b) ≡ None → Revokes b k
    → P
unrevoked b k none r =
    absurd (none_is_not_some (revoked_in r.revocation) (sym none ∙ revoking-change b k r))

-- a change without a link brings no dot under a code
unlinked : (F G : FactSet) (d : Dot) (b : Body) (q : Dot) {P : Type 0} → OneMore F G d b
    → puts (change_in b) ≡ None → IsRaised (links_in (map.get F)) (links_in (map.get G)) q → P
unlinked F G d b q m none r =
    absurd (unraised (links_in (map.get F)) (links_in (map.get G)) q (links_still F G d b m none) r)

-- the forest after a change without a link, if the marks at all dots with a token that the change
-- reuses, revokes or signs out were written, but for codes that were marked before
pub tied_quiet : (F G : FactSet) (d : Dot) (b : Body) (x z : ForestFacts) (at : Dot → Bool)
    → OneMore F G d b → puts (change_in b) ≡ None → IsTied F x → Wakes G x at z
    → ((k : TokenId) → reuses_of k (change_in b) ≡ true → at k.dot ≡ true)
    → ((k : TokenId) → Revokes b k → at k.dot ≡ true)
    → ((k : TokenId) → SignsOut G b k → (at k.dot ≡ true) ⊎ (is_marked F k ≡ true)) → IsTied G z
tied_quiet F G d b x z at m none t woke reuse revoke sign =
    tied_by F G d b x x z at m t (λ q. t.links q ∙ links_still F G d b m none q) refl woke
    (λ q r. unlinked F G d b q m none r)
    (λ k touch. elim touch [
      | inl seen ↦ inl (reuse k seen)
      | inr (inl r) ↦ inl (revoke k r)
      | inr (inr (inl r)) ↦ sign k r
      | inr (inr (inr r)) ↦ unlinked F G d b k.dot m none r
    ])

-- a change without a link, reuse, revocation or sign-out leaves the forest
pub tied_still : (F G : FactSet) (d : Dot) (b : Body) (x : ForestFacts) → OneMore F G d b
    → puts (change_in b) ≡ None → revoking (change_in b) ≡ None → signs (change_in b) ≡ false
    → ((k : TokenId) → reuses_of k (change_in b) ≡ false) → IsTied F x → IsTied G x
tied_still F G d b x m put revoke sign reuse t =
    tied_quiet F G d b x x (λ _. false) m put t (wakes_none G x)
    (λ k h. sym (reuse k) ∙ h) (λ k r. unrevoked b k revoke r) (λ k r. unsigned G b k sign r)

-- the forest after a link, and the marks at the dots that the link brings under a code
pub tied_put : (F G : FactSet) (d : Dot) (b : Body) (l : Link) (x y z : ForestFacts) (ds : List Dot)
    → OneMore F G d b → puts (change_in b) ≡ Some l → IsTied F x
    → ((q : Dot) → map.get y.links q ≡ links_in (map.get G) q) → y.marks ≡ x.marks
    → ((q : Dot) → IsRaised (links_at x) (links_at y) q → has ds q ≡ true)
    → Wakes G y (has ds) z → IsTied G z
tied_put F G d b l x y z ds m is t links same all woke =
    tied_by F G d b x y z (has ds) m t links same woke
    (λ q r. all q
    (raised_by (links_in (map.get F)) (links_in (map.get G)) (links_at x)
    (links_at y) q t.links links r))
    (λ k touch. elim touch [
      | inl seen ↦ absurd (true≢false (sym seen ∙ put_reuses (change_in b) l k is))
      | inr (inl r) ↦ unrevoked b k (put_revokes (change_in b) l is) r
      | inr (inr (inl r)) ↦ unsigned G b k (put_signs (change_in b) l is) r
      | inr (inr (inr r)) ↦ inl
          (all k.dot
          (raised_by (links_in (map.get F)) (links_in (map.get G)) (links_at x)
          (links_at y) k.dot t.links links r))
    ])

-- the forest after a reuse, and the marks at the token's dot
pub tied_mark : (F G : FactSet) (d : Dot) (b : Body) (j : TokenId) (x z : ForestFacts)
    → OneMore F G d b → change_in b ≡ change.Mark j → IsTied F x
    → Wakes G x (λ q. dot_eq q j.dot) z → IsTied G z
tied_mark F G d b j x z m is t woke =
    tied_quiet F G d b x z (λ q. dot_eq q j.dot) m (ap puts is) t woke
    (λ k h. ap (λ (t : TokenId). dot_eq k.dot t.dot)
    (same_token-true j k (sym (ap (reuses_of k) is) ∙ h))
    ∙ at_itself k.dot)
    (λ k r. unrevoked b k (ap revoking is) r) (λ k r. unsigned G b k (ap signs is) r)

-- a token that a revocation revokes is the revocation's
pub revokes_at : (b : Body) (f : revoked.RevokedToken) (k : TokenId) → change_in b ≡ change.Revoke f
    → Revokes b k → dot_eq k.dot f.token.dot ≡ true
revokes_at b f k is r =
    let same : f ≡ revoked_in r.revocation =
    some_injective f (revoked_in r.revocation) (sym (ap revoking is) ∙ revoking-change b k r) in
    ap (λ (g : revoked.RevokedToken). dot_eq k.dot g.token.dot) same
    ∙ ap (λ (t : TokenId). dot_eq k.dot t.dot) r.token ∙ at_itself k.dot

-- the forest after a revocation, and the marks at the token's dot
pub tied_revoke : (F G : FactSet) (d : Dot) (b : Body) (f : revoked.RevokedToken)
    (x z : ForestFacts)
    → OneMore F G d b → change_in b ≡ change.Revoke f → IsTied F x
    → Wakes G x (λ q. dot_eq q f.token.dot) z → IsTied G z
tied_revoke F G d b f x z m is t woke =
    tied_quiet F G d b x z (λ q. dot_eq q f.token.dot) m (ap puts is) t woke
    (λ k h. absurd (true≢false (sym h ∙ ap (reuses_of k) is)))
    (λ k r. revokes_at b f k is r)
    (λ k r. unsigned G b k (ap signs is) r)

-- ---- look-ups

-- an option that has no dot is None
unfound : (o : Option Dot) → ((c : Dot) → o ≡ Some c → ⊥) → None ≡ o
unfound None h = refl
unfound (Some c) h = absurd (h c refl)

-- the code of a top is the one that the dot is under
pub top_code : (f : Links) (m : Marks) (d : Dot) (x : Top) → IsTop f m d x
    → code_in_top x ≡ code_of f d
top_code f m d top.Absent h = unfound (code_of f d)
    (λ c e. (let l = link_under f d c (code_of-sound f d c e) in
    none_is_not_some l.0 (sym h ∙ l.1)))
top_code f m d top.Broken h = unfound (code_of f d) (λ c e. h.1 c (code_of-sound f d c e))
top_code f m d (top.Code c) h = sym (code_of-complete f d c h.0)
top_code f m d (top.Dead c) h = sym (code_of-complete f d c h.0)
