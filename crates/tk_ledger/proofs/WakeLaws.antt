-- The marks at dots are written anew. Key results:
--   mark_set, mark_cleared     the marks after one more, and after one less
--   wakes_one, wakes_apart     the mark at one dot
--   wakes_none, wakes_then     the marks at no dot, and at more dots
--   wakes_more, wakes_whole    the loop over dots
--   wakes_rest                 the loop over codes
use Rattle.std.proofs.Common.{◌≡◌, ◌⊎◌, inl, inr, ℕ, ◌+◌, ◌<◌, ◌≤◌, Bool, true, false, ◌&&◌, ◌||◌}
use Rattle.std.proofs.Common.{not, cond, List, [], ◌∷◌, ◌++◌, get_or, take, length, Option, Some}
use Rattle.std.proofs.Common.{None, is_some, Result, Ok, OnOk, refl, sym, ap, subst, ◌∙◌}
use Rattle.std.proofs.lemmas.Bool.{true≢false, cases_Bool, false_from_ne_true, cond-true}
use Rattle.std.proofs.lemmas.Bool.{cond-false}
use Rattle.std.proofs.lemmas.List.{take_more, take_all}
use Rattle.std.specs.FinMap as map
use Rattle.std.specs.FinSet as set
use Rattle.std.specs.Option.{option_and_then}
use Rattle.tk_handle.specs.declared.dot.Dot.{Dot}
use Rattle.tk_handle.specs.declared.kind.Kind.{Kind}
use Rattle.tk_handle.specs.declared.token_id.TokenId.{TokenId}
use Rattle.tk_handle.specs.TokenId.{token_cmp}
use Rattle.tk_family.specs.declared.link.Link.{Link}
use Rattle.tk_family.specs.declared.link.Link.TheVariants.{Code, Redeems, Rotates}
use Rattle.tk_family.specs.Dots.{dot_eq, has}
use Rattle.tk_family.specs.Families.{Links, IsUnder, grant_at}
use Rattle.tk_family.specs.ForestFacts.{ForestFacts, links_at}
use Rattle.tk_family.specs.Walks.{code_of}
use Rattle.tk_family.proofs.LookUps.{mark_put}
use Rattle.tk_family.proofs.Viewing.{tokens_total}
use Rattle.tk_family.proofs.WalkLaws.{code_of-complete}
use Rattle.tk_fact.specs.declared.body.Body.{Body}
use Rattle.tk_fact.specs.declared.body.Body.TheVariants.{CodeIssued, CodeRedeemed, RefreshRotated}
use Rattle.tk_store.specs.FactSet.{FactSet}
use Rattle.tk_handle.proofs.TestLaws.{tied}
use Rattle.tk_store.proofs.PutLaws.{none_is_not_some, some_injective}
use Rattle.tk_ledger.specs.Bodies.{is_same_token}
use Rattle.tk_ledger.specs.Tokens.{link_of, links_in, issued_in, issued_at, is_marked}
use Rattle.tk_ledger.specs.Index.{grant_kind, Wakes}
use Rattle.tk_ledger.specs.SubjectTables.{dots_of}
use Rattle.tk_ledger.specs.declared.subject_keys.CodeKey.{CodeKey}
use Rattle.tk_ledger.proofs.SameLaws.{same_token-true, same_token-itself}
use Rattle.tk_ledger.proofs.KeyLaws.{token_tied}
use Rattle.tk_store.proofs.OneMoreLaws.{at_itself}
use Rattle.tk_family.proofs.Viewing.{insert_cond, remove_cond}
use Rattle.tk_handle.proofs.TestLaws.{neither}

-- ---- the marks at dots

-- the token that a link mints is at the link's dot
pub grant_place : (q : Dot) (l : Link) → (grant_at q l).dot ≡ q
grant_place q Code = refl
grant_place q (Redeems c) = refl
grant_place q (Rotates p g) = refl

-- a claim about a success holds of the one there is
pub ok_at : {A E : Type 0} (r : Result A E) (x : A) (P : Type 0) → r ≡ Ok x → OnOk r P → P
ok_at {A} {E} r x P h o = subst (λ (q : Result A E). OnOk q P) h o

-- the marks after one more, and after one less
pub mark_set : (x y : ForestFacts) (j : TokenId) (m : Bool) → m ≡ true
    → y.marks ≡ set.insert x.marks j → (k : TokenId)
    → set.contains y.marks k ≡ cond (is_same_token j k) m (set.contains x.marks k)
mark_set x y j m is new k =
    mark_put x.marks y.marks j new k ∙ ap (λ b. b || set.contains x.marks k) (token_tied j k)
    ∙ insert_cond (is_same_token j k) (set.contains x.marks k)
    ∙ ap (λ b. cond (is_same_token j k) b (set.contains x.marks k)) (sym is)

-- the marks after a token's mark was removed
pub mark_cleared : (x y : ForestFacts) (j : TokenId) (m : Bool) → m ≡ false
    → y.marks ≡ set.remove x.marks j → (k : TokenId)
    → set.contains y.marks k ≡ cond (is_same_token j k) m (set.contains x.marks k)
mark_cleared x y j m is new k =
    ap (λ (s : set.FinSet token_cmp). set.contains s k) new
    ∙ set.contains-remove tokens_total x.marks j k
    ∙ ap (λ b. not b && set.contains x.marks k) (token_tied j k)
    ∙ remove_cond (is_same_token j k) (set.contains x.marks k)
    ∙ ap (λ b. cond (is_same_token j k) b (set.contains x.marks k)) (sym is)

-- the token of a kind at a dot
abbrev pub token_at : Dot → Kind → TokenId
token_at d n = record { dot = d; kind = n }

-- tokens at different dots are different, by the test
elsewhere : (j k : TokenId) → dot_eq k.dot j.dot ≡ false → is_same_token j k ≡ false
elsewhere j k apart = false_from_ne_true (is_same_token j k)
    (λ h. true≢false
    (sym (at_itself k.dot) ∙ ap (λ (t : TokenId). dot_eq k.dot t.dot) (sym (same_token-true j k h))
    ∙ apart))

-- the grant at a dot with a link, by the code that was issued there, if one was
grant_here : (F : FactSet) (q : Dot) (l : Link) → links_in (map.get F) q ≡ Some l
    → grant_at q l ≡ token_at q (grant_kind (issued_at (map.get F) q))
grant_here F q l h = by_body (map.get F q) h
  where
    by_body : (o : Option Body) → option_and_then link_of o ≡ Some l
        → grant_at q l ≡ token_at q (grant_kind (option_and_then issued_in o))
    by_body None h = absurd (none_is_not_some l h)
    by_body (Some (CodeIssued f)) h = ap (grant_at q) (sym (some_injective Code l h))
    by_body (Some (CodeRedeemed f)) h =
        ap (grant_at q) (sym (some_injective (Redeems f.code) l h))
    by_body (Some (RefreshRotated f)) h =
        ap (grant_at q) (sym (some_injective (Rotates f.parent f.generation) l h))
    by_body (Some body) h = absurd (none_is_not_some l h)

-- the mark of the grant at a dot was written
pub wakes_one : (F : FactSet) (x y : ForestFacts) (d : Dot) (n : Kind)
    → n ≡ grant_kind (issued_at (map.get F) d)
    → y.links ≡ x.links
    → ((k : TokenId)
    → set.contains y.marks k
    ≡ cond (is_same_token (token_at d n) k) (is_marked F (token_at d n)) (set.contains x.marks k))
    → Wakes F x (λ q. dot_eq q d) y
wakes_one F x y d n is links marks = record {
  links = links;
  here = λ q c l at link _. subst (λ (k : TokenId). set.contains y.marks k ≡ is_marked F k)
      (sym (grant_here F q l link
      ∙ ap (λ (p : Dot). token_at p (grant_kind (issued_at (map.get F) p))) (tied q d at)
      ∙ ap (token_at d) (sym is)))
      (marks (token_at d n) ∙ cond-true _ _ _ (same_token-itself (token_at d n)));
  there = λ k apart. marks k ∙ cond-false _ _ _ (elsewhere (token_at d n) k apart);
}

-- the links of a forest, as a whole
pub links_path : (F : FactSet) (x : ForestFacts)
    → ((q : Dot) → map.get x.links q ≡ links_in (map.get F) q) → links_at x ≡ links_in (map.get F)
links_path F x h = λ i q. h q i

-- no grant at a dot that is under no code is in a family
pub wakes_apart : (F : FactSet) (x : ForestFacts) (d : Dot)
    → ((q : Dot) → map.get x.links q ≡ links_in (map.get F) q)
    → is_some (code_of (links_at x) d) ≡ false → Wakes F x (λ q. dot_eq q d) x
wakes_apart F x d same none = record {
  links = refl;
  here = λ q c l at _ under.
      absurd (true≢false (sym (ap is_some (code_of-complete (links_in (map.get F)) q c under))
      ∙ ap (λ (p : Dot). is_some (code_of (links_in (map.get F)) p)) (tied q d at)
      ∙ ap (λ (f : Links). is_some (code_of f d)) (sym (links_path F x same)) ∙ none));
  there = λ _ _. refl;
}

-- ---- the marks at many dots

-- no mark was written
pub wakes_none : (F : FactSet) (x : ForestFacts) → Wakes F x (λ _. false) x
wakes_none F x = record {
  links = refl;
  here = λ q c l at _ _. absurd (true≢false (sym at));
  there = λ _ _. refl;
}

-- the marks at the same dots were written
pub wakes_as : (F : FactSet) (x y : ForestFacts) (a b : Dot → Bool) → ((q : Dot) → b q ≡ a q)
    → Wakes F x a y → Wakes F x b y
wakes_as F x y a b same w = record {
  links = w.links;
  here = λ q c l at. w.here q c l (sym (same q) ∙ at);
  there = λ k apart. w.there k (sym (same k.dot) ∙ apart);
}

-- the marks at some dots were written, and then those at others
pub wakes_then : (F : FactSet) (x y z : ForestFacts) (a b : Dot → Bool) → Wakes F x a y
    → Wakes F y b z → Wakes F x (λ q. b q || a q) z
wakes_then F x y z a b first second = record {
  links = second.links ∙ first.links;
  here = λ q c l at link under. by_test q c l at link under (cases_Bool (b q));
  there = λ k apart. (let both = neither (b k.dot) (a k.dot) apart in
      second.there k both.0 ∙ first.there k both.1);
}
  where
    by_test : (q c : Dot) (l : Link) → (b q || a q) ≡ true → links_in (map.get F) q ≡ Some l
        → IsUnder (links_in (map.get F)) q c
        → (b q ≡ true) ⊎ (b q ≡ false)
        → set.contains z.marks (grant_at q l) ≡ is_marked F (grant_at q l)
    by_test q c l at link under (inl now) = second.here q c l now link under
    by_test q c l at link under (inr apart) =
        second.there (grant_at q l) (ap b (grant_place q l) ∙ apart)
        ∙ first.here q c l (sym (ap (λ t. t || a q) apart) ∙ at) link under

-- the marks at one more dot of a list were written
pub wakes_more : (F : FactSet) (x y z : ForestFacts) (ds : List Dot) (i : ℕ) (e d : Dot)
    → i < length ds → d ≡ get_or ds i e → Wakes F x (has (take i ds)) y
    → Wakes F y (λ q. dot_eq q d) z → Wakes F x (has (take (i + 1) ds)) z
wakes_more F x y z ds i e d lt is first second =
    wakes_as F x z (λ q. dot_eq q d || has (take i ds) q) (has (take (i + 1) ds))
    (λ q. ap (λ xs. has xs q) (take_more ds i e lt) ∙ has_push q (take i ds) (get_or ds i e)
    ∙ ap (λ (p : Dot). dot_eq q p || has (take i ds) q) (sym is))
    (wakes_then F x y z (has (take i ds)) (λ q. dot_eq q d) first second)
  where
    swap : (a b c : Bool) → (a || (b || c)) ≡ (b || (a || c))
    swap true true c = refl
    swap true false c = refl
    swap false b c = refl

    has_push : (q : Dot) (xs : List Dot) (p : Dot) → has (xs ++ p ∷ []) q ≡ (dot_eq q p || has xs q)
    has_push q [] p = refl
    has_push q (o ∷ xs) p =
        ap (λ t. dot_eq q o || t) (has_push q xs p) ∙ swap (dot_eq q o) (dot_eq q p) (has xs q)

-- the marks at all dots of a list were written
pub wakes_whole : (F : FactSet) (x y : ForestFacts) (ds : List Dot) (i : ℕ) → length ds ≤ i
    → Wakes F x (has (take i ds)) y → Wakes F x (has ds) y
wakes_whole F x y ds i end w = subst (λ (xs : List Dot). Wakes F x (has xs) y) (take_all i ds end) w

-- if the marks at the first of some codes were written, those at the rest are left
pub wakes_rest : (F : FactSet) (x y z : ForestFacts) (e : CodeKey) (rest : List CodeKey)
    → Wakes F x (λ q. dot_eq q e.code) y → Wakes F y (has (dots_of rest)) z
    → Wakes F x (has (dots_of (e ∷ rest))) z
wakes_rest F x y z e rest first second =
    wakes_as F x z (λ q. has (dots_of rest) q || dot_eq q e.code) (has (dots_of (e ∷ rest)))
    (λ q. turn (dot_eq q e.code) (has (dots_of rest) q))
    (wakes_then F x y z (λ q. dot_eq q e.code) (has (dots_of rest)) first second)
  where
    turn : (a b : Bool) → (a || b) ≡ (b || a)
    turn true true = refl
    turn true false = refl
    turn false true = refl
    turn false false = refl
