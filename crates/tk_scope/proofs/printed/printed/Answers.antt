use Rattle.std.proofs.Common.{◌≡◌, ℕ, Bool, true, false, cond, List, [], ◌∷◌, ◌++◌, All, Contains}
use Rattle.std.proofs.Common.{Bor, bytes_eq, lit<, map, refl, sym, ap, ◌∙◌}
use Rattle.std.specs.declared.cmp.Ordering.TheVariants.{Less}
use Rattle.std.specs.Cmp.Lexicographic.{nat_list_eq_equiv, on_texts, same_text, texts_ties}
use Rattle.std.specs.List.{AllByRecursion, dedup, dedup_from, join_by, join_with_byte}
use Rattle.std.specs.List.Sorted.{IsStrictlySortedBy}
use Rattle.std.proofs.lemmas.Iterator.Consumers.{map_from_collect}
use Rattle.std.proofs.lemmas.Iterator.Splits.{YieldsList-from_str_split}
use Rattle.std.proofs.lemmas.List.{append-nil}
use Rattle.std.proofs.lemmas.List.Elements.{All-contains_itself, All-weaker}
use Rattle.std.proofs.lemmas.List.Filters.{All-dedup, dedup_is}
use Rattle.std.proofs.lemmas.List.Kept.{Contains-dedup, IsStrictlySortedBy-dedup}
use Rattle.std.proofs.lemmas.List.Sorted.{All-permutation, Contains-permutation, IsPermutation-map}
use Rattle.std.proofs.lemmas.Result.{IfOk-at_ok, IfOk-weaker}
use Rattle.tk_scope.specs.Scope.{tokens_of}
use Rattle.tk_scope.proofs.Order.{byte_cmp, Rises, set_is}
use Rattle.tk_scope.proofs.printed.printed.Goals as goal

-- a token as the code holds it: a borrowed text
abbrev Token : Type 0
Token = Bor (List ℕ)

-- two tokens have the same text
abbrev same_token : Token → Token → Bool
same_token a b = bytes_eq a.now b.now

-- the texts of tokens
abbrev texts_of : List Token → List (List ℕ)
texts_of = map (λ t. t.now)

-- the texts of a list that a test chose are the chosen texts
texts_of-cond : (b : Bool) (us vs : List Token)
    → texts_of (cond b us vs) ≡ cond b (texts_of us) (texts_of vs)
texts_of-cond true us vs = refl
texts_of-cond false us vs = refl

-- removing duplicates behind a first token commutes with taking the texts
texts_of-dedup_from : (xs : List Token) (k : Token)
    → texts_of (dedup_from same_token k xs) ≡ dedup_from bytes_eq k.now (texts_of xs)
texts_of-dedup_from [] k = refl
texts_of-dedup_from (x ∷ xs) k =
    rw (texts_of-cond, texts_of-dedup_from xs k, texts_of-dedup_from xs x)

-- removing duplicates commutes with taking the texts
texts_of-dedup : (xs : List Token) → texts_of (dedup same_token xs) ≡ dedup bytes_eq (texts_of xs)
texts_of-dedup [] = refl
texts_of-dedup (x ∷ xs) = texts_of-dedup_from xs x

-- tokens above another token stay above it, seen as texts
above_texts : (k : Token) (xs : List Token) → AllByRecursion (λ y. byte_cmp k.now y.now ≡ Less) xs
    → AllByRecursion (λ y. byte_cmp k.now y ≡ Less) (texts_of xs)
above_texts k [] h = tt
above_texts k (x ∷ xs) h = (h.0, above_texts k xs h.1)

-- tokens that rise, seen as texts, rise
rising_texts : (xs : List Token) → IsStrictlySortedBy (λ a b. byte_cmp a.now b.now) xs
    → Rises (texts_of xs)
unfolding IsStrictlySortedBy
rising_texts [] h = tt
rising_texts (x ∷ xs) h = (above_texts x xs h.0, rising_texts xs h.1)

-- `join` of the standard library gives the joined text of the printed form
join_texts : (xs : List Token)
    → join_by (λ t. t.now) (0x20 ∷ []) xs ≡ join_with_byte 0x20 (texts_of xs)
join_texts [] = refl
join_texts (x ∷ []) = append-nil x.now
join_texts (x ∷ y ∷ xs) = ap (λ (bs : List ℕ). x.now ++ (0x20 ∷ bs)) (join_texts (y ∷ xs))

-- `printed` returns the printed form: the sort permutes the tokens, and `dedup` keeps one of each
pub returns : goal.returns
returns c =
    let ts = tokens_of c.args.text.now in
    let sorted = c.sort_unstable.new.self.items in
    let left = c.dedup.new.self.items in
    let collected : texts_of c.in_ok-tokens.tokens.items ≡ ts =
    IfOk-at_ok _ c.in_ok-tokens.was
    (map_from_collect _ c.collect.ensures.ran
    (YieldsList-from_str_split 0x20 c.args.text.now (lit< tt) c.split.ensures.text
    c.split.ensures.has_more c.split.ensures.pattern)) in
    let moved = rw collected at
    (IsPermutation-map (λ (t : Token). t.now) _ sorted c.sort_unstable.ensures.permutation) in
    let kept = dedup_is same_token sorted _ c.dedup.ensures.filtered in
    let is : texts_of left ≡ dedup bytes_eq (texts_of sorted) =
    ap texts_of kept ∙ texts_of-dedup sorted in
    let keeps =
    Contains-dedup nat_list_eq_equiv (λ x y e. same_text x y (sym e)) (texts_of sorted) in
    let rises : Rises (texts_of left) = rising_texts left
    (rw kept
    (IsStrictlySortedBy-dedup (on_texts (λ (t : Token). t.now)) (λ x y. texts_ties x.now y.now)
    sorted c.sort_unstable.ensures.sorted)) in
    let held : All (Contains (texts_of left)) ts =
    rw is (All-weaker (Contains ts) _ (λ t h. keeps t (Contains-permutation ts _ t moved h)) ts
    (All-contains_itself ts)) in
    let only : All (Contains ts) (texts_of left) =
    rw is (All-dedup bytes_eq (Contains ts) _
    (All-permutation (Contains ts) ts _ moved (All-contains_itself ts))) in
    IfOk-weaker c.join.result _ _
    (λ s e. e ∙ ap (join_by (λ (t : Token). t.now) (0x20 ∷ [])) c.deref.ensures.value
    ∙ join_texts left ∙ ap (join_with_byte 0x20) (set_is ts (texts_of left) rises held only))
    c.join.ensures.ok
