-- From the rows of a forest to the finite map and set that contracts see. Key results:
--   top_seen, used_seen, user_seen  look-ups in the table are look-ups in what is seen
--   raised_all                      each dot that the new link raises is in the list
--   IsForest-empty, Hangs-empty     no rows are a forest in which all hang
--   marks_one, mark_gone            one mark more, and one less, are seen
use Rattle.std.proofs.Common.{◌≡◌, ◌≢◌, ◌&&◌, not, inl, inr, Bool, true, false, Option, None, Some}
use Rattle.std.proofs.Common.{List, [], ap, sym, ◌∙◌, refl, subst, Result, Ok, Err, IfOk}
use Rattle.std.proofs.Common.{IfSome, IfNone, ◌||◌, Vec, Global}
use Rattle.std.specs.Cmp.{IsEquivalence, eq_by_cmp_equiv, Equal-is, both_ways}
use Rattle.std.specs.Ordering.{eq_by_cmp}
use Rattle.std.proofs.lemmas.Bool.{true≢false, cases_Bool, or_left, or_right, or_cases}
use Rattle.std.specs.declared.alloc.AllocError.{AllocError}
use Rattle.std.specs.BTreeMap.{is_at}
use Rattle.std.specs.BTreeSet.{BTreeSet}
use Rattle.std.specs.List.{IsDistinct, list_any}
use Rattle.std.specs.FinMap as map
use Rattle.std.specs.FinSet as set
use Rattle.tk_handle.specs.declared.dot.Dot.{Dot}
use Rattle.tk_handle.specs.declared.kind.Kind.{Kind}
use Rattle.tk_handle.specs.declared.token_id.TokenId.{TokenId}
use Rattle.tk_family.specs.Laws.{passing}
use Rattle.tk_family.specs.declared.link.Link.{Link}
use Rattle.tk_family.specs.declared.top.Top.{Top}
use Rattle.tk_family.specs.declared.row.Row.{Row}
use Rattle.tk_family.specs.declared.children.Child.{Child}
use Rattle.tk_family.specs.Uses.{uses_by}
use Rattle.tk_family.specs.Dots.{has}
use Rattle.tk_family.specs.Families.{Links, use_of, IsUsed}
use Rattle.tk_family.specs.Tops.{IsTop, IsRaised}
use Rattle.tk_family.specs.Rows.{RowMap, Rows, table, link_in, code_in, count_in, blamed_in}
use Rattle.tk_family.specs.Rows.{first_in, used_in, again_in, links_of, firsts_of, marks_of}
use Rattle.tk_family.specs.Rows.{named_of}
use Rattle.tk_family.specs.Children.{child_cmp, child_key, others_in}
use Rattle.tk_family.specs.Kept.{has_dot, Hangs, IsForest}
use Rattle.tk_family.specs.Puts.{Puts, MarksOne}
use Rattle.tk_family.specs.Takes.{Unmarks}
use Rattle.tk_family.specs.ForestFacts.{ForestFacts, links_at, marks_at}
use Rattle.tk_family.specs.View.{seen, seen_links, seen_marks}
use Rattle.tk_handle.specs.Dot.{dot_cmp_total, dot_cmp-IsAntisymmetric}
use Rattle.tk_handle.specs.TokenId.{token_cmp}
use Rattle.tk_family.proofs.Adding.{IsPath-here}
use Rattle.tk_family.proofs.Viewing.{get-links, contains-marks, tokens_total, exact_tokens}

-- links that are the same at each dot are equal
links_ext : (f g : Links) → ((q : Dot) → f q ≡ g q) → f ≡ g
links_ext f g h = λ i q. h q i

-- marks that are the same for each token are equal
marks_ext : (f g : TokenId → Bool) → ((k : TokenId) → f k ≡ g k) → f ≡ g
marks_ext f g h = λ i k. h k i

-- the links of a table are those that are seen of it
pub links_seen : (m : RowMap) (v : ForestFacts) → seen m ≡ v → links_of (table m) ≡ links_at v
links_seen m v is =
    links_ext (links_of (table m)) (links_at (seen m)) (λ q. sym (get-links m q)) ∙ ap links_at is

-- the marks of a table are those that are seen of it
pub marks_seen : (m : RowMap) (v : ForestFacts) → seen m ≡ v
    → marks_of (table m) ≡ set.contains v.marks
marks_seen m v is = marks_ext (marks_of (table m)) (set.contains (seen_marks (map.entries m)))
    (λ k. sym (contains-marks m k))
    ∙ ap (λ (x : ForestFacts). set.contains x.marks) is

-- a dot's top in the table is its top as it is seen
pub top_seen : (m : RowMap) (v : ForestFacts) → seen m ≡ v → (q : Dot) (t : Top)
    → IsTop (links_of (table m)) (passing (marks_of (table m))) q t
    → IsTop (links_at v) (marks_at v) q t
top_seen m v is q t h = subst (λ (f : Links). IsTop f (marks_at v) q t) (links_seen m v is)
    (subst (λ (k : TokenId → Bool). IsTop (links_of (table m)) (passing k) q t)
    (marks_seen m v is) h)

-- a dot that is raised in the table is raised as it is seen
pub raised_seen : (m n : RowMap) (v : ForestFacts) → seen m ≡ v → (q : Dot)
    → IsRaised (links_of (table m)) (links_of (table n)) q
    → IsRaised (links_at v) (links_at (seen n)) q
raised_seen m n v is q h = subst (λ (f : Links). IsRaised f (links_at (seen n)) q)
    (links_seen m v is)
    (subst (λ (g : Links). IsRaised (links_of (table m)) g q) (links_seen n (seen n) refl) h)

-- a dot that is raised as it is seen is raised in the table
pub raised_back : (m n : RowMap) (v : ForestFacts) → seen m ≡ v → (q : Dot)
    → IsRaised (links_at v) (links_at (seen n)) q
    → IsRaised (links_of (table m)) (links_of (table n)) q
raised_back m n v is q h = subst (λ (f : Links). IsRaised f (links_of (table n)) q)
    (sym (links_seen m v is))
    (subst (λ (g : Links). IsRaised (links_at v) g q) (sym (links_seen n (seen n) refl)) h)

-- each dot that the new link raises is in the list
pub raised_all : (T N : Rows) (d : Dot) (l : Link) (ys : List Dot) → Puts T N d l ys → (q : Dot)
    → IsRaised (links_of T) (links_of N) q → has ys q ≡ true
raised_all T N d l ys p q r = elim (p.no_other q r.code r.now) [
  | inl walked ↦ walked
  | inr before ↦ absurd (r.before r.code before)
]

-- what holds of a list that was made, holds of it in other words
pub if_ok : (r : Result (Vec Dot Global) AllocError) (P Q : Vec Dot Global → Type 0) → IfOk r P
    → ((v : Vec Dot Global) → P v → Q v) → IfOk r Q
if_ok (Ok v) P Q h f = f v h
if_ok (Err e) P Q h f = tt

-- ---- the empty forest

-- a table without rows has no flag
no_flag : (F : Option Row → Kind → Bool) → ((k : Kind) → F None k ≡ false) → (T : Rows)
    → ((q : Dot) → T q ≡ None) → (q : Dot) (k : Kind) → F (T q) k ≡ true → ⊥
no_flag F none T h q k yes' =
    true≢false (sym yes' ∙ (ap (λ (o : Option Row). F o k) (h q) ∙ none k))

-- no rows are a forest
pub IsForest-empty : (T : Rows) → ((q : Dot) → T q ≡ None) → IsForest T
unfolding IsDistinct
IsForest-empty T h = record {
  under = λ q c e. absurd (let clash : None ≡ Some c = sym (ap code_in (h q)) ∙ e in cc);
  memo = λ q c u. absurd (IsPath-here (links_of T) q u.path c u.leads (ap link_in (h q)));
  bads = λ c. record {
    list = [];
    sound = λ q e. absurd (true≢false (sym e));
    all = λ q e. absurd (let clash : None ≡ Some c = sym (ap blamed_in (h q)) ∙ e in cc);
    distinct = tt;
    count = ap count_in (h c);
  };
  used = λ k e. absurd (no_flag used_in (λ j. refl) T h k.dot k.kind e);
  uses = λ k u. absurd
      (let clash : None ≡ Some k =
      sym (ap (λ (o : Option Row). use_of (link_in o)) (h u.user)) ∙ u.by in cc);
  again = λ k e. absurd (no_flag again_in (λ j. refl) T h k.dot k.kind e);
  twice = λ k t. absurd
      (let clash : None ≡ Some k =
      sym (ap (λ (o : Option Row). use_of (link_in o)) (h t.one)) ∙ t.by_one in cc);
}

-- in no rows all hang
pub Hangs-empty : (T : Rows) (s : BTreeSet Child) → ((q : Dot) → T q ≡ None) → s.keys ≡ []
    → Hangs (links_of T) (firsts_of T) (others_in s)
Hangs-empty T s h none =
    let no_entry : (k : TokenId) (e : Dot) → others_in s k e ≡ false =
    λ k e. ap (λ (cs : List Child). list_any (is_at (child_cmp (child_key k e))) cs) none in
    record {
      named = λ p e is. absurd (let clash : None ≡ Some e = sym (ap first_in (h p)) ∙ is in cc);
      none = λ p e _ names. (let clash : None ≡ Some p =
          sym (ap (λ (o : Option Row). named_of (link_in o)) (h e)) ∙ names in cc);
      rest = λ k e. no_entry k e
          ∙ sym (ap (λ (o : Option Row).
          uses_by (link_in o) k && not (has_dot (firsts_of T k.dot) e)) (h e));
      ranged = λ k e at. absurd (true≢false (sym at ∙ no_entry k e));
    }

-- a grant is used in the table exactly if it is as it is seen
pub used_seen : (m : RowMap) (v : ForestFacts) → seen m ≡ v → (k : TokenId) (b : Bool)
    → ((b ≡ true) → IsUsed (links_of (table m)) k) × (IsUsed (links_of (table m)) k → (b ≡ true))
    → ((b ≡ true) → IsUsed (links_at v) k) × (IsUsed (links_at v) k → (b ≡ true))
used_seen m v is k b h = subst (λ (f : Links).
    ((b ≡ true) → IsUsed f k) × (IsUsed f k → (b ≡ true))) (links_seen m v is) h

-- a dot whose link uses a token, if there is one
abbrev pub IsUser : Links → TokenId → Option Dot → Type 0
IsUser f k o = IfSome o (λ d. use_of (f d) ≡ Some k) × IfNone o (¬ IsUsed f k)

-- a grant's user in the table is its user as it is seen
pub user_seen : (m : RowMap) (v : ForestFacts) → seen m ≡ v → (k : TokenId) (o : Option Dot)
    → IsUser (links_of (table m)) k o → IsUser (links_at v) k o
user_seen m v is k o h = subst (λ (f : Links). IsUser f k o) (links_seen m v is) h

-- ---- marking a token

-- comparing tokens as equal is an equivalence
tokens_equiv : IsEquivalence (eq_by_cmp token_cmp)
tokens_equiv = eq_by_cmp_equiv tokens_total

-- a token is marked with one more mark exactly if that is its own, or it was seen marked before
one_mark : (m n : RowMap) (k : TokenId) → MarksOne (table m) (table n) k → (j : TokenId)
    → marks_of (table n) j
    ≡ (eq_by_cmp token_cmp j k || set.contains (seen_marks (map.entries m)) j)
one_mark m n k p j = both_ways (marks_of (table n) j)
    (eq_by_cmp token_cmp j k || set.contains (seen_marks (map.entries m)) j)
    (λ h. elim (p.new j h) [
      | inl same ↦ or_left (eq_by_cmp token_cmp j k) (set.contains (seen_marks (map.entries m)) j)
          (subst (λ (x : TokenId). eq_by_cmp token_cmp j x ≡ true) same (tokens_equiv.refl j))
      | inr old ↦ or_right (eq_by_cmp token_cmp j k) (set.contains (seen_marks (map.entries m)) j)
          (contains-marks m j ∙ old)
    ])
    (λ h. elim (or_cases (eq_by_cmp token_cmp j k) (set.contains (seen_marks (map.entries m)) j)
    h) [
      | inl same ↦ subst (λ (x : TokenId). marks_of (table n) x ≡ true)
          (sym (exact_tokens j k ((Equal-is (token_cmp j k)).0 same))) p.here
      | inr old ↦ p.old j (sym (contains-marks m j) ∙ old)
    ])

-- one more mark in the table is one more mark that is seen
pub marks_one : (m n : RowMap) (k : TokenId) → MarksOne (table m) (table n) k
    → seen_marks (map.entries n) ≡ set.insert (seen_marks (map.entries m)) k
marks_one m n k p = set.same_set tokens_total exact_tokens _ _
    (λ j. contains-marks n j
    ∙ (one_mark m n k p j
    ∙ sym (set.contains-insert tokens_total (seen_marks (map.entries m)) k j)))

-- links that stay in the table stay as they are seen
pub links_kept : (m n : RowMap) → ((q : Dot) → links_of (table n) q ≡ links_of (table m) q)
    → seen_links (map.entries n) ≡ seen_links (map.entries m)
links_kept m n h = map.same_map dot_cmp_total dot_cmp-IsAntisymmetric _ _
    (λ q. get-links n q ∙ (h q ∙ sym (get-links m q)))

-- ---- a mark less

-- a token is marked without a mark exactly if that isn't its own, and it was seen marked before
mark_less : (m n : RowMap) (k : TokenId) → Unmarks (table m) (table n) k → (j : TokenId)
    → marks_of (table n) j
    ≡ (not (eq_by_cmp token_cmp j k) && set.contains (seen_marks (map.entries m)) j)
mark_less m n k p j = elim (cases_Bool (eq_by_cmp token_cmp j k)) [
  | inl same ↦
      let one : j ≡ k = exact_tokens j k ((Equal-is (token_cmp j k)).0 same) in
      ap (marks_of (table n)) one
      ∙ (p.gone ∙ sym (ap (λ (b : Bool). not b && set.contains (seen_marks (map.entries m)) j)
      same))
  | inr apart ↦
      let ne : j ≢ k = λ one. true≢false
      (sym (subst (λ (x : TokenId). eq_by_cmp token_cmp j x ≡ true) one (tokens_equiv.refl j))
      ∙ apart) in
      p.others j ne
      ∙ (sym (contains-marks m j)
      ∙ sym (ap (λ (b : Bool). not b && set.contains (seen_marks (map.entries m)) j) apart))
]

-- a mark that is gone from the table is gone from what is seen
pub mark_gone : (m n : RowMap) (k : TokenId) → Unmarks (table m) (table n) k
    → seen_marks (map.entries n) ≡ set.remove (seen_marks (map.entries m)) k
mark_gone m n k p = set.same_set tokens_total exact_tokens _ _
    (λ j. contains-marks n j
    ∙ (mark_less m n k p j
    ∙ sym (set.contains-remove tokens_total (seen_marks (map.entries m)) k j)))
