-- A dot is no child any more: the uses of the token that its link used are counted anew. Key
-- results:
--   HasUses-kept, HasUses-code    the uses are as they were
--   counted_used .. twice_counted the uses that are counted anew
use Rattle.std.proofs.Common.{◌≡◌, ◌≢◌, ◌⊎◌, inl, inr, ℕ, ◌+◌, ◌||◌, Bool, true, false, not, cond}
use Rattle.std.proofs.Common.{Option, None, Some, List, [], ◌∷◌, length, take, ap, sym, ◌∙◌, refl}
use Rattle.std.proofs.Common.{subst}
use Rattle.std.proofs.lemmas.Bool.{true≢false, cases_Bool, and_parts, and_from}
use Rattle.std.proofs.lemmas.Map.Keys.{IsDistinct-head}
use Rattle.std.specs.BTreeSet.{BTreeSet, IsOrdered}
use Rattle.std.specs.List.{IsDistinct}
use Rattle.tk_handle.specs.declared.dot.Dot.{Dot}
use Rattle.tk_handle.specs.declared.kind.Kind.{Kind}
use Rattle.tk_handle.specs.declared.kind.Kind.TheVariants as kind
use Rattle.tk_handle.specs.declared.token_id.TokenId.{TokenId}
use Rattle.tk_handle.specs.Kind.{is_code, is_refresh}
use Rattle.tk_family.specs.declared.children.Child.{Child}
use Rattle.tk_family.specs.declared.link.Link.{Link}
use Rattle.tk_family.specs.declared.link.Link.TheVariants.{Code}
use Rattle.tk_family.specs.declared.row.Row.{Row}
use Rattle.tk_family.specs.declared.row.Uses.{Uses}
use Rattle.tk_family.specs.Children.{child_cmp, others_in, users_in}
use Rattle.tk_family.specs.Dots.{dot_eq, has}
use Rattle.tk_family.specs.Families.{Links, IsUsed, IsTwice, LinksWithin}
use Rattle.tk_family.specs.Kept.{has_dot, Hangs, IsForest}
use Rattle.tk_family.specs.Rows.{Rows, link_in, code_in, count_in, first_in, marked_in, used_in}
use Rattle.tk_family.specs.Rows.{again_in, is_some_use, is_often, links_of, named_of}
use Rattle.tk_family.specs.Takes.{without, with_first, HasUses, first_uses, counted}
use Rattle.tk_family.specs.Uses.{uses_by}
use Rattle.tk_family.specs.Writes.{as_uses, with_users}
use Rattle.tk_family.proofs.DotLaws.{dot_eq-same, dot_eq-true, cases_dots, has-cons, has-here}
use Rattle.tk_family.proofs.DotLaws.{list_none}
use Rattle.tk_family.proofs.Adding.{Adds, Within-adds}
use Rattle.tk_family.proofs.Growth.{IsUsed-adds, IsTwice-adds}
use Rattle.tk_family.proofs.FamilyLaws.{use_of-within, IsTwice-within}
use Rattle.tk_family.proofs.UseLaws.{uses_by-true, use_of-uses}
use Rattle.tk_family.proofs.ChildLaws.{dots_of, users-has, has-users, users-distinct}
use Rattle.tk_family.proofs.HangLaws.{without-here, without-other}
use Rattle.tk_family.proofs.HangRemovalLaws.{first_here}

-- links have one link more than without it
pub Adds-without : (f : Links) (d : Dot) (l : Link) → f d ≡ Some l → Adds (without f d) f d l
Adds-without f d l here =
    record { free = without-here f d; here = here; others = λ q ne. sym (without-other f d q ne) }

-- a grant that is used is used if there are more links
pub used-within : (f g : Links) → LinksWithin f g → (k : TokenId) → IsUsed f k → IsUsed g k
used-within f g w k u =
    record { user = u.user; by = use_of-within f g w u.user (f u.user) k refl u.by }

-- ---- the uses are as they were

-- the rows of a forest have the uses of its links
pub HasUses-forest : (T : Rows) → IsForest T → HasUses (links_of T) T
HasUses-forest T t = record { used = t.used; uses = t.uses; again = t.again; twice = t.twice }

-- rows with the same uses have the uses of the same links
pub HasUses-kept : (f g : Links) (T N : Rows) → HasUses f T → ((q : Dot) → f q ≡ g q)
    → ((k : TokenId) → used_in (N k.dot) k.kind ≡ used_in (T k.dot) k.kind)
    → ((k : TokenId) → again_in (N k.dot) k.kind ≡ again_in (T k.dot) k.kind) → HasUses g N
HasUses-kept f g T N h same used again =
    let there : LinksWithin f g = λ q l at. sym (same q) ∙ at in
    let back : LinksWithin g f = λ q l at. same q ∙ at in
    record {
      used = λ k at. used-within f g there k (h.used k (sym (used k) ∙ at));
      uses = λ k u. used k ∙ h.uses k (used-within g f back k u);
      again = λ k at. IsTwice-within f g there k (h.again k (sym (again k) ∙ at));
      twice = λ k u. again k ∙ h.twice k (IsTwice-within g f back k u);
    }

-- a code uses no token
pub HasUses-code : (f : Links) (T : Rows) (d : Dot) → f d ≡ Some Code → HasUses f T
    → HasUses (without f d) T
HasUses-code f T d here h =
    let a : Adds (without f d) f d Code = Adds-without f d Code here in
    let w : LinksWithin (without f d) f = Within-adds (without f d) f d Code a in
    record {
      used = λ k at. elim (IsUsed-adds (without f d) f d Code a k (h.used k at)) [
        | inl now ↦ absurd (let clash : None ≡ Some k = now in cc)
        | inr old ↦ old
      ];
      uses = λ k u. h.uses k (used-within (without f d) f w k u);
      again = λ k at. elim (IsTwice-adds (without f d) f d Code a k (h.again k at)) [
        | inl now ↦ absurd (let clash : None ≡ Some k = now.0 in cc)
        | inr old ↦ old
      ];
      twice = λ k u. h.twice k (IsTwice-within (without f d) f w k u);
    }

-- ---- counts up to two

-- the uses that are left: one if asked for, and those of up to two children
abbrev total : Bool → List Child → ℕ
total b cs = cond b 1 0 + length (take 2 cs)

-- a count that makes a use counts the first child, or another
count_some : (b : Bool) (cs : List Child) → is_some_use (as_uses (total b cs)) ≡ true
    → (b ≡ true) ⊎ ((e : Dot) × (has (dots_of cs) e ≡ true))
count_some true cs h = inl refl
count_some false [] h = absurd (true≢false (sym h))
count_some false (x ∷ xs) h = inr (x.child, has-here x.child (dots_of xs))

-- a first child that is counted makes a use
some_first : (b : Bool) (cs : List Child) → b ≡ true → is_some_use (as_uses (total b cs)) ≡ true
some_first true [] h = refl
some_first true (x ∷ []) h = refl
some_first true (x ∷ (y ∷ ys)) h = refl
some_first false cs h = absurd (true≢false (sym h))

-- another child that is counted makes a use
some_more : (b : Bool) (cs : List Child) (e : Dot) → has (dots_of cs) e ≡ true
    → is_some_use (as_uses (total b cs)) ≡ true
some_more b [] e h = absurd (true≢false (sym h))
some_more true (x ∷ []) e h = refl
some_more false (x ∷ []) e h = refl
some_more true (x ∷ (y ∷ ys)) e h = refl
some_more false (x ∷ (y ∷ ys)) e h = refl

-- two dots of the list
record TwoOf (list : List Dot) : Type 0 where
  pub one : Dot
  pub two : Dot
  pub apart : one ≢ two
  pub one_in : has list one ≡ true
  pub two_in : has list two ≡ true

-- a count that makes a repeated use counts the first child and another, or two others
count_two : (b : Bool) (cs : List Child) → IsDistinct dot_eq (dots_of cs)
    → is_often (as_uses (total b cs)) ≡ true
    → ((b ≡ true) × (e : Dot) × (has (dots_of cs) e ≡ true)) ⊎ TwoOf (dots_of cs)
count_two true [] distinct h = absurd (true≢false (sym h))
count_two true (x ∷ xs) distinct h = inl (refl, x.child, has-here x.child (dots_of xs))
count_two false [] distinct h = absurd (true≢false (sym h))
count_two false (x ∷ []) distinct h = absurd (true≢false (sym h))
count_two false (x ∷ (y ∷ ys)) distinct h =
    let none : has (y.child ∷ dots_of ys) x.child ≡ false =
    list_none x.child (y.child ∷ dots_of ys)
    (IsDistinct-head dot_eq x.child (y.child ∷ dots_of ys) distinct) in
    let second : has (y.child ∷ dots_of ys) y.child ≡ true = has-here y.child (dots_of ys) in
    inr (record {
      one = x.child;
      two = y.child;
      apart = λ same. true≢false (sym second ∙ (ap (has (y.child ∷ dots_of ys)) (sym same) ∙ none));
      one_in = has-here x.child (y.child ∷ dots_of ys);
      two_in = or_later (dot_eq y.child x.child) (has (y.child ∷ dots_of ys) y.child) second;
    })
  where
    or_later : (a b : Bool) → b ≡ true → (a || b) ≡ true
    or_later true b h = refl
    or_later false b h = h

-- the first child and another make a repeated use
two_first : (b : Bool) (cs : List Child) (e : Dot) → b ≡ true → has (dots_of cs) e ≡ true
    → is_often (as_uses (total b cs)) ≡ true
two_first true [] e first h = absurd (true≢false (sym h))
two_first true (x ∷ []) e first h = refl
two_first true (x ∷ (y ∷ ys)) e first h = refl
two_first false cs e first h = absurd (true≢false (sym first))

-- a dot of a list of one dot is that one
only : (x a : Dot) → has (x ∷ []) a ≡ true → a ≡ x
only x a h =
    elim (has-cons x [] a h) [ inl same ↦ same | inr none ↦ absurd (true≢false (sym none)) ]

-- two different other children make a repeated use
two_more : (b : Bool) (cs : List Child) (x y : Dot) → x ≢ y → has (dots_of cs) x ≡ true
    → has (dots_of cs) y ≡ true → is_often (as_uses (total b cs)) ≡ true
two_more b [] x y ne at_x at_y = absurd (true≢false (sym at_x))
two_more b (c ∷ []) x y ne at_x at_y = absurd (ne (only c.child x at_x ∙ sym (only c.child y at_y)))
two_more true (c ∷ (e ∷ es)) x y ne at_x at_y = refl
two_more false (c ∷ (e ∷ es)) x y ne at_x at_y = refl

-- ---- the uses of a token, counted anew

-- d is no child any more: o is now the first child of t's dot, and the set s has the others
pub record Recounts (f : Links) (first : Dot → Option Dot) (s : BTreeSet Child) (d : Dot)
    (t : TokenId) (o : Option Dot) : Type 0 where
  pub uses : uses_by (f d) t ≡ true
  pub hangs : Hangs (without f d) (with_first first t.dot o) (others_in s)
  pub ordered : IsOrdered child_cmp s

-- a dot whose link uses a token without d's link has the link that it had
kept_link : (f : Links) (d e : Dot) (k : TokenId) → uses_by (without f d e) k ≡ true
    → without f d e ≡ f e
kept_link f d e k by = elim (cases_dots e d) [
  | inl same ↦ absurd
      (true≢false
      (sym by ∙ ap (λ (l : Option Link). uses_by l k) (ap (without f d) same ∙ without-here f d)))
  | inr ne ↦ without-other f d e ne
]

-- the first child and the set have the users of t
in_set : (f : Links) (first : Dot → Option Dot) (s : BTreeSet Child) (d : Dot) (t : TokenId)
    (o : Option Dot)
    → Recounts f first s d t o → (e : Dot) → uses_by (without f d e) t ≡ true → has_dot o e ≡ false
    → has (dots_of (users_in s t)) e ≡ true
in_set f first s d t o x e by apart =
    let at : others_in s t e ≡ true = x.hangs.rest t e
    ∙ and_from _ _ by (ap (λ (q : Option Dot). not (has_dot q e)) (first_here first t.dot o)
    ∙ ap not apart) in
    users-has s t e at (x.hangs.ranged t e at)

-- a child in the set uses the token without d's link, and is not the first child
of_set : (f : Links) (first : Dot → Option Dot) (s : BTreeSet Child) (d : Dot) (t : TokenId)
    (o : Option Dot)
    → Recounts f first s d t o → (e : Dot) → has (dots_of (users_in s t)) e ≡ true
    → (uses_by (without f d e) t ≡ true) × (has_dot o e ≡ false)
of_set f first s d t o x e e_in =
    let parts = and_parts _ _ (sym (x.hangs.rest t e) ∙ has-users s t e e_in) in (
      parts.0,
      not_true (has_dot o e)
          (ap (λ (q : Option Dot). not (has_dot q e)) (sym (first_here first t.dot o)) ∙ parts.1),
    )
  where
    not_true : (b : Bool) → not b ≡ true → b ≡ false
    not_true true h = absurd (true≢false (sym h))
    not_true false h = refl

-- if the first child uses the token, the first child uses it without d's link
of_first : (f : Links) (first : Dot → Option Dot) (s : BTreeSet Child) (d : Dot) (t : TokenId)
    (o : Option Dot)
    → Recounts f first s d t o → first_uses f o t ≡ true
    → (e : Dot) × (uses_by (without f d e) t ≡ true) × (has_dot o e ≡ true)
of_first f first s d t None x h = absurd (true≢false (sym h))
of_first f first s d t (Some e) x h =
    let names : named_of (without f d e) ≡ Some t.dot =
    x.hangs.named t.dot e (first_here first t.dot (Some e)) in
    let ne : e ≢ d = λ same. (let clash : None ≡ Some t.dot =
    sym (ap named_of (ap (without f d) same ∙ without-here f d)) ∙ names in cc) in
    (e, ap (λ (l : Option Link). uses_by l t) (without-other f d e ne) ∙ h, dot_eq-same e)

-- if the first child uses the token without d's link, the first child uses the token
by_first : (f : Links) (d : Dot) (t : TokenId) (o : Option Dot) (e : Dot)
    → uses_by (without f d e) t ≡ true → has_dot o e ≡ true → first_uses f o t ≡ true
by_first f d t None e by at = absurd (true≢false (sym at))
by_first f d t (Some x) e by at = subst (λ (y : Dot). uses_by (f y) t ≡ true)
    (sym (dot_eq-true x e at))
    (ap (λ (l : Option Link). uses_by l t) (sym (kept_link f d e t by)) ∙ by)

-- an option has at most one dot
one_dot : (o : Option Dot) (x y : Dot) → has_dot o x ≡ true → has_dot o y ≡ true → x ≡ y
one_dot None x y h i = absurd (true≢false (sym h))
one_dot (Some e) x y h i = sym (dot_eq-true e x h) ∙ dot_eq-true e y i

-- a token with some user that is counted is used without the link
pub counted_used : (f : Links) (first : Dot → Option Dot) (s : BTreeSet Child) (d : Dot)
    (t : TokenId) (o : Option Dot)
    → Recounts f first s d t o → is_some_use (counted f o s t) ≡ true → IsUsed (without f d) t
counted_used f first s d t o x h = elim (count_some (first_uses f o t) (users_in s t) h) [
  | inl now ↦ let r : (e : Dot) × (uses_by (without f d e) t ≡ true) × (has_dot o e ≡ true) =
      of_first f first s d t o x now in
      record { user = r.0; by = uses_by-true (without f d r.0) t r.1 }
  | inr more ↦ record {
    user = more.0;
    by = uses_by-true (without f d more.0) t (of_set f first s d t o x more.0 more.1).0;
  }
]

-- a token that is used without the link has some user that is counted
pub used_counted : (f : Links) (first : Dot → Option Dot) (s : BTreeSet Child) (d : Dot)
    (t : TokenId) (o : Option Dot)
    → Recounts f first s d t o → IsUsed (without f d) t → is_some_use (counted f o s t) ≡ true
used_counted f first s d t o x u =
    let by : uses_by (without f d u.user) t ≡ true = use_of-uses (without f d u.user) t u.by in
    elim (cases_Bool (has_dot o u.user)) [
      | inl at ↦ some_first (first_uses f o t) (users_in s t) (by_first f d t o u.user by at)
      | inr apart ↦ some_more (first_uses f o t) (users_in s t) u.user
          (in_set f first s d t o x u.user by apart)
    ]

-- a token with two users that are counted is used twice without the link
pub counted_twice : (f : Links) (first : Dot → Option Dot) (s : BTreeSet Child) (d : Dot)
    (t : TokenId) (o : Option Dot)
    → Recounts f first s d t o → is_often (counted f o s t) ≡ true → IsTwice (without f d) t
counted_twice f first s d t o x h =
    elim (count_two (first_uses f o t) (users_in s t) (users-distinct s t x.ordered) h) [
      | inl now ↦
          let r : (e : Dot) × (uses_by (without f d e) t ≡ true) × (has_dot o e ≡ true) =
          of_first f first s d t o x now.0 in
          let more : (uses_by (without f d now.1) t ≡ true) × (has_dot o now.1 ≡ false) =
          of_set f first s d t o x now.1 now.2 in
          record {
            one = r.0;
            two = now.1;
            apart = λ same. true≢false (sym r.2 ∙ (ap (has_dot o) same ∙ more.1));
            by_one = uses_by-true (without f d r.0) t r.1;
            by_two = uses_by-true (without f d now.1) t more.0;
          }
      | inr both ↦ record {
        one = both.one;
        two = both.two;
        apart = both.apart;
        by_one =
            uses_by-true (without f d both.one) t (of_set f first s d t o x both.one both.one_in).0;
        by_two =
            uses_by-true (without f d both.two) t (of_set f first s d t o x both.two both.two_in).0;
      }
    ]

-- a token that is used twice without the link has two users that are counted
pub twice_counted : (f : Links) (first : Dot → Option Dot) (s : BTreeSet Child) (d : Dot)
    (t : TokenId) (o : Option Dot)
    → Recounts f first s d t o → IsTwice (without f d) t → is_often (counted f o s t) ≡ true
twice_counted f first s d t o x u =
    let b : Bool = first_uses f o t in
    let cs : List Child = users_in s t in
    let one : uses_by (without f d u.one) t ≡ true = use_of-uses (without f d u.one) t u.by_one in
    let two : uses_by (without f d u.two) t ≡ true = use_of-uses (without f d u.two) t u.by_two in
    elim (cases_Bool (has_dot o u.one)) [
      | inl at_one ↦ elim (cases_Bool (has_dot o u.two)) [
        | inl at_two ↦ absurd (u.apart (one_dot o u.one u.two at_one at_two))
        | inr apart ↦ two_first b cs u.two (by_first f d t o u.one one at_one)
            (in_set f first s d t o x u.two two apart)
      ]
      | inr apart_one ↦ elim (cases_Bool (has_dot o u.two)) [
        | inl at_two ↦ two_first b cs u.one (by_first f d t o u.two two at_two)
            (in_set f first s d t o x u.one one apart_one)
        | inr apart_two ↦ two_more b cs u.one u.two u.apart
            (in_set f first s d t o x u.one one apart_one)
            (in_set f first s d t o x u.two two apart_two)
      ]
    ]

-- ---- the row of the dot

-- a row with other users keeps link, code and count
pub users_cols : (o : Option Row) (e : Option Dot) (k : Kind) (u : Uses)
    → (link_in (with_users o e k u) ≡ link_in o) × (code_in (with_users o e k u) ≡ code_in o)
    × (count_in (with_users o e k u) ≡ count_in o)
users_cols None e k u = (refl, refl, refl)
users_cols (Some r) e kind.Code u = (refl, refl, refl)
users_cols (Some r) e kind.Access u = (refl, refl, refl)
users_cols (Some r) e kind.Refresh u = (refl, refl, refl)

-- a row with other users keeps its marks
pub users_marked : (o : Option Row) (e : Option Dot) (k : Kind) (u : Uses) (j : Kind)
    → marked_in (with_users o e k u) j ≡ marked_in o j
users_marked None e k u j = refl
users_marked (Some r) e kind.Code u kind.Code = refl
users_marked (Some r) e kind.Code u kind.Access = refl
users_marked (Some r) e kind.Code u kind.Refresh = refl
users_marked (Some r) e kind.Access u kind.Code = refl
users_marked (Some r) e kind.Access u kind.Access = refl
users_marked (Some r) e kind.Access u kind.Refresh = refl
users_marked (Some r) e kind.Refresh u kind.Code = refl
users_marked (Some r) e kind.Refresh u kind.Access = refl
users_marked (Some r) e kind.Refresh u kind.Refresh = refl

-- a row with other users has the first child that was given
pub users_first : (r : Row) (e : Option Dot) (k : Kind) (u : Uses)
    → first_in (with_users (Some r) e k u) ≡ e
users_first r e kind.Code u = refl
users_first r e kind.Access u = refl
users_first r e kind.Refresh u = refl

-- a row with other users of a grant has its uses
pub users_here : (r : Row) (e : Option Dot) (k : Kind) (u : Uses)
    → (is_code k || is_refresh k) ≡ true
    → (used_in (with_users (Some r) e k u) k ≡ is_some_use u)
    × (again_in (with_users (Some r) e k u) k ≡ is_often u)
users_here r e kind.Code u h = (refl, refl)
users_here r e kind.Access u h = absurd (true≢false (sym h))
users_here r e kind.Refresh u h = (refl, refl)

-- a row with other users of a grant keeps the uses of other kinds
pub users_apart : (o : Option Row) (e : Option Dot) (k : Kind) (u : Uses) (j : Kind) → j ≢ k
    → (used_in (with_users o e k u) j ≡ used_in o j)
    × (again_in (with_users o e k u) j ≡ again_in o j)
users_apart None e k u j ne = (refl, refl)
users_apart (Some r) e kind.Code u kind.Code ne = absurd (ne refl)
users_apart (Some r) e kind.Code u kind.Access ne = (refl, refl)
users_apart (Some r) e kind.Code u kind.Refresh ne = (refl, refl)
users_apart (Some r) e kind.Access u kind.Code ne = (refl, refl)
users_apart (Some r) e kind.Access u kind.Access ne = absurd (ne refl)
users_apart (Some r) e kind.Access u kind.Refresh ne = (refl, refl)
users_apart (Some r) e kind.Refresh u kind.Code ne = (refl, refl)
users_apart (Some r) e kind.Refresh u kind.Access ne = (refl, refl)
users_apart (Some r) e kind.Refresh u kind.Refresh ne = absurd (ne refl)
