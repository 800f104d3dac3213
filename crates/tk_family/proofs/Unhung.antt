-- The rows once a dot is no child any more.
--   KeptBut-unhung, firsts-unhung, HasUses-unhung   their columns
use Rattle.std.proofs.Common.{◌≡◌, ◌≢◌, inl, inr, ◌||◌, true, cond, Option, None, Some, ap, sym}
use Rattle.std.proofs.Common.{◌∙◌, refl, subst}
use Rattle.std.proofs.lemmas.Bool.{true≢false, cases_Bool, cond-true, cond-false, and_parts}
use Rattle.std.proofs.lemmas.Bool.{or_left, or_right}
use Rattle.std.specs.BTreeSet.{BTreeSet}
use Rattle.tk_handle.specs.declared.dot.Dot.{Dot}
use Rattle.tk_handle.specs.declared.kind.Kind.{Kind}
use Rattle.tk_handle.specs.declared.token_id.TokenId.{TokenId}
use Rattle.tk_handle.specs.Kind.{is_code, is_refresh}
use Rattle.tk_family.specs.declared.children.Child.{Child}
use Rattle.tk_family.specs.declared.link.Link.{Link}
use Rattle.tk_family.specs.declared.link.Link.TheVariants.{Code, Redeems, Rotates}
use Rattle.tk_family.specs.declared.row.Row.{Row}
use Rattle.tk_family.specs.declared.row.Uses.{Uses}
use Rattle.tk_family.specs.Dots.{dot_eq}
use Rattle.tk_family.specs.Families.{Links, use_of, IsUsed, IsTwice, LinksWithin}
use Rattle.tk_family.specs.Rows.{Rows, link_in, code_in, count_in, first_in, marked_in, used_in}
use Rattle.tk_family.specs.Rows.{again_in, is_some_use, is_often, links_of, firsts_of}
use Rattle.tk_family.specs.Takes.{without, with_first, HasUses, KeptBut, counted}
use Rattle.tk_family.specs.Uses.{uses_by}
use Rattle.tk_family.specs.Writes.{with_users}
use Rattle.tk_family.proofs.DotLaws.{dot_eq-same, dot_eq-apart, dot_eq-true}
use Rattle.tk_family.proofs.Adding.{Adds, Within-adds}
use Rattle.tk_family.proofs.Growth.{IsUsed-adds, IsTwice-adds}
use Rattle.tk_family.proofs.FamilyLaws.{IsTwice-within}
use Rattle.tk_family.proofs.Columns.{column}
use Rattle.tk_family.proofs.Marking.{token_is}
use Rattle.tk_family.proofs.HungColumns.{RowAt}
use Rattle.tk_family.proofs.UseLaws.{uses_by-true}
use Rattle.tk_family.proofs.ChildLaws.{cases_tokens}
use Rattle.tk_family.proofs.Unhanging.{Adds-without, used-within, Recounts, counted_used}
use Rattle.tk_family.proofs.Unhanging.{used_counted, counted_twice, twice_counted, users_cols}
use Rattle.tk_family.proofs.Unhanging.{users_marked, users_first, users_here, users_apart}

-- M is T, with another first child at t's dot and another number of uses of t
abbrev pub IsRewritten : Rows → Rows → TokenId → Option Dot → Uses → Type 0
IsRewritten T M t o u = (q : Dot) → M q ≡ cond (dot_eq t.dot q) (with_users (T q) o t.kind u) (T q)

-- a token that is used has a row, and is a code or a refresh token
used_row : (x : Option Row) (k : Kind) → used_in x k ≡ true → RowAt x
used_row None k h = absurd (true≢false (sym h))
used_row (Some r) k h = record { row = r; is = refl }

-- a token that a link uses is a code or a refresh token
used_kind : (o : Option Link) (t : TokenId) → uses_by o t ≡ true
    → (is_code t.kind || is_refresh t.kind) ≡ true
used_kind None t h = absurd (true≢false (sym h))
used_kind (Some Code) t h = absurd (true≢false (sym h))
used_kind (Some (Redeems c)) t h =
    or_left (is_code t.kind) (is_refresh t.kind) (and_parts (dot_eq c t.dot) (is_code t.kind) h).1
used_kind (Some (Rotates c g)) t h = or_right (is_code t.kind) (is_refresh t.kind)
    (and_parts (dot_eq c t.dot) (is_refresh t.kind) h).1

-- rows in which a token's users were rewritten are kept but for that token
pub KeptBut-unhung : (T M : Rows) (t : TokenId) (o : Option Dot) (u : Uses) → IsRewritten T M t o u
    → KeptBut T M t
KeptBut-unhung T M t o u h =
    let differs : (k : TokenId) → k ≢ t → dot_eq t.dot k.dot ≡ true → k.kind ≢ t.kind =
    λ k ne same one. ne (token_is k t (sym (dot_eq-true t.dot k.dot same)) one) in
    record {
      link = λ q. ap link_in (h q)
          ∙ column link_in (dot_eq t.dot q) (with_users (T q) o t.kind u) (T q)
          (users_cols (T q) o t.kind u).0;
      code = λ q. ap code_in (h q)
          ∙ column code_in (dot_eq t.dot q) (with_users (T q) o t.kind u) (T q)
          (users_cols (T q) o t.kind u).1;
      count = λ q. ap count_in (h q)
          ∙ column count_in (dot_eq t.dot q) (with_users (T q) o t.kind u) (T q)
          (users_cols (T q) o t.kind u).2;
      marked = λ q k. ap (λ (x : Option Row). marked_in x k) (h q)
          ∙ column (λ (x : Option Row). marked_in x k) (dot_eq t.dot q)
          (with_users (T q) o t.kind u) (T q) (users_marked (T q) o t.kind u k);
      first = λ q ne.
          ap first_in (h q ∙ cond-false _ _ _ (dot_eq-apart t.dot q (λ same. ne (sym same))));
      used = λ k ne. ap (λ (x : Option Row). used_in x k.kind) (h k.dot)
          ∙ (elim (cases_Bool (dot_eq t.dot k.dot)) [
            | inl same ↦ ap (λ (x : Option Row). used_in x k.kind)
                (cond-true (dot_eq t.dot k.dot) (with_users (T k.dot) o t.kind u) (T k.dot) same)
                ∙ (users_apart (T k.dot) o t.kind u k.kind (differs k ne same)).0
            | inr apart ↦ ap (λ (x : Option Row). used_in x k.kind)
                (cond-false (dot_eq t.dot k.dot) (with_users (T k.dot) o t.kind u) (T k.dot) apart)
          ]);
      again = λ k ne. ap (λ (x : Option Row). again_in x k.kind) (h k.dot)
          ∙ (elim (cases_Bool (dot_eq t.dot k.dot)) [
            | inl same ↦ ap (λ (x : Option Row). again_in x k.kind)
                (cond-true (dot_eq t.dot k.dot) (with_users (T k.dot) o t.kind u) (T k.dot) same)
                ∙ (users_apart (T k.dot) o t.kind u k.kind (differs k ne same)).1
            | inr apart ↦ ap (λ (x : Option Row). again_in x k.kind)
                (cond-false (dot_eq t.dot k.dot) (with_users (T k.dot) o t.kind u) (T k.dot) apart)
          ]);
    }

-- t is used, so its dot has a row
token_row : (T : Rows) (d : Dot) (t : TokenId) → HasUses (links_of T) T
    → uses_by (links_of T d) t ≡ true → RowAt (T t.dot)
token_row T d t known uses = used_row (T t.dot) t.kind
    (known.uses t (record { user = d; by = uses_by-true (links_of T d) t uses }))

-- the row of a token whose users were rewritten has the new ones
row_here : (T M : Rows) (t : TokenId) (o : Option Dot) (u : Uses) (r : RowAt (T t.dot))
    → IsRewritten T M t o u → M t.dot ≡ with_users (Some r.row) o t.kind u
row_here T M t o u r h = h t.dot
    ∙ (cond-true _ _ _ (dot_eq-same t.dot) ∙ ap (λ (x : Option Row). with_users x o t.kind u) r.is)

-- the first children after a token's users were rewritten
pub firsts-unhung : (T M : Rows) (d : Dot) (t : TokenId) (o : Option Dot) (u : Uses)
    → HasUses (links_of T) T → uses_by (links_of T d) t ≡ true → IsRewritten T M t o u → (q : Dot)
    → firsts_of M q ≡ with_first (firsts_of T) t.dot o q
firsts-unhung T M d t o u known uses h q =
    let r : RowAt (T t.dot) = token_row T d t known uses in
    elim (cases_Bool (dot_eq t.dot q)) [
      | inl same ↦ ap (λ (y : Dot). first_in (M y)) (sym (dot_eq-true t.dot q same))
          ∙ (ap first_in (row_here T M t o u r h)
          ∙ (users_first r.row o t.kind u ∙ sym (cond-true _ _ _ same)))
      | inr apart ↦ ap first_in (h q ∙ cond-false _ _ _ apart) ∙ sym (cond-false _ _ _ apart)
    ]

-- d's link is known, and uses no other token
link_of : (o : Option Link) (t : TokenId) → uses_by o t ≡ true → (l : Link) × (o ≡ Some l)
link_of None t h = absurd (true≢false (sym h))
link_of (Some l) t h = (l, refl)

-- rows have the uses without the link once the token's users were rewritten
pub HasUses-unhung : (T M : Rows) (s : BTreeSet Child) (d : Dot) (t : TokenId) (o : Option Dot)
    → HasUses (links_of T) T → Recounts (links_of T) (firsts_of T) s d t o
    → IsRewritten T M t o (counted (links_of T) o s t) → HasUses (without (links_of T) d) M
HasUses-unhung T M s d t o known x h =
    let f : Links = links_of T in
    let u : Uses = counted f o s t in
    let r : RowAt (T t.dot) = token_row T d t known x.uses in
    let kept : KeptBut T M t = KeptBut-unhung T M t o u h in
    let here : M t.dot ≡ with_users (Some r.row) o t.kind u = row_here T M t o u r h in
    let flags = users_here r.row o t.kind u (used_kind (f d) t x.uses) in
    let used_t : used_in (M t.dot) t.kind ≡ is_some_use u =
    ap (λ (y : Option Row). used_in y t.kind) here ∙ flags.0 in
    let again_t : again_in (M t.dot) t.kind ≡ is_often u =
    ap (λ (y : Option Row). again_in y t.kind) here ∙ flags.1 in
    let l : (l : Link) × (f d ≡ Some l) = link_of (f d) t x.uses in
    let a : Adds (without f d) f d l.0 = Adds-without f d l.0 l.1 in
    let w : LinksWithin (without f d) f = Within-adds (without f d) f d l.0 a in
    let differs : (k : TokenId) → k ≢ t → use_of (Some l.0) ≢ Some k =
    λ k ne now. (let both : Some k ≡ Some t =
    sym now ∙ (sym (ap use_of l.1) ∙ uses_by-true (f d) t x.uses) in
    let one : k ≡ t = cc in ne one) in
    record {
      used = λ k. elim (cases_tokens k t) [
        | inl one ↦ subst (λ (j : TokenId).
            used_in (M j.dot) j.kind ≡ true → IsUsed (without f d) j) (sym one)
            (λ at. counted_used f (firsts_of T) s d t o x (sym used_t ∙ at))
        | inr ne ↦ λ at. elim (IsUsed-adds (without f d) f d l.0 a k
            (known.used k (sym (kept.used k ne) ∙ at))) [
              | inl now ↦ absurd (differs k ne now)
              | inr old ↦ old
            ]
      ];
      uses = λ k. elim (cases_tokens k t) [
        | inl one ↦ subst (λ (j : TokenId).
            IsUsed (without f d) j → used_in (M j.dot) j.kind ≡ true) (sym one)
            (λ y. used_t ∙ used_counted f (firsts_of T) s d t o x y)
        | inr ne ↦ λ y. kept.used k ne ∙ known.uses k (used-within (without f d) f w k y)
      ];
      again = λ k. elim (cases_tokens k t) [
        | inl one ↦ subst (λ (j : TokenId).
            again_in (M j.dot) j.kind ≡ true → IsTwice (without f d) j) (sym one)
            (λ at. counted_twice f (firsts_of T) s d t o x (sym again_t ∙ at))
        | inr ne ↦ λ at. elim (IsTwice-adds (without f d) f d l.0 a k
            (known.again k (sym (kept.again k ne) ∙ at))) [
              | inl now ↦ absurd (differs k ne now.0)
              | inr old ↦ old
            ]
      ];
      twice = λ k. elim (cases_tokens k t) [
        | inl one ↦ subst (λ (j : TokenId).
            IsTwice (without f d) j → again_in (M j.dot) j.kind ≡ true) (sym one)
            (λ y. again_t ∙ twice_counted f (firsts_of T) s d t o x y)
        | inr ne ↦ λ y. kept.again k ne ∙ known.twice k (IsTwice-within (without f d) f w k y)
      ];
    }
