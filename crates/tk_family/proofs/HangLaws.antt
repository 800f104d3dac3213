-- The first children and the set of the others, when a link is put. Key results:
--   Hangs-same        the same links, first children and set; `Hangs-seen` with blank rows
--   named_token       the token that a link uses
--   Hangs-put         a link is put; `Hangs-puts` by what `put` ensures
use Rattle.std.proofs.Common.{◌≡◌, ◌≢◌, inl, inr, ◌&&◌, Bool, true, false, not, cond, Option, None}
use Rattle.std.proofs.Common.{Some, List, ap, sym, ◌∙◌, refl, subst}
use Rattle.std.proofs.lemmas.Bool.{cases_Bool, cond-true, cond-false, and_from, false_from_ne_true}
use Rattle.tk_handle.specs.declared.dot.Dot.{Dot}
use Rattle.tk_handle.specs.declared.kind.Kind.TheVariants as kind
use Rattle.tk_handle.specs.declared.token_id.TokenId.{TokenId}
use Rattle.tk_handle.specs.Dot.{IsDot}
use Rattle.tk_family.specs.declared.link.Link.{Link}
use Rattle.tk_family.specs.declared.link.Link.TheVariants.{Code, Redeems, Rotates}
use Rattle.tk_family.specs.Children.{Others, IsSame, is_child, token_at}
use Rattle.tk_family.specs.Dots.{dot_eq}
use Rattle.tk_family.specs.Families.{Links, named_by, used_by}
use Rattle.tk_family.specs.Kept.{has_dot, Hangs}
use Rattle.tk_family.specs.Puts.{first_after, ListsAt, ListsBy, Lists, NothingSeen, Puts}
use Rattle.tk_family.specs.Rows.{Rows, first_in, links_of, firsts_of, named_of}
use Rattle.tk_family.specs.Takes.{without}
use Rattle.tk_family.specs.Uses.{uses_by, used_kind}
use Rattle.tk_family.specs.Writes.{or_dot}
use Rattle.std.proofs.Math.Bool.{and-false as and_false}
use Rattle.tk_family.proofs.DotLaws.{dot_eq-same, dot_eq-apart, dot_eq-true, cases_dots}
use Rattle.tk_family.proofs.Adding.{Adds}
use Rattle.tk_family.proofs.Gathering.{with_link-here, with_link-other}
use Rattle.tk_family.proofs.Growth.{used_by-uses}
use Rattle.tk_family.proofs.UseLaws.{uses_by-true}
use Rattle.tk_family.proofs.ChildLaws.{is_child-same, is_child-true, is_child-apart, is_child-other}
use Rattle.tk_family.proofs.ChildLaws.{cases_tokens}

-- a link that was taken is gone
pub without-here : (f : Links) (d : Dot) → without f d d ≡ None
without-here f d = cond-true (dot_eq d d) None (f d) (dot_eq-same d)

-- at other dots the links stay
pub without-other : (f : Links) (d q : Dot) → q ≢ d → without f d q ≡ f q
without-other f d q ne =
    cond-false (dot_eq d q) None (f q) (dot_eq-apart d q (λ same. ne (sym same)))

-- whether a child is in the set, by its link and the first child
abbrev pub other : Option Link → Option Dot → TokenId → Dot → Bool
other o first k e = uses_by o k && not (has_dot first e)

-- ---- nothing has changed

-- what hangs in equal links, first children and others hangs
pub Hangs-same : (f g : Links) (first then : Dot → Option Dot) (E N : Others)
    → ((q : Dot) → g q ≡ f q) → ((q : Dot) → then q ≡ first q) → IsSame E N → Hangs f first E
    → Hangs g then N
Hangs-same f g first then E N links firsts same h = record {
  named = λ p e is. ap named_of (links e) ∙ h.named p e (sym (firsts p) ∙ is);
  none = λ p e is names. h.none p e (sym (firsts p) ∙ is) (sym (ap named_of (links e)) ∙ names);
  rest = λ k e. same k e
      ∙ (h.rest k e
      ∙ (ap (λ (o : Option Link). other o (first k.dot) k e) (sym (links e))
      ∙ ap (λ (o : Option Dot). other (g e) o k e) (sym (firsts k.dot))));
  ranged = λ k e at. h.ranged k e (sym (same k e) ∙ at);
}

-- blank rows may have been added
pub Hangs-seen : (T N : Rows) (E M : Others) → NothingSeen T N → IsSame E M
    → Hangs (links_of T) (firsts_of T) E → Hangs (links_of N) (firsts_of N) M
Hangs-seen T N E M seen same h = Hangs-same (links_of T) (links_of N) (firsts_of T)
    (firsts_of N) E M seen.links seen.first same h

-- the link that names p uses a token of p
pub named_token : (o : Option Link) (l : Link) (p : Dot) → o ≡ Some l → named_by l ≡ Some p
    → uses_by o (token_at p (used_kind l)) ≡ true
named_token o Code p at names = absurd (let clash : None ≡ Some p = names in cc)
named_token o (Redeems c) p at names = let both : Some c ≡ Some p = names in
    let one : c ≡ p = cc in
    ap (λ (q : Option Link). uses_by q (token_at p kind.Code)) at
    ∙ and_from _ _ (ap (dot_eq c) (sym one) ∙ dot_eq-same c) refl
named_token o (Rotates c n) p at names = let both : Some c ≡ Some p = names in
    let one : c ≡ p = cc in
    ap (λ (q : Option Link). uses_by q (token_at p kind.Refresh)) at
    ∙ and_from _ _ (ap (dot_eq c) (sym one) ∙ dot_eq-same c) refl

-- ---- a link is put

-- the links f, first children and set before, and those after the link l was put at d, which uses t
record Put (f g : Links) (first then : Dot → Option Dot) (E N : Others) (d : Dot) (l : Link)
    (t : TokenId) : Type 0 where
  pub before : Hangs f first E
  pub adds : Adds f g d l
  pub names : named_by l ≡ Some t.dot
  pub uses : used_by l ≡ Some t
  pub after : (q : Dot) → then q ≡ cond (dot_eq t.dot q) (or_dot (first q) d) (first q)
  pub ranged : IsDot d

-- a dot whose link named a dot before is not the dot of the new link
not_put : (f g : Links) (d : Dot) (l : Link) → Adds f g d l → (e p : Dot) → named_of (f e) ≡ Some p
    → e ≢ d
not_put f g d l a e p names same =
    let clash : None ≡ Some p = sym (ap named_of (ap f same ∙ a.free)) ∙ names in cc

-- the dot of the new link had no entry among the other children
no_entry : (f g : Links) (d : Dot) (l : Link) → Adds f g d l
    → (first : Dot → Option Dot) (E : Others) → Hangs f first E → (k : TokenId) → E k d ≡ false
no_entry f g d l a first E h k =
    h.rest k d ∙ ap (λ (o : Option Link). other o (first k.dot) k d) a.free

-- the new link uses only t
uses_only : (l : Link) (t k : TokenId) → used_by l ≡ Some t → k ≢ t → uses_by (Some l) k ≡ false
uses_only l t k uses ne = false_from_ne_true (uses_by (Some l) k)
    (λ h. let both : Some k ≡ Some t = sym (uses_by-true (Some l) k h) ∙ uses in
    let same : k ≡ t = cc in ne same)

-- d becomes the first child
put_first : (f g : Links) (first then : Dot → Option Dot) (E N : Others) (d : Dot) (l : Link)
    (t : TokenId)
    → Put f g first then E N d l t → first t.dot ≡ None → IsSame E N → Hangs g then N
put_first f g first then E N d l t x none same =
    let a : Adds f g d l = x.adds in
    let h : Hangs f first E = x.before in
    let here : then t.dot ≡ Some d = x.after t.dot
    ∙ (cond-true _ _ _ (dot_eq-same t.dot) ∙ ap (λ (o : Option Dot). or_dot o d) none) in
    let there : (q : Dot) → q ≢ t.dot → then q ≡ first q =
    λ q ne. x.after q ∙ cond-false _ _ _ (dot_eq-apart t.dot q (λ e. ne (sym e))) in
    record {
      named = λ p e is. elim (cases_dots p t.dot) [
        | inl one ↦
            let both : Some d ≡ Some e = sym here ∙ (ap then (sym one) ∙ is) in
            let at : d ≡ e = cc in
            ap (λ (y : Dot). named_of (g y)) (sym at)
            ∙ (ap named_of a.here ∙ (x.names ∙ ap (λ (y : Dot). Some y) (sym one)))
        | inr ne ↦ let was : named_of (f e) ≡ Some p = h.named p e (sym (there p ne) ∙ is) in
            ap named_of (a.others e (not_put f g d l a e p was)) ∙ was
      ];
      none = λ p e is names. elim (cases_dots p t.dot) [
        | inl one ↦ (let clash : Some d ≡ None = sym here ∙ (ap then (sym one) ∙ is) in cc)
        | inr ne ↦ elim (cases_dots e d) [
          | inl at ↦ (let both : Some t.dot ≡ Some p =
              sym x.names ∙ (sym (ap named_of a.here)
              ∙ (sym (ap (λ (y : Dot). named_of (g y)) at) ∙ names)) in let one : t.dot
              ≡ p = cc in ne (sym one))
          | inr apart ↦
              h.none p e (sym (there p ne) ∙ is) (sym (ap named_of (a.others e apart)) ∙ names)
        ]
      ];
      rest = λ k e. elim (cases_dots e d) [
        | inl at ↦ subst (λ (y : Dot). N k y ≡ other (g y) (then k.dot) k y) (sym at)
            (same k d ∙ (no_entry f g d l a first E h k ∙ sym (elim (cases_tokens k t) [
              | inl one ↦ ap (λ (j : TokenId). other (g d) (then j.dot) k d) one
                  ∙ (ap (λ (o : Option Dot). other (g d) o k d) here
                  ∙ (ap (λ (b : Bool). uses_by (g d) k && not b) (dot_eq-same d)
                  ∙ and_false (uses_by (g d) k)))
              | inr ne ↦ ap (λ (b : Bool). b && not (has_dot (then k.dot) d))
                  (ap (λ (o : Option Link). uses_by o k) a.here ∙ uses_only l t k x.uses ne)
            ])))
        | inr apart ↦
            let first_is : has_dot (first k.dot) e ≡ has_dot (then k.dot) e =
            elim (cases_dots k.dot t.dot) [
              | inl one ↦ ap (λ (o : Option Dot). has_dot o e) (ap first one ∙ none)
                  ∙ (sym (dot_eq-apart d e (λ e_is. apart (sym e_is)))
                  ∙ sym (ap (λ (o : Option Dot). has_dot o e) (ap then one ∙ here)))
              | inr ne ↦ ap (λ (o : Option Dot). has_dot o e) (sym (there k.dot ne))
            ] in
            same k e ∙ (h.rest k e
            ∙ (ap (λ (b : Bool). uses_by (f e) k && not b) first_is
            ∙ ap (λ (o : Option Link). other o (then k.dot) k e) (sym (a.others e apart))))
      ];
      ranged = λ k e at. h.ranged k e (sym (same k e) ∙ at);
    }

-- d is another child
put_other : (f g : Links) (first then : Dot → Option Dot) (E N : Others) (d : Dot) (l : Link)
    (t : TokenId)
    → Put f g first then E N d l t → (y : Dot) → first t.dot ≡ Some y
    → ((k : TokenId) (q : Dot) → N k q ≡ cond (is_child t d k q) true (E k q)) → Hangs g then N
put_other f g first then E N d l t x y some listed =
    let a : Adds f g d l = x.adds in
    let h : Hangs f first E = x.before in
    let there : (q : Dot) → then q ≡ first q =
    λ q. x.after q ∙ (elim (cases_Bool (dot_eq t.dot q)) [
      | inl one ↦
          let at : first q ≡ Some y = ap first (sym (dot_eq-true t.dot q one)) ∙ some in
          cond-true _ _ _ one ∙ (ap (λ (o : Option Dot). or_dot o d) at ∙ sym at)
      | inr apart ↦ cond-false _ _ _ apart
    ]) in
    let y_is : y ≢ d = not_put f g d l a y t.dot (h.named t.dot y some) in
    record {
      named = λ p e is. (let was : named_of (f e) ≡ Some p = h.named p e (sym (there p) ∙ is) in
          ap named_of (a.others e (not_put f g d l a e p was)) ∙ was);
      none = λ p e is names. elim (cases_dots e d) [
        | inl at ↦
            let both : Some t.dot ≡ Some p = sym x.names
            ∙ (sym (ap named_of a.here) ∙ (sym (ap (λ (z : Dot). named_of (g z)) at) ∙ names)) in
            let one : t.dot ≡ p = cc in
            let clash : Some y ≡ None = sym some ∙ (ap first one ∙ (sym (there p) ∙ is)) in
            (cc)
        | inr apart ↦ h.none p e (sym (there p) ∙ is) (sym (ap named_of (a.others e apart)) ∙ names)
      ];
      rest = λ k e. elim (cases_dots e d) [
        | inl at ↦ subst (λ (z : Dot). N k z ≡ other (g z) (then k.dot) k z) (sym at)
            (elim (cases_tokens k t) [
              | inl one ↦ subst (λ (j : TokenId). N j d ≡ other (g d) (then j.dot) j d) (sym one)
                  (listed t d ∙ (cond-true _ _ _ (is_child-same t d)
                  ∙ sym (and_from _ _
                  (ap (λ (o : Option Link). uses_by o t) a.here ∙ used_by-uses l t x.uses)
                  (ap (λ (o : Option Dot). not (has_dot o d)) (there t.dot ∙ some)
                  ∙ ap not (dot_eq-apart y d y_is)))))
              | inr ne ↦ listed k d
                  ∙ (cond-false _ _ _ (is_child-apart t k d d ne) ∙ (no_entry f g d l a first E h k
                  ∙ sym (ap (λ (b : Bool). b && not (has_dot (then k.dot) d))
                  (ap (λ (o : Option Link). uses_by o k) a.here ∙ uses_only l t k x.uses ne))))
            ])
        | inr apart ↦ listed k e
            ∙ (cond-false _ _ _ (is_child-other t k d e (λ same. apart (sym same))) ∙ (h.rest k e
            ∙ (ap (λ (o : Option Dot). other (f e) o k e) (sym (there k.dot))
            ∙ ap (λ (o : Option Link). other o (then k.dot) k e) (sym (a.others e apart)))))
      ];
      ranged = λ k e at. elim (cases_Bool (is_child t d k e)) [
        | inl one ↦ subst (λ (z : Dot). IsDot z) (is_child-true t k d e one).1 x.ranged
        | inr apart ↦ h.ranged k e (sym (listed k e ∙ cond-false _ _ _ apart) ∙ at)
      ];
    }

-- for `Hangs-put`: by whether the named dot had a first child
put_by : (f g : Links) (first then : Dot → Option Dot) (E N : Others) (d : Dot) (l : Link)
    (t : TokenId)
    → Put f g first then E N d l t → (o : Option Dot) → first t.dot ≡ o → ListsAt E N t d o
    → Hangs g then N
put_by f g first then E N d l t x None is lists = put_first f g first then E N d l t x is lists
put_by f g first then E N d l t x (Some y) is lists =
    put_other f g first then E N d l t x y is lists

-- what hangs still does with one more link that is listed
pub Hangs-put : (f g : Links) (first then : Dot → Option Dot) (E N : Others) (d : Dot) (l : Link)
    → Adds f g d l → Hangs f first E
    → ((q : Dot) → then q ≡ cond (has_dot (named_by l) q) (or_dot (first q) d) (first q))
    → ListsBy first E N d (used_by l) → IsDot d → Hangs g then N
Hangs-put f g first then E N d Code a h after lists ranged =
    record {
      named = λ p e is. (let was : named_of (f e) ≡ Some p = h.named p e (sym (after p) ∙ is) in
          ap named_of (a.others e (not_put f g d Code a e p was)) ∙ was);
      none = λ p e is names. elim (cases_dots e d) [
        | inl at ↦ (let clash : None ≡ Some p =
            sym (ap named_of a.here) ∙ (sym (ap (λ (z : Dot). named_of (g z)) at) ∙ names) in cc)
        | inr apart ↦ h.none p e (sym (after p) ∙ is) (sym (ap named_of (a.others e apart)) ∙ names)
      ];
      rest = λ k e. elim (cases_dots e d) [
        | inl at ↦ subst (λ (z : Dot). N k z ≡ other (g z) (then k.dot) k z) (sym at)
            (lists k d ∙ (no_entry f g d Code a first E h k
            ∙ sym (ap (λ (o : Option Link). other o (then k.dot) k d) a.here)))
        | inr apart ↦ lists k e
            ∙ (h.rest k e
            ∙ (ap (λ (o : Option Dot). other (f e) o k e) (sym (after k.dot))
            ∙ ap (λ (o : Option Link). other o (then k.dot) k e) (sym (a.others e apart))))
      ];
      ranged = λ k e at. h.ranged k e (sym (lists k e) ∙ at);
    }
Hangs-put f g first then E N d (Redeems c) a h after lists ranged =
    let t : TokenId = token_at c kind.Code in
    put_by f g first then E N d (Redeems c) t
    (record { before = h; adds = a; names = refl; uses = refl; after = after; ranged = ranged })
    (first c) refl lists
Hangs-put f g first then E N d (Rotates c n) a h after lists ranged =
    let t : TokenId = token_at c kind.Refresh in
    put_by f g first then E N d (Rotates c n) t
    (record { before = h; adds = a; names = refl; uses = refl; after = after; ranged = ranged })
    (first c) refl lists

-- the contract of `put`
pub Hangs-puts : (T N : Rows) (E M : Others) (d : Dot) (l : Link) (ys : List Dot)
    → links_of T d ≡ None → Puts T N d l ys → ((q : Dot) → first_in (N q) ≡ first_after T d l q)
    → Lists T E M d l → IsDot d → Hangs (links_of T) (firsts_of T) E
    → Hangs (links_of N) (firsts_of N) M
Hangs-puts T N E M d l ys free p first lists ranged h =
    let a : Adds (links_of T) (links_of N) d l = record {
      free = free;
      here = p.links d ∙ with_link-here (links_of T) d l;
      others = λ q ne. p.links q ∙ with_link-other (links_of T) d l q ne;
    } in
    Hangs-put (links_of T) (links_of N) (firsts_of T) (firsts_of N) E M d l a h first lists ranged
