-- The first children and the set of the others, when a link is removed. Key results:
--   Hangs-code        the link of a code is removed
--   Hangs-promoted    the first child is gone, and another child, if there is one, is the first
--   Hangs-dropped     another child is gone
use Rattle.std.proofs.Common.{◌≡◌, ◌≢◌, ◌⊎◌, inl, inr, ◌&&◌, Bool, true, false, not, cond, Option}
use Rattle.std.proofs.Common.{None, Some, ap, sym, ◌∙◌, refl, subst}
use Rattle.std.proofs.lemmas.Bool.{true≢false, cond-true, cond-false, and_parts, and_from}
use Rattle.std.proofs.lemmas.Bool.{false_from_ne_true, not-true as not_true}
use Rattle.tk_handle.specs.declared.dot.Dot.{Dot}
use Rattle.tk_handle.specs.declared.kind.Kind.TheVariants as kind
use Rattle.tk_handle.specs.declared.token_id.TokenId.{TokenId}
use Rattle.tk_family.specs.declared.link.Link.{Link}
use Rattle.tk_family.specs.declared.link.Link.TheVariants.{Code, Redeems, Rotates}
use Rattle.tk_family.specs.Children.{Others, IsSame, Drops, Promotes, is_child, token_at}
use Rattle.tk_family.specs.Dots.{dot_eq}
use Rattle.tk_family.specs.Families.{Links}
use Rattle.tk_family.specs.Kept.{has_dot, Hangs}
use Rattle.tk_family.specs.Rows.{named_of}
use Rattle.tk_family.specs.Takes.{without, with_first}
use Rattle.tk_family.specs.Uses.{uses_by}
use Rattle.std.proofs.Math.Bool.{and-false as and_false}
use Rattle.tk_family.proofs.DotLaws.{dot_eq-same, dot_eq-apart, dot_eq-true, cases_dots}
use Rattle.tk_family.proofs.UseLaws.{uses_by-true, uses_named}
use Rattle.tk_family.proofs.ChildLaws.{is_child-same, is_child-apart, is_child-other, cases_tokens}
use Rattle.tk_family.proofs.HangLaws.{other, without-here, without-other}

-- ---- a link is removed

-- a code is no child
pub Hangs-code : (f : Links) (first : Dot → Option Dot) (E : Others) (d : Dot) → f d ≡ Some Code
    → Hangs f first E → Hangs (without f d) first E
Hangs-code f first E d here h =
    let apart : (e p : Dot) → named_of (f e) ≡ Some p → e ≢ d =
    λ e p names same.
    (let clash : None ≡ Some p = sym (ap named_of (ap f same ∙ here)) ∙ names in cc) in
    record {
      named = λ p e is. (let was : named_of (f e) ≡ Some p = h.named p e is in
          ap named_of (without-other f d e (apart e p was)) ∙ was);
      none = λ p e is names. elim (cases_dots e d) [
        | inl at ↦ (let clash : None ≡ Some p =
            sym (ap named_of (ap (without f d) at ∙ without-here f d)) ∙ names in cc)
        | inr ne ↦ h.none p e is (sym (ap named_of (without-other f d e ne)) ∙ names)
      ];
      rest = λ k e. h.rest k e ∙ (elim (cases_dots e d) [
        | inl at ↦ ap (λ (o : Option Link). other o (first k.dot) k e) (ap f at ∙ here)
            ∙ sym (ap (λ (o : Option Link). other o (first k.dot) k e)
            (ap (without f d) at ∙ without-here f d))
        | inr ne ↦
            ap (λ (o : Option Link). other o (first k.dot) k e) (sym (without-other f d e ne))
      ]);
      ranged = h.ranged;
    }

-- a link uses one token
one_use : (o : Option Link) (j k : TokenId) → uses_by o j ≡ true → uses_by o k ≡ true → j ≡ k
one_use o j k h i = let both : Some j ≡ Some k = sym (uses_by-true o j h) ∙ uses_by-true o k i in cc

-- what is left once d, whose link uses t, is no child, and the first child of t's dot is o
record Left (f : Links) (first : Dot → Option Dot) (E N : Others) (d : Dot) (t : TokenId)
    (o : Option Dot) : Type 0 where
  pub named : (e : Dot) → o ≡ Some e → (named_of (f e) ≡ Some t.dot) × (e ≢ d)
  pub none : (e : Dot) → o ≡ None → e ≢ d → named_of (f e) ≢ Some t.dot
  pub rest : (k : TokenId) (e : Dot) → e ≢ d
      → N k e ≡ other (f e) (with_first first t.dot o k.dot) k e
  pub gone : (k : TokenId) → N k d ≡ false
  pub within : (k : TokenId) (e : Dot) → N k e ≡ true → E k e ≡ true

-- the new first child is that of its dot
pub first_here : (first : Dot → Option Dot) (p : Dot) (o : Option Dot) → with_first first p o p ≡ o
first_here first p o = cond-true _ _ _ (dot_eq-same p)

-- the first children of other dots stay
first_there : (first : Dot → Option Dot) (p : Dot) (o : Option Dot) (q : Dot) → q ≢ p
    → with_first first p o q ≡ first q
first_there first p o q ne = cond-false _ _ _ (dot_eq-apart p q (λ same. ne (sym same)))

-- what is left once d is no child hangs in the links without d
Hangs-left : (f : Links) (first : Dot → Option Dot) (E N : Others) (d : Dot) (t : TokenId)
    (o : Option Dot)
    → Hangs f first E → uses_by (f d) t ≡ true → Left f first E N d t o
    → Hangs (without f d) (with_first first t.dot o) N
Hangs-left f first E N d t o h uses x =
    let names_d : named_of (f d) ≡ Some t.dot = uses_named (f d) t uses in
    record {
      named = λ p e is. elim (cases_dots p t.dot) [
        | inl one ↦
            let was : (named_of (f e) ≡ Some t.dot) × (e ≢ d) =
            x.named e (sym (ap (with_first first t.dot o) one ∙ first_here first t.dot o) ∙ is) in
            ap named_of (without-other f d e was.1) ∙ (was.0 ∙ ap (λ (y : Dot). Some y) (sym one))
        | inr ne ↦
            let was : named_of (f e) ≡ Some p =
            h.named p e (sym (first_there first t.dot o p ne) ∙ is) in
            let apart : e ≢ d = λ same. (let both : Some t.dot ≡ Some p =
            sym names_d ∙ (ap (λ (y : Dot). named_of (f y)) (sym same) ∙ was) in
            let one : t.dot ≡ p = cc in ne (sym one)) in
            ap named_of (without-other f d e apart) ∙ was
      ];
      none = λ p e is names. elim (cases_dots e d) [
        | inl at ↦ (let clash : None ≡ Some p =
            sym (ap named_of (ap (without f d) at ∙ without-here f d)) ∙ names in cc)
        | inr apart ↦
            let was : named_of (f e) ≡ Some p =
            sym (ap named_of (without-other f d e apart)) ∙ names in
            elim (cases_dots p t.dot) [
              | inl one ↦ x.none e
                  (sym (ap (with_first first t.dot o) one ∙ first_here first t.dot o) ∙ is) apart
                  (was ∙ ap (λ (y : Dot). Some y) one)
              | inr ne ↦ h.none p e (sym (first_there first t.dot o p ne) ∙ is) was
            ]
      ];
      rest = λ k e. elim (cases_dots e d) [
        | inl at ↦ ap (N k) at
            ∙ (x.gone k ∙ sym (ap (λ (q : Option Link).
            other q (with_first first t.dot o k.dot) k e) (ap (without f d) at ∙ without-here f d)))
        | inr apart ↦ x.rest k e apart
            ∙ ap (λ (q : Option Link). other q (with_first first t.dot o k.dot) k e)
            (sym (without-other f d e apart))
      ];
      ranged = λ k e at. h.ranged k e (x.within k e at);
    }

-- d has no entry, since it is the first child
first_out : (f : Links) (first : Dot → Option Dot) (E : Others) (d : Dot) (t : TokenId)
    → Hangs f first E → uses_by (f d) t ≡ true → first t.dot ≡ Some d → (k : TokenId)
    → E k d ≡ false
first_out f first E d t h uses is k = h.rest k d ∙ (elim (cases_tokens k t) [
  | inl one ↦ ap (λ (j : TokenId). other (f d) (first j.dot) k d) one
      ∙ (ap (λ (q : Option Dot). other (f d) q k d) is
      ∙ (ap (λ (b : Bool). uses_by (f d) k && not b) (dot_eq-same d) ∙ and_false (uses_by (f d) k)))
  | inr ne ↦ ap (λ (b : Bool). b && not (has_dot (first k.dot) d))
      (false_from_ne_true (uses_by (f d) k) (λ also. ne (one_use (f d) k t also uses)))
])

-- the entries of d's siblings
sibling : (f : Links) (first : Dot → Option Dot) (E : Others) (d : Dot) (t : TokenId)
    → Hangs f first E → first t.dot ≡ Some d → (k : TokenId) → k.dot ≡ t.dot → (e : Dot) → e ≢ d
    → E k e ≡ (uses_by (f e) k && true)
sibling f first E d t h is k one e apart =
    h.rest k e ∙ (ap (λ (q : Option Dot). other (f e) q k e) (ap first one ∙ is)
    ∙ ap (λ (b : Bool). uses_by (f e) k && not b) (dot_eq-apart d e (λ same. apart (sym same))))

-- what is in a set without an entry was in the set
pub less : (b x : Bool) → cond b false x ≡ true → x ≡ true
less true x h = absurd (true≢false (sym h))
less false x h = h

-- what is not in a set is not in the set without an entry
gone_too : (b x : Bool) → x ≡ false → cond b false x ≡ false
gone_too true x h = refl
gone_too false x h = h

-- what is left once another child is first in place of d
Left-promoted : (f : Links) (first : Dot → Option Dot) (E N : Others) (d : Dot) (t : TokenId)
    (c : Dot) (j : TokenId)
    → Hangs f first E → uses_by (f d) t ≡ true → first t.dot ≡ Some d → j.dot ≡ t.dot → E j c ≡ true
    → Drops E N j c → Left f first E N d t (Some c)
Left-promoted f first E N d t c j h uses is at was drops =
    let parts =
    and_parts (uses_by (f c) j) (not (has_dot (first j.dot) c)) (sym (h.rest j c) ∙ was) in
    let apart_c : c ≢ d = λ same. true≢false
    (sym (ap (λ (q : Option Dot). has_dot q c) (ap first at ∙ is)
    ∙ (ap (dot_eq d) same ∙ dot_eq-same d))
    ∙ not_true (has_dot (first j.dot) c) parts.1) in
    record {
      named = λ e some. (let one : c ≡ e = cc in (
        ap (λ (y : Dot). named_of (f y)) (sym one)
            ∙ (uses_named (f c) j parts.0 ∙ ap (λ (y : Dot). Some y) at),
        λ same.
            apart_c (one ∙ same),
      ));
      none = λ e none apart names. (let clash : Some c ≡ None = none in cc);
      rest = λ k e apart. drops k e ∙ (elim (cases_dots k.dot t.dot) [
        | inl one ↦
            let new : with_first first t.dot (Some c) k.dot ≡ Some c =
            ap (with_first first t.dot (Some c)) one ∙ first_here first t.dot (Some c) in
            elim (cases_dots c e) [
              | inl here ↦
                  let right : other (f e) (with_first first t.dot (Some c) k.dot) k e ≡ false =
                  ap (λ (q : Option Dot). other (f e) q k e) new
                  ∙ (ap (λ (b : Bool). uses_by (f e) k && not b)
                  (ap (dot_eq c) (sym here) ∙ dot_eq-same c)
                  ∙ and_false (uses_by (f e) k)) in
                  let left : cond (is_child j c k e) false (E k e) ≡ false =
                  elim (cases_tokens k j) [
                    | inl same ↦ cond-true _ _ _
                        (ap (λ (i : TokenId). is_child j c i e) same
                        ∙ (ap (is_child j c j) (sym here) ∙ is_child-same j c))
                    | inr ne ↦ gone_too (is_child j c k e) (E k e)
                        (sibling f first E d t h is k one e apart
                        ∙ ap (λ (b : Bool). b && true)
                        (false_from_ne_true (uses_by (f e) k)
                        (λ also. ne
                        (one_use (f e) k j also
                        (subst (λ (y : Dot). uses_by (f y) j ≡ true) here parts.0)))))
                  ] in
                  left ∙ sym right
              | inr ne ↦ cond-false _ _ _ (is_child-other j k c e ne)
                  ∙ (sibling f first E d t h is k one e apart
                  ∙ sym (ap (λ (q : Option Dot). other (f e) q k e) new
                  ∙ ap (λ (b : Bool). uses_by (f e) k && not b) (dot_eq-apart c e ne)))
            ]
        | inr ne ↦ cond-false _ _ _
            (is_child-apart j k c e (λ same. ne (ap (λ (i : TokenId). i.dot) same ∙ at)))
            ∙ (h.rest k e
            ∙ ap (λ (q : Option Dot). other (f e) q k e)
            (sym (first_there first t.dot (Some c) k.dot ne)))
      ]);
      gone = λ k.
          drops k d ∙ gone_too (is_child j c k d) (E k d) (first_out f first E d t h uses is k);
      within = λ k e also. less (is_child j c k e) (E k e) (sym (drops k e) ∙ also);
    }

-- a link that names p uses its code or its refresh token
named_use : (o : Option Link) (p : Dot) → named_of o ≡ Some p
    → (uses_by o (token_at p kind.Code) ≡ true) ⊎ (uses_by o (token_at p kind.Refresh) ≡ true)
named_use None p names = absurd (let clash : None ≡ Some p = names in cc)
named_use (Some Code) p names = absurd (let clash : None ≡ Some p = names in cc)
named_use (Some (Redeems c)) p names = let both : Some c ≡ Some p = names in
    let one : c ≡ p = cc in inl (and_from _ _ (ap (dot_eq c) (sym one) ∙ dot_eq-same c) refl)
named_use (Some (Rotates c n)) p names = let both : Some c ≡ Some p = names in
    let one : c ≡ p = cc in inr (and_from _ _ (ap (dot_eq c) (sym one) ∙ dot_eq-same c) refl)

-- what is left once d is gone and was the only child
Left-emptied : (f : Links) (first : Dot → Option Dot) (E N : Others) (d : Dot) (t : TokenId)
    → Hangs f first E → uses_by (f d) t ≡ true → first t.dot ≡ Some d
    → ((e : Dot) → E (token_at t.dot kind.Code) e ≡ false)
    → ((e : Dot) → E (token_at t.dot kind.Refresh) e ≡ false) → IsSame E N
    → Left f first E N d t None
Left-emptied f first E N d t h uses is no_code no_refresh same =
    let listed : (k : TokenId) → k.dot ≡ t.dot → (e : Dot) → e ≢ d → uses_by (f e) k ≡ true
    → E k e ≡ true =
    λ k one e apart used.
    sibling f first E d t h is k one e apart ∙ ap (λ (b : Bool). b && true) used in
    record {
      named = λ e some. absurd (let clash : None ≡ Some e = some in cc);
      none = λ e _ apart names. elim (named_use (f e) t.dot names) [
        | inl code ↦
            true≢false (sym (listed (token_at t.dot kind.Code) refl e apart code) ∙ no_code e)
        | inr refresh ↦ true≢false
            (sym (listed (token_at t.dot kind.Refresh) refl e apart refresh) ∙ no_refresh e)
      ];
      rest = λ k e apart. same k e ∙ (elim (cases_dots k.dot t.dot) [
        | inl one ↦ sibling f first E d t h is k one e apart
            ∙ sym (ap (λ (q : Option Dot). other (f e) q k e)
            (ap (with_first first t.dot None) one ∙ first_here first t.dot None))
        | inr ne ↦ h.rest k e
            ∙ ap (λ (q : Option Dot). other (f e) q k e)
            (sym (first_there first t.dot None k.dot ne))
      ]);
      gone = λ k. same k d ∙ first_out f first E d t h uses is k;
      within = λ k e also. sym (same k e) ∙ also;
    }

-- an option that has a dot, by the test, is that dot
has_some : (o : Option Dot) (d : Dot) → has_dot o d ≡ true → o ≡ Some d
has_some None d h = absurd (true≢false (sym h))
has_some (Some e) d h = ap (λ (y : Dot). Some y) (dot_eq-true e d h)

-- the first child is gone, and another child is the first, if there is another
pub Hangs-promoted : (f : Links) (first : Dot → Option Dot) (E N : Others) (d : Dot) (t : TokenId)
    (o : Option Dot)
    → Hangs f first E → uses_by (f d) t ≡ true → has_dot (first t.dot) d ≡ true
    → Promotes E N t.dot o → Hangs (without f d) (with_first first t.dot o) N
Hangs-promoted f first E N d t None h uses is x =
    Hangs-left f first E N d t None h uses
    (Left-emptied f first E N d t h uses (has_some (first t.dot) d is) x.0 x.1 x.2)
Hangs-promoted f first E N d t (Some c) h uses is x =
    Hangs-left f first E N d t (Some c) h uses
    (Left-promoted f first E N d t c (token_at t.dot x.0) h uses (has_some (first t.dot) d is) refl
    x.1 x.2)

-- another child than the first is gone
pub Hangs-dropped : (f : Links) (first : Dot → Option Dot) (E N : Others) (d : Dot) (t : TokenId)
    → Hangs f first E → uses_by (f d) t ≡ true → has_dot (first t.dot) d ≡ false → Drops E N t d
    → Hangs (without f d) (with_first first t.dot (first t.dot)) N
Hangs-dropped f first E N d t h uses other_is drops =
    Hangs-left f first E N d t (first t.dot) h uses (record {
      named = λ e some. (
        h.named t.dot e some,
        λ same. true≢false
            (sym (ap (λ (q : Option Dot). has_dot q d) some
            ∙ (ap (λ (y : Dot). dot_eq y d) same ∙ dot_eq-same d))
            ∙ other_is),
      );
      none = λ e none apart names. h.none t.dot e none names;
      rest = λ k e apart. drops k e
          ∙ (cond-false _ _ _ (is_child-other t k d e (λ same. apart (sym same)))
          ∙ (h.rest k e
          ∙ ap (λ (q : Option Dot). other (f e) q k e) (sym (first_kept first t.dot k.dot))));
      gone = λ k. drops k d ∙ (elim (cases_tokens k t) [
        | inl one ↦ cond-true _ _ _ (ap (λ (i : TokenId). is_child t d i d) one ∙ is_child-same t d)
        | inr ne ↦ gone_too (is_child t d k d) (E k d)
            (h.rest k d ∙ ap (λ (b : Bool). b && not (has_dot (first k.dot) d))
            (false_from_ne_true (uses_by (f d) k) (λ also. ne (one_use (f d) k t also uses))))
      ]);
      within = λ k e also. less (is_child t d k e) (E k e) (sym (drops k e) ∙ also);
    })
  where
    first_kept : (first : Dot → Option Dot) (p q : Dot) → with_first first p (first p) q ≡ first q
    first_kept first p q = elim (cases_dots q p) [
      | inl one ↦ ap (with_first first p (first p)) one
          ∙ (first_here first p (first p) ∙ ap first (sym one))
      | inr ne ↦ first_there first p (first p) q ne
    ]
