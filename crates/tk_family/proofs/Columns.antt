-- The steps of `put`, and what they leave of each column. Key results:
--   column, Alike-blank, Alike-same   rows are alike if each of their columns is
--   IsForest-kept                     rows that differ in marks and counts alone stay a forest
--   chain-some, chain-none            what the chain of a dot tells of its code
--   NothingSeen-alike                 rows that are alike show the same links, marks and uses
--   blank_there, present-blank        a blank row is there once it was put
use Rattle.std.proofs.Common.{◌≡◌, ◌≢◌, ◌⊎◌, inl, inr, ℕ, ◌+◌, ◌<◌, ◌==◌, Bool, true, false, cond}
use Rattle.std.proofs.Common.{Option, None, Some, List, [], ◌∷◌, ap, sym, ◌∙◌, refl, arith, subst}
use Rattle.std.proofs.Common.{IsSome}
use Rattle.std.proofs.lemmas.Bool.{true≢false, cases_Bool, cond-true, cond-false, and_parts}
use Rattle.std.proofs.lemmas.Bool.{not-true as false_if}
use Rattle.std.proofs.lemmas.Bool.Decides.{nat_tests}
use Rattle.tk_handle.specs.declared.dot.Dot.{Dot}
use Rattle.tk_handle.specs.declared.kind.Kind.{Kind}
use Rattle.tk_handle.specs.declared.kind.Kind.TheVariants as kind
use Rattle.tk_family.specs.declared.link.Link.{Link}
use Rattle.tk_family.specs.declared.link.Link.TheVariants.{Code, Redeems, Rotates}
use Rattle.tk_family.specs.declared.row.Row.{Row}
use Rattle.tk_family.specs.Dots.{dot_eq}
use Rattle.tk_family.specs.Families.{Links, named_by, fits, use_of, IsPath, IsUnder, LinksWithin}
use Rattle.tk_family.specs.Families.{IsUsed, rank_of}
use Rattle.tk_family.specs.Counts.{IsCounted}
use Rattle.tk_family.specs.Rows.{Rows, link_in, code_in, count_in, first_in, marked_in, used_in}
use Rattle.tk_family.specs.Rows.{again_in, links_of}
use Rattle.tk_family.specs.Kept.{IsForest}
use Rattle.tk_family.specs.declared.row.Uses.{Uses}
use Rattle.tk_family.specs.declared.row.Uses.TheVariants.{Never, Once, Often}
use Rattle.std.specs.Option.{is_none}
use Rattle.tk_family.specs.Writes.{blank, or_blank, is_never, is_blank, is_blank_row, chain_by}
use Rattle.tk_family.specs.Writes.{chain_code}
use Rattle.tk_family.specs.Walks.{fits_over}
use Rattle.tk_family.specs.Puts.{NothingSeen}
use Rattle.tk_family.proofs.DotLaws.{dot_eq-same, dot_eq-true}
use Rattle.tk_family.proofs.Adding.{Adds, Within-adds, alone, below_under}
use Rattle.tk_family.proofs.Counting.{IsCounted-same, bad-same, blamed-same}
use Rattle.tk_family.proofs.FamilyLaws.{IsUnder-within, IsTwice-within, IsParent-rank}

-- ---- columns

-- a column at a choice whose two sides agree in that column
pub column : {X : Type 0} (π : Option Row → X) (b : Bool) (changed old : Option Row)
    → π changed ≡ π old → π (cond b changed old) ≡ π old
column π true changed old same = same
column π false changed old same = refl

-- two tables agree in each column
pub record Alike (T N : Rows) : Type 0 where
  pub link : (q : Dot) → link_in (N q) ≡ link_in (T q)
  pub code : (q : Dot) → code_in (N q) ≡ code_in (T q)
  pub count : (q : Dot) → count_in (N q) ≡ count_in (T q)
  pub first : (q : Dot) → first_in (N q) ≡ first_in (T q)
  pub marked : (q : Dot) (k : Kind) → marked_in (N q) k ≡ marked_in (T q) k
  pub used : (q : Dot) (k : Kind) → used_in (N q) k ≡ used_in (T q) k
  pub again : (q : Dot) (k : Kind) → again_in (N q) k ≡ again_in (T q) k

-- a blank row in place of no row changes no mark and no use
flag_blank : (k : Kind) (o : Option Row)
    → (marked_in (or_blank o) k ≡ marked_in o k) × (used_in (or_blank o) k ≡ used_in o k)
    × (again_in (or_blank o) k ≡ again_in o k)
flag_blank k (Some r) = (refl, refl, refl)
flag_blank kind.Code None = (refl, refl, refl)
flag_blank kind.Access None = (refl, refl, refl)
flag_blank kind.Refresh None = (refl, refl, refl)

-- a blank row in place of no row changes no link, code, count or first child
same_blank : (o : Option Row)
    → (link_in (or_blank o) ≡ link_in o) × (code_in (or_blank o) ≡ code_in o)
    × (count_in (or_blank o) ≡ count_in o) × (first_in (or_blank o) ≡ first_in o)
same_blank None = (refl, refl, refl, refl)
same_blank (Some r) = (refl, refl, refl, refl)

-- adding a blank row changes no column
pub Alike-blank : (T N : Rows) (at : Dot)
    → ((q : Dot) → N q ≡ cond (dot_eq at q) (or_blank (T q)) (T q)) → Alike T N
Alike-blank T N at h = record {
  link = λ q.
      ap link_in (h q) ∙ column link_in (dot_eq at q) (or_blank (T q)) (T q) (same_blank (T q)).0;
  code = λ q.
      ap code_in (h q) ∙ column code_in (dot_eq at q) (or_blank (T q)) (T q) (same_blank (T q)).1;
  count = λ q.
      ap count_in (h q) ∙ column count_in (dot_eq at q) (or_blank (T q)) (T q) (same_blank (T q)).2;
  first = λ q.
      ap first_in (h q) ∙ column first_in (dot_eq at q) (or_blank (T q)) (T q) (same_blank (T q)).3;
  marked = λ q k. ap (λ (o : Option Row). marked_in o k) (h q)
      ∙ column (λ (o : Option Row). marked_in o k) (dot_eq at q) (or_blank (T q)) (T q)
      (flag_blank k (T q)).0;
  used = λ q k. ap (λ (o : Option Row). used_in o k) (h q)
      ∙ column (λ (o : Option Row). used_in o k) (dot_eq at q) (or_blank (T q)) (T q)
      (flag_blank k (T q)).1;
  again = λ q k. ap (λ (o : Option Row). again_in o k) (h q)
      ∙ column (λ (o : Option Row). again_in o k) (dot_eq at q) (or_blank (T q)) (T q)
      (flag_blank k (T q)).2;
}

-- rows that are equal are alike
pub Alike-same : (T N : Rows) → ((q : Dot) → N q ≡ T q) → Alike T N
Alike-same T N h = record {
  link = λ q. ap link_in (h q);
  code = λ q. ap code_in (h q);
  count = λ q. ap count_in (h q);
  first = λ q. ap first_in (h q);
  marked = λ q k. ap (λ (o : Option Row). marked_in o k) (h q);
  used = λ q k. ap (λ (o : Option Row). used_in o k) (h q);
  again = λ q k. ap (λ (o : Option Row). again_in o k) (h q);
}

-- rows that are alike to alike rows are alike
pub Alike-then : (T M N : Rows) → Alike T M → Alike M N → Alike T N
Alike-then T M N a b = record {
  link = λ q. b.link q ∙ a.link q;
  code = λ q. b.code q ∙ a.code q;
  count = λ q. b.count q ∙ a.count q;
  first = λ q. b.first q ∙ a.first q;
  marked = λ q k. b.marked q k ∙ a.marked q k;
  used = λ q k. b.used q k ∙ a.used q k;
  again = λ q k. b.again q k ∙ a.again q k;
}

-- likeness goes both ways
pub Alike-back : (T N : Rows) → Alike T N → Alike N T
Alike-back T N a = record {
  link = λ q. sym (a.link q);
  code = λ q. sym (a.code q);
  count = λ q. sym (a.count q);
  first = λ q. sym (a.first q);
  marked = λ q k. sym (a.marked q k);
  used = λ q k. sym (a.used q k);
  again = λ q k. sym (a.again q k);
}

-- ---- a blank row is removed

-- an option that is none by the test is None
none_if : {X : Type 0} (o : Option X) → is_none o ≡ true → o ≡ None
none_if None h = refl
none_if (Some x) h = absurd (true≢false (sym h))

-- uses that are never by the test are Never
never_if : (u : Uses) → is_never u ≡ true → u ≡ Never
never_if Never h = refl
never_if Once h = absurd (true≢false (sym h))
never_if Often h = absurd (true≢false (sym h))

-- a number that is 0 by the test is 0
zero_if : (n : ℕ) → (n == 0) ≡ true → n ≡ 0
zero_if n h = grind (arith, nat_tests)

-- a row that is blank by the test is the blank row
blank_is : (row : Row) → is_blank row ≡ true → row ≡ blank
blank_is row h =
    let a = and_parts _ _ h in
    let b = and_parts _ _ a.1 in
    let c = and_parts _ _ b.1 in
    let d = and_parts _ _ c.1 in
    let e = and_parts _ _ d.1 in
    let f = and_parts _ _ e.1 in
    let g = and_parts _ _ f.1 in
    let i = and_parts _ _ g.1 in
    λ x. record {
      link = none_if row.link a.0 x;
      code = none_if row.code b.0 x;
      bad = zero_if row.bad c.0 x;
      marked_code = false_if row.marked_code d.0 x;
      marked_access = false_if row.marked_access e.0 x;
      marked_refresh = false_if row.marked_refresh f.0 x;
      redeemed = never_if row.redeemed g.0 x;
      rotated = never_if row.rotated i.0 x;
      first = none_if row.first i.1 x;
    }

-- the row was blank or absent
blank_or : (o : Option Row) → is_blank_row o ≡ true → (o ≡ None) ⊎ (o ≡ Some blank)
blank_or None h = inl refl
blank_or (Some row) h = inr (ap (λ (r : Row). Some r) (blank_is row h))

-- rows are alike without a blank row
pub Alike-dropped : (T N : Rows) (at : Dot) → is_blank_row (T at) ≡ true
    → ((q : Dot) → N q ≡ cond (dot_eq at q) None (T q)) → Alike T N
Alike-dropped T N at h rows = elim (blank_or (T at) h) [
  | inl none ↦ Alike-same T N (λ q. rows q ∙ (elim (cases_Bool (dot_eq at q)) [
    | inl same ↦ cond-true _ _ _ same ∙ sym (ap T (sym (dot_eq-true at q same)) ∙ none)
    | inr apart ↦ cond-false _ _ _ apart
  ]))
  | inr blanks ↦ Alike-back N T (Alike-blank N T at (λ q. elim (cases_Bool (dot_eq at q)) [
    | inl same ↦ ap T (sym (dot_eq-true at q same))
        ∙ (blanks ∙ (sym (ap or_blank (rows q ∙ cond-true _ _ _ same))
        ∙ sym (cond-true _ _ _ same)))
    | inr apart ↦ sym (rows q ∙ cond-false _ _ _ apart) ∙ sym (cond-false _ _ _ apart)
  ]))
]

-- ---- rows that differ in marks and counts alone

-- each row differs from the old one in its marks and counts alone
pub record AlikeButMarks (T N : Rows) : Type 0 where
  pub link : (q : Dot) → link_in (N q) ≡ link_in (T q)
  pub code : (q : Dot) → code_in (N q) ≡ code_in (T q)
  pub first : (q : Dot) → first_in (N q) ≡ first_in (T q)
  pub used : (q : Dot) (j : Kind) → used_in (N q) j ≡ used_in (T q) j
  pub again : (q : Dot) (j : Kind) → again_in (N q) j ≡ again_in (T q) j

-- links are within links that are the same at each dot
within_same : (f g : Links) → ((q : Dot) → g q ≡ f q) → LinksWithin f g
within_same f g same d l h = same d ∙ h

-- links that are the same at each dot as others are within these
within_back : (f g : Links) → ((q : Dot) → g q ≡ f q) → LinksWithin g f
within_back f g same d l h = sym (same d) ∙ h

-- rows that differ in marks and counts alone stay a forest, if they are counted
pub IsForest-kept : (T N : Rows) → IsForest T → AlikeButMarks T N → IsCounted N → IsForest N
IsForest-kept T N t p counted =
    let w : LinksWithin (links_of T) (links_of N) = within_same (links_of T) (links_of N) p.link in
    let back : LinksWithin (links_of N) (links_of T) =
    within_back (links_of T) (links_of N) p.link in
    record {
      under = λ q c h.
          IsUnder-within (links_of T) (links_of N) w q c (t.under q c (sym (p.code q) ∙ h));
      memo = λ q c u. p.code q ∙ t.memo q c (IsUnder-within (links_of N) (links_of T) back q c u);
      bads = counted;
      used = λ j h. let u : IsUsed (links_of T) j = t.used j (sym (p.used j.dot j.kind) ∙ h) in
          record { user = u.user; by = ap use_of (p.link u.user) ∙ u.by };
      uses = λ j u. p.used j.dot j.kind
          ∙ t.uses j (record { user = u.user; by = sym (ap use_of (p.link u.user)) ∙ u.by });
      again = λ j h.
          IsTwice-within (links_of T) (links_of N) w j (t.again j (sym (p.again j.dot j.kind) ∙ h));
      twice = λ j h.
          p.again j.dot j.kind ∙ t.twice j (IsTwice-within (links_of N) (links_of T) back j h);
    }

-- rows that are alike to a forest are a forest
pub IsForest-alike : (T N : Rows) → IsForest T → Alike T N → IsForest N
IsForest-alike T N t a = IsForest-kept T N t
    (record { link = a.link; code = a.code; first = a.first; used = a.used; again = a.again })
    (IsCounted-same T N
    (λ q. blamed-same (T q) (N q) (bad-same (T q) (N q) (a.link q) (a.marked q) (a.again q))
    (a.code q)) a.count t.bads)

-- ---- the code of a new link

-- a path to a dot of a lower rank than the new link's doesn't use that link
pub IsPath-below : (f g : Links) (d : Dot) (l : Link) → Adds f g d l
    → (q : Dot) (ps : List Dot) (c : Dot) → IsPath g q ps c → rank_of (g q) < rank_of (g d)
    → IsUnder f q c
IsPath-below f g d l a q [] c m low =
    let ne : q ≢ d =
    λ same. let e : rank_of (g q) ≡ rank_of (g d) = ap (λ (y : Dot). rank_of (g y)) same in
    absurd (omega arith) in
    alone f g d l a q c ne m
IsPath-below f g d l a q (p ∷ ps) c m low =
    let ne : q ≢ d =
    λ same. let e : rank_of (g q) ≡ rank_of (g d) = ap (λ (y : Dot). rank_of (g y)) same in
    absurd (omega arith) in
    let r : rank_of (g q) ≡ rank_of (g p) + 1 = IsParent-rank g q p m.0.0 in
    let less : rank_of (g p) < rank_of (g d) = omega arith in
    below_under f g d l a q p c ne m.0.0 (IsPath-below f g d l a p ps c (m.0.1, m.1) less)

-- a link that fits what is above, by the test, has a link above, and fits that
pub fits_over-some : (l : Link) (o : Option Link) → fits_over l o ≡ true
    → (k : Link) × (o ≡ Some k) × (fits l k ≡ true)
fits_over-some l None h = absurd (true≢false (sym h))
fits_over-some l (Some k) h = (k, refl, h)

-- a link that names no dot is that of a code
pub no_name : (l : Link) → named_by l ≡ None → l ≡ Code
no_name Code h = refl
no_name (Redeems c) h = absurd (cc)
no_name (Rotates p g) h = absurd (cc)

-- a dot whose chain ends in a code is under it once it has its link
pub chain-some : (T : Rows) (g : Links) (d : Dot) (l : Link) (o : Option Dot) (c : Dot) → IsForest T
    → Adds (links_of T) g d l → named_by l ≡ o → chain_by T d l o ≡ Some c → IsUnder g d c
chain-some T g d l None c t a names h =
    let code : l ≡ Code = no_name l names in
    let same : d ≡ c = cc in
    record {
      path = [];
      leads = (same, ap g (sym same) ∙ (a.here ∙ ap (λ (k : Link). Some k) code));
    }
chain-some T g d l (Some p) c t a names h = elim (cases_Bool (fits_over l (link_in (T p)))) [
  | inl fit ↦
      let above : (k : Link) × (link_in (T p) ≡ Some k) × (fits l k ≡ true) =
      fits_over-some l (link_in (T p)) fit in
      let code : code_in (T p) ≡ Some c = sym (cond-true _ _ _ fit) ∙ h in
      let w : LinksWithin (links_of T) g = Within-adds (links_of T) g d l a in
      let u : IsUnder g p c = IsUnder-within (links_of T) g w p c (t.under p c code) in
      record {
        path = p ∷ u.path;
        leads = (
          (
            record {
              link = l;
              above = above.0;
              here = a.here;
              names = names;
              there = w p above.0 above.1;
              fitting = above.2;
            },
            u.leads.0,
          ),
          u.leads.1,
        );
      }
  | inr none ↦ absurd (let clash : None ≡ Some c = sym (cond-false _ _ _ none) ∙ h in cc)
]

-- a link that fits the link above fits what is above, by the test
some_over : (l k : Link) (o : Option Link) → o ≡ Some k → fits l k ≡ true → fits_over l o ≡ true
some_over l k o at fit = ap (fits_over l) at ∙ fit

-- a dot with a path to a code has a chain that ends there
pub chain-path : (T : Rows) (g : Links) (d : Dot) (l : Link) (ps : List Dot) (c : Dot) → IsForest T
    → Adds (links_of T) g d l → IsPath g d ps c → chain_code T d l ≡ Some c
chain-path T g d l [] c t a m =
    let both : Some l ≡ Some Code = sym a.here ∙ (ap g m.0 ∙ m.1) in
    let code : l ≡ Code = cc in
    ap (chain_code T d) code ∙ ap (λ (y : Dot). Some y) m.0
chain-path T g d l (p ∷ ps) c t a m =
    let both : Some m.0.0.link ≡ Some l = sym m.0.0.here ∙ a.here in
    let same : m.0.0.link ≡ l = cc in
    let names : named_by l ≡ Some p = ap named_by (sym same) ∙ m.0.0.names in
    let r : rank_of (g d) ≡ rank_of (g p) + 1 = IsParent-rank g d p m.0.0 in
    let less : rank_of (g p) < rank_of (g d) = omega arith in
    let ne : p ≢ d =
    λ e. let s : rank_of (g p) ≡ rank_of (g d) = ap (λ (y : Dot). rank_of (g y)) e in
    absurd (omega arith) in
    let above : links_of T p ≡ Some m.0.0.above = sym (a.others p ne) ∙ m.0.0.there in
    let fit : fits l m.0.0.above ≡ true =
    ap (λ (k : Link). fits k m.0.0.above) (sym same) ∙ m.0.0.fitting in
    let u : IsUnder (links_of T) p c = IsPath-below (links_of T) g d l a p ps c (m.0.1, m.1) less in
    ap (chain_by T d l) names
    ∙ (cond-true _ _ _ (some_over l m.0.0.above (link_in (T p)) above fit) ∙ t.memo p c u)

-- a dot whose chain ends in no code is under none
pub chain-none : (T : Rows) (g : Links) (d : Dot) (l : Link) → IsForest T → Adds (links_of T) g d l
    → chain_code T d l ≡ None → (c : Dot) → IsUnder g d c → ⊥
chain-none T g d l t a none c u =
    let clash : Some c ≡ None = sym (chain-path T g d l u.path c t a u.leads) ∙ none in cc

-- what changes nothing that is seen, twice, changes nothing that is seen
pub NothingSeen-then : (T M N : Rows) → NothingSeen T M → NothingSeen M N → NothingSeen T N
NothingSeen-then T M N a b = record {
  forest = b.forest;
  first = λ q. b.first q ∙ a.first q;
  links = λ q. b.links q ∙ a.links q;
  marks = λ k. b.marks k ∙ a.marks k;
}

-- rows that are alike show the same links, marks and uses
pub NothingSeen-alike : (T N : Rows) → IsForest T → Alike T N → NothingSeen T N
NothingSeen-alike T N t a = record {
  forest = IsForest-alike T N t a;
  first = a.first;
  links = a.link;
  marks = λ k. a.marked k.dot k.kind;
}

-- there is a row once a blank one was put in place of none
pub blank_there : (o : Option Row) → IsSome (or_blank o)
blank_there None = refl
blank_there (Some r) = refl

-- a dot has a row once a blank one was put there
pub present-blank : (T N : Rows) (at : Dot)
    → ((q : Dot) → N q ≡ cond (dot_eq at q) (or_blank (T q)) (T q)) → IsSome (N at)
present-blank T N at h = subst (λ (o : Option Row). IsSome o)
    (sym (h at ∙ cond-true (dot_eq at at) (or_blank (T at)) (T at) (dot_eq-same at)))
    (blank_there (T at))
