-- The steps of `put` together: `put` keeps what the rows keep.
--   Puts-whole   the link's chain reaches a code
--   Puts-waits   the link's chain reaches no code yet
use Rattle.std.proofs.Common.{◌≡◌, inl, inr, true, cond, Option, None, Some, List, [], ◌∷◌, ap, sym}
use Rattle.std.proofs.Common.{◌∙◌, refl, subst, IsSome}
use Rattle.std.proofs.lemmas.Bool.{true≢false}
use Rattle.std.specs.List.{IsDistinct}
use Rattle.tk_handle.specs.declared.dot.Dot.{Dot}
use Rattle.tk_family.specs.declared.link.Link.{Link}
use Rattle.tk_family.specs.declared.link.Link.TheVariants.{Code}
use Rattle.tk_family.specs.declared.row.Row.{Row}
use Rattle.tk_family.specs.Dots.{dot_eq, has}
use Rattle.tk_family.specs.Counts.{IsCounted}
use Rattle.tk_family.specs.Families.{Links, named_by, IsPath, IsUnder, LinksWithin, IsTrail}
use Rattle.tk_family.specs.Puts.{IsBelow, with_link, Gathers, Hung, Puts, NothingSeen}
use Rattle.tk_family.specs.Rows.{Rows, link_in, code_in, links_of}
use Rattle.tk_family.specs.Kept.{IsForest}
use Rattle.tk_family.proofs.Growth.{Grown, Grown-walk, Grown-waits, PutRows, IsForest-put}
use Rattle.tk_family.specs.Tops.{IsRaised}
use Rattle.tk_family.specs.Writes.{raised, chain_code}
use Rattle.tk_family.proofs.DotLaws.{cases_dots}
use Rattle.tk_family.proofs.Adding.{Adds, Within-adds, IsPath-here}
use Rattle.tk_family.proofs.FamilyLaws.{IsUnder-within, IsParent-within, IsParent-one}
use Rattle.tk_family.proofs.FamilyLaws.{IsParent-code}
use Rattle.tk_family.proofs.Gathering.{with_link-here, with_link-other, Adds-with_link}
use Rattle.tk_family.proofs.Columns.{chain-some, chain-none}
use Rattle.tk_family.proofs.Putting.{Mid, Mid-none, Mid-raised, IsCounted-mid}
use Rattle.tk_family.proofs.HungColumns.{RowAt}

-- a path ends at a code
pub IsPath-code : (f : Links) (q : Dot) (ps : List Dot) (c : Dot) → IsPath f q ps c
    → f c ≡ Some Code
IsPath-code f q ps c m = m.1

-- a dot with a link has a row
pub row_with : (o : Option Row) (k : Link) → link_in o ≡ Some k → RowAt o
row_with None k h = absurd (let clash : None ≡ Some k = h in cc)
row_with (Some r) k h = record { row = r; is = refl }

-- a dot with a path to a code has a row
row_on : (M : Rows) (q : Dot) (ps : List Dot) (c : Dot) → IsPath (links_of M) q ps c → RowAt (M q)
row_on M q [] c m = row_with (M q) Code (ap (links_of M) m.0 ∙ m.1)
row_on M q (p ∷ ps) c m = row_with (M q) m.0.0.link m.0.0.here

-- a dot under a code has a row
row_under : (M : Rows) (q c : Dot) → IsUnder (links_of M) q c → RowAt (M q)
row_under M q c u = row_on M q u.path c u.leads

-- a link that is hung up, below which all got their code, is put
pub PutRows-from : (T M A : Rows) (d : Dot) (l : Link) (c0 : Dot) (ys : List Dot) → IsForest T
    → Hung T M d l → Grown (links_of T) (links_of A) c0 ys → Mid M A c0 ys → IsCounted A
    → PutRows T A d l c0 ys
PutRows-from T M A d l c0 ys t hung grown mid counted = record {
  adds = record {
    free = hung.adds.free;
    here = mid.link d ∙ hung.adds.here;
    others = λ q ne. mid.link q ∙ hung.adds.others q ne;
  };
  grown = grown;
  marks = λ k. mid.marked k.dot k.kind ∙ hung.marked k.dot k.kind;
  code = λ q. mid.code q ∙ ap (λ (o : Option Dot). cond (has ys q) (Some c0) o) (hung.code q);
  used_is = λ k. mid.used k.dot k.kind ∙ hung.used k;
  again_is = λ k. mid.again k.dot k.kind ∙ hung.again k;
  bads = counted;
}

-- ---- the dots that came under c0

-- the links with one more are those of the rows that got it
pub links_same : (f g : Links) (d : Dot) (l : Link) → Adds f g d l → (q : Dot)
    → with_link f d l q ≡ g q
links_same f g d l a q = elim (cases_dots q d) [
  | inl same ↦ ap (with_link f d l) same ∙ (with_link-here f d l ∙ (sym a.here ∙ ap g (sym same)))
  | inr ne ↦ with_link-other f d l q ne ∙ sym (a.others q ne)
]

-- what descends from a dot that is under a code is under that code
pub trail_under : (g : Links) (q d : Dot) (ps : List Dot) (c : Dot) → IsTrail g q ps d
    → IsUnder g d c → IsUnder g q c
trail_under g q d [] c leads u = subst (λ (y : Dot). IsUnder g y c) (sym leads) u
trail_under g q d (p ∷ ps) c leads u =
    let above : IsUnder g p c = trail_under g p d ps c leads.1 u in
    record { path = p ∷ above.path; leads = ((leads.0, above.leads.0), above.leads.1) }

-- a dot that hangs below a dot without a link was under no code
pub trail_free : (f g : Links) (q d : Dot) (ps : List Dot) → LinksWithin f g → f d ≡ None
    → IsTrail g q ps d → (c : Dot) (qs : List Dot) → IsPath f q qs c → ⊥
trail_free f g q d [] w free leads c qs m = IsPath-here f q qs c m (ap f leads ∙ free)
trail_free f g q d (p ∷ ps) w free leads c [] m =
    IsParent-code g q p (w q Code (ap f m.0 ∙ m.1)) leads.0
trail_free f g q d (p ∷ ps) w free leads c (r ∷ rs) m =
    let same : r ≡ p = IsParent-one g q r p (IsParent-within f g w q r m.0.0) leads.0 in
    trail_free f g p d ps w free leads.1 c rs
    (subst (λ (y : Dot). IsPath f y rs c) same (m.0.1, m.1))

-- a dot below a free one is under no code
pub below_free : (T : Rows) (d : Dot) (l : Link) (ys : List Dot) → links_of T d ≡ None
    → Gathers (links_of T) d l ys → (q : Dot) → has ys q ≡ true → (c : Dot)
    → ¬ IsUnder (links_of T) q c
below_free T d l ys free got q walked c u =
    let b : IsBelow (with_link (links_of T) d l) d q = got.below q walked in
    trail_free (links_of T) (with_link (links_of T) d l) q d b.path
    (Within-adds (links_of T) (with_link (links_of T) d l) d l
    (Adds-with_link (links_of T) d l free)) free b.leads c u.path u.leads

-- the dots that were gathered are those that the new link brings under the code
pub Grown-gathered : (T : Rows) (g : Links) (d : Dot) (l : Link) (c : Dot) (ys : List Dot)
    → IsForest T → Adds (links_of T) g d l → chain_code T d l ≡ Some c → Gathers (links_of T) d l ys
    → Grown (links_of T) g c ys
Grown-gathered T g d l c ys t a chain got =
    let there : LinksWithin (with_link (links_of T) d l) g =
    λ q k h. sym (links_same (links_of T) g d l a q) ∙ h in
    let back : LinksWithin g (with_link (links_of T) d l) =
    λ q k h. links_same (links_of T) g d l a q ∙ h in
    let u : IsUnder (with_link (links_of T) d l) d c =
    chain-some T (with_link (links_of T) d l) d l (named_by l) c t
    (Adds-with_link (links_of T) d l a.free) refl chain in
    Grown-walk (links_of T) g d l c ys a got.root
    (λ x e walked par.
    got.closed x e walked (IsParent-within g (with_link (links_of T) d l) back e x par))
    (λ q walked.
    IsUnder-within (with_link (links_of T) d l) g there q c
    (trail_under (with_link (links_of T) d l) q d (got.below q walked).path c
    (got.below q walked).leads u))

-- a dot that was under no code had no code
no_code : (T : Rows) (q : Dot) (o : Option Dot) → IsForest T → code_in (T q) ≡ o
    → ((c : Dot) → ¬ IsUnder (links_of T) q c) → code_in (T q) ≡ None
no_code T q None t code free = code
no_code T q (Some c) t code free = absurd (free c (t.under q c code))

-- a dot without a link has no code in its row
pub free_code : (T : Rows) (d : Dot) → IsForest T → links_of T d ≡ None → code_in (T d) ≡ None
free_code T d t free =
    no_code T d (code_in (T d)) t refl (λ c u. IsPath-here (links_of T) d u.path c u.leads free)

-- the dots that were gathered have no code yet
pub fresh_codes : (T M : Rows) (d : Dot) (l : Link) (ys : List Dot) → IsForest T
    → links_of T d ≡ None → ((q : Dot) → code_in (M q) ≡ code_in (T q))
    → Gathers (links_of T) d l ys → (q : Dot) → has ys q ≡ true → code_in (M q) ≡ None
fresh_codes T M d l ys t free code got q walked =
    code q ∙ no_code T q (code_in (T q)) t refl (below_free T d l ys free got q walked)

-- a code that a row has is a code, and so has a row
pub hung_rows : (T M : Rows) (d : Dot) (l : Link) → IsForest T → Hung T M d l → (q c : Dot)
    → code_in (M q) ≡ Some c → IsSome (M c)
hung_rows T M d l t h q c code =
    let u : IsUnder (links_of T) q c = t.under q c (sym (h.code q) ∙ code) in
    let r : RowAt (M c) = row_with (M c) Code
    (Within-adds (links_of T) (links_of M) d l h.adds c Code
    (IsPath-code (links_of T) q u.path c u.leads)) in
    subst (λ (o : Option Row). IsSome o) (sym r.is) refl

-- ---- the contract of `put`

-- putting a link whose chain reaches a code
pub Puts-whole : (T M A : Rows) (d : Dot) (l : Link) (c : Dot) (ys : List Dot) → IsForest T
    → links_of T d ≡ None → Hung T M d l → IsCounted M → chain_code T d l ≡ Some c
    → Gathers (links_of T) d l ys → ((q : Dot) → A q ≡ raised M ys c q) → Puts T A d l ys
Puts-whole T M A d l c ys t free h counted chain got raises =
    let grown_M : Grown (links_of T) (links_of M) c ys =
    Grown-gathered T (links_of M) d l c ys t h.adds chain got in
    let rows : (q : Dot) → has ys q ≡ true → RowAt (M q) =
    λ q walked. row_under (M) q c (grown_M.sound q walked) in
    let u : IsUnder (links_of M) d c = grown_M.sound d got.root in
    let mid : Mid M A c ys = Mid-raised M A c ys rows raises in
    let counted_A : IsCounted A = IsCounted-mid M A c ys counted got.distinct
    (fresh_codes T M d l ys t free h.code got)
    (row_with (M c) Code (IsPath-code (links_of M) d u.path c u.leads)) mid raises in
    let adds : Adds (links_of T) (links_of A) d l = record {
      free = free;
      here = mid.link d ∙ h.adds.here;
      others = λ q ne. mid.link q ∙ h.adds.others q ne;
    } in
    let grown : Grown (links_of T) (links_of A) c ys =
    Grown-gathered T (links_of A) d l c ys t adds chain got in
    let p : PutRows T A d l c ys = PutRows-from T M A d l c ys t h grown mid counted_A in
    record {
      forest = IsForest-put T A d l c ys t p;
      links = λ q. sym (links_same (links_of T) (links_of A) d l adds q);
      marks = p.marks;
      distinct = got.distinct;
      raised_now = λ q walked. record {
        code = c;
        now = grown.sound q walked;
        before = below_free T d l ys free got q walked;
      };
      no_other = grown.claim;
    }

-- putting a link whose chain reaches no code yet
pub Puts-waits : (T M : Rows) (d : Dot) (l : Link) → IsForest T → links_of T d ≡ None → Hung T M d l
    → IsCounted M → chain_code T d l ≡ None → Puts T M d l []
unfolding IsDistinct
Puts-waits T M d l t free h counted chain =
    let grown : Grown (links_of T) (links_of M) d [] =
    Grown-waits (links_of T) (links_of M) d l d h.adds
    (chain-none T (links_of M) d l t h.adds chain) in
    let p : PutRows T M d l d [] =
    PutRows-from T M M d l d [] t h grown (Mid-none M M d (λ q. refl)) counted in
    record {
      forest = IsForest-put T M d l d [] t p;
      links = λ q. sym (links_same (links_of T) (links_of M) d l h.adds q);
      marks = p.marks;
      distinct = tt;
      raised_now = λ q none. absurd (true≢false (sym none));
      no_other = grown.claim;
    }

-- a link that is put in rows which look alike is put in these
pub Puts-seen : (T M N : Rows) (d : Dot) (l : Link) (ys zs : List Dot) → zs ≡ ys → NothingSeen T M
    → Puts M N d l zs → Puts T N d l ys
Puts-seen T M N d l ys zs list seen p =
    let there : LinksWithin (links_of T) (links_of M) = λ q k h. seen.links q ∙ h in
    let back : LinksWithin (links_of M) (links_of T) = λ q k h. sym (seen.links q) ∙ h in
    record {
      forest = p.forest;
      links =
          λ q. p.links q ∙ ap (λ (o : Option Link). cond (dot_eq d q) (Some l) o) (seen.links q);
      marks = λ k. p.marks k ∙ seen.marks k;
      distinct = subst (λ (xs : List Dot). IsDistinct dot_eq xs) list p.distinct;
      raised_now = λ q walked. let r : IsRaised (links_of M) (links_of N) q =
          p.raised_now q (ap (λ (xs : List Dot). has xs q) list ∙ walked) in
          record {
            code = r.code;
            now = r.now;
            before = λ c u. r.before c (IsUnder-within (links_of T) (links_of M) there q c u);
          };
      no_other = λ q c u. elim (p.no_other q c u) [
        | inl walked ↦ inl (sym (ap (λ (xs : List Dot). has xs q) list) ∙ walked)
        | inr before ↦ inr (IsUnder-within (links_of M) (links_of T) back q c before)
      ];
    }
