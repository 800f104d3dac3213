-- What the rows of a forest keep is kept when a link is removed. Key results:
--   codes_below          the codes of what hangs below the dot
--   Ready, Ready-whole   the rows after the codes below were cleared
--   Takes-from           a link is removed; `Takes-seen` with blank rows
use Rattle.std.proofs.Common.{◌≡◌, ◌≢◌, inl, inr, ℕ, ◌-◌, Bool, true, false, cond, Option, None}
use Rattle.std.proofs.Common.{Some, List, [], ap, sym, ◌∙◌, refl}
use Rattle.std.proofs.lemmas.Bool.{true≢false, cases_Bool, cond-true, cond-false}
use Rattle.std.proofs.lemmas.Bool.{false_from_ne_true}
use Rattle.std.specs.List.{IsDistinct}
use Rattle.tk_handle.specs.declared.dot.Dot.{Dot}
use Rattle.tk_handle.specs.declared.kind.Kind.{Kind}
use Rattle.tk_handle.specs.declared.kind.Kind.TheVariants as kind
use Rattle.tk_family.specs.declared.link.Link.{Link}
use Rattle.tk_family.specs.declared.link.Link.TheVariants.{Code}
use Rattle.tk_family.specs.declared.row.Row.{Row}
use Rattle.tk_family.specs.Counts.{IsCount, IsCounted, AlikeButCount}
use Rattle.tk_family.specs.Dots.{dot_eq, has}
use Rattle.tk_family.specs.Families.{Links, IsUnder, LinksWithin}
use Rattle.tk_family.specs.Kept.{IsForest}
use Rattle.tk_family.specs.Puts.{with_link, Gathers, NothingSeen}
use Rattle.tk_family.specs.Rows.{Rows, link_in, code_in, count_in, first_in, marked_in, used_in}
use Rattle.tk_family.specs.Rows.{again_in, blamed_in, links_of, marks_of}
use Rattle.tk_family.specs.Takes.{without, HasUses, Unlinks, Clears, Takes}
use Rattle.tk_family.specs.Writes.{without_code, bads, unsettled, cleared}
use Rattle.tk_family.proofs.DotLaws.{dot_eq-same, dot_eq-apart, cases_dots}
use Rattle.tk_family.proofs.Adding.{Adds, Within-adds, IsPath-here}
use Rattle.tk_family.proofs.FamilyLaws.{IsParent-within, IsUnder-within}
use Rattle.tk_family.proofs.Growth.{Grown, Grown-walk, Grown-waits}
use Rattle.tk_family.proofs.Columns.{column}
use Rattle.tk_family.proofs.Counting.{bad-same, blamed-parts}
use Rattle.tk_family.proofs.Recounting.{IsCounted-cleared}
use Rattle.tk_family.proofs.Putting.{AlikeButCount-count, count-here, count-other}
use Rattle.tk_family.proofs.HungColumns.{RowAt}
use Rattle.tk_family.proofs.Assembly.{trail_under, trail_free, IsPath-code, row_with}
use Rattle.tk_family.proofs.Gathering.{with_link-here, with_link-other}
use Rattle.tk_family.proofs.HangLaws.{without-here}
use Rattle.tk_family.proofs.Unhanging.{Adds-without, HasUses-kept, HasUses-forest}

-- ---- what hangs below the dot

-- the link brought ys under c0, and without the link they are under no code
pub record Below (f g : Links) (c0 : Dot) (ys : List Dot) : Type 0 where
  pub grown : Grown f g c0 ys
  pub free : (q : Dot) → has ys q ≡ true → (c : Dot) → ¬ IsUnder f q c

-- links with a link put that is there already are the same links
link_again : (f : Links) (d : Dot) (l : Link) → f d ≡ Some l → (q : Dot) → with_link f d l q ≡ f q
link_again f d l at q = elim (cases_dots q d) [
  | inl same ↦ ap (with_link f d l) same ∙ (with_link-here f d l ∙ (sym at ∙ ap f (sym same)))
  | inr ne ↦ with_link-other f d l q ne
]

-- what was gathered below a dot under a code is what leaves the code with it
pub Below-whole : (T : Rows) (d : Dot) (l : Link) (c0 : Dot) (ys : List Dot) → IsForest T
    → links_of T d ≡ Some l → code_in (T d) ≡ Some c0 → Gathers (links_of T) d l ys
    → Below (without (links_of T) d) (links_of T) c0 ys
Below-whole T d l c0 ys t here code got =
    let f : Links = without (links_of T) d in
    let g : Links = links_of T in
    let a : Adds f g d l = Adds-without g d l here in
    let there : LinksWithin (with_link g d l) g = λ q k h. sym (link_again g d l here q) ∙ h in
    let back : LinksWithin g (with_link g d l) = λ q k h. link_again g d l here q ∙ h in
    let up : LinksWithin f (with_link g d l) = λ q k h. back q k (Within-adds f g d l a q k h) in
    let u : IsUnder (with_link g d l) d c0 =
    IsUnder-within g (with_link g d l) back d c0 (t.under d c0 code) in
    record {
      grown = Grown-walk f g d l c0 ys a got.root
          (λ x e walked par.
          got.closed x e walked (IsParent-within g (with_link g d l) back e x par))
          (λ q walked.
          IsUnder-within (with_link g d l) g there q c0
          (trail_under (with_link g d l) q d (got.below q walked).path c0 (got.below q walked).leads
          u));
      free = λ q walked c below. trail_free f (with_link g d l) q d (got.below q walked).path up
          (without-here g d) (got.below q walked).leads c below.path below.leads;
    }

-- nothing leaves a code with a dot that is under none
pub Below-none : (T : Rows) (d : Dot) (l : Link) → IsForest T → links_of T d ≡ Some l
    → code_in (T d) ≡ None → Below (without (links_of T) d) (links_of T) d []
Below-none T d l t here none = record {
  grown = Grown-waits (without (links_of T) d) (links_of T) d l d
      (Adds-without (links_of T) d l here)
      (λ c under. (let clash : Some c ≡ None = sym (t.memo d c under) ∙ none in cc));
  free = λ q h. absurd (true≢false (sym h));
}

-- what was gathered below a dot is under the dot's code
pub codes_below : (T : Rows) (d : Dot) (l : Link) (c0 : Dot) (ys : List Dot) → IsForest T
    → links_of T d ≡ Some l → code_in (T d) ≡ Some c0 → Gathers (links_of T) d l ys → (q : Dot)
    → has ys q ≡ true → code_in (T q) ≡ Some c0
codes_below T d l c0 ys t here code got q walked =
    t.memo q c0 ((Below-whole T d l c0 ys t here code got).grown.sound q walked)

-- ---- the codes below are cleared

-- A is T without the codes of ys, and perhaps with other counts
pub record Cleared (T A : Rows) (ys : List Dot) : Type 0 where
  pub link : (q : Dot) → link_in (A q) ≡ link_in (T q)
  pub code : (q : Dot) → code_in (A q) ≡ cond (has ys q) None (code_in (T q))
  pub first : (q : Dot) → first_in (A q) ≡ first_in (T q)
  pub marked : (q : Dot) (k : Kind) → marked_in (A q) k ≡ marked_in (T q) k
  pub used : (q : Dot) (k : Kind) → used_in (A q) k ≡ used_in (T q) k
  pub again : (q : Dot) (k : Kind) → again_in (A q) k ≡ again_in (T q) k

-- a row that loses its code has none, and keeps link, count and first child
uncoded_cols : (o : Option Row)
    → (link_in (without_code o) ≡ link_in o) × (code_in (without_code o) ≡ None)
    × (count_in (without_code o) ≡ count_in o) × (first_in (without_code o) ≡ first_in o)
uncoded_cols None = (refl, refl, refl, refl)
uncoded_cols (Some r) = (refl, refl, refl, refl)

-- a row that loses its code keeps marks and uses
uncoded_flags : (o : Option Row) (k : Kind)
    → (marked_in (without_code o) k ≡ marked_in o k) × (used_in (without_code o) k ≡ used_in o k)
    × (again_in (without_code o) k ≡ again_in o k)
uncoded_flags None k = (refl, refl, refl)
uncoded_flags (Some r) kind.Code = (refl, refl, refl)
uncoded_flags (Some r) kind.Access = (refl, refl, refl)
uncoded_flags (Some r) kind.Refresh = (refl, refl, refl)

-- rows that lose their code at each dot of a list are cleared there
Cleared-unsettled : (T : Rows) (ys : List Dot) → Cleared T (unsettled T ys) ys
Cleared-unsettled T ys = record {
  link = λ q. column link_in (has ys q) (without_code (T q)) (T q) (uncoded_cols (T q)).0;
  code = λ q. elim (cases_Bool (has ys q)) [
    | inl walked ↦ ap code_in (cond-true (has ys q) (without_code (T q)) (T q) walked)
        ∙ ((uncoded_cols (T q)).1 ∙ sym (cond-true (has ys q) None (code_in (T q)) walked))
    | inr passed ↦ ap code_in (cond-false (has ys q) (without_code (T q)) (T q) passed)
        ∙ sym (cond-false (has ys q) None (code_in (T q)) passed)
  ];
  first = λ q. column first_in (has ys q) (without_code (T q)) (T q) (uncoded_cols (T q)).3;
  marked = λ q k. column (λ (o : Option Row). marked_in o k) (has ys q) (without_code (T q)) (T q)
      (uncoded_flags (T q) k).0;
  used = λ q k. column (λ (o : Option Row). used_in o k) (has ys q) (without_code (T q)) (T q)
      (uncoded_flags (T q) k).1;
  again = λ q k. column (λ (o : Option Row). again_in o k) (has ys q) (without_code (T q)) (T q)
      (uncoded_flags (T q) k).2;
}

-- cleared rows are cleared still if counts change
Cleared-alike : (T S A : Rows) (ys : List Dot) → Cleared T S ys → AlikeButCount S A → Cleared T A ys
Cleared-alike T S A ys x a = record {
  link = λ q. a.link q ∙ x.link q;
  code = λ q. a.code q ∙ x.code q;
  first = λ q. a.first q ∙ x.first q;
  marked = λ q k. a.marked q k ∙ x.marked q k;
  used = λ q k. a.used q k ∙ x.used q k;
  again = λ q k. a.again q k ∙ x.again q k;
}

-- rows whose codes were cleared have none at the dots of the list
pub Cleared-from : (T A : Rows) (c0 : Dot) (ys : List Dot) → ((q : Dot) → A q ≡ cleared T ys c0 q)
    → Cleared T A ys
Cleared-from T A c0 ys h = Cleared-alike T (unsettled T ys) A ys (Cleared-unsettled T ys)
    (AlikeButCount-count (unsettled T ys) A c0 (count_in (T c0) - bads T ys) h)

-- rows that are as before have no codes cleared
pub Cleared-none : (T : Rows) → Cleared T T []
Cleared-none T = record {
  link = λ q. refl;
  code = λ q. refl;
  first = λ q. refl;
  marked = λ q k. refl;
  used = λ q k. refl;
  again = λ q k. refl;
}

-- a row is a row still if it loses its code
uncoded_row : (o : Option Row) (b : Bool) → RowAt o → RowAt (cond b (without_code o) o)
uncoded_row o true r = record { row = record r.row { code = None }; is = ap without_code r.is }
uncoded_row o false r = r

-- the code counts the dots that are under it still
pub IsCounted-clear : (T A : Rows) (d : Dot) (l : Link) (c0 : Dot) → IsForest T
    → links_of T d ≡ Some l → code_in (T d) ≡ Some c0 → Clears T A d l c0 → IsCounted A
IsCounted-clear T A d l c0 t here code x =
    let ys : List Dot = x.list in
    let S : Rows = unsettled T ys in
    let n : ℕ = count_in (T c0) - bads T ys in
    let k : Cleared T A ys = Cleared-from T A c0 ys x.rows in
    let u : IsUnder (links_of T) d c0 = t.under d c0 code in
    let row : RowAt (S c0) = uncoded_row (T c0) (has ys c0)
    (row_with (T c0) Code (IsPath-code (links_of T) d u.path c0 u.leads)) in
    IsCounted-cleared T A c0 ys t.bads x.got.distinct (codes_below T d l c0 ys t here code x.got)
    (λ q. bad-same (T q) (A q) (k.link q) (k.marked q) (k.again q)) k.code
    (count-here S A c0 n row x.rows)
    (λ c ne. count-other S A c0 n x.rows c ne
    ∙ column count_in (has ys c) (without_code (T c)) (T c) (uncoded_cols (T c)).2)

-- the uses are as they were
pub HasUses-cleared : (T A : Rows) (ys : List Dot) → IsForest T → Cleared T A ys
    → HasUses (links_of A) A
HasUses-cleared T A ys t x = HasUses-kept (links_of T) (links_of A) T A (HasUses-forest T t)
    (λ q. sym (x.link q)) (λ k. x.used k.dot k.kind) (λ k. x.again k.dot k.kind)

-- a choice of none or an option is a dot only if the test fails and the option is the dot
none_passes : (b : Bool) (o : Option Dot) (c : Dot) → cond b None o ≡ Some c
    → (b ≡ false) × (o ≡ Some c)
none_passes true o c h = absurd (let clash : None ≡ Some c = h in cc)
none_passes false o c h = (refl, h)

-- a code that a row has is a code
pub codes_links : (T A : Rows) (ys : List Dot) → IsForest T → Cleared T A ys → (q c : Dot)
    → code_in (A q) ≡ Some c → links_of A c ≡ Some Code
codes_links T A ys t x q c h =
    let u : IsUnder (links_of T) q c =
    t.under q c (none_passes (has ys q) (code_in (T q)) c (sym (x.code q) ∙ h)).1 in
    x.link c ∙ IsPath-code (links_of T) q u.path c u.leads

-- ---- a link is removed

-- a forest without a link that was taken is a forest
pub IsForest-take : (T A N : Rows) (d : Dot) (l : Link) (c0 : Dot) (ys : List Dot) → IsForest T
    → links_of T d ≡ Some l → Below (without (links_of T) d) (links_of T) c0 ys → Cleared T A ys
    → Unlinks A N d → ((c : Dot) → c ≢ d → IsCount (λ q. blamed_in (N q)) c (count_in (N c)))
    → IsForest N
unfolding IsDistinct
IsForest-take T A N d l c0 ys t here b x u counted =
    let f : Links = without (links_of T) d in
    let links : (q : Dot) → links_of N q ≡ f q =
    λ q. u.links q ∙ ap (λ (o : Option Link). cond (dot_eq d q) None o) (x.link q) in
    let to_N : LinksWithin f (links_of N) = λ q k h. links q ∙ h in
    let from_N : LinksWithin (links_of N) f = λ q k h. sym (links q) ∙ h in
    let w : LinksWithin f (links_of T) =
    Within-adds f (links_of T) d l (Adds-without (links_of T) d l here) in
    let gone : links_of N d ≡ None = links d ∙ without-here (links_of T) d in
    let under : (q c : Dot) → code_in (N q) ≡ Some c → IsUnder (links_of N) q c = λ q c h.
    let ne : q ≢ d = λ same. (let clash : None ≡ Some c =
    sym (ap (λ (y : Dot). code_in (N y)) same ∙ u.code_here) ∙ h in cc) in
    let said : (has ys q ≡ false) × (code_in (T q) ≡ Some c) =
    none_passes (has ys q) (code_in (T q)) c (sym (x.code q) ∙ (sym (u.code q ne) ∙ h)) in
    elim (b.grown.claim q c (t.under q c said.1)) [
      | inl walked ↦ absurd (true≢false (sym walked ∙ said.0))
      | inr still ↦ IsUnder-within f (links_of N) to_N q c still
    ] in
    record {
      under = under;
      memo = λ q c h.
          let in_f : IsUnder f q c = IsUnder-within (links_of N) f from_N q c h in
          let ne : q ≢ d = λ same.
          IsPath-here f q in_f.path c in_f.leads (ap f same ∙ without-here (links_of T) d) in
          let passed : has ys q ≡ false =
          false_from_ne_true (has ys q) (λ walked. b.free q walked c in_f) in
          u.code q ne ∙ (x.code q
          ∙ (cond-false (has ys q) None (code_in (T q)) passed
          ∙ t.memo q c (IsUnder-within f (links_of T) w q c in_f)));
      bads = λ c. elim (cases_dots c d) [
        | inl same ↦ record {
          list = [];
          sound = λ q h. absurd (true≢false (sym h));
          all = λ q h.
              let v : IsUnder (links_of N) q c = under q c (blamed-parts (N q) c h).1 in
              absurd (let clash : None ≡ Some Code =
              sym (ap (links_of N) same ∙ gone) ∙ IsPath-code (links_of N) q v.path c v.leads in
              cc);
          distinct = tt;
          count = ap (λ (y : Dot). count_in (N y)) same ∙ u.count_here;
        }
        | inr ne ↦ counted c ne
      ];
      used = u.uses.used;
      uses = u.uses.uses;
      again = u.uses.again;
      twice = u.uses.twice;
    }

-- a link whose descendants lost their code, and which was unlinked, is taken
pub Takes-from : (T A N : Rows) (d : Dot) (l : Link) (c0 : Dot) (ys : List Dot) → IsForest T
    → links_of T d ≡ Some l → Below (without (links_of T) d) (links_of T) c0 ys → Cleared T A ys
    → Unlinks A N d → ((c : Dot) → c ≢ d → IsCount (λ q. blamed_in (N q)) c (count_in (N c)))
    → Takes T N d
Takes-from T A N d l c0 ys t here b x u counted = record {
  forest = IsForest-take T A N d l c0 ys t here b x u counted;
  links = λ q. u.links q ∙ ap (λ (o : Option Link). cond (dot_eq d q) None o) (x.link q);
  marks = λ k. elim (cases_dots k.dot d) [
    | inl same ↦ ap (λ (y : Dot). marked_in (N y) k.kind) same
        ∙ (u.marked_here k.kind
        ∙ sym (cond-true (dot_eq d k.dot) false (marks_of T k)
        (ap (dot_eq d) same ∙ dot_eq-same d)))
    | inr ne ↦ u.marked k.dot k.kind ne
        ∙ (x.marked k.dot k.kind
        ∙ sym (cond-false (dot_eq d k.dot) false (marks_of T k)
        (dot_eq-apart d k.dot (λ same. ne (sym same)))))
  ];
}

-- if d was under a code, A is T without the codes of d and of what hangs below it; otherwise A is T
pub record Ready (T A : Rows) (d : Dot) (l : Link) : Type 0 where
  pub code : Dot
  pub list : List Dot
  pub below : Below (without (links_of T) d) (links_of T) code list
  pub cleared : Cleared T A list
  pub counted : IsCounted A

-- a link under a code is ready to be unlinked once its descendants lost their code
pub Ready-whole : (T A : Rows) (d : Dot) (l : Link) (c0 : Dot) → IsForest T → links_of T d ≡ Some l
    → code_in (T d) ≡ Some c0 → Clears T A d l c0 → Ready T A d l
Ready-whole T A d l c0 t here code x = record {
  code = c0;
  list = x.list;
  below = Below-whole T d l c0 x.list t here code x.got;
  cleared = Cleared-from T A c0 x.list x.rows;
  counted = IsCounted-clear T A d l c0 t here code x;
}

-- a link under no code is ready to be unlinked
pub Ready-none : (T : Rows) (d : Dot) (l : Link) → IsForest T → links_of T d ≡ Some l
    → code_in (T d) ≡ None → Ready T T d l
Ready-none T d l t here code = record {
  code = d;
  list = [];
  below = Below-none T d l t here code;
  cleared = Cleared-none T;
  counted = t.bads;
}

-- a link is taken from rows that look alike afterwards
pub Takes-seen : (T M N : Rows) (d : Dot) → Takes T M d → NothingSeen M N → Takes T N d
Takes-seen T M N d x seen = record {
  forest = seen.forest;
  links = λ q. seen.links q ∙ x.links q;
  marks = λ k. seen.marks k ∙ x.marks k;
}
