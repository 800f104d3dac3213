-- Marking a token keeps what the rows keep. Key results:
--   token_is      tokens of one dot and one kind are equal
--   code_row      the code that a dot is under has a row
--   MarksOne-from rows with one more mark, counted anew, have that one more mark
--   MarksOne-seen rows that look alike get the same mark
use Rattle.std.proofs.Common.{◌≡◌, ◌≢◌, ◌⊎◌, inl, inr, true, cond, Option, None, Some, ap, sym, ◌∙◌}
use Rattle.std.proofs.Common.{refl, subst, IsSome}
use Rattle.std.proofs.lemmas.Bool.{cases_Bool, cond-true, cond-false}
use Rattle.tk_handle.specs.declared.dot.Dot.{Dot}
use Rattle.tk_handle.specs.declared.kind.Kind.{Kind}
use Rattle.tk_handle.specs.declared.kind.Kind.TheVariants as kind
use Rattle.tk_handle.specs.declared.token_id.TokenId.{TokenId}
use Rattle.tk_family.specs.Laws.{passing}
use Rattle.tk_family.specs.declared.link.Link.{Link}
use Rattle.tk_family.specs.declared.link.Link.TheVariants.{Code}
use Rattle.tk_family.specs.declared.top.Top.TheVariants as top
use Rattle.tk_family.specs.declared.row.Row.{Row}
use Rattle.tk_family.specs.Dots.{dot_eq}
use Rattle.tk_family.specs.Counts.{IsCounted, IsCountedAs, AlikeButCount}
use Rattle.tk_family.specs.Families.{IsUnder}
use Rattle.tk_family.specs.Tops.{IsTop}
use Rattle.tk_family.specs.Rows.{Rows, link_in, code_in, count_in, first_in, marked_in, used_in}
use Rattle.tk_family.specs.Rows.{again_in, bad_in, blamed_in, links_of, marks_of}
use Rattle.tk_family.specs.Kept.{IsForest}
use Rattle.tk_family.specs.Writes.{with_marked}
use Rattle.tk_family.specs.Puts.{MarksOne, NothingSeen}
use Rattle.tk_family.proofs.DotLaws.{dot_eq-true, dot_eq-same, dot_eq-apart}
use Rattle.tk_family.proofs.Columns.{column, AlikeButMarks, IsForest-kept}
use Rattle.tk_family.proofs.Recounting.{IsCountedAs-from}
use Rattle.tk_family.proofs.HungColumns.{RowAt, row_at}
use Rattle.tk_family.proofs.Assembly.{IsPath-code, row_with}

-- a row with one more mark keeps link, code, count and first child
marked_cols : (o : Option Row) (k : Kind)
    → (link_in (with_marked o k) ≡ link_in o) × (code_in (with_marked o k) ≡ code_in o)
    × (count_in (with_marked o k) ≡ count_in o) × (first_in (with_marked o k) ≡ first_in o)
marked_cols None k = (refl, refl, refl, refl)
marked_cols (Some r) kind.Code = (refl, refl, refl, refl)
marked_cols (Some r) kind.Access = (refl, refl, refl, refl)
marked_cols (Some r) kind.Refresh = (refl, refl, refl, refl)

-- a row with one more mark keeps its uses
marked_flags : (o : Option Row) (k j : Kind)
    → (used_in (with_marked o k) j ≡ used_in o j) × (again_in (with_marked o k) j ≡ again_in o j)
marked_flags None k j = (refl, refl)
marked_flags (Some r) kind.Code kind.Code = (refl, refl)
marked_flags (Some r) kind.Code kind.Access = (refl, refl)
marked_flags (Some r) kind.Code kind.Refresh = (refl, refl)
marked_flags (Some r) kind.Access kind.Code = (refl, refl)
marked_flags (Some r) kind.Access kind.Access = (refl, refl)
marked_flags (Some r) kind.Access kind.Refresh = (refl, refl)
marked_flags (Some r) kind.Refresh kind.Code = (refl, refl)
marked_flags (Some r) kind.Refresh kind.Access = (refl, refl)
marked_flags (Some r) kind.Refresh kind.Refresh = (refl, refl)

-- a row that gets a mark has the mark
marked_here : (o : Option Row) (k : Kind) → RowAt o → marked_in (with_marked o k) k ≡ true
marked_here o kind.Code r =
    ap (λ (x : Option Row). marked_in (with_marked x kind.Code) kind.Code) r.is
marked_here o kind.Access r =
    ap (λ (x : Option Row). marked_in (with_marked x kind.Access) kind.Access) r.is
marked_here o kind.Refresh r =
    ap (λ (x : Option Row). marked_in (with_marked x kind.Refresh) kind.Refresh) r.is

-- a mark of a row that got one is the new one, or was there before
marked_new : (o : Option Row) (k j : Kind) → marked_in (with_marked o k) j ≡ true
    → (j ≡ k) ⊎ (marked_in o j ≡ true)
marked_new None k j h = inr h
marked_new (Some r) kind.Code kind.Code h = inl refl
marked_new (Some r) kind.Code kind.Access h = inr h
marked_new (Some r) kind.Code kind.Refresh h = inr h
marked_new (Some r) kind.Access kind.Code h = inr h
marked_new (Some r) kind.Access kind.Access h = inl refl
marked_new (Some r) kind.Access kind.Refresh h = inr h
marked_new (Some r) kind.Refresh kind.Code h = inr h
marked_new (Some r) kind.Refresh kind.Access h = inr h
marked_new (Some r) kind.Refresh kind.Refresh h = inl refl

-- a row that gets a mark keeps those it had
marked_old : (o : Option Row) (k j : Kind) → marked_in o j ≡ true
    → marked_in (with_marked o k) j ≡ true
marked_old None k j h = h
marked_old (Some r) kind.Code kind.Code h = refl
marked_old (Some r) kind.Code kind.Access h = h
marked_old (Some r) kind.Code kind.Refresh h = h
marked_old (Some r) kind.Access kind.Code h = h
marked_old (Some r) kind.Access kind.Access h = refl
marked_old (Some r) kind.Access kind.Refresh h = h
marked_old (Some r) kind.Refresh kind.Code h = h
marked_old (Some r) kind.Refresh kind.Access h = h
marked_old (Some r) kind.Refresh kind.Refresh h = refl

-- tokens of one dot and one kind are equal
pub token_is : (j k : TokenId) → j.dot ≡ k.dot → j.kind ≡ k.kind → j ≡ k
token_is j k d h = ap (λ (x : Dot). record { dot = x; kind = j.kind }) d
    ∙ ap (λ (y : Kind). record { dot = k.dot; kind = y }) h

-- one mark more: the other columns are as they were
pub AlikeButMarks-marked : (T S : Rows) (k : TokenId)
    → ((q : Dot) → S q ≡ cond (dot_eq k.dot q) (with_marked (T q) k.kind) (T q)) → AlikeButMarks T S
AlikeButMarks-marked T S k h = record {
  link = λ q. ap link_in (h q)
      ∙ column link_in (dot_eq k.dot q) (with_marked (T q) k.kind) (T q)
      (marked_cols (T q) k.kind).0;
  code = λ q. ap code_in (h q)
      ∙ column code_in (dot_eq k.dot q) (with_marked (T q) k.kind) (T q)
      (marked_cols (T q) k.kind).1;
  first = λ q. ap first_in (h q)
      ∙ column first_in (dot_eq k.dot q) (with_marked (T q) k.kind) (T q)
      (marked_cols (T q) k.kind).3;
  used = λ q j. ap (λ (o : Option Row). used_in o j) (h q)
      ∙ column (λ (o : Option Row). used_in o j) (dot_eq k.dot q) (with_marked (T q) k.kind) (T q)
      (marked_flags (T q) k.kind j).0;
  again = λ q j. ap (λ (o : Option Row). again_in o j) (h q)
      ∙ column (λ (o : Option Row). again_in o j) (dot_eq k.dot q) (with_marked (T q) k.kind) (T q)
      (marked_flags (T q) k.kind j).1;
}

-- if the rows at other dots are the same, the counts are those with this dot as it was
pub IsCountedAs-at : (T S : Rows) (at : Dot) → IsCounted T → AlikeButMarks T S
    → ((q : Dot) → count_in (S q) ≡ count_in (T q)) → ((q : Dot) → at ≢ q → S q ≡ T q)
    → IsCountedAs S at (bad_in (T at))
IsCountedAs-at T S at x a count others =
    IsCountedAs-from T S at x a.code count (λ q ne. ap blamed_in (others q (λ same. ne (sym same))))

-- rows with one more mark are counted but for the code of its dot
pub IsCountedAs-marked : (T S : Rows) (k : TokenId) → IsForest T
    → ((q : Dot) → S q ≡ cond (dot_eq k.dot q) (with_marked (T q) k.kind) (T q))
    → IsCountedAs S k.dot (bad_in (T k.dot))
IsCountedAs-marked T S k t h = IsCountedAs-at T S k.dot t.bads (AlikeButMarks-marked T S k h)
    (λ q. ap count_in (h q)
    ∙ column count_in (dot_eq k.dot q) (with_marked (T q) k.kind) (T q)
    (marked_cols (T q) k.kind).2)
    (λ q ne. h q ∙ cond-false _ _ _ (dot_eq-apart k.dot q ne))

-- the code that a dot is under has a row
pub code_row : (T S : Rows) (q c : Dot) → IsForest T → AlikeButMarks T S → code_in (S q) ≡ Some c
    → IsSome (S c)
code_row T S q c t a h =
    let u : IsUnder (links_of T) q c = t.under q c (sym (a.code q) ∙ h) in
    let r : RowAt (S c) =
    row_with (S c) Code (a.link c ∙ IsPath-code (links_of T) q u.path c u.leads) in
    subst (λ (o : Option Row). IsSome o) (sym r.is) refl

-- rows that differ in marks, and then in counts, differ in marks and counts
pub AlikeButMarks-then : (T S N : Rows) → AlikeButMarks T S → AlikeButCount S N → AlikeButMarks T N
AlikeButMarks-then T S N a b = record {
  link = λ q. b.link q ∙ a.link q;
  code = λ q. b.code q ∙ a.code q;
  first = λ q. b.first q ∙ a.first q;
  used = λ q j. b.used q j ∙ a.used q j;
  again = λ q j. b.again q j ∙ a.again q j;
}

-- rows with one more mark, counted anew, have that one more mark
pub MarksOne-from : (T S N : Rows) (k : TokenId) → IsForest T → IsSome (T k.dot)
    → ((q : Dot) → S q ≡ cond (dot_eq k.dot q) (with_marked (T q) k.kind) (T q)) → AlikeButCount S N
    → IsCounted N → MarksOne T N k
MarksOne-from T S N k t present marks alike counted =
    let a : AlikeButMarks T N = AlikeButMarks-then T S N (AlikeButMarks-marked T S k marks) alike in
    let here : S k.dot ≡ with_marked (T k.dot) k.kind =
    marks k.dot ∙ cond-true _ _ _ (dot_eq-same k.dot) in
    record {
      forest = IsForest-kept T N t a counted;
      first = a.first;
      links = a.link;
      here = alike.marked k.dot k.kind
          ∙ (ap (λ (o : Option Row). marked_in o k.kind) here
          ∙ marked_here (T k.dot) k.kind (row_at (T k.dot) present));
      old = λ j h. alike.marked j.dot j.kind
          ∙ (ap (λ (o : Option Row). marked_in o j.kind) (marks j.dot)
          ∙ (elim (cases_Bool (dot_eq k.dot j.dot)) [
            | inl same ↦ ap (λ (o : Option Row). marked_in o j.kind)
                (cond-true (dot_eq k.dot j.dot) (with_marked (T j.dot) k.kind) (T j.dot) same)
                ∙ marked_old (T j.dot) k.kind j.kind h
            | inr apart ↦ ap (λ (o : Option Row). marked_in o j.kind)
                (cond-false (dot_eq k.dot j.dot) (with_marked (T j.dot) k.kind) (T j.dot) apart)
                ∙ h
          ]));
      new = λ j h.
          let in_S : marked_in (S j.dot) j.kind ≡ true = sym (alike.marked j.dot j.kind) ∙ h in
          elim (cases_Bool (dot_eq k.dot j.dot)) [
            | inl same ↦ elim (marked_new (T j.dot) k.kind j.kind
                (sym (ap (λ (o : Option Row). marked_in o j.kind)
                (marks j.dot ∙ cond-true _ _ _ same))
                ∙ in_S)) [
                  | inl one ↦ inl (token_is j k (sym (dot_eq-true k.dot j.dot same)) one)
                  | inr old ↦ inr old
                ]
            | inr apart ↦ inr
                (sym (ap (λ (o : Option Row). marked_in o j.kind)
                (marks j.dot ∙ cond-false _ _ _ apart))
                ∙ in_S)
          ];
    }

-- rows that look alike get the same mark
pub MarksOne-seen : (T M N : Rows) (k : TokenId) → NothingSeen T M → MarksOne M N k → MarksOne T N k
MarksOne-seen T M N k seen p = record {
  forest = p.forest;
  first = λ q. p.first q ∙ seen.first q;
  links = λ q. p.links q ∙ seen.links q;
  here = p.here;
  old = λ j h. p.old j (seen.marks j ∙ h);
  new = λ j h. elim (p.new j h) [ inl same ↦ inl same | inr was ↦ inr (sym (seen.marks j) ∙ was) ];
}

-- ---- look-ups

-- a dot with a link and without a code in its row is broken
pub top-broken : (T : Rows) (q : Dot) (l : Link) → IsForest T → link_in (T q) ≡ Some l
    → code_in (T q) ≡ None → IsTop (links_of T) (passing (marks_of T)) q top.Broken
top-broken T q l t at none = (
  λ clash. (let e : Some l ≡ None = sym at ∙ clash in cc),
  λ c u. (let e : Some c ≡ None = sym (t.memo q c u) ∙ none in cc),
)
