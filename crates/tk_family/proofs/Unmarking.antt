-- What the rows of a forest keep is kept when a mark is removed. Key results:
--   AlikeButMarks-unmarked, IsCountedAs-unmarked, Unmarks-from
use Rattle.std.proofs.Common.{◌≡◌, ◌≢◌, inl, inr, false, cond, Option, None, Some, ap, sym, ◌∙◌}
use Rattle.std.proofs.Common.{refl}
use Rattle.std.proofs.lemmas.Bool.{cases_Bool, cond-true, cond-false}
use Rattle.tk_handle.specs.declared.dot.Dot.{Dot}
use Rattle.tk_handle.specs.declared.kind.Kind.{Kind}
use Rattle.tk_handle.specs.declared.kind.Kind.TheVariants as kind
use Rattle.tk_handle.specs.declared.token_id.TokenId.{TokenId}
use Rattle.tk_family.specs.declared.row.Row.{Row}
use Rattle.tk_family.specs.Counts.{IsCounted, IsCountedAs, AlikeButCount}
use Rattle.tk_family.specs.Dots.{dot_eq}
use Rattle.tk_family.specs.Kept.{IsForest}
use Rattle.tk_family.specs.Rows.{Rows, link_in, code_in, count_in, first_in, marked_in, used_in}
use Rattle.tk_family.specs.Rows.{again_in, bad_in}
use Rattle.tk_family.specs.Takes.{Unmarks}
use Rattle.tk_family.specs.Writes.{without_mark}
use Rattle.tk_family.proofs.DotLaws.{dot_eq-true, dot_eq-same, dot_eq-apart}
use Rattle.tk_family.proofs.Columns.{column, AlikeButMarks, IsForest-kept}
use Rattle.tk_family.proofs.Marking.{token_is, AlikeButMarks-then, IsCountedAs-at}

-- ---- a mark is removed

-- a row that loses a mark keeps link, code, count and first child
unmarked_cols : (o : Option Row) (k : Kind)
    → (link_in (without_mark o k) ≡ link_in o) × (code_in (without_mark o k) ≡ code_in o)
    × (count_in (without_mark o k) ≡ count_in o) × (first_in (without_mark o k) ≡ first_in o)
unmarked_cols None k = (refl, refl, refl, refl)
unmarked_cols (Some r) kind.Code = (refl, refl, refl, refl)
unmarked_cols (Some r) kind.Access = (refl, refl, refl, refl)
unmarked_cols (Some r) kind.Refresh = (refl, refl, refl, refl)

-- a row that loses a mark keeps its uses
unmarked_flags : (o : Option Row) (k j : Kind)
    → (used_in (without_mark o k) j ≡ used_in o j) × (again_in (without_mark o k) j ≡ again_in o j)
unmarked_flags None k j = (refl, refl)
unmarked_flags (Some r) kind.Code kind.Code = (refl, refl)
unmarked_flags (Some r) kind.Code kind.Access = (refl, refl)
unmarked_flags (Some r) kind.Code kind.Refresh = (refl, refl)
unmarked_flags (Some r) kind.Access kind.Code = (refl, refl)
unmarked_flags (Some r) kind.Access kind.Access = (refl, refl)
unmarked_flags (Some r) kind.Access kind.Refresh = (refl, refl)
unmarked_flags (Some r) kind.Refresh kind.Code = (refl, refl)
unmarked_flags (Some r) kind.Refresh kind.Access = (refl, refl)
unmarked_flags (Some r) kind.Refresh kind.Refresh = (refl, refl)

-- a row that loses a mark doesn't have the mark
unmarked_gone : (o : Option Row) (k : Kind) → marked_in (without_mark o k) k ≡ false
unmarked_gone None k = refl
unmarked_gone (Some r) kind.Code = refl
unmarked_gone (Some r) kind.Access = refl
unmarked_gone (Some r) kind.Refresh = refl

-- a row that loses a mark keeps the others
unmarked_kept : (o : Option Row) (k j : Kind) → j ≢ k
    → marked_in (without_mark o k) j ≡ marked_in o j
unmarked_kept None k j ne = refl
unmarked_kept (Some r) kind.Code kind.Code ne = absurd (ne refl)
unmarked_kept (Some r) kind.Code kind.Access ne = refl
unmarked_kept (Some r) kind.Code kind.Refresh ne = refl
unmarked_kept (Some r) kind.Access kind.Code ne = refl
unmarked_kept (Some r) kind.Access kind.Access ne = absurd (ne refl)
unmarked_kept (Some r) kind.Access kind.Refresh ne = refl
unmarked_kept (Some r) kind.Refresh kind.Code ne = refl
unmarked_kept (Some r) kind.Refresh kind.Access ne = refl
unmarked_kept (Some r) kind.Refresh kind.Refresh ne = absurd (ne refl)

-- the other columns are as they were
pub AlikeButMarks-unmarked : (T S : Rows) (k : TokenId)
    → ((q : Dot) → S q ≡ cond (dot_eq k.dot q) (without_mark (T q) k.kind) (T q))
    → AlikeButMarks T S
AlikeButMarks-unmarked T S k h = record {
  link = λ q. ap link_in (h q)
      ∙ column link_in (dot_eq k.dot q) (without_mark (T q) k.kind) (T q)
      (unmarked_cols (T q) k.kind).0;
  code = λ q. ap code_in (h q)
      ∙ column code_in (dot_eq k.dot q) (without_mark (T q) k.kind) (T q)
      (unmarked_cols (T q) k.kind).1;
  first = λ q. ap first_in (h q)
      ∙ column first_in (dot_eq k.dot q) (without_mark (T q) k.kind) (T q)
      (unmarked_cols (T q) k.kind).3;
  used = λ q j. ap (λ (o : Option Row). used_in o j) (h q)
      ∙ column (λ (o : Option Row). used_in o j) (dot_eq k.dot q) (without_mark (T q) k.kind) (T q)
      (unmarked_flags (T q) k.kind j).0;
  again = λ q j. ap (λ (o : Option Row). again_in o j) (h q)
      ∙ column (λ (o : Option Row). again_in o j) (dot_eq k.dot q) (without_mark (T q) k.kind) (T q)
      (unmarked_flags (T q) k.kind j).1;
}

-- rows without a mark are counted but for the code of its dot
pub IsCountedAs-unmarked : (T S : Rows) (k : TokenId) → IsForest T
    → ((q : Dot) → S q ≡ cond (dot_eq k.dot q) (without_mark (T q) k.kind) (T q))
    → IsCountedAs S k.dot (bad_in (T k.dot))
IsCountedAs-unmarked T S k t h = IsCountedAs-at T S k.dot t.bads (AlikeButMarks-unmarked T S k h)
    (λ q. ap count_in (h q)
    ∙ column count_in (dot_eq k.dot q) (without_mark (T q) k.kind) (T q)
    (unmarked_cols (T q) k.kind).2)
    (λ q ne. h q ∙ cond-false _ _ _ (dot_eq-apart k.dot q ne))

-- rows without a mark, counted anew, are without that mark
pub Unmarks-from : (T S N : Rows) (k : TokenId) → IsForest T
    → ((q : Dot) → S q ≡ cond (dot_eq k.dot q) (without_mark (T q) k.kind) (T q))
    → AlikeButCount S N → IsCounted N → Unmarks T N k
Unmarks-from T S N k t h alike counted =
    let a : AlikeButMarks T N = AlikeButMarks-then T S N (AlikeButMarks-unmarked T S k h) alike in
    record {
      forest = IsForest-kept T N t a counted;
      first = a.first;
      links = a.link;
      gone = alike.marked k.dot k.kind
          ∙ (ap (λ (o : Option Row). marked_in o k.kind)
          (h k.dot ∙ cond-true _ _ _ (dot_eq-same k.dot))
          ∙ unmarked_gone (T k.dot) k.kind);
      others = λ j ne. alike.marked j.dot j.kind ∙ (elim (cases_Bool (dot_eq k.dot j.dot)) [
        | inl same ↦ ap (λ (o : Option Row). marked_in o j.kind) (h j.dot ∙ cond-true _ _ _ same)
            ∙ unmarked_kept (T j.dot) k.kind j.kind
            (λ one. ne (token_is j k (sym (dot_eq-true k.dot j.dot same)) one))
        | inr apart ↦ ap (λ (o : Option Row). marked_in o j.kind) (h j.dot ∙ cond-false _ _ _ apart)
      ]);
    }
