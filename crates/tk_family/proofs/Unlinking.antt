-- The link at a dot is gone: the uses and counts without the link. Key results:
--   Loose, Loose-from, Loose-code  the columns once a dot is no child any more
--   Unlinks-from                   a loose link that is taken out of its row is unlinked
--   Hangs-unlinked                 the children are those without the dot
use Rattle.std.proofs.Common.{◌≡◌, ◌≢◌, inl, inr, false, cond, Option, None, Some, ap, sym, ◌∙◌}
use Rattle.std.proofs.Common.{refl}
use Rattle.std.proofs.lemmas.Bool.{cond-true, cond-false}
use Rattle.tk_handle.specs.declared.dot.Dot.{Dot}
use Rattle.tk_handle.specs.declared.kind.Kind.{Kind}
use Rattle.tk_handle.specs.declared.kind.Kind.TheVariants as kind
use Rattle.tk_handle.specs.declared.token_id.TokenId.{TokenId}
use Rattle.tk_family.specs.declared.link.Link.TheVariants.{Code}
use Rattle.tk_family.specs.declared.row.Row.{Row}
use Rattle.tk_family.specs.Children.{Others, token_at}
use Rattle.tk_family.specs.Dots.{dot_eq}
use Rattle.tk_family.specs.Families.{Links}
use Rattle.tk_family.specs.Counts.{IsCount, IsCounted, IsCountedAs, AlikeButCount}
use Rattle.tk_family.specs.Kept.{Hangs}
use Rattle.tk_family.specs.Rows.{Rows, link_in, code_in, count_in, first_in, marked_in, used_in}
use Rattle.tk_family.specs.Rows.{again_in, bad_in, blamed_in, links_of, firsts_of}
use Rattle.tk_family.specs.Takes.{without, HasUses, KeptBut, Unlinks}
use Rattle.tk_family.specs.Writes.{without_link}
use Rattle.tk_family.proofs.DotLaws.{dot_eq-same, dot_eq-apart, cases_dots}
use Rattle.tk_family.proofs.Columns.{column}
use Rattle.tk_family.proofs.Counting.{IsCount-is, IsCount-alike, bad-same, blamed-same, blamed-none}
use Rattle.tk_family.proofs.Recounting.{IsCountedAs-from}
use Rattle.tk_family.proofs.HangLaws.{without-here, without-other, Hangs-same}
use Rattle.tk_family.proofs.Unhanging.{HasUses-kept, HasUses-code}

-- ---- the link is gone

-- each column is as it was, except that the uses are those without d
pub record Loose (T M : Rows) (d : Dot) : Type 0 where
  pub link : (q : Dot) → link_in (M q) ≡ link_in (T q)
  pub code : (q : Dot) → code_in (M q) ≡ code_in (T q)
  pub marked : (q : Dot) (k : Kind) → marked_in (M q) k ≡ marked_in (T q) k
  pub uses : HasUses (without (links_of T) d) M

-- a code names no dot
pub Loose-code : (T : Rows) (d : Dot) → HasUses (links_of T) T → links_of T d ≡ Some Code
    → Loose T T d
Loose-code T d known here = record {
  link = λ q. refl;
  code = λ q. refl;
  marked = λ q k. refl;
  uses = HasUses-code (links_of T) T d here known;
}

-- a dot is no child any more, and some code has another count
pub Loose-from : (T M N : Rows) (d : Dot) (t : TokenId) → KeptBut T M t
    → HasUses (without (links_of T) d) M → AlikeButCount M N → Loose T N d
Loose-from T M N d t kept known a = record {
  link = λ q. a.link q ∙ kept.link q;
  code = λ q. a.code q ∙ kept.code q;
  marked = λ q k. a.marked q k ∙ kept.marked q k;
  uses = HasUses-kept (without (links_of T) d) (without (links_of T) d) M N known (λ q. refl)
      (λ k. a.used k.dot k.kind) (λ k. a.again k.dot k.kind);
}

-- ---- the row has no link

-- a row that loses its link loses code and count too, and keeps its first child
bare_cols : (o : Option Row)
    → (link_in (without_link o) ≡ None) × (code_in (without_link o) ≡ None)
    × (count_in (without_link o) ≡ 0) × (first_in (without_link o) ≡ first_in o)
bare_cols None = (refl, refl, refl, refl)
bare_cols (Some r) = (refl, refl, refl, refl)

-- a row that loses its link loses its marks too, and keeps its uses
bare_flags : (o : Option Row) (k : Kind)
    → (marked_in (without_link o) k ≡ false) × (used_in (without_link o) k ≡ used_in o k)
    × (again_in (without_link o) k ≡ again_in o k)
bare_flags None k = (refl, refl, refl)
bare_flags (Some r) kind.Code = (refl, refl, refl)
bare_flags (Some r) kind.Access = (refl, refl, refl)
bare_flags (Some r) kind.Refresh = (refl, refl, refl)

-- the counts are those with t's dot as it was, since no other dot has other uses
pub IsCountedAs-unhangs : (T M : Rows) (t : TokenId) → IsCounted T → KeptBut T M t
    → IsCountedAs M t.dot (bad_in (T t.dot))
IsCountedAs-unhangs T M t x k = IsCountedAs-from T M t.dot x k.code k.count
    (λ q ne. blamed-same (T q) (M q)
    (bad-same (T q) (M q) (k.link q) (k.marked q)
    (λ j. k.again (token_at q j) (λ same. ne (ap (λ (i : TokenId). i.dot) same)))) (k.code q))

-- a row that loses its link blames no code
bare_blamed : (o : Option Row) → blamed_in (without_link o) ≡ None
bare_blamed o = blamed-none (without_link o) (bare_cols o).1

-- the counts of all other codes stay, if the dot was under none
pub IsCount-bare : (M N : Rows) (d : Dot) → IsCounted M → code_in (M d) ≡ None
    → ((q : Dot) → N q ≡ cond (dot_eq d q) (without_link (M q)) (M q)) → (c : Dot) → c ≢ d
    → IsCount (λ q. blamed_in (N q)) c (count_in (N c))
IsCount-bare M N d x none h c ne =
    let same : (q : Dot) → blamed_in (N q) ≡ blamed_in (M q) = λ q. elim (cases_dots q d) [
      | inl one ↦ ap blamed_in (h q ∙ cond-true _ _ _ (ap (dot_eq d) one ∙ dot_eq-same d))
          ∙ (bare_blamed (M q)
          ∙ sym (blamed-none (M q) (ap (λ (y : Dot). code_in (M y)) one ∙ none)))
      | inr apart ↦ ap blamed_in (h q ∙ cond-false _ _ _ (dot_eq-apart d q (λ e. apart (sym e))))
    ] in
    let count : count_in (N c) ≡ count_in (M c) =
    ap count_in (h c ∙ cond-false _ _ _ (dot_eq-apart d c (λ e. ne (sym e)))) in
    IsCount-is (λ q. blamed_in (N q)) c (count_in (M c)) (count_in (N c)) count
    (IsCount-alike (λ q. blamed_in (M q)) (λ q. blamed_in (N q)) c (count_in (M c))
    (λ q g. same q ∙ g) (λ q g. sym (same q) ∙ g) (x c))

-- a loose link that is taken out of its row is unlinked
pub Unlinks-from : (T M N : Rows) (d : Dot) → Loose T M d
    → ((q : Dot) → N q ≡ cond (dot_eq d q) (without_link (M q)) (M q)) → Unlinks T N d
Unlinks-from T M N d x h =
    let f : Links = without (links_of T) d in
    let here : N d ≡ without_link (M d) = h d ∙ cond-true _ _ _ (dot_eq-same d) in
    let other : (q : Dot) → q ≢ d → N q ≡ M q =
    λ q ne. h q ∙ cond-false _ _ _ (dot_eq-apart d q (λ same. ne (sym same))) in
    let links : (q : Dot) → links_of N q ≡ f q = λ q. elim (cases_dots q d) [
      | inl same ↦ ap (links_of N) same
          ∙ (ap link_in here
          ∙ ((bare_cols (M d)).0 ∙ (sym (without-here (links_of T) d) ∙ ap f (sym same))))
      | inr ne ↦ ap link_in (other q ne) ∙ (x.link q ∙ sym (without-other (links_of T) d q ne))
    ] in
    let used : (q : Dot) (k : Kind) → used_in (N q) k ≡ used_in (M q) k =
    λ q k. ap (λ (o : Option Row). used_in o k) (h q)
    ∙ column (λ (o : Option Row). used_in o k) (dot_eq d q) (without_link (M q)) (M q)
    (bare_flags (M q) k).1 in
    let again : (q : Dot) (k : Kind) → again_in (N q) k ≡ again_in (M q) k =
    λ q k. ap (λ (o : Option Row). again_in o k) (h q)
    ∙ column (λ (o : Option Row). again_in o k) (dot_eq d q) (without_link (M q)) (M q)
    (bare_flags (M q) k).2 in
    record {
      links = links;
      code_here = ap code_in here ∙ (bare_cols (M d)).1;
      code = λ q ne. ap code_in (other q ne) ∙ x.code q;
      count_here = ap count_in here ∙ (bare_cols (M d)).2;
      marked_here = λ k. ap (λ (o : Option Row). marked_in o k) here ∙ (bare_flags (M d) k).0;
      marked = λ q k ne. ap (λ (o : Option Row). marked_in o k) (other q ne) ∙ x.marked q k;
      uses = HasUses-kept f (links_of N) M N x.uses (λ q. sym (links q)) (λ k. used k.dot k.kind)
          (λ k. again k.dot k.kind);
    }

-- the first children are as they were
pub firsts-bare : (M N : Rows) (d : Dot)
    → ((q : Dot) → N q ≡ cond (dot_eq d q) (without_link (M q)) (M q)) → (q : Dot)
    → firsts_of N q ≡ firsts_of M q
firsts-bare M N d h q =
    ap first_in (h q) ∙ column first_in (dot_eq d q) (without_link (M q)) (M q) (bare_cols (M q)).3

-- the children are those without d
pub Hangs-unlinked : (T M R N : Rows) (E : Others) (d : Dot)
    → Hangs (without (links_of T) d) (firsts_of M) E → ((q : Dot) → firsts_of R q ≡ firsts_of M q)
    → ((q : Dot) → N q ≡ cond (dot_eq d q) (without_link (R q)) (R q)) → Unlinks T N d
    → Hangs (links_of N) (firsts_of N) E
Hangs-unlinked T M R N E d h firsts rows x =
    Hangs-same (without (links_of T) d) (links_of N) (firsts_of M) (firsts_of N) E E x.links
    (λ q. firsts-bare R N d rows q ∙ firsts q) (λ k e. refl) h
