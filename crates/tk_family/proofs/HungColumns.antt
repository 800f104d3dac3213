-- The columns of the rows after a link is hung. Key results:
--   RowAt, row_at             there is a row
--   HungCols, hung-cols-all   each column after a link that names a token was hung
use Rattle.std.proofs.Common.{◌≡◌, ◌≢◌, inl, inr, ◌||◌, ◌&&◌, Bool, true, false, cond, Option, None}
use Rattle.std.proofs.Common.{Some, ap, sym, ◌∙◌, refl, subst, IsSome}
use Rattle.std.proofs.lemmas.Bool.{true≢false, cases_Bool, cond-true, cond-false}
use Rattle.tk_handle.specs.declared.dot.Dot.{Dot}
use Rattle.tk_handle.specs.declared.kind.Kind.{Kind}
use Rattle.tk_handle.specs.declared.kind.Kind.TheVariants as kind
use Rattle.tk_handle.specs.declared.token_id.TokenId.{TokenId}
use Rattle.tk_handle.specs.Kind.{is_code, is_refresh}
use Rattle.tk_family.specs.declared.link.Link.{Link}
use Rattle.tk_family.specs.declared.link.Link.TheVariants.{Code, Redeems, Rotates}
use Rattle.tk_family.specs.declared.row.Row.{Row}
use Rattle.tk_family.specs.Dots.{dot_eq}
use Rattle.tk_family.specs.Families.{named_by}
use Rattle.tk_family.specs.declared.row.Uses.{Uses}
use Rattle.tk_family.specs.declared.row.Uses.TheVariants.{Never, Once, Often}
use Rattle.tk_family.specs.Rows.{is_some_use, is_often, Rows, link_in, code_in, count_in, first_in}
use Rattle.tk_family.specs.Rows.{marked_in, used_in, again_in}
use Rattle.tk_family.specs.Uses.{uses_it}
use Rattle.tk_family.specs.Kept.{has_dot}
use Rattle.tk_family.specs.Puts.{first_after}
use Rattle.tk_family.specs.Writes.{once_more, or_dot, with_put, with_redeemer, with_rotator, put_at}
use Rattle.tk_family.specs.Writes.{hung}
use Rattle.tk_family.proofs.DotLaws.{dot_eq-true, dot_eq-same, dot_eq-apart}
use Rattle.tk_family.proofs.Columns.{column}

-- there is a row
pub record RowAt (o : Option Row) : Type 0 where
  pub row : Row
  pub is : o ≡ Some row

-- what is some row is a row
pub row_at : (o : Option Row) → IsSome o → RowAt o
row_at None h = absurd (true≢false (sym h))
row_at (Some r) h = record { row = r; is = refl }

-- ---- a link is hung

-- a flag stays if nothing is added
pub or_false : (b : Bool) → b ≡ (b || false)
or_false true = refl
or_false false = refl

-- a row that gets its link keeps code, count and first child
pub put_cols : (o : Option Row) (l : Link)
    → (code_in (with_put o l) ≡ code_in o) × (count_in (with_put o l) ≡ count_in o)
    × (first_in (with_put o l) ≡ first_in o)
put_cols None l = (refl, refl, refl)
put_cols (Some r) l = (refl, refl, refl)

-- a row that gets its link keeps its flags
pub put_flags : (o : Option Row) (l : Link) (k : Kind)
    → (marked_in (with_put o l) k ≡ marked_in o k) × (used_in (with_put o l) k ≡ used_in o k)
    × (again_in (with_put o l) k ≡ again_in o k)
put_flags None l k = (refl, refl, refl)
put_flags (Some r) l kind.Code = (refl, refl, refl)
put_flags (Some r) l kind.Access = (refl, refl, refl)
put_flags (Some r) l kind.Refresh = (refl, refl, refl)

-- a row with one more redeemer keeps code, count and link
redeemer_cols : (o : Option Row) (d : Dot)
    → (code_in (with_redeemer o d) ≡ code_in o) × (count_in (with_redeemer o d) ≡ count_in o)
    × (link_in (with_redeemer o d) ≡ link_in o)
redeemer_cols None d = (refl, refl, refl)
redeemer_cols (Some r) d = (refl, refl, refl)

-- a row with one more rotator keeps code, count and link
rotator_cols : (o : Option Row) (d : Dot)
    → (code_in (with_rotator o d) ≡ code_in o) × (count_in (with_rotator o d) ≡ count_in o)
    × (link_in (with_rotator o d) ≡ link_in o)
rotator_cols None d = (refl, refl, refl)
rotator_cols (Some r) d = (refl, refl, refl)

-- a row with one more redeemer keeps its marks
redeemer_marked : (o : Option Row) (d : Dot) (k : Kind)
    → marked_in (with_redeemer o d) k ≡ marked_in o k
redeemer_marked None d k = refl
redeemer_marked (Some r) d kind.Code = refl
redeemer_marked (Some r) d kind.Access = refl
redeemer_marked (Some r) d kind.Refresh = refl

-- a row with one more rotator keeps its marks
rotator_marked : (o : Option Row) (d : Dot) (k : Kind)
    → marked_in (with_rotator o d) k ≡ marked_in o k
rotator_marked None d k = refl
rotator_marked (Some r) d kind.Code = refl
rotator_marked (Some r) d kind.Access = refl
rotator_marked (Some r) d kind.Refresh = refl

-- one use more makes a use
more_used : (u : Uses) → is_some_use (once_more u) ≡ (is_some_use u || true)
more_used Never = refl
more_used Once = refl
more_used Often = refl

-- one use more is a repeated use exactly if there was a use, or a repeated one
more_again : (u : Uses) → is_often (once_more u) ≡ (is_often u || is_some_use u)
more_again Never = refl
more_again Once = refl
more_again Often = refl

-- a redeemer makes a use of the code, and of no other kind
redeemer_used : (r : Row) (d : Dot) (k : Kind)
    → used_in (with_redeemer (Some r) d) k ≡ (used_in (Some r) k || is_code k)
redeemer_used r d kind.Code = more_used r.redeemed
redeemer_used r d kind.Access = refl
redeemer_used r d kind.Refresh = or_false (is_some_use r.rotated)

-- a rotator makes a use of the refresh token, and of no other kind
rotator_used : (r : Row) (d : Dot) (k : Kind)
    → used_in (with_rotator (Some r) d) k ≡ (used_in (Some r) k || is_refresh k)
rotator_used r d kind.Code = or_false (is_some_use r.redeemed)
rotator_used r d kind.Access = refl
rotator_used r d kind.Refresh = more_used r.rotated

-- a redeemer makes a repeated use of a code that was used, and of no other kind
redeemer_again : (r : Row) (d : Dot) (k : Kind)
    → again_in (with_redeemer (Some r) d) k
    ≡ (again_in (Some r) k || (is_code k && used_in (Some r) k))
redeemer_again r d kind.Code = more_again r.redeemed
redeemer_again r d kind.Access = refl
redeemer_again r d kind.Refresh = or_false (is_often r.rotated)

-- a rotator makes a repeated use of a refresh token that was used, and of no other kind
rotator_again : (r : Row) (d : Dot) (k : Kind)
    → again_in (with_rotator (Some r) d) k
    ≡ (again_in (Some r) k || (is_refresh k && used_in (Some r) k))
rotator_again r d kind.Code = or_false (is_often r.redeemed)
rotator_again r d kind.Access = refl
rotator_again r d kind.Refresh = more_again r.rotated

-- a step F at the named dot that adds one use of the kinds `of`
record UseStep (F : Option Row → Dot → Option Row) (of : Kind → Bool) : Type 0 where
  pub cols : (o : Option Row) (d : Dot)
      → (code_in (F o d) ≡ code_in o) × (count_in (F o d) ≡ count_in o)
      × (link_in (F o d) ≡ link_in o)
  pub marked : (o : Option Row) (d : Dot) (k : Kind) → marked_in (F o d) k ≡ marked_in o k
  pub used : (r : Row) (d : Dot) (k : Kind)
      → used_in (F (Some r) d) k ≡ (used_in (Some r) k || of k)
  pub again : (r : Row) (d : Dot) (k : Kind)
      → again_in (F (Some r) d) k ≡ (again_in (Some r) k || (of k && used_in (Some r) k))
  pub first : (r : Row) (d : Dot) → first_in (F (Some r) d) ≡ or_dot (first_in (Some r)) d

-- one more redeemer adds one use of the code
redeems_step : UseStep with_redeemer is_code
redeems_step = record {
  cols = redeemer_cols;
  marked = redeemer_marked;
  used = redeemer_used;
  again = redeemer_again;
  first = λ r d. refl;
}

-- one more rotator adds one use of the refresh token
rotates_step : UseStep with_rotator is_refresh
rotates_step = record {
  cols = rotator_cols;
  marked = rotator_marked;
  used = rotator_used;
  again = rotator_again;
  first = λ r d. refl;
}

-- a row is a row still if it gets its link
put_present : (o : Option Row) (b : Bool) (l : Link) → RowAt o → RowAt (cond b (with_put o l) o)
put_present o true l r =
    record { row = record r.row { link = Some l }; is = ap (λ (x : Option Row). with_put x l) r.is }
put_present o false l r = r

-- `Hung` holds after a link that names p was hung
pub record HungCols (T N : Rows) (d p : Dot) (l : Link) : Type 0 where
  pub link_here : link_in (N d) ≡ Some l
  pub link_old : (q : Dot) → q ≢ d → link_in (N q) ≡ link_in (T q)
  pub code : (q : Dot) → code_in (N q) ≡ code_in (T q)
  pub count : (q : Dot) → count_in (N q) ≡ count_in (T q)
  pub marked : (q : Dot) (k : Kind) → marked_in (N q) k ≡ marked_in (T q) k
  pub used : (k : TokenId) → used_in (N k.dot) k.kind ≡ (used_in (T k.dot) k.kind || uses_it l k)
  pub again : (k : TokenId)
      → again_in (N k.dot) k.kind
      ≡ (again_in (T k.dot) k.kind || (uses_it l k && used_in (T k.dot) k.kind))
  pub first : (q : Dot) → first_in (N q) ≡ first_after T d l q

-- the columns after a link was put and a step added its use at the named dot
hung-cols : (T N : Rows) (d p : Dot) (l : Link) (F : Option Row → Dot → Option Row)
    (of : Kind → Bool) → UseStep F of → named_by l ≡ Some p
    → ((k : TokenId) → uses_it l k ≡ (dot_eq p k.dot && of k.kind)) → RowAt (T d) → RowAt (T p)
    → ((q : Dot) → N q ≡ cond (dot_eq p q) (F (put_at T d l q) d) (put_at T d l q))
    → HungCols T N d p l
hung-cols T N d p l F of step names uses at_d at_p h =
    let M : Rows = put_at T d l in
    let first_M : (q : Dot) → first_in (M q) ≡ first_in (T q) =
    λ q. column first_in (dot_eq d q) (with_put (T q) l) (T q) (put_cols (T q) l).2 in
    let after : (q : Dot)
    → first_after T d l q ≡ cond (dot_eq p q) (or_dot (first_in (T q)) d) (first_in (T q)) =
    λ q. ap (λ (o : Option Dot). cond (has_dot o q) (or_dot (first_in (T q)) d) (first_in (T q)))
    names in
    let here : RowAt (T d) = at_d in
    let link_M : (q : Dot) → link_in (N q) ≡ link_in (M q) =
    λ q. ap link_in (h q) ∙ column link_in (dot_eq p q) (F (M q) d) (M q) (step.cols (M q) d).2 in
    let at_p_M : RowAt (M p) = put_present (T p) (dot_eq d p) l at_p in
    let N_p : N p ≡ F (Some at_p_M.row) d =
    h p ∙ (cond-true _ _ _ (dot_eq-same p) ∙ ap (λ (o : Option Row). F o d) at_p_M.is) in
    let used_M : (q : Dot) (k : Kind) → used_in (M q) k ≡ used_in (T q) k =
    λ q k. column (λ (o : Option Row). used_in o k) (dot_eq d q) (with_put (T q) l) (T q)
    (put_flags (T q) l k).1 in
    let again_M : (q : Dot) (k : Kind) → again_in (M q) k ≡ again_in (T q) k =
    λ q k. column (λ (o : Option Row). again_in o k) (dot_eq d q) (with_put (T q) l) (T q)
    (put_flags (T q) l k).2 in
    record {
      link_here = link_M d
          ∙ (ap link_in (cond-true (dot_eq d d) (with_put (T d) l) (T d) (dot_eq-same d))
          ∙ ap (λ (o : Option Row). link_in (with_put o l)) here.is);
      link_old = λ q ne. link_M q
          ∙ ap link_in
          (cond-false (dot_eq d q) (with_put (T q) l) (T q)
          (dot_eq-apart d q (λ same. ne (sym same))));
      code = λ q. ap code_in (h q)
          ∙ (column code_in (dot_eq p q) (F (M q) d) (M q) (step.cols (M q) d).0
          ∙ column code_in (dot_eq d q) (with_put (T q) l) (T q) (put_cols (T q) l).0);
      count = λ q. ap count_in (h q)
          ∙ (column count_in (dot_eq p q) (F (M q) d) (M q) (step.cols (M q) d).1
          ∙ column count_in (dot_eq d q) (with_put (T q) l) (T q) (put_cols (T q) l).1);
      marked = λ q k. ap (λ (o : Option Row). marked_in o k) (h q)
          ∙ (column (λ (o : Option Row). marked_in o k) (dot_eq p q) (F (M q) d) (M q)
          (step.marked (M q) d k)
          ∙ column (λ (o : Option Row). marked_in o k) (dot_eq d q) (with_put (T q) l) (T q)
          (put_flags (T q) l k).0);
      used = λ k. elim (cases_Bool (dot_eq p k.dot)) [
        | inl same ↦
            let e : p ≡ k.dot = dot_eq-true p k.dot same in
            ap (λ (y : Dot). used_in (N y) k.kind) (sym e)
            ∙ (ap (λ (o : Option Row). used_in o k.kind) N_p
            ∙ (step.used at_p_M.row d k.kind
            ∙ (ap (λ (o : Option Row). used_in o k.kind || of k.kind) (sym at_p_M.is)
            ∙ (ap (λ (b : Bool). b || of k.kind)
            (used_M p k.kind ∙ ap (λ (y : Dot). used_in (T y) k.kind) e)
            ∙ ap (λ (b : Bool). used_in (T k.dot) k.kind || b)
            (sym (uses k ∙ ap (λ (b : Bool). b && of k.kind) same))))))
        | inr apart ↦ ap (λ (o : Option Row). used_in o k.kind) (h k.dot ∙ cond-false _ _ _ apart)
            ∙ (used_M k.dot k.kind
            ∙ (or_false (used_in (T k.dot) k.kind)
            ∙ ap (λ (b : Bool). used_in (T k.dot) k.kind || b)
            (sym (uses k ∙ ap (λ (b : Bool). b && of k.kind) apart))))
      ];
      again = λ k. elim (cases_Bool (dot_eq p k.dot)) [
        | inl same ↦
            let e : p ≡ k.dot = dot_eq-true p k.dot same in
            ap (λ (y : Dot). again_in (N y) k.kind) (sym e)
            ∙ (ap (λ (o : Option Row). again_in o k.kind) N_p
            ∙ (step.again at_p_M.row d k.kind
            ∙ (ap (λ (o : Option Row). again_in o k.kind || (of k.kind && used_in o k.kind))
            (sym at_p_M.is)
            ∙ (ap (λ (b : Bool). b || (of k.kind && used_in (M p) k.kind))
            (again_M p k.kind ∙ ap (λ (y : Dot). again_in (T y) k.kind) e)
            ∙ (ap (λ (b : Bool). again_in (T k.dot) k.kind || (of k.kind && b))
            (used_M p k.kind ∙ ap (λ (y : Dot). used_in (T y) k.kind) e)
            ∙ ap (λ (b : Bool). again_in (T k.dot) k.kind || (b && used_in (T k.dot) k.kind))
            (sym (uses k ∙ ap (λ (b : Bool). b && of k.kind) same)))))))
        | inr apart ↦ ap (λ (o : Option Row). again_in o k.kind) (h k.dot ∙ cond-false _ _ _ apart)
            ∙ (again_M k.dot k.kind
            ∙ (or_false (again_in (T k.dot) k.kind)
            ∙ ap (λ (b : Bool). again_in (T k.dot) k.kind || (b && used_in (T k.dot) k.kind))
            (sym (uses k ∙ ap (λ (b : Bool). b && of k.kind) apart))))
      ];
      first = λ q. elim (cases_Bool (dot_eq p q)) [
        | inl same ↦
            let e : p ≡ q = dot_eq-true p q same in
            ap (λ (y : Dot). first_in (N y)) (sym e)
            ∙ (ap first_in N_p
            ∙ (step.first at_p_M.row d
            ∙ (ap (λ (o : Option Row). or_dot (first_in o) d) (sym at_p_M.is)
            ∙ (ap (λ (o : Option Dot). or_dot o d) (first_M p)
            ∙ (ap (λ (y : Dot). or_dot (first_in (T y)) d) e
            ∙ (sym (cond-true _ _ _ same) ∙ sym (after q)))))))
        | inr apart ↦ ap first_in (h q ∙ cond-false _ _ _ apart)
            ∙ (first_M q ∙ (sym (cond-false _ _ _ apart) ∙ sym (after q)))
      ];
    }

-- the columns of rows in which a link was hung up
pub hung-cols-all : (T N : Rows) (d p : Dot) (l : Link) → named_by l ≡ Some p → RowAt (T d)
    → RowAt (T p) → ((q : Dot) → N q ≡ hung T d l q) → HungCols T N d p l
hung-cols-all T N d p Code names at_d at_p h = absurd (let clash : None ≡ Some p = names in cc)
hung-cols-all T N d p (Redeems c) names at_d at_p h =
    let both : Some c ≡ Some p = names in
    let same : c ≡ p = cc in
    subst (λ (y : Dot). HungCols T N d y (Redeems c)) same
    (hung-cols T N d c (Redeems c) with_redeemer is_code redeems_step refl (λ k. refl) at_d
    (subst (λ (y : Dot). RowAt (T y)) (sym same) at_p) h)
hung-cols-all T N d p (Rotates c g) names at_d at_p h =
    let both : Some c ≡ Some p = names in
    let same : c ≡ p = cc in
    subst (λ (y : Dot). HungCols T N d y (Rotates c g)) same
    (hung-cols T N d c (Rotates c g) with_rotator is_refresh rotates_step refl (λ k. refl) at_d
    (subst (λ (y : Dot). RowAt (T y)) (sym same) at_p) h)
