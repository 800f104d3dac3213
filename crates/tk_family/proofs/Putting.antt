-- The counts of the rows after the steps of `put`. Key results:
--   AlikeButCount-count, IsCounted-recount   a count is written
--   hung-all, IsCounted-hung                 a link is hung
--   Mid                                      the columns after codes were written
use Rattle.std.proofs.Common.{◌≡◌, ◌≢◌, inl, inr, ℕ, ◌+◌, ◌-◌, ◌||◌, ◌&&◌, Bool, true, false, cond}
use Rattle.std.proofs.Common.{Option, None, Some, List, [], ap, sym, ◌∙◌, refl, subst, IsSome}
use Rattle.std.proofs.lemmas.Bool.{cases_Bool, cond-true, cond-false}
use Rattle.std.specs.List.{IsDistinct}
use Rattle.tk_handle.specs.declared.dot.Dot.{Dot}
use Rattle.tk_handle.specs.declared.kind.Kind.{Kind}
use Rattle.tk_handle.specs.declared.kind.Kind.TheVariants as kind
use Rattle.tk_family.specs.declared.link.Link.{Link}
use Rattle.tk_family.specs.declared.link.Link.TheVariants.{Code, Redeems, Rotates}
use Rattle.tk_family.specs.declared.row.Row.{Row}
use Rattle.tk_family.specs.Dots.{dot_eq, has}
use Rattle.tk_family.specs.Families.{named_by}
use Rattle.tk_family.specs.Counts.{IsCount, IsCounted, IsCountedAs, AlikeButCount}
use Rattle.tk_family.specs.Rows.{Rows, link_in, code_in, count_in, first_in, marked_in, used_in}
use Rattle.tk_family.specs.Rows.{again_in, bad_in, blamed_in, links_of}
use Rattle.tk_family.specs.Uses.{uses_it}
use Rattle.tk_family.specs.Children.{token_at}
use Rattle.tk_family.specs.Puts.{Hung}
use Rattle.tk_family.specs.Writes.{with_code, with_count, with_put, put_at, hung, bads, settled}
use Rattle.tk_family.specs.Writes.{raised}
use Rattle.tk_family.proofs.DotLaws.{dot_eq-same, dot_eq-apart, cases_dots}
use Rattle.tk_family.proofs.Adding.{Adds}
use Rattle.tk_family.proofs.Columns.{column}
use Rattle.tk_family.proofs.Counting.{IsCount-is, IsCount-alike, IsCounted-same, bad-same}
use Rattle.tk_family.proofs.Counting.{blamed-same, blamed-none}
use Rattle.tk_family.proofs.Recounting.{IsCountedAs-from, IsCounted-raised, recount-step}
use Rattle.tk_family.proofs.Recounting.{recount-others}
use Rattle.tk_family.proofs.UseLaws.{uses_it-apart}
use Rattle.tk_family.proofs.HungColumns.{HungCols, RowAt, hung-cols-all, or_false, put_cols}
use Rattle.tk_family.proofs.HungColumns.{put_flags, row_at}

-- ---- a count is written

-- a row with another count keeps link, code and first child
count_cols : (o : Option Row) (n : ℕ)
    → (link_in (with_count o n) ≡ link_in o) × (code_in (with_count o n) ≡ code_in o)
    × (first_in (with_count o n) ≡ first_in o)
count_cols None n = (refl, refl, refl)
count_cols (Some r) n = (refl, refl, refl)

-- a row with another count keeps marks and uses
count_flags : (o : Option Row) (n : ℕ) (k : Kind)
    → (marked_in (with_count o n) k ≡ marked_in o k) × (used_in (with_count o n) k ≡ used_in o k)
    × (again_in (with_count o n) k ≡ again_in o k)
count_flags None n k = (refl, refl, refl)
count_flags (Some r) n kind.Code = (refl, refl, refl)
count_flags (Some r) n kind.Access = (refl, refl, refl)
count_flags (Some r) n kind.Refresh = (refl, refl, refl)

-- rows with another count at one dot are alike but for counts
pub AlikeButCount-count : (A B : Rows) (c : Dot) (n : ℕ)
    → ((q : Dot) → B q ≡ cond (dot_eq c q) (with_count (A q) n) (A q)) → AlikeButCount A B
AlikeButCount-count A B c n h = record {
  link = λ q. ap link_in (h q)
      ∙ column link_in (dot_eq c q) (with_count (A q) n) (A q) (count_cols (A q) n).0;
  code = λ q. ap code_in (h q)
      ∙ column code_in (dot_eq c q) (with_count (A q) n) (A q) (count_cols (A q) n).1;
  first = λ q. ap first_in (h q)
      ∙ column first_in (dot_eq c q) (with_count (A q) n) (A q) (count_cols (A q) n).2;
  marked = λ q k. ap (λ (o : Option Row). marked_in o k) (h q)
      ∙ column (λ (o : Option Row). marked_in o k) (dot_eq c q) (with_count (A q) n) (A q)
      (count_flags (A q) n k).0;
  used = λ q k. ap (λ (o : Option Row). used_in o k) (h q)
      ∙ column (λ (o : Option Row). used_in o k) (dot_eq c q) (with_count (A q) n) (A q)
      (count_flags (A q) n k).1;
  again = λ q k. ap (λ (o : Option Row). again_in o k) (h q)
      ∙ column (λ (o : Option Row). again_in o k) (dot_eq c q) (with_count (A q) n) (A q)
      (count_flags (A q) n k).2;
}

-- a row that gets a count has the count
count_there : (o : Option Row) (n : ℕ) → RowAt o → count_in (with_count o n) ≡ n
count_there o n r = ap (λ (x : Option Row). count_in (with_count x n)) r.is

-- the new count is at its dot
pub count-here : (A B : Rows) (c : Dot) (n : ℕ) → RowAt (A c)
    → ((q : Dot) → B q ≡ cond (dot_eq c q) (with_count (A q) n) (A q)) → count_in (B c) ≡ n
count-here A B c n row h =
    ap count_in (h c ∙ cond-true _ _ _ (dot_eq-same c)) ∙ count_there (A c) n row

-- at other dots the counts stay
pub count-other : (A B : Rows) (c : Dot) (n : ℕ)
    → ((q : Dot) → B q ≡ cond (dot_eq c q) (with_count (A q) n) (A q)) → (q : Dot) → c ≢ q
    → count_in (B q) ≡ count_in (A q)
count-other A B c n h q ne = ap count_in (h q ∙ cond-false _ _ _ (dot_eq-apart c q ne))

-- rows that are alike but for counts blame the same
pub blamed-alike : (A B : Rows) → AlikeButCount A B → (q : Dot) → blamed_in (B q) ≡ blamed_in (A q)
blamed-alike A B a q =
    blamed-same (A q) (B q) (bad-same (A q) (B q) (a.link q) (a.marked q) (a.again q)) (a.code q)

-- the dot's code has its count anew, and so all codes have theirs
pub IsCounted-recount : (M N : Rows) (at code : Dot) (was : Bool) → IsCountedAs M at was
    → code_in (M at) ≡ Some code → RowAt (M code)
    → ((q : Dot)
    → N q ≡ cond (dot_eq code q)
    (with_count (M q) ((count_in (M code) - cond was 1 0) + cond (bad_in (M at)) 1 0)) (M q))
    → IsCounted N
IsCounted-recount M N at code was x said row h c =
    let n : ℕ = (count_in (M code) - cond was 1 0) + cond (bad_in (M at)) 1 0 in
    let a : AlikeButCount M N = AlikeButCount-count M N code n h in
    let moved : (e : Dot) (i j : ℕ) → j ≡ i → IsCount (λ q. blamed_in (M q)) e i
    → IsCount (λ q. blamed_in (N q)) e j = λ e i j same y.
    IsCount-is (λ q. blamed_in (N q)) e i j same
    (IsCount-alike (λ q. blamed_in (M q)) (λ q. blamed_in (N q)) e i
    (λ q g. blamed-alike M N a q ∙ g) (λ q g. sym (blamed-alike M N a q) ∙ g) y) in
    elim (cases_dots code c) [
      | inl same ↦ subst (λ (y : Dot). IsCount (λ q. blamed_in (N q)) y (count_in (N y))) same
          (moved code n (count_in (N code)) (count-here M N code n row h)
          (recount-step M at code was x said).1)
      | inr ne ↦ moved c (count_in (M c)) (count_in (N c)) (count-other M N code n h c ne)
          (recount-others M at code was c x said ne)
    ]

-- Hung, where the link names p
hung-at : (T N : Rows) (d p : Dot) (l : Link) → named_by l ≡ Some p → links_of T d ≡ None
    → HungCols T N d p l → Hung T N d l
hung-at T N d p l names free c =
    let adds : Adds (links_of T) (links_of N) d l =
    record { free = free; here = c.link_here; others = c.link_old } in
    record {
      adds = adds;
      code = c.code;
      marked = c.marked;
      used = c.used;
      again = c.again;
      first = c.first;
    }

-- a code is hung below no dot
hung-code : (T N : Rows) (d : Dot) → links_of T d ≡ None → RowAt (T d)
    → ((q : Dot) → N q ≡ put_at T d Code q) → Hung T N d Code
hung-code T N d free at_d h =
    let apart : (q : Dot) → q ≢ d → N q ≡ T q =
    λ q ne. h q ∙ cond-false (dot_eq d q) (with_put (T q) Code) (T q)
    (dot_eq-apart d q (λ same. ne (sym same))) in
    let adds : Adds (links_of T) (links_of N) d Code = record {
      free = free;
      here = ap link_in (h d ∙ cond-true (dot_eq d d) (with_put (T d) Code) (T d) (dot_eq-same d))
          ∙ ap (λ (o : Option Row). link_in (with_put o Code)) at_d.is;
      others = λ q ne. ap link_in (apart q ne);
    } in
    record {
      adds = adds;
      code = λ q. ap code_in (h q)
          ∙ column code_in (dot_eq d q) (with_put (T q) Code) (T q) (put_cols (T q) Code).0;
      marked = λ q k. ap (λ (o : Option Row). marked_in o k) (h q)
          ∙ column (λ (o : Option Row). marked_in o k) (dot_eq d q) (with_put (T q) Code) (T q)
          (put_flags (T q) Code k).0;
      used = λ k. ap (λ (o : Option Row). used_in o k.kind) (h k.dot)
          ∙ (column (λ (o : Option Row). used_in o k.kind) (dot_eq d k.dot)
          (with_put (T k.dot) Code) (T k.dot) (put_flags (T k.dot) Code k.kind).1
          ∙ or_false (used_in (T k.dot) k.kind));
      again = λ k. ap (λ (o : Option Row). again_in o k.kind) (h k.dot)
          ∙ (column (λ (o : Option Row). again_in o k.kind) (dot_eq d k.dot)
          (with_put (T k.dot) Code) (T k.dot) (put_flags (T k.dot) Code k.kind).2
          ∙ or_false (again_in (T k.dot) k.kind));
      first = λ q. ap first_in (h q)
          ∙ column first_in (dot_eq d q) (with_put (T q) Code) (T q) (put_cols (T q) Code).2;
    }

-- the uses of a dot that the link does not name are as they were
again_apart : (T N : Rows) (l : Link) (p q : Dot) (k : Kind) → named_by l ≡ Some p → q ≢ p
    → again_in (N q) k ≡ (again_in (T q) k || (uses_it l (token_at q k) && used_in (T q) k))
    → again_in (N q) k ≡ again_in (T q) k
again_apart T N l p q k names ne h = h
    ∙ (ap (λ (b : Bool). again_in (T q) k || (b && used_in (T q) k))
    (uses_it-apart l p (token_at q k) names ne)
    ∙ sym (or_false (again_in (T q) k)))

-- a link that names p, put at a dot under no code, leaves what dots other than p blame
hung_blamed : (T N : Rows) (d p : Dot) (l : Link) → named_by l ≡ Some p → code_in (T d) ≡ None
    → HungCols T N d p l → (q : Dot) → q ≢ p → blamed_in (N q) ≡ blamed_in (T q)
hung_blamed T N d p l names none h q ne = elim (cases_dots q d) [
  | inl same ↦
      let out : code_in (T q) ≡ None = ap (λ (y : Dot). code_in (T y)) same ∙ none in
      blamed-none (N q) (h.code q ∙ out) ∙ sym (blamed-none (T q) out)
  | inr apart ↦ blamed-same (T q) (N q)
      (bad-same (T q) (N q) (h.link_old q apart) (h.marked q)
      (λ k. again_apart T N l p q k names ne (h.again (token_at q k)))) (h.code q)
]

-- after a link that names p was hung, the counts are those with p as it was
pub IsCountedAs-hung : (T M : Rows) (d p : Dot) (l : Link) → IsCounted T → code_in (T d) ≡ None
    → named_by l ≡ Some p → IsSome (T d) → IsSome (T p) → ((q : Dot) → M q ≡ hung T d l q)
    → IsCountedAs M p (bad_in (T p))
IsCountedAs-hung T M d p l x none names at_d at_p h =
    let cols : HungCols T M d p l =
    hung-cols-all T M d p l names (row_at (T d) at_d) (row_at (T p) at_p) h in
    IsCountedAs-from T M p x cols.code cols.count (hung_blamed T M d p l names none cols)

-- a code put at a dot under no code leaves what each dot blames, and the counts
hung_code_flags : (T N : Rows) (d : Dot) → code_in (T d) ≡ None
    → ((q : Dot) → N q ≡ put_at T d Code q) → (q : Dot)
    → (blamed_in (N q) ≡ blamed_in (T q)) × (count_in (N q) ≡ count_in (T q))
hung_code_flags T N d none h q = elim (cases_dots q d) [
  | inl same ↦
      let out : code_in (T q) ≡ None = ap (λ (y : Dot). code_in (T y)) same ∙ none in
      let code : code_in (N q) ≡ code_in (T q) =
      ap code_in (h q)
      ∙ column code_in (dot_eq d q) (with_put (T q) Code) (T q) (put_cols (T q) Code).0 in (
        blamed-none (N q) (code ∙ out) ∙ sym (blamed-none (T q) out),
        ap count_in (h q)
            ∙ column count_in (dot_eq d q) (with_put (T q) Code) (T q) (put_cols (T q) Code).1,
      )
  | inr ne ↦
      let same : N q ≡ T q = h q ∙ cond-false _ _ _ (dot_eq-apart d q (λ e. ne (sym e))) in
      (ap blamed_in same, ap count_in same)
]

-- a link that names no dot changes no count
pub IsCounted-hung : (T N : Rows) (d : Dot) (l : Link) → IsCounted T → code_in (T d) ≡ None
    → l ≡ Code → ((q : Dot) → N q ≡ hung T d l q) → IsCounted N
IsCounted-hung T N d l x none code h =
    let rows : (q : Dot) → N q ≡ put_at T d Code q =
    λ q. h q ∙ ap (λ (k : Link). hung T d k q) code in
    IsCounted-same T N (λ q. (hung_code_flags T N d none rows q).0)
    (λ q. (hung_code_flags T N d none rows q).1) x

-- a link that is hung up stays so if counts change
pub Hung-alike : (T M N : Rows) (d : Dot) (l : Link) → Hung T M d l → AlikeButCount M N
    → Hung T N d l
Hung-alike T M N d l h a = record {
  adds = record {
    free = h.adds.free;
    here = a.link d ∙ h.adds.here;
    others = λ q ne. a.link q ∙ h.adds.others q ne;
  };
  code = λ q. a.code q ∙ h.code q;
  marked = λ q k. a.marked q k ∙ h.marked q k;
  used = λ k. a.used k.dot k.kind ∙ h.used k;
  again = λ k. a.again k.dot k.kind ∙ h.again k;
  first = λ q. a.first q ∙ h.first q;
}

-- a link that was written to its row and its parent's is hung up
pub hung-all : (T N : Rows) (d : Dot) (l : Link) → links_of T d ≡ None → IsSome (T d)
    → ((p : Dot) → named_by l ≡ Some p → IsSome (T p)) → ((q : Dot) → N q ≡ hung T d l q)
    → Hung T N d l
hung-all T N d Code free at_d at_p h = hung-code T N d free (row_at (T d) at_d) h
hung-all T N d (Redeems p) free at_d at_p h =
    hung-at T N d p (Redeems p) refl free
    (hung-cols-all T N d p (Redeems p) refl (row_at (T d) at_d) (row_at (T p) (at_p p refl)) h)
hung-all T N d (Rotates p g) free at_d at_p h =
    hung-at T N d p (Rotates p g) refl free
    (hung-cols-all T N d p (Rotates p g) refl (row_at (T d) at_d) (row_at (T p) (at_p p refl)) h)

-- ---- codes are written

-- A is M with the code c0 at each dot of ys, perhaps with another count at c0
pub record Mid (M A : Rows) (c0 : Dot) (ys : List Dot) : Type 0 where
  pub link : (q : Dot) → link_in (A q) ≡ link_in (M q)
  pub first : (q : Dot) → first_in (A q) ≡ first_in (M q)
  pub marked : (q : Dot) (k : Kind) → marked_in (A q) k ≡ marked_in (M q) k
  pub used : (q : Dot) (k : Kind) → used_in (A q) k ≡ used_in (M q) k
  pub again : (q : Dot) (k : Kind) → again_in (A q) k ≡ again_in (M q) k
  pub code : (q : Dot) → code_in (A q) ≡ cond (has ys q) (Some c0) (code_in (M q))

-- no dots got their code, if the rows are as before
pub Mid-none : (M A : Rows) (c0 : Dot) → ((q : Dot) → A q ≡ M q) → Mid M A c0 []
Mid-none M A c0 h = record {
  link = λ q. ap link_in (h q);
  first = λ q. ap first_in (h q);
  marked = λ q k. ap (λ (o : Option Row). marked_in o k) (h q);
  used = λ q k. ap (λ (o : Option Row). used_in o k) (h q);
  again = λ q k. ap (λ (o : Option Row). again_in o k) (h q);
  code = λ q. ap code_in (h q);
}

-- a row with another code keeps link, first child and count
code_cols : (o : Option Row) (c : Dot)
    → (link_in (with_code o c) ≡ link_in o) × (first_in (with_code o c) ≡ first_in o)
    × (count_in (with_code o c) ≡ count_in o)
code_cols None c = (refl, refl, refl)
code_cols (Some r) c = (refl, refl, refl)

-- a row with another code keeps marks and uses
code_flags : (o : Option Row) (c : Dot) (k : Kind)
    → (marked_in (with_code o c) k ≡ marked_in o k) × (used_in (with_code o c) k ≡ used_in o k)
    × (again_in (with_code o c) k ≡ again_in o k)
code_flags None c k = (refl, refl, refl)
code_flags (Some r) c kind.Code = (refl, refl, refl)
code_flags (Some r) c kind.Access = (refl, refl, refl)
code_flags (Some r) c kind.Refresh = (refl, refl, refl)

-- a row that gets a code has the code
code_there : (o : Option Row) (c : Dot) → RowAt o → code_in (with_code o c) ≡ Some c
code_there o c r = ap (λ (x : Option Row). code_in (with_code x c)) r.is

-- a row is a row still if it gets a code
with_code_row : (o : Option Row) (b : Bool) (c : Dot) → RowAt o → RowAt (cond b (with_code o c) o)
with_code_row o true c r = record {
  row = record r.row { code = Some c };
  is = ap (λ (x : Option Row). with_code x c) r.is;
}
with_code_row o false c r = r

-- the dots of the list got their code, if they were raised
pub Mid-raised : (M A : Rows) (c0 : Dot) (ys : List Dot)
    → ((q : Dot) → has ys q ≡ true → RowAt (M q)) → ((q : Dot) → A q ≡ raised M ys c0 q)
    → Mid M A c0 ys
Mid-raised M A c0 ys rows h =
    let S : Rows = settled M ys c0 in
    let d : AlikeButCount S A = AlikeButCount-count S A c0 (count_in (M c0) + bads M ys) h in
    record {
      link = λ q.
          d.link q ∙ column link_in (has ys q) (with_code (M q) c0) (M q) (code_cols (M q) c0).0;
      first = λ q.
          d.first q ∙ column first_in (has ys q) (with_code (M q) c0) (M q) (code_cols (M q) c0).1;
      marked = λ q k. d.marked q k
          ∙ column (λ (o : Option Row). marked_in o k) (has ys q) (with_code (M q) c0) (M q)
          (code_flags (M q) c0 k).0;
      used = λ q k. d.used q k
          ∙ column (λ (o : Option Row). used_in o k) (has ys q) (with_code (M q) c0) (M q)
          (code_flags (M q) c0 k).1;
      again = λ q k. d.again q k
          ∙ column (λ (o : Option Row). again_in o k) (has ys q) (with_code (M q) c0) (M q)
          (code_flags (M q) c0 k).2;
      code = λ q. d.code q ∙ (elim (cases_Bool (has ys q)) [
        | inl walked ↦ ap code_in (cond-true (has ys q) (with_code (M q) c0) (M q) walked)
            ∙ (code_there (M q) c0 (rows q walked)
            ∙ sym (cond-true (has ys q) (Some c0) (code_in (M q)) walked))
        | inr passed ↦ ap code_in (cond-false (has ys q) (with_code (M q) c0) (M q) passed)
            ∙ sym (cond-false (has ys q) (Some c0) (code_in (M q)) passed)
      ]);
    }

-- rows stay counted if dots got their code and were counted under it
pub IsCounted-mid : (M A : Rows) (c0 : Dot) (ys : List Dot) → IsCounted M → IsDistinct dot_eq ys
    → ((q : Dot) → has ys q ≡ true → code_in (M q) ≡ None) → RowAt (M c0) → Mid M A c0 ys
    → ((q : Dot) → A q ≡ raised M ys c0 q) → IsCounted A
IsCounted-mid M A c0 ys x d fresh row mid h =
    let S : Rows = settled M ys c0 in
    let n : ℕ = count_in (M c0) + bads M ys in
    let count_S : (q : Dot) → count_in (S q) ≡ count_in (M q) =
    λ q. column count_in (has ys q) (with_code (M q) c0) (M q) (code_cols (M q) c0).2 in
    IsCounted-raised M A c0 ys x d fresh
    (λ q. bad-same (M q) (A q) (mid.link q) (mid.marked q) (mid.again q)) mid.code
    (count-here S A c0 n (with_code_row (M c0) (has ys c0) c0 row) h)
    (λ c ne. count-other S A c0 n h c ne ∙ count_S c)
