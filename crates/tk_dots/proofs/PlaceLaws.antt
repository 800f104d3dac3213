-- A dot is known by its page and its place there. Key results:
--   get_seen    the value at a dot, in the map that pages hold, is the value at its place
--   same_place  two dots with one page and one place are equal
--   cases_dots  two dots are equal or not
use Rattle.std.proofs.Common.{◌≡◌, ◌≢◌, ℕ, zero, suc, ◌+◌, ◌*◌, ◌/◌, ◌%◌, ◌<◌, ◌≤◌}
use Rattle.std.proofs.Common.{Bool, true, false, cond, List, [], ◌∷◌, Option, Some, None}
use Rattle.std.proofs.Common.{refl, sym, ap, subst, ◌∙◌, ◌⊎◌, inl, inr, arith, get_or}
use Rattle.std.proofs.lemmas.Bool.{cases_Bool, cond-true, cond-false}
use Rattle.std.specs.Ordering.{eq_by_cmp, is_eq}
use Rattle.std.specs.FinMap as map
use Rattle.std.specs.Map.{lookup}
use Rattle.std.specs.BTreeMap.{is_at}
use Rattle.std.proofs.lemmas.Cmp.{tied_itself}
use Rattle.tk_handle.specs.declared.dot.Dot.{Dot}
use Rattle.tk_handle.specs.Dot.{dot_cmp, dot_cmp_total}
use Rattle.tk_handle.proofs.TestLaws.{tied}
use mathlib.Core.Bool.{false≢true}
use Rattle.tk_dots.specs.Pages.{span, page_of, Slots, Pages, slot_in, cell_at, with_slot}
use Rattle.tk_dots.specs.Pages.{with_places, with_page, seen}

-- equal dots tie
pub tied_same : (q d : Dot) → q ≡ d → eq_by_cmp dot_cmp q d ≡ true
tied_same q d e =
    subst (λ (x : Dot). eq_by_cmp dot_cmp q x ≡ true) e (ap is_eq (tied_itself dot_cmp_total q))

-- two dots are equal or not
pub cases_dots : (a b : Dot) → (a ≡ b) ⊎ (a ≢ b)
cases_dots a b = elim (cases_Bool (eq_by_cmp dot_cmp a b)) [
  | inl same ↦ inl (tied a b same)
  | inr apart ↦ inr (λ is. false≢true (sym apart ∙ tied_same a b is))
]

-- dots of one region and serial are equal
pub dot_is : (q d : Dot) → q.region ≡ d.region → q.serial ≡ d.serial → q ≡ d
dot_is q d e f = λ i. record { region = e i; serial = f i }

-- two dots with one page and one place are equal
pub same_place : (q d : Dot) → page_of q ≡ page_of d → q.serial % span ≡ d.serial % span → q ≡ d
same_place q d pages places =
    let e : q.serial / span + 1 ≡ d.serial / span + 1 = ap (λ (x : Dot). x.serial) pages in
    dot_is q d (ap (λ (x : Dot). x.region) pages) (omega arith)

module _ {X : Type 0} where
  -- the value at a dot, once a value or none was put at a dot
  get_slot : (m : map.FinMap dot_cmp X) (d : Dot) (o : Option X) (q : Dot)
      → map.get (with_slot m d o) q ≡ cond (eq_by_cmp dot_cmp q d) o (map.get m q)
  get_slot m d None q = map.get-remove dot_cmp_total m d q
  get_slot m d (Some x) q = map.get-insert dot_cmp_total m d x q

  -- a dot on the page, at one of the first n places
  here_places : (r p : ℕ) (os : List (Option X)) (n : ℕ) (m : map.FinMap dot_cmp X) (q : Dot)
      → n ≤ span → q.region ≡ r → q.serial / span ≡ p → q.serial % span < n
      → map.get (with_places r p os n m) q ≡ get_or os (q.serial % span) None
  unfolding with_places
  here_places r p os zero m q le region page below = absurd (omega arith)
  here_places r p os (suc n) m q le region page below =
      let d : Dot = record { region = r; serial = p * span + n } in
      get_slot (with_places r p os n m) d (get_or os n None) q
      ∙ elim (cases_Bool (eq_by_cmp dot_cmp q d)) [
        | inl same ↦
            let is : q.serial ≡ p * span + n = ap (λ (x : Dot). x.serial) (tied q d same) in
            let at : n ≡ q.serial % span = omega (arith, is, page) in
            cond-true _ _ _ same ∙ ap (λ (i : ℕ). get_or os i None) at
        | inr apart ↦
            let other : q.serial % span ≢ n = (λ e.
            absurd (false≢true
            (sym apart ∙ tied_same q d (dot_is q d region (omega (arith, page, e)))))) in
            cond-false _ _ _ apart
            ∙ here_places r p os n m q (omega arith) region page (omega (arith, other, below))
      ]

  -- any other dot
  other_places : (r p : ℕ) (os : List (Option X)) (n : ℕ) (m : map.FinMap dot_cmp X) (q : Dot)
      → n ≤ span → (q.region ≡ r → q.serial / span ≡ p → ⊥)
      → map.get (with_places r p os n m) q ≡ map.get m q
  unfolding with_places
  other_places r p os zero m q le off = refl
  other_places r p os (suc n) m q le off =
      let d : Dot = record { region = r; serial = p * span + n } in
      get_slot (with_places r p os n m) d (get_or os n None) q
      ∙ elim (cases_Bool (eq_by_cmp dot_cmp q d)) [
        | inl same ↦
            let is : q.serial ≡ p * span + n = ap (λ (x : Dot). x.serial) (tied q d same) in
            absurd (off (ap (λ (x : Dot). x.region) (tied q d same)) (omega (arith, is, le)))
        | inr apart ↦ cond-false _ _ _ apart ∙ other_places r p os n m q (omega arith) off
      ]

  -- the value at a dot, once a page was put over the others
  get_page : (r s : ℕ) (os : List (Option X)) (m : map.FinMap dot_cmp X) (q : Dot)
      → map.get (with_page r s os m) q
      ≡ cond (eq_by_cmp dot_cmp (page_of q) (record { region = r; serial = s }))
      (get_or os (q.serial % span) None) (map.get m q)
  unfolding with_page
  get_page r zero os m q =
      elim (cases_Bool (eq_by_cmp dot_cmp (page_of q) (record { region = r; serial = zero }))) [
        | inl same ↦
            let e : q.serial / span + 1 ≡ 0 =
            ap (λ (x : Dot). x.serial) (tied (page_of q) _ same) in
            absurd (omega arith)
        | inr apart ↦ sym (cond-false _ _ _ apart)
      ]
  get_page r (suc p) os m q =
      elim (cases_Bool (eq_by_cmp dot_cmp (page_of q) (record { region = r; serial = suc p }))) [
        | inl same ↦
            let e : q.serial / span + 1 ≡ suc p =
            ap (λ (x : Dot). x.serial) (tied (page_of q) _ same) in
            here_places r p os span m q (omega arith)
            (ap (λ (x : Dot). x.region) (tied (page_of q) _ same)) (omega (arith, e)) (omega arith)
            ∙ sym (cond-true _ _ _ same)
        | inr apart ↦
            other_places r p os span m q (omega arith)
            (λ e f. absurd
            (false≢true
            (sym apart ∙ tied_same (page_of q) (record { region = r; serial = suc p })
            (dot_is (page_of q) (record { region = r; serial = suc p }) e (omega (arith, f))))))
            ∙ sym (cond-false _ _ _ apart)
      ]

  -- the cell of one page or another is a cell of the one or the other
  cond_slot : (b : Bool) (v : Slots X) (o : Option (Slots X)) (i : ℕ)
      → cond b (get_or v.items i None) (slot_in o i) ≡ slot_in (cond b (Some v) o) i
  cond_slot true v o i = refl
  cond_slot false v o i = refl

  -- the value at a dot, in the map that a list of pages holds
  get_entries : (es : List (Dot × Slots X)) (q : Dot)
      → map.get (seen es) q ≡ slot_in (lookup (is_at (dot_cmp (page_of q))) es) (q.serial % span)
  get_entries [] q = map.get-empty dot_cmp q
  get_entries (e ∷ es) q =
      get_page e.0.region e.0.serial e.1.items (seen es) q
      ∙ ap (cond (eq_by_cmp dot_cmp (page_of q) e.0) (get_or e.1.items (q.serial % span) None))
      (get_entries es q)
      ∙ cond_slot (eq_by_cmp dot_cmp (page_of q) e.0) e.1 (lookup (is_at (dot_cmp (page_of q))) es)
      (q.serial % span)

  -- the value at a dot, in the map that pages hold
  pub get_seen : (m : Pages X) (q : Dot) → map.get (seen m.entries) q ≡ cell_at m q
  get_seen m q = get_entries m.entries q
