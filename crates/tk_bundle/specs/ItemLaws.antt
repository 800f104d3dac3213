-- An item's bytes are read as that item alone. Key results:
--   framed_exact   a value behind its length has one spelling
--   item_exact     an item has one spelling
--   dot_length     a dot has ten bytes
--   mark_fits      the mark of a dot has a spelling
use Rattle.std.proofs.Common.{◌≡◌, ℕ, ◌+◌, ◌<◌, Bool, true, false, cond, eqb, nat_le, List}
use Rattle.std.proofs.Common.{◌++◌}
use Rattle.std.proofs.Common.{length, Option, Some, None, refl, sym, ap, subst, ◌∙◌, append_assoc}
use Rattle.std.proofs.Common.{arith}
use Rattle.std.specs.Int.{w16, w64}
use Rattle.std.specs.Option.{option_map}
use Rattle.std.proofs.lemmas.Bool.Decides.{nat_tests}
use Rattle.std.proofs.lemmas.List.{length-append, take_at, drop_at}
use Rattle.tk_format.specs.Format.{◌>>=◌, Format, only, text, text_spelling, whole, number_spelling}
use Rattle.tk_format.specs.Exact.{IsBytes, IsBytes-drop, IsBytes-take, IsExact, Takes, bind_some}
use Rattle.tk_format.specs.Exact.{some_is, whole_takes, whole_again}
use Rattle.tk_format.specs.Laws.{text_exact, only_exact}
use Rattle.tk_format.specs.Spellings.{number_length}
use Rattle.tk_handle.specs.declared.dot.Dot.{Dot}
use Rattle.tk_handle.specs.DotBytes.{dot_field}
use Rattle.tk_handle.proofs.FormatLaws.{dot_field_exact}
use Rattle.tk_fact.specs.declared.body.Body.{Body}
use Rattle.tk_fact.specs.FactBytes.{body, fact, max_bytes}
use Rattle.tk_fact.specs.FactLaws.{fact_exact}
use Rattle.tk_fact.proofs.BodyLaws.{body_begins}
use Rattle.tk_store.specs.Slots.{Slot, Held, Skipped}
use Rattle.tk_store.specs.WholeStores.{as_slot}
use Rattle.tk_bundle.specs.Items.{dot_size, item_bytes, HasBytes, mark_at, item_in, behind_length}
use Rattle.tk_bundle.specs.Items.{item}

-- ---- a fact is longer than a dot

-- a body has a byte
body_long : (b : Body) → 0 < length (body.spell b)
body_long b =
    let begun = body_begins b in
    subst (λ (s : List ℕ). 0 < length s) (sym begun.1) (omega arith)

-- a dot has ten bytes
pub dot_length : (d : Dot) → length (dot_field.spell d) ≡ dot_size
dot_length d =
    length-append (number_spelling w16 d.region) (number_spelling w64 d.serial)
    ∙ ap (λ n. n + length (number_spelling w64 d.serial)) (number_length w16 d.region)
    ∙ ap (λ n. 2 + n) (number_length w64 d.serial)

-- no fact has as many bytes as a dot
pub fact_no_dot : (d : Dot) (b : Body) → eqb (length (fact.spell (d, b))) dot_size ≡ false
fact_no_dot d b =
    ap (λ n. eqb n dot_size) (length-append (dot_field.spell d) (body.spell b)
    ∙ ap (λ n. n + length (body.spell b)) (dot_length d))
    ∙ longer (length (body.spell b)) (body_long b)
  where
    longer : (n : ℕ) → 0 < n → eqb (dot_size + n) dot_size ≡ false
    longer n h = grind (arith, nat_tests)

-- ---- the item that all of some bytes spell

-- an item that is read from all of some bytes is spelled by them
in_takes : (bytes : List ℕ) (i : Dot × Slot) → IsBytes bytes → item_in bytes ≡ Some i
    → HasBytes i × (bytes ≡ item_bytes i)
in_takes bytes i fits e = by_length (eqb (length bytes) dot_size) e
  where
    read : (A : Type 0) (f : Format A) → IsExact f → (into : A → Dot × Slot)
        → option_map into (whole f bytes) ≡ Some i
        → (a : A) × f.Fits a × (bytes ≡ f.spell a) × (into a ≡ i)
    read A f exact into h = of (whole f bytes) refl h
      where
        of : (o : Option A) → whole f bytes ≡ o → option_map into o ≡ Some i
            → (a : A) × f.Fits a × (bytes ≡ f.spell a) × (into a ≡ i)
        of None is h = absurd cc
        of (Some a) is h =
            let w = whole_takes f exact bytes a fits is in
            (a, w.0, w.1, some_is (into a) i h)

    by_length : (t : Bool) → cond t (option_map mark_at (whole dot_field bytes))
        (option_map as_slot (whole fact bytes)) ≡ Some i → HasBytes i × (bytes ≡ item_bytes i)
    by_length true h =
        let r = read Dot dot_field dot_field_exact mark_at h in
        subst (λ (j : Dot × Slot). HasBytes j × (bytes ≡ item_bytes j)) r.3 (r.1, r.2)
    by_length false h =
        let r = read (Dot × Body) fact fact_exact as_slot h in
        subst (λ (j : Dot × Slot). HasBytes j × (bytes ≡ item_bytes j)) r.3 (r.1, r.2)

-- an item is read from all of its bytes
in_again : (i : Dot × Slot) → HasBytes i → item_in (item_bytes i) ≡ Some i
in_again (d, Held b) fits = rw (fact_no_dot d b, whole_again fact fact_exact (d, b) fits) refl
in_again (d, Skipped) fits =
    rw (ap (λ n. eqb n dot_size) (dot_length d), whole_again dot_field dot_field_exact d fits) refl

-- ---- behind its length

-- a text of limited length has one spelling
short_exact : IsExact (only (λ t. nat_le (length t) max_bytes) text)
short_exact = only_exact (λ t. nat_le (length t) max_bytes) text text_exact

-- a text that is read from bytes consists of bytes
IsBytes-text : (bytes s rest : List ℕ) → IsBytes bytes → Takes bytes (text.spell s) rest → IsBytes s
unfolding text_spelling
IsBytes-text bytes s rest fits t =
    let size = number_spelling w16 (length s) in
    let all : IsBytes (size ++ (s ++ rest)) =
    subst IsBytes (t.parts ∙ append_assoc size s rest) fits in
    let behind : IsBytes (s ++ rest) = subst IsBytes (drop_at size (s ++ rest) (length size) refl)
    (IsBytes-drop (length size) (size ++ (s ++ rest)) all) in
    subst IsBytes (take_at s rest (length s) refl) (IsBytes-take (length s) (s ++ rest) behind)

module _ {A : Type 0} (bytes_of : A → List ℕ) (HasAll : A → Type 0) (value_in : List ℕ → Option A)
    (taken : (bytes : List ℕ) (a : A) → IsBytes bytes → value_in bytes ≡ Some a
    → HasAll a × (bytes ≡ bytes_of a)) where
  -- the format of a value behind its length
  abbrev framed : Format A
  framed = behind_length bytes_of HasAll value_in

  -- a value that is read behind its length has its spelling there, and fits
  framed_takes : (bytes : List ℕ) (x : A × List ℕ) → IsBytes bytes → framed.read bytes ≡ Some x
      → Takes bytes (framed.spell x.0) x.1 × framed.Fits x.0
  framed_takes bytes x fits e =
      let t = bind_some ((only (λ t. nat_le (length t) max_bytes) text).read bytes)
      (λ t. value_in t.0 >>= λ a. Some (a, t.1)) x e in
      let w = bind_some (value_in t.0.0) (λ a. Some (a, t.0.1)) x t.2 in
      let first = short_exact.takes bytes t.0 fits t.1 in
      let inside = taken t.0.0 w.0 (IsBytes-text bytes t.0.0 t.0.1 fits first.0) w.1 in
      subst (λ (y : A × List ℕ). Takes bytes (framed.spell y.0) y.1 × framed.Fits y.0)
      (some_is (w.0, t.0.1) x w.2)
      (subst (λ (s : List ℕ). Takes bytes (text.spell s) t.0.1
      × (HasAll w.0 × (text.Fits s × (nat_le (length s) max_bytes ≡ true)))) inside.1
      (first.0, (inside.0, first.1)))

  -- a value behind its length has one spelling, if all of its bytes are read as it
  pub framed_exact : ((a : A) → HasAll a → value_in (bytes_of a) ≡ Some a) → IsExact framed
  framed_exact again = record {
    takes = framed_takes;
    again = λ a rest fits.
        rw (short_exact.again (bytes_of a) rest fits.1, again a fits.0) refl;
  }

-- an item has one spelling
pub item_exact : IsExact item
item_exact = framed_exact item_bytes HasBytes item_in in_takes in_again

-- the mark of a dot has a spelling
pub mark_fits : (d : Dot) → dot_field.Fits d → item.Fits (d, Skipped)
mark_fits d fits =
    (fits, (omega (arith, dot_length d), ap (λ n. nat_le n max_bytes) (dot_length d)))
