-- The texts of dots and ids are read back, and nothing else is read. Key results:
--   parted_back, parted_found   `parted_in` finds the dot of a text, and nothing in any other text
--   reads_id                    a reader that agrees with `id_in` reads exactly the ids of dots
--   parted_injective            two dots with one text are equal
use Rattle.std.proofs.Common.{◌≡◌, ◌≢◌, ℕ, ◌+◌, ◌<◌, ◌≤◌, ◌^◌, true, false, ◌&&◌, ◌==◌, cond, List}
use Rattle.std.proofs.Common.{[], ◌∷◌, ◌++◌, length, get_or, take, drop, Option, Some, None, IfSome}
use Rattle.std.proofs.Common.{IfNone, suc, refl, sym, ap, subst, ◌∙◌, arith, decimal, inl, inr}
use Rattle.std.proofs.Common.{eqb-true as same_number, ne_eqb as other_than}
use Rattle.std.specs.Int.{IsInRange}
use Rattle.std.specs.List.{position_or_len, before_first, after_first}
use Rattle.std.proofs.lemmas.Bool.{cases_lt}
use Rattle.std.proofs.lemmas.Bool.Decides.{nat_tests}
use Rattle.std.proofs.lemmas.Fmt.{digits_decimal, decimal_nonempty}
use Rattle.std.proofs.lemmas.Grind.{common_steps}
use Rattle.std.proofs.lemmas.List.{length-drop}
use Rattle.std.proofs.lemmas.List.Sums.{position_or_len_is, split_at_first, passes_at_first}
use Rattle.std.proofs.lemmas.Str.Parse.{not_in_digits}
use Rattle.tk_format.specs.Decimals.{decimal_in}
use Rattle.tk_format.proofs.DecimalLaws.{own, decimal_back, decimal_found}
use Rattle.tk_handle.specs.declared.dot.Dot.{Dot}
use Rattle.tk_handle.specs.Dot.{IsDot}
use Rattle.tk_handle.specs.Ranges.{is_region, is_serial, IsRegion, IsSerial}
use Rattle.tk_handle.specs.DotText.{colon, dash, parted_text, id_text, IsPartedText, IsDotText}
use Rattle.tk_handle.specs.DotText.{IsNoDotText, IsIdText, ReadsId, dot_at, parted_in, id_in}
use Rattle.std.proofs.lemmas.Option.{none-some as none_is_not_some}

-- ---- lists

-- a byte of the first of two texts is at the same place in both together
get_or_left : (xs ys : List ℕ) (k : ℕ) → k < length xs → get_or (xs ++ ys) k 0 ≡ get_or xs k 0
get_or_left xs ys k lt = grind (arith, common_steps)

-- the byte behind a text is at the place of the text's length
get_or_seam : (xs ys : List ℕ) (c : ℕ) → get_or (xs ++ c ∷ ys) (length xs) 0 ≡ c
get_or_seam xs ys c = grind (arith, common_steps)

-- the first bytes of two texts, as many as the first has, are the first text
take_left : (xs ys : List ℕ) → take (length xs) (xs ++ ys) ≡ xs
take_left [] ys = refl
take_left (x ∷ xs) ys = ap (λ l. x ∷ l) (take_left xs ys)

-- what is behind a text and one byte is the rest
drop_right : (xs ys : List ℕ) (c : ℕ) → drop (length xs + 1) (xs ++ c ∷ ys) ≡ ys
drop_right xs ys c =
    subst (λ n. drop n (xs ++ c ∷ ys) ≡ ys) {x = suc (length xs)} (omega arith) (go xs)
  where
    go : (xs : List ℕ) → drop (suc (length xs)) (xs ++ c ∷ ys) ≡ ys
    go [] = refl
    go (x ∷ xs) = go xs

-- a text with a byte behind is longer
longer : (xs ys : List ℕ) (c : ℕ) → length xs < length (xs ++ c ∷ ys)
longer xs ys c = grind (arith, common_steps)

-- ---- numbers

-- a byte equals itself, by the test
itself : (c : ℕ) → (c == c) ≡ true
itself c = grind (arith, nat_tests)

-- the numbers of a dot in range are below 2^64
region_fits : (d : Dot) → IsDot d → d.region < 2 ^ 64
region_fits d h = omega arith

-- the serial of a dot in range is below 2^64
serial_fits : (d : Dot) → IsDot d → d.serial < 2 ^ 64
serial_fits d h = omega arith

-- a region and a serial in range are those of a dot
in_range : (r s : ℕ) → IsRegion r → IsSerial s
    → dot_at (Some r) (Some s) ≡ Some (record { region = r; serial = s })
in_range r s a b = grind (arith, nat_tests)

-- the numbers of a dot that `dot_at` found, and their ranges
numbers_of : (x y : Option ℕ) (d : Dot) → dot_at x y ≡ Some d
    → (x ≡ Some d.region) × (y ≡ Some d.serial) × IsDot d
numbers_of None y d h = absurd (none_is_not_some d h)
numbers_of (Some r) None d h = absurd (none_is_not_some d h)
numbers_of (Some r) (Some s) d h =
    elim (is_region r && is_serial s) as
    (λ t. (is_region r && is_serial s) ≡ t
    → cond t (Some (record { region = r; serial = s })) None ≡ Some d
    → (Some r ≡ Some d.region) × (Some s ≡ Some d.serial) × IsDot d) [
      | true ↦ λ t k.
          let same : record { region = r; serial = s } ≡ d = some_injective k in
          let region : r ≡ d.region = ap (λ (x : Dot). x.region) same in
          let serial : s ≡ d.serial = ap (λ (x : Dot). x.serial) same in
          let a = ranges r s t in
          (ap Some region, ap Some serial, (subst IsRegion region a.0, subst IsSerial serial a.1))
      | false ↦ λ _ k. absurd (none_is_not_some d k)
    ] refl h
  where
    some_injective : {x y : Dot} → Some x ≡ Some y → x ≡ y
    some_injective h = cc

    ranges : (r s : ℕ) → (is_region r && is_serial s) ≡ true → IsRegion r × IsSerial s
    ranges r s t = let a : IsRegion r = grind (arith, nat_tests) in
        let b : IsSerial s = grind (arith, nat_tests) in (a, b)

-- ---- any byte that is no digit between the numbers

module _ (mark : ℕ) (parts : ¬ (IsInRange 48 57 mark)) where
  -- the decimal of a number does not contain the byte `mark`
  no_mark : (n : ℕ) → n < 2 ^ 64 → (i : ℕ) → i < length (decimal n) → get_or (decimal n) i 0 ≢ mark
  no_mark n high = not_in_digits own (decimal n) mark (digits_decimal own n high) parts

  -- the first `mark` in the text of a dot is right behind the region's number
  mark_at : (d : Dot) → IsDot d
      → position_or_len (λ b. b == mark) (parted_text mark d) ≡ length (decimal d.region)
  mark_at d h =
      let dr = decimal d.region in
      let ds = decimal d.serial in
      let l = longer dr ds mark in
      position_or_len_is (λ b. b == mark) (dr ++ mark ∷ ds) (length dr) 0 (omega arith)
      (λ k lt. ap (λ b. b == mark) (get_or_left dr (mark ∷ ds) k lt)
      ∙ other_than _ mark (no_mark d.region (region_fits d h) k lt))
      (λ _. ap (λ b. b == mark) (get_or_seam dr ds mark) ∙ itself mark)

  -- the two numbers of a dot are the texts before and behind the first `mark`
  pub before_mark : (d : Dot) → IsDot d
      → before_first (λ b. b == mark) (parted_text mark d) ≡ decimal d.region
  before_mark d h = ap (λ n. take n (parted_text mark d)) (mark_at d h)
      ∙ take_left (decimal d.region) (mark ∷ decimal d.serial)

  -- the text behind the mark is the decimal form of the serial
  pub after_mark : (d : Dot) → IsDot d
      → after_first (λ b. b == mark) (parted_text mark d) ≡ decimal d.serial
  after_mark d h = ap (λ n. drop (n + 1) (parted_text mark d)) (mark_at d h)
      ∙ drop_right (decimal d.region) (decimal d.serial) mark

  -- the parted text of a dot is read as the dot
  pub parted_back : (d : Dot) → IsDot d → parted_in mark (parted_text mark d) ≡ Some d
  parted_back d h =
      ap (λ t. dot_at (decimal_in t)
      (decimal_in (after_first (λ b. b == mark) (parted_text mark d)))) (before_mark d h)
      ∙ ap (λ t. dot_at (decimal_in (decimal d.region)) (decimal_in t)) (after_mark d h)
      ∙ ap (λ o. dot_at o (decimal_in (decimal d.serial))) (decimal_back d.region (region_fits d h))
      ∙ ap (dot_at (Some d.region)) (decimal_back d.serial (serial_fits d h))
      ∙ in_range d.region d.serial h.0 h.1

  -- two dots with one text are equal
  pub parted_injective : (a b : Dot) → IsDot a → IsDot b → parted_text mark a ≡ parted_text mark b
      → a ≡ b
  parted_injective a b one other same =
      some_injective (sym (parted_back a one) ∙ ap (parted_in mark) same ∙ parted_back b other)
    where
      some_injective : {x y : Dot} → Some x ≡ Some y → x ≡ y
      some_injective h = cc

-- a text without the byte `mark` has no number behind that byte
nothing_behind : (mark : ℕ) (text : List ℕ) (n : ℕ)
    → length text ≤ position_or_len (λ b. b == mark) text
    → decimal_in (after_first (λ b. b == mark) text) ≢ Some n
nothing_behind mark text n none e =
    let h = decimal_found (after_first (λ b. b == mark) text) n e in
    let long = decimal_nonempty n h.fits in
    let same = ap length h.spelled in
    let short = length-drop (position_or_len (λ b. b == mark) text + 1) text in
    omega (arith, long, same, short)

-- a text that is read as a dot is its parted text
pub parted_found : (mark : ℕ) (text : List ℕ) (d : Dot) → parted_in mark text ≡ Some d
    → IsPartedText mark text d
parted_found mark text d h =
    let n = numbers_of _ _ d h in
    elim (cases_lt (position_or_len (λ b. b == mark) text) (length text)) [
      | inl there ↦ record {
        range = n.2;
        spelled =
            split_at_first (λ b. b == mark) text 0 there
            ∙ ap (λ (c : ℕ).
            before_first (λ b. b == mark) text ++ c ∷ after_first (λ b. b == mark) text)
            (same_number _ mark (passes_at_first (λ b. b == mark) text 0 there))
            ∙ ap (λ l. l ++ mark ∷ after_first (λ b. b == mark) text)
            (decimal_found (before_first (λ b. b == mark) text) d.region n.0).spelled
            ∙ ap (λ l. decimal d.region ++ mark ∷ l)
            (decimal_found (after_first (λ b. b == mark) text) d.serial n.1).spelled;
      }
      | inr absent ↦ absurd (nothing_behind mark text d.serial absent n.1)
    ]

-- ---- dots

-- a colon is no digit
pub colon_parts : ¬ (IsInRange 48 57 colon)
colon_parts h = absurd (omega (arith, h.1))

-- a dash is no digit
dash_parts : ¬ (IsInRange 48 57 dash)
dash_parts h = absurd (omega (arith, h.0))

-- a reader that agrees with `parted_in` reads exactly the texts of dots
pub dot_found : (text : List ℕ) (r : Option Dot) → r ≡ parted_in colon text
    → IfSome r (IsDotText text)
dot_found text None e = tt
dot_found text (Some d) e = parted_found colon text d (sym e)

-- a text that is read as no dot is the text of none
pub dot_none : (text : List ℕ) (r : Option Dot) → r ≡ parted_in colon text
    → IfNone r (IsNoDotText text)
dot_none text None e = λ d h. none_is_not_some d
    (e ∙ ap (parted_in colon) h.spelled ∙ parted_back colon colon_parts d h.range)
dot_none text (Some d) e = tt

-- ---- ids

-- the id of a dot is read as the dot
pub id_back : (letter : ℕ) (d : Dot) → IsDot d → id_in letter (id_text letter d) ≡ Some d
id_back letter d h = ap (λ t. cond t (parted_in dash (parted_text dash d)) None) (itself letter)
    ∙ parted_back dash dash_parts d h

-- a text that is read as an id is the id of its dot
pub id_found : (letter : ℕ) (text : List ℕ) (d : Dot) → id_in letter text ≡ Some d
    → IsIdText letter text d
id_found letter [] d h = absurd (none_is_not_some d h)
id_found letter (b ∷ rest) d h =
    elim (b == letter) as
    (λ t. (b == letter) ≡ t → cond t (parted_in dash rest) None ≡ Some d
    → IsIdText letter (b ∷ rest) d) [
      | true ↦ λ t k.
          let p = parted_found dash rest d k in
          record {
            range = p.range;
            spelled =
                ap (λ (x : ℕ). x ∷ rest) (same_number b letter t) ∙ ap (λ l. letter ∷ l) p.spelled;
          }
      | false ↦ λ _ k. absurd (none_is_not_some d k)
    ] refl h

-- reading an id finds the dot whose id it is, or that it is none
pub reads_id : (letter : ℕ) (text : List ℕ) → ReadsId letter text (id_in letter text)
reads_id letter text = go (id_in letter text) refl
  where
    go : (o : Option Dot) → id_in letter text ≡ o → ReadsId letter text o
    go (Some d) e = id_found letter text d e
    go None e =
        λ d h. none_is_not_some d (sym e ∙ ap (id_in letter) h.spelled ∙ id_back letter d h.range)
