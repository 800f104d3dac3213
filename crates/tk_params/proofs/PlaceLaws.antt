-- Places of pairs in bytes that grow. Key results:
--   all_stay     places stay places behind which bytes are added
--   same_pairs   and their pairs stay the same
--   all_added    one more pair behind the others is at a place
--   one_more     and is the last of the pairs
use Rattle.std.proofs.Common.{◌≡◌, ℕ, zero, suc, ◌+◌, ◌-◌, ◌≤◌, List, [], ◌∷◌, ◌++◌, length, take}
use Rattle.std.proofs.Common.{drop}
use Rattle.std.proofs.Common.{refl, sym, ap, ap₂, subst, ◌∙◌, arith, append_assoc}
use Rattle.std.specs.Prelude.{All, IsUtf8, slice_range}
use Rattle.std.proofs.Math.Seq.{drop-append_seam, take-append_seam, take-length}
use Rattle.std.proofs.lemmas.List.{take-append-le, drop-append-le, length-append, length-drop}
use Rattle.std.proofs.lemmas.List.{map-append}
use Rattle.std.proofs.lemmas.List.Elements.{All-append}
use Rattle.tk_params.specs.declared.place.Place.{Place}
use Rattle.tk_params.specs.Places.{IsPlace, pair_at, pairs_at}

-- a part of bytes is the same once bytes are added behind them
same_part : (text more : List ℕ) (i j : ℕ) → i ≤ j → j ≤ length text
    → slice_range (text ++ more) i j ≡ slice_range text i j
same_part text more i j low high =
    ap (take (j - i)) (drop-append-le i text more (omega arith))
    ∙ take-append-le (j - i) (drop i text) more (omega (arith, length-drop i text))

-- the pair at a place is the same once bytes are added behind
same_pair : (text more : List ℕ) (p : Place) → IsPlace text p
    → pair_at (text ++ more) p ≡ pair_at text p
same_pair text more p h =
    ap₂ (λ (name value : List ℕ). (name, value))
    (same_part text more p.start p.middle h.starts (omega (arith, h.parted, h.within)))
    (same_part text more p.middle p.end h.parted h.within)

-- a place is a place still once bytes are added behind
stays : (text more : List ℕ) (p : Place) → IsPlace text p → IsPlace (text ++ more) p
stays text more p h = record {
  starts = h.starts;
  parted = h.parted;
  within = omega (arith, h.within, length-append text more);
  utf8 = subst IsUtf8 (sym (same_part text more p.middle p.end h.parted h.within)) h.utf8;
}

-- places stay places, if bytes are added
pub all_stay : (text more : List ℕ) (places : List Place) → All (IsPlace text) places
    → All (IsPlace (text ++ more)) places
all_stay text more places all k d less = stays text more _ (all k d less)

-- the pairs at places stay the same, if bytes are added
pub same_pairs : (text more : List ℕ) (places : List Place) → All (IsPlace text) places
    → pairs_at (text ++ more) places ≡ pairs_at text places
same_pairs text more [] all = refl
same_pairs text more (p ∷ places) all =
    ap₂ (λ pair pairs. pair ∷ pairs) (same_pair text more p (all 0 p (omega arith)))
    (same_pairs text more places (λ k d less. all (suc k) d (omega (arith, less))))

-- a place alone
alone : (text : List ℕ) (p : Place) → IsPlace text p → All (IsPlace text) (p ∷ [])
alone text p h zero d less = h
alone text p h (suc k) d less = absurd (omega arith)

-- the pair that was added is at its place
new_pair : (text name value : List ℕ) (p : Place) → p.start ≡ length text
    → p.middle ≡ length text + length name → p.end ≡ length text + length name + length value
    → pair_at ((text ++ name) ++ value) p ≡ (name, value)
new_pair text name value p e1 e2 e3 =
    let front : length (text ++ name) ≡ p.middle = omega (arith, length-append text name) in
    let behind : drop p.start ((text ++ name) ++ value) ≡ name ++ value =
    ap (drop p.start) (append_assoc text name value) ∙ ap (λ n. drop n (text ++ (name ++ value))) e1
    ∙ drop-append_seam text (name ++ value) in
    let first : slice_range ((text ++ name) ++ value) p.start p.middle ≡ name =
    ap (take (p.middle - p.start)) behind
    ∙ ap (λ n. take n (name ++ value)) (let n : p.middle - p.start ≡ length name = omega arith in n)
    ∙ take-append_seam name value in
    let rest : drop p.middle ((text ++ name) ++ value) ≡ value =
    ap (λ n. drop n ((text ++ name) ++ value)) (sym front)
    ∙ drop-append_seam (text ++ name) value in
    let second : slice_range ((text ++ name) ++ value) p.middle p.end ≡ value =
    ap (take (p.end - p.middle)) rest
    ∙ ap (λ n. take n value) (let n : p.end - p.middle ≡ length value = omega arith in n)
    ∙ take-length value in
    ap₂ (λ (x y : List ℕ). (x, y)) first second

-- a pair that is added behind the others is at a place
pub all_added : (text name value : List ℕ) (places : List Place) (p : Place) → p.start ≡ length text
    → p.middle ≡ length text + length name → p.end ≡ length text + length name + length value
    → IsUtf8 value → All (IsPlace text) places
    → All (IsPlace ((text ++ name) ++ value)) (places ++ p ∷ [])
all_added text name value places p e1 e2 e3 utf8 all =
    let here : IsPlace ((text ++ name) ++ value) p = record {
      starts = omega arith;
      parted = omega arith;
      within = omega (arith, length-append (text ++ name) value, length-append text name);
      utf8 = subst IsUtf8 (sym (ap (λ pair. pair.1) (new_pair text name value p e1 e2 e3))) utf8;
    } in
    All-append (IsPlace ((text ++ name) ++ value)) places (p ∷ [])
    (all_stay (text ++ name) value places (all_stay text name places all))
    (alone ((text ++ name) ++ value) p here)

-- a pair that is added behind the others is the last
pub one_more : (text name value : List ℕ) (places : List Place) (p : Place) → p.start ≡ length text
    → p.middle ≡ length text + length name → p.end ≡ length text + length name + length value
    → All (IsPlace text) places
    → pairs_at ((text ++ name) ++ value) (places ++ p ∷ [])
    ≡ pairs_at text places ++ (name, value) ∷ []
one_more text name value places p e1 e2 e3 all =
    map-append _ places (p ∷ [])
    ∙ ap₂ (λ pairs pair. pairs ++ pair ∷ [])
    (same_pairs (text ++ name) value places (all_stay text name places all)
    ∙ same_pairs text name places all)
    (new_pair text name value p e1 e2 e3)
