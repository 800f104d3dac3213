-- The number whose decimal a text is. Key results:
--   decimals_in      `decimal_in` finds the number of a decimal, and nothing in any other text
--   decimal_back     a number is found in its decimal
--   no_decimal       a text in which `decimal_in` finds nothing is the decimal of no number
use Rattle.std.proofs.Common.{◌≡◌, ◌≢◌, ℕ, zero, suc, ◌<◌, ◌^◌, true, false, ◌&&◌, nat_lt, cond}
use Rattle.std.proofs.Common.{List, length, get_or, Option, Some, None, refl, sym, ap, ◌∙◌, subst}
use Rattle.std.proofs.Common.{arith, decimal, IfNone, MatchOption, Result, Ok, Err}
use Rattle.std.proofs.Common.{lt-ltb as test_from_lt, ltb-true as lt_from_test}
use Rattle.std.specs.Str.{IsUtf8, bytes_eq}
use Rattle.std.specs.Str.Parse.{digits_value, ParsesUnsigned, AllDigits}
use Rattle.std.specs.Result.{result_ok}
use Rattle.std.proofs.lemmas.Fmt.{decimal-digits_value, digits_value-decimal, digits_decimal}
use Rattle.std.proofs.lemmas.Fmt.{first_decimal, decimal_nonempty, decimal_injective}
use Rattle.std.proofs.lemmas.Fmt.{IsAscii-decimal, decimal_digit}
use Rattle.std.proofs.lemmas.Slice.Eq.{bytes_eq-Decides}
use Rattle.std.proofs.lemmas.Str.{IsUtf8-from_ascii}
use Rattle.std.proofs.lemmas.Str.Parse.{IsNumeralModel, numerals_by_value, tells_digits}
use Rattle.std.proofs.lemmas.Str.Parse.{parse_plain, not_in_digits}
use mathlib.Core.Bool.{false≢true}
use Rattle.tk_format.specs.Decimals.{IsDecimalOf, IsNoDecimal, decimal_in}
use Rattle.std.proofs.lemmas.Bool.{and_parts as both_true}
use Rattle.std.proofs.lemmas.Option.{none-some as none_is_not_some}

-- decimals meet the model of numerals of std's laws
pub own : IsNumeralModel (AllDigits 10) (digits_value 10)
own = numerals_by_value (AllDigits 10) tells_digits

-- r is what the text is as a decimal: a number and its decimal, or nothing and no decimal
abbrev pub ReadsDecimal : List ℕ → Option ℕ → Type 0
ReadsDecimal text r = MatchOption r (IsNoDecimal text) (IsDecimalOf text)

-- a text is the decimal of at most one number
one_number : (text : List ℕ) (r s : Option ℕ) → ReadsDecimal text r → ReadsDecimal text s → r ≡ s
one_number text None None f g = refl
one_number text None (Some n) f g = absurd (f n g)
one_number text (Some m) None f g = absurd (g m f)
one_number text (Some m) (Some n) f g =
    ap Some (decimal_injective m n f.fits g.fits (sym f.spelled ∙ g.spelled))

-- the number of a decimal is the value of its digits
value_of : (text : List ℕ) (n : ℕ) → IsDecimalOf text n → digits_value 10 text ≡ n
value_of text n h = ap (digits_value 10) h.spelled ∙ digits_value-decimal own n h.fits

-- `decimal_in` gives the number of a decimal, and nothing for any other text
pub decimals_in : (text : List ℕ) → ReadsDecimal text (decimal_in text)
decimals_in text =
    let n = digits_value 10 text in
    elim (nat_lt n (2 ^ 64) && bytes_eq (decimal n) text) as
    (λ b. (nat_lt n (2 ^ 64) && bytes_eq (decimal n) text) ≡ b
    → ReadsDecimal text (cond b (Some n) None)) [
      | true ↦ λ e.
          let p = both_true _ _ e in
          record {
            fits = lt_from_test n _ p.0;
            spelled = sym ((bytes_eq-Decides (decimal n) text).0 p.1);
          }
      | false ↦ λ e m h.
          let v = value_of text m h in
          let b : nat_lt n (2 ^ 64) ≡ true = test_from_lt n (2 ^ 64) (omega (arith, v, h.fits)) in
          let d : bytes_eq (decimal n) text ≡ true =
          (bytes_eq-Decides (decimal n) text).1 (ap decimal v ∙ sym h.spelled) in
          false≢true (sym e ∙ ap (λ t. t && bytes_eq (decimal n) text) b ∙ d)
    ] refl

-- a reader that meets `ReadsDecimal` returns what `decimal_in` finds
pub is_decimal_in : (text : List ℕ) (r : Option ℕ) → ReadsDecimal text r → r ≡ decimal_in text
is_decimal_in text r h = one_number text r _ h (decimals_in text)

-- a text in which `decimal_in` finds nothing is no decimal
pub none_in : (text : List ℕ) (r : Option ℕ) → r ≡ decimal_in text → IfNone r (IsNoDecimal text)
none_in text None e = subst (ReadsDecimal text) (sym e) (decimals_in text)
none_in text (Some n) e = tt

-- a text in which `decimal_in` finds n is the decimal of n
pub decimal_found : (text : List ℕ) (n : ℕ) → decimal_in text ≡ Some n → IsDecimalOf text n
decimal_found text n e = subst (ReadsDecimal text) e (decimals_in text)

-- a number below 2^64 is found in its decimal
pub decimal_back : (n : ℕ) → n < 2 ^ 64 → decimal_in (decimal n) ≡ Some n
decimal_back n fits =
    sym (is_decimal_in (decimal n) (Some n) (record { fits = fits; spelled = refl }))

-- a text in which `decimal_in` finds nothing is the decimal of no number below 2^64
pub no_decimal : (text : List ℕ) (n : ℕ) → decimal_in text ≡ None → n < 2 ^ 64 → text ≢ decimal n
no_decimal text n none fits same =
    none_is_not_some n (sym none ∙ ap decimal_in same ∙ decimal_back n fits)

-- ---- reading a decimal by parsing

-- what parsing gives for a text with no plus in front and no zero before other digits is its
-- decimal
pub parsed : {E : Type 0} (text : List ℕ) (r : Result ℕ E) → ParsesUnsigned 64 10 text r
    → get_or text 0 0 ≢ 43 → (get_or text 0 0 ≡ 48 → length text ≡ 1)
    → ReadsDecimal text (result_ok r)
parsed {E} text (Ok n) h plus zero_alone =
    let p = parse_plain own {E = E} 64 text (Ok n) h plus in
    let same : decimal n ≡ text =
    ap decimal p.1 ∙ decimal-digits_value own text p.0.0 p.0.1 zero_alone p.0.2 in
    record { fits = omega (arith, p.0.2, p.1); spelled = sym same }
parsed {E} text (Err e) h plus zero_alone = λ n d.
    parse_plain own {E = E} 64 text (Err e) h plus (
      subst (AllDigits 10) (sym d.spelled) (digits_decimal own n d.fits),
      subst (λ t. 0 < length t) (sym d.spelled) (decimal_nonempty n d.fits),
      omega (arith, value_of text n d, d.fits),
    )

-- no decimal begins with a plus
pub no_plus : (text : List ℕ) → get_or text 0 0 ≡ 43 → IsNoDecimal text
no_plus text plus n h =
    not_in_digits own text 43 (subst (AllDigits 10) (sym h.spelled) (digits_decimal own n h.fits))
    (λ r. absurd (omega (arith, r.0))) 0
    (subst (λ t. 0 < length t) (sym h.spelled) (decimal_nonempty n h.fits)) plus

-- no decimal goes on after a leading zero
pub no_zero : (text : List ℕ) → get_or text 0 0 ≡ 48 → 1 < length text → IsNoDecimal text
no_zero text first long zero h =
    let e = ap length (sym (decimal_digit 0 (omega arith)) ∙ sym h.spelled) in
    absurd (omega (arith, e, long))
no_zero text first long (suc n) h =
    let f = first_decimal (suc n) (omega arith) h.fits in
    let e = ap (λ t. get_or t 0 0) h.spelled in
    absurd (omega (arith, f, e, first))

-- no decimal is empty
pub no_nothing : (text : List ℕ) → length text < 1 → IsNoDecimal text
no_nothing text short n h =
    let f = decimal_nonempty n h.fits in
    let e = ap length h.spelled in
    absurd (omega (arith, f, e, short))

-- no decimal is other than UTF-8
pub no_text : (text : List ℕ) → ¬ (IsUtf8 text) → IsNoDecimal text
no_text text bad n h =
    bad (subst IsUtf8 (sym h.spelled) (IsUtf8-from_ascii _ (IsAscii-decimal n h.fits)))
