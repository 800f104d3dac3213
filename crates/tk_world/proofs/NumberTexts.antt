-- A text that is read as a number in a range. Key results:
--   region_found   a region's text is the decimal of a number in the range of regions
--   moment_found   a moment's text is the decimal of a number in the range of moments
--   no_region      a text that isn't read is the decimal of no region's number
--   no_moment      a text that isn't read is the decimal of no moment
use Rattle.std.proofs.Common.{◌≡◌, ◌≢◌, ℕ, ◌<◌, ◌^◌, Bool, true, false, cond, List, Option, Some}
use Rattle.std.proofs.Common.{None, refl, sym, ap, ◌∙◌, arith, decimal}
use Rattle.std.proofs.lemmas.Bool.Decides.{nat_tests}
use Rattle.tk_format.specs.Decimals.{decimal_in}
use Rattle.tk_format.proofs.DecimalLaws.{decimal_back, decimal_found}
use Rattle.tk_handle.specs.Ranges.{IsRegion, IsMoment, is_region, is_moment}
use Rattle.tk_world.specs.Fields.{passing, region_in, moment_in}
use Rattle.std.proofs.lemmas.Option.{none-some as none_is_not_some}

-- a number that passes is there and passes the test
passed : (test : ℕ → Bool) (o : Option ℕ) (n : ℕ) → passing test o ≡ Some n
    → (o ≡ Some n) × (test n ≡ true)
passed test None n e = absurd (none_is_not_some n e)
passed test (Some m) n e = go (test m) refl e
  where
    go : (b : Bool) → test m ≡ b → cond b (Some m) None ≡ Some n
        → (Some m ≡ Some n) × (test n ≡ true)
    go true t e = let same : m ≡ n = cc in (e, ap test (sym same) ∙ t)
    go false t e = absurd (none_is_not_some n e)

-- a number that is there and passes the test is the result
given : (test : ℕ → Bool) (n : ℕ) → n < 2 ^ 64 → test n ≡ true
    → passing test (decimal_in (decimal n)) ≡ Some n
given test n fits t = ap (passing test) (decimal_back n fits) ∙ ap (λ b. cond b (Some n) None) t

-- a text that is read as a region's number is the decimal form of a region's number
pub region_found : (text : List ℕ) (n : ℕ) → region_in text ≡ Some n
    → IsRegion n × (text ≡ decimal n)
region_found text n e =
    let p = passed is_region (decimal_in text) n e in
    (range n p.1, (decimal_found text n p.0).spelled)
  where
    range : (n : ℕ) → is_region n ≡ true → IsRegion n
    range n t = grind (arith, nat_tests)

-- a text that is read as a moment is the decimal form of a moment
pub moment_found : (text : List ℕ) (n : ℕ) → moment_in text ≡ Some n
    → IsMoment n × (text ≡ decimal n)
moment_found text n e =
    let p = passed is_moment (decimal_in text) n e in
    (range n p.1, (decimal_found text n p.0).spelled)
  where
    range : (n : ℕ) → is_moment n ≡ true → IsMoment n
    range n t = grind (arith, nat_tests)

-- a text that is read as no region's number is the decimal form of none
pub no_region : (text : List ℕ) (n : ℕ) → region_in text ≡ None → IsRegion n → text ≢ decimal n
no_region text n none range same = none_is_not_some n
    (sym none ∙ ap region_in same ∙ given is_region n (omega arith) (test n range))
  where
    test : (n : ℕ) → IsRegion n → is_region n ≡ true
    test n h = grind (arith, nat_tests)

-- a text that is read as no moment is the decimal form of none
pub no_moment : (text : List ℕ) (n : ℕ) → moment_in text ≡ None → IsMoment n → text ≢ decimal n
no_moment text n none range same = none_is_not_some n
    (sym none ∙ ap moment_in same ∙ given is_moment n (omega arith) (test n range))
  where
    test : (n : ℕ) → IsMoment n → is_moment n ≡ true
    test n h = grind (arith, nat_tests)
