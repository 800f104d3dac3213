-- Laws of tests, orders and results that proofs of many crates cite. Key results:
--   both, and, is_true        a test of two parts holds if both hold
--   and_first, and_second, neither   the parts of two tests that hold, or fail
--   less, lesser, equal_of    the ordering that a test finds
--   tied                      dots that compare as equal are equal
--   on_ok, on_err, either_way   what follows of a result in each of its cases
use Rattle.std.proofs.Common.{◌≡◌, Bool, true, false, ◌&&◌, ◌||◌, T, Option, None, Some, IsSome}
use Rattle.std.proofs.Common.{is_some, is_eq, is_lt, Ordering, Less, Equal, Greater}
use Rattle.std.proofs.Common.{Result, Ok, Err, OnOk, OnErr, sym, ap, refl, ◌∙◌}
use Rattle.std.specs.Ordering.{eq_by_cmp}
use Rattle.std.proofs.lemmas.Bool.{false≢true}
use Rattle.tk_handle.specs.Dot.{dot_cmp, dot_cmp-IsAntisymmetric}
use Rattle.tk_handle.specs.declared.dot.Dot.{Dot}

-- ---- tests

-- if both tests hold, each does
pub both : (a b : Bool) → T (a && b) → T a × T b
both true b h = (tt, h)
both false b h = absurd h

-- if each test holds, both do
pub and : (a b : Bool) → T a → T b → T (a && b)
and true b p q = q
and false b p q = p

-- a test that holds is true
pub is_true : (b : Bool) → T b → b ≡ true
is_true true h = refl
is_true false h = absurd h

-- if both tests hold, the first does
pub and_first : (a b : Bool) → (a && b) ≡ true → a ≡ true
and_first true b h = refl
and_first false b h = absurd (false≢true h)

-- if both tests hold, the second does
pub and_second : (a b : Bool) → (a && b) ≡ true → b ≡ true
and_second true b h = h
and_second false b h = absurd (false≢true h)

-- if none of two tests holds, each fails
pub neither : (a b : Bool) → (a || b) ≡ false → (a ≡ false) × (b ≡ false)
neither false b h = (refl, h)
neither true b h = absurd (false≢true (sym h))

-- ---- orders

-- an order that is less is Less
pub less : (o : Ordering) → is_lt o ≡ true → o ≡ Less
less Less h = refl
less Equal h = absurd (false≢true h)
less Greater h = absurd (false≢true h)

-- an order that is less, by its test, is Less
pub lesser : (o : Ordering) → T (is_lt o) → o ≡ Less
lesser Less h = refl
lesser Equal h = absurd h
lesser Greater h = absurd h

-- an order that is equal is Equal
pub equal_of : (o : Ordering) → is_eq o ≡ true → o ≡ Equal
equal_of Equal h = refl
equal_of Less h = absurd (false≢true h)
equal_of Greater h = absurd (false≢true h)

-- dots that compare as equal are equal
pub tied : (q d : Dot) → eq_by_cmp dot_cmp q d ≡ true → q ≡ d
tied q d h = dot_cmp-IsAntisymmetric q d (equal_of (dot_cmp q d) h)

-- what is less doesn't tie
pub not_tied : (o : Ordering) → T (is_lt o) → is_eq o ≡ false
not_tied Less h = refl
not_tied Equal h = absurd h
not_tied Greater h = absurd h

-- ---- options and results

-- some value is not none
pub some_none : {A : Type 0} (x : A) → Some x ≡ None → ⊥
some_none x h = cc

-- a value that isn't there is none
pub none_of : {A : Type 0} (o : Option A) → is_some o ≡ false → o ≡ None
none_of None h = refl
none_of (Some x) h = absurd (false≢true (sym h))

-- none is no value
pub not_none : {A : Type 0} (o : Option A) → o ≡ None → IsSome o → ⊥
not_none o none some = false≢true (sym (ap is_some none) ∙ some)

-- what follows from success holds after success
pub on_ok : {A E P Q : Type 0} (r : Result A E) → OnOk r P → (P → Q) → OnOk r Q
on_ok (Ok a) h f = f h
on_ok (Err e) h f = tt

-- what follows from an error holds after an error
pub on_err : {A E P Q : Type 0} (r : Result A E) → OnErr r P → (P → Q) → OnErr r Q
on_err (Ok a) h f = tt
on_err (Err e) h f = f h

-- what follows from success holds after success, with both named
pub ok_then : {A E : Type 0} (r : Result A E) (P Q : Type 0) → OnOk r P → (P → Q) → OnOk r Q
ok_then r P Q = on_ok r

-- what follows from an error holds after an error, with both named
pub err_then : {A E : Type 0} (r : Result A E) (P Q : Type 0) → OnErr r P → (P → Q) → OnErr r Q
err_then r P Q = on_err r

-- what holds anyway holds after an error
pub always_err : {A E : Type 0} (P : Type 0) (r : Result A E) → P → OnErr r P
always_err P (Ok a) h = tt
always_err P (Err e) h = h

-- what follows from success and from an error holds
pub either_way : {A E P Q R : Type 0} (r : Result A E) → OnOk r P → OnErr r Q → (P → R) → (Q → R)
    → R
either_way (Ok a) p q f g = f p
either_way (Err e) p q f g = g q
