-- The loop that reads several values. Its invariant: the values read so far, and those that are
-- read from the rest, are what `read_many` reads of all.
--   with_front     the values read so far in front of what is still read
--   many_more      a turn that reads a value keeps the invariant
--   many_done      the end of the loop has read all
--   many_err_by    a turn that fails shows what is owed then
use Rattle.std.proofs.Common.{◌≡◌, ℕ, suc, ◌+◌, ◌<◌, ◌≤◌, List, [], ◌∷◌, ◌++◌, Option, Some, None}
use Rattle.std.proofs.Common.{refl, sym, ap, ◌∙◌, append_assoc, arith, ◌-◌, Err}
use Rattle.std.proofs.lemmas.List.{append-nil}
use Rattle.tk_format.specs.declared.error.ReadError.{ReadError}
use Rattle.tk_format.specs.declared.error.ReadError.TheVariants.{Malformed, Memory}
use Rattle.tk_format.specs.Format.{◌>>=◌, read_many, after}
use Rattle.tk_format.specs.Reading.{GetsBy, GetsManyBy}

-- the values read so far, in front of those that are still read
abbrev pub with_front : {A : Type 0} → List A → Option (List A × List ℕ) → Option (List A × List ℕ)
with_front front read = read >>= λ x. Some (front ++ x.0, x.1)

-- the next value joins the values read so far
regroup : {A : Type 0} (front : List A) (a : A) (read : Option (List A × List ℕ))
    → with_front front (read >>= λ x. Some (a ∷ x.0, x.1)) ≡ with_front (front ++ a ∷ []) read
regroup {A} front a (Some x) = ap (λ (xs : List A). Some (xs, x.1)) (simp append_assoc)
regroup front a None = refl

-- a turn of the loop that reads a value keeps the invariant
pub many_more : {A : Type 0} (read : List ℕ → Option (A × List ℕ)) (front : List A) (count i : ℕ)
    (bytes : List ℕ) (a : A) (after : List ℕ) (total : Option (List A × List ℕ))
    → i < count → read bytes ≡ Some (a, after)
    → with_front front (read_many read (count - i) bytes) ≡ total
    → with_front (front ++ a ∷ []) (read_many read (count - (i + 1)) after) ≡ total
unfolding read_many
many_more read front count i bytes a after total lt h so_far =
    let k : count - i ≡ suc (count - (i + 1)) = omega arith in
    let one : with_front front (read_many read (count - i) bytes)
    ≡ with_front (front ++ a ∷ []) (read_many read (count - (i + 1)) after) =
    rw (k, h) (regroup front a (read_many read (count - (i + 1)) after)) in
    sym one ∙ so_far

-- a turn of the loop whose reader reads nothing: `read_many` reads nothing of all
pub many_fail : {A : Type 0} (read : List ℕ → Option (A × List ℕ)) (front : List A) (count i : ℕ)
    (bytes : List ℕ) (total : Option (List A × List ℕ))
    → i < count → read bytes ≡ None
    → with_front front (read_many read (count - i) bytes) ≡ total → total ≡ None
unfolding read_many
many_fail read front count i bytes total lt h so_far =
    let k : count - i ≡ suc (count - (i + 1)) = omega arith in
    let one : with_front front (read_many read (count - i) bytes) ≡ None = rw (k, h) refl in
    sym so_far ∙ one

-- the end of the loop: the values read so far are what `read_many` reads of all
pub many_done : {A : Type 0} (read : List ℕ → Option (A × List ℕ)) (front : List A) (count i : ℕ)
    (bytes : List ℕ) (total : Option (List A × List ℕ))
    → count ≤ i → with_front front (read_many read (count - i) bytes) ≡ total
    → total ≡ Some (front, bytes)
unfolding read_many
many_done {A} read front count i bytes total le so_far =
    let k : count - i ≡ 0 = omega arith in
    let one : with_front front (read_many read (count - i) bytes) ≡ Some (front, bytes) =
    rw k (ap (λ (xs : List A). Some (xs, bytes)) (append-nil front)) in
    sym so_far ∙ one

-- a turn of the loop whose reader returns an error: the whole returns that error
pub many_err_by : {A : Type 0} (read : List ℕ → Option (A × List ℕ)) (e : ReadError)
    (front : List A) (count i : ℕ) (old now new last : List ℕ)
    → i < count → GetsBy read (Err e) now new
    → with_front front (read_many read (count - i) now) ≡ read_many read count old
    → GetsManyBy read count (Err e) old last
many_err_by read Malformed front count i old now new last lt h so_far =
    many_fail read front count i now (read_many read count old) lt h so_far
many_err_by read Memory front count i old now new last lt h so_far = tt
