-- The entries behind the magic and a count are read piece by piece (`gets_listed`).
use Rattle.std.proofs.Common.{◌≡◌, ℕ, Bool, true, false, cond, List, length, Option, Some, None}
use Rattle.std.proofs.Common.{Result, Ok, Err, sym, ap, ◌∙◌}
use Rattle.std.specs.Global.{Vec}
use Rattle.std.specs.Int.{w16}
use Rattle.std.specs.Str.{bytes_eq}
use Rattle.tk_format.specs.Format.{◌>>=◌, number, bytes_of, counted, read_many}
use Rattle.tk_format.specs.Reading.{Gets, GetsManyBy}
use Rattle.tk_format.specs.declared.error.ReadError.{ReadError}
use Rattle.tk_format.specs.declared.error.ReadError.TheVariants.{Malformed, Memory}
use Rattle.tk_vector.specs.VectorBytes.{magic, entry_field, listed}

-- once the magic was read, the rest of the bytes decides what is read
behind : {A : Type 0} (f : List ℕ → Option A) (o : Option (List ℕ × List ℕ)) (rest : List ℕ)
    → Some rest ≡ (o >>= λ m. cond (bytes_eq m.0 magic) (Some m.1) None)
    → (o >>= λ m. cond (bytes_eq m.0 magic) (f m.1) None) ≡ f rest
behind {A} f None rest h = absurd (nothing h)
  where
    nothing : ¬ (Some rest ≡ None)
    nothing h = cc
behind {A} f (Some m) rest h = by_test (bytes_eq m.0 magic) h
  where
    same : Some rest ≡ Some m.1 → rest ≡ m.1
    same h = cc

    nothing : ¬ (Some rest ≡ None)
    nothing h = cc

    by_test : (t : Bool) → Some rest ≡ cond t (Some m.1) None → cond t (f m.1) None ≡ f rest
    by_test true k = ap f (sym (same k))
    by_test false k = absurd (nothing k)

-- for `gets_listed`: by what reading the entries returns
gets : (count : ℕ) (result : Result (Vec (ℕ × ℕ)) ReadError) (old after new : List ℕ)
    → listed.read old ≡ read_many entry_field.read count after
    → GetsManyBy entry_field.read count result after new → Gets (λ v. v.items) listed result old new
gets count (Ok v) old after new e h = e ∙ h
gets count (Err Malformed) old after new e h = e ∙ h
gets count (Err Memory) old after new e h = tt

-- a magic, a count and as many entries are read as the list of entries
pub gets_listed : (count : ℕ) (result : Result (Vec (ℕ × ℕ)) ReadError)
    (old rest after new : List ℕ)
    → Some rest ≡ ((bytes_of (length magic)).read old >>= λ m.
    cond (bytes_eq m.0 magic) (Some m.1) None)
    → (number w16).read rest ≡ Some (count, after)
    → GetsManyBy entry_field.read count result after new → Gets (λ v. v.items) listed result old new
gets_listed count result old rest after new m n h =
    let counting : (counted (number w16) entry_field).read rest
    ≡ read_many entry_field.read count after =
    ap (λ (o : Option (ℕ × List ℕ)). o >>= λ n. read_many entry_field.read n.0 n.1) n in
    gets count result old after new
    (behind (λ bytes. (counted (number w16) entry_field).read bytes)
    ((bytes_of (length magic)).read old) rest m
    ∙ counting) h
