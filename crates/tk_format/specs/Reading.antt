-- What a reader may return of the bytes that were left, and what is left then (own).
--   Reads, ReadsMagic           of a reader that allocates no memory
--   Gets, GetsBy, GetsManyBy    of a reader that may run out of memory
--   GetsAll                     of a reader of all of the bytes
use Rattle.std.specs.Prelude.{◌≡◌, ℕ, List, length, Option, Some, None, Result, Ok, Err}
use Rattle.std.specs.Prelude.{if◌then◌else◌}
use Rattle.std.specs.Global.{Vec}
use Rattle.std.specs.Str.{bytes_eq}
use Rattle.tk_format.specs.declared.error.ReadError.{ReadError}
use Rattle.tk_format.specs.declared.error.ReadError.TheVariants.{Malformed, Memory}
use Rattle.tk_format.specs.Format.{◌>>=◌, Format, bytes_of, read_many, whole}

-- a reader of f that allocates nothing: the value returned, seen by view, is what f reads, and the
-- rest is left
abbrev pub Reads : {X A : Type 0} → (X → A) → Format A → Option X → List ℕ → List ℕ → Type 0
Reads view f (Some x) old new = f.read old ≡ Some (view x, new)
Reads view f None old new = f.read old ≡ None

-- the rest, if something was returned
abbrev pub rest_if : {X : Type 0} → Option X → List ℕ → Option (List ℕ)
rest_if (Some x) rest = Some rest
rest_if None rest = None

-- a reader of fixed bytes: it returns something exactly if these bytes are in front, and the rest
-- is left
abbrev pub ReadsMagic : {X : Type 0} → List ℕ → Option X → List ℕ → List ℕ → Type 0
ReadsMagic magic result old new =
    rest_if result new ≡
    ((bytes_of (length magic)).read old >>= λ m. if bytes_eq m.0 magic then Some m.1 else None)

-- a reader of f: unless memory runs out, the value returned, seen by view, is what f reads
abbrev pub Gets : {X A : Type 0} → (X → A) → Format A → Result X ReadError → List ℕ → List ℕ
    → Type 0
Gets view f (Ok x) old new = f.read old ≡ Some (view x, new)
Gets view f (Err Malformed) old new = f.read old ≡ None
Gets view f (Err Memory) old new = Unit {0}

-- a reader of all of the bytes: unless memory runs out, the value returned is what they spell
abbrev pub GetsAll : {X A : Type 0} → (X → A) → Format A → Result X ReadError → List ℕ → Type 0
GetsAll view f (Ok x) bytes = whole f bytes ≡ Some (view x)
GetsAll view f (Err Malformed) bytes = whole f bytes ≡ None
GetsAll view f (Err Memory) bytes = Unit {0}

-- a reader by the function `read`: unless memory runs out, the value returned is what `read` reads
abbrev pub GetsBy : {A : Type 0} → (List ℕ → Option (A × List ℕ)) → Result A ReadError → List ℕ
    → List ℕ → Type 0
GetsBy read (Ok x) old new = read old ≡ Some (x, new)
GetsBy read (Err Malformed) old new = read old ≡ None
GetsBy read (Err Memory) old new = Unit {0}

-- a reader of n values by `read`: unless memory runs out, the values returned are what `read` reads
abbrev pub GetsManyBy : {A : Type 0} → (List ℕ → Option (A × List ℕ)) → ℕ → Result (Vec A) ReadError
    → List ℕ → List ℕ → Type 0
GetsManyBy read n (Ok v) old new = read_many read n old ≡ Some (v.items, new)
GetsManyBy read n (Err Malformed) old new = read_many read n old ≡ None
GetsManyBy read n (Err Memory) old new = Unit {0}
