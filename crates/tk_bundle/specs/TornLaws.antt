-- The walk over the beginning of a bundle at the front of bytes (own). Key results:
--   walk_torn      the beginning of a bundle, unless it is the whole bundle, is cut
--   torn_walked    bytes over which the walk goes are the beginning of no bundle
use Rattle.std.proofs.Common.{◌≡◌, ◌≢◌, ℕ, zero, suc, ◌≤◌, Bool, true, false, cond}
use Rattle.std.proofs.Common.{not, ltb, List, [], ◌∷◌, ◌++◌, length, take, drop, Option, Some, None}
use Rattle.std.proofs.Common.{Result, Ok, Err, refl, sym, ap, ◌∙◌, arith}
use Rattle.std.specs.Str.{bytes_eq}
use Rattle.std.specs.Int.{w16, from_be_bytes}
use Rattle.std.proofs.lemmas.List.{take-append-le, drop-append-le, length-append}
use Rattle.std.proofs.lemmas.List.{append-nil}
use Rattle.std.proofs.lemmas.Bool.{le-ltb, ltb-false}
use Rattle.tk_format.specs.Format.{number, byte, number_at, bytes_at}
use Rattle.tk_format.specs.Format.{bytes_of}
use Rattle.tk_format.specs.Exact.{bind_some, guard_some}
use Rattle.tk_format.specs.Exact.{some_is}
use Rattle.tk_bundle.specs.declared.error.FrontError.{FrontError}
use Rattle.tk_bundle.specs.declared.error.FrontError.TheVariants.{Malformed, Memory, Cut}
use Rattle.tk_fact.specs.FactBytes.{max_bytes}
use Rattle.tk_bundle.specs.BundleFields.{BundleFields}
use Rattle.tk_bundle.specs.Versions.{is_version}
use Rattle.tk_bundle.specs.Bundle.{magic, max_items, bundle}
use Rattle.tk_bundle.specs.Front.{◌>>=◌, or_cut, cut_if, opening, min_header}
use Rattle.tk_bundle.specs.Front.{horizon_size, header, skipped, skipped_many, walk}
use Rattle.tk_bundle.specs.FrontLaws.{ok_is, counted_rest, opened, walk_bundle}

-- ---- a walk over more bytes, and the walk over the beginning of a bundle

-- a walk that results in r over some bytes results in `longer` if `more` follows them
abbrev GoesOn : List ℕ → Result (List ℕ) FrontError → Result (List ℕ) FrontError → Type 0
GoesOn more (Ok rest) longer = longer ≡ Ok (rest ++ more)
GoesOn more (Err Malformed) longer = longer ≡ Err Malformed
GoesOn more (Err Cut) longer = Unit {0}
GoesOn more (Err Memory) longer = ⊥

-- a walk that begins with a read goes on with more bytes if the read and the rest of the walk do
read_on : {A : Type 0} (more : List ℕ) (o longer : Option (A × List ℕ)) (f : A × List ℕ
    → Result (List ℕ) FrontError) → ((x : A × List ℕ) → o ≡ Some x
    → longer ≡ Some (x.0, x.1 ++ more))
    → ((x : A × List ℕ) → GoesOn more (f x) (f (x.0, x.1 ++ more)))
    → GoesOn more (or_cut o >>= f) (or_cut longer >>= f)
read_on more None longer f reads next = tt
read_on more (Some x) longer f reads next = rw (reads x refl) (next x)

-- a walk after a walk goes on with more bytes if both do
walk_on : (more : List ℕ) (r longer : Result (List ℕ) FrontError) (f : List ℕ
    → Result (List ℕ) FrontError) → GoesOn more r longer
    → ((rest : List ℕ) → GoesOn more (f rest) (f (rest ++ more)))
    → GoesOn more (r >>= f) (longer >>= f)
walk_on more (Ok rest) longer f so_far next = rw so_far (next rest)
walk_on more (Err Malformed) longer f so_far next = rw so_far refl
walk_on more (Err Cut) longer f so_far next = tt
walk_on more (Err Memory) longer f so_far next = absurd so_far

-- a walk behind a test for malformed bytes goes on with more bytes if the walk does
unless : (more : List ℕ) (b : Bool) (r longer : Result (List ℕ) FrontError) → GoesOn more r longer
    → GoesOn more (cond b (Err Malformed) r) (cond b (Err Malformed) longer)
unless more true r longer h = refl
unless more false r longer h = h

-- n bytes are read as the same bytes if more follow
bytes_on : (n : ℕ) (bytes more : List ℕ) (x : List ℕ × List ℕ) → (bytes_of n).read bytes ≡ Some x
    → (bytes_of n).read (bytes ++ more) ≡ Some (x.0, x.1 ++ more)
unfolding bytes_at
bytes_on n bytes more x e =
    let g = guard_some (ltb (length bytes) n) (take n bytes, drop n bytes) x e in
    let within : n ≤ length bytes = ltb-false (length bytes) n g.0 in
    let long : ltb (length (bytes ++ more)) n ≡ false =
    le-ltb _ _ (omega (arith, length-append bytes more)) in
    rw (long, take-append-le n bytes more within, drop-append-le n bytes more within)
    (ap (λ (y : List ℕ × List ℕ). Some (y.0, y.1 ++ more)) g.1)

-- a number of two bytes is read as the same number if more bytes follow
number_on : (bytes more : List ℕ) (x : ℕ × List ℕ) → (number w16).read bytes ≡ Some x
    → (number w16).read (bytes ++ more) ≡ Some (x.0, x.1 ++ more)
unfolding number_at
number_on bytes more x e =
    let g = guard_some (ltb (length bytes) 2) (from_be_bytes w16 (take 2 bytes), drop 2 bytes) x
    e in
    let within : 2 ≤ length bytes = ltb-false (length bytes) 2 g.0 in
    let long : ltb (length (bytes ++ more)) 2 ≡ false =
    le-ltb _ _ (omega (arith, length-append bytes more)) in
    rw (long, take-append-le 2 bytes more within, drop-append-le 2 bytes more within)
    (ap (λ (y : ℕ × List ℕ). Some (y.0, y.1 ++ more)) g.1)

-- the walk over one length and its bytes goes on with more bytes
skipped_on : (bytes more : List ℕ) → GoesOn more (skipped bytes) (skipped (bytes ++ more))
skipped_on bytes more =
    read_on more _ _ _ (number_on bytes more) (λ n.
    unless more (ltb max_bytes n.0) _ _ (read_on more _ _ (λ b. Ok b.1) (bytes_on n.0 n.1 more)
    (λ b. refl)))

-- the walk over many lengths and their bytes goes on with more bytes
many_on : (n : ℕ) (bytes more : List ℕ)
    → GoesOn more (skipped_many n bytes) (skipped_many n (bytes ++ more))
unfolding skipped_many
many_on zero bytes more = refl
many_on (suc n) bytes more =
    walk_on more (skipped bytes) (skipped (bytes ++ more)) (λ rest. skipped_many n rest)
    (skipped_on bytes more) (λ rest. many_on n rest more)

-- a byte is read as the same byte if more follow
byte_on : (bytes more : List ℕ) (x : ℕ × List ℕ) → byte.read bytes ≡ Some x
    → byte.read (bytes ++ more) ≡ Some (x.0, x.1 ++ more)
byte_on [] more x e = absurd cc
byte_on (b ∷ bytes) more x e =
    ap (λ (y : ℕ × List ℕ). Some (y.0, y.1 ++ more)) (some_is (b, bytes) x e)

-- the magic and the digit are read as the same if more bytes follow
opening_on : (bytes more : List ℕ) (x : (List ℕ × ℕ) × List ℕ) → opening.read bytes ≡ Some x
    → opening.read (bytes ++ more) ≡ Some (x.0, x.1 ++ more)
opening_on bytes more x e =
    let m = bind_some ((bytes_of 3).read bytes) _ x e in
    let v = bind_some (byte.read m.0.1) _ x m.2 in
    rw (bytes_on 3 bytes more m.0 m.1, byte_on m.0.1 more v.0 v.1)
    (ap (λ (y : (List ℕ × ℕ) × List ℕ). Some (y.0, y.1 ++ more)) (some_is _ x v.2))

-- the horizon and the count are read as the same if more bytes follow
header_on : (digit : ℕ) (bytes more : List ℕ) (x : (List ℕ × ℕ) × List ℕ)
    → (header digit).read bytes ≡ Some x
    → (header digit).read (bytes ++ more) ≡ Some (x.0, x.1 ++ more)
header_on digit bytes more x e =
    let h = bind_some ((bytes_of (horizon_size digit)).read bytes) _ x e in
    let n = bind_some ((number w16).read h.0.1) _ x h.2 in
    rw (bytes_on (horizon_size digit) bytes more h.0 h.1, number_on h.0.1 more n.0 n.1)
    (ap (λ (y : (List ℕ × ℕ) × List ℕ). Some (y.0, y.1 ++ more)) (some_is _ x n.2))

-- a walk that is cut at once may go on in any way over more bytes
short_on : (more : List ℕ) (short still : Bool) (r longer : Result (List ℕ) FrontError)
    → (short ≡ false → still ≡ false) → GoesOn more r longer
    → GoesOn more (cut_if short r) (cut_if still longer)
short_on more true still r longer h on = tt
short_on more false true r longer h on = let e = h refl in absurd cc
short_on more false false r longer h on = on

-- the walk over a bundle goes on with more bytes
walk_goes_on : (bytes more : List ℕ) → GoesOn more (walk bytes) (walk (bytes ++ more))
walk_goes_on bytes more =
    short_on more (ltb (length bytes) min_header) (ltb (length (bytes ++ more)) min_header) _ _
    (λ long. le-ltb (length (bytes ++ more)) min_header
    (omega (arith, length-append bytes more, ltb-false (length bytes) min_header long)))
    (read_on more _ _ opened (opening_on bytes more) (λ f.
    unless more (not (bytes_eq f.0.0 magic)) _ _ (unless more (not (is_version f.0.1)) _ _
    (read_on more _ _ counted_rest (header_on f.0.1 f.1 more) (λ h.
    unless more (ltb max_items h.0.1) _ _ (many_on h.0.1 h.1 more))))))

-- if a walk ends well, the walk over the beginning of the bytes is cut
cut_before : (more : List ℕ) (r longer : Result (List ℕ) FrontError) → GoesOn more r longer
    → longer ≡ Ok [] → more ≢ [] → r ≡ Err Cut
cut_before more (Ok rest) longer h whole some =
    absurd (some (append_is_nil rest (ok_is (rest ++ more) [] (sym h ∙ whole))))
  where
    append_is_nil : (a : List ℕ) → a ++ more ≡ [] → more ≡ []
    append_is_nil [] e = e
    append_is_nil (x ∷ a) e = absurd cc
cut_before more (Err Malformed) longer h whole some = absurd cc
cut_before more (Err Cut) longer h whole some = refl
cut_before more (Err Memory) longer h whole some = absurd h

-- the walk over a proper beginning of a bundle is cut
pub walk_torn : (bytes : List ℕ) (b : BundleFields) (rest : List ℕ) → bundle.Fits b
    → bytes ++ rest ≡ bundle.spell b → rest ≢ [] → walk bytes ≡ Err Cut
walk_torn bytes b rest fits e some =
    cut_before rest (walk bytes) (walk (bytes ++ rest)) (walk_goes_on bytes rest)
    (ap walk (e ∙ sym (append-nil (bundle.spell b))) ∙ walk_bundle b [] fits) some

-- no walk ends over a proper beginning of a bundle
pub torn_walked : (bytes left : List ℕ) (b : BundleFields) (rest : List ℕ) → walk bytes ≡ Ok left
    → bundle.Fits b → bytes ++ rest ≡ bundle.spell b → rest ≢ [] → ⊥
torn_walked bytes left b rest ok fits e some = let t = walk_torn bytes b rest fits e some in cc
