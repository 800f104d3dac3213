-- The walk over the lengths of a bundle at the front of bytes (own). Key results:
--   walk_more, walk_fail, walk_done   one step of the walk over items
--   walk_ends      the walk leaves the end of the bytes
--   walk_bundle    a bundle at the front is walked over
--   front_split    the bytes before the end that the walk leaves are the bundle's
--   front_is       the bundle that is read there is the one at the front
use Rattle.std.proofs.Common.{◌≡◌, ℕ, zero, suc, ◌+◌, ◌-◌, ◌<◌, ◌≤◌, ◌^◌, Bool, true, false, cond}
use Rattle.std.proofs.Common.{nat_le}
use Rattle.std.proofs.Common.{not, ltb, List, [], ◌∷◌, ◌++◌, length, take, Option, Some, None}
use Rattle.std.proofs.Common.{Result, Ok, Err, refl, sym, ap, subst, ◌∙◌, append_assoc, arith}
use Rattle.std.specs.Str.{bytes_eq}
use Rattle.std.specs.Int.{w16, w64}
use Rattle.std.specs.List.{flat_map, AllByRecursion}
use Rattle.std.proofs.lemmas.List.{take_at, length-append}
use Rattle.std.proofs.lemmas.Bool.{le-ltb}
use Rattle.tk_format.specs.Format.{Format, number, number_spelling}
use Rattle.tk_format.specs.Format.{bytes_of, text, text_spelling}
use Rattle.tk_format.specs.NumberLaws.{byte_exact, u16_exact, bytes_exact}
use Rattle.tk_format.specs.Laws.{both_exact}
use Rattle.tk_format.specs.Exact.{IsBytes, IsExact, Takes, Takes-then}
use Rattle.tk_format.specs.Exact.{prefix_free}
use Rattle.tk_format.specs.Spellings.{number_length}
use Rattle.tk_bundle.specs.BundleLaws.{bundle_exact}
use Rattle.tk_bundle.specs.declared.error.FrontError.{FrontError}
use Rattle.tk_bundle.specs.declared.error.FrontError.TheVariants.{Malformed, Cut}
use Rattle.std.proofs.lemmas.List.Concat.{flat_map-cons}
use borrow.Author.Tests.{leb-true}
use Rattle.tk_fact.specs.FactBytes.{max_bytes}
use Rattle.tk_bundle.specs.BundleFields.{BundleFields, Items}
use Rattle.tk_bundle.specs.Items.{item_bytes, HasBytes, item_in, behind_length, item}
use Rattle.tk_bundle.specs.Pieces.{grouped}
use Rattle.tk_bundle.specs.PieceBytes.{piece_bytes, PieceFits, piece_in, piece}
use Rattle.tk_bundle.specs.Versions.{version_of, is_version, has_runs}
use Rattle.tk_bundle.specs.VersionLaws.{version_known}
use Rattle.tk_bundle.specs.Bundle.{magic, max_items, items_by, bundle, horizon_bytes, HorizonFits}
use Rattle.tk_bundle.specs.Front.{◌>>=◌, or_cut, malformed_if, opening, min_header}
use Rattle.tk_bundle.specs.Front.{horizon_size, header, skipped, skipped_many, walk}

-- a walk over items goes on behind the next one
pub walk_more : (count i : ℕ) (now next : List ℕ) (total : Result (List ℕ) FrontError) → i < count
    → skipped now ≡ Ok next → skipped_many (count - i) now ≡ total
    → skipped_many (count - (i + 1)) next ≡ total
unfolding skipped_many
walk_more count i now next total lt h so_far =
    let k : count - i ≡ suc (count - (i + 1)) = omega arith in
    let one : skipped_many (count - i) now ≡ skipped_many (count - (i + 1)) next = rw (k, h) refl in
    sym one ∙ so_far

-- a walk over items fails as the next one does
pub walk_fail : (count i : ℕ) (now : List ℕ) (e : FrontError) (total : Result (List ℕ) FrontError)
    → i < count → skipped now ≡ Err e → skipped_many (count - i) now ≡ total → total ≡ Err e
unfolding skipped_many
walk_fail count i now e total lt h so_far =
    let k : count - i ≡ suc (count - (i + 1)) = omega arith in
    let one : skipped_many (count - i) now ≡ Err e = rw (k, h) refl in
    sym so_far ∙ one

-- a walk over all items ends at what is left
pub walk_done : (count i : ℕ) (now : List ℕ) (total : Result (List ℕ) FrontError) → count ≤ i
    → skipped_many (count - i) now ≡ total → total ≡ Ok now
unfolding skipped_many
walk_done count i now total le so_far =
    let k : count - i ≡ 0 = omega arith in
    let one : skipped_many (count - i) now ≡ Ok now = rw k refl in
    sym so_far ∙ one

-- ---- what the walk leaves is the end of the bytes

-- two steps in a row that succeed each succeed
bind_ok : {A B : Type 0} (r : Result A FrontError) (f : A → Result B FrontError) (y : B)
    → (r >>= f) ≡ Ok y → (x : A) × (r ≡ Ok x) × (f x ≡ Ok y)
bind_ok (Ok x) f y e = (x, refl, e)
bind_ok (Err d) f y e = absurd cc

-- a step of the walk that succeeds with x
abbrev walked : {A : Type 0} → A → Result A FrontError
walked x = Ok x

-- walks that end at one place end with one value
pub ok_is : {A : Type 0} (x y : A) → walked x ≡ walked y → x ≡ y
ok_is x y e = cc

-- if a failed read counts as a cut, a success has what was read
cut_ok : {A : Type 0} (o : Option A) (x : A) → or_cut o ≡ Ok x → o ≡ Some x
cut_ok None x e = absurd cc
cut_ok (Some y) x e = ap (λ z. Some z) (ok_is y x e)

-- a success behind a test for a fault is that of the next step, and the test doesn't hold
test_ok : {A : Type 0} (b : Bool) (e : FrontError) (r : Result A FrontError) (y : A)
    → cond b (Err e) r ≡ Ok y → (b ≡ false) × (r ≡ Ok y)
test_ok true e r y h = absurd cc
test_ok false e r y h = (refl, h)

-- `rest` is the end of `bytes`
abbrev Ends : List ℕ → List ℕ → Type 0
Ends bytes rest = (front : List ℕ) × Takes bytes front rest

-- the end of an end of bytes is an end of the bytes
Ends-then : (a x b : List ℕ) (c : List ℕ) → Takes a x b → Ends b c → Ends a c
Ends-then a x b c p q = (x ++ q.0, Takes-then a x b q.0 c p q.1)

-- what is left behind a length and its bytes is the end of the bytes
skipped_ends : (bytes rest : List ℕ) → IsBytes bytes → skipped bytes ≡ Ok rest → Ends bytes rest
skipped_ends bytes rest fits e =
    let a = bind_ok (or_cut ((number w16).read bytes)) (λ n.
    cond (ltb max_bytes n.0) (Err Malformed) (or_cut ((bytes_of n.0).read n.1) >>= λ b.
    Ok b.1)) rest e in
    let first = u16_exact.takes bytes a.0 fits (cut_ok _ a.0 a.1) in
    let t = test_ok (ltb max_bytes a.0.0) Malformed (or_cut ((bytes_of a.0.0).read a.0.1) >>= λ b.
    Ok b.1) rest a.2 in
    let b = bind_ok (or_cut ((bytes_of a.0.0).read a.0.1)) (λ b. Ok b.1) rest t.1 in
    let second = (bytes_exact a.0.0).takes a.0.1 b.0 first.0.rest_fits (cut_ok _ b.0 b.1) in
    let both = Takes-then bytes (number_spelling w16 a.0.0) a.0.1 b.0.0 b.0.1 first.0 second.0 in (
      number_spelling w16 a.0.0 ++ b.0.0,
      subst (λ (r : List ℕ). Takes bytes (number_spelling w16 a.0.0 ++ b.0.0) r)
          (ok_is b.0.1 rest b.2) both,
    )

-- what is left behind many lengths and their bytes is the end of the bytes
many_end : (n : ℕ) (bytes rest : List ℕ) → IsBytes bytes → skipped_many n bytes ≡ Ok rest
    → Ends bytes rest
unfolding skipped_many
many_end zero bytes rest fits e = (
  [],
  subst (λ (r : List ℕ). Takes bytes [] r) (ok_is bytes rest e)
      (record { parts = refl; rest_fits = fits }),
)
many_end (suc n) bytes rest fits e =
    let a = bind_ok (skipped bytes) (λ r. skipped_many n r) rest e in
    let first = skipped_ends bytes a.0 fits a.1 in
    Ends-then bytes first.0 a.0 rest first.1 (many_end n a.0 rest first.1.rest_fits a.2)

-- the walk behind the header
abbrev pub counted_rest : (List ℕ × ℕ) × List ℕ → Result (List ℕ) FrontError
counted_rest h = malformed_if (ltb max_items h.0.1) (skipped_many h.0.1 h.1)

-- the walk behind the opening
abbrev pub opened : (List ℕ × ℕ) × List ℕ → Result (List ℕ) FrontError
opened f = malformed_if (not (bytes_eq f.0.0 magic)) (malformed_if (not (is_version f.0.1))
    (or_cut ((header f.0.1).read f.1) >>= counted_rest))

-- the magic and the digit of a version have one spelling
opening_exact : IsExact opening
opening_exact = both_exact _ _ (bytes_exact (length magic)) byte_exact

-- a horizon, if the version has one, and a count have one spelling
header_exact : (digit : ℕ) → IsExact (header digit)
header_exact digit = both_exact _ _ (bytes_exact (horizon_size digit)) u16_exact

-- what a walk leaves lies behind a bundle
pub walk_ends : (bytes rest : List ℕ) → IsBytes bytes → walk bytes ≡ Ok rest → Ends bytes rest
walk_ends bytes rest fits e =
    let s = test_ok (ltb (length bytes) min_header) Cut (or_cut (opening.read bytes) >>= opened)
    rest e in
    let f = bind_ok (or_cut (opening.read bytes)) opened rest s.1 in
    let first = opening_exact.takes bytes f.0 fits (cut_ok _ f.0 f.1) in
    let digit = f.0.0.1 in
    let p = test_ok (not (bytes_eq f.0.0.0 magic)) Malformed (malformed_if (not (is_version digit))
    (or_cut ((header digit).read f.0.1) >>= counted_rest)) rest f.2 in
    let v = test_ok (not (is_version digit)) Malformed
    (or_cut ((header digit).read f.0.1) >>= counted_rest) rest p.1 in
    let h = bind_ok (or_cut ((header digit).read f.0.1)) counted_rest rest v.1 in
    let second = (header_exact digit).takes f.0.1 h.0 first.0.rest_fits (cut_ok _ h.0 h.1) in
    let count = h.0.0.1 in
    let t = test_ok (ltb max_items count) Malformed (skipped_many count h.0.1) rest h.2 in
    Ends-then bytes (opening.spell f.0.0) f.0.1 rest first.0
    (Ends-then f.0.1 ((header digit).spell h.0.0) h.0.1 rest second.0
    (many_end count h.0.1 rest second.0.rest_fits t.1))

-- ---- a bundle at the front is walked over

-- the walk over a text of at most 8,192 bytes ends behind it
skipped_text : (s rest : List ℕ) → length s < 2 ^ 16 → nat_le (length s) max_bytes ≡ true
    → skipped (text.spell s ++ rest) ≡ Ok rest
unfolding text_spelling
skipped_text s rest fits few =
    let small : ltb max_bytes (length s) ≡ false =
    le-ltb max_bytes (length s) (leb-true (length s) max_bytes few) in
    ap skipped (append_assoc (number_spelling w16 (length s)) s rest)
    ∙ rw (
      u16_exact.again (length s) (s ++ rest) fits,
      small,
      (bytes_exact (length s)).again s rest refl,
    ) refl

module _ {A : Type 0} (bytes_of : A → List ℕ) (HasAll : A → Type 0)
    (value_in : List ℕ → Option A) where
  -- the format of a value behind its length
  abbrev framed : Format A
  framed = behind_length bytes_of HasAll value_in

  -- the walk over values behind their lengths ends behind them
  many_framed : (xs : List A) (rest : List ℕ) → AllByRecursion framed.Fits xs
      → skipped_many (length xs) (flat_map framed.spell xs ++ rest) ≡ Ok rest
  unfolding skipped_many
  many_framed [] rest fits = refl
  many_framed (x ∷ more) rest fits =
      let regrouped : flat_map framed.spell (x ∷ more) ++ rest ≡ framed.spell x
      ++ (flat_map framed.spell more ++ rest) =
      ap (λ (t : List ℕ). t ++ rest) (flat_map-cons framed.spell x more)
      ∙ append_assoc (framed.spell x) (flat_map framed.spell more) rest in
      ap (skipped_many (suc (length more))) regrouped
      ∙ rw (skipped_text (bytes_of x) (flat_map framed.spell more ++ rest) fits.0.1.0 fits.0.1.1)
      (many_framed more rest fits.1)

-- the bytes are a count of at most 128, and what the walk over that number of items passes
record IsWalked (bytes rest : List ℕ) : Type 0 where
  count : ℕ
  body : List ℕ
  parts : bytes ≡ number_spelling w16 count ++ body
  small : count < 256 ^ 2
  few : nat_le count max_items ≡ true
  walked : skipped_many count (body ++ rest) ≡ Ok rest

-- the items of a bundle, without runs or with them, are walked over
items_walked : (runs : Bool) (items : Items) (rest : List ℕ) → (items_by runs).Fits items
    → IsWalked ((items_by runs).spell items) rest
items_walked false items rest fits = record {
  count = length items;
  body = flat_map item.spell items;
  parts = refl;
  small = fits.0.0;
  few = fits.0.1;
  walked = many_framed item_bytes HasBytes item_in items rest fits.1;
}
items_walked true items rest fits = record {
  count = length (grouped items);
  body = flat_map piece.spell (grouped items);
  parts = refl;
  small = fits.0.0.0;
  few = fits.0.0.1;
  walked = many_framed piece_bytes PieceFits piece_in (grouped items) rest fits.0.1;
}

-- a horizon has as many bytes as its version gives it
horizon_length : (digit : ℕ) (o : Option ℕ) → HorizonFits digit o
    → length (horizon_bytes o) ≡ horizon_size digit
horizon_length digit None fits = rw fits refl
horizon_length digit (Some h) fits = rw fits.1 (number_length w64 h)

-- the walk over the spelling of a bundle ends behind it
pub walk_bundle : (b : BundleFields) (rest : List ℕ) → bundle.Fits b
    → walk (bundle.spell b ++ rest) ≡ Ok rest
walk_bundle b rest fits =
    let digit = version_of b.runs b.items in
    let horizon = horizon_bytes b.horizon in
    let w = items_walked (has_runs digit) b.items rest fits.0.1.1 in
    let count = number_spelling w16 w.count in
    let regrouped : (horizon ++ (items_by (has_runs digit)).spell b.items) ++ rest
    ≡ horizon ++ (count ++ (w.body ++ rest)) =
    append_assoc horizon ((items_by (has_runs digit)).spell b.items) rest
    ∙ ap (λ (t : List ℕ). horizon ++ (t ++ rest)) w.parts
    ∙ ap (λ (t : List ℕ). horizon ++ t) (append_assoc count w.body rest) in
    let few : ltb max_items w.count ≡ false =
    le-ltb max_items w.count (leb-true w.count max_items w.few) in
    let behind = digit ∷ horizon ++ (count ++ (w.body ++ rest)) in
    let long : ltb (length (magic ++ behind)) min_header ≡ false =
    le-ltb (length (magic ++ behind)) min_header (omega (
      arith,
      length-append horizon (count ++ (w.body ++ rest)),
      length-append count (w.body ++ rest),
      number_length w16 w.count,
    )) in
    ap walk (ap (λ (t : List ℕ). magic ++ (digit ∷ t)) regrouped)
    ∙ rw (
      long,
      (bytes_exact 3).again magic behind refl,
      version_known b.runs b.items,
      (bytes_exact (horizon_size digit)).again horizon (count ++ (w.body ++ rest))
          (horizon_length digit b.horizon fits.0.1.0),
      u16_exact.again w.count (w.body ++ rest) w.small,
      few,
    ) w.walked

-- ---- the bytes before the rest

-- the bytes before the rest, and the rest, are the bytes
pub Ends-take : (bytes rest : List ℕ) → Ends bytes rest
    → (take (length bytes - length rest) bytes ++ rest ≡ bytes) × (length rest ≤ length bytes)
Ends-take bytes rest p =
    let front = p.0 in
    let sizes : length bytes ≡ length front + length rest =
    ap length p.1.parts ∙ length-append front rest in
    let n : length bytes - length rest ≡ length front = omega arith in
    let taken : take (length bytes - length rest) bytes ≡ front =
    ap (take (length bytes - length rest)) p.1.parts
    ∙ take_at front rest (length bytes - length rest) (sym n) in
    (ap (λ (t : List ℕ). t ++ rest) taken ∙ sym p.1.parts, omega arith)

-- bytes that begin with a bundle are not refused
pub front_refused : (bytes : List ℕ) (d : FrontError) (b : BundleFields) (rest : List ℕ)
    → walk bytes ≡ Err d → bundle.Fits b → bytes ≡ bundle.spell b ++ rest → ⊥
front_refused bytes d b rest refused fits e = let t = ap walk e ∙ walk_bundle b rest fits in cc

-- bytes that begin with a bundle are parted behind it
pub front_split : (bytes left : List ℕ) (b : BundleFields) (rest : List ℕ) → walk bytes ≡ Ok left
    → bundle.Fits b → bytes ≡ bundle.spell b ++ rest
    → (take (length bytes - length left) bytes ≡ bundle.spell b)
    × (length bytes - length left ≡ length (bundle.spell b))
front_split bytes left b rest ok fits e =
    let same : left ≡ rest = ok_is left rest (sym ok ∙ ap walk e ∙ walk_bundle b rest fits) in
    let sizes : length bytes ≡ length (bundle.spell b) + length rest =
    ap length e ∙ length-append (bundle.spell b) rest in
    let n : length bytes - length left ≡ length (bundle.spell b) =
    omega (arith, ap length same) in (
      ap (take (length bytes - length left)) e
          ∙ take_at (bundle.spell b) rest (length bytes - length left) (sym n),
      n,
    )

-- bytes begin with one bundle at most
pub front_is : (bytes left : List ℕ) (a b : BundleFields) (rest : List ℕ) → walk bytes ≡ Ok left
    → bundle.Fits a → take (length bytes - length left) bytes ≡ bundle.spell a → bundle.Fits b
    → bytes ≡ bundle.spell b ++ rest
    → (a ≡ b) × (length bytes - length left ≡ length (bundle.spell b))
front_is bytes left a b rest ok fa taken fits e =
    let s = front_split bytes left b rest ok fits e in (
      (prefix_free bundle bundle_exact a b [] [] fa fits (ap (λ (t : List ℕ). t ++ []) (sym taken
          ∙ s.0))).0,
      s.1,
    )
