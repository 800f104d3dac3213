-- The law of each way to make a format of others (own): a value that is read is spelled by the
-- bytes taken, and a spelling is read as its value. The laws that formats cite end in `_exact`.
use Rattle.std.proofs.Common.{◌≡◌, ℕ, zero, suc, ◌^◌, ◌<◌, Bool, true, cond, nat_le, List, [], ◌∷◌}
use Rattle.std.proofs.Common.{◌++◌, length, Option, Some, None, refl, sym, ap, subst, ◌∙◌}
use Rattle.std.proofs.Common.{append_assoc, arith}
use Rattle.std.specs.Int.{w16}
use Rattle.std.specs.List.{AllByRecursion, flat_map}
use Rattle.std.specs.Str.{bytes_eq}
use Rattle.std.proofs.lemmas.List.{drop_at, take_at}
use Rattle.std.proofs.lemmas.List.Concat.{flat_map-cons}
use Rattle.std.proofs.lemmas.Option.{cond_some}
use Rattle.std.proofs.lemmas.Slice.Eq.{bytes_eq-Decides}
use Rattle.tk_format.specs.Format.{◌>>=◌, Format, number_spelling, text_spelling, text_at, number}
use Rattle.tk_format.specs.Format.{bytes_of, ◌⊗◌, text, only, shaped, read_many, counted, whole}
use Rattle.tk_format.specs.Format.{sized, repeated, after, partly}
use Rattle.tk_format.specs.Exact.{IsBytes, IsBytes-drop, IsBytes-take, IsExact, Takes, Takes-then}
use Rattle.tk_format.specs.Exact.{bind_some, chosen_some, some_is, whole_again, whole_takes}
use Rattle.tk_format.specs.NumberLaws.{bytes_take, bytes_exact, u16_exact}

-- ---- one after the other

-- a pair that is read is spelled by the bytes taken
both_take : {A B : Type 0} (f : Format A) (g : Format B) → IsExact f → IsExact g
    → (bytes : List ℕ) (x : (A × B) × List ℕ) → IsBytes bytes → (f ⊗ g).read bytes ≡ Some x
    → Takes bytes (f.spell x.0.0 ++ g.spell x.0.1) x.1 × (f.Fits x.0.0 × g.Fits x.0.1)
both_take {A} {B} f g p q bytes x fits e =
    let a = bind_some (f.read bytes) (λ a. g.read a.1 >>= λ b. Some ((a.0, b.0), b.1)) x e in
    let b = bind_some (g.read a.0.1) (λ b. Some ((a.0.0, b.0), b.1)) x a.2 in
    let first = p.takes bytes a.0 fits a.1 in
    let second = q.takes a.0.1 b.0 first.0.rest_fits b.1 in
    subst (λ (y : (A × B) × List ℕ). Takes bytes (f.spell y.0.0 ++ g.spell y.0.1) y.1
    × (f.Fits y.0.0 × g.Fits y.0.1)) (some_is ((a.0.0, b.0.0), b.0.1) x b.2) (
      Takes-then bytes (f.spell a.0.0) a.0.1 (g.spell b.0.0) b.0.1 first.0 second.0,
      (first.1, second.1),
    )

-- the law of `⊗`
pub both_exact : {A B : Type 0} (f : Format A) (g : Format B) → IsExact f → IsExact g
    → IsExact (f ⊗ g)
both_exact f g p q = record {
  takes = both_take f g p q;
  again = λ x rest fits.
      rw (
        append_assoc (f.spell x.0) (g.spell x.1) rest,
        p.again x.0 (g.spell x.1 ++ rest) fits.0,
        q.again x.1 rest fits.1,
      ) refl;
}

-- ---- text

-- a text that is read is spelled by the bytes taken
text_takes : (bytes : List ℕ) (x : List ℕ × List ℕ) → IsBytes bytes → text.read bytes ≡ Some x
    → Takes bytes (text.spell x.0) x.1 × (length x.0 < 256 ^ 2)
unfolding text_at text_spelling
text_takes bytes x fits e =
    let a = bind_some ((number w16).read bytes) (λ n. (bytes_of n.0).read n.1) x e in
    let first = u16_exact.takes bytes a.0 fits a.1 in
    let second = bytes_take a.0.0 a.0.1 x first.0.rest_fits a.2 in
    let both = Takes-then bytes (number_spelling w16 a.0.0) a.0.1 x.0 x.1 first.0 second.0 in (
      subst (λ (k : ℕ). Takes bytes (number_spelling w16 k ++ x.0) x.1) (sym second.1) both,
      omega (arith, first.1, second.1),
    )

-- the law of `text`
pub text_exact : IsExact text
unfolding text_at text_spelling
text_exact = record {
  takes = text_takes;
  again = λ bs rest lt.
      ap text.read (append_assoc (number_spelling w16 (length bs)) bs rest)
      ∙ rw (u16_exact.again (length bs) (bs ++ rest) lt)
      ((bytes_exact (length bs)).again bs rest refl);
}

-- ---- tests and shapes

-- a value that is read and passes the test is spelled by the bytes taken
only_takes : {A : Type 0} (test : A → Bool) (f : Format A) → IsExact f
    → (bytes : List ℕ) (x : A × List ℕ) → IsBytes bytes → (only test f).read bytes ≡ Some x
    → Takes bytes (f.spell x.0) x.1 × (f.Fits x.0 × (test x.0 ≡ true))
only_takes {A} test f p bytes x fits e =
    let a = bind_some (f.read bytes) (λ a. cond (test a.0) (Some a) None) x e in
    let g = cond_some (test a.0.0) a.0 x a.2 in
    let first = p.takes bytes a.0 fits a.1 in
    subst (λ (y : A × List ℕ). Takes bytes (f.spell y.0) y.1 × (f.Fits y.0 × (test y.0 ≡ true))) g.1
    (first.0, (first.1, g.0))

-- the law of `only`
pub only_exact : {A : Type 0} (test : A → Bool) (f : Format A) → IsExact f → IsExact (only test f)
only_exact test f p = record {
  takes = only_takes test f p;
  again = λ a rest fits. rw (p.again a rest fits.0, fits.1) refl;
}

-- a value that is read in another shape is spelled by the bytes taken
shaped_takes : {A B : Type 0} (to : A → B) (of : B → A) (f : Format A) → IsExact f
    → ((a : A) → of (to a) ≡ a) → (bytes : List ℕ) (x : B × List ℕ) → IsBytes bytes
    → (shaped to of f).read bytes ≡ Some x → Takes bytes (f.spell (of x.0)) x.1 × f.Fits (of x.0)
shaped_takes {A} {B} to of f p back bytes x fits e =
    let a = bind_some (f.read bytes) (λ a. Some (to a.0, a.1)) x e in
    let first = p.takes bytes a.0 fits a.1 in
    subst (λ (y : B × List ℕ). Takes bytes (f.spell (of y.0)) y.1 × f.Fits (of y.0))
    (some_is (to a.0.0, a.0.1) x a.2)
    (subst (λ (v : A). Takes bytes (f.spell v) a.0.1 × f.Fits v) (sym (back a.0.0)) first)

-- the law of `shaped`, if the two functions undo each other
pub shaped_exact : {A B : Type 0} (to : A → B) (of : B → A) (f : Format A) → IsExact f
    → ((a : A) → of (to a) ≡ a) → ((b : B) → to (of b) ≡ b) → IsExact (shaped to of f)
shaped_exact to of f p back forth = record {
  takes = shaped_takes to of f p back;
  again = λ b rest fits. rw (p.again (of b) rest fits, forth b) refl;
}

-- the law of `partly`, if the second function undoes the first
pub partly_exact : {A B : Type 0} (to : A → Option B) (of : B → A) (f : Format A) → IsExact f
    → ((a : A) (b : B) → to a ≡ Some b → of b ≡ a) → IsExact (partly to of f)
partly_exact {A} {B} to of f p back = record {
  takes = λ bytes x fits e.
      let a = bind_some (f.read bytes) (λ a. to a.0 >>= λ b. Some (b, a.1)) x e in
      let b = bind_some (to a.0.0) (λ b. Some (b, a.0.1)) x a.2 in
      let first = p.takes bytes a.0 fits a.1 in
      let is = back a.0.0 b.0 b.1 in
      subst (λ (y : B × List ℕ). Takes bytes (f.spell (of y.0)) y.1
      × (f.Fits (of y.0) × (to (of y.0) ≡ Some y.0))) (some_is (b.0, a.0.1) x b.2)
      (rw is (first.0, (first.1, b.1)));
  again = λ b rest fits. rw (p.again (of b) rest fits.0, fits.1) refl;
}

-- ---- several

-- n values that are read are spelled by the bytes taken
many_take : {A : Type 0} (f : Format A) → IsExact f → (n : ℕ) (bytes : List ℕ) (x : List A × List ℕ)
    → IsBytes bytes → read_many f.read n bytes ≡ Some x
    → Takes bytes (flat_map f.spell x.0) x.1 × (length x.0 ≡ n) × AllByRecursion f.Fits x.0
unfolding read_many
many_take {A} f p zero bytes x fits e =
    subst (λ (y : List A × List ℕ). Takes bytes (flat_map f.spell y.0) y.1 × (length y.0 ≡ 0)
    × AllByRecursion f.Fits y.0) (some_is ([], bytes) x e)
    (record { parts = refl; rest_fits = fits }, refl, tt)
many_take {A} f p (suc n) bytes x fits e =
    let a = bind_some (f.read bytes)
    (λ a. read_many f.read n a.1 >>= λ others. Some (a.0 ∷ others.0, others.1)) x e in
    let b = bind_some (read_many f.read n a.0.1)
    (λ others. Some (a.0.0 ∷ others.0, others.1)) x a.2 in
    let first = p.takes bytes a.0 fits a.1 in
    let second = many_take f p n a.0.1 b.0 first.0.rest_fits b.1 in
    let both = Takes-then bytes (f.spell a.0.0) a.0.1
    (flat_map f.spell b.0.0) b.0.1 first.0 second.0 in
    subst (λ (y : List A × List ℕ). Takes bytes (flat_map f.spell y.0) y.1 × (length y.0 ≡ suc n)
    × AllByRecursion f.Fits y.0) (some_is (a.0.0 ∷ b.0.0, b.0.1) x b.2)
    (rw flat_map-cons both, ap suc second.1, (first.1, second.2))

-- the spelling of a list of values is read as that list
many_again : {A : Type 0} (f : Format A) → IsExact f → (xs : List A) (rest : List ℕ)
    → AllByRecursion f.Fits xs
    → read_many f.read (length xs) (flat_map f.spell xs ++ rest) ≡ Some (xs, rest)
unfolding read_many
many_again f p [] rest fits = refl
many_again f p (x ∷ xs) rest fits =
    let regrouped : flat_map f.spell (x ∷ xs) ++ rest ≡ f.spell x ++ (flat_map f.spell xs ++ rest) =
    ap (λ (t : List ℕ). t ++ rest) (flat_map-cons f.spell x xs)
    ∙ append_assoc (f.spell x) (flat_map f.spell xs) rest in
    ap (read_many f.read (suc (length xs))) regrouped
    ∙ rw (p.again x (flat_map f.spell xs ++ rest) fits.0, many_again f p xs rest fits.1) refl

-- a list of values that is read behind its count is spelled by the bytes taken
counted_takes : {A : Type 0} (count : Format ℕ) (f : Format A) → IsExact count → IsExact f
    → (bytes : List ℕ) (x : List A × List ℕ) → IsBytes bytes → (counted count f).read bytes ≡ Some x
    → Takes bytes (count.spell (length x.0) ++ flat_map f.spell x.0) x.1
    × (count.Fits (length x.0) × AllByRecursion f.Fits x.0)
counted_takes {A} count f p q bytes x fits e =
    let a = bind_some (count.read bytes) (λ n. read_many f.read n.0 n.1) x e in
    let first = p.takes bytes a.0 fits a.1 in
    let second = many_take f q a.0.0 a.0.1 x first.0.rest_fits a.2 in
    let both = Takes-then bytes (count.spell a.0.0) a.0.1
    (flat_map f.spell x.0) x.1 first.0 second.0 in (
      subst (λ (k : ℕ). Takes bytes (count.spell k ++ flat_map f.spell x.0) x.1)
          (sym second.1) both,
      (subst count.Fits (sym second.1) first.1, second.2),
    )

-- the law of `counted`
pub counted_exact : {A : Type 0} (count : Format ℕ) (f : Format A) → IsExact count → IsExact f
    → IsExact (counted count f)
counted_exact count f p q = record {
  takes = counted_takes count f p q;
  again = λ xs rest fits.
      rw (
        append_assoc (count.spell (length xs)) (flat_map f.spell xs) rest,
        p.again (length xs) (flat_map f.spell xs ++ rest) fits.0,
      ) (many_again f q xs rest fits.1);
}

-- the law of `repeated`
pub repeated_exact : {A : Type 0} (n : ℕ) (f : Format A) → IsExact f → IsExact (repeated n f)
repeated_exact {A} n f p = record {
  takes = λ bytes x fits e. let t = many_take f p n bytes x fits e in (t.0, (t.1, t.2));
  again = λ xs rest fits.
      subst (λ (k : ℕ). read_many f.read k (flat_map f.spell xs ++ rest) ≡ Some (xs, rest)) fits.0
      (many_again f p xs rest fits.1);
}

-- ---- a value behind its length

-- the front of a list of bytes is a list of bytes
IsBytes-front : (front rest : List ℕ) → IsBytes (front ++ rest) → IsBytes front
IsBytes-front front rest h =
    subst IsBytes (take_at front rest (length front) refl)
    (IsBytes-take (length front) (front ++ rest) h)

-- a text that is taken from bytes is a list of bytes
IsBytes-text : (bytes t rest : List ℕ) → IsBytes bytes → Takes bytes (text.spell t) rest → IsBytes t
unfolding text_spelling
IsBytes-text bytes t rest fits taken =
    let whole_text = IsBytes-front (text_spelling t) rest (subst IsBytes taken.parts fits) in
    subst IsBytes (drop_at (number_spelling w16 (length t)) t
    (length (number_spelling w16 (length t))) refl)
    (IsBytes-drop (length (number_spelling w16 (length t))) (text_spelling t) whole_text)

-- a value that is read behind its length is spelled by the bytes taken
sized_takes : {A : Type 0} (limit : ℕ) (f : Format A) → IsExact f
    → (bytes : List ℕ) (x : A × List ℕ) → IsBytes bytes → (sized limit f).read bytes ≡ Some x
    → Takes bytes (text.spell (f.spell x.0)) x.1
    × (f.Fits x.0 × (text.Fits (f.spell x.0) × (nat_le (length (f.spell x.0)) limit ≡ true)))
sized_takes {A} limit f p bytes x fits e =
    let t = bind_some ((only (λ t. nat_le (length t) limit) text).read bytes)
    (λ t. whole f t.0 >>= λ a. Some (a, t.1)) x e in
    let w = bind_some (whole f t.0.0) (λ a. Some (a, t.0.1)) x t.2 in
    let first = only_takes (λ t. nat_le (length t) limit) text text_exact bytes t.0 fits t.1 in
    let inside = whole_takes f p t.0.0 w.0 (IsBytes-text bytes t.0.0 t.0.1 fits first.0) w.1 in
    subst (λ (y : A × List ℕ). Takes bytes (text.spell (f.spell y.0)) y.1
    × (f.Fits y.0 × (text.Fits (f.spell y.0) × (nat_le (length (f.spell y.0)) limit ≡ true))))
    (some_is (w.0, t.0.1) x w.2)
    (subst (λ (s : List ℕ). Takes bytes (text.spell s) t.0.1
    × (f.Fits w.0 × (text.Fits s × (nat_le (length s) limit ≡ true)))) inside.1
    (first.0, (inside.0, first.1)))

-- the law of `sized`
pub sized_exact : {A : Type 0} (limit : ℕ) (f : Format A) → IsExact f → IsExact (sized limit f)
sized_exact limit f p = record {
  takes = sized_takes limit f p;
  again = λ a rest fits.
      rw (
        (only_exact (λ t. nat_le (length t) limit) text text_exact).again (f.spell a) rest fits.1,
        whole_again f p a fits.0,
      ) refl;
}

-- ---- bytes in front

-- a value that is read behind `magic` is spelled by the bytes taken
after_takes : {A : Type 0} (magic : List ℕ) (f : Format A) → IsExact f
    → (bytes : List ℕ) (x : A × List ℕ) → IsBytes bytes → (after magic f).read bytes ≡ Some x
    → Takes bytes (magic ++ f.spell x.0) x.1 × f.Fits x.0
after_takes magic f p bytes x fits e =
    let m = bind_some ((bytes_of (length magic)).read bytes)
    (λ m. cond (bytes_eq m.0 magic) (f.read m.1) None) x e in
    let g = chosen_some (bytes_eq m.0.0 magic) (f.read m.0.1) x m.2 in
    let first = bytes_take (length magic) bytes m.0 fits m.1 in
    let is : m.0.0 ≡ magic = (bytes_eq-Decides m.0.0 magic).0 g.0 in
    let second = p.takes m.0.1 x first.0.rest_fits g.1 in (
      subst (λ (t : List ℕ). Takes bytes (t ++ f.spell x.0) x.1) is
          (Takes-then bytes m.0.0 m.0.1 (f.spell x.0) x.1 first.0 second.0),
      second.1,
    )

-- the law of `after`
pub after_exact : {A : Type 0} (magic : List ℕ) (f : Format A) → IsExact f → IsExact (after magic f)
after_exact magic f p = record {
  takes = after_takes magic f p;
  again = λ a rest fits.
      ap (after magic f).read (append_assoc magic (f.spell a) rest)
      ∙ rw (
        (bytes_exact (length magic)).again magic (f.spell a ++ rest) refl,
        (bytes_eq-Decides magic magic).1 refl,
      ) (p.again a rest fits);
}
