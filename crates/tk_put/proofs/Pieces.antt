-- Several writes, one after another, and what they leave. Key results:
--   front_more    a text, then a beginning of the next
--   put_step      a write of bytes goes on
--   put_more      a write of pieces goes on
--   put_failed    a write of pieces that fails leaves a beginning
use Rattle.std.proofs.Common.{◌≡◌, ℕ, zero, suc, ◌+◌, ◌<◌, List, [], ◌∷◌, ◌++◌, take, drop, get_or}
use Rattle.std.proofs.Common.{length, Option, Bor, refl, sym, ap, subst, ◌∙◌, append_assoc}
use Rattle.std.proofs.Common.{append-nil, add-one, arith}
use Rattle.std.proofs.KnownBytes.{Appends-trans}
use Rattle.std.specs.Io.KnownBytes.{Appends}
use Rattle.std.proofs.lemmas.List.{take-append-drop}
use Rattle.tk_put.specs.Put.{AppendsFront, joined_text}

-- a text was written, then a beginning of the next
pub front_more : (old mid new : Option (List ℕ)) (before text rest all : List ℕ)
    → Appends old mid before → AppendsFront mid new text → all ≡ before ++ (text ++ rest)
    → AppendsFront old new all
front_more old mid new before text rest all done begun same = record {
  front = before ++ begun.front;
  rest = begun.rest ++ rest;
  parts = same ∙ ap (λ t. before ++ (t ++ rest)) begun.parts
      ∙ ap (λ t. before ++ t) (append_assoc begun.front begun.rest rest)
      ∙ sym (append_assoc before begun.front (begun.rest ++ rest));
  appended = Appends-trans old mid new before begun.front done begun.appended;
}

-- ---- bytes

-- the first bytes of no bytes are none
take_nil : (k : ℕ) → take {A = ℕ} k [] ≡ []
take_nil zero = refl
take_nil (suc k) = refl

-- the first m bytes, and the first n of the rest, are the first m + n
take_further : (bytes : List ℕ) (m n : ℕ)
    → take m bytes ++ take n (drop m bytes) ≡ take (m + n) bytes
take_further bytes zero n = let same : n ≡ 0 + n = omega arith in ap (λ (k : ℕ). take k bytes) same
take_further [] (suc m) n = take_nil n ∙ sym (take_nil (suc m + n))
take_further (b ∷ bytes) (suc m) n =
    let same : suc (m + n) ≡ suc m + n = omega arith in
    ap (λ (t : List ℕ). b ∷ t) (take_further bytes m n) ∙ ap (λ (k : ℕ). take k (b ∷ bytes)) same

-- one more part of the bytes was written
pub put_step : (old mid new : Option (List ℕ)) (bytes rest : List ℕ) (m n : ℕ) → rest ≡ drop m bytes
    → Appends old mid (take m bytes) → Appends mid new (take n rest)
    → Appends old new (take (m + n) bytes)
put_step old mid new bytes rest m n is before here =
    subst (Appends old new)
    (ap (λ (t : List ℕ). take m bytes ++ take n t) is ∙ take_further bytes m n)
    (Appends-trans old mid new (take m bytes) (take n rest) before here)

-- the first bytes were written
pub front_taken : (old new : Option (List ℕ)) (bytes : List ℕ) (m : ℕ)
    → Appends old new (take m bytes) → AppendsFront old new bytes
front_taken old new bytes m done = record {
  front = take m bytes;
  rest = drop m bytes;
  parts = sym (take-append-drop m bytes);
  appended = done;
}

-- ---- pieces

-- the text of some pieces is that of those before one, of that one, and of those behind
pieces_at : (ps : List (Bor (List ℕ))) (i : ℕ) (d : Bor (List ℕ)) → i < length ps
    → joined_text ps
    ≡ joined_text (take i ps) ++ ((get_or ps i d).now ++ joined_text (drop (suc i) ps))
pieces_at [] i d lt = absurd (omega arith)
pieces_at (q ∷ ps) zero d lt = refl
pieces_at (q ∷ ps) (suc i) d lt =
    ap (λ (t : List ℕ). q.now ++ t) (pieces_at ps i d (omega arith))
    ∙ sym (append_assoc q.now (joined_text (take i ps))
    ((get_or ps i d).now ++ joined_text (drop (suc i) ps)))

-- the text of the first pieces and the next one
pub pieces_to : (ps : List (Bor (List ℕ))) (i : ℕ) (d : Bor (List ℕ)) → i < length ps
    → joined_text (take i ps) ++ (get_or ps i d).now ≡ joined_text (take (suc i) ps)
pieces_to [] i d lt = absurd (omega arith)
pieces_to (q ∷ ps) zero d lt = sym (append-nil q.now)
pieces_to (q ∷ ps) (suc i) d lt = append_assoc q.now (joined_text (take i ps)) (get_or ps i d).now
    ∙ ap (λ (t : List ℕ). q.now ++ t) (pieces_to ps i d (omega arith))

-- one more piece was written
pub put_more : (old mid new : Option (List ℕ)) (ps : List (Bor (List ℕ))) (i : ℕ) (d : Bor (List ℕ))
    → i < length ps
    → Appends old mid (joined_text (take i ps)) → Appends mid new (get_or ps i d).now
    → Appends old new (joined_text (take (i + 1) ps))
put_more old mid new ps i d lt before here =
    rw add-one
    (subst (Appends old new) (pieces_to ps i d lt) (Appends-trans old mid new _ _ before here))

-- a writer that fails in a piece has a front of all
pub put_failed : (old mid new : Option (List ℕ)) (ps : List (Bor (List ℕ))) (i : ℕ)
    (d : Bor (List ℕ))
    → i < length ps
    → Appends old mid (joined_text (take i ps)) → AppendsFront mid new (get_or ps i d).now
    → AppendsFront old new (joined_text ps)
put_failed old mid new ps i d lt before here =
    front_more old mid new _ (get_or ps i d).now _ _ before here (pieces_at ps i d lt)
