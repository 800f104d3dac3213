-- Several writes of lines, one after another, and what they leave. Key results:
--   lines_more    a write of lines goes on
--   lines_failed  a write of lines that fails leaves a beginning
--   lines_end     the lines of all events or outcomes are all lines
use Rattle.std.proofs.Common.{◌≡◌, ℕ, min, zero, suc, ◌+◌, ◌<◌, ◌≤◌, List, [], ◌∷◌, ◌++◌, length}
use Rattle.std.proofs.Common.{take, drop, get_or, Option, refl, sym, ap, subst, ◌∙◌, append_assoc}
use Rattle.std.proofs.Common.{append-nil, add-one, arith}
use Rattle.std.proofs.KnownBytes.{Appends-trans}
use Rattle.std.specs.Io.KnownBytes.{Appends}
use Rattle.tk_put.specs.Put.{AppendsFront}
use Rattle.tk_put.proofs.Pieces.{front_more}
use Rattle.tk_world.specs.declared.event.Event.{Event}
use Rattle.tk_world.specs.declared.event.Outcome.{Outcome}
use Rattle.tk_world.specs.Printed.{line_text, lines_text}

-- the lines of events are those before an event, its line, and those after it
lines_at : (es : List Event) (os : List Outcome) (i : ℕ) (e : Event) (o : Outcome) → i < length es
    → i < length os → e ≡ get_or es i e → o ≡ get_or os i o
    → lines_text es os
    ≡ lines_text (take i es) (take i os)
    ++ (line_text (e, o) ++ lines_text (drop (suc i) es) (drop (suc i) os))
lines_at [] os i e o l m p q = absurd (omega arith)
lines_at (x ∷ es) [] i e o l m p q = absurd (omega arith)
lines_at (x ∷ es) (y ∷ os) zero e o l m p q =
    ap (λ (d : Event). line_text (d, y) ++ lines_text es os) (sym p)
    ∙ ap (λ (d : Outcome). line_text (e, d) ++ lines_text es os) (sym q)
lines_at (x ∷ es) (y ∷ os) (suc i) e o l m p q =
    ap (λ t. line_text (x, y) ++ t) (lines_at es os i e o (omega arith) (omega arith) p q)
    ∙ sym (append_assoc (line_text (x, y)) (lines_text (take i es) (take i os))
    (line_text (e, o) ++ lines_text (drop (suc i) es) (drop (suc i) os)))

-- the lines before an event and its own line are those up to the event
lines_to : (es : List Event) (os : List Outcome) (i : ℕ) (e : Event) (o : Outcome) → i < length es
    → i < length os → e ≡ get_or es i e → o ≡ get_or os i o
    → lines_text (take i es) (take i os) ++ line_text (e, o)
    ≡ lines_text (take (suc i) es) (take (suc i) os)
lines_to [] os i e o l m p q = absurd (omega arith)
lines_to (x ∷ es) [] i e o l m p q = absurd (omega arith)
lines_to (x ∷ es) (y ∷ os) zero e o l m p q =
    ap (λ (d : Event). line_text (d, o)) p ∙ ap (λ (d : Outcome). line_text (x, d)) q
    ∙ sym (append-nil (line_text (x, y)))
lines_to (x ∷ es) (y ∷ os) (suc i) e o l m p q =
    append_assoc (line_text (x, y)) (lines_text (take i es) (take i os)) (line_text (e, o))
    ∙ ap (λ t. line_text (x, y) ++ t) (lines_to es os i e o (omega arith) (omega arith) p q)

-- an output with the first lines and one more line has one more of the first lines
pub lines_more : (old mid new : Option (List ℕ)) (es : List Event) (os : List Outcome) (i : ℕ)
    (e : Event) (o : Outcome)
    → i < length es → i < length os → e ≡ get_or es i e → o ≡ get_or os i o
    → Appends old mid (lines_text (take i es) (take i os)) → Appends mid new (line_text (e, o))
    → Appends old new (lines_text (take (i + 1) es) (take (i + 1) os))
lines_more old mid new es os i e o l m p q before here =
    rw add-one
    (subst (Appends old new) (lines_to es os i e o l m p q)
    (Appends-trans old mid new _ _ before here))

-- an output that fails in a line has a front of all lines
pub lines_failed : (old mid new : Option (List ℕ)) (es : List Event) (os : List Outcome) (i : ℕ)
    (e : Event) (o : Outcome)
    → i < length es → i < length os → e ≡ get_or es i e → o ≡ get_or os i o
    → Appends old mid (lines_text (take i es) (take i os)) → AppendsFront mid new (line_text (e, o))
    → AppendsFront old new (lines_text es os)
lines_failed old mid new es os i e o l m p q before here =
    front_more old mid new _ (line_text (e, o)) _ _ before here (lines_at es os i e o l m p q)

-- the lines of all events, or of all outcomes, are all lines
pub lines_end : (es : List Event) (os : List Outcome) (n : ℕ) → min (length es) (length os) ≤ n
    → lines_text (take n es) (take n os) ≡ lines_text es os
lines_end [] os n le = nothing n
  where
    nothing : (k : ℕ) → lines_text (take {A = Event} k []) (take k os) ≡ []
    nothing zero = refl
    nothing (suc k) = refl
lines_end (x ∷ es) [] zero le = refl
lines_end (x ∷ es) [] (suc n) le = refl
lines_end (x ∷ es) (y ∷ os) zero le = absurd (omega arith)
lines_end (x ∷ es) (y ∷ os) (suc n) le =
    ap (λ t. line_text (x, y) ++ t) (lines_end es os n (omega arith))
