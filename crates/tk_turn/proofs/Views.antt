-- What contracts see of a connection, by the bytes that it keeps.
use Rattle.std.proofs.Common.{◌≡◌, ℕ, ◌+◌, ◌-◌, ◌≤◌, ◌<◌, Bool, true, List, [], ◌∷◌, ◌++◌, take}
use Rattle.std.proofs.Common.{drop, length, arith, refl, sym, ap, ◌∙◌}
use Rattle.std.proofs.lemmas.List.{take-append-drop, drop-append-le}
use Rattle.std.proofs.lemmas.List.{drop_all, take_all, length-take-le, length-drop}
use Rattle.tk_turn.specs.Links.{LinkFields, ends_without}

-- two connections with the same parts are the same
pub same_link : (a b : LinkFields) → a.input ≡ b.input → a.held ≡ b.held → a.ready ≡ b.ready
    → a.is_over ≡ b.is_over → a.is_last ≡ b.is_last → a.is_cut ≡ b.is_cut → a ≡ b
same_link a b p q r s t u = λ i. record {
  input = p i;
  held = q i;
  ready = r i;
  is_over = s i;
  is_last = t i;
  is_cut = u i;
}

-- the replies that may be sent, once all may be
pub all_ready : (output : List ℕ) (sent ready : ℕ) → sent ≤ ready → ready ≤ length output
    → drop sent (take (length output) output) ≡ drop sent (take ready output) ++ drop ready output
all_ready output sent ready lower upper =
    let long : length (take ready output) ≡ ready = length-take-le ready output upper in
    let fits : sent ≤ length (take ready output) = omega arith in
    ap (drop sent) (take_all (length output) output (omega arith))
    ∙ ap (drop sent) (sym (take-append-drop ready output))
    ∙ drop-append-le sent (take ready output) (drop ready output) fits

-- nothing is held back behind all of the replies
pub none_held : (output : List ℕ) → drop (length output) output ≡ []
none_held output = drop_all (length output) output (omega arith)

-- replies that are dropped end the connection
pub ends_if_some : (held : List ℕ) (is_last : Bool) → 0 < length held
    → true ≡ ends_without held is_last
ends_if_some [] is_last some = absurd (omega arith)
ends_if_some (b ∷ bs) is_last some = refl

-- some replies are held back
pub ends_if_held : (output : List ℕ) (ready : ℕ) (is_last : Bool) → ready < length output
    → true ≡ ends_without (drop ready output) is_last
ends_if_held output ready is_last some =
    let long : length (drop ready output) ≡ length output - ready = length-drop ready output in
    ends_if_some (drop ready output) is_last (omega arith)

-- nothing is held back once it is dropped
pub none_left : (output : List ℕ) (ready : ℕ) → ready ≤ length output
    → drop ready (take ready output) ≡ []
none_left output ready upper =
    let long : length (take ready output) ≡ ready = length-take-le ready output upper in
    drop_all ready (take ready output) (omega arith)
