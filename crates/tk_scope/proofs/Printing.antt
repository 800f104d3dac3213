-- The printed form of a scope.
--   tokens_of-scope_text    the printed form is read as the tokens in order
--   printed_short           the printed form is no longer than the text
--   scope_text_again        the printed form is its own scope
use Rattle.std.proofs.Common.{◌≡◌, ℕ, ◌+◌, ◌<◌, ◌≤◌, true, false, not, cond, List, [], ◌∷◌, length}
use Rattle.std.proofs.Common.{All, Contains, Some, None, is_some, ◌==◌, nat_lt, refl, sym, ap, ◌∙◌}
use Rattle.std.proofs.Common.{subst, arith, bytes_eq, length-append}
use Rattle.std.specs.Cmp.Lexicographic.{slice_cmp}
use Rattle.std.specs.List.{AllByRecursion, join_with_byte, list_all}
use Rattle.std.specs.Ordering.{is_lt, nat_cmp}
use Rattle.std.specs.Str.{IsUtf8}
use Rattle.std.proofs.lemmas.Bool.{cond_both, le-ltb, ltb-false, and_parts as both_sides}
use Rattle.std.proofs.lemmas.List.Splits.{join_with_byte-slice_split, length-slice_split}
use Rattle.std.proofs.lemmas.List.Splits.{slice_split_at, slice_split_none}
use Rattle.tk_scope.specs.declared.error.ScopeError.{ScopeError}
use Rattle.tk_scope.specs.declared.error.ScopeError.TheVariants.{TooLong, Malformed, TooMany}
use Rattle.tk_scope.specs.Scope.{max_length, HasSameTokens, in_order, is_token, max_tokens}
use Rattle.tk_scope.specs.Scope.{scope_of, scope_refusal, scope_text, tokens_of, with_token}
use Rattle.tk_scope.proofs.Ascii.{All-no_space, tokens_utf8}
use Rattle.tk_scope.proofs.Order.{All-contains_in_order, All-in_order, All-in_order_contains}
use Rattle.tk_scope.proofs.Order.{in_order-in_order, in_order_rises, in_order_same, Rises}

-- ---- joined tokens, cut at the spaces

-- joined tokens are cut at the first space into the first token and the others
cut_again : (t : List ℕ) (ts : List (List ℕ)) → list_all is_token (t ∷ ts) ≡ true
    → tokens_of (join_with_byte 0x20 (t ∷ ts)) ≡ t ∷ ts
cut_again t [] h = slice_split_none (λ b. b == 0x20) t (All-no_space t (both_sides _ _ h).0)
cut_again t (u ∷ ts) h =
    let sides = both_sides (is_token t) (list_all is_token (u ∷ ts)) h in
    slice_split_at (λ b. b == 0x20) t 0x20 (join_with_byte 0x20 (u ∷ ts)) (All-no_space t sides.0)
    refl
    ∙ ap (λ (us : List (List ℕ)). t ∷ us) (cut_again u ts sides.1)

-- tokens joined by spaces are the tokens of the joined text
tokens_of-join : (ts : List (List ℕ)) → 0 < length ts → list_all is_token ts ≡ true
    → tokens_of (join_with_byte 0x20 ts) ≡ ts
tokens_of-join [] some h = absurd (omega arith)
tokens_of-join (t ∷ ts) some h = cut_again t ts h

-- ---- a list of tokens, as a test and as a fact

-- a list that passes has only tokens
all_tokens : (ts : List (List ℕ)) → list_all is_token ts ≡ true
    → AllByRecursion (λ t. is_token t ≡ true) ts
all_tokens [] h = tt
all_tokens (t ∷ ts) h = let sides = both_sides _ _ h in (sides.0, all_tokens ts sides.1)

-- a list that has only tokens passes
all_pass : (ts : List (List ℕ)) → AllByRecursion (λ t. is_token t ≡ true) ts
    → list_all is_token ts ≡ true
all_pass [] h = refl
all_pass (t ∷ ts) h = rw (h.0, all_pass ts h.1) refl

-- the tokens of a list are tokens when put in order
in_order_tokens : (ts : List (List ℕ)) → list_all is_token ts ≡ true
    → list_all is_token (in_order ts) ≡ true
in_order_tokens ts h =
    all_pass (in_order ts) (All-in_order (λ t. is_token t ≡ true) ts (all_tokens ts h))

-- ---- lengths

-- the bytes of tokens, each counted with one space
abbrev pub width : List (List ℕ) → ℕ
width [] = 0
width (t ∷ ts) = length t + 1 + width ts

-- joined tokens have one byte less than their `width`
length-join : (ts : List (List ℕ)) → 0 < length ts → length (join_with_byte 0x20 ts) + 1 ≡ width ts
length-join [] some = absurd (omega arith)
length-join (t ∷ []) some = omega arith
length-join (t ∷ u ∷ ts) some = let rest = length-join (u ∷ ts) (omega arith) in
    omega (arith, length-append t (0x20 ∷ join_with_byte 0x20 (u ∷ ts)))

-- vs has at most one token more than us, and at most the bytes of that token and a space more
pub record IsShort (t : List ℕ) (us vs : List (List ℕ)) : Type 0 where
  pub tokens : length vs ≤ length us + 1
  pub bytes : width vs ≤ length t + 1 + width us
  pub some : 0 < length vs

-- `with_token` adds at most one token
with_token_short : (t : List ℕ) (us : List (List ℕ)) → IsShort t us (with_token t us)
with_token_short t [] = record { tokens = omega arith; bytes = omega arith; some = omega arith }
with_token_short t (u ∷ us) =
    cond_both (bytes_eq t u) (u ∷ us) _ (IsShort t (u ∷ us))
    (λ _. record { tokens = omega arith; bytes = omega arith; some = omega arith })
    (λ _. cond_both (is_lt (slice_cmp nat_cmp t u)) (t ∷ u ∷ us) (u ∷ with_token t us)
    (IsShort t (u ∷ us))
    (λ _. record { tokens = omega arith; bytes = omega arith; some = omega arith })
    (λ _. let rest = with_token_short t us in
    record { tokens = omega arith; bytes = omega arith; some = omega arith }))

-- tokens in order are no more than the tokens of the list
in_order_fewer : (ts : List (List ℕ)) → length (in_order ts) ≤ length ts
in_order_fewer [] = omega arith
in_order_fewer (t ∷ ts) = let one = with_token_short t (in_order ts) in
    omega (arith, in_order_fewer ts)

-- tokens in order have no more bytes than the tokens of the list
in_order_shorter : (ts : List (List ℕ)) → width (in_order ts) ≤ width ts
in_order_shorter [] = omega arith
in_order_shorter (t ∷ ts) = let one = with_token_short t (in_order ts) in
    omega (arith, in_order_shorter ts)

-- a list that has tokens has tokens when put in order
in_order_some : (ts : List (List ℕ)) → 0 < length ts → 0 < length (in_order ts)
in_order_some [] some = some
in_order_some (t ∷ ts) some = let one = with_token_short t (in_order ts) in omega arith

-- a text has at least one token, if an empty one
tokens_some : (text : List ℕ) → 0 < length (tokens_of text)
tokens_some text = omega (arith, length-slice_split (λ b. b == 0x20) text)

-- ---- a text that is not refused

-- the tests that an accepted text passes
pub record IsAccepted (text : List ℕ) : Type 0 where
  pub short : length text ≤ max_length
  pub tokens : list_all is_token (tokens_of text) ≡ true
  pub few : length (tokens_of text) ≤ max_tokens

-- a text that breaks no rule passes each test
pub accepted : (text : List ℕ) → scope_refusal text ≡ None → IsAccepted text
accepted text h =
    elim (nat_lt max_length (length text)) as
    (λ a. nat_lt max_length (length text) ≡ a
    → cond a (Some TooLong)
    (cond (not (list_all is_token (tokens_of text))) (Some Malformed)
    (cond (nat_lt max_tokens (length (tokens_of text))) (Some TooMany) None))
    ≡ None → IsAccepted text) [
      | true ↦ λ _ e. absurd cc
      | false ↦ λ short. elim (list_all is_token (tokens_of text)) as
          (λ b. list_all is_token (tokens_of text) ≡ b
          → cond (not b) (Some Malformed)
          (cond (nat_lt max_tokens (length (tokens_of text))) (Some TooMany) None)
          ≡ None → IsAccepted text) [
            | false ↦ λ _ e. absurd cc
            | true ↦ λ tokens. elim (nat_lt max_tokens (length (tokens_of text))) as
                (λ c. nat_lt max_tokens (length (tokens_of text)) ≡ c
                → cond c (Some TooMany) None ≡ None → IsAccepted text) [
                  | true ↦ λ _ e. absurd cc
                  | false ↦ λ few _.
                      record {
                        short = ltb-false _ _ short;
                        tokens = tokens;
                        few = ltb-false _ _ few;
                      }
                ] refl
          ] refl
    ] refl h

-- a text that passes each test breaks no rule
pub scope_refusal-None : (text : List ℕ) → IsAccepted text → scope_refusal text ≡ None
scope_refusal-None text a = rw (
  le-ltb max_length (length text) a.short,
  a.tokens,
  le-ltb max_tokens (length (tokens_of text)) a.few,
) refl

-- a text that passes each test is the scope of its tokens
pub scope_of-accepted : (text : List ℕ) → IsAccepted text
    → scope_of text ≡ Some (scope_text (tokens_of text))
scope_of-accepted text a = rw (scope_refusal-None text a) refl

-- a text with a scope passes each test, and the scope is the text of its tokens
pub accepted_by_scope : (text scope : List ℕ) → scope_of text ≡ Some scope
    → IsAccepted text × (scope ≡ scope_text (tokens_of text))
accepted_by_scope text scope h =
    elim (scope_refusal text) as
    (λ r. scope_refusal text ≡ r
    → cond (is_some r) None (Some (scope_text (tokens_of text))) ≡ Some scope
    → IsAccepted text × (scope ≡ scope_text (tokens_of text))) [
      | None ↦ λ none e. (accepted text none, cc)
      | Some e ↦ λ _ f. absurd cc
    ] refl h

-- a text that breaks a rule has no scope
pub no_scope : (text : List ℕ) (e : ScopeError) → scope_refusal text ≡ Some e → scope_of text ≡ None
no_scope text e h = rw h refl

-- a text whose bytes are no UTF-8 breaks the grammar
pub not_utf8 : (text : List ℕ) → length text ≤ max_length → (IsUtf8 text → ⊥)
    → scope_refusal text ≡ Some Malformed
not_utf8 text short none =
    elim (list_all is_token (tokens_of text)) as
    (λ b. list_all is_token (tokens_of text) ≡ b → scope_refusal text ≡ Some Malformed) [
      | true ↦ λ tokens. absurd (none (tokens_utf8 text tokens))
      | false ↦ λ bad. rw (le-ltb max_length (length text) short, bad) refl
    ] refl

-- ---- the printed form

-- the tokens of the printed form are the tokens of the text in order
pub tokens_of-scope_text : (text : List ℕ) → IsAccepted text
    → tokens_of (scope_text (tokens_of text)) ≡ in_order (tokens_of text)
tokens_of-scope_text text a = tokens_of-join (in_order (tokens_of text))
    (in_order_some (tokens_of text) (tokens_some text)) (in_order_tokens (tokens_of text) a.tokens)

-- the printed form is no longer than the text
printed_short : (text : List ℕ) → length (scope_text (tokens_of text)) ≤ length text
printed_short text =
    let ts = tokens_of text in
    let whole : length (join_with_byte 0x20 ts) ≡ length text =
    ap length (join_with_byte-slice_split 0x20 text) in
    omega (
      arith,
      length-join ts (tokens_some text),
      length-join (in_order ts) (in_order_some ts (tokens_some text)),
      in_order_shorter ts,
    )

-- the printed form passes each test
printed_accepted : (text : List ℕ) → IsAccepted text → IsAccepted (scope_text (tokens_of text))
printed_accepted text a =
    let cut = tokens_of-scope_text text a in
    record {
      short = omega (arith, a.short, printed_short text);
      tokens = rw cut (in_order_tokens (tokens_of text) a.tokens);
      few = rw cut (omega (arith, a.few, in_order_fewer (tokens_of text)));
    }

-- the printed form of a text is its own scope
pub scope_text_again : (text : List ℕ) → IsAccepted text
    → scope_of (scope_text (tokens_of text)) ≡ Some (scope_text (tokens_of text))
scope_text_again text a =
    scope_of-accepted (scope_text (tokens_of text)) (printed_accepted text a)
    ∙ ap (λ (ts : List (List ℕ)). Some (join_with_byte 0x20 ts))
    (ap in_order (tokens_of-scope_text text a) ∙ in_order-in_order (tokens_of text))

-- the printed form has the same tokens as the text
pub scope_text_members : (text : List ℕ) → IsAccepted text
    → HasSameTokens text (scope_text (tokens_of text))
scope_text_members text a =
    let cut = tokens_of-scope_text text a in (
      subst (λ (us : List (List ℕ)). All (Contains us) (tokens_of text)) (sym cut)
          (All-in_order_contains (tokens_of text)),
      subst (λ (us : List (List ℕ)). All (Contains (tokens_of text)) us) (sym cut)
          (All-contains_in_order (tokens_of text)),
    )

-- the tokens of a scope rise
pub scope_rises : (scope : List ℕ) → scope_of scope ≡ Some scope → Rises (tokens_of scope)
scope_rises scope h =
    let a = accepted_by_scope scope scope h in
    let cut : tokens_of scope ≡ in_order (tokens_of scope) =
    ap tokens_of a.1 ∙ tokens_of-scope_text scope a.0 in
    subst Rises (sym cut) (in_order_rises (tokens_of scope))

-- scopes with the same tokens are equal
pub same_scope : (a b : List ℕ) → scope_of a ≡ Some a → scope_of b ≡ Some b → HasSameTokens a b
    → a ≡ b
same_scope a b p q h =
    (accepted_by_scope a a p).1
    ∙ ap (join_with_byte 0x20) (in_order_same (tokens_of a) (tokens_of b) h.0 h.1)
    ∙ sym (accepted_by_scope b b q).1
