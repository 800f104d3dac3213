-- The first closing line of a reply. Key results:
--   here_is     what a slice begins with is at its place
--   not_here    no closing line is where another byte is than its first
--   none_to     one more place has no closing line
--   opened      a reply behind others is without its first closing line
--   stays_as    a reply behind others has no closing line
use Rattle.std.proofs.Common.{◌≡◌, ℕ, ◌+◌, ◌-◌, ◌<◌, ◌++◌, Bool, true, false, List, length, take}
use Rattle.std.proofs.Common.{drop}
use Rattle.std.proofs.Common.{drop-cons, get_or, nat_lt, ◌==◌, ◌≢◌, inl, inr, refl, sym, ap, subst}
use Rattle.std.proofs.Common.{◌∙◌, append_assoc, arith}
use Rattle.std.specs.List.{starts_with}
use Rattle.std.proofs.lemmas.Bool.Decides.{nat_tests}
use Rattle.std.proofs.Math.Seq.{take-add}
use Rattle.std.proofs.lemmas.List.{drop-drop, take-append-drop, take_rest}
use Rattle.tk_edge.specs.OpenReply.{HasNone, IsFirstAt, IsOpenReply, closing_line, says_at}

-- what the bytes from a place on begin with is at that place
pub here_is : (reply : List ℕ) (at : ℕ) (found : Bool)
    → found ≡ starts_with ◌==◌ (take (length reply - at) (drop at reply)) closing_line
    → says_at reply at ≡ found
here_is reply at found is =
    sym (is ∙ ap (λ l. starts_with ◌==◌ l closing_line) (take_rest reply at))

-- where a byte isn't the first of the closing line, that line isn't
pub not_here : (reply : List ℕ) (at : ℕ) → at < length reply → get_or reply at 0 ≢ 67
    → says_at reply at ≡ false
not_here reply at within other =
    let first : (67 == get_or reply at 0) ≡ false = grind (arith, nat_tests, other) in
    ap (λ l. starts_with ◌==◌ l closing_line) (drop-cons reply at 0 within)
    ∙ rw first

-- the places before one have no closing line, and neither has that one
pub none_to : (reply : List ℕ) (at : ℕ) → ((k : ℕ) → k < at → says_at reply k ≡ false)
    → says_at reply at ≡ false → (k : ℕ) → k < at + 1 → says_at reply k ≡ false
none_to reply at before here k less =
    elim (nat_lt k at) as (λ b. nat_lt k at ≡ b → says_at reply k ≡ false) [
      | true ↦ λ e. before k (grind (e, arith, nat_tests))
      | false ↦ λ e.
          let same : at ≡ k = grind (e, less, arith, nat_tests) in
          subst (λ n. says_at reply n ≡ false) same here
    ] refl

-- the bytes behind others, as a slice shows them
shown_is : (all shown : List ℕ) (start : ℕ) → shown ≡ all
    → take (length shown - start) (drop start shown) ≡ drop start all
shown_is all shown start is = take_rest shown start ∙ ap (drop start) is

-- a reply behind others, whose first closing line was taken out
pub opened : (all shown new : List ℕ) (start at : ℕ) → shown ≡ all
    → IsFirstAt (take (length shown - start) (drop start shown)) at
    → new ≡ take (start + at) all ++ drop (start + at + length closing_line) all
    → (without : List ℕ) × IsOpenReply (drop start all) without × (new ≡ take start all ++ without)
opened all shown new start at is first cut =
    let reply : List ℕ = drop start all in
    let front = take-add start at all in
    let rest : drop (at + length closing_line) reply
    ≡ drop (start + (at + length closing_line)) all =
    drop-drop (at + length closing_line) start all in
    let same : start + at + length closing_line ≡ start + (at + length closing_line) =
    omega arith in (
      take at reply ++ drop (at + length closing_line) reply,
      inl (at, subst (λ l. IsFirstAt l at) (shown_is all shown start is) first, refl),
      cut ∙ ap (λ l. l ++ drop (start + at + length closing_line) all) front
          ∙ ap (λ n. (take start all ++ take at reply) ++ drop n all) same
          ∙ ap (λ l. (take start all ++ take at reply) ++ l) (sym rest)
          ∙ append_assoc (take start all) (take at reply) (drop (at + length closing_line) reply),
    )

-- a reply behind others without a closing line stays as it is
pub stays_as : (all shown : List ℕ) (start : ℕ) → shown ≡ all
    → HasNone (take (length shown - start) (drop start shown))
    → (without : List ℕ) × IsOpenReply (drop start all) without × (all ≡ take start all ++ without)
stays_as all shown start is none = (
  drop start all,
  inr (subst HasNone (shown_is all shown start is) none, refl),
  sym (take-append-drop start all),
)
