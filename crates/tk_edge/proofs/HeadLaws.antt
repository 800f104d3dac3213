-- Bytes without a head. Key results:
--   no_short_head     if the bytes without a head are as many as a head may have, no bytes behind
--                     them make one
--   no_head_of_none   no bytes are no head
use Rattle.std.proofs.Common.{◌≡◌, ℕ, ◌≤◌, List, [], ◌++◌, length, take, drop, sym, ap, ◌∙◌, arith}
use Rattle.std.proofs.Common.{length-append}
use Rattle.std.proofs.Math.Seq.{take-append_seam}
use Rattle.std.proofs.lemmas.List.{take-append-le, take-append-drop}
use Rattle.httparse.specs.Grammar.{RequestHead, print_request, HasNoRequest}
use Rattle.tk_edge.specs.Heads.{HasHead}

-- of two splits of one list, the shorter front is a prefix of the longer
pub front-within : (a b c d : List ℕ) → a ++ b ≡ c ++ d → length c ≤ length a
    → a ≡ c ++ drop (length c) a
front-within a b c d e short =
    let same : take (length c) a ≡ c =
    sym (take-append-le (length c) a b short) ∙ ap (take (length c)) e ∙ take-append_seam c d in
    sym (take-append-drop (length c) a) ∙ ap (λ l. l ++ drop (length c) a) same

-- if the bytes have no head and are as many as the limit, no bytes behind them make one within it
pub no_short_head : (bytes front rest : List ℕ) (size room : ℕ) → bytes ≡ front ++ rest
    → size ≤ length front → HasNoRequest front
    → (h : RequestHead) → HasHead bytes size room h → ⊥
no_short_head bytes front rest size room e full none h ((after, reads), short, few) =
    none h (drop (length (print_request h)) front) (
      reads.0,
      front-within front rest (print_request h) after (sym e ∙ reads.1) (omega (arith)),
    )

-- no bytes are no head
pub no_head_of_none : HasNoRequest []
unfolding print_request
no_head_of_none h rest (valid, e) =
    let long = ap length e in
    let counted = simp length-append at long in
    absurd (omega (arith, counted, valid.method.0))
