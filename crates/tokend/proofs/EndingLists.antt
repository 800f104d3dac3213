-- Lists of endings, one behind the other. Key results:
--   decisions_both     the decisions of both lists
--   counted_both       what they count
--   reach_both, told_both, turns_both   the same of paths, of reports and of turns
use Rattle.std.proofs.Common.{◌≡◌, ℕ, ◌+◌, Bool, false, true, List, [], ◌∷◌, ◌++◌, append_assoc}
use Rattle.std.proofs.Common.{length, refl, sym, ap, subst}
use Rattle.std.proofs.Common.{◌∙◌, arith}
use Rattle.std.proofs.lemmas.List.{length-append}
use Rattle.rand_chacha.specs.ChaCha.{ChaCha}
use Rattle.tk_edge.specs.EdgeFields.{EdgeFields}
use Rattle.tokend.specs.Decisions.{paths_by}
use Rattle.tokend.specs.Counting.{with_end}
use Rattle.tokend.specs.Draw.{past_six}
use Rattle.tokend.specs.declared.metrics.Counts.{Counts}
use Rattle.tokend.specs.Telling.{Writer}
use Rattle.tokend.specs.Turns.{all_counted}
use Rattle.tokend.specs.Turns.{AreDecisions, AreReported, AreTurns, Endings, MayReach}
use Rattle.tokend.specs.Turns.{ReachEach, Running, all_ends, connections_in, past_each}

-- ---- lists of endings

-- the words behind two lists of connections are those behind the second
pub past_both : (words : ChaCha) (xs ys : Endings) → past_each words (xs ++ ys)
    ≡ past_each (past_each words xs) ys
past_both words [] ys = refl
past_both words (x ∷ xs) ys = past_both (past_six words) xs ys

-- the ends of two lists of turns follow one another
pub all_both : (xs ys : List Endings) → all_ends (xs ++ ys) ≡ all_ends xs ++ all_ends ys
all_both [] ys = refl
all_both (x ∷ xs) ys = ap (λ l. x ++ l) (all_both xs ys)
    ∙ sym (append_assoc x (all_ends xs) (all_ends ys))

-- the decisions of two lists of connections are those of both
pub decisions_both : (words : ChaCha) (log_taken : Bool) (old : EdgeFields) (xs : Endings)
    (first : List ℕ) (mid : EdgeFields) (ys : Endings) (rest : List ℕ) (new : EdgeFields)
    → AreDecisions words log_taken old xs first mid
    → AreDecisions (past_each words xs) log_taken mid ys rest new
    → AreDecisions words log_taken old (xs ++ ys) (first ++ rest) new
decisions_both words log_taken old [] first mid ys rest new h k =
    subst (λ l. AreDecisions words log_taken old ys (l ++ rest) new) (sym h.1)
    (subst (λ o. AreDecisions words log_taken o ys rest new) h.0 k)
decisions_both words log_taken old (x ∷ xs) first mid ys rest new h k = (
  h.0,
  h.1,
  h.2 ++ rest,
  h.3,
  ap (λ l. l ++ rest) h.4 ∙ append_assoc h.1 h.2 rest,
  decisions_both (past_six words) log_taken h.0 xs h.2 mid ys rest new h.5 k,
)

-- two lists of connections are counted one after the other
pub counted_both : (xs ys : Endings) (counts : Counts) → all_counted (xs ++ ys) counts
    ≡ all_counted ys (all_counted xs counts)
counted_both [] ys counts = refl
counted_both (x ∷ xs) ys counts =
    counted_both xs ys (with_end x.end x.reach.paths x.path x.now counts)

-- two lists of connections have as many as both
pub connections_both : (xs ys : Endings) → connections_in (xs ++ ys) ≡ connections_in xs
    + connections_in ys
connections_both [] ys = omega arith
connections_both (x ∷ xs) ys = omega (arith, connections_both xs ys)

-- if each of these connections ended behind its first request, and each of those did, all did
pub closes_both : (xs ys : Endings) → connections_in xs ≡ length xs → connections_in ys ≡ length ys
    → connections_in (xs ++ ys) ≡ length (xs ++ ys)
closes_both xs ys h k = omega (arith, connections_both xs ys, length-append xs ys, h, k)

-- if each of these requests reached what it may, and each of those did, all did
pub reach_both : (has_inner : Bool) (xs ys : Endings) → ReachEach has_inner xs
    → ReachEach has_inner ys → ReachEach has_inner (xs ++ ys)
reach_both has_inner [] ys h k = k
reach_both has_inner (x ∷ xs) ys h k = (h.0, reach_both has_inner xs ys h.1 k)

-- the requests of a socket reach what they may
pub may_reach : (has_inner is_inner : Bool) → MayReach has_inner (paths_by has_inner is_inner)
may_reach true false = refl
may_reach true true = tt
may_reach false is_inner = tt

-- the faults of two lists of connections are reported one after the other
pub told_both : (xs ys : Endings) (old mid new : Writer) → AreReported xs old mid
    → AreReported ys mid new → AreReported (xs ++ ys) old new
told_both [] ys old mid new h k = subst (λ o. AreReported ys o new) h k
told_both (x ∷ xs) ys old mid new h k = (h.0, h.1, told_both xs ys h.0 mid new h.2 k)

-- the turns of two lists of ends follow one another
pub turns_both : (words : ChaCha) (log_taken : Bool) (old : Running) (xs : List Endings)
    (mid : Running) (ys : List Endings) (new : Running)
    → AreTurns words log_taken old xs mid
    → AreTurns (past_each words (all_ends xs)) log_taken mid ys new
    → AreTurns words log_taken old (xs ++ ys) new
turns_both words log_taken old [] mid ys new same k =
    subst (λ o. AreTurns words log_taken o ys new) same k
turns_both words log_taken old (x ∷ xs) mid ys new h k = (
  h.0,
  h.1,
  h.2,
  h.3,
  turns_both (past_each words x) log_taken h.1 xs mid ys new h.4
      (subst (λ w. AreTurns w log_taken mid ys new) (past_both words x (all_ends xs)) k),
)

-- ---- what a server does, one after the other
