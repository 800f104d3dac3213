-- The random words of a script's events, and the lengths of its requests, as the list of events
-- grows.
use Rattle.std.proofs.Common.{ℕ, zero, suc, List, [], ◌∷◌, ◌++◌, length, slice_get, Option, IfSome}
use Rattle.tk_world.specs.declared.event.Event.{Event}
use Rattle.tk_world.specs.Line.{HasWords}
use Rattle.tokend.specs.Script.{AreShort, IsTooLong, words_at}

-- what holds of each element of a list, and of one more, holds with that one behind them
each_pushed : {X : Type 0} (P : ℕ → X → Type 0) (xs : List X) (x : X)
    → ((k : ℕ) → IfSome (slice_get xs k) (P k)) → P (length xs) x → (k : ℕ)
    → IfSome (slice_get (xs ++ x ∷ []) k) (P k)
each_pushed P [] x each last zero = last
each_pushed P [] x each last (suc k) = tt
each_pushed P (y ∷ ys) x each last zero = each zero
each_pushed P (y ∷ ys) x each last (suc k) =
    each_pushed (λ n. P (suc n)) ys x (λ n. each (suc n)) last k

-- each event has its words, with one more event that has its own
pub words_pushed : (events : List Event) (event : Event)
    → ((k : ℕ) → IfSome (slice_get events k) (HasWords (words_at k)))
    → HasWords (words_at (length events)) event → (k : ℕ)
    → IfSome (slice_get (events ++ event ∷ []) k) (HasWords (words_at k))
words_pushed events event each last =
    each_pushed (λ k e. HasWords (words_at k) e) events event each last

-- no event is too long, with one more that isn't
pub short_pushed : (longest : Option ℕ) (events : List Event) (event : Event)
    → AreShort longest events → ¬ (IsTooLong longest event)
    → AreShort longest (events ++ event ∷ [])
short_pushed longest events event each last =
    each_pushed (λ k e. ¬ (IsTooLong longest e)) events event each last
