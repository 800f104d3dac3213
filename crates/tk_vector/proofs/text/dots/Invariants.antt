use Rattle.std.proofs.Common.{◌≡◌, map}
use Rattle.std.specs.List.{All}
use Rattle.tk_handle.specs.Dot.{IsDot}
use Rattle.tk_handle.specs.DotText.{dot_text}
use Rattle.tk_vector.proofs.text.dots.Given as goal

abbrev pub invariant-loop-entry : goal.invariant-loop-entry
invariant-loop-entry l =
    (map (λ entry. entry.now) l.yielded ≡ map dot_text l.dots.items) × All IsDot l.dots.items
