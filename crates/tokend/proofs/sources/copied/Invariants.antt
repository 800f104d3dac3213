use Rattle.std.proofs.Common.{◌≡◌, ℕ, List, Bor, map, take, string_bytes}
use Rattle.tokend.proofs.sources.copied.Given as goal

-- the texts so far are copied
abbrev pub invariant-loop-text : goal.invariant-loop-text
invariant-loop-text l =
    map string_bytes l.copies.items
    ≡ map (λ (text : Bor (List ℕ)). text.now) (take l.text-index l.texts)
