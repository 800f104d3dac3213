-- The random words of a connection (own).
--   word        the generator's next word of 32 bits
--   past_word   the generator after that word
--   wide        the next two words as one of 64 bits, the first of them high
--   past_wide   the generator after these two words
--   six         the next six words of 64 bits
--   past_six    the generator after these six words
use Rattle.std.specs.Prelude.{ℕ, ◌+◌, ◌*◌, ◌^◌, List, [], ◌∷◌}
use Rattle.rand_chacha.specs.ChaCha.{ChaCha, next_word}

-- the generator's next word of 32 bits
abbrev pub word : ChaCha → ℕ
word g = (next_word 10 g).0

-- the generator after its next word of 32 bits
abbrev pub past_word : ChaCha → ChaCha
past_word g = (next_word 10 g).1

-- the next two words as one of 64 bits, the first of them high
abbrev pub wide : ChaCha → ℕ
wide g = word g * 2 ^ 32 + word (past_word g)

-- the generator after its next word of 64 bits
abbrev pub past_wide : ChaCha → ChaCha
past_wide g = past_word (past_word g)

-- the next six words of 64 bits
abbrev pub six : ChaCha → List ℕ
six g =
    let a = past_wide g in
    let b = past_wide a in
    let c = past_wide b in
    let d = past_wide c in
    let e = past_wide d in
    wide g ∷ wide a ∷ wide b ∷ wide c ∷ wide d ∷ wide e ∷ []

-- the generator after its next six words of 64 bits
abbrev pub past_six : ChaCha → ChaCha
past_six g = past_wide (past_wide (past_wide (past_wide (past_wide (past_wide g)))))
