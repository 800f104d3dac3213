-- Writes of members, one behind the other.
--   two_of, three_of, four_of, five_of, six_of, eight_of   what that many writes leave behind each
--                                                          other
use Rattle.std.proofs.Common.{◌≡◌, List, ◌++◌, append_assoc}
use Rattle.json.specs.Token.{Token}

-- what two writes leave, one behind the other
pub two_of : (t0 t1 t2 a b : List Token) → t1 ≡ t0 ++ a → t2 ≡ t1 ++ b → t2 ≡ t0 ++ (a ++ b)
two_of t0 t1 t2 a b h1 h2 = rw (h2, h1) (simp append_assoc)

-- what three writes leave, one behind the other
pub three_of : (t0 t1 t2 t3 a b c : List Token) → t1 ≡ t0 ++ a → t2 ≡ t1 ++ b → t3 ≡ t2 ++ c
    → t3 ≡ t0 ++ (a ++ (b ++ c))
three_of t0 t1 t2 t3 a b c h1 h2 h3 = rw (h3, h2, h1) (simp append_assoc)

-- what four writes leave, one behind the other
pub four_of : (t0 t1 t2 t3 t4 a b c d : List Token) → t1 ≡ t0 ++ a → t2 ≡ t1 ++ b → t3 ≡ t2 ++ c
    → t4 ≡ t3 ++ d → t4 ≡ t0 ++ (a ++ (b ++ (c ++ d)))
four_of t0 t1 t2 t3 t4 a b c d h1 h2 h3 h4 = rw (h4, h3, h2, h1) (simp append_assoc)

-- what five writes leave, one behind the other
pub five_of : (t0 t1 t2 t3 t4 t5 a b c d e : List Token) → t1 ≡ t0 ++ a → t2 ≡ t1 ++ b
    → t3 ≡ t2 ++ c → t4 ≡ t3 ++ d → t5 ≡ t4 ++ e → t5 ≡ t0 ++ (a ++ (b ++ (c ++ (d ++ e))))
five_of t0 t1 t2 t3 t4 t5 a b c d e h1 h2 h3 h4 h5 = rw (h5, h4, h3, h2, h1) (simp append_assoc)

-- what six writes leave, one behind the other
pub six_of : (t0 t1 t2 t3 t4 t5 t6 a b c d e f : List Token) → t1 ≡ t0 ++ a → t2 ≡ t1 ++ b
    → t3 ≡ t2 ++ c → t4 ≡ t3 ++ d → t5 ≡ t4 ++ e → t6 ≡ t5 ++ f
    → t6 ≡ t0 ++ (a ++ (b ++ (c ++ (d ++ (e ++ f)))))
six_of t0 t1 t2 t3 t4 t5 t6 a b c d e f h1 h2 h3 h4 h5 h6 =
    rw (h6, h5, h4, h3, h2, h1) (simp append_assoc)

-- what eight writes leave, one behind the other
pub eight_of : (t0 t1 t2 t3 t4 t5 t6 t7 t8 a b c d e f g h : List Token) → t1 ≡ t0 ++ a
    → t2 ≡ t1 ++ b → t3 ≡ t2 ++ c → t4 ≡ t3 ++ d → t5 ≡ t4 ++ e → t6 ≡ t5 ++ f → t7 ≡ t6 ++ g
    → t8 ≡ t7 ++ h → t8 ≡ t0 ++ (a ++ (b ++ (c ++ (d ++ (e ++ (f ++ (g ++ h)))))))
eight_of t0 t1 t2 t3 t4 t5 t6 t7 t8 a b c d e f g h h1 h2 h3 h4 h5 h6 h7 h8 =
    rw (h8, h7, h6, h5, h4, h3, h2, h1) (simp append_assoc)
