-- The lines before a service's first connection, one after the other. Key results:
--   prints_then      a text was printed, and then another
--   prints_less      a text was begun, and another was to follow
use Rattle.std.proofs.Common.{ℕ, List, ◌++◌, Option, Result, Ok, Err, sym, ◌∙◌, append_assoc, ap}
use Rattle.std.proofs.KnownBytes.{Appends-trans}
use Rattle.std.specs.Io.KnownBytes.{Appends}
use Rattle.tk_put.specs.Put.{AppendsFront, Prints}

-- the beginning of a text begins the text with more behind it
pub prints_less : (old new : Option (List ℕ)) (text more : List ℕ) → AppendsFront old new text
    → AppendsFront old new (text ++ more)
prints_less old new text more begun = record {
  front = begun.front;
  rest = begun.rest ++ more;
  parts = ap (λ t. t ++ more) begun.parts ∙ append_assoc begun.front begun.rest more;
  appended = begun.appended;
}

-- a text, then the beginning of another
begins_later : (old mid new : Option (List ℕ)) (text more : List ℕ) → Appends old mid text
    → AppendsFront mid new more → AppendsFront old new (text ++ more)
begins_later old mid new text more done begun = record {
  front = text ++ begun.front;
  rest = begun.rest;
  parts = ap (λ t. text ++ t) begun.parts ∙ sym (append_assoc text begun.front begun.rest);
  appended = Appends-trans old mid new text begun.front done begun.appended;
}

-- an output that got one text and then prints another one prints both
pub prints_then : {A E : Type 0} (old mid new : Option (List ℕ)) (text more : List ℕ)
    (r : Result A E)
    → Appends old mid text → Prints r mid new more
    → Prints r old new (text ++ more)
prints_then old mid new text more (Ok x) done printed =
    Appends-trans old mid new text more done printed
prints_then old mid new text more (Err e) done begun = begins_later old mid new text more done begun
