-- When a subject last signed out everywhere (own).
--   moment_out      the moment of a fact, if it is a sign-out of the subject
--   greatest        the greatest of some moments
--   last_sign_out   the greatest moment at which a subject signed out, if it did
use Rattle.std.specs.Prelude.{ℕ, nat_le, List, [], ◌∷◌, Option, Some, None, if◌then◌else◌}
use Rattle.std.specs.FinMap as map
use Rattle.std.specs.List.{filter_map}
use Rattle.std.specs.Str.{bytes_eq}
use Rattle.tk_fact.specs.declared.body.Body.{Body}
use Rattle.tk_fact.specs.declared.body.Body.TheVariants.{SubjectOut}
use Rattle.tk_store.specs.FactSet.{FactSet}

-- the moment at which the subject signed out, if the body is that (own)
abbrev pub moment_out : List ℕ → Body → Option ℕ
moment_out subject (SubjectOut f) = if bytes_eq f.subject subject then Some f.moment else None
moment_out subject body = None

-- the later of a moment and another, if there is another (own)
abbrev pub later : ℕ → Option ℕ → ℕ
later moment None = moment
later moment (Some other) = if nat_le moment other then other else moment

-- the greatest of some moments, if there are any (own)
abbrev pub greatest : List ℕ → Option ℕ
greatest [] = None
greatest (moment ∷ others) = Some (later moment (greatest others))

-- the greatest moment at which the subject signed out everywhere, if a sign-out is held (own)
abbrev pub last_sign_out : FactSet → List ℕ → Option ℕ
last_sign_out F subject =
    greatest (filter_map (λ f. moment_out subject f.1) (map.entries F))
