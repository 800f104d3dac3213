-- The issuer of a service, by `--issuer` (own).
--   issuer_named         the issuer, by the value of `--issuer`
--   is_issuer_misnamed   `--issuer` is no issuer
use Rattle.std.specs.Prelude.{ℕ, Bool, false, List, not, Option, Some, None}
use Rattle.std.specs.Prelude.{if◌then◌else◌}
use Rattle.clap.specs.Words.{Text}
use Rattle.tk_edge.specs.Issuer.{is_issuer}

-- the issuer of a value of `--issuer`, if the value is one; without the option there is no issuer
abbrev pub issuer_named : Option Text → Option (Option (List ℕ))
issuer_named None = Some None
issuer_named (Some text) = if is_issuer text then Some (Some text) else None

-- `--issuer` was given, and its value is no issuer
abbrev pub is_issuer_misnamed : Option Text → Bool
is_issuer_misnamed None = false
is_issuer_misnamed (Some text) = not (is_issuer text)
