-- Sign-outs: which subject signed out everywhere, and when (own).
--   IsSignedOut, is_signed_out   a subject signed out at a moment, or later
--   reaches, IsLastSignOut       the last moment at which a subject signed out, if any
--   IsFirstUnreached             the first moment that no sign-out of a subject reaches
--   sign_out_at                  the sign-out at a dot
--   all_but                      the facts but for the one at a dot
use Rattle.std.specs.Prelude.{
  ◌≡◌,
  ◌<◌,
  ◌≤◌,
  ℕ,
  Bool,
  false,
  ◌&&◌,
  nat_le,
  List,
  Option,
  Some,
  None,
}
use Rattle.std.specs.FinMap as map
use Rattle.std.specs.Option.{option_and_then}
use Rattle.std.specs.Str.{bytes_eq}
use Rattle.tk_handle.specs.declared.dot.Dot.{Dot}
use Rattle.tk_fact.specs.declared.body.Body.{Body}
use Rattle.tk_fact.specs.declared.body.Body.TheVariants.{SubjectOut}
use Rattle.tk_fact.specs.declared.subject_out.SubjectOut as out
use Rattle.tk_store.specs.FactSet.{FactSet, any_fact}
use Rattle.tk_ledger.specs.Bodies.{Bodies}

-- ---- subjects

-- a fact is that the subject signed out everywhere at the moment, or later
pub record IsSignedOut (body_at : Bodies) (subject : List ℕ) (moment : ℕ) : Type 0 where
  pub place : Dot
  pub sign_out : out.SubjectOut
  pub held : body_at place ≡ Some (SubjectOut sign_out)
  pub subject_is : sign_out.subject ≡ subject
  pub not_before : moment ≤ sign_out.moment

-- the body is that the subject signed out at the moment, or later
abbrev pub signs_out_in : List ℕ → ℕ → Body → Bool
signs_out_in subject moment (SubjectOut f) = bytes_eq f.subject subject && nat_le moment f.moment
signs_out_in subject moment body = false

-- the fact is that the subject signed out at the moment, or later
abbrev pub signs_out : List ℕ → ℕ → Dot × Body → Bool
signs_out subject moment f = signs_out_in subject moment f.1

-- a fact of the set is that the subject signed out at the moment, or later
abbrev pub is_signed_out : FactSet → List ℕ → ℕ → Bool
is_signed_out F subject moment = any_fact (signs_out subject moment) F

-- ---- the last sign-out

-- there is a last moment, and it is not before the given one
abbrev pub reaches : Option ℕ → ℕ → Bool
reaches None moment = false
reaches (Some last) moment = nat_le moment last

-- the greatest moment at which the subject signed out, or `None` if no sign-out of the subject is
-- held
abbrev pub IsLastSignOut : Bodies → List ℕ → Option ℕ → Type 0
IsLastSignOut body_at subject None = (moment : ℕ) → ¬ IsSignedOut body_at subject moment
IsLastSignOut body_at subject (Some last) =
    IsSignedOut body_at subject last × ((moment : ℕ) → IsSignedOut body_at subject moment
    → moment ≤ last)

-- the first moment that no sign-out of the subject reaches: the subject signed out at each moment
-- before it, or later
pub record IsFirstUnreached (body_at : Bodies) (subject : List ℕ) (first : ℕ) : Type 0 where
  pub unreached : ¬ IsSignedOut body_at subject first
  pub reached : (moment : ℕ) → moment < first → IsSignedOut body_at subject moment

-- ---- sign-outs

-- the facts but for the one at the dot, if a dot is given
abbrev pub all_but : Option Dot → FactSet → FactSet
all_but None F = F
all_but (Some d) F = map.remove F d

-- the sign-out that the body is, if it is one
abbrev pub sign_out_in : Body → Option out.SubjectOut
sign_out_in (SubjectOut f) = Some f
sign_out_in body = None

-- the sign-out at the dot
abbrev pub sign_out_at : Bodies → Dot → Option out.SubjectOut
sign_out_at body_at d = option_and_then sign_out_in (body_at d)
