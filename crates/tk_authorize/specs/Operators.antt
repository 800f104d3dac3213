-- The operator that an administration request names (own).
--   by_asked        by whom and when a request administers
--   with_operator   a decision with by whom and when in the fact that it makes
use Rattle.std.specs.Prelude.{ℕ, List, Option, Some, None, Result, Ok, Err, if◌then◌else◌}
use Rattle.std.specs.Option.{option_map}
use Rattle.tk_fact.specs.Administered.{with_by}
use Rattle.tk_fact.specs.Subject.{is_subject}
use Rattle.tk_fact.specs.declared.by.By.{By}
use Rattle.tk_message.specs.declared.decision.Decision.{Decision}
use Rattle.tk_authorize.specs.declared.admin_refusal.AdminRefusal.{AdminRefusal}
use Rattle.tk_authorize.specs.declared.admin_refusal.AdminRefusal.TheVariants.{MalformedOperator}

-- by whom and when a request at the moment administers, if it names an operator: the name must be
-- such as a subject has (own)
abbrev pub by_asked : ℕ → Option (List ℕ) → Result (Option By) AdminRefusal
by_asked now None = Ok None
by_asked now (Some operator) =
    if is_subject operator then Ok (Some (record { operator = operator; moment = now }))
    else Err MalformedOperator

-- the decision with by whom and when in the fact that it makes, if it makes one (own)
abbrev pub with_operator : Option By → Decision → Decision
with_operator by decision =
    record { reply = decision.reply; made = option_map (with_by by) decision.made }
