use Rattle.std.proofs.Common.{sym, subst, ◌∙◌, rules, arith}
use Rattle.tk_vector.specs.VectorText.{IsNoVectorText}
use Rattle.tk_world.proofs.EventForms.{pull_there, pull_bad_region, pull_bad_vector}
use Rattle.tk_world.proofs.line.pull_event.Goals as goal

pub returns-in_default-clause-malformed : goal.returns-in_default-clause-malformed
returns-in_default-clause-malformed c _ =
    pull_bad_region c.args.at.now c.args.entries.now c.args.after.now
    (sym c.region.ensures ∙ c.in_default.is)

pub returns-in_err-vector-clause-malformed : goal.returns-in_err-vector-clause-malformed
returns-in_err-vector-clause-malformed c e =
    pull_bad_vector c.args.at.now c.args.entries.now c.args.after.now
    (subst IsNoVectorText c.as_bytes.ensures.value (c.read_text.ensures.malformed (grind arith)))

pub returns-clause-found : goal.returns-clause-found
returns-clause-found c =
    pull_there c.args.at.now c.args.entries.now c.args.after.now _ _ _
    (sym c.region.ensures ∙ c.in-Some.is) (search rules) (search rules)
