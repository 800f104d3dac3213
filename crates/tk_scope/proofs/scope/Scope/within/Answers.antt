use Rattle.tk_scope.specs.Scope.{tokens_of}
use Rattle.tk_scope.proofs.Within.{within_decides}
use Rattle.tk_scope.proofs.scope.Scope.within.Goals as goal

pub returns-clause-meaning : goal.returns-clause-meaning
returns-clause-meaning c = rw (
  c.are_tokens_within.ensures,
  c.text.ensures.value,
  c.text-2.ensures.value,
)
    (within_decides (tokens_of c.args.self.now) (tokens_of c.args.other.now))
