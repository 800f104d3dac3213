use Rattle.std.proofs.Common.{rules}
use Rattle.tk_fact.proofs.SubjectLaws.{subject_utf8}
use Rattle.tk_fact.proofs.subject.Subject.read.Goals as goal

pub unreachable-requires : goal.unreachable-requires
unreachable-requires c = search (rules, subject_utf8)

pub returns-clause-ok : goal.returns-clause-ok
returns-clause-ok c = search rules
