use Rattle.std.proofs.Common.{rules}
use Rattle.tokend.proofs.limits.read_limits.Goals as goal

pub returns : goal.returns
returns c = record {
  requests = search rules;
  endless = search rules;
  keep = search rules;
  unkept = search rules;
  repeat = search rules;
  unrepeated = search rules;
  prune_margin = search rules;
  unpruned = search rules;
}
