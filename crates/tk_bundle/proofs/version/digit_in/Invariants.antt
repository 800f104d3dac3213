use Rattle.std.proofs.Common.{◌≡◌, drop}
use Rattle.tk_bundle.specs.Versions.{digit_in}
use Rattle.tk_bundle.proofs.version.digit_in.Given as goal

abbrev pub invariant-loop-version : goal.invariant-loop-version
invariant-loop-version l =
    digit_in (drop l.version-index l.versions) l.kind l.marked l.runs
    ≡ digit_in l.versions l.kind l.marked l.runs
