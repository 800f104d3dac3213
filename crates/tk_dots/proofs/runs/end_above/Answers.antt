use Rattle.std.proofs.Common.{◌≡◌, ◌∙◌, ◌+◌, ℕ, ap, sym}
use Rattle.tk_handle.specs.declared.dot.Dot.{Dot}
use Rattle.tk_dots.specs.Runs.{dot_of}
use Rattle.tk_dots.proofs.PlaceLaws.{dot_is}
use Rattle.tk_dots.proofs.RunLaws.{end_some, end_none}
use Rattle.tk_dots.proofs.runs.end_above.Goals as goal

-- the dot with the next serial is the one right above
next_is : (next d : Dot) (region serial : ℕ)
    → next ≡ record { region = region; serial = serial + 1 } → region ≡ d.region → serial ≡ d.serial
    → next ≡ dot_of d.region (d.serial + 1)
next_is next d region serial is e f = is
    ∙ dot_is (dot_of region (serial + 1)) (dot_of d.region (d.serial + 1)) e
    (ap (λ (n : ℕ). n + 1) f)

pub returns-in-Some-get-clause-end : goal.returns-in-Some-get-clause-end
returns-in-Some-get-clause-end c =
    end_some c.args.runs.now c.requires c.args.dot c.in-Some.next c.in-Some-get.last.now
    (next_is c.in-Some.next c.args.dot c.region.result c.serial.result c.in-Some.ensures.1
    c.region.ensures.value c.serial.ensures.value) (sym c.in-Some-get.ensures.value)

pub returns-in-Some-get-clause-high : goal.returns-in-Some-get-clause-high
returns-in-Some-get-clause-high c =
    c.requires.ranged c.in-Some.next c.in-Some-get.last.now (sym c.in-Some-get.ensures.value)

pub returns-in-None-get-clause-end : goal.returns-in-None-get-clause-end
returns-in-None-get-clause-end c = end_none c.args.runs.now c.args.dot c.in-Some.next
    c.serial-in-None-get.result c.serial-in-None-get.ensures.value
    (next_is c.in-Some.next c.args.dot c.region.result c.serial.result c.in-Some.ensures.1
    c.region.ensures.value c.serial.ensures.value) (sym c.in-None-get.ensures.value)
