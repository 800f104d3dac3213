use Rattle.std.proofs.Common.{take, map}
use Rattle.httparse.specs.Spans.{header_bytes}
use Rattle.tk_edge.specs.HeadFields.{IsField, values_named}
use Rattle.tk_edge.proofs.field.value_named.Given as goal

abbrev pub invariant-loop-header : goal.invariant-loop-header
invariant-loop-header l =
    IsField l.found (values_named l.name (map (header_bytes l.buf) (take l.header-index l.headers)))
