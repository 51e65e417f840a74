use Rattle.std.proofs.Common.{◌∙◌, ap}
use Rattle.code_units.specs.Utf8.{units_of, utf8_of}
use Rattle.code_units.proofs.RoundTrip.{utf8_of-units_of}
use Rattle.code_units.proofs.utf8.from_utf8_bytes.Goals as goal

pub returns-in_ok-from_str-in-Ok-clause-back : goal.returns-in_ok-from_str-in-Ok-clause-back
returns-in_ok-from_str-in-Ok-clause-back c =
    let read = c.in-Ok.ensures.cases in
    ap utf8_of (c.in_ok-from_str-in-Ok.ensures ∙ ap units_of read.0) ∙ utf8_of-units_of c.args.bytes.now read.1
