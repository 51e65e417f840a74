use Rattle.std.specs.Str.{valid_up_to}
use Rattle.markup_reader.proofs.Exact.{in_read, in_only, in_place, broken_is}
use Rattle.markup_reader.proofs.read.read_markup.Goals as goal

pub returns-in-Ok-clause-read : goal.returns-in-Ok-clause-read
returns-in-Ok-clause-read c = in_read c.in-Ok.text.now c.args.bytes.now c.read_whole.result c.in-Ok.ensures.cases.0 c.in-Ok.ensures.cases.1 c.read_whole.ensures

pub returns-in-Ok-clause-only : goal.returns-in-Ok-clause-only
returns-in-Ok-clause-only c = in_only c.in-Ok.text.now c.args.bytes.now c.read_whole.result c.in-Ok.ensures.cases.0 c.read_whole.ensures

pub returns-in-Ok-clause-place : goal.returns-in-Ok-clause-place
returns-in-Ok-clause-place c = in_place c.in-Ok.text.now c.args.bytes.now c.read_whole.result c.in-Ok.ensures.cases.0 c.in-Ok.ensures.cases.1 c.read_whole.ensures

pub returns-in-Err-clause-place : goal.returns-in-Err-clause-place
returns-in-Err-clause-place c = broken_is c.args.bytes.now (valid_up_to c.in-Err.fault) c.ill_formed.result c.in-Err.ensures.cases.1 c.ill_formed.ensures
