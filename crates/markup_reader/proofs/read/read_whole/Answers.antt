use Rattle.std.proofs.Common.{Some, None}
use Rattle.markup_steps.specs.States.{state_of}
use Rattle.plain_tree.specs.Plains.{placed_all}
use Rattle.markup_reader.proofs.Reading.{whole_end}
use Rattle.markup_reader.proofs.read.read_whole.Goals as goal

pub returns-in-Ok : goal.returns-in-Ok
returns-in-Ok c = whole_end c.args.text.now (state_of c.in_ok-reader.reader) (Some (placed_all c.in-Ok.nodes.items)) c.utf8.text c.in_ok-reader.ensures c.in-Ok.ensures

pub returns-in-Err-Bad : goal.returns-in-Err-Bad
returns-in-Err-Bad c = whole_end c.args.text.now (state_of c.in_ok-reader.reader) None c.utf8.text c.in_ok-reader.ensures (c.in-Err-Bad.ensures c.in-Err-Bad.field-0-is)
