use Rattle.std.proofs.Common.{arith, []}
use Rattle.std.proofs.lemmas.Grind.{common_steps}
use Rattle.markup_steps.specs.States.{opens_of, trees_of}
use Rattle.markup_steps.proofs.Grows.{end_goes, length_stack}
use Rattle.markup_steps.proofs.reader.Reader.begin_end.Goals as goal

pub returns : goal.returns
returns c =
    let n = length_stack [] c.args.self.now.grown.open.items in
    let l = c.args.self.now.grown.open.ok.0 in
    end_goes (trees_of c.args.self.now) (opens_of c.args.self.now) (grind (arith, common_steps, n, l, c.is_empty.ensures, c.if-is_empty.false))
