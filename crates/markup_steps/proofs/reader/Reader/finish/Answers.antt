use Rattle.std.proofs.Common.{arith, []}
use Rattle.std.proofs.lemmas.Grind.{common_steps}
use Rattle.markup_steps.specs.States.{opens_of, trees_of, mode_of}
use Rattle.markup_steps.proofs.Grows.{unfinished, length_stack}
use Rattle.markup_steps.proofs.reader.Reader.finish.Goals as goal

pub returns-then-not-is_empty : goal.returns-then-not-is_empty
returns-then-not-is_empty c =
    let n = length_stack [] c.args.self.now.grown.open.items in
    let l = c.args.self.now.grown.open.ok.0 in
    λ _. unfinished (mode_of c.args.self.now c.args.self.now.mode) (trees_of c.args.self.now) (opens_of c.args.self.now) (grind (arith, common_steps, n, l, c.is_empty.ensures, c.if-not-is_empty))
