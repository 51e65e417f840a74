use Rattle.std.proofs.Common.{◌++◌, ◌∙◌, ◌∷◌, [], arith, ap}
use Rattle.markup_steps.specs.States.{opens_of, trees_of, spot}
use Rattle.markup_steps.proofs.Grows.{length_stack, tag_goes}
use Rattle.markup_steps.proofs.reader.Reader.begin_tag.Goals as goal

pub returns : goal.returns
returns c =
    let n = length_stack [] c.args.self.now.grown.open.items in
    let l = c.args.self.now.grown.open.ok.0 in
    let few = c.len.ensures in
    tag_goes c.args.self.now.head.at (trees_of c.args.self.now) (opens_of c.args.self.now) (spot c.args.c c.args.at) c.push.new.self.items
    (omega (arith, n, l, few, c.if-len-ge-LIMIT.false))
    (c.in_ok-push.ensures.items ∙ ap (λ us. us ++ c.name_unit.result ∷ []) c.clear.ensures.items ∙ ap (λ u. u ∷ []) c.name_unit.ensures)
