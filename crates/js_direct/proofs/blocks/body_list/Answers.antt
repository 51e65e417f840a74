use Rattle.std.proofs.Common.{sym, ap, ◌∙◌}
use Rattle.js_tree.specs.Trees.{trees}
use Rattle.js_tree.specs.Lists.{stmt_list}
use Rattle.js_tree.specs.Plain.{Fun}
use Rattle.js_flow.specs.Parts.{body_of}
use Rattle.js_direct.proofs.blocks.body_list.Goals as goal

pub returns-else-has_directive : goal.returns-else-has_directive
returns-else-has_directive c =
    let f = trees c.args.tree.now in
    let same = sym (ap (λ (q : Fun). stmt_list (body_of q)) c.fun.ensures.same) ∙ c.lists_agree.ensures.stmts f c.fun.result.now.body.items in
    (c.has_directive.ensures.no c.if-has_directive.false ∙ same, c.fun.ensures.parts.0)
