use Rattle.std.proofs.Common.{sym, ap, ◌∙◌, []}
use Rattle.js_tree.specs.Trees.{trees}
use Rattle.js_pieces.specs.Tidy.{is_if}
use Rattle.js_pieces.proofs.Steps.{one_item, else_if, else_one, else_more}
use Rattle.js_pieces.proofs.expand.expand_else.Goals as goal

pub returns-then-is_if : goal.returns-then-is_if
returns-then-is_if c =
    let f = trees c.args.tree.now in
    else_if c.push_all.result f _ _ c.args.ids.now _ (one_item c.args.ids.now _ c.in-len1.len_at_least c.in-len1.len_below) (ap is_if (sym c.stmt.ensures.same) ∙ sym (c.is_if.ensures f 0 []) ∙ c.if-is_if.true) c.requires (c.push_all.ensures f)

pub returns-else-is_if : goal.returns-else-is_if
returns-else-is_if c =
    let f = trees c.args.tree.now in
    else_one c.push_else.result f _ _ c.args.ids.now _ _ (one_item c.args.ids.now _ c.in-len1.len_at_least c.in-len1.len_below) (ap is_if (sym c.stmt.ensures.same) ∙ sym (c.is_if.ensures f 0 []) ∙ c.if-is_if.false) (c.push_else.ensures f c.requires)

pub returns-in-len2-up : goal.returns-in-len2-up
returns-in-len2-up c =
    let f = trees c.args.tree.now in
    else_more c.push_else-in-len2-up.result f _ _ c.args.ids.now _ c.in-len2-up.len_at_least (c.push_else-in-len2-up.ensures f c.requires)
