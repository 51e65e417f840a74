use Rattle.std.proofs.Common.{◌∙◌, sym}
use Rattle.list_methods.proofs.Arrays.{cell_held, is_array}
use Rattle.list_methods.proofs.array.array_at.Goals as goal

pub returns-clause-array : goal.returns-clause-array
returns-clause-array c =
    let held = cell_held c.args.w.index c.args.store.now c.args.cell (sym c.is_global.ensures ∙ c.if-is_global.false) c.requires in
    is_array c.args.w.index c.args.store.now c.args.cell c.in_ok-len.len held (λ fs r. sym c.in_ok-len.was ∙ c.array_length.ensures.length fs r c.args.w.index held)
