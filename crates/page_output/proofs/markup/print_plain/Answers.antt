use Rattle.plain_tree.specs.Plains.{unplaced}
use Rattle.page_output.proofs.Texts.{on_err, prints_none}
use Rattle.std.proofs.Common.{refl}
use Rattle.page_output.proofs.markup.print_plain.Goals as goal

pub returns-in_err-last-clause-part : goal.returns-in_err-last-clause-part
returns-in_err-last-clause-part c = on_err _ _ (prints_none (unplaced c.args.plain.now) c.args.out.now.items c.args.out.now.items refl)
