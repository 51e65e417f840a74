use Rattle.std.proofs.Common.{List, ℕ, subst, arith}
use Rattle.std.specs.Prelude.{slice_index_or}
use Rattle.std.proofs.lemmas.Result.{IfOk-weaker}
use Rattle.plain_tree.specs.Trees.{End}
use Rattle.page_output.specs.Printing.{Prints}
use Rattle.page_plan.specs.Pages.{roots}
use Rattle.page_live.proofs.Entering.{root_entry}
use Rattle.page_live.proofs.entries.entry_root.Goals as goal

pub print_slot-requires-clause-housed : goal.print_slot-requires-clause-housed
print_slot-requires-clause-housed c = c.requires.showing.shows.told.housed

pub print_slot-requires-clause-there : goal.print_slot-requires-clause-there
print_slot-requires-clause-there c = omega (arith, c.requires.there, c.requires.showing.shows.told.slots)

pub returns : goal.returns
returns c = IfOk-weaker c.root_value.result _ _ (λ root is pieces owns own shows at.
    let f = c.args.page.now.findings in
    root_entry f owns c.args.w own c.print_slot.new.out.items root.items c.requires.there at
    (subst (λ (xs : List ℕ). Prints (slice_index_or (roots f.names.items owns) c.args.w End) xs c.print_slot.new.out.items) c.new-text.ensures.items
    (c.in_ok-print_slot.ensures.ok f.names.items pieces owns shows.laid shows.told.shown)) is) c.root_value.ensures
