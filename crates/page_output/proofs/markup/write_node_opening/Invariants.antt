use Rattle.std.proofs.Common.{◌≡◌, ◌++◌, drop, ℕ, List}
use Rattle.std.specs.List.{flat_map}
use Rattle.plain_tree.specs.Print.{printed_attribute}
use Rattle.page_output.specs.Printing.{IsStyleForm}
use Rattle.page_output.proofs.markup.write_node_opening.Given as goal

abbrev pub invariant-each : goal.invariant-each
invariant-each l = (style : List ℕ → List ℕ) → IsStyleForm style → l.out.items ++ flat_map (printed_attribute style) (drop l.attribute-index l.attribute-items) ≡ l.initial.out.items ++ flat_map (printed_attribute style) l.attribute-items
