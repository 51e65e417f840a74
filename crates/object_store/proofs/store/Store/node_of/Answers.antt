use Rattle.std.proofs.Common.{ap, length, subst, sym, ◌∙◌}
use Rattle.store_cells.specs.Shape.{IsRefWithin}
use Rattle.object_store.specs.Owned.{node_of}
use Rattle.object_store.proofs.BunchNodes.{node_is}
use Rattle.object_store.proofs.store.Store.node_of.Goals as goal

pub returns-in-Ref : goal.returns-in-Ref
returns-in-Ref c =
    node_is c.args.self.now.cells c.in-Ref.cell c.raw_node.result (subst (IsRefWithin (length c.args.self.now.cells)) c.in-Ref.is c.requires) c.raw_node.ensures
    ∙ sym (ap (node_of c.args.self.now.cells) c.in-Ref.is)
