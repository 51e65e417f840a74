use Rattle.std.proofs.Common.{ap, ◌∙◌, [], ℕ, Option}
use Rattle.std.proofs.lemmas.Result.{IfOk-weaker}
use Rattle.js_image.specs.Elements.{stored_names}
use Rattle.js_image.proofs.ForIn.{names_value}
use Rattle.js_image.proofs.listing.for_in_names.Goals as goal

pub returns : goal.returns
returns c = IfOk-weaker c.names_along.result _ _ (λ names e. λ fs r w confined held. e ∙ ap (λ (o : Option ℕ). stored_names 101 c.args.store.now.cells o []) c.cell_of.ensures ∙ names_value fs r w c.args.store.now confined c.lawful.ensures c.bunches_have_nodes.ensures c.args.base.now held) c.names_along.ensures
