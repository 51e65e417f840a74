use Rattle.std.proofs.Common.{ap, ◌∙◌, sym, map}
use Rattle.std.specs.Option.{option_map}
use Rattle.std.proofs.lemmas.Result.{IfOk-weaker}
use Rattle.js_image.specs.Image.{node_number}
use Rattle.js_image.proofs.Arrays.{nodes_are, nodes_map}
use Rattle.js_image.proofs.receivers.bunch_nodes.Goals as goal

pub returns-clause-nodes : goal.returns-clause-nodes
returns-clause-nodes c = IfOk-weaker c.nodes_of.result _ _ (λ found e. λ fs r w held. nodes_are fs r w c.args.store.now c.lawful.ensures c.args.base.now held ∙ sym (nodes_map (λ v. v.items) (node_number r.nodes) found ∙ ap (option_map (map (node_number r.nodes))) e)) c.nodes_of.ensures.nodes
