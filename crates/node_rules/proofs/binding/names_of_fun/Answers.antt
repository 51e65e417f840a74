use Rattle.std.proofs.Common.{◌≡◌, ◌↔◌, ◌++◌, ◌⊎◌, subst, ap}
use Rattle.std.specs.Prelude.{option_to_list}
use Rattle.js_tree.specs.Trees.{trees}
use Rattle.js_tree.specs.Plain.{fun_names}
use Rattle.js_tree.specs.Parts.{AFun}
use Rattle.js_tree.specs.Forest.{fun_at}
use Rattle.first_breach.specs.Lists.{In}
use Rattle.node_rules.specs.Binding.{Binds}
use Rattle.node_rules.specs.Hoisting.{fun_texts, AnyDeclares}
use Rattle.node_rules.proofs.Hoisting.{fun_binds, three_added}
use Rattle.node_rules.proofs.binding.names_of_fun.Goals as goal

pub returns : goal.returns
returns c = λ q.
    let f = trees c.args.tree.now in
    let node = c.fun-node.result.now in
    let e : c.add_funs.new.names.items ≡ option_to_list node.name ++ (node.params.items ++ fun_texts f node.funs.items) = three_added _ _ _ _ _ c.new-names.ensures.items c.in_ok-add_option.ensures c.in_ok-add_all.ensures c.in_ok-add_funs.ensures c.deref.ensures.value (ap (fun_texts f) c.deref-2.ensures.value) in
    subst (λ g. In q c.hoist.new.names.items ↔ Binds (AFun g) q) c.fun-node.ensures.same
    (fun_binds f node (fun_names (fun_at f c.args.id)) q c.add_funs.new.names.items c.hoist.new.names.items e
    (subst (λ l. In q c.hoist.new.names.items ↔ (In q c.add_funs.new.names.items ⊎ AnyDeclares f l q)) c.deref-3.ensures.value (c.in_ok-hoist.ensures q)))
