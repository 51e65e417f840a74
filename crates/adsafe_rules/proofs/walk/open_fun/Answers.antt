use Rattle.std.proofs.Common.{◌≡◌, refl, sym, ap, ◌∙◌}
use Rattle.std.specs.Prelude.{map}
use Rattle.js_tree.specs.declared.nodes.Part.TheVariants as part
use Rattle.js_tree.specs.Trees.{trees}
use Rattle.js_tree.specs.Plain.{fun_names}
use Rattle.js_tree.specs.Forest.{fun_at}
use Rattle.js_tree.specs.Parts.{AFun, spot_at}
use Rattle.node_rules.specs.Parts.{inner}
use Rattle.node_rules.specs.Work.{fun_work}
use Rattle.adsafe_rules.proofs.Parting.{fun_plain, fun_in}
use Rattle.adsafe_rules.proofs.Visiting.{opens_some}
use Rattle.adsafe_rules.proofs.walk.open_fun.Goals as goal

pub returns : goal.returns
returns c =
    let f = trees c.args.tree.now in
    let g = fun_at f c.args.id in
    let node = c.fun.result.now in
    let e : inner (AFun g) ≡ map (spot_at f) (fun_work f node) = ap (λ x. inner (AFun x)) (sym c.fun.ensures.same) ∙ fun_plain f node (fun_names g) in
    opens_some f c.args.depth (AFun g) (record { opener = part.Fun c.args.id; names = c.in_ok-names.names; jumps = _ }) (fun_work f node) c.args.enclosing.now c.enter.new.self _ _
    e (fun_in f node c.fun.ensures.parts) c.in_ok-enter.ensures.opened refl c.in_ok-names.ensures c.requires.depth c.requires.enclosing refl c.in_ok-enter.ensures.counted c.in_ok-push_fun_parts.ensures
