use Rattle.std.proofs.Common.{◌≡◌, ◌↔◌, [], refl, sym, subst, ap, ◌∙◌}
use Rattle.std.specs.Prelude.{map}
use Rattle.js_tree.specs.declared.nodes.Part.TheVariants as part
use Rattle.js_tree.specs.Trees.{trees}
use Rattle.js_tree.specs.Plain.{stmt_place, stmt_names}
use Rattle.js_tree.specs.Forest.{stmt_at, plain_stmt}
use Rattle.js_tree.specs.Parts.{AStmt, spot_at}
use Rattle.first_breach.specs.Lists.{In}
use Rattle.node_rules.specs.Binding.{Binds, no_jumps, jumps_in}
use Rattle.node_rules.specs.Enclosing.{jumps_of}
use Rattle.node_rules.specs.Parts.{inner}
use Rattle.node_rules.specs.Work.{inner_work}
use Rattle.node_rules.proofs.Hoisting.{stmt_binds}
use Rattle.adsafe_rules.proofs.Parting.{inner_plain, inner_in}
use Rattle.adsafe_rules.proofs.Visiting.{opens_none, opens_some}
use Rattle.adsafe_rules.proofs.walk.open_stmt.Goals as goal

pub returns-then-not-opens : goal.returns-then-not-opens
returns-then-not-opens c =
    let f = trees c.args.tree.now in
    let node = c.stmt-node.result.now in
    let none : inner_work node ≡ [] = c.opens.ensures c.if-not-opens.true in
    let e : inner (AStmt (stmt_at f c.args.id)) ≡ [] = ap (λ x. inner (AStmt x)) (sym c.stmt-node.ensures.same) ∙ inner_plain f node ∙ ap (map (spot_at f)) none in
    opens_none f c.args.depth (AStmt (stmt_at f c.args.id)) c.args.enclosing.now _ e c.requires.depth c.requires.enclosing

pub returns : goal.returns
returns c =
    let f = trees c.args.tree.now in
    let s = stmt_at f c.args.id in
    let node = c.stmt-node.result.now in
    let same : plain_stmt f node (stmt_place s) (stmt_names s) ≡ s = c.stmt-node.ensures.same in
    let e : inner (AStmt s) ≡ map (spot_at f) (inner_work node) = ap (λ x. inner (AStmt x)) (sym same) ∙ inner_plain f node in
    let jumps : c.stmt_jumps-jumps.result ≡ jumps_in (jumps_of no_jumps c.args.enclosing.now.stack.items) (AStmt s) =
    c.stmt_jumps-jumps.ensures f ∙ ap (λ j. jumps_in j (AStmt (plain_stmt f node (stmt_place s) (stmt_names s)))) c.jumps.ensures ∙ ap (λ x. jumps_in (jumps_of no_jumps c.args.enclosing.now.stack.items) (AStmt x)) same in
    opens_some f c.args.depth (AStmt s) (record { opener = part.Stmt c.args.id; names = c.in_ok-names.names; jumps = c.stmt_jumps-jumps.result }) (inner_work node) c.args.enclosing.now c.enter.new.self _ _
    e (inner_in f node c.stmt-node.ensures.parts) c.in_ok-enter.ensures.opened refl
    (λ q. subst (λ x. In q c.in_ok-names.names.items ↔ Binds (AStmt x) q) same
    (subst (λ l. In q l ↔ Binds (AStmt (plain_stmt f node (stmt_place s) (stmt_names s))) q) (sym c.in_ok-names.ensures) (stmt_binds f node (stmt_place s) (stmt_names s) q)))
    c.requires.depth c.requires.enclosing jumps c.in_ok-enter.ensures.counted c.in_ok-push_inner.ensures
