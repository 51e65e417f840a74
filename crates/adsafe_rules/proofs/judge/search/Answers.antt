use Rattle.std.proofs.Common.{◌≡◌, [], None, sym, subst, ap, ◌∙◌, arith}
use Rattle.std.specs.Prelude.{map}
use Rattle.first_breach.specs.Breaches.{Nothing}
use Rattle.first_breach.specs.Narrowing.{Narrows}
use Rattle.js_tree.specs.Trees.{trees, program_of}
use Rattle.js_tree.specs.Parts.{stmts_spots}
use Rattle.node_rules.specs.Hoisting.{stmt_spot}
use Rattle.adsafe_rules.specs.Program.{tops}
use Rattle.adsafe_rules.specs.Openings.{ProgramRows}
use Rattle.node_rules.specs.Enclosing.{env_of}
use Rattle.adsafe_rules.specs.Walk.{Left, Pushes}
use Rattle.node_rules.proofs.Hoisting.{stmts_spots_at}
use Rattle.adsafe_rules.proofs.Starting.{start_narrows}
use Rattle.adsafe_rules.proofs.Visiting.{walk_going, walk_to, walk_from, walk_ends}
use Rattle.adsafe_rules.proofs.judge.search.Goals as goal

pub walk-init : goal.walk-init
walk-init c =
    let f = trees c.args.tree.now in
    let scope = c.args.scope.now in
    let program = program_of c.args.tree.now in
    let spots : map (stmt_spot f) c.program-list.result.now ≡ stmts_spots program = sym (stmts_spots_at f c.program-list.result.now) ∙ ap stmts_spots c.program-list.ensures.same in
    let e = c.new-enclosing.result in
    let ws = c.push_tops.new.work.items in
    let pushes : Pushes f 0 (tops scope (stmts_spots program)) [] ws =
    subst (λ l. Pushes f 0 l [] ws) (ap (tops scope) spots) (subst (λ l. Pushes f 0 (tops scope (map (stmt_spot f) c.program-list.result.now)) l ws) c.new-work.ensures.items c.in_ok-push_tops.ensures) in
    record {
      going = walk_going f _ e ws pushes c.new-enclosing.ensures.none c.new-enclosing.ensures.counted;
      narrows = start_narrows program scope (Left f (env_of f e.stack.items) ws) c.program_rule-best.result
          (walk_to f _ e ws pushes c.new-enclosing.ensures.none) (walk_from f _ e ws pushes c.new-enclosing.ensures.none)
          (subst (λ l. Narrows (ProgramRows scope l) None Nothing c.program_rule-best.result) spots c.program_rule-best.ensures);
    }

pub returns : goal.returns
returns c = walk_ends (trees c.args.tree.now) _ _ _ _ (omega (arith, c.in_default.ensures.cases)) c.walk.invariant.narrows
