use Rattle.std.proofs.Common.{◌≡◌, ◌++◌, ◌∙◌, arith, sym, subst, ap, append-nil}
use Rattle.std.specs.Prelude.{reverse}
use Rattle.std.proofs.lemmas.List.{nil_from_length, reverse-reverse}
use Rattle.js_tree.specs.Trees.{trees}
use Rattle.js_names.specs.Hoisting.{block_ids}
use Rattle.js_names.proofs.Hoisted.{StmtsIn, all_in, blocks_in, gathered_step, in_both, load, load_append, load_falls, pushed, stmt_is, turned, vars_at, vars_of}
use Rattle.js_names.proofs.hoisting.hoist.Goals as goal

pub left-init : goal.left-init
left-init c =
    let f = trees c.args.tree.now in
    let e : reverse c.push_reversed.new.left.items ≡ c.args.body.now =
    ap reverse (c.in_ok-push_reversed.ensures ∙ ap (λ l. l ++ reverse c.args.body.now) c.new-left.ensures.items) ∙ reverse-reverse c.args.body.now in
    record {
      inside = subst (StmtsIn f) (sym e) (all_in f c.args.body.now c.requires);
      gathered = ap (λ l. c.args.names.now.items ++ vars_of f l) e;
    }

pub stmt-requires : goal.stmt-requires
stmt-requires c = (subst (StmtsIn (trees c.args.tree.now)) (turned _ _ _ c.in-Some.ensures.items) c.left.invariant.inside).0

pub left-smaller : goal.left-smaller
left-smaller c =
    let f = trees c.args.tree.now in
    let node = c.stmt.result.now in
    let rest = c.pop.new.self.items in
    let a = ap (load f) (turned rest c.left.left.items c.in-Some.id c.in-Some.ensures.items) in
    let b = ap (load f) (pushed rest (block_ids node) c.hoist_one.new.left.items c.in_ok-hoist_one.ensures.left) in
    omega (arith, a, b, load_append f (block_ids node) (reverse rest), load_falls f node _ _ c.in-Some.id c.stmt.ensures.same)

pub left-preserved : goal.left-preserved
left-preserved c =
    let f = trees c.args.tree.now in
    let node = c.stmt.result.now in
    let rest = c.pop.new.self.items in
    let a = turned rest c.left.left.items c.in-Some.id c.in-Some.ensures.items in
    let b = pushed rest (block_ids node) c.hoist_one.new.left.items c.in_ok-hoist_one.ensures.left in
    record {
      inside = subst (StmtsIn f) (sym b) (in_both f (block_ids node) (reverse rest) (blocks_in f node c.stmt.ensures.parts) (subst (StmtsIn f) a c.left.invariant.inside).1);
      gathered =
          ap (λ l. c.hoist_one.new.names.items ++ vars_of f l) b
          ∙ gathered_step f node c.in-Some.id (reverse rest) c.left.names.items _ _ (stmt_is f node _ _ c.in-Some.id c.stmt.ensures.same) c.in_ok-hoist_one.ensures.names
          (ap (λ l. c.left.names.items ++ vars_of f l) (sym a) ∙ c.left.invariant.gathered);
    }

pub returns : goal.returns
returns c =
    let f = trees c.args.tree.now in
    let none = nil_from_length c.left.left.items (omega (arith, c.in_default.ensures.cases)) in
    sym (append-nil c.left.names.items) ∙ sym (ap (λ l. c.left.names.items ++ vars_of f (reverse l)) none) ∙ c.left.invariant.gathered
    ∙ ap (λ l. c.args.names.now.items ++ l) (sym (vars_at f c.args.body.now))
