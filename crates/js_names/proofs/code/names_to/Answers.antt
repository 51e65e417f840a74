use Rattle.std.proofs.Common.{length, sym, subst, arith, ap}
use Rattle.std.proofs.lemmas.List.{length_push}
use Rattle.js_tree.specs.Trees.{trees}
use Rattle.js_names.specs.Found.{AreFound}
use Rattle.js_names.proofs.Placed.{found_push}
use Rattle.js_names.proofs.code.names_to.Goals as goal

pub funs-preserved : goal.funs-preserved
funs-preserved c =
    let f = trees c.args.tree.now in
    let ns = c.funs.funs.items in
    let n = c.in_ok-fun_names.field-0 in
    record {
      found = subst (AreFound f) (sym c.in_ok-push.ensures.items) (found_push f ns n c.funs.n c.funs.invariant.found c.funs.invariant.many c.in_ok-fun_names.ensures);
      many = omega (arith, ap length c.in_ok-push.ensures.items, length_push ns n, c.funs.invariant.many);
    }

pub returns : goal.returns
returns c =
    let f = trees c.args.tree.now in
    let ns = c.funs.funs.items in
    let n = c.in_ok-fun_names-2.field-0 in
    record {
      found = subst (AreFound f) (sym c.in_ok-push-2.ensures.items) (found_push f ns n c.args.last.0 c.funs.invariant.found (omega (arith, c.funs.invariant.many)) c.in_ok-fun_names-2.ensures);
      all = omega (arith, ap length c.in_ok-push-2.ensures.items, length_push ns n, c.funs.invariant.many);
    }
