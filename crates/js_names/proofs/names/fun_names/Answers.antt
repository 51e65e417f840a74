use Rattle.std.proofs.Common.{◌≡◌, [], ◌++◌, ◌∙◌, ap}
use Rattle.std.specs.BTreeMap.{get}
use Rattle.std.specs.Ordering.{nat_cmp}
use Rattle.std.specs.Cmp.Lexicographic.{slice_cmp}
use Rattle.js_tree.specs.Trees.{trees}
use Rattle.js_tree.specs.Forest.{fun_at, stmts_at}
use Rattle.js_tree.specs.Plain.{fun_names}
use Rattle.widget_meaning.specs.Scopes.{distinct, stmts_vars}
use Rattle.js_names.specs.Hoisting.{fun_texts}
use Rattle.js_names.specs.Names.{last_place, unlisted}
use Rattle.js_names.proofs.Finding.{found, three}
use Rattle.js_names.proofs.names.fun_names.Goals as goal

pub returns : goal.returns
returns c =
    let f = trees c.args.tree.now in
    let node = c.fun-node.result.now in
    let g = fun_at f c.args.id in
    let all : c.add_funs.new.names.items ≡ node.params.items ++ (stmts_vars (stmts_at f node.body.items) ++ fun_texts f node.funs.items) =
    three _ _ _ _ _ _ _ _ _ _ c.new-all.ensures.items c.in_ok-add_all.ensures c.deref.ensures.value c.in_ok-hoist.ensures (ap (λ l. stmts_vars (stmts_at f l)) c.deref-2.ensures.value)
    c.in_ok-add_funs.ensures (ap (fun_texts f) c.deref-3.ensures.value) in
    found f node (fun_names g) g c.fun-node.ensures.same c.add_funs.new.names.items c.in_ok-each.each.items (record { names = c.in_ok-names.names; own = c.in_ok-own.own })
    (get (slice_cmp nat_cmp) c.in_ok-places.places) all
    (c.in_ok-each.ensures ∙ ap (distinct []) c.deref-4.ensures.value)
    (c.in_ok-names.ensures.names ∙ c.deref-6.ensures.value)
    (λ x. c.in_ok-places.ensures x ∙ ap (λ l. last_place l x) c.deref-5.ensures.value)
    c.in_ok-names.ensures.places
    (c.in_ok-own.ensures ∙ ap (λ l. unlisted l node.name) c.deref-7.ensures.value)
