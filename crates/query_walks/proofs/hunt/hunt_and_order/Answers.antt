use Rattle.std.proofs.Common.{◌∙◌, ap, subst, sym}
use Rattle.std.specs.List.{flat_map}
use Rattle.page_nodes.proofs.Lists.{ok_equal}
use Rattle.page_tree.specs.Pages.{nodes, root}
use Rattle.query_walks.specs.Finds.{hunted, in_order}
use Rattle.query_walks.specs.Walks.{AreNodes, is_one_of}
use Rattle.query_walks.proofs.Members.{same_order}
use Rattle.query_walks.proofs.OneStart.{one_in_order}
use Rattle.query_walks.proofs.hunt.hunt_and_order.Goals as goal

pub is_one_of-requires : goal.is_one_of-requires
is_one_of-requires c = subst (λ l. AreNodes c.args.page.now l) (sym c.deref.ensures.value) c.in_ok-found.ensures.nodes

pub in_order-requires-clause-nodes : goal.in_order-requires-clause-nodes
in_order-requires-clause-nodes c = subst (λ l. AreNodes c.args.page.now l) (sym c.deref-2.ensures.value) c.in_ok-found.ensures.nodes

pub returns-then-is_one_of : goal.returns-then-is_one_of
returns-then-is_one_of c =
    let p = c.args.page.now in
    let o = c.args.owner in
    let found = c.in_ok-found.found.items in
    one_in_order p o c.requires.owner found c.in_ok-found.ensures.nodes (ap (is_one_of (nodes p) o) (sym c.deref.ensures.value) ∙ sym c.is_one_of.ensures ∙ c.if-is_one_of.true)
    ∙ same_order p o found (flat_map (hunted (nodes p) (root p o) c.args.hunter.now) c.args.starts.now) c.in_ok-found.ensures.found

pub returns : goal.returns
returns c =
    let p = c.args.page.now in
    let o = c.args.owner in
    let found = c.in_ok-found.found.items in
    ok_equal c.in_order.result (λ v. v.items) _ _
    (ap (in_order (nodes p) (root p o) o) c.deref-2.ensures.value
    ∙ same_order p o found (flat_map (hunted (nodes p) (root p o) c.args.hunter.now) c.args.starts.now) c.in_ok-found.ensures.found)
    c.in_order.ensures
