use Rattle.std.proofs.Common.{◌≡◌, ap, ◌∙◌, subst, sym}
use Rattle.std.specs.List.{filter, flat_map}
use Rattle.page_tree.specs.Pages.{nodes, root}
use Rattle.query_grammar.specs.declared.query.Hunter.TheVariants as hunter
use Rattle.query_walks.specs.Finds.{hunted}
use Rattle.query_walks.specs.Walks.{AreNodes, HaveSame, below_any}
use Rattle.query_walks.proofs.Behind.{ok_more}
use Rattle.query_walks.proofs.WithId.{same_named, with_id_node, named_nodes}
use Rattle.query_walks.proofs.named.all_named.Goals as goal

pub collect_below-requires : goal.collect_below-requires
collect_below-requires c = subst (λ l. AreNodes c.args.page.now l) (sym c.with_id.ensures) (with_id_node c.args.page.now c.args.owner c.args.id.now)

pub returns-clause-nodes : goal.returns-clause-nodes
returns-clause-nodes c =
    let p = c.args.page.now in
    let marks = c.in_ok-marks.marks in
    ok_more c.collect_below.result
    (λ found. found.items ≡ filter (below_any (nodes p) marks) c.with_id.result.now)
    (λ found. AreNodes p found.items)
    (λ found e. named_nodes p c.args.owner c.args.id.now marks found.items (e ∙ ap (filter (below_any (nodes p) marks)) c.with_id.ensures))
    c.collect_below.ensures

pub returns-clause-found : goal.returns-clause-found
returns-clause-found c =
    let p = c.args.page.now in
    let o = c.args.owner in
    let marks = c.in_ok-marks.marks in
    ok_more c.collect_below.result
    (λ found. found.items ≡ filter (below_any (nodes p) marks) c.with_id.result.now)
    (λ found. HaveSame p o found.items (flat_map (hunted (nodes p) (root p o) (hunter.Id c.args.id.now)) c.args.starts.now))
    (λ found e. same_named p o c.requires.owner c.requires.widget c.args.id.now c.args.starts.now marks c.in_ok-marks.ensures found.items (e ∙ ap (filter (below_any (nodes p) marks)) c.with_id.ensures))
    c.collect_below.ensures
