use Rattle.std.proofs.Common.{◌≡◌, ℕ, ap, ◌∙◌}
use Rattle.std.specs.List.{flat_map}
use Rattle.page_tree.specs.Pages.{nodes, root}
use Rattle.query_walks.specs.Finds.{hunted}
use Rattle.query_grammar.specs.Finds.{has_number}
use Rattle.query_walks.specs.Walks.{AreNodes, HaveSame}
use Rattle.query_walks.proofs.Behind.{ok_more}
use Rattle.query_walks.proofs.Members.{all_hunted_nodes}
use Rattle.query_walks.proofs.hunt.hunt_by_links.Goals as goal

pub returns-clause-nodes : goal.returns-clause-nodes
returns-clause-nodes c =
    let p = c.args.page.now in
    let r = c.root_of.result in
    let starts = c.args.starts.now in
    ok_more c.walk_all.result
    (λ found. (n : ℕ) → has_number found.items n ≡ has_number (flat_map (hunted (nodes p) r c.args.hunter.now) starts) n)
    (λ found. AreNodes p found.items)
    (λ found e. all_hunted_nodes p r c.args.hunter.now starts found.items e)
    c.walk_all.ensures

pub returns-clause-found : goal.returns-clause-found
returns-clause-found c =
    let p = c.args.page.now in
    let o = c.args.owner in
    let r = c.root_of.result in
    let starts = c.args.starts.now in
    ok_more c.walk_all.result
    (λ found. (n : ℕ) → has_number found.items n ≡ has_number (flat_map (hunted (nodes p) r c.args.hunter.now) starts) n)
    (λ found. HaveSame p o found.items (flat_map (hunted (nodes p) (root p o) c.args.hunter.now) starts))
    (λ found e n _. e n ∙ ap (λ q. has_number (flat_map (hunted (nodes p) q c.args.hunter.now) starts) n) c.root_of.ensures)
    c.walk_all.ensures
