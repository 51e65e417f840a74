use Rattle.std.proofs.Common.{◌≡◌, ℕ, ap, ◌∙◌, get_or}
use Rattle.std.specs.List.{list_any}
use Rattle.page_tree.specs.Pages.{nodes}
use Rattle.tree_ops.specs.Trees.{is_number}
use Rattle.query_grammar.specs.Finds.{has_number}
use Rattle.page_tree.specs.Documents.{parent_within}
use Rattle.query_walks.proofs.Behind.{some_more, some_done, ok_more}
use Rattle.query_walks.proofs.Downward.{itself}
use Rattle.query_walks.proofs.Members.{node_at}
use Rattle.query_walks.proofs.hunt.parents_of.Goals as goal

pub add_parent-requires : goal.add_parent-requires
add_parent-requires c = node_at c.args.page.now c.args.starts.now c.each.start-index 0 c.requires c.each-test.true

pub each-preserved : goal.each-preserved
each-preserved c = λ n. some_more (λ s. is_number n (parent_within (nodes c.args.page.now) c.args.root s)) c.args.starts.now c.each.start-index (get_or c.args.starts.now c.each.start-index 0) (has_number c.each.parents n) (has_number c.add_parent.new.parents n) _ c.each-test.true (itself c.args.starts.now c.each.start-index c.each-test.true) (c.in_ok-add_parent.ensures n) (c.each.invariant n)

pub returns : goal.returns
returns c =
    let p = c.args.page.now in
    let r = c.args.root in
    let starts = c.args.starts.now in
    ok_more c.list.result
    (λ list. list.items ≡ c.each.parents)
    (λ list. (n : ℕ) → has_number list.items n ≡ list_any (λ s. is_number n (parent_within (nodes p) r s)) starts)
    (λ list e n. ap (λ l. has_number l n) e ∙ some_done (λ s. is_number n (parent_within (nodes p) r s)) starts c.each.start-index (has_number c.each.parents n) _ c.each-test.false (c.each.invariant n))
    c.list.ensures.nodes
