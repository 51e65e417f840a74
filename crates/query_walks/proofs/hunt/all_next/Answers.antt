use Rattle.std.proofs.Common.{◌≡◌, ℕ, ap, ◌∙◌}
use Rattle.std.specs.List.{flat_map}
use Rattle.page_tree.specs.Pages.{nodes}
use Rattle.query_grammar.specs.declared.query.Hunter.TheVariants as hunter
use Rattle.query_walks.specs.Finds.{hunted}
use Rattle.query_grammar.specs.Finds.{has_number}
use Rattle.query_walks.proofs.Behind.{taken, parents_nodes, same_next, ok_more}
use Rattle.query_walks.proofs.hunt.all_next.Goals as goal

pub collect_all_next-requires : goal.collect_all_next-requires
collect_all_next-requires c = parents_nodes c.args.page.now c.args.root c.args.starts.now c.deref.result.now (λ n. ap (λ l. has_number l n) c.deref.ensures.value ∙ c.in_ok-parents.ensures n)

pub returns : goal.returns
returns c =
    let p = c.args.page.now in
    let r = c.args.root in
    let starts = c.args.starts.now in
    let tag = c.args.tag.now in
    let parents = c.deref.result.now in
    ok_more c.collect_all_next.result
    (λ found. found.items ≡ flat_map (taken p r c.in_ok-marks.marks tag) parents)
    (λ found. (n : ℕ) → has_number found.items n ≡ has_number (flat_map (hunted (nodes p) r (hunter.Next tag)) starts) n)
    (λ found e. same_next p r starts parents (λ n. ap (λ l. has_number l n) c.deref.ensures.value ∙ c.in_ok-parents.ensures n) c.in_ok-marks.marks c.in_ok-marks.ensures tag found.items e)
    c.collect_all_next.ensures
