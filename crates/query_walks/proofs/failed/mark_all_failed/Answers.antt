use Rattle.std.proofs.Common.{sym, ◌∙◌, ap, replicate, length, ◌+◌, true}
use Rattle.std.specs.Prelude.{option_copied}
use Rattle.page_tree.specs.Pages.{nodes}
use Rattle.query_walks.specs.FirstFailed.{fails}
use Rattle.query_walks.proofs.FirstFailed.{marked_all}
use Rattle.query_walks.proofs.Members.{first_has}
use Rattle.query_walks.proofs.failed.mark_all_failed.Goals as goal

pub mark_each-requires-clause-first : goal.mark_each-requires-clause-first
mark_each-requires-clause-first c = c.requires c.in-Some.first.now (first_has c.args.list.now c.in-Some.first.now (sym c.first.ensures.value ∙ ap option_copied c.in-Some.is))

pub returns-in_ok-vec-in_default-clause-marked : goal.returns-in_ok-vec-in_default-clause-marked
returns-in_ok-vec-in_default-clause-marked c =
    let all = c.in_ok-vec-in_default.ensures.items_if_clones_equal (λ y h. h) ∙ ap (λ l. replicate (length l + 1) true) c.filters-count.ensures in
    λ n h. marked_all (fails (nodes c.args.page.now) c.args.focus n) c.args.filters.now _ all
