use Rattle.std.proofs.Common.{◌≡◌, ◌+◌, ◌-◌, ◌<◌, ◌∙◌, ap, arith, length, List, ℕ, Option, subst, suc, sym}
use Rattle.std.specs.Prelude.{IfSome}
use Rattle.std.specs.List.{AllByRecursion, list_any}
use Rattle.widget_meaning.specs.Properties.{is_listed}
use Rattle.js_image.specs.Elements.{is_listed_in, stored_names}
use Rattle.js_image.proofs.ForIn.{all_push, behind_more, hosts_cell_is, names_host, names_own, own_cell_is, up_within}
use Rattle.js_image.proofs.listing.names_along.Goals as goal

pub returns-then-is_hosts : goal.returns-then-is_hosts
returns-then-is_hosts c =
    let cells = c.args.store.now.cells in
    let names = c.loop-link.names.items in
    let m = 101 - c.loop-link._link in
    let lt = subst (λ (o : Option ℕ). IfSome o (λ i. i < length cells)) c.in-Some.is c.loop-link.invariant.within in
    sym (names_host m cells c.in-Some.cell names lt (hosts_cell_is cells c.in-Some.cell c.is_hosts.result c.is_hosts.ensures c.if-is_hosts.true))
    ∙ ap (λ (o : Option ℕ). stored_names m cells o names) (sym c.in-Some.is)
    ∙ c.loop-link.invariant.rest

pub loop-link-preserved : goal.loop-link-preserved
loop-link-preserved c =
    let cells = c.args.store.now.cells in
    let i = c.in-Some.cell in
    let names = c.loop-link.names.items in
    let up = c.proto-at.result in
    let m = 101 - (c.loop-link._link + 1) in
    let more : suc m ≡ 101 - c.loop-link._link = omega (arith, c.loop-link-test.true) in
    let lt = subst (λ (o : Option ℕ). IfSome o (λ k. k < length cells)) c.in-Some.is c.loop-link.invariant.within in
    record {
      within = up_within cells c.links_are_older.ensures i up lt c.proto-at.ensures;
      rest =
          ap (λ (l : List (List ℕ)). stored_names m cells up l) c.in_ok-push_names.ensures
          ∙ sym (names_own m cells i names up lt (own_cell_is cells i c.is_hosts.result c.is_hosts.ensures c.if-is_hosts.false) c.proto-at.ensures)
          ∙ (λ j. stored_names (more j) cells (sym c.in-Some.is j) names)
          ∙ c.loop-link.invariant.rest;
      behind = subst (λ (l : List ℕ). AllByRecursion (λ k. k < length cells) l) (sym c.in_ok-push.ensures.items) (all_push (length cells) c.loop-link.behind.items i c.loop-link.invariant.behind lt);
      listed = λ y.
          ap (λ (l : List (List ℕ)). is_listed l y) c.in_ok-push_names.ensures
          ∙ behind_more cells names c.loop-link.behind.items i c.loop-link.invariant.listed y
          ∙ ap (list_any (is_listed_in cells y)) (sym c.in_ok-push.ensures.items);
    }
