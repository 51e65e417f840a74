use Rattle.std.proofs.Common.{◌+◌, ◌≤◌, arith, get_or, refl, subst, sym, take, ◌∙◌}
use Rattle.page_nodes.specs.Entries.{entries}
use Rattle.page_nodes.specs.Many.{AreTidied}
use Rattle.page_nodes.specs.Room.{room_at}
use Rattle.page_nodes.proofs.Raised.{met_some, none_yet, passed, tidied_all, tidied_more, tidied_passed, tidied_start}
use Rattle.page_nodes.proofs.Walk.{number_is}
use Rattle.page_nodes.proofs.many.tidy_all.Goals as goal
use Rattle.page_nodes.proofs.many.tidy_all.Goals.{then-not-is_number, else-not-is_number}

pub tidy-requires : goal.tidy-requires
tidy-requires c = omega (arith, c.requires c.each.parent-index c.each-test.true, c.each.invariant.tidied.kept.made)

pub each-init : goal.each-init
each-init c = record { tidied = tidied_start (entries c.args.rows.now.items); last = λ q e. none_yet q e; room = λ t. omega arith }

pub each-preserved : goal.each-preserved
each-preserved c =
    let k = entries c.args.rows.now.items in
    let m = entries c.each.rows.items in
    let ps = c.args.parents.now in
    let i = c.each.parent-index in
    let p = get_or ps i 0 in
    let so_far = c.each.invariant.tidied in
    elim c.if-not-is_number.branch [
      | then-not-is_number w ↦ record {
        tidied = subst (λ r. AreTidied k (entries r.items) (take (i + 1) ps)) (sym w.rows-is) (tidied_more k m ps i p c.each-test.true refl so_far _ w.tidy.ensures.links);
        last = λ q e. met_some k m ps i p c.each-test.true refl so_far q (sym w.last-is ∙ e);
        room = λ t. subst (λ r. room_at c.args.rows.now.items t ≤ room_at r.items t) (sym w.rows-is) (omega (arith, c.each.invariant.room t, w.tidy.ensures.room t));
      }
      | else-not-is_number w ↦
          let here = c.each.invariant.last p (number_is p c.each.last (sym c.is_number.ensures ∙ w.if-not-is_number.false)) in
          record {
            tidied = subst (λ r. AreTidied k (entries r.items) (take (i + 1) ps)) (sym w.rows-is) (tidied_passed k m ps i p c.each-test.true refl so_far here);
            last = λ q e. passed k m ps i p c.each-test.true refl so_far q (c.each.invariant.last q (sym w.last-is ∙ e));
            room = λ t. subst (λ r. room_at c.args.rows.now.items t ≤ room_at r.items t) (sym w.rows-is) (c.each.invariant.room t);
          }
    ]

pub returns-clause-links : goal.returns-clause-links
returns-clause-links c = tidied_all (entries c.args.rows.now.items) (entries c.each.rows.items) c.args.parents.now c.each.parent-index c.each-test.false c.each.invariant.tidied
