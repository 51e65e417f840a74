use Rattle.std.proofs.Common.{[], ◌+◌, sym, subst, take, map, take_all}
use Rattle.page_image.specs.Image.{number}
use Rattle.native_image.specs.Made.{AreBunches}
use Rattle.native_image.proofs.Bundles.{made_at, none_made}
use Rattle.native_image.proofs.Joint.{holds_grows}
use Rattle.native_image.proofs.Keeping.{store_same, store_then}
use Rattle.query_grammar.proofs.Numbers.{has_at}
use Rattle.native_image.proofs.bunches.make_bunches.Goals as goal

pub each-init : goal.each-init
each-init c = (
  λ k holds. subst (AreBunches c.args.w.index c.args.store.now c.args.store.now c.args.page.now k []) (sym c.new-values.ensures.items) (none_made c.args.w.index c.args.store.now c.args.store.now c.args.store.now c.args.page.now k),
  λ k sound. sound,
  store_same c.args.w.index c.args.store.now,
)

pub bunch_of_node-requires-clause-sound : goal.bunch_of_node-requires-clause-sound
bunch_of_node-requires-clause-sound c = (c.requires.sound.0, c.each.invariant.1 c.requires.sound.0 c.requires.sound.1)

pub bunch_of_node-requires-clause-own : goal.bunch_of_node-requires-clause-own
bunch_of_node-requires-clause-own c = c.requires.own _ (has_at c.args.nodes.now c.each.node-index 0 c.each-test.true)

pub each-preserved : goal.each-preserved
each-preserved c =
    let w = c.args.w.index in
    let p = c.args.page.now in
    let old = c.args.store.now in
    let mid = c.each.store in
    let new = c.bunch_of_node.new.store in (
      λ k holds.
          let h = c.each.invariant.0 k holds in
          subst (AreBunches w old new p k (map (number p w) (take (c.each.node-index + 1) c.args.nodes.now))) (sym c.in_ok-keep.ensures)
          (made_at w old mid new p k c.args.nodes.now c.each.node-index c.each.values.items c.in_ok-value.value c.each-test.true h (c.in_ok-value.ensures.made k (holds_grows w old mid p k holds c.each.invariant.2.grows (c.each.invariant.1 c.requires.sound.0 c.requires.sound.1).holds.bunches)) c.bunch_of_node.ensures.kept.grows),
      λ k sound. c.bunch_of_node.ensures.sound k (c.each.invariant.1 k sound),
      store_then w old mid new c.each.invariant.2 c.bunch_of_node.ensures.kept,
    )

pub returns-clause-made : goal.returns-clause-made
returns-clause-made c = λ k holds. subst (λ ns. AreBunches c.args.w.index c.args.store.now c.each.store c.args.page.now k (map (number c.args.page.now c.args.w.index) ns) c.each.values.items) (take_all c.each.node-index c.args.nodes.now c.each-test.false) (c.each.invariant.0 k holds)

pub returns-in_err-value-clause-sound : goal.returns-in_err-value-clause-sound
returns-in_err-value-clause-sound c = λ l sound. c.bunch_of_node.ensures.sound l (c.each.invariant.1 l sound)

pub returns-in_err-keep-clause-sound : goal.returns-in_err-keep-clause-sound
returns-in_err-keep-clause-sound c = λ l sound. c.bunch_of_node.ensures.sound l (c.each.invariant.1 l sound)

pub returns-in_err-value-clause-kept : goal.returns-in_err-value-clause-kept
returns-in_err-value-clause-kept c = store_then c.args.w.index c.args.store.now c.each.store c.bunch_of_node.new.store c.each.invariant.2 c.bunch_of_node.ensures.kept

pub returns-in_err-keep-clause-kept : goal.returns-in_err-keep-clause-kept
returns-in_err-keep-clause-kept c = store_then c.args.w.index c.args.store.now c.each.store c.bunch_of_node.new.store c.each.invariant.2 c.bunch_of_node.ensures.kept
