use Rattle.std.proofs.Common.{[]}
use Rattle.std.proofs.lemmas.Result.{IfOk-weaker}
use Rattle.plain_tree.specs.Plains.{unplaced}
use Rattle.native_image.proofs.Joint.{sound_stays}
use Rattle.native_image.proofs.Keeping.{keeps_next, keeps_store, keeps_then}
use Rattle.native_image.proofs.Holding.{on_ok}
use Rattle.native_image.proofs.Lifted.{node_lift}
use Rattle.native_image.proofs.making.make_node.Goals as goal

pub bunch_of_node-requires-clause-sound : goal.bunch_of_node-requires-clause-sound
bunch_of_node-requires-clause-sound c =
    let l = c.requires.0 in
    (l, c.in_ok-node.ensures.sound l (sound_stays c.args.w.index c.args.store.now c.pay_judged.new.store c.args.page.now l c.requires.1 (c.pay_judged.ensures.kept [])))

pub bunch_of_node-requires-clause-own : goal.bunch_of_node-requires-clause-own
bunch_of_node-requires-clause-own c = c.in_ok-node.ensures.grown.mine

pub returns-clause-made : goal.returns-clause-made
returns-clause-made c =
    IfOk-weaker c.bunch_of_node.result _ _
    (λ v made. λ l label is holds.
    let mid = keeps_store c.args.w.index c.args.store.now c.pay_judged.new.store c.args.page.now l holds c.pay_judged.ensures.kept in
    let more = c.add_tree.ensures.kept l mid.holds in
    node_lift c.args.w.index c.args.w.small c.args.store.now c.pay_judged.new.store c.add_tree.new.store c.bunch_of_node.new.store c.args.page.now c.add_tree.new.page l holds
    (c.pay_judged.ensures.kept [])
    (c.in_ok-pay_judged.ensures.paid c.args.page.now l holds)
    (c.add_tree.ensures.store []) (c.add_tree.ensures.same c.args.w.index)
    c.in_ok-node.node label (unplaced c.args.plain.now) is c.in_ok-node.ensures.grown v (made l more.holds))
    c.bunch_of_node.ensures.made

pub returns-clause-sound : goal.returns-clause-sound
returns-clause-sound c = on_ok c.bunch_of_node.result _ (λ l sound. c.bunch_of_node.ensures.sound l (c.in_ok-node.ensures.sound l (sound_stays c.args.w.index c.args.store.now c.pay_judged.new.store c.args.page.now l sound (c.pay_judged.ensures.kept []))))

pub returns-clause-kept : goal.returns-clause-kept
returns-clause-kept c = λ l sound.
    let mid = keeps_store c.args.w.index c.args.store.now c.pay_judged.new.store c.args.page.now l sound.holds c.pay_judged.ensures.kept in
    let more = c.add_tree.ensures.kept l mid.holds in
    let there = c.in_ok-node.ensures.sound l (sound_stays c.args.w.index c.args.store.now c.pay_judged.new.store c.args.page.now l sound (c.pay_judged.ensures.kept [])) in
    keeps_next c.args.w.index c.args.store.now c.add_tree.new.store c.bunch_of_node.new.store c.args.page.now c.add_tree.new.page l l
    (keeps_then c.args.w.index c.args.store.now c.pay_judged.new.store c.add_tree.new.store c.args.page.now c.args.page.now c.add_tree.new.page l l mid more)
    c.bunch_of_node.ensures.kept
    (c.bunch_of_node.ensures.sound l there).holds

pub returns-in_err-node-clause-kept : goal.returns-in_err-node-clause-kept
returns-in_err-node-clause-kept c = λ l sound.
    let mid = keeps_store c.args.w.index c.args.store.now c.pay_judged.new.store c.args.page.now l sound.holds c.pay_judged.ensures.kept in
    keeps_then c.args.w.index c.args.store.now c.pay_judged.new.store c.add_tree.new.store c.args.page.now c.args.page.now c.add_tree.new.page l l mid (c.add_tree.ensures.kept l mid.holds)

pub returns-in_err-pay_judged-clause-kept : goal.returns-in_err-pay_judged-clause-kept
returns-in_err-pay_judged-clause-kept c = λ l sound. keeps_store c.args.w.index c.args.store.now c.pay_judged.new.store c.args.page.now l sound.holds c.pay_judged.ensures.kept
