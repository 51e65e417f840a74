use Rattle.std.proofs.Common.{ℕ, Some, map, sym, ap, ◌∙◌}
use Rattle.std.specs.declared.vec.Vec.{Vec}
use Rattle.std.specs.declared.alloc.Global.{Global}
use Rattle.std.specs.Option.{option_map}
use Rattle.widget_meaning.specs.BunchReads.{explode, read_native}
use Rattle.widget_meaning.specs.Costs.{or_throw}
use Rattle.permitted_table.specs.declared.native.ReadNative.TheVariants.{Explode}
use Rattle.widget_meaning.specs.Values.{E3}
use Rattle.js_image.specs.declared.outcome.Fault.TheVariants as fault
use Rattle.native_common.specs.Receivers.{receiver}
use Rattle.page_image.specs.Image.{number}
use Rattle.native_image.specs.Image.{beside, image}
use Rattle.native_image.proofs.Keeping.{keeps_here}
use Rattle.native_image.proofs.Working.{at_thrown, ok_at_same}
use Rattle.bunch_trees.proofs.Roots.{some_nodes}
use Rattle.bunch_trees.proofs.exploding.explode.Goals as goal

pub receiver_of-requires-clause-held : goal.receiver_of-requires-clause-held
receiver_of-requires-clause-held c = c.requires.sound.1.holds.bunches

pub explode_nodes-requires-clause-sound : goal.explode_nodes-requires-clause-sound
explode_nodes-requires-clause-sound c = c.requires.sound

pub explode_nodes-requires-clause-nodes : goal.explode_nodes-requires-clause-nodes
explode_nodes-requires-clause-nodes c = some_nodes c.args.page.now c.args.w.index c.in_ok-list.field-0 c.in-Some.list c.deref.result.now c.in-Some.is c.deref.ensures.value c.in_ok-list.ensures.nodes

pub returns-in-None-clause-native : goal.returns-in-None-clause-native
returns-in-None-clause-native c = λ l b vs sound.
    let w = c.args.w.index in
    let p = c.args.page.now in
    let s = c.args.store.now in
    let h = beside s p l b in
    let this = receiver w s.cells c.args.this.now in
    at_thrown w h (λ d u. read_native Explode this vs d u) fault.E3 c.args.meter.now sound
    (λ fs x d. ap (λ o. or_throw E3 o (image fs x w h) (λ ns. explode ns (image fs x w h))) (c.in_ok-list.ensures.read fs x l b ∙ ap (option_map (λ (k : Vec ℕ Global). map (number p w) k.items)) c.in-None.is))

pub returns-in-None-clause-kept : goal.returns-in-None-clause-kept
returns-in-None-clause-kept c = λ l sound. keeps_here c.args.w.index c.args.store.now c.args.page.now l sound.holds

pub returns-in-Some-clause-native : goal.returns-in-Some-clause-native
returns-in-Some-clause-native c = λ l b vs sound.
    let w = c.args.w.index in
    let p = c.args.page.now in
    let s = c.args.store.now in
    let h = beside s p l b in
    let this = receiver w s.cells c.args.this.now in
    let ns = map (number p w) c.deref.result.now in
    ok_at_same w h (beside c.explode_nodes.new.store p l b) (λ d u. read_native Explode this vs d u) (λ d u. explode ns u) c.explode_nodes.result c.args.meter.now c.explode_nodes.new.meter
    (λ fs x d.
    ap (λ o. or_throw E3 o (image fs x w h) (λ ks. explode ks (image fs x w h)))
    (c.in_ok-list.ensures.read fs x l b ∙ ap (option_map (λ (k : Vec ℕ Global). map (number p w) k.items)) c.in-Some.is ∙ ap (λ k. Some (map (number p w) k)) (sym c.deref.ensures.value)))
    (c.explode_nodes.ensures.native l b sound)

pub returns-in-Some-clause-kept : goal.returns-in-Some-clause-kept
returns-in-Some-clause-kept c = c.explode_nodes.ensures.kept

pub returns-in_err-list-clause-kept : goal.returns-in_err-list-clause-kept
returns-in_err-list-clause-kept c = λ l sound. keeps_here c.args.w.index c.args.store.now c.args.page.now l sound.holds
