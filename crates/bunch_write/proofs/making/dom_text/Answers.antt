use Rattle.std.proofs.Common.{◌∷◌, [], ◌∙◌, length, ap, sym}
use Rattle.std.proofs.lemmas.Result.{IfOk-weaker}
use Rattle.plain_tree.specs.Trees.{TextOf}
use Rattle.widget_meaning.specs.DomNatives.{dom_native, give_node}
use Rattle.permitted_table.specs.declared.native.DomNative.TheVariants.{DomText}
use Rattle.widget_meaning.specs.Values.{to_text}
use Rattle.js_image.specs.declared.outcome.Fault.TheVariants as fault
use Rattle.js_image.specs.Image.{seen}
use Rattle.native_image.specs.Image.{beside, image}
use Rattle.native_image.proofs.Keeping.{keeps_here}
use Rattle.native_image.proofs.Meeting.{at_free, at_same}
use Rattle.native_image.proofs.Wants.{object_of, primitive_of}
use Rattle.native_image.proofs.Working.{at_thrown}
use Rattle.bunch_write.proofs.making.dom_text.Goals as goal

pub returns-then-is_object-clause-native : goal.returns-then-is_object-clause-native
returns-then-is_object-clause-native c = λ l b f this sound.
    let w = c.args.w.index in
    let s = c.args.store.now in
    let h = beside s c.args.page.now l b in
    let t = seen w s.cells c.args.value.now in
    at_thrown w h (λ d u. dom_native DomText this (t ∷ []) d u) fault.E4 f sound
    (λ fs x d. let u = image fs x w h in object_of t u (give_node (TextOf (to_text t)) (length (to_text t)) u) (sym (c.is_object.ensures.object w s.cells) ∙ c.if-is_object.true))

pub returns-then-is_object-clause-kept : goal.returns-then-is_object-clause-kept
returns-then-is_object-clause-kept c = λ l sound. keeps_here c.args.w.index c.args.store.now c.args.page.now l sound.holds

pub returns-in_err-text-clause-kept : goal.returns-in_err-text-clause-kept
returns-in_err-text-clause-kept c = λ l sound. keeps_here c.args.w.index c.args.store.now c.args.page.now l sound.holds

pub give_node-requires : goal.give_node-requires
give_node-requires c = c.requires

pub returns-clause-native : goal.returns-clause-native
returns-clause-native c = λ l b f this sound.
    let w = c.args.w.index in
    let s = c.args.store.now in
    let h = beside s c.args.page.now l b in
    let new = beside c.give_node.new.store c.give_node.new.page l b in
    let t = seen w s.cells c.args.value.now in
    IfOk-weaker c.give_node.result _ _
    (λ o ends.
    at_same w h new (λ d u. dom_native DomText this (t ∷ []) d u) (λ d u. give_node (TextOf c.in_ok-text.text) (length c.in_ok-text.text) u) o f f
    (λ fs x d.
    let u = image fs x w h in
    primitive_of t u (give_node (TextOf (to_text t)) (length (to_text t)) u) (sym (c.is_object.ensures.object w s.cells) ∙ c.if-is_object.false)
    ∙ ap (λ k. give_node (TextOf k) (length k) u) (sym (c.in_ok-text.ensures w s.cells)))
    (at_free w h new (λ d u. give_node (TextOf c.in_ok-text.text) (length c.in_ok-text.text) u) o f (ends l b (TextOf c.in_ok-text.text) (length c.in_ok-text.text) c.text_tree-plain.ensures c.text_units-units.ensures sound)))
    c.give_node.ensures.ends
