use Rattle.std.proofs.Common.{◌∷◌, [], ◌∙◌, length, map, ap, sym, codes}
use Rattle.std.specs.Prelude.{option_to_list, sum_by}
use Rattle.std.proofs.lemmas.Result.{IfOk-weaker}
use Rattle.plain_tree.specs.Trees.{ElementOf}
use Rattle.widget_meaning.specs.DomNatives.{dom_native, dom_tag, give_node, given_text}
use Rattle.permitted_table.specs.declared.native.DomNative.TheVariants.{DomTag}
use Rattle.widget_meaning.specs.Values.{to_text}
use Rattle.js_image.specs.declared.outcome.Fault.TheVariants as fault
use Rattle.js_image.specs.Image.{seen}
use Rattle.native_image.specs.Image.{beside, image}
use Rattle.native_image.proofs.Keeping.{keeps_here}
use Rattle.native_image.proofs.Meeting.{at_free, at_same}
use Rattle.native_image.proofs.Wants.{objects_of, primitives_of}
use Rattle.native_image.proofs.Working.{at_thrown}
use Rattle.bunch_write.specs.Tags.{may_make}
use Rattle.bunch_write.proofs.Made.{bad_tag, good_tag}
use Rattle.native_common.specs.Numbers.{counted}
use Rattle.bunch_write.proofs.making.dom_tag.Goals as goal

pub returns-then-either_object-clause-native : goal.returns-then-either_object-clause-native
returns-then-either_object-clause-native c = λ l b f this sound.
    let w = c.args.w.index in
    let s = c.args.store.now in
    let h = beside s c.args.page.now l b in
    let a = seen w s.cells c.args.name.now in
    let t = seen w s.cells c.args.kind.now in
    at_thrown w h (λ d u. dom_native DomTag this (a ∷ t ∷ []) d u) fault.E4 f sound
    (λ fs x d. let u = image fs x w h in objects_of a t u (dom_tag (to_text a) (given_text t) u) (sym (c.either_object.ensures w s.cells) ∙ c.if-either_object.true))

pub returns-then-either_object-clause-kept : goal.returns-then-either_object-clause-kept
returns-then-either_object-clause-kept c = λ l sound. keeps_here c.args.w.index c.args.store.now c.args.page.now l sound.holds

pub returns-in_err-tag-clause-kept : goal.returns-in_err-tag-clause-kept
returns-in_err-tag-clause-kept c = λ l sound. keeps_here c.args.w.index c.args.store.now c.args.page.now l sound.holds

pub returns-in_err-given-clause-kept : goal.returns-in_err-given-clause-kept
returns-in_err-given-clause-kept c = λ l sound. keeps_here c.args.w.index c.args.store.now c.args.page.now l sound.holds

pub returns-in_err-plain-clause-kept : goal.returns-in_err-plain-clause-kept
returns-in_err-plain-clause-kept c = λ l sound. keeps_here c.args.w.index c.args.store.now c.args.page.now l sound.holds

pub returns-then-not-may_make-clause-native : goal.returns-then-not-may_make-clause-native
returns-then-not-may_make-clause-native c = λ l b f this sound.
    let w = c.args.w.index in
    let s = c.args.store.now in
    let h = beside s c.args.page.now l b in
    let a = seen w s.cells c.args.name.now in
    let t = seen w s.cells c.args.kind.now in
    at_thrown w h (λ d u. dom_native DomTag this (a ∷ t ∷ []) d u) fault.E4 f sound
    (λ fs x d.
    let u = image fs x w h in
    primitives_of a t u (dom_tag (to_text a) (given_text t) u) (sym (c.either_object.ensures w s.cells) ∙ c.if-either_object.false)
    ∙ bad_tag (to_text a) (given_text t) u c.in_ok-tag.tag c.in_ok-given.given (sym (c.in_ok-tag.ensures w s.cells)) (sym (c.in_ok-given.ensures w s.cells)) (ap (may_make c.in_ok-tag.tag) (sym c.as_ref.ensures.value) ∙ sym c.may_make.ensures ∙ c.if-not-may_make.true))

pub returns-then-not-may_make-clause-kept : goal.returns-then-not-may_make-clause-kept
returns-then-not-may_make-clause-kept c = λ l sound. keeps_here c.args.w.index c.args.store.now c.args.page.now l sound.holds

pub give_node-requires : goal.give_node-requires
give_node-requires c = c.requires

pub returns-clause-native : goal.returns-clause-native
returns-clause-native c = λ l b f this sound.
    let w = c.args.w.index in
    let s = c.args.store.now in
    let h = beside s c.args.page.now l b in
    let new = beside c.give_node.new.store c.give_node.new.page l b in
    let a = seen w s.cells c.args.name.now in
    let t = seen w s.cells c.args.kind.now in
    let types = option_to_list c.in_ok-given.given in
    let label = ElementOf c.in_ok-tag.tag (map (λ k. (codes "type", k)) types) in
    IfOk-weaker c.give_node.result _ _
    (λ o ends.
    at_same w h new (λ d u. dom_native DomTag this (a ∷ t ∷ []) d u) (λ d u. give_node label (sum_by length types) u) o f f
    (λ fs x d.
    let u = image fs x w h in
    primitives_of a t u (dom_tag (to_text a) (given_text t) u) (sym (c.either_object.ensures w s.cells) ∙ c.if-either_object.false)
    ∙ good_tag (to_text a) (given_text t) u c.in_ok-tag.tag c.in_ok-given.given (sym (c.in_ok-tag.ensures w s.cells)) (sym (c.in_ok-given.ensures w s.cells)) (ap (may_make c.in_ok-tag.tag) (sym c.as_ref.ensures.value) ∙ sym c.may_make.ensures ∙ c.if-not-may_make.false))
    (at_free w h new (λ d u. give_node label (sum_by length types) u) o f (ends l b label (sum_by length types) c.in_ok-plain.ensures (c.units_of-units.ensures ∙ ap (λ o. counted (sum_by length (option_to_list o))) c.as_ref-2.ensures.value) sound)))
    c.give_node.ensures.ends
