use Rattle.std.proofs.Common.{ℕ, codes, refl, sym, ap, ◌∙◌, Some}
use Rattle.plain_tree.specs.Trees.{TextOf, Trees}
use Rattle.tree_ops.specs.Labels.{with_attribute}
use Rattle.tree_ops.specs.Trees.{relabelled}
use Rattle.widget_meaning.specs.BunchWrites.{emptied, valued, with_text_node}
use Rattle.widget_meaning.specs.Costs.{with_counts}
use Rattle.widget_meaning.specs.OwnState.{with_forest}
use Rattle.js_image.specs.Image.{no_rest}
use Rattle.js_image.proofs.Grown.{kept_same}
use Rattle.page_image.specs.Image.{forest, number, relabel_in}
use Rattle.page_image.proofs.Results.{ok_then}
use Rattle.native_image.specs.Image.{beside, image}
use Rattle.native_image.proofs.Keeping.{keeps_here, keeps_paged}
use Rattle.bunch_attributes.specs.declared.judging.Test.TheVariants as test
use Rattle.bunch_attributes.proofs.Tags.{passes_element}
use Rattle.bunch_trees.proofs.Changed.{changes_page, changes_same}
use Rattle.bunch_trees.proofs.Texts.{value_of_element, value_of_input, value_of_text}
use Rattle.bunch_trees.proofs.writing.give.Goals as goal

pub set_attr-requires-clause-home : goal.set_attr-requires-clause-home
set_attr-requires-clause-home c = c.requires.sound.1.holds.home

pub set_attr-requires-clause-element : goal.set_attr-requires-clause-element
set_attr-requires-clause-element c =
    let u = record no_rest.state { own = record no_rest.state.own { forest = forest c.args.page.now c.args.w.index } } in
    passes_element test.Input u (number c.args.page.now c.args.w.index c.args.node) (sym (c.is_input.ensures u refl) ∙ c.if-is_input.true)

pub set_text-requires-clause-home : goal.set_text-requires-clause-home
set_text-requires-clause-home c = c.requires.sound.1.holds.home

pub set_text-requires-clause-is_text : goal.set_text-requires-clause-is_text
set_text-requires-clause-is_text c =
    let u = record no_rest.state { own = record no_rest.state.own { forest = forest c.args.page.now c.args.w.index } } in
    sym (c.is_text_node.ensures u refl) ∙ c.if-is_text_node.true

pub fill-requires-clause-sound : goal.fill-requires-clause-sound
fill-requires-clause-sound c = c.requires.sound

pub returns-then-is_input-clause-done : goal.returns-then-is_input-clause-done
returns-then-is_input-clause-done c =
    let w = c.args.w.index in
    let p = c.args.page.now in
    let q = c.set_attr.new.page in
    let s = c.args.store.now in
    let m = number p w c.args.node in
    let t = c.args.given.now.text in
    let relabels : Trees ℕ → Trees ℕ = λ f. relabel_in (with_attribute (codes "value") (Some t)) f m in
    ok_then c.set_attr.result _ _
    (λ e.
    changes_same w s s p q (λ u. with_forest u (relabels u.own.forest)) (λ u. valued t u m)
    (λ l fs x b d. let u = with_counts (image fs x w (beside s p l b)) d in value_of_input t u m (sym (c.is_input.ensures u refl) ∙ c.if-is_input.true))
    (changes_page w c.args.w.small s p q c.set_attr.ensures.kept c.set_attr.ensures.others relabels
    (e ∙ (λ j. relabel_in (with_attribute (c.requires.name j) (Some (c.in_ok-text.ensures j))) (forest p w) m))))
    c.set_attr.ensures.image

pub returns-then-is_input-clause-kept : goal.returns-then-is_input-clause-kept
returns-then-is_input-clause-kept c = λ l h. keeps_paged c.args.w.index c.args.w.small c.args.store.now c.args.store.now c.args.page.now c.set_attr.new.page l h (λ fs. kept_same fs c.args.w.index c.args.store.now c.args.store.now refl) c.set_attr.ensures.kept c.set_attr.ensures.others c.set_attr.ensures.host

pub returns-in_err-text-clause-kept : goal.returns-in_err-text-clause-kept
returns-in_err-text-clause-kept c = λ l h. keeps_here c.args.w.index c.args.store.now c.args.page.now l h

pub returns-then-is_text_node-clause-done : goal.returns-then-is_text_node-clause-done
returns-then-is_text_node-clause-done c =
    let w = c.args.w.index in
    let p = c.args.page.now in
    let q = c.set_text.new.page in
    let s = c.args.store.now in
    let m = number p w c.args.node in
    let t = c.args.given.now.text in
    changes_same w s s p q (λ u. with_forest u (relabelled m (TextOf t) u.own.forest)) (λ u. valued t u m)
    (λ l fs x b d. let u = with_counts (image fs x w (beside s p l b)) d in value_of_text t u m (sym (c.is_input.ensures u refl) ∙ c.if-is_input.false) (sym (c.is_text_node.ensures u refl) ∙ c.if-is_text_node.true))
    (changes_page w c.args.w.small s p q c.set_text.ensures.kept c.set_text.ensures.others (λ f. relabelled m (TextOf t) f)
    (c.set_text.ensures.image ∙ ap (λ k. relabelled m (TextOf k) (forest p w)) c.in_ok-text-2.ensures))

pub returns-then-is_text_node-clause-kept : goal.returns-then-is_text_node-clause-kept
returns-then-is_text_node-clause-kept c = λ l h. keeps_paged c.args.w.index c.args.w.small c.args.store.now c.args.store.now c.args.page.now c.set_text.new.page l h (λ fs. kept_same fs c.args.w.index c.args.store.now c.args.store.now refl) c.set_text.ensures.kept c.set_text.ensures.others c.set_text.ensures.host

pub returns-in_err-text-2-clause-kept : goal.returns-in_err-text-2-clause-kept
returns-in_err-text-2-clause-kept c = λ l h. keeps_here c.args.w.index c.args.store.now c.args.page.now l h

pub returns-clause-done : goal.returns-clause-done
returns-clause-done c =
    let w = c.args.w.index in
    let p = c.args.page.now in
    let s = c.args.store.now in
    let m = number p w c.args.node in
    let t = c.args.given.now.text in
    ok_then c.fill.result _ _
    (λ e.
    changes_same w s c.fill.new.store p c.fill.new.page (λ u. with_text_node m t (emptied u m)) (λ u. valued t u m)
    (λ l fs x b d. let u = with_counts (image fs x w (beside s p l b)) d in value_of_element t u m (sym (c.is_input.ensures u refl) ∙ c.if-is_input.false) (sym (c.is_text_node.ensures u refl) ∙ c.if-is_text_node.false))
    e)
    c.fill.ensures.done

pub returns-clause-kept : goal.returns-clause-kept
returns-clause-kept c = c.fill.ensures.kept
