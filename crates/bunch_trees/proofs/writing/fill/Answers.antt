use Rattle.std.proofs.Common.{◌<◌, ℕ, List, length, refl, sym, subst, ap, ◌∙◌}
use Rattle.std.specs.Prelude.{nat_eq}
use Rattle.std.specs.List.{fold}
use Rattle.widget_meaning.specs.BunchWrites.{emptied, with_text_node}
use Rattle.widget_meaning.specs.Costs.{with_counts}
use Rattle.widget_meaning.specs.Trees.{children, detached, tops}
use Rattle.js_image.proofs.Grown.{kept_same}
use Rattle.page_image.specs.Image.{number}
use Rattle.page_image.proofs.Results.{ok_then}
use Rattle.event_loop.specs.declared.around.Loop.{Loop}
use Rattle.native_image.specs.Image.{beside, image}
use Rattle.native_image.specs.Sound.{HoldsOwn, KeepsAll}
use Rattle.native_image.proofs.Keeping.{keeps_paged, keeps_then, sound_page}
use Rattle.bunch_trees.specs.Changes.{Changes}
use Rattle.bunch_trees.proofs.Changed.{changes_page, changes_same, changes_then}
use Rattle.bunch_trees.proofs.Tagged.{is_no_text, is_some_text}
use Rattle.bunch_trees.proofs.Texts.{no_text}
use Rattle.bunch_trees.proofs.writing.fill.Goals as goal

pub empty-requires-clause-home : goal.empty-requires-clause-home
empty-requires-clause-home c = c.requires.sound.1.holds.home

pub put_text-requires-clause-sound : goal.put_text-requires-clause-sound
put_text-requires-clause-sound c = (c.requires.sound.0, sound_page c.args.w.index c.args.w.small c.args.page.now c.empty.new.page c.empty.ensures.kept c.empty.ensures.others c.args.store.now c.requires.sound.0 c.requires.sound.1)

pub put_text-requires-clause-own : goal.put_text-requires-clause-own
put_text-requires-clause-own c = c.empty.ensures.kept.owners c.args.w.index c.args.node ∙ c.requires.own

pub put_text-requires-clause-some : goal.put_text-requires-clause-some
put_text-requires-clause-some c = subst (λ (t : List ℕ). 0 < length t) (sym c.in_ok-text.ensures) (is_some_text c.args.text.now (ap (λ us. nat_eq (length us) 0) (sym c.units.ensures) ∙ sym c.is_empty.ensures ∙ c.if-is_empty.false))

pub returns-then-is_empty-clause-done : goal.returns-then-is_empty-clause-done
returns-then-is_empty-clause-done c =
    let w = c.args.w.index in
    let p = c.args.page.now in
    let q = c.empty.new.page in
    let s = c.args.store.now in
    let m = number p w c.args.node in
    let none = is_no_text c.args.text.now (ap (λ us. nat_eq (length us) 0) (sym c.units.ensures) ∙ sym c.is_empty.ensures ∙ c.if-is_empty.true) in
    changes_same w s s p q (λ u. emptied u m) (λ u. with_text_node m c.args.text.now (emptied u m))
    (λ l fs x b d. no_text m c.args.text.now (emptied (with_counts (image fs x w (beside s p l b)) d) m) none)
    (changes_page w c.args.w.small s p q c.empty.ensures.kept c.empty.ensures.others (λ ts. fold detached ts (tops (children m ts))) c.empty.ensures.image)

pub returns-then-is_empty-clause-kept : goal.returns-then-is_empty-clause-kept
returns-then-is_empty-clause-kept c = λ l h. keeps_paged c.args.w.index c.args.w.small c.args.store.now c.args.store.now c.args.page.now c.empty.new.page l h (λ fs. kept_same fs c.args.w.index c.args.store.now c.args.store.now refl) c.empty.ensures.kept c.empty.ensures.others c.empty.ensures.host

pub returns-in_err-text-clause-kept : goal.returns-in_err-text-clause-kept
returns-in_err-text-clause-kept c = λ l h. keeps_paged c.args.w.index c.args.w.small c.args.store.now c.args.store.now c.args.page.now c.empty.new.page l h (λ fs. kept_same fs c.args.w.index c.args.store.now c.args.store.now refl) c.empty.ensures.kept c.empty.ensures.others c.empty.ensures.host

pub returns-clause-done : goal.returns-clause-done
returns-clause-done c =
    let w = c.args.w.index in
    let p = c.args.page.now in
    let r = c.empty.new.page in
    let q = c.put_text.new.page in
    let s = c.args.store.now in
    let t = c.put_text.new.store in
    let m = number p w c.args.node in
    let keeps : (l : Loop) → HoldsOwn w s p l → KeepsAll w s s p r l = λ l h. keeps_paged w c.args.w.small s s p r l h (λ fs. kept_same fs w s s refl) c.empty.ensures.kept c.empty.ensures.others c.empty.ensures.host in
    ok_then c.put_text.result _ _
    (λ e.
    changes_then w s s t p r q (λ u. emptied u m) (λ u. with_text_node m c.args.text.now u) keeps
    (changes_page w c.args.w.small s p r c.empty.ensures.kept c.empty.ensures.others (λ ts. fold detached ts (tops (children m ts))) c.empty.ensures.image)
    (subst (λ (k : ℕ). Changes w s t r q (λ u. with_text_node k c.args.text.now u)) (c.empty.ensures.kept.numbers w c.args.node)
    (subst (λ (k : List ℕ). Changes w s t r q (λ u. with_text_node (number r w c.args.node) k u)) c.in_ok-text.ensures e)))
    c.put_text.ensures.done

pub returns-clause-kept : goal.returns-clause-kept
returns-clause-kept c = λ l h.
    let w = c.args.w.index in
    let s = c.args.store.now in
    let k = keeps_paged w c.args.w.small s s c.args.page.now c.empty.new.page l h (λ fs. kept_same fs w s s refl) c.empty.ensures.kept c.empty.ensures.others c.empty.ensures.host in
    keeps_then w s s c.put_text.new.store c.args.page.now c.empty.new.page c.put_text.new.page l l k (c.put_text.ensures.kept l k.holds)
