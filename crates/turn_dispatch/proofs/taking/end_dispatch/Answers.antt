use Rattle.std.proofs.Common.{◌≡◌, sym, ap, ◌∙◌, refl}
use Rattle.widget_meaning.specs.Dispatch.{bubble_on, search_from}
use Rattle.js_image.specs.Image.{seen}
use Rattle.widget_meaning.specs.Trees.{parent}
use Rattle.page_image.specs.Image.{forest, number}
use Rattle.native_image.specs.Image.{beside, image}
use Rattle.turn_dispatch.specs.declared.level.Hearing.{Hearing}
use Rattle.turn_dispatch.specs.Levels.{hearing_of}
use Rattle.turn_dispatch.proofs.taking.end_dispatch.Goals as goal

pub returns-then-not-bubbled-clause-next : goal.returns-then-not-bubbled-clause-next
returns-then-not-bubbled-clause-next c =
    let w = c.args.site.now.id.index in
    let p = c.args.site.now.page.now in record {
      plan = λ fs x b. ap (λ q. bubble_on q (hearing_of w c.args.store.now.cells p c.args.hearing.value) (image fs x w (beside c.args.store.now p c.args.site.now.around.now b))) c.if-not-bubbled.true;
      fine = λ fs. tt;
      near = refl;
    }

pub returns-clause-next : goal.returns-clause-next
returns-clause-next c =
    let w = c.args.site.now.id.index in
    let p = c.args.site.now.page.now in
    let l = c.args.site.now.around.now in
    let cells = c.args.store.now.cells in
    let new = c.search.new.store in
    let h = c.args.hearing.value in
    let up = ap (λ (q : Hearing). parent (number p w q.node) (forest p w)) (sym c.deref.ensures) ∙ sym c.parent-from.ensures.image in
    let same : h.dispatch ≡ c.in_ok-dispatch.dispatch = ap (λ (q : Hearing). q.dispatch) (sym c.deref-2.ensures) ∙ sym c.in_ok-dispatch.ensures in record {
      plan = λ fs x b.
          let s = image fs x w (beside c.args.store.now p l b) in
          ap (λ q. bubble_on q (hearing_of w cells p h) s) c.if-not-bubbled.false
          ∙ ((λ j. search_from (up j) (same j).kind (number p w (same j).target) (seen w cells (same j).value) (same j).depth s)
          ∙ (c.in_ok-found.ensures.plan fs x b ∙ c.took_of.ensures.plan fs w new.cells p (image fs x w (beside new p l b))));
      fine = λ fs. c.took_of.ensures.fine fs w new p c.in_ok-found.ensures.fine;
      near = c.took_of.ensures.near;
    }

pub returns-clause-kept : goal.returns-clause-kept
returns-clause-kept c = record { sound = c.search.ensures.sound; kept = c.search.ensures.kept }
