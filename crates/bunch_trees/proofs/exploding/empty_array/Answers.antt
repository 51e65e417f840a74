use Rattle.std.proofs.Common.{[], sym, subst, ap, ◌∙◌}
use Rattle.store_cells.specs.declared.value.Value.TheVariants as value
use Rattle.widget_meaning.specs.Costs.{with_counts}
use Rattle.widget_meaning.specs.NativeForms.{make_array}
use Rattle.widget_meaning.specs.OwnState.{new_array}
use Rattle.js_image.specs.Held.{AreFine}
use Rattle.js_image.specs.Image.{all_seen, image, seen}
use Rattle.js_image.specs.Plans.{IsFineMade, made_plan}
use Rattle.native_image.proofs.Told.{made_told}
use Rattle.bunch_trees.proofs.exploding.empty_array.Goals as goal

pub make_array-requires-clause-held : goal.make_array-requires-clause-held
make_array-requires-clause-held c = subst (AreFine c.args.w.index c.args.store.now.cells) (sym c.new-none.ensures.items) tt

pub returns-in-Cell-clause-made : goal.returns-in-Cell-clause-made
returns-in-Cell-clause-made c = λ fs r d.
    let w = c.args.w.index in
    let s = c.args.store.now in
    let t = c.make_array.new.store in
    ap (λ u. with_counts u d)
    (made_told (new_array 0 []) 0 (image fs r w s) (image fs r w t) (seen w t.cells (value.Ref c.in-Cell.id))
    (λ k. ap (λ l. make_array (all_seen w s.cells l) 0 (image fs r w s) k) (sym c.new-none.ensures.items) ∙ c.in_ok-id.ensures.plan fs r k ∙ ap (λ m. made_plan w t.cells m k (image fs r w t)) c.in-Cell.is)).1

pub returns-in-Cell-clause-number : goal.returns-in-Cell-clause-number
returns-in-Cell-clause-number c = λ fs r.
    let w = c.args.w.index in
    let s = c.args.store.now in
    let t = c.make_array.new.store in
    (made_told (new_array 0 []) 0 (image fs r w s) (image fs r w t) (seen w t.cells (value.Ref c.in-Cell.id))
    (λ k. ap (λ l. make_array (all_seen w s.cells l) 0 (image fs r w s) k) (sym c.new-none.ensures.items) ∙ c.in_ok-id.ensures.plan fs r k ∙ ap (λ m. made_plan w t.cells m k (image fs r w t)) c.in-Cell.is)).0

pub returns-in-Cell-clause-held : goal.returns-in-Cell-clause-held
returns-in-Cell-clause-held c = subst (IsFineMade c.args.w.index c.make_array.new.store.cells) c.in-Cell.is c.in_ok-id.ensures.fine
