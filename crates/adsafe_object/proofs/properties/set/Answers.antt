use Rattle.std.proofs.Common.{refl, sym, ap, ◌∙◌, subst}
use Rattle.widget_meaning.specs.Values.{Undefined}
use Rattle.widget_meaning.specs.Plan.{Plan}
use Rattle.widget_meaning.specs.Costs.{give}
use Rattle.widget_meaning.specs.Properties.{put}
use Rattle.js_values.specs.Answers.{Leaves}
use Rattle.js_image.specs.Image.{image, seen}
use Rattle.adsafe_object.specs.Names.{named_plan}
use Rattle.adsafe_object.proofs.properties.set.Goals as goal

pub returns-in_ok-put-in-Name-clause-ends : goal.returns-in_ok-put-in-Name-clause-ends
returns-in_ok-put-in-Name-clause-ends c =
    let s = c.args.store.now in
    let t = c.put.new.store in
    let w = c.args.w.index in record {
      leaves = λ fs r node d. subst (λ (q : Plan). Leaves (seen w t.cells) node d c.written.result (image fs r w t) q)
          (sym (c.in_ok-fault.ensures w s.cells (image fs r w s) (λ x. put (seen w s.cells c.args.object.now) x (seen w s.cells c.args.value.now) (image fs r w s) (give Undefined))
          ∙ ap (λ n. named_plan n (image fs r w s) (λ x. put (seen w s.cells c.args.object.now) x (seen w s.cells c.args.value.now) (image fs r w s) (give Undefined))) c.in-Name.is
          ∙ ap (λ v. put (seen w s.cells c.args.object.now) c.in-Name.name (seen w s.cells v) (image fs r w s) (give Undefined)) (sym c.in_ok-value-in-Name.ensures)
          ∙ c.in_ok-put-in-Name.ensures.plan fs r (give Undefined)))
          (c.written.ensures.leaves (seen w t.cells) node d (image fs r w t) refl);
      fine = c.written.ensures.fine w t.cells;
      kept = c.in_ok-put-in-Name.ensures.kept;
    }
