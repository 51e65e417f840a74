use Rattle.std.proofs.Common.{refl, sym, ap, ◌∙◌, subst}
use Rattle.widget_meaning.specs.Values.{Undefined}
use Rattle.widget_meaning.specs.Plan.{Plan}
use Rattle.widget_meaning.specs.Costs.{give}
use Rattle.widget_meaning.specs.Properties.{delete}
use Rattle.js_values.specs.Answers.{Leaves}
use Rattle.js_image.specs.Image.{image, seen}
use Rattle.adsafe_object.specs.Names.{named_plan}
use Rattle.adsafe_object.proofs.properties.remove.Goals as goal

pub returns-in-Name-clause-ends : goal.returns-in-Name-clause-ends
returns-in-Name-clause-ends c =
    let s = c.args.store.now in
    let t = c.remove.new.store in
    let w = c.args.w.index in record {
      leaves = λ fs r node d. subst (λ (q : Plan). Leaves (seen w t.cells) node d c.removed.result (image fs r w t) q)
          (sym (c.in_ok-fault.ensures w s.cells (image fs r w s) (λ x. delete (seen w s.cells c.args.object.now) x (image fs r w s) (λ b. give Undefined))
          ∙ ap (λ n. named_plan n (image fs r w s) (λ x. delete (seen w s.cells c.args.object.now) x (image fs r w s) (λ b. give Undefined))) c.in-Name.is
          ∙ c.remove.ensures.plan fs r (λ b. give Undefined)))
          (c.removed.ensures.leaves (seen w t.cells) node d (image fs r w t) refl);
      fine = c.removed.ensures.fine w t.cells;
      kept = c.remove.ensures.kept;
    }
