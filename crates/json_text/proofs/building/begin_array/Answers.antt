use Rattle.std.proofs.Common.{[], refl, ◌∙◌}
use Rattle.std.proofs.lemmas.Result.{IfOk-weaker}
use Rattle.widget_meaning.specs.OwnState.{new_array}
use Rattle.widget_meaning.specs.Costs.{give}
use Rattle.js_image.specs.Image.{image}
use Rattle.json_text.proofs.Born.{begun}
use Rattle.json_text.proofs.building.begin_array.Goals as goal

pub returns-in_err-make-clause-kept : goal.returns-in_err-make-clause-kept
returns-in_err-make-clause-kept c = λ fs. c.make.ensures.kept fs tt

pub returns-clause-begun : goal.returns-clause-begun
returns-clause-begun c = IfOk-weaker c.made.result _ _ (λ v h. λ fs r.
    begun fs r c.args.w.index c.args.store.now c.make.new.store v (new_array 0 []) 0 refl refl
    (c.in_ok-make.ensures.plan fs r give ∙ h c.args.w.index c.make.new.store.cells give (image fs r c.args.w.index c.make.new.store))) c.made.ensures.plan

pub returns-clause-kept : goal.returns-clause-kept
returns-clause-kept c = λ fs. c.make.ensures.kept fs tt
