use Rattle.std.proofs.Common.{[], refl, sym, ap, ◌∙◌}
use Rattle.std.proofs.lemmas.Result.{IfOk-weaker}
use Rattle.permitted_table.specs.declared.native.HostEntry.TheVariants as entry
use Rattle.store_cells.specs.declared.value.Value.TheVariants as value
use Rattle.widget_meaning.specs.OwnState.{new_object, plain_object}
use Rattle.widget_meaning.specs.Costs.{give, make}
use Rattle.js_image.specs.Image.{image, seen}
use Rattle.js_image.proofs.Hosts.{entry_link}
use Rattle.json_text.proofs.Born.{begun}
use Rattle.json_text.proofs.building.begin_object.Goals as goal

pub returns-in_err-make-clause-kept : goal.returns-in_err-make-clause-kept
returns-in_err-make-clause-kept c = λ fs. c.make.ensures.kept fs tt

pub returns-clause-begun : goal.returns-clause-begun
returns-clause-begun c = IfOk-weaker c.made.result _ _ (λ v h. λ fs r.
    begun fs r c.args.w.index c.args.store.now c.make.new.store v (plain_object []) 0 refl refl
    (ap (λ u. make (new_object u []) 0 (image fs r c.args.w.index c.args.store.now) give) (sym (ap (λ k. seen c.args.w.index c.args.store.now.cells (value.Ref k)) c.host-proto.ensures.place ∙ entry_link c.args.w.index c.args.store.now.cells c.lawful.ensures entry.ObjectPrototype))
    ∙ c.in_ok-make.ensures.plan fs r give ∙ h c.args.w.index c.make.new.store.cells give (image fs r c.args.w.index c.make.new.store))) c.made.ensures.plan

pub returns-clause-kept : goal.returns-clause-kept
returns-clause-kept c = λ fs. c.make.ensures.kept fs tt
