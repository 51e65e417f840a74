use Rattle.std.proofs.Common.{ℕ, ap, subst, sym, ◌∙◌}
use Rattle.std.specs.Prelude.{Option}
use Rattle.std.specs.Option.{option_map}
use Rattle.object_store.specs.Owned.{scope_number}
use Rattle.widget_meaning.specs.Scopes.{assign}
use Rattle.js_image.specs.Held.{IsPlaceScope}
use Rattle.js_image.specs.Image.{image, seen}
use Rattle.js_image.proofs.Writes.{set_is, set_kept}
use Rattle.js_image.proofs.writing.assign.Goals as goal

pub returns-in-Some-clause-plan : goal.returns-in-Some-clause-plan
returns-in-Some-clause-plan c = λ fs r d confined.
    set_is fs c.args.w c.args.store.now c.var_set.new.self c.lawful.ensures c.args.name.now c.args.value c.in-Some.from c.var_set.ensures.done r confined (c.var_set.ensures.own c.args.w) (subst (λ (o : Option ℕ). IsPlaceScope c.args.w c.args.store.now.cells o) c.in-Some.is c.requires.scope)
    ∙ ap (λ (o : Option ℕ). assign (image fs r c.args.w c.args.store.now) (record { scope = option_map (scope_number c.args.w c.args.store.now.cells) o; depth = d }) c.args.name.now (seen c.args.w c.args.store.now.cells c.args.value)) (sym c.in-Some.is)

pub returns-in-Some-clause-kept : goal.returns-in-Some-clause-kept
returns-in-Some-clause-kept c = λ fs confined.
    set_kept fs c.args.w c.args.store.now c.var_set.new.self c.lawful.ensures c.args.name.now c.args.value c.in-Some.from c.var_set.ensures.done (subst (λ (o : Option ℕ). IsPlaceScope c.args.w c.args.store.now.cells o) c.in-Some.is c.requires.scope) c.requires.value (c.var_set.ensures.own c.args.w) c.var_set.ensures.grows c.var_set.ensures.others confined
