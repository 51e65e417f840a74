use Rattle.std.proofs.Common.{◌≡◌, ℕ, ℤ, ◌+ℤ◌, true, ap, rules, subst, sym, ◌∙◌}
use Rattle.std.specs.Prelude.{IfSome, Option, nat_lt, unsigned_abs}
use Rattle.std.specs.Option.{option_map}
use Rattle.std.proofs.lemmas.Option.{IfSome_then}
use mir.Val.{of_z, to_z}
use mir.Syntax.{w64}
use Rattle.object_store.specs.Owned.{scope_number}
use Rattle.widget_meaning.specs.Limits.{past_numbers}
use Rattle.widget_meaning.specs.Values as meaning
use Rattle.widget_meaning.specs.Scopes.{assign, variable}
use Rattle.js_image.specs.Held.{IsPlaceScope}
use Rattle.js_image.specs.Image.{image}
use Rattle.js_image.proofs.Sums.{added_kept, added_plan, had}
use Rattle.js_image.proofs.writing.add_to.Goals as goal

pub returns-in-Some-clause-had : goal.returns-in-Some-clause-had
returns-in-Some-clause-had c =
    let w = c.args.w in
    let s = c.args.store.now in
    let near = to_z w64 (of_z w64 c.args.by) in
    let own = subst (λ (o : Option ℕ). IsPlaceScope w s.cells o) c.in-Some.is c.requires.scope in
    IfSome_then c.var_add.result c.var_add.ensures.some (λ z added fs r d confined.
    ap (λ (o : Option ℕ). variable (image fs r w s) (record { scope = option_map (scope_number w s.cells) o; depth = d }) c.args.name.now) c.in-Some.is
    ∙ had w s c.var_add.new.self c.lawful.ensures c.args.name.now c.in-Some.from own near fs r d confined z added)

pub returns-in-Some-clause-within : goal.returns-in-Some-clause-within
returns-in-Some-clause-within c =
    let near = to_z w64 (of_z w64 c.args.by) in
    let same : near ≡ c.args.by = search rules in
    subst (λ (y : ℤ). IfSome c.var_add.result (λ z. nat_lt (unsigned_abs (z +ℤ y)) past_numbers ≡ true)) same
    (IfSome_then c.var_add.result c.var_add.ensures.some (λ z added. added.within))

pub returns-in-Some-clause-plan : goal.returns-in-Some-clause-plan
returns-in-Some-clause-plan c =
    let w = c.args.w in
    let s = c.args.store.now in
    let near = to_z w64 (of_z w64 c.args.by) in
    let own = subst (λ (o : Option ℕ). IsPlaceScope w s.cells o) c.in-Some.is c.requires.scope in
    let same : near ≡ c.args.by = search rules in
    IfSome_then c.var_add.result (added_plan w s c.var_add.new.self c.lawful.ensures c.args.name.now c.in-Some.from own near c.var_add.result c.var_add.ensures.some c.var_add.ensures.own) (λ z is fs r d confined.
    is fs r d confined
    ∙ ap (λ (o : Option ℕ). assign (image fs r w s) (record { scope = option_map (scope_number w s.cells) o; depth = d }) c.args.name.now (meaning.Num (z +ℤ near))) (sym c.in-Some.is)
    ∙ ap (λ (y : ℤ). assign (image fs r w s) (record { scope = option_map (scope_number w s.cells) c.args.scope; depth = d }) c.args.name.now (meaning.Num (z +ℤ y))) same)

pub returns-in-Some-clause-kept : goal.returns-in-Some-clause-kept
returns-in-Some-clause-kept c = λ fs confined.
    let w = c.args.w in
    let s = c.args.store.now in
    let near = to_z w64 (of_z w64 c.args.by) in
    let own = subst (λ (o : Option ℕ). IsPlaceScope w s.cells o) c.in-Some.is c.requires.scope in
    added_kept w s c.var_add.new.self c.lawful.ensures c.args.name.now c.in-Some.from own near c.var_add.result c.var_add.ensures.some c.var_add.ensures.none c.var_add.ensures.own c.var_add.ensures.grows c.var_add.ensures.others fs confined
