use Rattle.std.proofs.Common.{◌≡◌, ◌+ℤ◌, ℤ, ap, rules, sym, ◌∙◌}
use mir.Val.{of_z, to_z}
use mir.Syntax.{w64}
use Rattle.std.specs.Prelude.{nat_lt, unsigned_abs}
use Rattle.std.proofs.lemmas.Int.{to_z-of_z}
use Rattle.widget_meaning.specs.Limits.{past_numbers}
use Rattle.widget_meaning.specs.Scopes.{assign}
use Rattle.widget_meaning.specs.Values.{Num}
use Rattle.js_image.specs.Image.{image}
use Rattle.js_names.specs.Code.{trees_of}
use Rattle.js_flow.specs.Views.{place_of}
use Rattle.js_direct.proofs.Adding.{within_fits}
use Rattle.js_direct.proofs.summing.sum_at.Goals as goal

pub overflow_add-result : goal.overflow_add-result
overflow_add-result c =
    let z = c.in_ok-z.z in
    let near = to_z w64 (of_z w64 z) in
    let by = to_z w64 (of_z w64 c.args.by) in
    let z_same : near ≡ z = search rules in
    within_fits (near +ℤ by) (ap (λ (k : ℤ). nat_lt (unsigned_abs (k +ℤ by)) past_numbers) z_same ∙ c.in_ok-z.ensures.within)

pub returns-clause-sum : goal.returns-clause-sum
returns-clause-sum c =
    let fs = trees_of c.args.here.now.site.now.codes.now.items in
    let w = c.args.here.now.site.now.widget in
    let s = c.args.store.now in
    let depth = c.args.here.now.at.depth in
    let z = c.in_ok-z.z in
    let near = to_z w64 (of_z w64 z) in
    let by = to_z w64 (of_z w64 c.args.by) in
    let z_same : near ≡ z = search rules in
    let by_same : by ≡ c.args.by = search rules in
    let fits = within_fits (near +ℤ by) (ap (λ (k : ℤ). nat_lt (unsigned_abs (k +ℤ by)) past_numbers) z_same ∙ c.in_ok-z.ensures.within) in
    let same = to_z-of_z w64 (near +ℤ by) fits ∙ ap (λ (k : ℤ). k +ℤ by) z_same in
    λ r. record {
      had = z;
      has = c.in_ok-z.ensures.had fs r depth c.requires.confined;
      is = same ∙ ap (λ (k : ℤ). z +ℤ k) by_same;
      within = ap (λ (k : ℤ). nat_lt (unsigned_abs k) past_numbers) same ∙ c.in_ok-z.ensures.within;
      written = c.in_ok-z.ensures.plan fs r depth c.requires.confined ∙ ap (λ (k : ℤ). assign (image fs r w s) (place_of w s.cells c.args.here.now.at) c.args.name.now (Num k)) (sym same);
    }

pub returns-clause-kept : goal.returns-clause-kept
returns-clause-kept c = c.add_to.ensures.kept (trees_of c.args.here.now.site.now.codes.now.items) c.requires.confined
