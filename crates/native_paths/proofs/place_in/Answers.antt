use Rattle.std.proofs.Common.{◌∙◌, ap, sym, subst, ◌≤◌, ◌-◌, length, option_map, slice_index_or}
use Rattle.std.proofs.lemmas.List.{get_or-map, length-map}
use Rattle.native_paths.specs.Paths.{path_to, paths}
use Rattle.native_paths.proofs.Found.{says, says_none, says_none_behind}
use Rattle.native_paths.proofs.place_in.Goals as goal

pub returns-in_err-before : goal.returns-in_err-before
returns-in_err-before c =
    says_none c.args.native (option_map (λ place. path_to place.0 place.1.now) c.from_residual.result)
    (λ some. c.in_err-before.ensures (subst (λ k. 1 ≤ k) (sym c.number.ensures) some))

pub returns-in_err-home : goal.returns-in_err-home
returns-in_err-home c =
    let before = c.in_ok-before.ensures.1 ∙ ap (λ k. k - 1) c.number.ensures in
    let many = sym (length-map c.args.rows.now (λ row. path_to row.0 row.1.now)) ∙ ap length c.requires in
    says_none_behind c.args.native (option_map (λ place. path_to place.0 place.1.now) c.from_residual-in_err-home.result)
    (subst (λ k. length paths ≤ k) before (subst (λ k. k ≤ c.in_ok-before.before) many c.in_err-home.ensures.lookup.3))

pub returns : goal.returns
returns c =
    let row = c.in_ok-home.field-0.now in
    let path = path_to row.0 row.1.now in
    says c.args.native path (ap (λ r. path_to r.0 r.1.now) (c.in_ok-home.ensures.lookup.3.1 row)
    ∙ (sym (get_or-map (λ r. path_to r.0 r.1.now) c.args.rows.now c.in_ok-before.before row path c.in_ok-home.ensures.lookup.3.0)
    ∙ (ap (λ ps. slice_index_or ps c.in_ok-before.before path) c.requires
    ∙ ap (λ i. slice_index_or paths i path) (c.in_ok-before.ensures.1 ∙ ap (λ k. k - 1) c.number.ensures))))
