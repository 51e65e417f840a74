use Rattle.std.proofs.Common.{◌≡◌, ◌+◌, ◌≤◌, ℕ, None, Some, Option, arith, false, sym, ◌∙◌}
use Rattle.std.specs.Map.{lookup}
use Rattle.std.specs.Prelude.{is_some, nat_eq}
use Rattle.store_cells.specs.declared.pairs.TheConstants.{FIRST_HOLE}
use Rattle.store_cells.specs.declared.value.Value.TheVariants as value
use Rattle.store_cells.proofs.Live.{dug_found, hole_is, name_is}
use Rattle.store_cells.proofs.pairs.dig.Goals as goal

none_is : {A : Type 0} (o : Option A) → is_some o ≡ false → o ≡ None
none_is None e = cc
none_is (Some a) e = cc

pub returns-clause-dug : goal.returns-clause-dug
returns-clause-dug c = λ done.
    let es = c.args.table.now.entries in
    let hole : ℕ = FIRST_HOLE + c.in-Some.place in
    let le : FIRST_HOLE ≤ hole = omega arith in
    let absent : lookup (nat_eq hole) es ≡ None = none_is (lookup (nat_eq hole) es) (sym c.contains_key.ensures ∙ c.if-contains_key.false) in
    dug_found c.args.n hole value.Undefined es c.insert.new.self.entries c.swap_remove_index-pair.new.self.entries c.in-Some.place c.swap_remove_index-pair.result c.in-Some.ensures.at.number (name_is c.args.n c.requires) (hole_is hole le) absent c.in-Some.ensures.distinct c.in-Ok.ensures.entries c.swap_remove_index-pair.ensures.entry c.swap_remove_index-pair.ensures.entries
