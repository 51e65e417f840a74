use Rattle.std.proofs.Common.{◌≡◌, ◌+◌, ◌<◌, ℕ, List, ap, sym, ◌∙◌, arith, length, subst, Bor}
use Rattle.store_cells.specs.Numbered.{NumberedCell, heads, cells_of}
use Rattle.store_cells.specs.Shape.{IsBase}
use Rattle.store_cells.specs.Host.{first_native, host_count}
use Rattle.permitted_table.specs.Natives.{number_of}
use Rattle.store_table.specs.Bare.{CodeRow, bare_numbered, bare_of, home_place, no_arrays, with_gifts}
use Rattle.store_table.proofs.Gifts.{are_words, rows_fit}
use Rattle.store_table.proofs.Firsts.{bare_base, bare_plain, first_gifts}
use Rattle.store_table.proofs.host.table_of.Goals as goal

pub give_all-requires-clause-size : goal.give_all-requires-clause-size
unfolding bare_numbered
give_all-requires-clause-size c = subst (λ (l : List NumberedCell). 0 < length l) (sym (c.in_ok-cells.ensures ∙ ap bare_of c.requires.forms)) (omega arith)

pub give_all-requires-clause-base : goal.give_all-requires-clause-base
unfolding bare_numbered
give_all-requires-clause-base c = subst (λ (l : List NumberedCell). IsBase c.in_ok-names.names l) (sym (c.in_ok-cells.ensures ∙ ap bare_of c.requires.forms)) (bare_base c.in_ok-names.names c.in_ok-names.ensures.table (are_words c.in_ok-names.names c.in_ok-names.ensures.words))

pub give_all-requires-clause-plain : goal.give_all-requires-clause-plain
unfolding bare_numbered
give_all-requires-clause-plain c = ap (λ (l : List NumberedCell). no_arrays (heads l)) (c.in_ok-cells.ensures ∙ ap bare_of c.requires.forms) ∙ bare_plain

pub give_all-requires-clause-rows : goal.give_all-requires-clause-rows
give_all-requires-clause-rows c =
    let e : length c.in_ok-cells.cells.items ≡ host_count = ap (λ (l : List NumberedCell). length l) (c.in_ok-cells.ensures ∙ ap bare_of c.requires.forms) in
    rows_fit (λ (r : CodeRow). home_place r.0) (λ (r : CodeRow). first_native + number_of r.2) c.args.rows.now (length c.in_ok-cells.cells.items) host_count e c.requires.fit_rows

pub give_all-requires-clause-references : goal.give_all-requires-clause-references
give_all-requires-clause-references c =
    let e : length c.in_ok-cells.cells.items ≡ host_count = ap (λ (l : List NumberedCell). length l) (c.in_ok-cells.ensures ∙ ap bare_of c.requires.forms) in
    rows_fit (λ (r : ℕ × Bor (List ℕ) × ℕ). r.0) (λ (r : ℕ × Bor (List ℕ) × ℕ). r.2) c.args.references.now (length c.in_ok-cells.cells.items) host_count e c.requires.fit_references

pub returns : goal.returns
unfolding bare_numbered
returns c =
    let is = c.in_ok-cells.ensures ∙ ap bare_of c.requires.forms in
    record {
      done = c.in_ok-give_all.ensures.done ∙ (λ j. with_gifts (c.requires.natives j) (c.requires.references j) (cells_of c.in_ok-names.names (is j))) ∙ first_gifts c.in_ok-names.names;
      base = c.in_ok-give_all.ensures.base;
      heads = c.in_ok-give_all.ensures.heads ∙ ap heads is;
    }
