use Rattle.std.proofs.Common.{◌≡◌, List, ap, sym, ◌∙◌, arith, map, subst, true}
use Rattle.std.specs.Prelude.{nat_lt, ◌&&◌, codes}
use Rattle.std.specs.List.{fold, list_all}
use Rattle.store_cells.specs.declared.value.Value.TheVariants as value
use Rattle.store_cells.specs.declared.value.Number.TheVariants as number
use Rattle.store_cells.specs.Cells.{PlainCell}
use Rattle.store_table.specs.Bare.{given}
use Rattle.store_table.specs.Bare.{no_arrays, with_gifts}
use Rattle.store_table.proofs.Gifts.{same_length, on_ok_then}
use Rattle.store_table.proofs.host.give_all.Goals as goal

pub give-requires-clause-at : goal.give-requires-clause-at
give-requires-clause-at c = omega (arith, c.requires.size, same_length c.give_natives.new.cells.items c.args.cells.now.items c.in_ok-give_natives.ensures.heads, c.give_natives.new.cells.ok.0)

pub give-requires-clause-base : goal.give-requires-clause-base
give-requires-clause-base c = c.in_ok-give_natives.ensures.base

pub give-requires-clause-plain : goal.give-requires-clause-plain
give-requires-clause-plain c = ap no_arrays c.in_ok-give_natives.ensures.heads ∙ c.requires.plain

pub give-requires-2-clause-at : goal.give-requires-2-clause-at
give-requires-2-clause-at c = omega (arith, c.requires.size, same_length c.give.new.cells.items c.args.cells.now.items (c.in_ok-give.ensures.heads ∙ c.in_ok-give_natives.ensures.heads), c.give.new.cells.ok.0)

pub give-requires-2-clause-base : goal.give-requires-2-clause-base
give-requires-2-clause-base c = c.in_ok-give.ensures.base

pub give-requires-2-clause-plain : goal.give-requires-2-clause-plain
give-requires-2-clause-plain c = ap no_arrays (c.in_ok-give.ensures.heads ∙ c.in_ok-give_natives.ensures.heads) ∙ c.requires.plain

pub give_references-requires-clause-rows : goal.give_references-requires-clause-rows
give_references-requires-clause-rows c =
    let same = same_length c.give-2.new.cells.items c.args.cells.now.items (c.in_ok-give-2.ensures.heads ∙ c.in_ok-give.ensures.heads ∙ c.in_ok-give_natives.ensures.heads) in
    subst (λ n. list_all (λ r. nat_lt r.0 n && nat_lt r.2 n) c.args.references.now ≡ true) (sym same) c.requires.references

pub give_references-requires-clause-base : goal.give_references-requires-clause-base
give_references-requires-clause-base c = c.in_ok-give-2.ensures.base

pub give_references-requires-clause-plain : goal.give_references-requires-clause-plain
give_references-requires-clause-plain c = ap no_arrays (c.in_ok-give-2.ensures.heads ∙ c.in_ok-give.ensures.heads ∙ c.in_ok-give_natives.ensures.heads) ∙ c.requires.plain

pub returns-clause-base : goal.returns-clause-base
returns-clause-base c = c.give_references.ensures.base

pub returns-clause-heads : goal.returns-clause-heads
returns-clause-heads c = on_ok_then c.give_references.result _ _ _ c.give_references.ensures.heads (c.in_ok-give-2.ensures.heads ∙ c.in_ok-give.ensures.heads ∙ c.in_ok-give_natives.ensures.heads)

pub returns-clause-done : goal.returns-clause-done
unfolding with_gifts
returns-clause-done c =
    let one = c.in_ok-give.ensures.done ∙ ap (λ (cs : List PlainCell). given cs (0, codes "undefined", value.Undefined)) c.in_ok-give_natives.ensures.done in
    let two = c.in_ok-give-2.ensures.done ∙ ap (λ (cs : List PlainCell). given cs (0, codes "NaN", value.Num number.NaN)) one in
    on_ok_then c.give_references.result _ _ _ c.give_references.ensures.done (ap (λ (cs : List PlainCell). fold given cs (map (λ r. (r.0, r.1.now, value.Ref r.2)) c.args.references.now)) two)
