use Rattle.std.proofs.Common.{◌∙◌, false, sym, ap, length, subst, List, ℕ, filter, []}
use Rattle.store_cells.specs.declared.value.Value.{Value}
use Rattle.store_cells.specs.Arrays.{is_below}
use Rattle.store_cells.specs.Numbered.{found_in, live, name_at, recounted, references_in, refers_at}
use Rattle.store_cells.specs.Shape.{IsIndexed, Known}
use Rattle.store_cells.proofs.Indexed.{known_remove, none_past, popped_below, popped_filter, popped_indexed}
use Rattle.store_cells.proofs.Referring.{popped_gone}
use Rattle.store_cells.proofs.pairs.cut.Goals as goal

pub loop-k-preserved : goal.loop-k-preserved
loop-k-preserved c =
    let n = c.args.n in
    let k = c.in-Some.k in
    let old = c.loop-k.elements in
    let new = c.pop_past.new.self in
    let popped = c.in-Some.ensures.popped in
    let es = live c.loop-k.table.entries in
    let done = c.take_out.ensures.done in
    record {
      full = c.take_out.ensures.full;
      elements = popped_below [] n k old new popped ∙ c.loop-k.invariant.elements;
      entries = λ names known indexed.
          let i = c.loop-k.invariant.entries names known indexed in (
            subst (Known (length names)) (sym done) (known_remove (length names) k es i.0),
            subst (λ (l : List (ℕ × Value)). IsIndexed names (found_in new) l) (sym done) (popped_indexed names n k old new popped es c.take_out.ensures.distinct i.1),
            ap (filter (λ e. is_below n (name_at names e.0))) done ∙ popped_filter names n k old new popped es i.1 ∙ i.2,
          );
      count = λ names known indexed counted.
          let i = c.loop-k.invariant.entries names known indexed in
          c.discount.ensures
          ∙ ap (recounted (refers_at k es) false) (c.loop-k.invariant.count names known indexed counted)
          ∙ popped_gone names k popped.at (i.1.named popped.at k popped.was) es
          ∙ ap (references_in names) (sym done);
    }

pub returns-clause-entries : goal.returns-clause-entries
returns-clause-entries c = λ names known indexed.
    let i = c.loop-k.invariant.entries names known indexed in
    none_past names c.args.n (found_in c.loop-k.elements) c.in_default.ensures.popped.1.found (live c.loop-k.table.entries) i.1.noted ∙ i.2
