use Rattle.std.proofs.Common.{◌<◌, List, ℕ, ◌++◌, ap, ◌∙◌, sym, arith, length}
use Rattle.std.specs.Prelude.{option_to_list}
use Rattle.store_cells.specs.Holes.{place_key}
use Rattle.store_cells.proofs.Live.{listing_more}
use Rattle.store_cells.proofs.pairs.keys.Goals as goal

pub loop-at-preserved : goal.loop-at-preserved
loop-at-preserved c =
    let es = c.args.table.now.entries in
    let lt : c.loop-at.at < length es = omega (arith, c.len-at-end.ensures.len, c.loop-at-test.true) in
    c.in_ok-push_key.ensures
    ∙ ap (λ (l : List (List ℕ)). l ++ option_to_list (place_key c.args.names.now c.args.array es c.loop-at.at)) c.loop-at.invariant
    ∙ sym (listing_more c.args.names.now c.args.array es c.loop-at.at c.requires lt)
