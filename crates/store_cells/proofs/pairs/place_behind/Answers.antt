use Rattle.std.proofs.Common.{◌≡◌, ◌+◌, ◌-◌, ◌<◌, ◌∙◌, ap, arith, drop, length, slice_get, suc, sym}
use Rattle.store_cells.specs.Numbered.{live}
use Rattle.store_cells.proofs.Live.{first_pair, next_hole, next_pair, past_all}
use Rattle.store_cells.proofs.pairs.place_behind.Goals as goal
use Rattle.store_cells.proofs.pairs.place_behind.Goals.{then-is_pair+else-left-eq0, else-is_pair}

pub returns-then-left-eq0 : goal.returns-then-left-eq0
returns-then-left-eq0 c =
    let es = c.args.table.now.entries in
    first_pair es c.loop-place.place (sym c.is_pair.ensures ∙ c.if-is_pair.true) ∙ ap (slice_get (live (drop c.loop-place.place es))) (sym c.if-left-eq0.true) ∙ c.loop-place.invariant

pub loop-place-preserved : goal.loop-place-preserved
loop-place-preserved c =
    let es = c.args.table.now.entries in
    let k = c.loop-place.place in
    let left = c.loop-place.left in
    let more : k + 1 ≡ suc k = omega arith in
    let lt : k < length es = omega (arith, c.len-place-end.ensures.len, c.loop-place-test.true) in
    elim c.if-is_pair.branch [
      | then-is_pair+else-left-eq0 w ↦
          let less : suc (left - 1) ≡ left = omega (arith, w.if-left-eq0.false) in
          (λ j. slice_get (live (drop (more j) es)) (w.left-is j))
          ∙ next_pair es k (left - 1) (sym c.is_pair.ensures ∙ w.if-is_pair.true)
          ∙ ap (slice_get (live (drop k es))) less
          ∙ c.loop-place.invariant
      | else-is_pair w ↦
          (λ j. slice_get (live (drop (more j) es)) (w.left-is j))
          ∙ ap (λ l. slice_get l left) (next_hole es k (sym c.is_pair.ensures ∙ w.if-is_pair.false) lt)
          ∙ c.loop-place.invariant
    ]

pub returns : goal.returns
returns c =
    let es = c.args.table.now.entries in
    let k = c.loop-place.place in
    let end : k ≡ length es = omega (arith, c.len-place-end.ensures.len, c.loop-place-test.false, c.loop-place.auto.place-end) in
    let here : c.len.result ≡ k = omega (arith, c.len.ensures.len, end) in
    ap (slice_get es) here ∙ past_all es k c.loop-place.left end ∙ c.loop-place.invariant
