use Rattle.std.proofs.Common.{◌≡◌, ℕ, ◌+◌, List, ap, ◌∙◌, arith, length, drop}
use Rattle.store_cells.specs.declared.value.Value.{Value as StoreValue}
use Rattle.widget_meaning.specs.Values.{to_text}
use Rattle.js_image.specs.Image.{all_seen, seen}
use Rattle.native_common.specs.Numbers.{counted}
use Rattle.native_common.proofs.Loops.{counted_all, counted_more, stepped}
use Rattle.std.proofs.Common.{length-append}
use Rattle.std.specs.List.{flat_map}
use Rattle.std.proofs.lemmas.List.{at_drop_all}
use Rattle.text_methods.proofs.joining.texts_len.Goals as goal

pub loop-v-preserved : goal.loop-v-preserved
loop-v-preserved c =
    record {
      small = omega arith;
      rest = λ w cells.
          let text : c.in_ok-read_text.field-0 ≡ to_text (seen w cells c.v-item.result) = c.in_ok-read_text.ensures w cells in
          let u : c.text_len-in-loop-v.result ≡ counted (length (to_text (seen w cells c.v-item.result))) = c.text_len-in-loop-v.ensures.counted ∙ ap (λ (t : List ℕ). counted (length t)) text in
          counted_more c.loop-v.n c.text_len-in-loop-v.result (length (to_text (seen w cells c.v-item.result))) c.saturating_add-n.result ((λ (xs : List StoreValue). length (flat_map to_text (all_seen w cells xs))) (drop c.loop-v.v-index c.args.args.now)) ((λ (xs : List StoreValue). length (flat_map to_text (all_seen w cells xs))) (drop (c.loop-v.v-index + 1) c.args.args.now)) ((λ (xs : List StoreValue). length (flat_map to_text (all_seen w cells xs))) c.args.args.now)
          u c.saturating_add-n.ensures
          (stepped (λ (xs : List StoreValue). length (flat_map to_text (all_seen w cells xs))) c.args.args.now c.loop-v.v-index c.v-item.result c.loop-v-test.true c.v-item.is ∙ length-append (to_text (seen w cells c.v-item.result)) (flat_map to_text (all_seen w cells (drop (c.loop-v.v-index + 1) c.args.args.now))))
          (c.loop-v.invariant.rest w cells);
    }

pub returns : goal.returns
returns c =
    λ w cells. counted_all c.loop-v.n ((λ (xs : List StoreValue). length (flat_map to_text (all_seen w cells xs))) (drop c.loop-v.v-index c.args.args.now)) ((λ (xs : List StoreValue). length (flat_map to_text (all_seen w cells xs))) c.args.args.now) c.loop-v.invariant.small
    (at_drop_all (λ (xs : List StoreValue). length (flat_map to_text (all_seen w cells xs))) c.args.args.now c.loop-v.v-index c.loop-v-test.false) (c.loop-v.invariant.rest w cells)
