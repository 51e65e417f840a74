use Rattle.std.proofs.Common.{◌≡◌, ℕ, ◌+◌, List, sym, ap, ◌∙◌, drop}
use Rattle.store_cells.specs.declared.value.Value.{Value as StoreValue}
use Rattle.widget_meaning.specs.Values.{to_text}
use Rattle.js_image.specs.Image.{all_seen, seen}
use Rattle.native_common.proofs.Loops.{stepped}
use Rattle.std.proofs.lemmas.Result.{IfOk-weaker}
use Rattle.std.specs.List.{flat_map}
use Rattle.std.proofs.Common.{◌++◌, append_assoc}
use Rattle.std.proofs.lemmas.List.{append-nil, at_drop_all}
use Rattle.store_cells.specs.Cells.{PlainCell}
use Rattle.text_methods.proofs.joining.joined.Goals as goal

pub loop-v-preserved : goal.loop-v-preserved
loop-v-preserved c =
    λ w cells.
    ap (λ (us : List ℕ). us ++ (λ (xs : List StoreValue). flat_map to_text (all_seen w cells xs)) (drop (c.loop-v.v-index + 1) c.args.args.now)) (c.in_ok-push_text.ensures w cells)
    ∙ append_assoc c.loop-v.units.items (to_text (seen w cells c.v-item.result)) ((λ (xs : List StoreValue). flat_map to_text (all_seen w cells xs)) (drop (c.loop-v.v-index + 1) c.args.args.now))
    ∙ ap (λ (us : List ℕ). c.loop-v.units.items ++ us) (sym (stepped (λ (xs : List StoreValue). flat_map to_text (all_seen w cells xs)) c.args.args.now c.loop-v.v-index c.v-item.result c.loop-v-test.true c.v-item.is))
    ∙ c.loop-v.invariant w cells

pub returns : goal.returns
returns c =
    IfOk-weaker c.from_units.result (λ t. t ≡ c.loop-v.units.items) (λ t. (w : ℕ) (cells : List PlainCell) → t ≡ c.args.t.now ++ (λ (xs : List StoreValue). flat_map to_text (all_seen w cells xs)) c.args.args.now)
    (λ t h w cells. h ∙ sym (append-nil c.loop-v.units.items) ∙ ap (λ (us : List ℕ). c.loop-v.units.items ++ us) (sym (at_drop_all (λ (xs : List StoreValue). flat_map to_text (all_seen w cells xs)) c.args.args.now c.loop-v.v-index c.loop-v-test.false)) ∙ c.loop-v.invariant w cells)
    c.from_units.ensures
