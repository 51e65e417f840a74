use Rattle.std.proofs.Common.{[], ◌≡◌, ℕ, ◌+◌, ◌∷◌, List, sym, ap, ◌∙◌, map, drop}
use Rattle.store_cells.specs.declared.value.Value.{Value as StoreValue}
use Rattle.widget_meaning.specs.Values.{to_number}
use Rattle.widget_meaning.specs.GlobalNatives as globals
use Rattle.js_image.specs.Image.{all_seen}
use Rattle.native_common.proofs.Loops.{stepped}
use Rattle.std.proofs.lemmas.Result.{IfOk-weaker}
use Rattle.std.proofs.Common.{◌++◌, append_assoc}
use Rattle.std.proofs.lemmas.List.{append-nil, at_drop_all}
use Rattle.store_cells.specs.Cells.{PlainCell}
use Rattle.plain_natives.proofs.codes.text_of_codes.Goals as goal

pub loop-v-preserved : goal.loop-v-preserved
loop-v-preserved c =
    λ w cells.
    ap (λ (us : List ℕ). us ++ (λ (xs : List StoreValue). map globals.code_of (map to_number (all_seen w cells xs))) (drop (c.loop-v.v-index + 1) c.args.args.now)) c.in_ok-push.ensures.items
    ∙ append_assoc c.loop-v.units.items (c.code_of.result ∷ []) ((λ (xs : List StoreValue). map globals.code_of (map to_number (all_seen w cells xs))) (drop (c.loop-v.v-index + 1) c.args.args.now))
    ∙ ap (λ u. c.loop-v.units.items ++ u ∷ (λ (xs : List StoreValue). map globals.code_of (map to_number (all_seen w cells xs))) (drop (c.loop-v.v-index + 1) c.args.args.now)) (c.code_of.ensures ∙ ap globals.code_of (c.read_number.ensures w cells))
    ∙ ap (λ (us : List ℕ). c.loop-v.units.items ++ us) (sym (stepped (λ (xs : List StoreValue). map globals.code_of (map to_number (all_seen w cells xs))) c.args.args.now c.loop-v.v-index c.v-item.result c.loop-v-test.true c.v-item.is))
    ∙ c.loop-v.invariant w cells

pub returns : goal.returns
returns c =
    IfOk-weaker c.from_units.result (λ t. t ≡ c.loop-v.units.items) (λ t. (w : ℕ) (cells : List PlainCell) → t ≡ (λ (xs : List StoreValue). map globals.code_of (map to_number (all_seen w cells xs))) c.args.args.now)
    (λ t h w cells. h ∙ sym (append-nil c.loop-v.units.items) ∙ ap (λ (us : List ℕ). c.loop-v.units.items ++ us) (sym (at_drop_all (λ (xs : List StoreValue). map globals.code_of (map to_number (all_seen w cells xs))) c.args.args.now c.loop-v.v-index c.loop-v-test.false)) ∙ c.loop-v.invariant w cells)
    c.from_units.ensures
