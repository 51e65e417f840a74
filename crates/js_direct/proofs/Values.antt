-- Values of the store, as the meaning has them.
use Rattle.std.proofs.Common.{◌≡◌, ℕ, Bool, true, false, List, refl, ap, ◌∙◌, if◌then◌else◌}
use Rattle.js_tree.specs.declared.nodes.BinOp.{BinOp}
use Rattle.js_tree.specs.declared.nodes.BinOp.TheVariants as bin
use Rattle.js_tree.specs.declared.nodes.UnOp.{UnOp}
use Rattle.js_tree.specs.declared.nodes.UnOp.TheVariants as un
use Rattle.store_cells.specs.declared.value.Value.{Value}
use Rattle.store_cells.specs.declared.value.Value.TheVariants as value
use Rattle.store_cells.specs.declared.value.Number.TheVariants as number
use Rattle.store_cells.specs.Cells.{PlainCell}
use Rattle.widget_meaning.specs.OwnState.{State}
use Rattle.widget_meaning.specs.Operators as operators
use Rattle.widget_meaning.specs.Plan.{Place, Ret, after, and_then}
use Rattle.widget_meaning.specs.Expressions.{converted_left, is_converting, operate, result, unary_on}
use Rattle.widget_meaning.specs.Calls.{to_primitive}
use Rattle.widget_meaning.specs.Properties as properties
use Rattle.widget_meaning.specs.Values as meaning
use Rattle.js_image.specs.Image.{seen}
use Rattle.js_values.specs.Operands.{IsOperand, IsPrefixed, IsPrimitive}
use Rattle.js_expressions.proofs.Values.{read_other, stays_primitive}
use Rattle.js_direct.specs.Prefixes.{is_plain_prefix}

-- a primitive is no object
no_object : (w : ℕ) (cells : List PlainCell) (v : Value) → IsPrimitive v → meaning.is_object (seen w cells v) ≡ false
no_object w cells value.Undefined h = refl
no_object w cells value.Null h = refl
no_object w cells (value.Bool b) h = refl
no_object w cells (value.Num number.NaN) h = refl
no_object w cells (value.Num (number.Whole z)) h = refl
no_object w cells (value.Text t) h = refl
no_object w cells (value.Ref i) h = absurd h

both_primitive : (op : BinOp) (a b : meaning.Value) (d : ℕ) (s : State) → meaning.is_object a ≡ false → meaning.is_object b ≡ false → operate op a b d s ≡ result (operators.binary op a b) s
both_primitive op a b d s h k = by (is_converting op)
  where
    converted : and_then (to_primitive a d s) (converted_left op b d) ≡ result (operators.binary op a b) s
    converted =
        ap (λ p. and_then p (converted_left op b d)) (stays_primitive a d s h)
        ∙ ap (λ p. and_then p (after (λ u t. result (operators.binary op a u) t))) (stays_primitive b d s k)

    by : (c : Bool) → (if c then and_then (to_primitive a d s) (converted_left op b d) else result (operators.binary op a b) s) ≡ result (operators.binary op a b) s
    by true = converted
    by false = refl

-- an operator on operands that no call converts
pub operated : (op : BinOp) (w : ℕ) (cells : List PlainCell) (v u : Value) (d : ℕ) (s : State) → IsOperand op v → IsOperand op u → operate op (seen w cells v) (seen w cells u) d s ≡ result (operators.binary op (seen w cells v) (seen w cells u)) s
operated bin.Same w cells v u d s h k = refl
operated bin.NotSame w cells v u d s h k = refl
operated op w cells v u d s h k = both_primitive op (seen w cells v) (seen w cells u) d s (no_object w cells v h) (no_object w cells u k)

-- and a prefix operator
pub prefixed : (op : UnOp) (w : ℕ) (cells : List PlainCell) (v : Value) (p : Place) (s : State) → is_plain_prefix op ≡ true → IsPrefixed op v → unary_on op (seen w cells v) p s ≡ result (operators.unary op (seen w cells v)) s
prefixed un.Not w cells v p s e h = refl
prefixed un.Plus w cells v p s e h = ap (λ q. and_then q (after (λ u t. result (operators.unary un.Plus u) t))) (stays_primitive (seen w cells v) p.depth s (no_object w cells v h))
prefixed un.Minus w cells v p s e h = ap (λ q. and_then q (after (λ u t. result (operators.unary un.Minus u) t))) (stays_primitive (seen w cells v) p.depth s (no_object w cells v h))
prefixed un.TypeOf w cells v p s e h = absurd (no e)
  where
    no : false ≡ true → ⊥
    no x = cc
prefixed un.Delete w cells v p s e h = absurd (no e)
  where
    no : false ≡ true → ⊥
    no x = cc
prefixed un.Void w cells v p s e h = absurd (no e)
  where
    no : false ≡ true → ⊥
    no x = cc
prefixed un.BitNot w cells v p s e h = absurd (no e)
  where
    no : false ≡ true → ⊥
    no x = cc

-- a property of a cell
pub read_cell : (w : ℕ) (cells : List PlainCell) (i : ℕ) (name : List ℕ) (s : State) → properties.read (seen w cells (value.Ref i)) name s ≡ Ret (meaning.Is (properties.get s (seen w cells (value.Ref i)) name)) s
read_cell w cells i name s = read_other w cells (value.Ref i) name s (λ e. none e) (λ e. null e)
  where
    none : value.Ref i ≡ value.Undefined → ⊥
    none e = cc

    null : value.Ref i ≡ value.Null → ⊥
    null e = cc
