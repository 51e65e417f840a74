-- Conversions of values, and the text of a primitive.
use Rattle.std.proofs.Common.{◌≡◌, ℕ, ◌+◌, Bool, true, false, List, [], length, refl, sym, ap, ◌∙◌, Some, codes, if◌then◌else◌, arith}
use Rattle.store_cells.specs.declared.value.Value.{Value as Stored}
use Rattle.store_cells.specs.declared.value.Value.TheVariants as value
use Rattle.store_cells.specs.declared.value.Number.TheVariants as number
use Rattle.store_cells.specs.Cells.{PlainCell, own_count}
use Rattle.object_store.specs.Owned as store
use Rattle.object_store.specs.Owned.{visible_at}
use Rattle.widget_meaning.specs.Values.{Value, Text, E6, is_object, to_text}
use Rattle.widget_meaning.specs.OwnState.{State}
use Rattle.widget_meaning.specs.Plan.{Call, Do, charge}
use Rattle.widget_meaning.specs.Costs.{give, make_text, throw}
use Rattle.widget_meaning.specs.Properties.{get, is_function}
use Rattle.widget_meaning.specs.Calls.{call_to_string, primitive_result, to_primitive}
use Rattle.widget_meaning.specs.NativeForms.{give_text}
use Rattle.widget_meaning.specs.GlobalNatives.{text_of_primitive}
use Rattle.std.specs.Option.{option_map}
use Rattle.js_image.specs.Image.{all_seen, meant, seen}
use Rattle.js_flow.specs.declared.job.Call.{Call as Job}
use Rattle.js_values.specs.Operands.{IsPrimitive, plain}

module _ (v : Value) (d : ℕ) (s : State) where
  pub stays_primitive : is_object v ≡ false → give v s ≡ to_primitive v d s
  stays_primitive h = ap (λ (b : Bool). if b then call_to_string (is_function s (get s v (codes "toString"))) (get s v (codes "toString")) v d s else give v s) (sym h)

  called_string : (b : Bool) (f : Value) → is_object v ≡ true → f ≡ get s v (codes "toString") → is_function s f ≡ b → call_to_string b f v d s ≡ to_primitive v d s
  called_string b f o e c =
      (λ i. call_to_string (sym c i) f v d s)
      ∙ ap (λ g. call_to_string (is_function s g) g v d s) e
      ∙ ap (λ (q : Bool). if q then call_to_string (is_function s (get s v (codes "toString"))) (get s v (codes "toString")) v d s else give v s) (sym o)

  pub no_string : (f : Value) → is_object v ≡ true → f ≡ get s v (codes "toString") → is_function s f ≡ false → throw E6 s ≡ to_primitive v d s
  no_string f o e c = called_string false f o e c

  pub string_called : (f : Value) → is_object v ≡ true → f ≡ get s v (codes "toString") → is_function s f ≡ true → Do (Call f (Some v) [] d) s primitive_result ≡ to_primitive v d s
  string_called f o e c = called_string true f o e c

-- what a `toString` gave
pub object_thrown : (v : Value) (s : State) → is_object v ≡ true → throw E6 s ≡ (if is_object v then throw E6 s else give v s)
object_thrown v s h = ap (λ (b : Bool). if b then throw E6 s else give v s) (sym h)

pub primitive_given : (v : Value) (s : State) → is_object v ≡ false → give v s ≡ (if is_object v then throw E6 s else give v s)
primitive_given v s h = ap (λ (b : Bool). if b then throw E6 s else give v s) (sym h)

-- a text that is made costs its units
pub made_is : (t x : List ℕ) (s : State) → t ≡ x → charge (length t) s (make_text t s (give (Text t))) ≡ give_text 0 x s
made_is t x s e = (λ i. charge (length (e i)) s (make_text (e i) s (give (Text (e i))))) ∙ ap (λ n. charge n s (make_text x s (give (Text x)))) (more (length x))
  where
    more : (n : ℕ) → n ≡ 0 + n
    more n = omega arith

-- an object has no text
pub object_text : (w : ℕ) (cells : List PlainCell) (i : ℕ) (s : State) → text_of_primitive (seen w cells (value.Ref i)) s ≡ give_text 0 [] s
object_text w cells i s = by (visible_at w cells i)
  where
    by : (b : Bool) → text_of_primitive (meant (if b then store.Own (own_count w cells i) else store.Other i)) s ≡ give_text 0 [] s
    by true = refl
    by false = refl

-- another primitive has the text of its value
pub other_text : (w : ℕ) (cells : List PlainCell) (v : Stored) (s : State) → IsPrimitive v → ((t : List ℕ) → v ≡ value.Text t → ⊥) → text_of_primitive (seen w cells v) s ≡ give_text 0 (to_text (plain v)) s
other_text w cells value.Undefined s p h = refl
other_text w cells value.Null s p h = refl
other_text w cells (value.Bool b) s p h = refl
other_text w cells (value.Num number.NaN) s p h = refl
other_text w cells (value.Num (number.Whole z)) s p h = refl
other_text w cells (value.Text t) s p h = absurd (h t refl)
other_text w cells (value.Ref i) s p h = absurd p

pub primitive_else : (v : Stored) → ((i : ℕ) → v ≡ value.Ref i → ⊥) → IsPrimitive v
primitive_else value.Undefined h = tt
primitive_else value.Null h = tt
primitive_else (value.Bool b) h = tt
primitive_else (value.Num n) h = tt
primitive_else (value.Text t) h = tt
primitive_else (value.Ref i) h = absurd (h i refl)

-- the call of a `toString`
pub string_job : (w : ℕ) (cells : List PlainCell) (c : Job) (f v : Stored) (d : ℕ) → c.func ≡ f → c.this ≡ Some v → c.args.items ≡ [] → c.depth ≡ d
    → Call (seen w cells c.func) (option_map (seen w cells) c.this) (all_seen w cells c.args.items) c.depth ≡ Call (seen w cells f) (Some (seen w cells v)) [] d
string_job w cells c f v d a b e g = λ i. Call (seen w cells (a i)) (option_map (seen w cells) (b i)) (all_seen w cells (e i)) (g i)
