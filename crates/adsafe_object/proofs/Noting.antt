-- What the natives that change notes do, as the meaning has it.
use Rattle.std.proofs.Common.{◌≡◌, ℕ, ℤ, ◌+◌, ◌<◌, ◌≤◌, List, [], ◌∷◌, ◌++◌, length, map, refl, sym, ap, ◌∙◌, arith, true, false, Option, None, Some, if◌then◌else◌}
use Rattle.std.specs.Prelude.{nat_le, nat_lt}
use Rattle.std.proofs.lemmas.Bool.Decides.{nat_tests}
use Rattle.std.proofs.lemmas.List.{length-map, map-append}
use Rattle.store_cells.specs.declared.value.Value.{Value as StoreValue}
use Rattle.store_cells.specs.declared.value.Value.TheVariants as value
use Rattle.store_cells.specs.declared.value.Number.TheVariants as number
use Rattle.store_cells.specs.Cells.{PlainCell}
use Rattle.widget_meaning.specs.Values as meaning
use Rattle.widget_meaning.specs.Values.{Value, Undefined, Truth}
use Rattle.widget_meaning.specs.OwnState.{Post, State}
use Rattle.widget_meaning.specs.Plan.{Plan, charge}
use Rattle.widget_meaning.specs.Costs.{give, pay, throw, units_cost}
use Rattle.widget_meaning.specs.AdsafeNatives.{keep_post, later_in, post, start_timer, with_post, with_timer}
use Rattle.widget_meaning.specs.NativeForms.{want_primitives}
use Rattle.js_image.specs.Image.{seen}
use Rattle.js_values.specs.Operands.{IsPrimitive, plain}
use Rattle.js_values.proofs.Plain.{seen_plain}
use Rattle.adsafe_object.specs.Notes.{post_of}
use Rattle.adsafe_object.specs.Timers.{milliseconds}

-- ## log

texts_plain : (v : StoreValue) (s : State) (k : List ℕ → Plan) → IsPrimitive v → want_primitives (plain v ∷ []) s (k (meaning.to_text (plain v))) ≡ k (meaning.to_text (plain v))
texts_plain value.Undefined s k h = refl
texts_plain value.Null s k h = refl
texts_plain (value.Bool b) s k h = refl
texts_plain (value.Num number.NaN) s k h = refl
texts_plain (value.Num (number.Whole z)) s k h = refl
texts_plain (value.Text t) s k h = refl
texts_plain (value.Ref i) s k h = absurd h

-- the text of a primitive
pub texts : (w : ℕ) (cells : List PlainCell) (v : StoreValue) (t : List ℕ) (s : State) (k : List ℕ → Plan) → IsPrimitive v → t ≡ meaning.to_text (plain v) → want_primitives (seen w cells v ∷ []) s (k (meaning.to_text (seen w cells v))) ≡ k t
texts w cells v t s k h e = ap (λ x. want_primitives (x ∷ []) s (k (meaning.to_text x))) (seen_plain w cells v h) ∙ texts_plain v s k h ∙ ap k (sym e)

-- ## post

-- a post where there is room
pub room_for : (ps : List (List ℕ × List ℕ)) (to t : List ℕ) (s : State) → s.own.posts ≡ map post_of ps → length ps < 256 → keep_post to t s ≡ pay (units_cost (length t + 1)) s (λ u. give (Truth true) (with_post u to t))
room_for ps to t s e h = ap (λ b. if b then give (Truth false) s else pay (units_cost (length t + 1)) s (λ u. give (Truth true) (with_post u to t))) (ap (λ (l : List Post). nat_le 256 (length l)) e ∙ ap (nat_le 256) (length-map ps post_of) ∙ few (length ps) h)
  where
    few : (n : ℕ) → n < 256 → nat_le 256 n ≡ false
    few n h = grind (arith, nat_tests, h)

-- a post that is not too long
pub post_short : (to t : List ℕ) (s : State) → length t ≤ 1024 → post (meaning.Text to) (meaning.Text t) s ≡ charge (length t) s (keep_post to t s)
post_short to t s h = ap (λ b. if b then throw meaning.E4 s else charge (length t) s (keep_post to t s)) (short (length t) h)
  where
    short : (n : ℕ) → n ≤ 1024 → nat_lt 1024 n ≡ false
    short n h = grind (arith, nat_tests, h)

-- a post, as it is kept
pub posted : (ps : List (List ℕ × List ℕ)) (to t : List ℕ) → map post_of (ps ++ (to, t) ∷ []) ≡ map post_of ps ++ record { receiver = to; text = t } ∷ []
posted ps to t = map-append post_of ps ((to, t) ∷ [])

-- ## later

-- a timer by its time
abbrev pub timed : Option ℤ → Value → State → Plan
timed None f s = throw meaning.E4 s
timed (Some z) f s = start_timer f z s

pub later_is : (f ms : Value) (s : State) → later_in f ms s ≡ timed (milliseconds ms) f s
later_is f meaning.Undefined s = refl
later_is f meaning.Null s = refl
later_is f (meaning.Truth b) s = refl
later_is f meaning.NaN s = refl
later_is f (meaning.Num z) s = refl
later_is f (meaning.Text t) s = refl
later_is f (meaning.Own n) s = refl
later_is f (meaning.Host h) s = refl

pub too_many : (f : Value) (z : ℤ) (s : State) (n : ℕ) → length s.own.timers ≡ n → 64 ≤ n → start_timer f z s ≡ throw meaning.E11 s
too_many f z s n e h = ap (λ b. if b then throw meaning.E11 s else give Undefined (with_timer s f z)) (ap (nat_le 64) e ∙ many n h)
  where
    many : (n : ℕ) → 64 ≤ n → nat_le 64 n ≡ true
    many n h = grind (arith, nat_tests, h)

pub room_to : (f : Value) (z : ℤ) (s : State) (n : ℕ) → length s.own.timers ≡ n → n < 64 → start_timer f z s ≡ give Undefined (with_timer s f z)
room_to f z s n e h = ap (λ b. if b then throw meaning.E11 s else give Undefined (with_timer s f z)) (ap (nat_le 64) e ∙ few n h)
  where
    few : (n : ℕ) → n < 64 → nat_le 64 n ≡ false
    few n h = grind (arith, nat_tests, h)
