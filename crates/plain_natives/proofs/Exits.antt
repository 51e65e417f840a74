-- The exits of natives: what is thrown, what stops, and what is given after a charge.
use Rattle.std.proofs.Common.{◌≡◌, ℕ, ℤ, pos, List, [], ◌∷◌, true, false, Some, None, refl, sym, ap, ◌∙◌, if◌then◌else◌, drop, slice_get, unwrap_or, Result, IfOk}
use Rattle.std.proofs.lemmas.Result.{IfOk-weaker}
use Rattle.code_units.specs.declared.memory.Memory.{Memory}
use Rattle.store_cells.specs.declared.value.Value.{Value as StoreValue}
use Rattle.store_cells.specs.declared.value.Value.TheVariants as value
use Rattle.std.specs.Prelude.{not, ◌||◌}
use Rattle.std.specs.List.{list_any}
use Rattle.code_units.specs.declared.whole.WholeRead.{WholeRead}
use Rattle.code_units.specs.declared.whole.WholeRead.TheVariants as read
use Rattle.js_tree.specs.Forest.{Forest}
use Rattle.store_cells.specs.Cells.{Cells, PlainCell}
use Rattle.widget_meaning.specs.Values as meaning
use Rattle.widget_meaning.specs.Values.{Value, is_object, to_number}
use Rattle.widget_meaning.specs.OwnState.{State}
use Rattle.widget_meaning.specs.Operators.{OpOut}
use Rattle.widget_meaning.specs.Expressions.{result}
use Rattle.widget_meaning.specs.Plan.{Halt, Plan, charge}
use Rattle.widget_meaning.specs.Costs.{throw}
use Rattle.widget_meaning.specs.NativeForms.{want_primitives, with_number_or, with_optional}
use Rattle.js_image.specs.Image.{Rest, all_seen, image, seen}
use Rattle.js_image.specs.Plans.{meant_cause, meant_fault}
use Rattle.js_image.specs.declared.outcome.Fault.{Fault}
use Rattle.js_image.specs.declared.outcome.StopCause.{StopCause}
use Rattle.js_values.specs.Fuel.{Fuel}
use Rattle.js_values.specs.declared.outcome.NativeOut.{NativeOut}
use Rattle.js_values.specs.declared.outcome.NativeOut.TheVariants as native
use Rattle.native_common.specs.Refines.{Ends, Refines}
use Rattle.native_common.specs.Numbers as numbers
use Rattle.native_common.specs.Numbers.{counted}
use Rattle.native_common.proofs.Meeting.{ends_here, ends_same, refines_free, refines_same}
use Rattle.native_common.proofs.Seen.{nth_seen}

-- ## Arguments

-- they are primitives, or one is an object
pub wants : (vs : List Value) (s : State) (p : Plan) → false ≡ list_any is_object vs → want_primitives vs s p ≡ p
wants vs s p h = ap (λ b. if not b then p else throw meaning.E4 s) (sym h)

-- the same of one
pub wants_one : (v : Value) (s : State) (p : Plan) → false ≡ is_object v → want_primitives (v ∷ []) s p ≡ p
wants_one v s p h = ap (λ b. if not (b || false) then p else throw meaning.E4 s) (sym h)

pub wants_one_not : (v : Value) (s : State) (p : Plan) → true ≡ is_object v → want_primitives (v ∷ []) s p ≡ throw meaning.E4 s
wants_one_not v s p h = ap (λ b. if not (b || false) then p else throw meaning.E4 s) (sym h)

some_same : {A : Type 0} {a b : A} → Some a ≡ Some b → a ≡ b
some_same e = cc

some_none : {A : Type 0} {a : A} → Some a ≡ None → ⊥
some_none e = cc

none_some : {A : Type 0} {a : A} → None ≡ Some a → ⊥
none_some e = cc

-- a number argument, and one that leaves the numbers
pub numbered : (z : ℤ) (r : WholeRead) (extra : ℕ) (s : State) (k : ℤ → Plan) (x : ℤ) → Some x ≡ numbers.number_or z r → with_number_or z r extra s k ≡ k x
numbered z (read.Whole y) extra s k x e = ap k (sym (some_same e))
numbered z read.NotNumber extra s k x e = ap k (sym (some_same e))
numbered z read.Left extra s k x e = absurd (some_none e)

pub numbered_not : (z : ℤ) (r : WholeRead) (extra : ℕ) (s : State) (k : ℤ → Plan) → None ≡ numbers.number_or z r → with_number_or z r extra s k ≡ charge extra s (Halt meaning.Number s)
numbered_not z (read.Whole y) extra s k e = absurd (none_some e)
numbered_not z read.NotNumber extra s k e = absurd (none_some e)
numbered_not z read.Left extra s k e = refl

-- one that may be absent
pub optional : (z : ℤ) (v : Value) (extra : ℕ) (s : State) (k : ℤ → Plan) (x : ℤ) → Some x ≡ numbers.optional_number z v → with_optional z v extra s k ≡ k x
optional z meaning.Undefined extra s k x e = ap k (sym (some_same e))
optional z meaning.Null extra s k x e = numbered (pos 0) (to_number meaning.Null) extra s k x e
optional z (meaning.Truth b) extra s k x e = numbered (pos 0) (to_number (meaning.Truth b)) extra s k x e
optional z meaning.NaN extra s k x e = numbered (pos 0) (to_number meaning.NaN) extra s k x e
optional z (meaning.Num n) extra s k x e = numbered (pos 0) (to_number (meaning.Num n)) extra s k x e
optional z (meaning.Text t) extra s k x e = numbered (pos 0) (to_number (meaning.Text t)) extra s k x e
optional z (meaning.Own n) extra s k x e = numbered (pos 0) (to_number (meaning.Own n)) extra s k x e
optional z (meaning.Host h) extra s k x e = numbered (pos 0) (to_number (meaning.Host h)) extra s k x e

pub optional_not : (z : ℤ) (v : Value) (extra : ℕ) (s : State) (k : ℤ → Plan) → None ≡ numbers.optional_number z v → with_optional z v extra s k ≡ charge extra s (Halt meaning.Number s)
optional_not z meaning.Undefined extra s k e = absurd (none_some e)
optional_not z meaning.Null extra s k e = numbered_not (pos 0) (to_number meaning.Null) extra s k e
optional_not z (meaning.Truth b) extra s k e = numbered_not (pos 0) (to_number (meaning.Truth b)) extra s k e
optional_not z meaning.NaN extra s k e = numbered_not (pos 0) (to_number meaning.NaN) extra s k e
optional_not z (meaning.Num n) extra s k e = numbered_not (pos 0) (to_number (meaning.Num n)) extra s k e
optional_not z (meaning.Text t) extra s k e = numbered_not (pos 0) (to_number (meaning.Text t)) extra s k e
optional_not z (meaning.Own n) extra s k e = numbered_not (pos 0) (to_number (meaning.Own n)) extra s k e
optional_not z (meaning.Host h) extra s k e = numbered_not (pos 0) (to_number (meaning.Host h)) extra s k e

-- the first of a list
pub first_some : {X : Type 0} (vs : List X) (v : X) → Some v ≡ slice_get vs 0 → vs ≡ v ∷ drop 1 vs
first_some [] v e = absurd (some_none e)
first_some (x ∷ xs) v e = ap (λ y. y ∷ xs) (sym (some_same e))

pub first_none : {X : Type 0} (vs : List X) → None ≡ slice_get vs 0 → vs ≡ []
first_none [] e = refl
first_none (x ∷ xs) e = absurd (none_some e)

-- ## Answers where the store stays

module _ (w : ℕ) (s : Cells) (p : ℕ → State → Plan) where
  -- a fault before any charge
  pub throws : (f : Fault) (had : Fuel) → ((fs : List Forest) (r : Rest) (d : ℕ) → p d (image fs r w s) ≡ throw (meant_fault f) (image fs r w s)) → Refines w s s had had p (native.Throw f)
  throws f had e = refines_free w s s p (native.Throw f) had (ends_here w s p (native.Throw f) (λ fs r node d. e fs r d) tt)

  -- what ends the rest after a charge
  pub charged_as : (q : ℕ → State → Plan) (n asked : ℕ) (o : NativeOut) (had has : Fuel) (out : NativeOut) → ((plan : ℕ → State → Plan) (m : ℕ) → asked ≡ counted m → Ends w s s plan o → Refines w s s had has (λ d t. charge m t (plan d t)) out) → asked ≡ counted n → Ends w s s q o → ((fs : List Forest) (r : Rest) (d : ℕ) → p d (image fs r w s) ≡ charge n (image fs r w s) (q d (image fs r w s))) → Refines w s s had has p out
  charged_as q n asked o had has out h e ends same = refines_same w s s p (λ d t. charge n t (q d t)) out had has same (h q n e ends)

  -- a stop after a charge
  pub stops : (c : StopCause) (n asked : ℕ) (had has : Fuel) (out : NativeOut) → ((plan : ℕ → State → Plan) (m : ℕ) → asked ≡ counted m → Ends w s s plan (native.Stop c) → Refines w s s had has (λ d t. charge m t (plan d t)) out) → asked ≡ counted n → ((fs : List Forest) (r : Rest) (d : ℕ) → p d (image fs r w s) ≡ charge n (image fs r w s) (Halt (meant_cause c) (image fs r w s))) → Refines w s s had has p out
  stops c n asked had has out h e same = charged_as (λ d t. Halt (meant_cause c) t) n asked (native.Stop c) had has out h e (ends_here w s (λ d t. Halt (meant_cause c) t) (native.Stop c) (λ fs r node d. refl) tt) same

  -- what an operator gives after a charge
  pub operates : (x y : OpOut) (n asked : ℕ) (o : NativeOut) (had has : Fuel) (out : NativeOut) → ((plan : ℕ → State → Plan) (m : ℕ) → asked ≡ counted m → Ends w s s plan o → Refines w s s had has (λ d t. charge m t (plan d t)) out) → asked ≡ counted n → Ends w s s (λ d t. result x t) o → x ≡ y → ((fs : List Forest) (r : Rest) (d : ℕ) → p d (image fs r w s) ≡ charge n (image fs r w s) (result y (image fs r w s))) → Refines w s s had has p out
  operates x y n asked o had has out h e ends is same = charged_as (λ d t. result y t) n asked o had has out h e (ends_same w s s (λ d t. result y t) (λ d t. result x t) o (λ fs r d. ap (λ z. result z (image fs r w s)) (sym is)) ends) same

-- ## Results

-- what a native gives for every widget and every store, at one of them
pub ok_at : (outcome : Result NativeOut Memory) (w : ℕ) (s : Cells) (had has : Fuel) (p : ℕ → State → Plan) (q : ℕ → Cells → ℕ → State → Plan) → ((fs : List Forest) (r : Rest) (d : ℕ) → p d (image fs r w s) ≡ q w s d (image fs r w s)) → IfOk outcome (λ o. (v : ℕ) (t : Cells) → Refines v t t had has (q v t) o) → IfOk outcome (Refines w s s had has p)
ok_at outcome w s had has p q e h = IfOk-weaker outcome (λ o. (v : ℕ) (t : Cells) → Refines v t t had has (q v t) o) (Refines w s s had has p) (λ o k. refines_same w s s p (q w s) o had has e (k w s)) h

-- an argument at a place
pub nth_is : (w : ℕ) (cells : List PlainCell) (vs : List StoreValue) (n : ℕ) (v : StoreValue) → v ≡ unwrap_or (slice_get vs n) value.Undefined → meaning.nth n (all_seen w cells vs) ≡ seen w cells v
nth_is w cells vs n v e = nth_seen w cells vs n ∙ ap (seen w cells) (sym e)
