-- The plans of handlers and marks.
use Rattle.std.proofs.lemmas.List.{length-map}
use Rattle.std.proofs.Common.{◌≡◌, ℕ, ◌≤◌, List, [], ◌∷◌, Bool, true, false, refl, ap, ◌∙◌, arith, map, length, None, Some, if◌then◌else◌}
use Rattle.std.specs.List.{fold}
use Rattle.plain_tree.specs.Words.{is_event_type}
use Rattle.store_cells.specs.declared.value.Value.{Value as StoreValue}
use Rattle.store_cells.specs.declared.value.Value.TheVariants as value
use Rattle.store_cells.specs.declared.value.Number.TheVariants as number
use Rattle.store_cells.specs.Cells.{PlainCell, own_count}
use Rattle.object_store.specs.Owned as store
use Rattle.object_store.specs.Owned.{visible_at}
use Rattle.widget_meaning.specs.BunchWrites.{alter_each, change_kept, hush, listen, with_handler, write_method}
use Rattle.widget_meaning.specs.Costs.{give, pay, slots_cost, throw, want}
use Rattle.widget_meaning.specs.NativeForms.{want_function, want_primitives}
use Rattle.permitted_table.specs.declared.native.WriteNative.TheVariants.{Off, On, SetMark}
use Rattle.widget_meaning.specs.OwnState.{State}
use Rattle.widget_meaning.specs.Plan.{Plan, charge}
use Rattle.widget_meaning.specs.Properties.{is_own_function}
use Rattle.widget_meaning.specs.Values.{E4, Value, is_object, to_text}
use Rattle.page_image.specs.Around.{hushed, marked}
use Rattle.js_image.specs.Image.{meant, seen}
use Rattle.native_image.proofs.Wants.{object_of, primitive_of, unwanted, wanted}
use Rattle.bunch_attributes.specs.Values.{is_undefined}

module _ (ns : List ℕ) (v t f : Value) (d : ℕ) (s : State) where
  -- handlers of a type that is taken
  abbrev heard : Plan
  heard = charge (length ns) s (pay (slots_cost (length ns)) s (λ u. give v (fold (change_kept (with_handler (to_text t) f)) u ns)))

  abbrev pub on_plan : Plan
  on_plan = write_method On ns v (t ∷ f ∷ []) d s

  pub on_object : is_object t ≡ true → on_plan ≡ throw E4 s
  on_object h = object_of t s (listen ns (to_text t) f v s) h

  module _ (h : is_object t ≡ false) where
    pub on_bad : is_event_type (to_text t) ≡ false → on_plan ≡ throw E4 s
    on_bad e = primitive_of t s (listen ns (to_text t) f v s) h ∙ unwanted E4 (is_event_type (to_text t)) s (want_function f s heard) e

    pub on_other : is_event_type (to_text t) ≡ true → is_own_function s f ≡ false → on_plan ≡ throw E4 s
    on_other e g =
        primitive_of t s (listen ns (to_text t) f v s) h ∙ wanted E4 (is_event_type (to_text t)) s (want_function f s heard) e
        ∙ unwanted E4 (is_own_function s f) s heard g

    pub on_function : is_event_type (to_text t) ≡ true → is_own_function s f ≡ true → on_plan ≡ heard
    on_function e g =
        primitive_of t s (listen ns (to_text t) f v s) h ∙ wanted E4 (is_event_type (to_text t)) s (want_function f s heard) e
        ∙ wanted E4 (is_own_function s f) s heard g

-- ## `off`

module _ (ns : List ℕ) (v : Value) (d : ℕ) (s : State) (w : ℕ) (cells : List PlainCell) where
  abbrev off_rest : Value → Plan
  off_rest t = want E4 (is_event_type (to_text t)) s (alter_each (change_kept (hushed (Some (to_text t)))) ns v s)

  -- what is not undefined
  off_some : (t : StoreValue) → is_undefined t ≡ false → hush ns (seen w cells t) v s ≡ want_primitives (seen w cells t ∷ []) s (off_rest (seen w cells t))
  off_some value.Undefined h = cc
  off_some value.Null h = refl
  off_some (value.Bool b) h = refl
  off_some (value.Num number.NaN) h = refl
  off_some (value.Num (number.Whole z)) h = refl
  off_some (value.Text t) h = refl
  off_some (value.Ref i) h = by (visible_at w cells i)
    where
      by : (b : Bool) → (let t = meant (if b then store.Own (own_count w cells i) else store.Other i) in hush ns t v s ≡ want_primitives (t ∷ []) s (off_rest t))
      by true = refl
      by false = refl

  module _ (t : StoreValue) where
    abbrev pub off_plan : Plan
    off_plan = write_method Off ns v (seen w cells t ∷ []) d s

    pub off_all : t ≡ value.Undefined → off_plan ≡ alter_each (change_kept (hushed None)) ns v s
    off_all e = ap (λ u. hush ns (seen w cells u) v s) e

    module _ (h : is_undefined t ≡ false) where
      pub off_object : is_object (seen w cells t) ≡ true → off_plan ≡ throw E4 s
      off_object e = off_some t h ∙ object_of (seen w cells t) s (off_rest (seen w cells t)) e

      pub off_bad : is_object (seen w cells t) ≡ false → is_event_type (to_text (seen w cells t)) ≡ false → off_plan ≡ throw E4 s
      off_bad e f = off_some t h ∙ primitive_of (seen w cells t) s (off_rest (seen w cells t)) e ∙ unwanted E4 (is_event_type (to_text (seen w cells t))) s (alter_each (change_kept (hushed (Some (to_text (seen w cells t))))) ns v s) f

      pub off_type : is_object (seen w cells t) ≡ false → is_event_type (to_text (seen w cells t)) ≡ true → off_plan ≡ alter_each (change_kept (hushed (Some (to_text (seen w cells t))))) ns v s
      off_type e f = off_some t h ∙ primitive_of (seen w cells t) s (off_rest (seen w cells t)) e ∙ wanted E4 (is_event_type (to_text (seen w cells t))) s (alter_each (change_kept (hushed (Some (to_text (seen w cells t))))) ns v s) f

pub undefined_is : (t : StoreValue) → is_undefined t ≡ true → t ≡ value.Undefined
undefined_is value.Undefined h = refl
undefined_is value.Null h = cc
undefined_is (value.Bool b) h = cc
undefined_is (value.Num n) h = cc
undefined_is (value.Text t) h = cc
undefined_is (value.Ref i) h = cc

-- ## `mark`

module _ (ns : List ℕ) (v t : Value) (d : ℕ) (s : State) where
  pub mark_object : is_object t ≡ true → write_method SetMark ns v (t ∷ []) d s ≡ throw E4 s
  mark_object h = object_of t s (alter_each (change_kept (marked (to_text t))) ns v s) h

  pub mark_text : is_object t ≡ false → write_method SetMark ns v (t ∷ []) d s ≡ alter_each (change_kept (marked (to_text t))) ns v s
  mark_text h = primitive_of t s (alter_each (change_kept (marked (to_text t))) ns v s) h

-- a slot for each node
pub slots_are : (f : ℕ → ℕ) (list : List ℕ) → length list ≤ 16384 → (c : ℕ) → c ≡ length list → c ≡ length (map f list)
slots_are f list few c e = omega (arith, e, length-map list f)
