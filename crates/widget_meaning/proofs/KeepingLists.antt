-- The methods of arrays and the prototypes keep an invariant.
use Rattle.std.specs.Prelude.{ℕ, zero, suc, ℤ, ◌+◌, List, [], ◌∷◌, ◌++◌, Option, Some}
use Rattle.widget_meaning.specs.Values.{Value, Undefined, Num, Truth, NaN}
use Rattle.widget_meaning.specs.OwnState.{State}
use Rattle.widget_meaning.specs.Plan.{Plan}
use Rattle.permitted_table.specs.declared.native.ListNative.{ListNative}
use Rattle.permitted_table.specs.declared.native.ListNative.TheVariants.{ListConcat, Join, Pop, Push, Shift, Unshift, Reverse, Sort, ListSlice, Splice, ForEach, MapNative, FilterNative}
use Rattle.permitted_table.specs.declared.native.PrototypeNative.{PrototypeNative}
use Rattle.permitted_table.specs.declared.native.PrototypeNative.TheVariants.{HasOwnProperty, ObjectToString, ArrayToString, FunctionToString, TextToString, NumberToString, BooleanToString}
use Rattle.widget_meaning.specs.ListChanges.{pop, push, shift, unshift, reverse, sort, splice, change, without_order, spliced, splice_count}
use Rattle.widget_meaning.specs.ListNatives.{join, list_concat, list_slice, call_each, over, list_method, list_native}
use Rattle.widget_meaning.specs.PrototypeNatives.{has_own_property, give_made, function_to_string, array_to_string, in_radix, number_to_string, boolean_to_string, prototype_native}
use Rattle.widget_meaning.specs.Ways.{Way, ByValue}
use Rattle.widget_meaning.specs.Keeps.{Invariant, Keeps}
use Rattle.widget_meaning.proofs.Keeping.{job, either, value, charged, paid, made_text, faulted, R, wanted, written, born, no_function, gave}
use Rattle.widget_meaning.proofs.KeepingNatives.{give_text_r, make_array_r, on_array_r, on_object_r, on_text_r, want_function_r, want_primitives_r, with_number_r, with_optional_r}

module _ (inv : Invariant) (many : ℕ) where
  pub change_r : (x0 : ℕ) (x1 : List Value) (x2 : Value) (x3 : State) → R inv many x3 → Keeps inv many ByValue (change x0 x1 x2 x3)
  change_r n vs v s hr = search (paid, gave, written, no_function)

  pub pop_r : (x0 : ℕ) (x1 : ℕ) (x2 : List Value) (x3 : State) → R inv many x3 → Keeps inv many ByValue (pop x0 x1 x2 x3)
  pop_r n zero vs s hr = search (charged, gave)
  pop_r n (suc len) vs s hr = search (charged, gave, written, no_function)

  pub push_r : (x0 : ℕ) (x1 : ℕ) (x2 : List Value) (x3 : State) → R inv many x3 → Keeps inv many ByValue (push x0 x1 x2 x3)
  push_r n len vs s hr = search (either, faulted, charged, paid, gave, written, no_function) depth 8 fits 4000

  pub shift_r : (x0 : ℕ) (x1 : ℕ) (x2 : List Value) (x3 : State) → R inv many x3 → Keeps inv many ByValue (shift x0 x1 x2 x3)
  shift_r n len vs s hr = search (charged, change_r)

  pub unshift_r : (x0 : ℕ) (x1 : ℕ) (x2 : List Value) (x3 : State) → R inv many x3 → Keeps inv many ByValue (unshift x0 x1 x2 x3)
  unshift_r n len vs s hr = search (either, faulted, charged, change_r)

  pub reverse_r : (x0 : ℕ) (x1 : ℕ) (x2 : List Value) (x3 : State) → R inv many x3 → Keeps inv many ByValue (reverse x0 x1 x2 x3)
  reverse_r n len vs s hr = search (charged, change_r)

  pub without_order_r : (way : Way) (x0 : Value) (x1 : State) (x2 : Plan) → R inv many x1 → Keeps inv many way x2 → Keeps inv many way (without_order x0 x1 x2)
  without_order_r way Undefined s p hr f0 = search
  without_order_r way v s p hr f0 = search (faulted)

  pub sort_r : (x0 : ℕ) (x1 : ℕ) (x2 : List Value) (x3 : State) → R inv many x3 → Keeps inv many ByValue (sort x0 x1 x2 x3)
  sort_r n len vs s hr = search (without_order_r, want_primitives_r, charged, change_r)

  pub spliced_r : (x0 : ℕ) (x1 : List Value) (x2 : ℕ) (x3 : ℕ) (x4 : List Value) (x5 : State) → R inv many x5 → Keeps inv many ByValue (spliced x0 x1 x2 x3 x4 x5)
  spliced_r n vs at count new s hr = search (paid, gave, written, born, no_function)

  pub splice_count_r : (way : Way) (x0 : ℕ) (x1 : List Value) (x2 : ℕ) (x3 : State) (x4 : (ℤ → Plan)) → R inv many x3 → ((y0 : ℤ) → Keeps inv many way (x4 y0)) → Keeps inv many way (splice_count x0 x1 x2 x3 x4)
  splice_count_r way len [] extra s k hr f0 = search
  splice_count_r way len (v ∷ vs) extra s k hr f0 = search (with_number_r)

  pub splice_r : (x0 : ℕ) (x1 : ℕ) (x2 : List Value) (x3 : State) → R inv many x3 → Keeps inv many ByValue (splice x0 x1 x2 x3)
  splice_r n len vs s hr = search (want_primitives_r, with_number_r, splice_count_r, charged, spliced_r)

  pub list_concat_r : (x0 : ℕ) (x1 : ℕ) (x2 : List Value) (x3 : State) → R inv many x3 → Keeps inv many ByValue (list_concat x0 x1 x2 x3)
  list_concat_r n len vs s hr = search (charged, make_array_r, gave)

  pub join_r : (x0 : ℕ) (x1 : ℕ) (x2 : Value) (x3 : ℕ) (x4 : State) → R inv many x4 → Keeps inv many ByValue (join x0 x1 x2 x3 x4)
  join_r n len x extra s hr = search (want_primitives_r, give_text_r)

  pub list_slice_r : (x0 : ℕ) (x1 : ℕ) (x2 : Value) (x3 : Value) (x4 : ℕ) (x5 : State) → R inv many x5 → Keeps inv many ByValue (list_slice x0 x1 x2 x3 x4 x5)
  list_slice_r n len a b extra s hr = search (want_primitives_r, with_number_r, with_optional_r, charged, make_array_r, gave) depth 8 fits 4000

  pub call_each_r : (way : Way) (x0 : Value) (x1 : List Value) (x2 : ℕ) (x3 : List Value) (x4 : ℕ) (x5 : State) (x6 : (List Value → State → Plan)) → R inv many x5 → ((y0 : List Value) (y1 : State) → R inv many y1 → Keeps inv many way (x6 y0 y1)) → Keeps inv many way (call_each x0 x1 x2 x3 x4 x5 x6)
  call_each_r way f [] i ws d s k hr f0 = f0 ws s hr
  call_each_r way f (v ∷ vs) i ws d s k hr f0 = job inv many way _ s _ hr tt (λ o t u e. value inv many way o t _ u e (λ w. call_each_r way f vs (i + 1) (ws ++ w ∷ []) d t k u f0))

  pub over_r : (way : Way) (x0 : ℕ) (x1 : ℕ) (x2 : Value) (x3 : ℕ) (x4 : State) (x5 : (List Value → State → Plan)) → R inv many x4 → ((y0 : List Value) (y1 : State) → R inv many y1 → Keeps inv many way (x5 y0 y1)) → Keeps inv many way (over x0 x1 x2 x3 x4 x5)
  over_r way n len f d s k hr f0 = search (want_function_r, charged, call_each_r)

  pub list_method_r : (x0 : ListNative) (x1 : ℕ) (x2 : ℕ) (x3 : List Value) (x4 : ℕ) (x5 : State) → R inv many x5 → Keeps inv many ByValue (list_method x0 x1 x2 x3 x4 x5)
  list_method_r ListConcat n len vs d s hr = search (list_concat_r)
  list_method_r Join n len vs d s hr = search (join_r)
  list_method_r ListSlice n len vs d s hr = search (list_slice_r)
  list_method_r ForEach n len vs d s hr = search (over_r, gave)
  list_method_r MapNative n len vs d s hr = search (over_r, make_array_r, gave)
  list_method_r FilterNative n len vs d s hr = search (over_r, make_array_r, gave)
  list_method_r Pop n len vs d s hr = search (pop_r)
  list_method_r Push n len vs d s hr = search (push_r)
  list_method_r Shift n len vs d s hr = search (shift_r)
  list_method_r Unshift n len vs d s hr = search (unshift_r)
  list_method_r Reverse n len vs d s hr = search (reverse_r)
  list_method_r Sort n len vs d s hr = search (sort_r)
  list_method_r Splice n len vs d s hr = search (splice_r)

  pub list_native_r : (x0 : ListNative) (x1 : Option Value) (x2 : List Value) (x3 : ℕ) (x4 : State) → R inv many x4 → Keeps inv many ByValue (list_native x0 x1 x2 x3 x4)
  list_native_r w this vs d s hr = search (on_array_r, list_method_r)

  pub has_own_property_r : (x0 : Option Value) (x1 : Value) (x2 : State) → R inv many x2 → Keeps inv many ByValue (has_own_property x0 x1 x2)
  has_own_property_r this x s hr = search (on_object_r, want_primitives_r, gave)

  pub give_made_r : (x0 : List ℕ) (x1 : State) → R inv many x1 → Keeps inv many ByValue (give_made x0 x1)
  give_made_r t s hr = search (made_text, gave)

  pub function_to_string_r : (x0 : Option Value) (x1 : State) → R inv many x1 → Keeps inv many ByValue (function_to_string x0 x1)
  function_to_string_r (Some v) s hr = search (wanted, give_made_r)
  function_to_string_r this s hr = search (faulted)

  pub array_to_string_r : (x0 : ℕ) (x1 : ℕ) (x2 : State) → R inv many x2 → Keeps inv many ByValue (array_to_string x0 x1 x2)
  array_to_string_r n len s hr = search (join_r)

  pub in_radix_r : (x0 : Value) (x1 : Value) (x2 : State) → R inv many x2 → Keeps inv many ByValue (in_radix x0 x1 x2)
  in_radix_r v radix s hr = search (want_primitives_r, with_optional_r, wanted, give_made_r)

  pub number_to_string_r : (x0 : Option Value) (x1 : Value) (x2 : State) → R inv many x2 → Keeps inv many ByValue (number_to_string x0 x1 x2)
  number_to_string_r (Some NaN) radix s hr = search (in_radix_r)
  number_to_string_r (Some (Num z)) radix s hr = search (in_radix_r)
  number_to_string_r this radix s hr = search (faulted)

  pub boolean_to_string_r : (x0 : Option Value) (x1 : State) → R inv many x1 → Keeps inv many ByValue (boolean_to_string x0 x1)
  boolean_to_string_r (Some (Truth b)) s hr = search (give_made_r)
  boolean_to_string_r this s hr = search (faulted)

  pub prototype_native_r : (x0 : PrototypeNative) (x1 : Option Value) (x2 : List Value) (x3 : ℕ) (x4 : State) → R inv many x4 → Keeps inv many ByValue (prototype_native x0 x1 x2 x3 x4)
  prototype_native_r HasOwnProperty this vs d s hr = search (has_own_property_r)
  prototype_native_r ObjectToString this vs d s hr = search (on_object_r, give_made_r)
  prototype_native_r ArrayToString this vs d s hr = search (on_array_r, array_to_string_r)
  prototype_native_r FunctionToString this vs d s hr = search (function_to_string_r)
  prototype_native_r TextToString this vs d s hr = search (on_text_r, gave)
  prototype_native_r NumberToString this vs d s hr = search (number_to_string_r)
  prototype_native_r BooleanToString this vs d s hr = search (boolean_to_string_r)
