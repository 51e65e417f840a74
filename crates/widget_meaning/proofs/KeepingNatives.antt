-- What natives have in common, and those of the globals and of Math, keep an invariant.
use Rattle.code_units.specs.declared.whole.WholeRead.TheVariants as read
use Rattle.std.specs.Prelude.{ℕ, ℤ, List, [], ◌∷◌, Option, Some, pos}
use Rattle.code_units.specs.declared.whole.WholeRead.{WholeRead}
use Rattle.widget_meaning.specs.Values.{Value, Undefined, Text, Own, Host}
use Rattle.widget_meaning.specs.OwnState.{State}
use Rattle.widget_meaning.specs.Plan.{Plan}
use Rattle.permitted_table.specs.declared.native.GlobalNative.{GlobalNative}
use Rattle.permitted_table.specs.declared.native.GlobalNative.TheVariants.{BooleanOf, NumberOf, StringOf, IsNaN, IsFinite, ParseInt, FromCharCode}
use Rattle.permitted_table.specs.declared.native.MathNative.{MathNative}
use Rattle.permitted_table.specs.declared.native.MathNative.TheVariants.{Abs, Ceil, Floor, Round, Max, Min, Pow}
use Rattle.widget_meaning.specs.Operators.{OpOut}
use Rattle.widget_meaning.specs.NativeForms.{want_primitives, with_number, give_text, want_function, on_text, on_array, on_bunch, make_array, make_bunch, with_number_or, with_optional, give_texts, on_object}
use Rattle.widget_meaning.specs.GlobalNatives.{boolean_of, of_number, number_of, text_of_primitive, string_of, string_native, parse_int, from_char_code, global_native}
use Rattle.widget_meaning.specs.MathNatives.{of_one, of_all, pow, math_native}
use Rattle.widget_meaning.specs.Ways.{Way, ByValue}
use Rattle.widget_meaning.specs.Keeps.{Invariant, Keeps}
use Rattle.widget_meaning.proofs.Keeping.{halted, either, value, chain, charged, paid, made, made_text, faulted, R, found, wanted, born, no_function, gave}
use Rattle.widget_meaning.proofs.KeepingForms.{result_r, to_primitive_r}

module _ (inv : Invariant) (many : ℕ) where
  pub want_primitives_r : (way : Way) (x0 : List Value) (x1 : State) (x2 : Plan) → R inv many x1 → Keeps inv many way x2 → Keeps inv many way (want_primitives x0 x1 x2)
  want_primitives_r way vs s p hr f0 = search (wanted)

  pub want_function_r : (way : Way) (x0 : Value) (x1 : State) (x2 : Plan) → R inv many x1 → Keeps inv many way x2 → Keeps inv many way (want_function x0 x1 x2)
  want_function_r way f s p hr f0 = search (wanted)

  pub on_text_r : (way : Way) (x0 : Option Value) (x1 : State) (x2 : (List ℕ → Plan)) → R inv many x1 → ((y0 : List ℕ) → Keeps inv many way (x2 y0)) → Keeps inv many way (on_text x0 x1 x2)
  on_text_r way (Some (Text t)) s k hr f0 = search
  on_text_r way this s k hr f0 = search (faulted)

  pub on_array_r : (way : Way) (x0 : Option Value) (x1 : State) (x2 : (ℕ → ℕ → Plan)) → R inv many x1 → ((y0 : ℕ) (y1 : ℕ) → Keeps inv many way (x2 y0 y1)) → Keeps inv many way (on_array x0 x1 x2)
  on_array_r way (Some (Own n)) s k hr f0 = search (found)
  on_array_r way this s k hr f0 = search (faulted)

  pub on_bunch_r : (way : Way) (x0 : Option Value) (x1 : State) (x2 : (List ℕ → Plan)) → R inv many x1 → ((y0 : List ℕ) → Keeps inv many way (x2 y0)) → Keeps inv many way (on_bunch x0 x1 x2)
  on_bunch_r way this s k hr f0 = search (found)

  pub with_number_or_r : (way : Way) (x0 : ℤ) (x1 : WholeRead) (x2 : ℕ) (x3 : State) (x4 : (ℤ → Plan)) → R inv many x3 → ((y0 : ℤ) → Keeps inv many way (x4 y0)) → Keeps inv many way (with_number_or x0 x1 x2 x3 x4)
  with_number_or_r way z (read.Whole x) extra s k hr f0 = search
  with_number_or_r way z read.NotNumber extra s k hr f0 = search
  with_number_or_r way z read.Left extra s k hr f0 = search (charged, halted)

  pub with_number_r : (way : Way) (x0 : WholeRead) (x1 : ℕ) (x2 : State) (x3 : (ℤ → Plan)) → R inv many x2 → ((y0 : ℤ) → Keeps inv many way (x3 y0)) → Keeps inv many way (with_number x0 x1 x2 x3)
  with_number_r way r extra s k hr f0 = with_number_or_r way (pos 0) r extra s k hr f0

  pub give_text_r : (x0 : ℕ) (x1 : List ℕ) (x2 : State) → R inv many x2 → Keeps inv many ByValue (give_text x0 x1 x2)
  give_text_r extra t s hr = search (charged, made_text, gave)

  pub make_array_r : (way : Way) (x0 : List Value) (x1 : ℕ) (x2 : State) (x3 : (Value → State → Plan)) → R inv many x2 → ((y0 : Value) (y1 : State) → R inv many y1 → Keeps inv many way (x3 y0 y1)) → Keeps inv many way (make_array x0 x1 x2 x3)
  make_array_r way vs units s k hr f0 = search (paid, born, no_function)

  pub make_bunch_r : (way : Way) (x0 : List ℕ) (x1 : State) (x2 : (Value → State → Plan)) → R inv many x1 → ((y0 : Value) (y1 : State) → R inv many y1 → Keeps inv many way (x2 y0 y1)) → Keeps inv many way (make_bunch x0 x1 x2)
  make_bunch_r way ns s k hr f0 = search (made, no_function)

  pub with_optional_r : (way : Way) (x0 : ℤ) (x1 : Value) (x2 : ℕ) (x3 : State) (x4 : (ℤ → Plan)) → R inv many x3 → ((y0 : ℤ) → Keeps inv many way (x4 y0)) → Keeps inv many way (with_optional x0 x1 x2 x3 x4)
  with_optional_r way z Undefined extra s k hr f0 = search
  with_optional_r way z v extra s k hr f0 = search (with_number_r)

  pub give_texts_r : (x0 : List (List ℕ)) (x1 : State) → R inv many x1 → Keeps inv many ByValue (give_texts x0 x1)
  give_texts_r ts s hr = search (either, halted, make_array_r, gave)

  pub on_object_r : (way : Way) (x0 : Option Value) (x1 : State) (x2 : (Value → Plan)) → R inv many x1 → ((y0 : Value) → Keeps inv many way (x2 y0)) → Keeps inv many way (on_object x0 x1 x2)
  on_object_r way (Some (Own n)) s k hr f0 = search
  on_object_r way (Some (Host h)) s k hr f0 = search
  on_object_r way this s k hr f0 = search (faulted)

  pub boolean_of_r : (x0 : Value) (x1 : State) → R inv many x1 → Keeps inv many ByValue (boolean_of x0 x1)
  boolean_of_r v s hr = search (charged, gave)

  pub of_number_r : (x0 : Value) (x1 : (WholeRead → OpOut)) (x2 : State) → R inv many x2 → Keeps inv many ByValue (of_number x0 x1 x2)
  of_number_r v f s hr = search (want_primitives_r, charged, result_r)

  pub number_of_r : (x0 : List Value) (x1 : State) → R inv many x1 → Keeps inv many ByValue (number_of x0 x1)
  number_of_r [] s hr = search (gave)
  number_of_r (v ∷ vs) s hr = search (of_number_r)

  pub text_of_primitive_r : (x0 : Value) (x1 : State) → R inv many x1 → Keeps inv many ByValue (text_of_primitive x0 x1)
  text_of_primitive_r (Text t) s hr = search (gave)
  text_of_primitive_r v s hr = search (give_text_r)

  pub string_of_r : (x0 : Value) (x1 : ℕ) (x2 : State) → R inv many x2 → Keeps inv many ByValue (string_of x0 x1 x2)
  string_of_r v d s hr = search (either, chain, to_primitive_r, value, charged, text_of_primitive_r)

  pub string_native_r : (x0 : List Value) (x1 : ℕ) (x2 : State) → R inv many x2 → Keeps inv many ByValue (string_native x0 x1 x2)
  string_native_r [] d s hr = search (give_text_r)
  string_native_r (v ∷ vs) d s hr = search (string_of_r)

  pub parse_int_r : (x0 : Value) (x1 : Value) (x2 : State) → R inv many x2 → Keeps inv many ByValue (parse_int x0 x1 x2)
  parse_int_r v radix s hr = search (want_primitives_r, with_number_r, charged, result_r)

  pub from_char_code_r : (x0 : List Value) (x1 : State) → R inv many x1 → Keeps inv many ByValue (from_char_code x0 x1)
  from_char_code_r vs s hr = search (want_primitives_r, either, charged, halted, give_text_r)

  pub global_native_r : (x0 : GlobalNative) (x1 : Option Value) (x2 : List Value) (x3 : ℕ) (x4 : State) → R inv many x4 → Keeps inv many ByValue (global_native x0 x1 x2 x3 x4)
  global_native_r BooleanOf this vs d s hr = search (boolean_of_r)
  global_native_r NumberOf this vs d s hr = search (number_of_r)
  global_native_r StringOf this vs d s hr = search (string_native_r)
  global_native_r IsNaN this vs d s hr = search (of_number_r)
  global_native_r IsFinite this vs d s hr = search (of_number_r)
  global_native_r ParseInt this vs d s hr = search (parse_int_r)
  global_native_r FromCharCode this vs d s hr = search (from_char_code_r)

  pub of_one_r : (x0 : List Value) (x1 : (ℤ → ℤ)) (x2 : State) → R inv many x2 → Keeps inv many ByValue (of_one x0 x1 x2)
  of_one_r vs f s hr = search (want_primitives_r, charged, result_r)

  pub of_all_r : (x0 : List Value) (x1 : (ℤ → ℤ → ℤ)) (x2 : State) → R inv many x2 → Keeps inv many ByValue (of_all x0 x1 x2)
  of_all_r vs f s hr = search (want_primitives_r, charged, result_r)

  pub pow_r : (x0 : Value) (x1 : Value) (x2 : ℕ) (x3 : State) → R inv many x3 → Keeps inv many ByValue (pow x0 x1 x2 x3)
  pow_r a b extra s hr = search (want_primitives_r, charged, result_r)

  pub math_native_r : (x0 : MathNative) (x1 : Option Value) (x2 : List Value) (x3 : ℕ) (x4 : State) → R inv many x4 → Keeps inv many ByValue (math_native x0 x1 x2 x3 x4)
  math_native_r Abs this vs d s hr = search (of_one_r)
  math_native_r Ceil this vs d s hr = search (of_one_r)
  math_native_r Floor this vs d s hr = search (of_one_r)
  math_native_r Round this vs d s hr = search (of_one_r)
  math_native_r Max this vs d s hr = search (of_all_r)
  math_native_r Min this vs d s hr = search (of_all_r)
  math_native_r Pow this vs d s hr = search (pow_r)
