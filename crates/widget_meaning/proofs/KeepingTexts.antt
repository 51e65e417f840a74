-- The methods of texts keep an invariant.

use Rattle.std.specs.Prelude.{ℕ, List, Option, length}
use Rattle.permitted_table.specs.declared.native.TextNative.{TextNative}
use Rattle.permitted_table.specs.declared.native.TextNative.TheVariants.{CharAt, CharCodeAt, TextConcat, IndexOf, LastIndexOf, TextSlice, Substring, Split}
use Rattle.widget_meaning.specs.Values.{Value, Undefined}
use Rattle.widget_meaning.specs.OwnState.{State}
use Rattle.widget_meaning.specs.TextNatives.{char_at, char_code_at, text_concat, index_of, last_index_of, text_slice, substring, split, made_of, text_method, text_native}
use Rattle.widget_meaning.specs.Ways.{ByValue}
use Rattle.widget_meaning.specs.Keeps.{Invariant, Keeps}
use Rattle.widget_meaning.proofs.Keeping.{charged, R, gave}
use Rattle.widget_meaning.proofs.KeepingNatives.{give_text_r, give_texts_r, make_array_r, on_text_r, want_primitives_r, with_number_or_r, with_number_r, with_optional_r}

module _ (inv : Invariant) (many : ℕ) where
  pub char_at_r : (x0 : List ℕ) (x1 : Value) (x2 : State) → R inv many x2 → Keeps inv many ByValue (char_at x0 x1 x2)
  char_at_r t i s hr = search (want_primitives_r, with_number_r, give_text_r)

  pub char_code_at_r : (x0 : List ℕ) (x1 : Value) (x2 : State) → R inv many x2 → Keeps inv many ByValue (char_code_at x0 x1 x2)
  char_code_at_r t i s hr = search (want_primitives_r, with_number_r, charged, gave)

  pub text_concat_r : (x0 : List ℕ) (x1 : List Value) (x2 : State) → R inv many x2 → Keeps inv many ByValue (text_concat x0 x1 x2)
  text_concat_r t vs s hr = search (want_primitives_r, give_text_r)

  pub index_of_r : (x0 : List ℕ) (x1 : Value) (x2 : Value) (x3 : State) → R inv many x3 → Keeps inv many ByValue (index_of x0 x1 x2 x3)
  index_of_r t x from s hr = search (want_primitives_r, with_number_r, charged, gave)

  pub last_index_of_r : (x0 : List ℕ) (x1 : Value) (x2 : Value) (x3 : State) → R inv many x3 → Keeps inv many ByValue (last_index_of x0 x1 x2 x3)
  last_index_of_r t x from s hr = search (want_primitives_r, with_number_or_r, charged, gave)

  pub text_slice_r : (x0 : List ℕ) (x1 : Value) (x2 : Value) (x3 : State) → R inv many x3 → Keeps inv many ByValue (text_slice x0 x1 x2 x3)
  text_slice_r t a b s hr = search (want_primitives_r, with_number_r, with_optional_r, give_text_r)

  pub substring_r : (x0 : List ℕ) (x1 : Value) (x2 : Value) (x3 : State) → R inv many x3 → Keeps inv many ByValue (substring x0 x1 x2 x3)
  substring_r t a b s hr = search (want_primitives_r, with_number_r, with_optional_r, give_text_r)

  pub split_r : (x0 : List ℕ) (x1 : Value) (x2 : State) → R inv many x2 → Keeps inv many ByValue (split x0 x1 x2)
  split_r t Undefined s hr = search (charged, make_array_r, gave)
  split_r t x s hr = search (want_primitives_r, charged, give_texts_r)

  pub text_method_r : (x0 : TextNative) (x1 : List ℕ) (x2 : List Value) (x3 : State) → R inv many x3 → Keeps inv many ByValue (text_method x0 x1 x2 x3)
  text_method_r CharAt t vs s hr = search (char_at_r)
  text_method_r CharCodeAt t vs s hr = search (char_code_at_r)
  text_method_r TextConcat t vs s hr = search (text_concat_r)
  text_method_r IndexOf t vs s hr = search (index_of_r)
  text_method_r LastIndexOf t vs s hr = search (last_index_of_r)
  text_method_r TextSlice t vs s hr = search (text_slice_r)
  text_method_r Substring t vs s hr = search (substring_r)
  text_method_r Split t vs s hr = search (split_r)
  text_method_r w t vs s hr = give_text_r inv many (length t) (made_of w t) s hr

  pub text_native_r : (x0 : TextNative) (x1 : Option Value) (x2 : List Value) (x3 : State) → R inv many x3 → Keeps inv many ByValue (text_native x0 x1 x2 x3)
  text_native_r w this vs s hr = search (on_text_r, text_method_r)
