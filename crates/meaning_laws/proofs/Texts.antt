-- The methods of texts keep what is there.
use Rattle.std.specs.Prelude.{ℕ, List, Option, sum_by, ◌≡◌, ◌<◌, true, [], ◌∷◌, ◌++◌, ◌+◌, Some, None, pos, length, not, slice_get, nat_le, slice_range}
use Rattle.permitted_table.specs.declared.native.TextNative.{TextNative}
use Rattle.permitted_table.specs.declared.native.TextNative.TheVariants.{CharAt, CharCodeAt, TextConcat, IndexOf, LastIndexOf, TextSlice, Substring, Split, ToLowerCase, ToUpperCase}
use Rattle.widget_meaning.specs.Values.{Value, Undefined, Text, Is, nth, to_text, to_number, is_object, E4}
use Rattle.widget_meaning.specs.OwnState.{State}
use Rattle.widget_meaning.specs.TextNatives.{char_at, char_code_at, text_concat, index_of, last_index_of, text_slice, substring, split, pieces, made_of, text_method, text_native, first_code, unit_at, found, positions, between}
use Rattle.std.specs.List.{list_any, filter, flat_map, last_or}
use Rattle.widget_meaning.specs.NativeForms.{from_end, clamped}
use Rattle.widget_meaning.specs.Costs.{give}
use Rattle.meaning_laws.proofs.Natives.{give_text_r, give_texts_r, make_array_r, on_text_r, want_primitives_r, with_number_or_r, with_number_r, with_optional_r}
use Rattle.meaning_laws.specs.There.{Sizes, Told, ValueIs, ValuesAre, MaybeIs}
use Rattle.meaning_laws.specs.Texts.{AreUnits, IsText}
use Rattle.meaning_laws.proofs.Units.{both_units, range_is, unit_is, lower_text, upper_text, pieces_are, to_text_is}
use Rattle.meaning_laws.proofs.Each.{each_piece, each_filtered}
use Rattle.meaning_laws.proofs.Numbers.{OfPlace, positions_are, first_place, last_place}
use Rattle.std.proofs.Common.{◌≤◌, negsuc, arith}
use Rattle.widget_meaning.specs.Limits.{past_units, past_numbers}
use Rattle.meaning_laws.proofs.Values.{told, also, nan_is, num_is, text_is, no_values, more_values, value_end}
use Rattle.meaning_laws.proofs.Steps.{R, Keeps, ended, charged, wanted}

code_is : (m : Sizes) (us : List ℕ) → Told m (AreUnits us) → ValueIs m (first_code us)
code_is m [] h = nan_is m
code_is m (u ∷ us) h = num_is m (pos u) (also m (λ q. far u q.0) h)
  where
    far : (n : ℕ) → n < past_units → n < past_numbers
    far n l = omega (arith, l)

place_is : (m : Sizes) (n : ℕ) (o : Option ℕ) → Told m (n < past_numbers) → OfPlace n o → ValueIs m (found o)
place_is m n None h k = num_is m (negsuc 0) (told m (omega arith))
place_is m n (Some i) h k = num_is m (pos i) (also m (λ q. less i n k q) h)
  where
    less : (a b : ℕ) → a ≤ b → b < past_numbers → a < past_numbers
    less a b l q = omega (arith, l, q)

pub char_at_r : (m : Sizes) (x0 : List ℕ) (x1 : Value) (x2 : State) → R m x2 → Told m (IsText x0) → Keeps m (char_at x0 x1 x2)
char_at_r m t i s hr ht = wanted m E4 (not (list_any is_object (i ∷ []))) s _ hr (λ _. with_number_r m (to_number i) (length t) s _ hr (λ z. give_text_r m (length t) (unit_at t z) s hr (also m (λ q. unit_is t z q.0) ht)))

pub char_code_at_r : (m : Sizes) (x0 : List ℕ) (x1 : Value) (x2 : State) → R m x2 → Told m (IsText x0) → Keeps m (char_code_at x0 x1 x2)
char_code_at_r m t i s hr ht = wanted m E4 (not (list_any is_object (i ∷ []))) s _ hr (λ _. with_number_r m (to_number i) (length t) s _ hr (λ z. charged m (length t) s _ hr (ended m _ s hr (value_end m _ (code_is m (unit_at t z) (also m (λ q. unit_is t z q.0) ht))))))

texts_joined : (m : Sizes) (vs : List Value) → ValuesAre m vs → m.texts ≡ true → AreUnits (flat_map to_text vs)
texts_joined m vs h e = each_piece (ValueIs m) (λ u. u < past_units) to_text (λ v q. (to_text_is v (q.text.holds e)).0) vs h.each

pub text_concat_r : (m : Sizes) (x0 : List ℕ) (x1 : List Value) (x2 : State) → R m x2 → Told m (IsText x0) → ValuesAre m x1 → Keeps m (text_concat x0 x1 x2)
text_concat_r m t vs s hr ht hv = wanted m E4 (not (list_any is_object (vs))) s _ hr (λ _. give_text_r m (length t + length (flat_map to_text vs)) (t ++ flat_map to_text vs) s hr (record { holds = λ e. both_units t (flat_map to_text vs) (ht.holds e).0 (texts_joined m vs hv e) }))

pub index_of_r : (m : Sizes) (x0 : List ℕ) (x1 : Value) (x2 : Value) (x3 : State) → R m x3 → Told m (IsText x0) → Keeps m (index_of x0 x1 x2 x3)
index_of_r m t x from s hr ht = wanted m E4 (not (list_any is_object (x ∷ from ∷ []))) s _ hr (λ _. with_number_r m (to_number from) (length t + length (to_text x)) s _ hr (λ z. charged m (length t + length (to_text x)) s _ hr (ended m _ s hr (value_end m _ (place_is m (length t) (slice_get (filter (nat_le (clamped (length t) z)) (positions t (to_text x))) 0) (also m (λ q. q.1) ht) (first_place (length t) _ (each_filtered (λ i. i ≤ length t) (nat_le (clamped (length t) z)) (positions t (to_text x)) (positions_are t (to_text x)))))))))

pub last_index_of_r : (m : Sizes) (x0 : List ℕ) (x1 : Value) (x2 : Value) (x3 : State) → R m x3 → Told m (IsText x0) → Keeps m (last_index_of x0 x1 x2 x3)
last_index_of_r m t x from s hr ht = wanted m E4 (not (list_any is_object (x ∷ from ∷ []))) s _ hr (λ _. with_number_or_r m (pos (length t)) (to_number from) (length t + length (to_text x)) s _ hr (λ z. charged m (length t + length (to_text x)) s _ hr (ended m _ s hr (value_end m _ (place_is m (length t) (last_or None (filter (λ i. nat_le i (clamped (length t) z)) (positions t (to_text x)))) (also m (λ q. q.1) ht) (last_place (length t) None _ tt (each_filtered (λ i. i ≤ length t) (λ i. nat_le i (clamped (length t) z)) (positions t (to_text x)) (positions_are t (to_text x)))))))))

pub text_slice_r : (m : Sizes) (x0 : List ℕ) (x1 : Value) (x2 : Value) (x3 : State) → R m x3 → Told m (IsText x0) → Keeps m (text_slice x0 x1 x2 x3)
text_slice_r m t a b s hr ht = wanted m E4 (not (list_any is_object (a ∷ b ∷ []))) s _ hr (λ _. with_number_r m (to_number a) (length t) s _ hr (λ x. with_optional_r m (pos (length t)) b (length t) s _ hr (λ y. give_text_r m (length t) (slice_range t (from_end (length t) x) (from_end (length t) y)) s hr (also m (λ q. range_is t (from_end (length t) x) (from_end (length t) y) q.0) ht))))

pub substring_r : (m : Sizes) (x0 : List ℕ) (x1 : Value) (x2 : Value) (x3 : State) → R m x3 → Told m (IsText x0) → Keeps m (substring x0 x1 x2 x3)
substring_r m t a b s hr ht = wanted m E4 (not (list_any is_object (a ∷ b ∷ []))) s _ hr (λ _. with_number_r m (to_number a) (length t) s _ hr (λ x. with_optional_r m (pos (length t)) b (length t) s _ hr (λ y. give_text_r m (length t) (between t (clamped (length t) x) (clamped (length t) y)) s hr (also m (λ q. range_is t _ _ q.0) ht))))

pub split_r : (m : Sizes) (x0 : List ℕ) (x1 : Value) (x2 : State) → R m x2 → Told m (IsText x0) → Keeps m (split x0 x1 x2)
split_r m t Undefined s hr ht = charged m _ s _ hr (make_array_r m (Text t ∷ []) 0 s give hr (more_values m (Text t) [] (text_is m t ht) (no_values m)) (λ n g v u q w. ended n (Is v) u q (value_end n v w)))
split_r m t x s hr ht = want_primitives_r m (x ∷ []) s _ hr (charged m (length t + (length (to_text x) + sum_by length (pieces (to_text x) t))) s _ hr (give_texts_r m (pieces (to_text x) t) s hr (also m (λ q. pieces_are (to_text x) t q.0) ht)))

made_units : (w : TextNative) (t : List ℕ) → AreUnits t → AreUnits (made_of w t)
made_units ToLowerCase t h = lower_text t h
made_units ToUpperCase t h = upper_text t h
made_units w t h = h

pub text_method_r : (m : Sizes) (x0 : TextNative) (x1 : List ℕ) (x2 : List Value) (x3 : State) → R m x3 → Told m (IsText x1) → ValuesAre m x2 → Keeps m (text_method x0 x1 x2 x3)
text_method_r m CharAt t vs s hr ht hv = char_at_r m t (nth 0 vs) s hr ht
text_method_r m CharCodeAt t vs s hr ht hv = char_code_at_r m t (nth 0 vs) s hr ht
text_method_r m TextConcat t vs s hr ht hv = text_concat_r m t vs s hr ht hv
text_method_r m IndexOf t vs s hr ht hv = index_of_r m t (nth 0 vs) (nth 1 vs) s hr ht
text_method_r m LastIndexOf t vs s hr ht hv = last_index_of_r m t (nth 0 vs) (nth 1 vs) s hr ht
text_method_r m TextSlice t vs s hr ht hv = text_slice_r m t (nth 0 vs) (nth 1 vs) s hr ht
text_method_r m Substring t vs s hr ht hv = substring_r m t (nth 0 vs) (nth 1 vs) s hr ht
text_method_r m Split t vs s hr ht hv = split_r m t (nth 0 vs) s hr ht
text_method_r m w t vs s hr ht hv = give_text_r m (length t) (made_of w t) s hr (also m (λ q. made_units w t q.0) ht)

pub text_native_r : (m : Sizes) (x0 : TextNative) (x1 : Option Value) (x2 : List Value) (x3 : State) → R m x3 → MaybeIs m x1 → ValuesAre m x2 → Keeps m (text_native x0 x1 x2 x3)
text_native_r m w this vs s hr h1 h2 = on_text_r m this s _ hr h1 (λ t ht. text_method_r m w t vs s hr ht h2)
