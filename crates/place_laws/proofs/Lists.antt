-- The methods of arrays and the prototypes run alike.
use Rattle.std.proofs.Common.{◌≡◌, ℕ, zero, suc, ◌+◌, length, map, take, List, [], ◌∷◌, ◌++◌, Option, Some, None, refl, sym, ap, subst, ◌∙◌}
use Rattle.std.specs.Prelude.{ℤ, pos, ◌-◌, drop, codes, is_some, sum_by, unwrap_or, ◌&&◌, nat_lt, slice_range}
use Rattle.std.specs.Prelude as std
use Rattle.std.specs.List.{flat_map, range_with_len, join_by}
use Rattle.std.specs.Option.{option_map_or}
use Rattle.code_units.specs.Permitted.{is_permitted}
use Rattle.widget_meaning.specs.Limits.{max_length}
use Rattle.widget_meaning.specs.Values.{Value, Undefined, Null, Truth, NaN, Num, Text, Own, Host, Is, E3, E4, E7, to_text, to_number, nth}
use Rattle.widget_meaning.specs.OwnState.{State, Cell, array_length, kind_of, cell_at, new_array, with_cell, with_new_cell}
use Rattle.widget_meaning.specs.Plan.{Plan, Call, charge}
use Rattle.widget_meaning.specs.Costs.{cost, slots_cost, pay, give, want}
use Rattle.widget_meaning.specs.Properties.{own_property, is_function, cut_to}
use Rattle.permitted_table.specs.declared.native.ListNative.{ListNative}
use Rattle.permitted_table.specs.declared.native.ListNative.TheVariants.{ListConcat, Join, Pop, Push, Shift, Unshift, Reverse, Sort, ListSlice, Splice, ForEach, MapNative, FilterNative}
use Rattle.permitted_table.specs.declared.native.PrototypeNative.{PrototypeNative}
use Rattle.permitted_table.specs.declared.native.PrototypeNative.TheVariants.{HasOwnProperty, ObjectToString, ArrayToString, FunctionToString, TextToString, NumberToString, BooleanToString}
use Rattle.widget_meaning.specs.NativeForms.{want_primitives, with_number, with_optional, give_text, make_array, element, elements, numbered_pairs, from_end, clamped}
use Rattle.widget_meaning.specs.ListChanges.{array_elements, list_extra, with_elements, new_indexes, pop, pushed, push, shift, unshift, reverse, sorted, sort, splice, change, without_order, spliced, splice_count}
use Rattle.widget_meaning.specs.ListNatives.{joined_text, separator, join, list_concat, list_slice, call_each, kept, over, list_method, list_native}
use Rattle.widget_meaning.specs.PrototypeNatives.{has_own_property, give_made, function_to_string, array_to_string, number_text, is_radix, in_radix, number_to_string, boolean_to_string, prototype_native}
use Rattle.place_laws.specs.Bare.{bare_cell}
use Rattle.place_laws.proofs.Near.{N, bare, itself, moved, born, written, births, cell_bare, own_bare, array_bare, function_bare}
use Rattle.place_laws.proofs.Alike.{Alike, ended, gave, got, job, either, value, charged, paid, made_text, faulted, wanted}
use Rattle.place_laws.proofs.Natives.{want_primitives_a, want_function_a, on_text_a, on_array_a, on_object_a, with_number_a, with_optional_a, give_text_a, make_array_a}

-- ## What is read of an array

pub elements_bare : (s : State) (n len : ℕ) → elements (bare s) n len ≡ elements s n len
elements_bare s n len = ap (λ (c : Cell). map (element c.pairs) (range_with_len 0 len)) (cell_bare s n)

array_elements_bare : (s : State) (v : Value) → array_elements (bare s) v ≡ array_elements s v
array_elements_bare s (Own n) =
    ap (λ (o : Option ℕ). option_map_or (elements (bare s) n) o (Own n ∷ [])) (array_bare s (Own n))
    ∙ by_length (array_length (kind_of s (Own n)))
  where
    by_length : (o : Option ℕ) → option_map_or (elements (bare s) n) o (Own n ∷ []) ≡ option_map_or (elements s n) o (Own n ∷ [])
    by_length None = refl
    by_length (Some len) = elements_bare s n len
array_elements_bare s (Host h) = refl
array_elements_bare s Undefined = refl
array_elements_bare s Null = refl
array_elements_bare s (Truth b) = refl
array_elements_bare s NaN = refl
array_elements_bare s (Num z) = refl
array_elements_bare s (Text t) = refl

all_elements_bare : (s : State) (vs : List Value) → flat_map (array_elements (bare s)) vs ≡ flat_map (array_elements s) vs
all_elements_bare s [] = refl
all_elements_bare s (v ∷ vs) = λ i. array_elements_bare s v i ++ all_elements_bare s vs i

concat_bare : (s : State) (n len : ℕ) (vs : List Value) → elements (bare s) n len ++ flat_map (array_elements (bare s)) vs ≡ elements s n len ++ flat_map (array_elements s) vs
concat_bare s n len vs = λ i. elements_bare s n len i ++ all_elements_bare s vs i

pub extra_bare : (len : ℕ) (vs : List Value) (s : State) → list_extra len vs (bare s) ≡ list_extra len vs s
extra_bare len vs s = λ i. len + (sum_by (λ v. unwrap_or (array_bare s v i) 0) vs + length vs)

-- an object is written by what it was
rewritten : (f : Cell → Cell) → ((c : Cell) → f (bare_cell c) ≡ bare_cell (f c)) → (s z : State) (n : ℕ) → N s z → N (with_cell s n (f (cell_at s n))) (with_cell z n (f (cell_at z n)))
rewritten f same s z n e = moved (λ y. N (with_cell s n (f (cell_at s n))) (with_cell y n (f (cell_at y n)))) s z e
    (subst (λ (c : Cell). N (with_cell s n (f (cell_at s n))) (with_cell (bare s) n c)) (sym (ap f (cell_bare s n) ∙ same (cell_at s n))) (written s (bare s) n (f (cell_at s n)) (itself s)))

spliced_end : (n : ℕ) (taken left : List Value) (t y : State) → N t y
    → Alike (give (Own (length t.own.heap)) (with_cell (with_new_cell t (new_array (length taken) (numbered_pairs 0 taken))) n (with_elements (cell_at t n) left)))
    (give (Own (length y.own.heap)) (with_cell (with_new_cell y (new_array (length taken) (numbered_pairs 0 taken))) n (with_elements (cell_at y n) left)))
spliced_end n taken left t y e = moved (λ z.
    Alike (give (Own (length t.own.heap)) (with_cell (with_new_cell t (new_array (length taken) (numbered_pairs 0 taken))) n (with_elements (cell_at t n) left)))
    (give (Own (length z.own.heap)) (with_cell (with_new_cell z (new_array (length taken) (numbered_pairs 0 taken))) n (with_elements (cell_at z n) left)))) t y e
    (gave _ _ _ _ (ap (λ m. Is (Own m)) (births t))
    (subst (λ (c : Cell). N (with_cell (with_new_cell t (new_array (length taken) (numbered_pairs 0 taken))) n (with_elements (cell_at t n) left)) (with_cell (with_new_cell (bare t) (new_array (length taken) (numbered_pairs 0 taken))) n (with_elements c left))) (sym (cell_bare t n))
    (written _ _ n (with_elements (cell_at t n) left) (born t (bare t) (new_array (length taken) (numbered_pairs 0 taken)) (itself t)))))

-- `splice`, where the extra and the elements are at hand
abbrev splice_by : ℕ → ℕ → List Value → ℕ → List Value → State → Plan
splice_by n len vs extra xs s =
    want_primitives (take 2 vs) s (with_number (to_number (nth 0 vs)) extra s (λ a. splice_count len (drop 1 vs) extra s
    (λ count. charge extra s
    (spliced n xs (from_end len a) (clamped (len - from_end len a) count) (drop 2 vs) s))))

pub change_a : (x0 : ℕ) (x1 : List Value) (x2 : Value) (x3 z3 : State) → N x3 z3 → Alike (change x0 x1 x2 x3) (change x0 x1 x2 z3)
change_a n vs v s s' near =
    moved (λ y. Alike (change n vs v s) (change n vs v y)) s s' near
    (subst (λ (c : Cell). Alike (change n vs v s) (pay (slots_cost (new_indexes c (length vs))) (bare s) (λ t. give v (with_cell t n (with_elements (cell_at t n) vs))))) (sym (cell_bare s n))
    (paid (slots_cost (new_indexes (cell_at s n) (length vs))) s (bare s) _ _ (itself s) (λ t y u. ended (Is v) _ _ (rewritten (λ c. with_elements c vs) (λ c. refl) t y n u))))

pub pop_a : (x0 : ℕ) (x1 : ℕ) (x2 : List Value) (x3 z3 : State) → N x3 z3 → Alike (pop x0 x1 x2 x3) (pop x0 x1 x2 z3)
pop_a n zero vs s s' near = charged (length vs) s s' _ _ near (ended (Is Undefined) s s' near)
pop_a n (suc len) vs s s' near = charged (length vs) s s' _ _ near
    (moved (λ y. Alike (give (element (cell_at s n).pairs len) (with_cell s n (cut_to (cell_at s n) len))) (give (element (cell_at y n).pairs len) (with_cell y n (cut_to (cell_at y n) len)))) s s' near
    (gave _ _ _ _ (ap (λ (c : Cell). Is (element c.pairs len)) (cell_bare s n)) (rewritten (λ c. cut_to c len) (λ c. refl) s (bare s) n (itself s))))

pub push_a : (x0 : ℕ) (x1 : ℕ) (x2 : List Value) (x3 z3 : State) → N x3 z3 → Alike (push x0 x1 x2 x3) (push x0 x1 x2 z3)
push_a n len vs s s' near = either (nat_lt max_length (len + length vs)) _ _ _ _ (faulted E7 s s' near)
    (charged (length vs) s s' _ _ near (paid (slots_cost (length vs)) s s' _ _ near (λ t y u. ended _ _ _ (rewritten (λ c. pushed c len vs) (λ c. refl) t y n u))))

pub shift_a : (x0 : ℕ) (x1 : ℕ) (x2 : List Value) (x3 z3 : State) → N x3 z3 → Alike (shift x0 x1 x2 x3) (shift x0 x1 x2 z3)
shift_a n len vs s s' near =
    moved (λ y. Alike (shift n len vs s) (shift n len vs y)) s s' near
    (subst (λ k. Alike (shift n len vs s) (charge k (bare s) (change n (drop 1 (elements (bare s) n len)) (nth 0 (elements (bare s) n len)) (bare s)))) (sym (extra_bare len vs s))
    (subst (λ (xs : List Value). Alike (shift n len vs s) (charge (list_extra len vs s) (bare s) (change n (drop 1 xs) (nth 0 xs) (bare s)))) (sym (elements_bare s n len))
    (charged (list_extra len vs s) s (bare s) _ _ (itself s) (change_a n _ _ s (bare s) (itself s)))))

pub unshift_a : (x0 : ℕ) (x1 : ℕ) (x2 : List Value) (x3 z3 : State) → N x3 z3 → Alike (unshift x0 x1 x2 x3) (unshift x0 x1 x2 z3)
unshift_a n len vs s s' near = either (nat_lt max_length (len + length vs)) _ _ _ _ (faulted E7 s s' near)
    (moved (λ y. Alike (charge (list_extra len vs s) s (change n (vs ++ elements s n len) (Num (pos (len + length vs))) s)) (charge (list_extra len vs y) y (change n (vs ++ elements y n len) (Num (pos (len + length vs))) y))) s s' near
    (subst (λ k. Alike (charge (list_extra len vs s) s (change n (vs ++ elements s n len) (Num (pos (len + length vs))) s)) (charge k (bare s) (change n (vs ++ elements (bare s) n len) (Num (pos (len + length vs))) (bare s)))) (sym (extra_bare len vs s))
    (subst (λ (xs : List Value). Alike (charge (list_extra len vs s) s (change n (vs ++ elements s n len) (Num (pos (len + length vs))) s)) (charge (list_extra len vs s) (bare s) (change n (vs ++ xs) (Num (pos (len + length vs))) (bare s)))) (sym (elements_bare s n len))
    (charged (list_extra len vs s) s (bare s) _ _ (itself s) (change_a n _ _ s (bare s) (itself s))))))

pub reverse_a : (x0 : ℕ) (x1 : ℕ) (x2 : List Value) (x3 z3 : State) → N x3 z3 → Alike (reverse x0 x1 x2 x3) (reverse x0 x1 x2 z3)
reverse_a n len vs s s' near =
    moved (λ y. Alike (reverse n len vs s) (reverse n len vs y)) s s' near
    (subst (λ k. Alike (reverse n len vs s) (charge k (bare s) (change n (std.reverse (elements (bare s) n len)) (Own n) (bare s)))) (sym (extra_bare len vs s))
    (subst (λ (xs : List Value). Alike (reverse n len vs s) (charge (list_extra len vs s) (bare s) (change n (std.reverse xs) (Own n) (bare s)))) (sym (elements_bare s n len))
    (charged (list_extra len vs s) s (bare s) _ _ (itself s) (change_a n _ _ s (bare s) (itself s)))))

pub without_order_a : (x0 : Value) (x1 z1 : State) (x2 z2 : Plan) → N x1 z1 → Alike x2 z2 → Alike (without_order x0 x1 x2) (without_order x0 z1 z2)
without_order_a Undefined s s' p p' near f0 = f0
without_order_a v s s' p p' near f0 = faulted E4 s s' near

pub sort_a : (x0 : ℕ) (x1 : ℕ) (x2 : List Value) (x3 z3 : State) → N x3 z3 → Alike (sort x0 x1 x2 x3) (sort x0 x1 x2 z3)
sort_a n len vs s s' near =
    moved (λ y. Alike (sort n len vs s) (sort n len vs y)) s s' near
    (subst (λ k. Alike (sort n len vs s) (without_order (nth 0 vs) (bare s) (want_primitives (elements (bare s) n len) (bare s) (charge k (bare s) (change n (sorted (elements (bare s) n len)) (Own n) (bare s)))))) (sym (extra_bare len vs s))
    (subst (λ (xs : List Value). Alike (sort n len vs s) (without_order (nth 0 vs) (bare s) (want_primitives xs (bare s) (charge (list_extra len vs s) (bare s) (change n (sorted xs) (Own n) (bare s)))))) (sym (elements_bare s n len))
    (without_order_a (nth 0 vs) s (bare s) _ _ (itself s) (want_primitives_a (elements s n len) s (bare s) _ _ (itself s)
    (charged (list_extra len vs s) s (bare s) _ _ (itself s) (change_a n _ _ s (bare s) (itself s)))))))

pub spliced_a : (x0 : ℕ) (x1 : List Value) (x2 : ℕ) (x3 : ℕ) (x4 : List Value) (x5 z5 : State) → N x5 z5 → Alike (spliced x0 x1 x2 x3 x4 x5) (spliced x0 x1 x2 x3 x4 z5)
spliced_a n vs at count new s s' near =
    let taken : List Value = take count (drop at vs) in
    let left : List Value = take at vs ++ (new ++ drop (at + count) vs) in
    moved (λ y. Alike (spliced n vs at count new s) (spliced n vs at count new y)) s s' near
    (subst (λ (c : Cell). Alike (spliced n vs at count new s) (pay (cost 0 1 (length taken + new_indexes c (length left)) 0) (bare s) (λ t. give (Own (length t.own.heap)) (with_cell (with_new_cell t (new_array (length taken) (numbered_pairs 0 taken))) n (with_elements (cell_at t n) left))))) (sym (cell_bare s n))
    (paid (cost 0 1 (length taken + new_indexes (cell_at s n) (length left)) 0) s (bare s) _ _ (itself s) (λ t y u. spliced_end n taken left t y u)))

pub splice_count_a : (x0 : ℕ) (x1 : List Value) (x2 : ℕ) (x3 z3 : State) (x4 z4 : ℤ → Plan) → N x3 z3 → ((y0 : ℤ) → Alike (x4 y0) (z4 y0)) → Alike (splice_count x0 x1 x2 x3 x4) (splice_count x0 x1 x2 z3 z4)
splice_count_a len [] extra s s' k k' near f0 = f0 (pos len)
splice_count_a len (v ∷ vs) extra s s' k k' near f0 = with_number_a (to_number v) extra s s' k k' near f0

pub splice_a : (x0 : ℕ) (x1 : ℕ) (x2 : List Value) (x3 z3 : State) → N x3 z3 → Alike (splice x0 x1 x2 x3) (splice x0 x1 x2 z3)
splice_a n len vs s s' near =
    moved (λ y. Alike (splice n len vs s) (splice n len vs y)) s s' near
    (subst (λ k. Alike (splice n len vs s) (splice_by n len vs k (elements (bare s) n len) (bare s))) (sym (extra_bare len vs s))
    (subst (λ (xs : List Value). Alike (splice n len vs s) (splice_by n len vs (list_extra len vs s) xs (bare s))) (sym (elements_bare s n len))
    (want_primitives_a (take 2 vs) s (bare s) _ _ (itself s) (with_number_a (to_number (nth 0 vs)) (list_extra len vs s) s (bare s) _ _ (itself s) (λ a. splice_count_a len (drop 1 vs) (list_extra len vs s) s (bare s) _ _ (itself s) (λ count.
    charged (list_extra len vs s) s (bare s) _ _ (itself s) (spliced_a n (elements s n len) _ _ _ s (bare s) (itself s))))))))

pub list_concat_a : (x0 : ℕ) (x1 : ℕ) (x2 : List Value) (x3 z3 : State) → N x3 z3 → Alike (list_concat x0 x1 x2 x3) (list_concat x0 x1 x2 z3)
list_concat_a n len vs s s' near =
    moved (λ y. Alike (list_concat n len vs s) (list_concat n len vs y)) s s' near
    (subst (λ k. Alike (list_concat n len vs s) (charge k (bare s) (make_array (elements (bare s) n len ++ flat_map (array_elements (bare s)) vs) 0 (bare s) give))) (sym (extra_bare len vs s))
    (subst (λ (xs : List Value). Alike (list_concat n len vs s) (charge (list_extra len vs s) (bare s) (make_array xs 0 (bare s) give))) (sym (concat_bare s n len vs))
    (charged (list_extra len vs s) s (bare s) _ _ (itself s) (make_array_a _ 0 s (bare s) give give (itself s) (λ v t y u. ended (Is v) t y u)))))

pub join_a : (x0 : ℕ) (x1 : ℕ) (x2 : Value) (x3 : ℕ) (x4 z4 : State) → N x4 z4 → Alike (join x0 x1 x2 x3 x4) (join x0 x1 x2 x3 z4)
join_a n len x extra s s' near =
    moved (λ y. Alike (join n len x extra s) (join n len x extra y)) s s' near
    (subst (λ (xs : List Value). Alike (join n len x extra s) (want_primitives (x ∷ xs) (bare s) (give_text extra (join_by joined_text (separator x) xs) (bare s)))) (sym (elements_bare s n len))
    (want_primitives_a (x ∷ elements s n len) s (bare s) _ _ (itself s) (give_text_a extra _ s (bare s) (itself s))))

pub list_slice_a : (x0 : ℕ) (x1 : ℕ) (x2 : Value) (x3 : Value) (x4 : ℕ) (x5 z5 : State) → N x5 z5 → Alike (list_slice x0 x1 x2 x3 x4 x5) (list_slice x0 x1 x2 x3 x4 z5)
list_slice_a n len a b extra s s' near =
    moved (λ y. Alike (list_slice n len a b extra s) (list_slice n len a b extra y)) s s' near
    (subst (λ (xs : List Value). Alike (list_slice n len a b extra s) (want_primitives (a ∷ b ∷ []) (bare s) (with_number (to_number a) extra (bare s) (λ x. with_optional (pos len) b extra (bare s) (λ y. charge extra (bare s) (make_array (slice_range xs (from_end len x) (from_end len y)) 0 (bare s) give)))))) (sym (elements_bare s n len))
    (want_primitives_a (a ∷ b ∷ []) s (bare s) _ _ (itself s) (with_number_a (to_number a) extra s (bare s) _ _ (itself s) (λ x. with_optional_a (pos len) b extra s (bare s) _ _ (itself s) (λ y.
    charged extra s (bare s) _ _ (itself s) (make_array_a _ 0 s (bare s) give give (itself s) (λ v t z u. ended (Is v) t z u)))))))

pub call_each_a : (x0 : Value) (x1 : List Value) (x2 : ℕ) (x3 : List Value) (x4 : ℕ) (x5 z5 : State) (x6 z6 : List Value → State → Plan) → N x5 z5 → ((y0 : List Value) (y1 w1 : State) → N y1 w1 → Alike (x6 y0 y1) (z6 y0 w1)) → Alike (call_each x0 x1 x2 x3 x4 x5 x6) (call_each x0 x1 x2 x3 x4 z5 z6)
call_each_a f [] i ws d s s' k k' near f0 = f0 ws s s' near
call_each_a f (v ∷ vs) i ws d s s' k k' near f0 = job (Call f None (v ∷ Num (pos i) ∷ []) d) s s' _ _ near (λ o t y u. value o t y _ _ u (λ w. call_each_a f vs (i + 1) (ws ++ w ∷ []) d t y k k' u f0))

pub over_a : (x0 : ℕ) (x1 : ℕ) (x2 : Value) (x3 : ℕ) (x4 z4 : State) (x5 z5 : List Value → State → Plan) → N x4 z4 → ((y0 : List Value) (y1 w1 : State) → N y1 w1 → Alike (x5 y0 y1) (z5 y0 w1)) → Alike (over x0 x1 x2 x3 x4 x5) (over x0 x1 x2 x3 z4 z5)
over_a n len f d s s' k k' near f0 = want_function_a f s s' _ _ near (charged len s s' _ _ near
    (moved (λ y. Alike (call_each f (elements s n len) 0 [] d s k) (call_each f (elements y n len) 0 [] d y k')) s s' near
    (subst (λ (xs : List Value). Alike (call_each f (elements s n len) 0 [] d s k) (call_each f xs 0 [] d (bare s) k')) (sym (elements_bare s n len))
    (call_each_a f (elements s n len) 0 [] d s (bare s) k k' (itself s) f0))))

pub list_method_a : (x0 : ListNative) (x1 : ℕ) (x2 : ℕ) (x3 : List Value) (x4 : ℕ) (x5 z5 : State) → N x5 z5 → Alike (list_method x0 x1 x2 x3 x4 x5) (list_method x0 x1 x2 x3 x4 z5)
list_method_a ListConcat n len vs d s s' near = list_concat_a n len vs s s' near
list_method_a Join n len vs d s s' near =
    moved (λ y. Alike (join n len (nth 0 vs) (list_extra len vs s) s) (join n len (nth 0 vs) (list_extra len vs y) y)) s s' near
    (subst (λ k. Alike (join n len (nth 0 vs) (list_extra len vs s) s) (join n len (nth 0 vs) k (bare s))) (sym (extra_bare len vs s)) (join_a n len (nth 0 vs) (list_extra len vs s) s (bare s) (itself s)))
list_method_a ListSlice n len vs d s s' near =
    moved (λ y. Alike (list_slice n len (nth 0 vs) (nth 1 vs) (list_extra len vs s) s) (list_slice n len (nth 0 vs) (nth 1 vs) (list_extra len vs y) y)) s s' near
    (subst (λ k. Alike (list_slice n len (nth 0 vs) (nth 1 vs) (list_extra len vs s) s) (list_slice n len (nth 0 vs) (nth 1 vs) k (bare s))) (sym (extra_bare len vs s)) (list_slice_a n len (nth 0 vs) (nth 1 vs) (list_extra len vs s) s (bare s) (itself s)))
list_method_a ForEach n len vs d s s' near = over_a n len (nth 0 vs) d s s' _ _ near (λ ws t y u. ended (Is Undefined) t y u)
list_method_a MapNative n len vs d s s' near = over_a n len (nth 0 vs) d s s' _ _ near (λ ws t y u. make_array_a ws 0 t y give give u (λ v w z n. ended (Is v) w z n))
list_method_a FilterNative n len vs d s s' near =
    moved (λ y. Alike (list_method FilterNative n len vs d s) (list_method FilterNative n len vs d y)) s s' near
    (subst (λ (xs : List Value). Alike (list_method FilterNative n len vs d s) (over n len (nth 0 vs) d (bare s) (λ ws t. make_array (kept xs ws) 0 t give))) (sym (elements_bare s n len))
    (over_a n len (nth 0 vs) d s (bare s) _ _ (itself s) (λ ws t y u. make_array_a (kept (elements s n len) ws) 0 t y give give u (λ v w z n. ended (Is v) w z n))))
list_method_a Pop n len vs d s s' near = pop_a n len vs s s' near
list_method_a Push n len vs d s s' near = push_a n len vs s s' near
list_method_a Shift n len vs d s s' near = shift_a n len vs s s' near
list_method_a Unshift n len vs d s s' near = unshift_a n len vs s s' near
list_method_a Reverse n len vs d s s' near = reverse_a n len vs s s' near
list_method_a Sort n len vs d s s' near = sort_a n len vs s s' near
list_method_a Splice n len vs d s s' near = splice_a n len vs s s' near

pub list_native_a : (x0 : ListNative) (x1 : Option Value) (x2 : List Value) (x3 : ℕ) (x4 z4 : State) → N x4 z4 → Alike (list_native x0 x1 x2 x3 x4) (list_native x0 x1 x2 x3 z4)
list_native_a w this vs d s s' near = on_array_a this s s' _ _ near (λ n len. list_method_a w n len vs d s s' near)

pub has_own_property_a : (x0 : Option Value) (x1 : Value) (x2 z2 : State) → N x2 z2 → Alike (has_own_property x0 x1 x2) (has_own_property x0 x1 z2)
has_own_property_a this x s s' near = on_object_a this s s' _ _ near (λ o. want_primitives_a (x ∷ []) s s' _ _ near
    (got (λ t. Truth (is_some (own_property t o (to_text x)) && is_permitted (to_text x))) (λ t. ap (λ (r : Option Value). Truth (is_some r && is_permitted (to_text x))) (own_bare t o (to_text x))) s s' near))

pub give_made_a : (x0 : List ℕ) (x1 z1 : State) → N x1 z1 → Alike (give_made x0 x1) (give_made x0 z1)
give_made_a t s s' near = made_text t s s' _ _ near (λ v y u. ended (Is (Text t)) v y u)

pub function_to_string_a : (x0 : Option Value) (x1 z1 : State) → N x1 z1 → Alike (function_to_string x0 x1) (function_to_string x0 z1)
function_to_string_a (Some v) s s' near =
    moved (λ y. Alike (function_to_string (Some v) s) (function_to_string (Some v) y)) s s' near
    (subst (λ b. Alike (function_to_string (Some v) s) (want E3 b (bare s) (give_made (codes "[function]") (bare s)))) (sym (function_bare s v)) (wanted E3 (is_function s v) s (bare s) _ _ (itself s) (give_made_a (codes "[function]") s (bare s) (itself s))))
function_to_string_a None s s' near = faulted E3 s s' near

pub array_to_string_a : (x0 : ℕ) (x1 : ℕ) (x2 z2 : State) → N x2 z2 → Alike (array_to_string x0 x1 x2) (array_to_string x0 x1 z2)
array_to_string_a n len s s' near = join_a n len (Text (codes ",")) (len + 1) s s' near

pub in_radix_a : (x0 : Value) (x1 : Value) (x2 z2 : State) → N x2 z2 → Alike (in_radix x0 x1 x2) (in_radix x0 x1 z2)
in_radix_a v radix s s' near = want_primitives_a (radix ∷ []) s s' _ _ near (with_optional_a (pos 10) radix 0 s s' _ _ near (λ r. wanted E7 (is_radix r) s s' _ _ near (give_made_a (number_text v r) s s' near)))

pub number_to_string_a : (x0 : Option Value) (x1 : Value) (x2 z2 : State) → N x2 z2 → Alike (number_to_string x0 x1 x2) (number_to_string x0 x1 z2)
number_to_string_a (Some NaN) radix s s' near = in_radix_a NaN radix s s' near
number_to_string_a (Some (Num z)) radix s s' near = in_radix_a (Num z) radix s s' near
number_to_string_a this radix s s' near = faulted E3 s s' near

pub boolean_to_string_a : (x0 : Option Value) (x1 z1 : State) → N x1 z1 → Alike (boolean_to_string x0 x1) (boolean_to_string x0 z1)
boolean_to_string_a (Some (Truth b)) s s' near = give_made_a (to_text (Truth b)) s s' near
boolean_to_string_a this s s' near = faulted E3 s s' near

pub prototype_native_a : (x0 : PrototypeNative) (x1 : Option Value) (x2 : List Value) (x3 : ℕ) (x4 z4 : State) → N x4 z4 → Alike (prototype_native x0 x1 x2 x3 x4) (prototype_native x0 x1 x2 x3 z4)
prototype_native_a HasOwnProperty this vs d s s' near = has_own_property_a this (nth 0 vs) s s' near
prototype_native_a ObjectToString this vs d s s' near = on_object_a this s s' _ _ near (λ o. give_made_a (codes "[object Object]") s s' near)
prototype_native_a ArrayToString this vs d s s' near = on_array_a this s s' _ _ near (λ n len. array_to_string_a n len s s' near)
prototype_native_a FunctionToString this vs d s s' near = function_to_string_a this s s' near
prototype_native_a TextToString this vs d s s' near = on_text_a this s s' _ _ near (λ t. ended (Is (Text t)) s s' near)
prototype_native_a NumberToString this vs d s s' near = number_to_string_a this (nth 0 vs) s s' near
prototype_native_a BooleanToString this vs d s s' near = boolean_to_string_a this s s' near
