-- The natives of ADSAFE keep what is there.
use Rattle.meaning_laws.proofs.Each.{every}
use Rattle.std.specs.Prelude.{ℕ, List, length, Option, ℤ, pos, nat_le, suc, [], ◌∷◌, Some, true, not, nat_lt, ◌≡◌}
use Rattle.widget_meaning.specs.Limits.{max_timers, max_chain, max_nesting, max_post}
use Rattle.widget_meaning.specs.Values.{Value, Undefined, Num, Text, Own, E11, Null, Truth, NaN, Host, Is, E4, E8, to_text, nth, is_object}
use Rattle.widget_meaning.specs.OwnState.{State, kind_of, new_object, Pairs, cell_at}
use Rattle.widget_meaning.specs.Plan.{Plan}
use Rattle.permitted_table.specs.declared.native.AdsafeNative.{AdsafeNative}
use Rattle.permitted_table.specs.declared.native.AdsafeNative.TheVariants.{Create, FromJson, GetProperty, HasProperty, IsArray, KeysOf, Later, LogValue, Post, RemoveProperty, SetProperty, ToJson}
use Rattle.widget_meaning.specs.JsonTexts.{to_json, give_json, Written, Wrote, NoJson, TooLong, value_text}
use Rattle.widget_meaning.specs.AdsafeNatives.{want_name, get_native, has_native, set_native, remove_native, create_from, create, keys_native, start_timer, later_in, later, log_text, log_native, keep_post, post, adsafe_native, with_timer, chain_from, is_prototype_kind, with_entry, with_post}
use Rattle.std.specs.List.{list_any, AllByRecursion, list_all}
use Rattle.code_units.specs.Permitted.{is_permitted}
use Rattle.std.proofs.lemmas.Bool.{ltb-false, and_parts}
use Rattle.widget_meaning.specs.Properties.{keys}
use Rattle.widget_meaning.specs.Costs.{with_counts, give}
use Rattle.meaning_laws.proofs.Chains.{counted_short}
use Rattle.meaning_laws.proofs.Forms.{permitted_are, get_is, put_r, delete_r}
use Rattle.meaning_laws.proofs.Natives.{give_texts_r, want_function_r}
use Rattle.meaning_laws.proofs.Json.{from_json_r}
use Rattle.meaning_laws.specs.There.{Sizes, Told, ValueIs, ValuesAre}
use Rattle.meaning_laws.specs.Texts.{AreUnits, AreAllUnits, IsText, AreTexts, AreNames}
use Rattle.permitted_table.specs.declared.native.HostEntry.{HostEntry}
use Rattle.permitted_table.specs.declared.native.HostEntry.TheVariants as host
use Rattle.permitted_table.specs.declared.native.NativeId.TheVariants as natives
use Rattle.permitted_table.specs.declared.native.GlobalNative.TheVariants as globals
use Rattle.widget_meaning.specs.HostTable.{host_pairs}
use Rattle.std.proofs.Common.{refl, arith}
use Rattle.meaning_laws.proofs.Units.{is_text, tested, made_is}
use Rattle.meaning_laws.proofs.WrittenJson.{OfWritten, PairHasTexts, value_text_is}
use Rattle.meaning_laws.proofs.Values.{told, also, text_told, undefined_is, truth_is, text_is, nth_is, no_pairs, value_end}
use Rattle.meaning_laws.proofs.Steps.{R, Keeps, ended, halted, either, by_test, charged, paid, made, made_text, faulted, wanted, waits}

timer_kept : (m : Sizes) (s : State) (f : Value) (z : ℤ) → R m s → ValueIs m f → R m (with_timer s f z)
timer_kept m s (Own n) z h q = waits m s.own.heap s.own.scopes s.own.kept s.own.timers s.own.forest s.own.focus s.own.counts.slots _ h q.born
timer_kept m s Undefined z h q = h
timer_kept m s Null z h q = h
timer_kept m s (Truth b) z h q = h
timer_kept m s NaN z h q = h
timer_kept m s (Num x) z h q = h
timer_kept m s (Text t) z h q = h
timer_kept m s (Host e) z h q = h

pub give_json_r : (m : Sizes) (x0 : Written) (x1 : State) → R m x1 → Told m (OfWritten x0) → Keeps m (give_json x0 x1)
give_json_r m (Wrote t) s hr ht = charged m _ s _ hr (made_text m t s (give (Text t)) hr (λ a u due e. ended m (Is (Text t)) (with_counts s a) u (value_end m _ (text_is m t (also m (λ q. made_is t q e) ht)))))
give_json_r m NoJson s hr ht = search (faulted)
give_json_r m TooLong s hr ht = charged m _ s _ hr (halted m _ s hr)

-- names and values of an object
pairs_told : (m : Sizes) (ps : Pairs) → m.texts ≡ true → AreNames ps → AllByRecursion (λ p. ValueIs m p.1) ps → AllByRecursion PairHasTexts ps
pairs_told m [] e h k = tt
pairs_told m (p ∷ ps) e h k = ((h.0, k.0.text.holds e), pairs_told m ps e h.1 k.1)

pub to_json_r : (m : Sizes) (x0 : Value) (x1 : State) → R m x1 → ValueIs m x0 → Keeps m (to_json x0 x1)
to_json_r m v s hr hv = give_json_r m (value_text max_nesting s v []) s hr
    (record { holds = λ e. value_text_is s (λ n. pairs_told m (cell_at s n).pairs e ((hr.there.objects n).names.holds e) (hr.there.objects n).pairs.each) max_nesting v [] (hv.text.holds e) tt })

pub want_name_r : (m : Sizes) (x0 : Value) (x1 : State) (x2 : (List ℕ → Plan)) → R m x1 → ValueIs m x0 → ((y0 : List ℕ) → Told m (IsText y0) → Keeps m (x2 y0)) → Keeps m (want_name x0 x1 x2)
want_name_r m (Text t) s k hr h0 f0 = wanted m E8 (is_permitted t) s _ hr (λ e. f0 t h0.text)
want_name_r m (Num z) s k hr h0 f0 = wanted m E8 (is_permitted (to_text (Num z))) s _ hr (λ e. f0 (to_text (Num z)) (text_told m (Num z) h0))
want_name_r m v s k hr h0 f0 = search (faulted)

pub get_native_r : (m : Sizes) (x0 : Value) (x1 : Value) (x2 : State) → R m x2 → ValueIs m x0 → ValueIs m x1 → Keeps m (get_native x0 x1 x2)
get_native_r m o n s hr h0 h1 = wanted m E4 (is_object o) s _ hr (λ e. want_name_r m n s _ hr h1 (λ x hx. ended m _ s hr (value_end m _ (get_is m s o x hr h0))))

pub has_native_r : (m : Sizes) (x0 : Value) (x1 : Value) (x2 : State) → R m x2 → ValueIs m x1 → Keeps m (has_native x0 x1 x2)
has_native_r m o n s hr h1 = wanted m E4 (is_object o) s _ hr (λ e. want_name_r m n s _ hr h1 (λ x hx. ended m _ s hr (value_end m _ (truth_is m _))))

pub set_native_r : (m : Sizes) (x0 : Value) (x1 : Value) (x2 : Value) (x3 : State) → R m x3 → ValueIs m x1 → ValueIs m x2 → Keeps m (set_native x0 x1 x2 x3)
set_native_r m o n v s hr h1 h2 = wanted m E4 (is_object o) s _ hr (λ e. want_name_r m n s _ hr h1 (λ x hx. put_r m o x v s _ hr hx h2 (λ t u. ended m _ t u (value_end m _ (undefined_is m)))))

pub remove_native_r : (m : Sizes) (x0 : Value) (x1 : Value) (x2 : State) → R m x2 → ValueIs m x1 → Keeps m (remove_native x0 x1 x2)
remove_native_r m o n s hr h1 = wanted m E4 (is_object o) s _ hr (λ e. want_name_r m n s _ hr h1 (λ x hx. delete_r m o x s _ hr (λ b t u. ended m _ t u (value_end m _ (undefined_is m)))))

pub create_from_r : (m : Sizes) (x0 : Value) (x1 : State) → R m x1 → ValueIs m x0 → Keeps m (create_from x0 x1)
create_from_r m o s hr h0 = by_test m _ _ _ (λ e. search (faulted)) (λ e. made m (new_object o []) 0 s give hr
    (record { kind = tt; prototype = h0; pairs = no_pairs m; names = told m tt }) (counted_short max_chain s (Some o) (ltb-false max_chain (chain_from (suc max_chain) s (Some o)) e)) (record { room = omega arith; len = tt; count = tt })
    (λ n g v t u w. ended n (Is v) t u (value_end n v w)))

pub create_r : (m : Sizes) (x0 : Value) (x1 : State) → R m x1 → ValueIs m x0 → Keeps m (create x0 x1)
create_r m o s hr h0 = wanted m E4 (is_prototype_kind (kind_of s o)) s _ hr (λ e. create_from_r m o s hr h0)

tested_names : (ps : Pairs) → list_all (λ p. is_text p.0) ps ≡ true → AreNames ps
tested_names [] e = tt
tested_names (p ∷ ps) e = let q = and_parts (is_text p.0) (list_all (λ r. is_text r.0) ps) e in (tested p.0 q.0, tested_names ps q.1)

host_names : (h : HostEntry) → AreNames (host_pairs h)
host_names (host.Native (natives.Global globals.StringOf)) = tested_names (host_pairs (host.Native (natives.Global globals.StringOf))) refl
host_names (host.Native w) = tt
host_names host.ObjectPrototype = tested_names (host_pairs host.ObjectPrototype) refl
host_names host.ArrayPrototype = tested_names (host_pairs host.ArrayPrototype) refl
host_names host.FunctionPrototype = tested_names (host_pairs host.FunctionPrototype) refl
host_names host.BunchPrototype = tested_names (host_pairs host.BunchPrototype) refl
host_names host.TextPrototype = tested_names (host_pairs host.TextPrototype) refl
host_names host.NumberPrototype = tested_names (host_pairs host.NumberPrototype) refl
host_names host.BooleanPrototype = tested_names (host_pairs host.BooleanPrototype) refl
host_names host.Math = tested_names (host_pairs host.Math) refl
host_names host.Adsafe = tested_names (host_pairs host.Adsafe) refl
host_names host.Dom = tested_names (host_pairs host.Dom) refl

units_of_all : (ts : List (List ℕ)) → AreTexts ts → AreAllUnits ts
units_of_all ts h = every IsText AreUnits (λ t q. q.0) ts h

keys_told : (m : Sizes) (o : Value) (s : State) → R m s → Told m (AreAllUnits (keys s o))
keys_told m (Own n) s hr = also m (λ q. units_of_all _ (permitted_are (cell_at s n).pairs q)) (hr.there.objects n).names
keys_told m (Host h) s hr = told m (units_of_all _ (permitted_are (host_pairs h) (host_names h)))
keys_told m Undefined s hr = told m tt
keys_told m Null s hr = told m tt
keys_told m (Truth b) s hr = told m tt
keys_told m NaN s hr = told m tt
keys_told m (Num z) s hr = told m tt
keys_told m (Text t) s hr = told m tt

pub keys_native_r : (m : Sizes) (x0 : Value) (x1 : State) → R m x1 → Keeps m (keys_native x0 x1)
keys_native_r m o s hr = wanted m E4 (is_object o) s _ hr (λ e. charged m _ s _ hr (give_texts_r m (keys s o) s hr (keys_told m o s hr)))

pub start_timer_r : (m : Sizes) (x0 : Value) (x1 : ℤ) (x2 : State) → R m x2 → ValueIs m x0 → Keeps m (start_timer x0 x1 x2)
start_timer_r m f z s hr h0 = either m (nat_le max_timers (length s.own.timers)) _ _ (faulted m E11 s hr) (ended m _ (with_timer s f z) (timer_kept m s f z hr h0) (value_end m _ (undefined_is m)))

pub later_in_r : (m : Sizes) (x0 : Value) (x1 : Value) (x2 : State) → R m x2 → ValueIs m x0 → Keeps m (later_in x0 x1 x2)
later_in_r m f Undefined s hr h0 = start_timer_r m f (pos 0) s hr h0
later_in_r m f (Num z) s hr h0 = start_timer_r m f z s hr h0
later_in_r m f ms s hr h0 = search (faulted)

pub later_r : (m : Sizes) (x0 : Value) (x1 : Value) (x2 : State) → R m x2 → ValueIs m x0 → Keeps m (later x0 x1 x2)
later_r m f ms s hr h0 = want_function_r m f s _ hr (later_in_r m f ms s hr h0)

pub log_text_r : (m : Sizes) (x0 : List ℕ) (x1 : State) → R m x1 → Keeps m (log_text x0 x1)
log_text_r m t s hr = charged m _ s _ hr (paid m _ s (λ x. give Undefined (with_entry x t)) hr (λ a u due. ended m _ (with_entry (with_counts s a) t) u (value_end m _ (undefined_is m))))

pub log_native_r : (m : Sizes) (x0 : Value) (x1 : State) → R m x1 → Keeps m (log_native x0 x1)
log_native_r m v s hr = wanted m E4 (not (list_any is_object (v ∷ []))) s _ hr (λ _. log_text_r m (to_text v) s hr)

pub keep_post_r : (m : Sizes) (x0 : List ℕ) (x1 : List ℕ) (x2 : State) → R m x2 → Keeps m (keep_post x0 x1 x2)
keep_post_r m to t s hr = either m _ _ _ (ended m _ s hr (value_end m _ (truth_is m _))) (paid m _ s (λ x. give (Truth true) (with_post x to t)) hr (λ a u due. ended m _ (with_post (with_counts s a) to t) u (value_end m _ (truth_is m _))))

pub post_r : (m : Sizes) (x0 : Value) (x1 : Value) (x2 : State) → R m x2 → Keeps m (post x0 x1 x2)
post_r m (Text to) (Text t) s hr = either m (nat_lt max_post (length t)) _ _ (faulted m E4 s hr) (charged m _ s _ hr (keep_post_r m to t s hr))
post_r m to t s hr = search (faulted)

pub adsafe_native_r : (m : Sizes) (x0 : AdsafeNative) (x1 : Option Value) (x2 : List Value) (x3 : ℕ) (x4 : State) → R m x4 → ValuesAre m x2 → Keeps m (adsafe_native x0 x1 x2 x3 x4)
adsafe_native_r m GetProperty this vs d s hr h2 = get_native_r m (nth 0 vs) (nth 1 vs) s hr (nth_is m 0 vs h2) (nth_is m 1 vs h2)
adsafe_native_r m SetProperty this vs d s hr h2 = set_native_r m (nth 0 vs) (nth 1 vs) (nth 2 vs) s hr (nth_is m 1 vs h2) (nth_is m 2 vs h2)
adsafe_native_r m RemoveProperty this vs d s hr h2 = remove_native_r m (nth 0 vs) (nth 1 vs) s hr (nth_is m 1 vs h2)
adsafe_native_r m HasProperty this vs d s hr h2 = has_native_r m (nth 0 vs) (nth 1 vs) s hr (nth_is m 1 vs h2)
adsafe_native_r m Create this vs d s hr h2 = create_r m (nth 0 vs) s hr (nth_is m 0 vs h2)
adsafe_native_r m IsArray this vs d s hr h2 = ended m _ s hr (value_end m _ (truth_is m _))
adsafe_native_r m KeysOf this vs d s hr h2 = keys_native_r m (nth 0 vs) s hr
adsafe_native_r m Later this vs d s hr h2 = later_r m (nth 0 vs) (nth 1 vs) s hr (nth_is m 0 vs h2)
adsafe_native_r m LogValue this vs d s hr h2 = log_native_r m (nth 0 vs) s hr
adsafe_native_r m Post this vs d s hr h2 = post_r m (nth 0 vs) (nth 1 vs) s hr
adsafe_native_r m FromJson this vs d s hr h2 = from_json_r m (nth 0 vs) s hr (nth_is m 0 vs h2)
adsafe_native_r m ToJson this vs d s hr h2 = to_json_r m (nth 0 vs) s hr (nth_is m 0 vs h2)
