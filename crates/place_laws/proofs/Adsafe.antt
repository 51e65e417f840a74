-- The natives of ADSAFE, and JSON, run alike.
use Rattle.std.proofs.Common.{◌≡◌, ℕ, zero, suc, ◌+◌, length, map, List, [], ◌∷◌, ◌++◌, Bool, true, false, Option, Some, None, refl, sym, ap, subst, ◌∙◌}
use Rattle.serde_json.specs.Data as json
use Rattle.std.specs.Prelude.{ℤ, pos, is_some, option_map, if◌then◌else◌, nat_lt, nat_le}
use Rattle.std.specs.List.{fold, list_any}
use Rattle.std.proofs.lemmas.List.{map-append}
use Rattle.code_units.specs.Permitted.{is_permitted}
use Rattle.widget_meaning.specs.Limits.{max_chain, max_timers, max_posts, max_post, max_text, max_nesting}
use Rattle.widget_meaning.specs.Values.{Value, Undefined, Null, Truth, NaN, Num, Text, Own, Host, Is, E4, E8, E11, E12, Number, LongText, is_object, to_text, nth}
use Rattle.widget_meaning.specs.OwnState.{State, Cell, Kind, Object, Array, Function, Bunch, Pairs, array_length, kind_of, cell_at, new_object, plain_object, new_array, with_new_cell}
use Rattle.widget_meaning.specs.Plan.{Plan, charge}
use Rattle.widget_meaning.specs.Costs.{units_cost, make, throw, give, want, or_throw}
use Rattle.widget_meaning.specs.Properties.{own_property, prototype, get, keys}
use Rattle.permitted_table.specs.declared.native.AdsafeNative.{AdsafeNative}
use Rattle.permitted_table.specs.declared.native.AdsafeNative.TheVariants.{Create, FromJson, GetProperty, HasProperty, IsArray, KeysOf, Later, LogValue, Post, RemoveProperty, SetProperty, ToJson}
use Rattle.widget_meaning.specs.NativeForms.{give_texts, is_too_long}
use Rattle.widget_meaning.specs.JsonTexts.{Writer, cell_text, value_text, to_json, give_json, Written, Wrote, NoJson, TooLong}
use Rattle.widget_meaning.specs.JsonValues.{read_json, has_numbers, value_at, cells_at, items_at, members_at, json_cost, give_read, read_value, from_json}
use Rattle.widget_meaning.specs.AdsafeNatives.{want_name, get_native, has_native, set_native, remove_native, is_prototype_kind, chain_from, create_from, create, keys_native, start_timer, later_in, later, log_text, log_native, keep_post, post, adsafe_native, with_timer, with_entry, with_post}
use Rattle.place_laws.specs.Bare.{bare_cell, bare_kind}
use Rattle.place_laws.proofs.Near.{N, bare, itself, moved, born, births, cell_bare, own_bare, prototype_bare, get_bare, keys_bare, kind_of_bare, array_bare}
use Rattle.place_laws.proofs.Alike.{Alike, ended, got, halted, either, charged, paid, made, made_text, faulted, found, wanted}
use Rattle.place_laws.proofs.Forms.{put_a, delete_a}
use Rattle.place_laws.proofs.Natives.{want_primitives_a, want_function_a, give_texts_a}

-- how many objects stand on a chain
count_bare : (m : ℕ) (s : State) (o : Option Value) → chain_from m (bare s) o ≡ chain_from m s o
count_bare zero s o = refl
count_bare (suc m) s None = refl
count_bare (suc m) s (Some o) = ap (λ (r : Option Value). suc (chain_from m (bare s) r)) (prototype_bare s o) ∙ ap suc (count_bare m s (prototype s o))

prototype_kind : (k : Option Kind) → is_prototype_kind (option_map bare_kind k) ≡ is_prototype_kind k
prototype_kind None = refl
prototype_kind (Some Object) = refl
prototype_kind (Some (Array n)) = refl
prototype_kind (Some (Function f o)) = refl
prototype_kind (Some (Bunch ns)) = refl

prototype_kind_bare : (s : State) (v : Value) → is_prototype_kind (kind_of (bare s) v) ≡ is_prototype_kind (kind_of s v)
prototype_kind_bare s v = ap is_prototype_kind (kind_of_bare s v) ∙ prototype_kind (kind_of s v)

timer_kept : (s : State) (f : Value) (z : ℤ) → N (with_timer s f z) (with_timer (bare s) f z)
timer_kept s (Own n) z = record { same = refl }
timer_kept s (Host h) z = itself s
timer_kept s Undefined z = itself s
timer_kept s Null z = itself s
timer_kept s (Truth b) z = itself s
timer_kept s NaN z = itself s
timer_kept s (Num x) z = itself s
timer_kept s (Text t) z = itself s

-- ## JSON

kind_text_bare : (f : Writer) (k : Kind) (ps : Pairs) (t : List ℕ) → cell_text f (bare_kind k) ps t ≡ cell_text f k ps t
kind_text_bare f Object ps t = refl
kind_text_bare f (Array n) ps t = refl
kind_text_bare f (Function g o) ps t = refl
kind_text_bare f (Bunch ns) ps t = refl

text_bare : (m : ℕ) (s : State) (v : Value) (t : List ℕ) → value_text m (bare s) v t ≡ value_text m s v t
text_bare m s Undefined t = refl
text_bare m s Null t = refl
text_bare m s (Truth b) t = refl
text_bare m s NaN t = refl
text_bare m s (Num z) t = refl
text_bare m s (Text u) t = refl
text_bare m s (Host h) t = refl
text_bare zero s (Own n) t = refl
text_bare (suc m) s (Own n) t =
    ap (λ (c : Cell). cell_text (value_text m (bare s)) c.kind c.pairs t) (cell_bare s n)
    ∙ (kind_text_bare (value_text m (bare s)) (cell_at s n).kind (cell_at s n).pairs t
    ∙ (λ k. cell_text (λ v u. text_bare m s v u k) (cell_at s n).kind (cell_at s n).pairs t))

-- none of these objects is a function
mutual
  cells_bare : (n : ℕ) (d : json.Data) → map bare_cell (cells_at n d) ≡ cells_at n d
  cells_bare n json.null = refl
  cells_bare n (json.boolean b) = refl
  cells_bare n (json.number x) = refl
  cells_bare n (json.string bs) = refl
  cells_bare n (json.array ds) = ap (λ cs. new_array (length (items_at (n + 1) 0 ds).0) (items_at (n + 1) 0 ds).0 ∷ cs) (items_bare (n + 1) 0 ds)
  cells_bare n (json.object ms) = ap (λ cs. plain_object (members_at (n + 1) ms).0 ∷ cs) (members_bare (n + 1) ms)

  items_bare : (n i : ℕ) (ds : json.Items) → map bare_cell (items_at n i ds).1 ≡ (items_at n i ds).1
  items_bare n i json.no_items = refl
  items_bare n i (json.item d ds) =
      map-append bare_cell (cells_at n d) (items_at (n + length (cells_at n d)) (i + 1) ds).1
      ∙ (λ k. cells_bare n d k ++ items_bare (n + length (cells_at n d)) (i + 1) ds k)

  members_bare : (n : ℕ) (ms : json.Members) → map bare_cell (members_at n ms).1 ≡ (members_at n ms).1
  members_bare n json.no_members = refl
  members_bare n (json.member k d ms) =
      map-append bare_cell (cells_at n d) (members_at (n + length (cells_at n d)) ms).1
      ∙ (λ j. cells_bare n d j ++ members_bare (n + length (cells_at n d)) ms j)

cells_kept : (s z : State) (cs : List Cell) → N s z → N (fold with_new_cell s cs) (fold with_new_cell z (map bare_cell cs))
cells_kept s z [] e = e
cells_kept s z (c ∷ cs) e = cells_kept (with_new_cell s c) (with_new_cell z (bare_cell c)) cs (born s z c e)

give_read_a : (b : Bool) (v : Value) (cs : List Cell) (ts : List (List ℕ)) (s z : State) → map bare_cell cs ≡ cs → N s z → Alike (give_read b v cs ts s) (give_read b v cs ts z)
give_read_a false v cs ts s z e near = halted Number s z near
give_read_a true v cs ts s z e near = either (list_any is_too_long ts) _ _ _ _ (halted LongText s z near) (paid (json_cost ts cs) s z _ _ near (λ t y u.
    ended (Is v) _ _ (subst (λ (ds : List Cell). N (fold with_new_cell t cs) (fold with_new_cell y ds)) e (cells_kept t y cs u))))

from_json_a : (v : Value) (s z : State) → N s z → Alike (from_json v s) (from_json v z)
from_json_a (Text t) s z near = moved (λ y. Alike (from_json (Text t) s) (from_json (Text t) y)) s z near
    (subst (λ n. Alike (from_json (Text t) s) (or_throw E4 (read_json t) (bare s) (λ d. read_value (length t) d (cells_at n d) (value_at n d) (bare s)))) (sym (births s))
    (found E4 (read_json t) s (bare s) _ _ (itself s) (λ d. wanted E8 _ s (bare s) _ _ (itself s) (charged (length t) s (bare s) _ _ (itself s)
    (give_read_a (has_numbers d) _ (cells_at (length s.own.heap) d) _ s (bare s) (cells_bare (length s.own.heap) d) (itself s))))))
from_json_a (Own n) s z near = faulted E4 s z near
from_json_a (Host h) s z near = faulted E4 s z near
from_json_a Undefined s z near = faulted E4 s z near
from_json_a Null s z near = faulted E4 s z near
from_json_a (Truth b) s z near = faulted E4 s z near
from_json_a NaN s z near = faulted E4 s z near
from_json_a (Num x) s z near = faulted E4 s z near

pub give_json_a : (x0 : Written) (x1 z1 : State) → N x1 z1 → Alike (give_json x0 x1) (give_json x0 z1)
give_json_a (Wrote t) s s' near = charged (length t) s s' _ _ near (made_text t s s' _ _ near (λ v y u. ended (Is (Text t)) v y u))
give_json_a NoJson s s' near = faulted E4 s s' near
give_json_a TooLong s s' near = charged (max_text + 1) s s' _ _ near (halted LongText s s' near)

pub to_json_a : (x0 : Value) (x1 z1 : State) → N x1 z1 → Alike (to_json x0 x1) (to_json x0 z1)
to_json_a v s s' near =
    moved (λ y. Alike (to_json v s) (to_json v y)) s s' near
    (subst (λ w. Alike (to_json v s) (give_json w (bare s))) (sym (text_bare max_nesting s v [])) (give_json_a (value_text max_nesting s v []) s (bare s) (itself s)))

pub want_name_a : (x0 : Value) (x1 z1 : State) (x2 z2 : List ℕ → Plan) → N x1 z1 → ((y0 : List ℕ) → Alike (x2 y0) (z2 y0)) → Alike (want_name x0 x1 x2) (want_name x0 z1 z2)
want_name_a (Text t) s s' k k' near f0 = wanted E8 (is_permitted t) s s' _ _ near (f0 t)
want_name_a (Num z) s s' k k' near f0 = wanted E8 (is_permitted (to_text (Num z))) s s' _ _ near (f0 (to_text (Num z)))
want_name_a v s s' k k' near f0 = faulted E8 s s' near

pub get_native_a : (x0 : Value) (x1 : Value) (x2 z2 : State) → N x2 z2 → Alike (get_native x0 x1 x2) (get_native x0 x1 z2)
get_native_a o n s s' near = wanted E4 (is_object o) s s' _ _ near (want_name_a n s s' _ _ near (λ x. got (λ t. get t o x) (λ t. get_bare t o x) s s' near))

pub has_native_a : (x0 : Value) (x1 : Value) (x2 z2 : State) → N x2 z2 → Alike (has_native x0 x1 x2) (has_native x0 x1 z2)
has_native_a o n s s' near = wanted E4 (is_object o) s s' _ _ near (want_name_a n s s' _ _ near (λ x. got (λ t. Truth (is_some (own_property t o x))) (λ t. ap (λ (r : Option Value). Truth (is_some r)) (own_bare t o x)) s s' near))

pub set_native_a : (x0 : Value) (x1 : Value) (x2 : Value) (x3 z3 : State) → N x3 z3 → Alike (set_native x0 x1 x2 x3) (set_native x0 x1 x2 z3)
set_native_a o n v s s' near = wanted E4 (is_object o) s s' _ _ near (want_name_a n s s' _ _ near (λ x. put_a o x v s s' _ _ near (λ t y u. ended (Is Undefined) t y u)))

pub remove_native_a : (x0 : Value) (x1 : Value) (x2 z2 : State) → N x2 z2 → Alike (remove_native x0 x1 x2) (remove_native x0 x1 z2)
remove_native_a o n s s' near = wanted E4 (is_object o) s s' _ _ near (want_name_a n s s' _ _ near (λ x. delete_a o x s s' _ _ near (λ b t y u. ended (Is Undefined) t y u)))

pub create_from_a : (x0 : Value) (x1 z1 : State) → N x1 z1 → Alike (create_from x0 x1) (create_from x0 z1)
create_from_a o s s' near =
    moved (λ y. Alike (create_from o s) (create_from o y)) s s' near
    (subst (λ n. Alike (create_from o s) (if nat_lt max_chain n then throw E12 (bare s) else make (new_object o []) 0 (bare s) give)) (sym (count_bare (suc max_chain) s (Some o)))
    (either (nat_lt max_chain (chain_from (suc max_chain) s (Some o))) _ _ _ _ (faulted E12 s (bare s) (itself s)) (made (new_object o []) 0 s (bare s) give give (itself s) (λ v t y u. ended (Is v) t y u))))

pub create_a : (x0 : Value) (x1 z1 : State) → N x1 z1 → Alike (create x0 x1) (create x0 z1)
create_a o s s' near =
    moved (λ y. Alike (create o s) (create o y)) s s' near
    (subst (λ b. Alike (create o s) (want E4 b (bare s) (create_from o (bare s)))) (sym (prototype_kind_bare s o)) (wanted E4 (is_prototype_kind (kind_of s o)) s (bare s) _ _ (itself s) (create_from_a o s (bare s) (itself s))))

pub keys_native_a : (x0 : Value) (x1 z1 : State) → N x1 z1 → Alike (keys_native x0 x1) (keys_native x0 z1)
keys_native_a o s s' near = wanted E4 (is_object o) s s' _ _ near
    (moved (λ y. Alike (charge (length (keys s o)) s (give_texts (keys s o) s)) (charge (length (keys y o)) y (give_texts (keys y o) y))) s s' near
    (subst (λ (xs : List (List ℕ)). Alike (charge (length (keys s o)) s (give_texts (keys s o) s)) (charge (length xs) (bare s) (give_texts xs (bare s)))) (sym (keys_bare s o))
    (charged (length (keys s o)) s (bare s) _ _ (itself s) (give_texts_a (keys s o) s (bare s) (itself s)))))

pub start_timer_a : (x0 : Value) (x1 : ℤ) (x2 z2 : State) → N x2 z2 → Alike (start_timer x0 x1 x2) (start_timer x0 x1 z2)
start_timer_a f z s s' near = moved (λ y. Alike (start_timer f z s) (start_timer f z y)) s s' near
    (either (nat_le max_timers (length s.own.timers)) _ _ _ _ (faulted E11 s (bare s) (itself s)) (ended (Is Undefined) (with_timer s f z) (with_timer (bare s) f z) (timer_kept s f z)))

pub later_in_a : (x0 : Value) (x1 : Value) (x2 z2 : State) → N x2 z2 → Alike (later_in x0 x1 x2) (later_in x0 x1 z2)
later_in_a f Undefined s s' near = start_timer_a f (pos 0) s s' near
later_in_a f (Num z) s s' near = start_timer_a f z s s' near
later_in_a f ms s s' near = faulted E4 s s' near

pub later_a : (x0 : Value) (x1 : Value) (x2 z2 : State) → N x2 z2 → Alike (later x0 x1 x2) (later x0 x1 z2)
later_a f ms s s' near = want_function_a f s s' _ _ near (later_in_a f ms s s' near)

pub log_text_a : (x0 : List ℕ) (x1 z1 : State) → N x1 z1 → Alike (log_text x0 x1) (log_text x0 z1)
log_text_a t s s' near = charged (length t) s s' _ _ near (paid (units_cost (length t + 1)) s s' _ _ near (λ v y u.
    moved (λ z. Alike (give Undefined (with_entry v t)) (give Undefined (with_entry z t))) v y u (ended (Is Undefined) (with_entry v t) (with_entry (bare v) t) (record { same = refl }))))

pub log_native_a : (x0 : Value) (x1 z1 : State) → N x1 z1 → Alike (log_native x0 x1) (log_native x0 z1)
log_native_a v s s' near = want_primitives_a (v ∷ []) s s' _ _ near (log_text_a (to_text v) s s' near)

pub keep_post_a : (x0 : List ℕ) (x1 : List ℕ) (x2 z2 : State) → N x2 z2 → Alike (keep_post x0 x1 x2) (keep_post x0 x1 z2)
keep_post_a to t s s' near = moved (λ y. Alike (keep_post to t s) (keep_post to t y)) s s' near
    (either (nat_le max_posts (length s.own.posts)) _ _ _ _ (ended (Is (Truth false)) s (bare s) (itself s)) (paid (units_cost (length t + 1)) s (bare s) _ _ (itself s) (λ v y u.
    moved (λ z. Alike (give (Truth true) (with_post v to t)) (give (Truth true) (with_post z to t))) v y u (ended (Is (Truth true)) (with_post v to t) (with_post (bare v) to t) (record { same = refl })))))

pub post_a : (x0 : Value) (x1 : Value) (x2 z2 : State) → N x2 z2 → Alike (post x0 x1 x2) (post x0 x1 z2)
post_a (Text to) (Text t) s s' near = either (nat_lt max_post (length t)) _ _ _ _ (faulted E4 s s' near) (charged (length t) s s' _ _ near (keep_post_a to t s s' near))
post_a to t s s' near = faulted E4 s s' near

pub adsafe_native_a : (x0 : AdsafeNative) (x1 : Option Value) (x2 : List Value) (x3 : ℕ) (x4 z4 : State) → N x4 z4 → Alike (adsafe_native x0 x1 x2 x3 x4) (adsafe_native x0 x1 x2 x3 z4)
adsafe_native_a GetProperty this vs d s s' near = get_native_a (nth 0 vs) (nth 1 vs) s s' near
adsafe_native_a SetProperty this vs d s s' near = set_native_a (nth 0 vs) (nth 1 vs) (nth 2 vs) s s' near
adsafe_native_a RemoveProperty this vs d s s' near = remove_native_a (nth 0 vs) (nth 1 vs) s s' near
adsafe_native_a HasProperty this vs d s s' near = has_native_a (nth 0 vs) (nth 1 vs) s s' near
adsafe_native_a Create this vs d s s' near = create_a (nth 0 vs) s s' near
adsafe_native_a IsArray this vs d s s' near = got (λ t. Truth (is_some (array_length (kind_of t (nth 0 vs))))) (λ t. ap (λ (r : Option ℕ). Truth (is_some r)) (array_bare t (nth 0 vs))) s s' near
adsafe_native_a KeysOf this vs d s s' near = keys_native_a (nth 0 vs) s s' near
adsafe_native_a Later this vs d s s' near = later_a (nth 0 vs) (nth 1 vs) s s' near
adsafe_native_a LogValue this vs d s s' near = log_native_a (nth 0 vs) s s' near
adsafe_native_a Post this vs d s s' near = post_a (nth 0 vs) (nth 1 vs) s s' near
adsafe_native_a FromJson this vs d s s' near = from_json_a (nth 0 vs) s s' near
adsafe_native_a ToJson this vs d s s' near = to_json_a (nth 0 vs) s s' near
