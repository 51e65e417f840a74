-- The natives of `ADSAFE`. They take any receiver.
use Rattle.std.specs.Prelude.{ℕ, zero, suc, ℤ, pos, negsuc, ◌+◌, max, Bool, true, false, List, [], ◌∷◌, ◌++◌, length, nat_lt, nat_le, is_some, if◌then◌else◌, Option, Some, None}
use Rattle.code_units.specs.Permitted.{is_permitted}
use Rattle.widget_meaning.specs.Limits.{max_chain, max_timers, min_delay, max_post, max_posts}
use Rattle.permitted_table.specs.declared.native.AdsafeNative.{AdsafeNative}
use Rattle.permitted_table.specs.declared.native.AdsafeNative.TheVariants.{Create, FromJson, GetProperty, HasProperty, IsArray, KeysOf, Later, LogValue, Post, RemoveProperty, SetProperty, ToJson}
use Rattle.widget_meaning.specs.Values.{Value, Undefined, Truth, Num, Text, Own, E4, E8, E11, E12, is_object, to_text, nth}
use Rattle.widget_meaning.specs.OwnState.{State, Kind, Object, Array, new_object, with_own, kind_of, array_length}
use Rattle.widget_meaning.specs.Plan.{Plan, charge}
use Rattle.widget_meaning.specs.Costs.{pay, units_cost, make, throw, give, want}
use Rattle.widget_meaning.specs.Properties.{get, put, delete, keys, own_property, prototype}
use Rattle.widget_meaning.specs.NativeForms.{want_primitives, want_function, give_texts}
use Rattle.widget_meaning.specs.JsonValues.{from_json}
use Rattle.widget_meaning.specs.JsonTexts.{to_json}

-- a name is a permitted text or a whole number; all else throws E8
abbrev pub want_name : Value → State → (List ℕ → Plan) → Plan
want_name (Text t) s k = want E8 (is_permitted t) s (k t)
want_name (Num z) s k = want E8 (is_permitted (to_text (Num z))) s (k (to_text (Num z)))
want_name v s k = throw E8 s

-- `get(o, n)`: the property, along the prototypes
abbrev pub get_native : Value → Value → State → Plan
get_native o n s = want E4 (is_object o) s (want_name n s (λ x. give (get s o x) s))

-- `has(o, n)`: whether it is an own property
abbrev pub has_native : Value → Value → State → Plan
has_native o n s = want E4 (is_object o) s (want_name n s (λ x. give (Truth (is_some (own_property s o x))) s))

-- `set(o, n, v)`: writes the own property
abbrev pub set_native : Value → Value → Value → State → Plan
set_native o n v s = want E4 (is_object o) s (want_name n s (λ x. put o x v s (give Undefined)))

-- `remove(o, n)`: takes it out; gives undefined, also where an array keeps its `length`
abbrev pub remove_native : Value → Value → State → Plan
remove_native o n s = want E4 (is_object o) s (want_name n s (λ x. delete o x s (λ b. give Undefined)))

-- what `create` takes: an Object or Array of the widget
abbrev pub is_prototype_kind : Option Kind → Bool
is_prototype_kind (Some Object) = true
is_prototype_kind (Some (Array n)) = true
is_prototype_kind kind = false

-- how many objects stand on a chain, counted up to a limit
abbrev pub chain_from : ℕ → State → Option Value → ℕ
chain_from zero s o = zero
chain_from (suc m) s None = zero
chain_from (suc m) s (Some o) = suc (chain_from m s (prototype s o))

-- a new object with this prototype; E12 where the chain from the prototype on passes the limit
abbrev pub create_from : Value → State → Plan
create_from o s =
    if nat_lt max_chain (chain_from (suc max_chain) s (Some o)) then throw E12 s else make (new_object o []) 0 s give

-- `create(o)`: a new object with this prototype
abbrev pub create : Value → State → Plan
create o s = want E4 (is_prototype_kind (kind_of s o)) s (create_from o s)

-- `keys(o)`: the own permitted names, each a made text; the extra is their number
abbrev pub keys_native : Value → State → Plan
keys_native o s = want E4 (is_object o) s (charge (length (keys s o)) s (give_texts (keys s o) s))

-- a timer waits the larger of the least and the given time
abbrev pub delay : ℤ → ℕ
delay (pos n) = max min_delay n
delay (negsuc n) = min_delay

-- one more timer, due at the clock plus its delay
abbrev pub with_timer : State → Value → ℤ → State
with_timer s (Own n) z =
    with_own s (record s.own { timers = s.own.timers ++ record { due = s.own.clock + delay z; func = n } ∷ [] })
with_timer s v z = s

-- a timer is started; E11 where as many wait as may
abbrev pub start_timer : Value → ℤ → State → Plan
start_timer f z s = if nat_le max_timers (length s.own.timers) then throw E11 s else give Undefined (with_timer s f z)

-- a timer by its time, which is 0 where absent; what is no number throws E4
abbrev pub later_in : Value → Value → State → Plan
later_in f Undefined s = start_timer f (pos 0) s
later_in f (Num z) s = start_timer f z s
later_in f ms s = throw E4 s

-- `later(f, ms)`
abbrev pub later : Value → Value → State → Plan
later f ms s = want_function f s (later_in f ms s)

-- one more log entry
abbrev pub with_entry : State → List ℕ → State
with_entry s t = with_own s (record s.own { log = s.own.log ++ t ∷ [] })

-- a text is logged: the extra is its units, the cost one more
abbrev pub log_text : List ℕ → State → Plan
log_text t s = charge (length t) s (pay (units_cost (length t + 1)) s (λ u. give Undefined (with_entry u t)))

-- `log(v)`: the text of a primitive
abbrev pub log_native : Value → State → Plan
log_native v s = want_primitives (v ∷ []) s (log_text (to_text v) s)

-- one more kept post
abbrev pub with_post : State → List ℕ → List ℕ → State
with_post s to t = with_own s (record s.own { posts = s.own.posts ++ record { receiver = to; text = t } ∷ [] })

-- a post, and whether it is kept: false where as many are kept as may be; else it costs its units and one more
abbrev pub keep_post : List ℕ → List ℕ → State → Plan
keep_post to t s =
    if nat_le max_posts (length s.own.posts) then give (Truth false) s
    else pay (units_cost (length t + 1)) s (λ u. give (Truth true) (with_post u to t))

-- `post(to, text)`: both are texts, and the second is not too long
abbrev pub post : Value → Value → State → Plan
post (Text to) (Text t) s = if nat_lt max_post (length t) then throw E4 s else charge (length t) s (keep_post to t s)
post to t s = throw E4 s

-- the natives, each by its row
abbrev pub adsafe_native : AdsafeNative → Option Value → List Value → ℕ → State → Plan
adsafe_native GetProperty this vs d s = get_native (nth 0 vs) (nth 1 vs) s
adsafe_native SetProperty this vs d s = set_native (nth 0 vs) (nth 1 vs) (nth 2 vs) s
adsafe_native RemoveProperty this vs d s = remove_native (nth 0 vs) (nth 1 vs) s
adsafe_native HasProperty this vs d s = has_native (nth 0 vs) (nth 1 vs) s
adsafe_native Create this vs d s = create (nth 0 vs) s
adsafe_native IsArray this vs d s = give (Truth (is_some (array_length (kind_of s (nth 0 vs))))) s
adsafe_native KeysOf this vs d s = keys_native (nth 0 vs) s
adsafe_native Later this vs d s = later (nth 0 vs) (nth 1 vs) s
adsafe_native LogValue this vs d s = log_native (nth 0 vs) s
adsafe_native Post this vs d s = post (nth 0 vs) (nth 1 vs) s
adsafe_native FromJson this vs d s = from_json (nth 0 vs) s
adsafe_native ToJson this vs d s = to_json (nth 0 vs) s
