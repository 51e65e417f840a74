-- The natives of ADSAFE keep an invariant.
use Rattle.std.proofs.Common.{◌<◌, ◌≤◌, arith}
use Rattle.std.proofs.lemmas.Bool.{leb-false}
use Rattle.std.specs.Prelude.{ℕ, ◌+◌, List, length, Option, ℤ, pos, negsuc, nat_le}
use Rattle.widget_meaning.specs.Limits.{max_timers}
use Rattle.widget_meaning.specs.Values.{Value, Undefined, Num, Text, Own, E11}
use Rattle.widget_meaning.specs.OwnState.{State}
use Rattle.widget_meaning.specs.Plan.{Plan}
use Rattle.permitted_table.specs.declared.native.AdsafeNative.{AdsafeNative}
use Rattle.permitted_table.specs.declared.native.AdsafeNative.TheVariants.{Create, FromJson, GetProperty, HasProperty, IsArray, KeysOf, Later, LogValue, Post, RemoveProperty, SetProperty, ToJson}
use Rattle.widget_meaning.specs.JsonTexts.{to_json, give_json, Written, Wrote, NoJson, TooLong}
use Rattle.widget_meaning.specs.AdsafeNatives.{want_name, get_native, has_native, set_native, remove_native, create_from, create, keys_native, start_timer, later_in, later, log_text, log_native, keep_post, post, adsafe_native, with_timer, delay}
use Rattle.widget_meaning.specs.Ways.{Way, ByValue}
use Rattle.widget_meaning.specs.Keeps.{Invariant, Keeps}
use Rattle.widget_meaning.proofs.Keeping.{halted, either, charged, paid, made, made_text, faulted, R, unless, wanted, no_function, gave}
use Rattle.widget_meaning.proofs.KeepingForms.{delete_r, put_r}
use Rattle.widget_meaning.proofs.KeepingJson.{from_json_r}
use Rattle.widget_meaning.proofs.KeepingNatives.{give_texts_r, want_function_r, want_primitives_r}

module _ (inv : Invariant) (many : ℕ) where
  least_delay : (z : ℤ) → 10 ≤ delay z
  least_delay (pos n) = omega arith
  least_delay (negsuc n) = omega arith

  plus_le : (m n k : ℕ) → n ≤ k → m + n ≤ m + k
  plus_le m n k h = omega arith

  timer_kept : (s : State) (f : Value) (z : ℤ) → R inv many s → length s.own.timers < max_timers → R inv many (with_timer s f z)
  timer_kept s (Own n) z hr l = record {
    holds = inv.started s.own.counts s.own.timers s.own.clock (record { due = s.own.clock + delay z; func = n }) hr.holds l (plus_le s.own.clock 10 (delay z) (least_delay z));
    linked = hr.linked;
    page = hr.page;
    wide = hr.wide;
  }
  timer_kept s v z hr l = hr

  pub give_json_r : (x0 : Written) (x1 : State) → R inv many x1 → Keeps inv many ByValue (give_json x0 x1)
  give_json_r (Wrote t) s hr = search (charged, made_text, gave)
  give_json_r NoJson s hr = search (faulted)
  give_json_r TooLong s hr = search (charged, halted)

  pub to_json_r : (x0 : Value) (x1 : State) → R inv many x1 → Keeps inv many ByValue (to_json x0 x1)
  to_json_r v s hr = search (give_json_r)

  pub want_name_r : (way : Way) (x0 : Value) (x1 : State) (x2 : (List ℕ → Plan)) → R inv many x1 → ((y0 : List ℕ) → Keeps inv many way (x2 y0)) → Keeps inv many way (want_name x0 x1 x2)
  want_name_r way (Text t) s k hr f0 = search (wanted)
  want_name_r way (Num z) s k hr f0 = search (wanted)
  want_name_r way v s k hr f0 = search (faulted)

  pub get_native_r : (x0 : Value) (x1 : Value) (x2 : State) → R inv many x2 → Keeps inv many ByValue (get_native x0 x1 x2)
  get_native_r o n s hr = search (wanted, want_name_r, gave)

  pub has_native_r : (x0 : Value) (x1 : Value) (x2 : State) → R inv many x2 → Keeps inv many ByValue (has_native x0 x1 x2)
  has_native_r o n s hr = search (wanted, want_name_r, gave)

  pub set_native_r : (x0 : Value) (x1 : Value) (x2 : Value) (x3 : State) → R inv many x3 → Keeps inv many ByValue (set_native x0 x1 x2 x3)
  set_native_r o n v s hr = search (wanted, want_name_r, put_r, gave)

  pub remove_native_r : (x0 : Value) (x1 : Value) (x2 : State) → R inv many x2 → Keeps inv many ByValue (remove_native x0 x1 x2)
  remove_native_r o n s hr = search (wanted, want_name_r, delete_r, gave)

  pub create_from_r : (x0 : Value) (x1 : State) → R inv many x1 → Keeps inv many ByValue (create_from x0 x1)
  create_from_r o s hr = search (either, faulted, made, gave, no_function)

  pub create_r : (x0 : Value) (x1 : State) → R inv many x1 → Keeps inv many ByValue (create x0 x1)
  create_r o s hr = search (wanted, create_from_r)

  pub keys_native_r : (x0 : Value) (x1 : State) → R inv many x1 → Keeps inv many ByValue (keys_native x0 x1)
  keys_native_r o s hr = search (wanted, charged, give_texts_r)

  pub start_timer_r : (x0 : Value) (x1 : ℤ) (x2 : State) → R inv many x2 → Keeps inv many ByValue (start_timer x0 x1 x2)
  start_timer_r f z s hr = unless inv many ByValue (nat_le max_timers (length s.own.timers)) _ _ (faulted inv many ByValue E11 s hr) (λ e. gave inv many ByValue _ (with_timer s f z) (timer_kept s f z hr (leb-false max_timers (length s.own.timers) e)))

  pub later_in_r : (x0 : Value) (x1 : Value) (x2 : State) → R inv many x2 → Keeps inv many ByValue (later_in x0 x1 x2)
  later_in_r f Undefined s hr = search (start_timer_r)
  later_in_r f (Num z) s hr = search (start_timer_r)
  later_in_r f ms s hr = search (faulted)

  pub later_r : (x0 : Value) (x1 : Value) (x2 : State) → R inv many x2 → Keeps inv many ByValue (later x0 x1 x2)
  later_r f ms s hr = search (want_function_r, later_in_r)

  pub log_text_r : (x0 : List ℕ) (x1 : State) → R inv many x1 → Keeps inv many ByValue (log_text x0 x1)
  log_text_r t s hr = search (charged, paid, gave)

  pub log_native_r : (x0 : Value) (x1 : State) → R inv many x1 → Keeps inv many ByValue (log_native x0 x1)
  log_native_r v s hr = search (want_primitives_r, log_text_r)

  pub keep_post_r : (x0 : List ℕ) (x1 : List ℕ) (x2 : State) → R inv many x2 → Keeps inv many ByValue (keep_post x0 x1 x2)
  keep_post_r to t s hr = search (either, gave, paid)

  pub post_r : (x0 : Value) (x1 : Value) (x2 : State) → R inv many x2 → Keeps inv many ByValue (post x0 x1 x2)
  post_r (Text to) (Text t) s hr = search (either, faulted, charged, keep_post_r)
  post_r to t s hr = search (faulted)

  pub adsafe_native_r : (x0 : AdsafeNative) (x1 : Option Value) (x2 : List Value) (x3 : ℕ) (x4 : State) → R inv many x4 → Keeps inv many ByValue (adsafe_native x0 x1 x2 x3 x4)
  adsafe_native_r GetProperty this vs d s hr = search (get_native_r)
  adsafe_native_r SetProperty this vs d s hr = search (set_native_r)
  adsafe_native_r RemoveProperty this vs d s hr = search (remove_native_r)
  adsafe_native_r HasProperty this vs d s hr = search (has_native_r)
  adsafe_native_r Create this vs d s hr = search (create_r)
  adsafe_native_r IsArray this vs d s hr = search (gave)
  adsafe_native_r KeysOf this vs d s hr = search (keys_native_r)
  adsafe_native_r Later this vs d s hr = search (later_r)
  adsafe_native_r LogValue this vs d s hr = search (log_native_r)
  adsafe_native_r Post this vs d s hr = search (post_r)
  adsafe_native_r FromJson this vs d s hr = search (from_json_r)
  adsafe_native_r ToJson this vs d s hr = search (to_json_r)
