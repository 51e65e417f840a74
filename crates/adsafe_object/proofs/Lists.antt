-- Texts that are too many, and the arguments of natives.
use Rattle.std.proofs.Common.{◌≡◌, ℕ, zero, suc, ◌+◌, ◌<◌, List, [], ◌∷◌, length, map, refl, sym, ap, ◌∙◌, arith, Bool, true, false, Option, if◌then◌else◌, is_some, slice_get, sum_by, unwrap_or}
use Rattle.std.specs.Prelude.{nat_lt}
use Rattle.std.specs.List.{list_any}
use Rattle.std.proofs.lemmas.Bool.Decides.{nat_tests}
use Rattle.permitted_table.specs.declared.native.NativeId.{NativeId}
use Rattle.permitted_table.specs.declared.native.NativeId.TheVariants as natives
use Rattle.permitted_table.specs.declared.native.AdsafeNative.{AdsafeNative}
use Rattle.permitted_table.specs.declared.native.AdsafeNative.TheVariants as native
use Rattle.permitted_table.specs.declared.native.PrototypeNative.{PrototypeNative}
use Rattle.permitted_table.specs.declared.native.PrototypeNative.TheVariants as prototype
use Rattle.store_cells.specs.declared.value.Value.{Value as StoreValue}
use Rattle.store_cells.specs.declared.value.Value.TheVariants as value
use Rattle.store_cells.specs.Cells.{PlainCell}
use Rattle.widget_meaning.specs.Limits.{max_cells, max_nodes, max_slots, max_units}
use Rattle.widget_meaning.specs.Values as meaning
use Rattle.widget_meaning.specs.Values.{Value, Own, Truth, nth}
use Rattle.widget_meaning.specs.OwnState.{State, array_length, kind_of, new_array, with_new_cell}
use Rattle.widget_meaning.specs.Plan.{Plan, Halt}
use Rattle.widget_meaning.specs.Costs.{cost, give, sum, with_counts}
use Rattle.widget_meaning.specs.NativeForms.{give_texts, is_too_long, make_array, numbered_pairs}
use Rattle.widget_meaning.specs.AdsafeNatives.{adsafe_native, create, get_native, has_native, keys_native, later, log_native, post, remove_native, set_native}
use Rattle.widget_meaning.specs.JsonValues.{from_json}
use Rattle.widget_meaning.specs.JsonTexts.{to_json}
use Rattle.widget_meaning.specs.Natives.{run_native}
use Rattle.widget_meaning.specs.PrototypeNatives.{has_own_property}
use Rattle.js_image.specs.Image.{all_seen, seen}
use Rattle.js_image.specs.Held.{AreFine, IsFine}
use Rattle.js_image.specs.declared.outcome.StopCause.TheVariants as cause
use Rattle.js_image.specs.Plans.{meant_cause}
use Rattle.native_common.proofs.Seen.{nth_seen}
use Rattle.adsafe_object.specs.Names.{too_many}
use Rattle.adsafe_object.specs.Part.{is_part, keeps_note}

-- more units than a widget may have
units_stop : (vs : List Value) (n : ℕ) (s : State) → max_units < n → make_array vs n s give ≡ Halt meaning.Units s
units_stop vs n s h =
    let a = sum s.own.counts (cost n 1 (length vs) 0) in
    let p : Plan = give (Own (length s.own.heap)) (with_new_cell (with_counts s a) (new_array (length vs) (numbered_pairs 0 vs))) in
    ap (λ b. if b then Halt meaning.Units s else if nat_lt max_cells a.cells then Halt meaning.Cells s else if nat_lt max_slots a.slots then Halt meaning.Slots s else if nat_lt max_nodes a.nodes then Halt meaning.Nodes s else p) (over s.own.counts.units n h)
  where
    over : (m n : ℕ) → max_units < n → nat_lt max_units (m + n) ≡ true
    over m n h = grind (arith, nat_tests, h)

pub texts_stop : (ts : List (List ℕ)) (s : State) → max_units < sum_by length ts → give_texts ts s ≡ Halt (meant_cause (too_many ts)) s
texts_stop ts s h = by (list_any is_too_long ts) refl
  where
    by : (b : Bool) → list_any is_too_long ts ≡ b → give_texts ts s ≡ Halt (meant_cause (too_many ts)) s
    by true e = ap (λ b. if b then Halt meaning.LongText s else make_array (map meaning.Text ts) (sum_by length ts) s give) e ∙ sym (ap (λ b. Halt (meant_cause (if b then cause.LongText else cause.Units)) s) e)
    by false e =
        ap (λ b. if b then Halt meaning.LongText s else make_array (map meaning.Text ts) (sum_by length ts) s give) e
        ∙ units_stop (map meaning.Text ts) (sum_by length ts) s h
        ∙ sym (ap (λ b. Halt (meant_cause (if b then cause.LongText else cause.Units)) s) e)

-- ## Arguments

-- an argument may be held
pub nth_fine : (w : ℕ) (cells : List PlainCell) (vs : List StoreValue) (n : ℕ) → AreFine w cells vs → IsFine w cells (unwrap_or (slice_get vs n) value.Undefined)
nth_fine w cells [] n h = tt
nth_fine w cells (v ∷ vs) zero h = h.0
nth_fine w cells (v ∷ vs) (suc n) h = nth_fine w cells vs n h.1

module _ (w : ℕ) (cells : List PlainCell) (args : List StoreValue) (this : Option Value) (which : AdsafeNative) where
  abbrev vs : List Value
  vs = all_seen w cells args

  abbrev IsNth : ℕ → StoreValue → Type 0
  IsNth n v = v ≡ unwrap_or (slice_get args n) value.Undefined

  abbrev run : AdsafeNative → ℕ → State → Plan
  run n d s = adsafe_native n this vs d s

  arg : (n : ℕ) (v : StoreValue) → IsNth n v → nth n vs ≡ seen w cells v
  arg n v e = nth_seen w cells args n ∙ ap (seen w cells) (sym e)

  module _ (a : StoreValue) (first : IsNth 0 a) where
    pub create_is : which ≡ native.Create → (d : ℕ) (s : State) → run which d s ≡ create (seen w cells a) s
    create_is is d s = ap (λ n. run n d s) is ∙ ap (λ v. create v s) (arg 0 a first)

    pub is_array_is : which ≡ native.IsArray → (d : ℕ) (s : State) → run which d s ≡ give (Truth (is_some (array_length (kind_of s (seen w cells a))))) s
    is_array_is is d s = ap (λ n. run n d s) is ∙ ap (λ v. give (Truth (is_some (array_length (kind_of s v)))) s) (arg 0 a first)

    pub keys_is : which ≡ native.KeysOf → (d : ℕ) (s : State) → run which d s ≡ keys_native (seen w cells a) s
    keys_is is d s = ap (λ n. run n d s) is ∙ ap (λ v. keys_native v s) (arg 0 a first)

    pub log_is : which ≡ native.LogValue → (d : ℕ) (s : State) → run which d s ≡ log_native (seen w cells a) s
    log_is is d s = ap (λ n. run n d s) is ∙ ap (λ v. log_native v s) (arg 0 a first)

    pub from_json_is : which ≡ native.FromJson → (d : ℕ) (s : State) → run which d s ≡ from_json (seen w cells a) s
    from_json_is is d s = ap (λ n. run n d s) is ∙ ap (λ v. from_json v s) (arg 0 a first)

    pub to_json_is : which ≡ native.ToJson → (d : ℕ) (s : State) → run which d s ≡ to_json (seen w cells a) s
    to_json_is is d s = ap (λ n. run n d s) is ∙ ap (λ v. to_json v s) (arg 0 a first)

    module _ (b : StoreValue) (second : IsNth 1 b) where
      pub has_is : which ≡ native.HasProperty → (d : ℕ) (s : State) → run which d s ≡ has_native (seen w cells a) (seen w cells b) s
      has_is is d s = ap (λ n. run n d s) is ∙ (λ j. has_native (arg 0 a first j) (arg 1 b second j) s)

      pub get_is : which ≡ native.GetProperty → (d : ℕ) (s : State) → run which d s ≡ get_native (seen w cells a) (seen w cells b) s
      get_is is d s = ap (λ n. run n d s) is ∙ (λ j. get_native (arg 0 a first j) (arg 1 b second j) s)

      pub remove_is : which ≡ native.RemoveProperty → (d : ℕ) (s : State) → run which d s ≡ remove_native (seen w cells a) (seen w cells b) s
      remove_is is d s = ap (λ n. run n d s) is ∙ (λ j. remove_native (arg 0 a first j) (arg 1 b second j) s)

      pub later_is : which ≡ native.Later → (d : ℕ) (s : State) → run which d s ≡ later (seen w cells a) (seen w cells b) s
      later_is is d s = ap (λ n. run n d s) is ∙ (λ j. later (arg 0 a first j) (arg 1 b second j) s)

      pub post_is : which ≡ native.Post → (d : ℕ) (s : State) → run which d s ≡ post (seen w cells a) (seen w cells b) s
      post_is is d s = ap (λ n. run n d s) is ∙ (λ j. post (arg 0 a first j) (arg 1 b second j) s)

      pub set_is : (x : StoreValue) → IsNth 2 x → which ≡ native.SetProperty → (d : ℕ) (s : State) → run which d s ≡ set_native (seen w cells a) (seen w cells b) (seen w cells x) s
      set_is x third is d s = ap (λ n. run n d s) is ∙ (λ j. set_native (arg 0 a first j) (arg 1 b second j) (arg 2 x third j) s)

false_true : false ≡ true → ⊥
false_true e = cc

-- of the natives of prototypes `hasOwnProperty` stands here
pub has_own_is : (w : ℕ) (cells : List PlainCell) (args : List StoreValue) (this : Option Value) (which : NativeId) (a : StoreValue) → a ≡ unwrap_or (slice_get args 0) value.Undefined → (n : PrototypeNative) → is_part which ≡ true → which ≡ natives.Prototype n
    → (d : ℕ) (s : State) → run_native which this (all_seen w cells args) d s ≡ has_own_property this (seen w cells a) s
has_own_is w cells args this which a first n part is d s = by n is (sym (ap is_part is) ∙ part)
  where
    here : which ≡ natives.Prototype prototype.HasOwnProperty → run_native which this (all_seen w cells args) d s ≡ has_own_property this (seen w cells a) s
    here e = ap (λ k. run_native k this (all_seen w cells args) d s) e ∙ ap (λ v. has_own_property this v s) (nth_seen w cells args 0 ∙ ap (seen w cells) (sym first))

    by : (k : PrototypeNative) → which ≡ natives.Prototype k → is_part (natives.Prototype k) ≡ true → run_native which this (all_seen w cells args) d s ≡ has_own_property this (seen w cells a) s
    by prototype.HasOwnProperty e h = here e
    by _ e h = absurd (false_true h)

-- ## Natives that keep no note

pub silent_else : (n : AdsafeNative) → (n ≡ native.Later → ⊥) → (n ≡ native.LogValue → ⊥) → (n ≡ native.Post → ⊥) → keeps_note (natives.Adsafe n) ≡ false
silent_else native.Later l v p = absurd (l refl)
silent_else native.LogValue l v p = absurd (v refl)
silent_else native.Post l v p = absurd (p refl)
silent_else _ l v p = refl

pub part_else : (n : NativeId) → ((m : AdsafeNative) → n ≡ natives.Adsafe m → ⊥) → keeps_note n ≡ false
part_else (natives.Adsafe m) other = absurd (other m refl)
part_else _ other = refl
