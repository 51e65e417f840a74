-- A call of a widget, as it sees it.
use Rattle.std.proofs.Common.{◌≡◌, ℕ, zero, suc, ◌+◌, ◌<◌, ◌≤◌, List, [], ◌∷◌, length, refl, sym, ap, ◌∙◌, subst, Option, Some, None, arith, Bool, true, false, eqb, cond, if◌then◌else◌, slice_get, filter, map, not, take}
use Rattle.std.specs.Prelude.{Result, Ok, Err, OnOk, IfOk, IfSome, ◌&&◌, nat_lt, max}
use Rattle.std.specs.Map.{lookup, remove_entry}
use Rattle.std.specs.Option.{option_map, option_map_or, option_and_then}
use Rattle.std.specs.Str.{bytes_eq}
use Rattle.std.proofs.lemmas.Bool.Decides.{nat_tests}
use Rattle.std.proofs.lemmas.Slice.Eq.{bytes_eq-Decides}
use Rattle.indexmap.specs.IndexMap.{insert_entry}
use Rattle.code_units.specs.declared.owner.Owner.{Owner}
use Rattle.store_cells.specs.declared.value.Value.{Value}
use Rattle.store_cells.specs.declared.value.Value.TheVariants as value
use Rattle.store_cells.specs.declared.kind.Form.{Form}
use Rattle.store_cells.specs.declared.kind.Form.TheVariants as form
use Rattle.code_units.specs.Indices.{index_of}
use Rattle.store_cells.specs.Lists.{changed, count_before}
use Rattle.store_cells.specs.Cells.{Cells, PlainCell, is_bunch, holder, is_own, is_scope, is_scope_at, is_visible, is_visible_form, own_count, widget_of, writer_in}
use Rattle.store_cells.specs.Arrays.{count_value, cut, extended, is_below, length_in, length_name, length_of, placed, resized, stored, written}
use Rattle.store_cells.specs.Bunches.{IsBunch}
use Rattle.store_cells.specs.Shape.{IsLinked, IsRefWithin}
use Rattle.store_cells.specs.declared.counts.Counts.{Counts}
use Rattle.store_cells.specs.Costs.{paid}
use Rattle.object_store.specs.Calls.{IsPut, IsRemoved, put_done, put_refusal, remove_done, remove_refusal, slots_at, var_done}
use Rattle.store_cells.specs.Arrays.{without}
use Rattle.object_store.specs.Owned.{Assigned, Changed, OwnCell, OwnKind, OwnScope, OwnValue, is_of, is_own_scope, is_own_scope_at, owned, own_cell, own_cells, own_length, own_link, own_pairs, own_put, own_raised, own_removed, own_resized, own_scope, own_scopes, own_set, own_value, scope_number, visible_at, with_own}
use Rattle.store_cells.proofs.Lists.{count_step, none_some, same_rest, some_same}
use Rattle.object_store.proofs.Paid.{none_paid, put_paid}
use Rattle.object_store.proofs.Others.{bunches, put_writer, remove_writer, stays, var_writer, stored_form, stored_owner, without_form, without_owner}
use Rattle.object_store.proofs.Views.{SameNumbers, heap_stays, numbers_kept, scopes_stay, value_same}
use Rattle.code_units.proofs.Indexed.{index_known}
use Rattle.store_cells.proofs.Writes.{count_length}

-- no index passes the largest
index_small : (name : List ℕ) (v : ℕ) → index_of name ≡ Some v → v ≤ 4294967294
index_small name v e = omega (arith, (index_known name v e).1)

-- an own cell is changed
module _ (w : ℕ) (f : PlainCell → PlainCell) (seen : (c : PlainCell) → is_visible w (f c) ≡ is_visible w c) (all : List PlainCell) (g : OwnCell → OwnCell) where
  heap_own : (cs : List PlainCell) (i : ℕ) → visible_at w cs i ≡ true → ((c : PlainCell) → slice_get cs i ≡ Some c → own_cell w all (f c) ≡ g (own_cell w all c)) → own_cells w all (changed cs i f) ≡ changed (own_cells w all cs) (own_count w cs i) g
  heap_own [] i v h = refl
  heap_own (c ∷ cs) zero v h =
      ap (λ b. map (own_cell w all) (if b then f c ∷ filter (is_visible w) cs else filter (is_visible w) cs)) (seen c ∙ v)
      ∙ ap (λ d. d ∷ own_cells w all cs) (h c refl)
      ∙ ap (λ b. changed (map (own_cell w all) (if b then c ∷ filter (is_visible w) cs else filter (is_visible w) cs)) 0 g) (sym v)
  heap_own (c ∷ cs) (suc i) v h = by (is_visible w c) (heap_own cs i v h) ∙ ap (λ k. changed (map (own_cell w all) (if is_visible w c then c ∷ filter (is_visible w) cs else filter (is_visible w) cs)) k g) (sym (count_step (is_visible w) c (take i cs)))
    where
      by : (b : Bool) → own_cells w all (changed cs i f) ≡ changed (own_cells w all cs) (own_count w cs i) g
          → (map (own_cell w all) (if b then c ∷ filter (is_visible w) (changed cs i f) else filter (is_visible w) (changed cs i f))) ≡ changed (map (own_cell w all) (if b then c ∷ filter (is_visible w) cs else filter (is_visible w) cs)) (if b then suc (own_count w cs i) else own_count w cs i) g
      by true e = ap (λ l. own_cell w all c ∷ l) e
      by false e = e

-- a written pair
pairs_written : (w : ℕ) (all : List PlainCell) (name : List ℕ) (v : Value) (ps : List (List ℕ × Value)) → own_pairs w all (insert_entry bytes_eq ps name v) ≡ insert_entry bytes_eq (own_pairs w all ps) name (own_value w all v)
pairs_written w all name v [] = refl
pairs_written w all name v (p ∷ ps) = by (bytes_eq name p.0) (pairs_written w all name v ps)
  where
    by : (b : Bool) → own_pairs w all (insert_entry bytes_eq ps name v) ≡ insert_entry bytes_eq (own_pairs w all ps) name (own_value w all v)
        → own_pairs w all (if b then (p.0, v) ∷ ps else p ∷ insert_entry bytes_eq ps name v) ≡ (if b then (p.0, own_value w all v) ∷ own_pairs w all ps else (p.0, own_value w all p.1) ∷ insert_entry bytes_eq (own_pairs w all ps) name (own_value w all v))
    by true r = refl
    by false r = ap (λ l. (p.0, own_value w all p.1) ∷ l) r

-- a pair taken out
pairs_without : (w : ℕ) (all : List PlainCell) (name : List ℕ) (ps : List (List ℕ × Value)) → own_pairs w all (remove_entry (bytes_eq name) ps) ≡ remove_entry (bytes_eq name) (own_pairs w all ps)
pairs_without w all name [] = refl
pairs_without w all name (p ∷ ps) = by (bytes_eq name p.0) (pairs_without w all name ps)
  where
    by : (b : Bool) → own_pairs w all (remove_entry (bytes_eq name) ps) ≡ remove_entry (bytes_eq name) (own_pairs w all ps)
        → own_pairs w all (cond b ps (p ∷ remove_entry (bytes_eq name) ps)) ≡ cond b (own_pairs w all ps) ((p.0, own_value w all p.1) ∷ remove_entry (bytes_eq name) (own_pairs w all ps))
    by true r = refl
    by false r = ap (λ l. (p.0, own_value w all p.1) ∷ l) r

-- pairs without `length`
abbrev other : List ℕ × Value → Bool
other p = not (bytes_eq p.0 length_name)

is_same : (a b : List ℕ) → bytes_eq a b ≡ true → a ≡ b
is_same a b e = (bytes_eq-Decides a b).0 e

same_is : (a b : List ℕ) → a ≡ b → bytes_eq a b ≡ true
same_is a b e = (bytes_eq-Decides a b).1 e

false_true : false ≡ true → ⊥
false_true g = cc

-- a name that equals one other than `length`
apart_length : (name x : List ℕ) → bytes_eq name length_name ≡ false → bytes_eq name x ≡ true → bytes_eq x length_name ≡ false
apart_length name x differs e = ap (λ t. bytes_eq t length_name) (sym (is_same name x e)) ∙ differs

others_inserted : (name : List ℕ) → bytes_eq name length_name ≡ false → (v : Value) (ps : List (List ℕ × Value)) → filter other (insert_entry bytes_eq ps name v) ≡ insert_entry bytes_eq (filter other ps) name v
others_inserted name differs v [] = ap (λ b. cond (not b) ((name, v) ∷ []) []) differs
others_inserted name differs v (p ∷ ps) = by (bytes_eq name p.0) refl (bytes_eq p.0 length_name) refl (others_inserted name differs v ps)
  where
    by : (b : Bool) → bytes_eq name p.0 ≡ b → (d : Bool) → bytes_eq p.0 length_name ≡ d → filter other (insert_entry bytes_eq ps name v) ≡ insert_entry bytes_eq (filter other ps) name v
        → filter other (if b then (p.0, v) ∷ ps else p ∷ insert_entry bytes_eq ps name v) ≡ insert_entry bytes_eq (cond (not d) (p ∷ filter other ps) (filter other ps)) name v
    by true e true g rest = absurd (false_true (sym (apart_length name p.0 differs e) ∙ g))
    by true e false g rest = ap (λ b. cond (not b) ((p.0, v) ∷ filter other ps) (filter other ps)) g ∙ sym (ap (λ b. if b then (p.0, v) ∷ filter other ps else p ∷ insert_entry bytes_eq (filter other ps) name v) e)
    by false e true g rest = ap (λ b. cond (not b) (p ∷ filter other (insert_entry bytes_eq ps name v)) (filter other (insert_entry bytes_eq ps name v))) g ∙ rest
    by false e false g rest =
        ap (λ b. cond (not b) (p ∷ filter other (insert_entry bytes_eq ps name v)) (filter other (insert_entry bytes_eq ps name v))) g ∙ ap (λ l. p ∷ l) rest
        ∙ sym (ap (λ b. if b then (p.0, v) ∷ filter other ps else p ∷ insert_entry bytes_eq (filter other ps) name v) e)

length_inserted : (v : Value) (ps : List (List ℕ × Value)) → filter other (insert_entry bytes_eq ps length_name v) ≡ filter other ps
length_inserted v [] = refl
length_inserted v (p ∷ ps) = by (bytes_eq length_name p.0) refl (bytes_eq p.0 length_name) refl (length_inserted v ps)
  where
    by : (b : Bool) → bytes_eq length_name p.0 ≡ b → (d : Bool) → bytes_eq p.0 length_name ≡ d → filter other (insert_entry bytes_eq ps length_name v) ≡ filter other ps
        → filter other (if b then (p.0, v) ∷ ps else p ∷ insert_entry bytes_eq ps length_name v) ≡ cond (not d) (p ∷ filter other ps) (filter other ps)
    by true e true g rest = ap (λ b. cond (not b) ((p.0, v) ∷ filter other ps) (filter other ps)) g
    by true e false g rest = absurd (false_true (sym g ∙ same_is p.0 length_name (sym (is_same length_name p.0 e))))
    by false e true g rest = absurd (false_true (sym e ∙ same_is length_name p.0 (sym (is_same p.0 length_name g))))
    by false e false g rest = ap (λ b. cond (not b) (p ∷ filter other (insert_entry bytes_eq ps length_name v)) (filter other (insert_entry bytes_eq ps length_name v))) g ∙ ap (λ l. p ∷ l) rest

others_removed : (name : List ℕ) → bytes_eq name length_name ≡ false → (ps : List (List ℕ × Value)) → filter other (remove_entry (bytes_eq name) ps) ≡ remove_entry (bytes_eq name) (filter other ps)
others_removed name differs [] = refl
others_removed name differs (p ∷ ps) = by (bytes_eq name p.0) refl (bytes_eq p.0 length_name) refl (others_removed name differs ps)
  where
    by : (b : Bool) → bytes_eq name p.0 ≡ b → (d : Bool) → bytes_eq p.0 length_name ≡ d → filter other (remove_entry (bytes_eq name) ps) ≡ remove_entry (bytes_eq name) (filter other ps)
        → filter other (cond b ps (p ∷ remove_entry (bytes_eq name) ps)) ≡ remove_entry (bytes_eq name) (cond (not d) (p ∷ filter other ps) (filter other ps))
    by true e true g rest = absurd (false_true (sym (apart_length name p.0 differs e) ∙ g))
    by true e false g rest = sym (ap (λ b. cond b (filter other ps) (p ∷ remove_entry (bytes_eq name) (filter other ps))) e)
    by false e true g rest = ap (λ b. cond (not b) (p ∷ filter other (remove_entry (bytes_eq name) ps)) (filter other (remove_entry (bytes_eq name) ps))) g ∙ rest
    by false e false g rest =
        ap (λ b. cond (not b) (p ∷ filter other (remove_entry (bytes_eq name) ps)) (filter other (remove_entry (bytes_eq name) ps))) g ∙ ap (λ l. p ∷ l) rest ∙ sym (ap (λ b. cond b (filter other ps) (p ∷ remove_entry (bytes_eq name) (filter other ps))) e)

no_length : (ps : List (List ℕ × Value)) → remove_entry (bytes_eq length_name) (filter other ps) ≡ filter other ps
no_length [] = refl
no_length (p ∷ ps) = by (bytes_eq p.0 length_name) refl (no_length ps)
  where
    by : (d : Bool) → bytes_eq p.0 length_name ≡ d → remove_entry (bytes_eq length_name) (filter other ps) ≡ filter other ps → remove_entry (bytes_eq length_name) (cond (not d) (p ∷ filter other ps) (filter other ps)) ≡ cond (not d) (p ∷ filter other ps) (filter other ps)
    by true g rest = rest
    by false g rest = last (bytes_eq length_name p.0) refl
      where
        last : (b : Bool) → bytes_eq length_name p.0 ≡ b → cond b (filter other ps) (p ∷ remove_entry (bytes_eq length_name) (filter other ps)) ≡ p ∷ filter other ps
        last true e = absurd (false_true (sym g ∙ same_is p.0 length_name (sym (is_same length_name p.0 e))))
        last false e = ap (λ l. p ∷ l) rest

-- the value under `length`
lookup_apart : (name : List ℕ) → bytes_eq name length_name ≡ false → (v : Value) (ps : List (List ℕ × Value)) → lookup (bytes_eq length_name) (insert_entry bytes_eq ps name v) ≡ lookup (bytes_eq length_name) ps
lookup_apart name differs v [] = ap (λ b. cond b (Some v) None) flipped
  where
    flipped : bytes_eq length_name name ≡ false
    flipped = pick (bytes_eq length_name name) refl
      where
        pick : (b : Bool) → bytes_eq length_name name ≡ b → b ≡ false
        pick false e = refl
        pick true e = absurd (false_true (sym differs ∙ same_is name length_name (sym (is_same length_name name e))))
lookup_apart name differs v (p ∷ ps) = by (bytes_eq name p.0) refl (lookup_apart name differs v ps)
  where
    by : (b : Bool) → bytes_eq name p.0 ≡ b → lookup (bytes_eq length_name) (insert_entry bytes_eq ps name v) ≡ lookup (bytes_eq length_name) ps
        → lookup (bytes_eq length_name) (if b then (p.0, v) ∷ ps else p ∷ insert_entry bytes_eq ps name v) ≡ cond (bytes_eq length_name p.0) (Some p.1) (lookup (bytes_eq length_name) ps)
    by true e rest = ap (λ b. cond b (Some v) (lookup (bytes_eq length_name) ps)) other_name ∙ sym (ap (λ b. cond b (Some p.1) (lookup (bytes_eq length_name) ps)) other_name)
      where
        other_name : bytes_eq length_name p.0 ≡ false
        other_name = pick (bytes_eq length_name p.0) refl
          where
            pick : (b : Bool) → bytes_eq length_name p.0 ≡ b → b ≡ false
            pick false g = refl
            pick true g = absurd (false_true (sym (apart_length name p.0 differs e) ∙ same_is p.0 length_name (sym (is_same length_name p.0 g))))
    by false e rest = ap (λ o. cond (bytes_eq length_name p.0) (Some p.1) o) rest

lookup_left : (name : List ℕ) → bytes_eq name length_name ≡ false → (ps : List (List ℕ × Value)) → lookup (bytes_eq length_name) (remove_entry (bytes_eq name) ps) ≡ lookup (bytes_eq length_name) ps
lookup_left name differs [] = refl
lookup_left name differs (p ∷ ps) = by (bytes_eq name p.0) refl (lookup_left name differs ps)
  where
    by : (b : Bool) → bytes_eq name p.0 ≡ b → lookup (bytes_eq length_name) (remove_entry (bytes_eq name) ps) ≡ lookup (bytes_eq length_name) ps
        → lookup (bytes_eq length_name) (cond b ps (p ∷ remove_entry (bytes_eq name) ps)) ≡ cond (bytes_eq length_name p.0) (Some p.1) (lookup (bytes_eq length_name) ps)
    by true e rest = sym (ap (λ b. cond b (Some p.1) (lookup (bytes_eq length_name) ps)) other_name)
      where
        other_name : bytes_eq length_name p.0 ≡ false
        other_name = pick (bytes_eq length_name p.0) refl
          where
            pick : (b : Bool) → bytes_eq length_name p.0 ≡ b → b ≡ false
            pick false g = refl
            pick true g = absurd (false_true (sym (apart_length name p.0 differs e) ∙ same_is p.0 length_name (sym (is_same length_name p.0 g))))
    by false e rest = ap (λ o. cond (bytes_eq length_name p.0) (Some p.1) o) rest

lookup_here : (v : Value) (ps : List (List ℕ × Value)) → lookup (bytes_eq length_name) (insert_entry bytes_eq ps length_name v) ≡ Some v
lookup_here v [] = refl
lookup_here v (p ∷ ps) = by (bytes_eq length_name p.0) refl (lookup_here v ps)
  where
    by : (b : Bool) → bytes_eq length_name p.0 ≡ b → lookup (bytes_eq length_name) (insert_entry bytes_eq ps length_name v) ≡ Some v → lookup (bytes_eq length_name) (if b then (p.0, v) ∷ ps else p ∷ insert_entry bytes_eq ps length_name v) ≡ Some v
    by true e rest = ap (λ b. cond b (Some v) (lookup (bytes_eq length_name) ps)) e
    by false e rest = ap (λ b. cond b (Some p.1) (lookup (bytes_eq length_name) (insert_entry bytes_eq ps length_name v))) e ∙ rest

-- `length` is no index, so a cut keeps it
lookup_kept : (n : ℕ) (ps : List (List ℕ × Value)) → lookup (bytes_eq length_name) (filter (λ p. is_below n p.0) ps) ≡ lookup (bytes_eq length_name) ps
lookup_kept n [] = refl
lookup_kept n (p ∷ ps) = by (is_below n p.0) refl (bytes_eq length_name p.0) refl (lookup_kept n ps)
  where
    by : (b : Bool) → is_below n p.0 ≡ b → (d : Bool) → bytes_eq length_name p.0 ≡ d → lookup (bytes_eq length_name) (filter (λ p. is_below n p.0) ps) ≡ lookup (bytes_eq length_name) ps
        → lookup (bytes_eq length_name) (cond b (p ∷ filter (λ p. is_below n p.0) ps) (filter (λ p. is_below n p.0) ps)) ≡ cond d (Some p.1) (lookup (bytes_eq length_name) ps)
    by true e d g rest = (λ j. cond (g j) (Some p.1) (rest j))
    by false e true g rest = absurd (false_true (sym e ∙ ap (is_below n) (sym (is_same length_name p.0 g))))
    by false e false g rest = rest

filters_swap : (n : ℕ) (ps : List (List ℕ × Value)) → filter other (filter (λ p. is_below n p.0) ps) ≡ filter (λ p. is_below n p.0) (filter other ps)
filters_swap n [] = refl
filters_swap n (p ∷ ps) = by (is_below n p.0) refl (bytes_eq p.0 length_name) refl (filters_swap n ps)
  where
    by : (b : Bool) → is_below n p.0 ≡ b → (d : Bool) → bytes_eq p.0 length_name ≡ d → filter other (filter (λ p. is_below n p.0) ps) ≡ filter (λ p. is_below n p.0) (filter other ps)
        → filter other (cond b (p ∷ filter (λ p. is_below n p.0) ps) (filter (λ p. is_below n p.0) ps)) ≡ filter (λ p. is_below n p.0) (cond (not d) (p ∷ filter other ps) (filter other ps))
    by true e true g rest = ap (λ d. cond (not d) (p ∷ filter other (filter (λ p. is_below n p.0) ps)) (filter other (filter (λ p. is_below n p.0) ps))) g ∙ rest
    by true e false g rest =
        ap (λ d. cond (not d) (p ∷ filter other (filter (λ p. is_below n p.0) ps)) (filter other (filter (λ p. is_below n p.0) ps))) g ∙ ap (λ l. p ∷ l) rest
        ∙ sym (ap (λ b. cond b (p ∷ filter (λ p. is_below n p.0) (filter other ps)) (filter (λ p. is_below n p.0) (filter other ps))) e)
    by false e true g rest = rest
    by false e false g rest = rest ∙ sym (ap (λ b. cond b (p ∷ filter (λ p. is_below n p.0) (filter other ps)) (filter (λ p. is_below n p.0) (filter other ps))) e)

pairs_below : (w : ℕ) (all : List PlainCell) (n : ℕ) (ps : List (List ℕ × Value)) → own_pairs w all (filter (λ p. is_below n p.0) ps) ≡ filter (λ p. is_below n p.0) (own_pairs w all ps)
pairs_below w all n [] = refl
pairs_below w all n (p ∷ ps) = by (is_below n p.0) (pairs_below w all n ps)
  where
    by : (b : Bool) → own_pairs w all (filter (λ p. is_below n p.0) ps) ≡ filter (λ p. is_below n p.0) (own_pairs w all ps)
        → own_pairs w all (cond b (p ∷ filter (λ p. is_below n p.0) ps) (filter (λ p. is_below n p.0) ps)) ≡ cond b ((p.0, own_value w all p.1) ∷ filter (λ p. is_below n p.0) (own_pairs w all ps)) (filter (λ p. is_below n p.0) (own_pairs w all ps))
    by true rest = ap (λ l. (p.0, own_value w all p.1) ∷ l) rest
    by false rest = rest

length_some : (o : Option Value) (v : Value) (n : ℕ) → o ≡ Some v → length_in v ≡ Some n → option_map_or (λ m. m) (option_and_then length_in o) 0 ≡ n
length_some o v n e g = ap (λ (p : Option Value). option_map_or (λ m. m) (option_and_then length_in p) 0) e ∙ ap (λ (p : Option ℕ). option_map_or (λ m. m) p 0) g

own_length_is : (w : ℕ) (all : List PlainCell) (v : Value) → own_length (own_value w all v) ≡ length_in v
own_length_is w all value.Undefined = refl
own_length_is w all value.Null = refl
own_length_is w all (value.Bool b) = refl
own_length_is w all (value.Num n) = refl
own_length_is w all (value.Text t) = refl
own_length_is w all (value.Ref i) = by (visible_at w all i)
  where
    by : (b : Bool) → own_length (if b then OwnValue.Own (own_count w all i) else OwnValue.Other i) ≡ None
    by true = refl
    by false = refl

-- a cell by its parts
abbrev cell : Owner → Form → Option ℕ → List (List ℕ × Value) → PlainCell
cell o f u ps = record { owner = o; form = f; up = u; pairs = ps }

-- `put` on an own cell
module _ (w : ℕ) (all : List PlainCell) (name : List ℕ) (v : Value) (o : Owner) (u : Option ℕ) (ps : List (List ℕ × Value)) where
  abbrev array : PlainCell
  array = cell o form.Array u ps

  abbrev seen : ℕ → List (List ℕ × OwnValue) → OwnCell
  seen n qs = record { kind = OwnKind.Array n; prototype = option_map (own_link w all) u; pairs = qs }

  array_length : (n : ℕ) → length_in v ≡ Some n → own_cell w all (cut n (written length_name v array)) ≡ own_resized (own_cell w all array) (Some n)
  array_length n e =
      let p = length_some (lookup (bytes_eq length_name) (filter (λ p. is_below n p.0) (insert_entry bytes_eq ps length_name v))) v n (lookup_kept n (insert_entry bytes_eq ps length_name v) ∙ lookup_here v ps) e in
      let q = ap (own_pairs w all) (filters_swap n (insert_entry bytes_eq ps length_name v) ∙ ap (λ l. filter (λ p. is_below n p.0) l) (length_inserted v ps)) ∙ pairs_below w all n (filter other ps) in
      λ j. seen (p j) (q j)

  array_resized : (o : Option ℕ) → length_in v ≡ o → own_cell w all (option_map_or (λ n. cut n (written length_name v array)) o array) ≡ own_resized (own_cell w all array) o
  array_resized None e = refl
  array_resized (Some n) e = array_length n e

  module _ (differs : bytes_eq name length_name ≡ false) where
    pairs_are : own_pairs w all (filter other (insert_entry bytes_eq ps name v)) ≡ insert_entry bytes_eq (own_pairs w all (filter other ps)) name (own_value w all v)
    pairs_are = ap (own_pairs w all) (others_inserted name differs v ps) ∙ pairs_written w all name v (filter other ps)

    length_is : length_of (insert_entry bytes_eq ps name v) ≡ length_of ps
    length_is = ap (λ (o : Option Value). option_map_or (λ m. m) (option_and_then length_in o) 0) (lookup_apart name differs v ps)

    array_written : own_cell w all (written name v array) ≡ with_own (own_cell w all array) (OwnKind.Array (length_of ps)) (insert_entry bytes_eq (own_pairs w all (filter other ps)) name (own_value w all v))
    array_written = λ j. seen (length_is j) (pairs_are j)

    array_placed : (o : Option ℕ) → index_of name ≡ o → own_cell w all (placed name v array o) ≡ with_own (own_cell w all array) (OwnKind.Array (own_raised (length_of ps) o)) (insert_entry bytes_eq (own_pairs w all (filter other ps)) name (own_value w all v))
    array_placed None e = array_written
    array_placed (Some i) e = by (nat_lt i (length_of ps)) refl
      where
        small : i + 1 ≤ 4294967295
        small = omega (arith, index_small name i e)

        below : nat_lt i (length_of ps) ≡ true → i < length_of ps
        below g = grind (arith, nat_tests, g)

        past : nat_lt i (length_of ps) ≡ false → length_of ps ≤ i
        past g = grind (arith, nat_tests, g)

        by : (b : Bool) → nat_lt i (length_of ps) ≡ b → own_cell w all (if b then written name v array else extended name v i array) ≡ with_own (own_cell w all array) (OwnKind.Array (max (length_of ps) (i + 1))) (insert_entry bytes_eq (own_pairs w all (filter other ps)) name (own_value w all v))
        by true g = array_written ∙ ap (λ n. seen n (insert_entry bytes_eq (own_pairs w all (filter other ps)) name (own_value w all v))) (omega (arith, below g))
        by false g =
            let p = length_some (lookup (bytes_eq length_name) (insert_entry bytes_eq (insert_entry bytes_eq ps name v) length_name (count_value (i + 1)))) (count_value (i + 1)) (i + 1) (lookup_here (count_value (i + 1)) (insert_entry bytes_eq ps name v)) (count_length (i + 1) small) in
            let q = ap (own_pairs w all) (length_inserted (count_value (i + 1)) (insert_entry bytes_eq ps name v)) ∙ pairs_are in
            let most : i + 1 ≡ max (length_of ps) (i + 1) = omega (arith, past g) in
            λ j. seen ((p ∙ most) j) (q j)

  array_stored : own_cell w all (stored name v array) ≡ own_put name (own_value w all v) (own_cell w all array)
  array_stored = by (bytes_eq name length_name) refl
    where
      by : (b : Bool) → bytes_eq name length_name ≡ b → own_cell w all (if b then resized v array else placed name v array (index_of name)) ≡ (if b then own_resized (own_cell w all array) (own_length (own_value w all v)) else with_own (own_cell w all array) (OwnKind.Array (own_raised (length_of ps) (index_of name))) (insert_entry bytes_eq (own_pairs w all (filter other ps)) name (own_value w all v)))
      by true e = array_resized (length_in v) refl ∙ ap (own_resized (own_cell w all array)) (sym (own_length_is w all v))
      by false e = array_placed e (index_of name) refl

  pub cell_stored : (f : Form) → is_visible_form f ≡ true → is_bunch f ≡ false → own_cell w all (stored name v (cell o f u ps)) ≡ own_put name (own_value w all v) (own_cell w all (cell o f u ps))
  cell_stored form.Object e g = λ j. record { kind = OwnKind.Object; prototype = option_map (own_link w all) u; pairs = pairs_written w all name v ps j }
  cell_stored form.Array e g = array_stored
  cell_stored (form.Function p) e g = λ j. record { kind = OwnKind.Function p.code p.fun p.declared (option_map (scope_number w all) p.scope); prototype = option_map (own_link w all) u; pairs = pairs_written w all name v ps j }
  cell_stored (form.Native p) e g = absurd (false_true e)
  cell_stored form.Scope e g = absurd (false_true e)
  cell_stored form.Bunch e g = absurd (false_true (sym g))
  cell_stored (form.RawNode p) e g = absurd (false_true e)
  cell_stored form.Global e g = absurd (false_true e)

-- `remove` on an own cell
module _ (w : ℕ) (all : List PlainCell) (name : List ℕ) (o : Owner) (u : Option ℕ) (ps : List (List ℕ × Value)) where
  array_without : own_cell w all (without name (cell o form.Array u ps)) ≡ own_removed name (own_cell w all (cell o form.Array u ps))
  array_without = by (bytes_eq name length_name) refl
    where
      kind_is : bytes_eq name length_name ≡ false → length_of (remove_entry (bytes_eq name) ps) ≡ length_of ps
      kind_is differs = ap (λ (o : Option Value). option_map_or (λ m. m) (option_and_then length_in o) 0) (lookup_left name differs ps)

      by : (b : Bool) → bytes_eq name length_name ≡ b → own_cell w all (if b then cell o form.Array u ps else cell o form.Array u (remove_entry (bytes_eq name) ps)) ≡ own_removed name (own_cell w all (cell o form.Array u ps))
      by true e =
          let q = pairs_without w all name (filter other ps) in
          let same : remove_entry (bytes_eq name) (filter other ps) ≡ filter other ps = ap (λ t. remove_entry (bytes_eq t) (filter other ps)) (is_same name length_name e) ∙ no_length ps in
          λ j. record { kind = OwnKind.Array (length_of ps); prototype = option_map (own_link w all) u; pairs = (ap (own_pairs w all) (sym same) ∙ q) j }
      by false e = λ j. record { kind = OwnKind.Array (kind_is e j); prototype = option_map (own_link w all) u; pairs = (ap (own_pairs w all) (others_removed name e ps) ∙ pairs_without w all name (filter other ps)) j }

  pub cell_without : (f : Form) → is_visible_form f ≡ true → is_bunch f ≡ false → own_cell w all (without name (cell o f u ps)) ≡ own_removed name (own_cell w all (cell o f u ps))
  cell_without form.Object e g = λ j. record { kind = OwnKind.Object; prototype = option_map (own_link w all) u; pairs = pairs_without w all name ps j }
  cell_without form.Array e g = array_without
  cell_without (form.Function p) e g = λ j. record { kind = OwnKind.Function p.code p.fun p.declared (option_map (scope_number w all) p.scope); prototype = option_map (own_link w all) u; pairs = pairs_without w all name ps j }
  cell_without (form.Native p) e g = absurd (false_true e)
  cell_without form.Scope e g = absurd (false_true e)
  cell_without form.Bunch e g = absurd (false_true (sym g))
  cell_without (form.RawNode p) e g = absurd (false_true e)
  cell_without form.Global e g = absurd (false_true e)

-- a visible cell is no scope
visible_no_scope : (w : ℕ) (c : PlainCell) → is_visible w c ≡ true → is_own_scope w c ≡ false
visible_no_scope w c e = by (widget_of c.owner) e
  where
    form_no_scope : (f : Form) → is_visible_form f ≡ true → is_scope f ≡ false
    form_no_scope form.Object e = refl
    form_no_scope form.Array e = refl
    form_no_scope (form.Function p) e = refl
    form_no_scope (form.Native p) e = refl
    form_no_scope form.Scope e = absurd (false_true e)
    form_no_scope form.Bunch e = refl
    form_no_scope (form.RawNode p) e = refl
    form_no_scope form.Global e = refl

    second : (a b : Bool) → (a && b) ≡ true → b ≡ true
    second true b e = e
    second false b e = absurd (false_true e)

    and_false : (a b : Bool) → b ≡ false → (a && b) ≡ false
    and_false true b e = e
    and_false false b e = refl

    by : (o : Option ℕ) → option_map_or (λ v. eqb v w && is_visible_form c.form) o false ≡ true → (option_map_or (λ v. eqb v w) o false && is_scope c.form) ≡ false
    by None e = absurd (false_true e)
    by (Some v) e = and_false (eqb v w) (is_scope c.form) (form_no_scope c.form (second (eqb v w) (is_visible_form c.form) e))

pub visible_form : (w : ℕ) (c : PlainCell) → is_visible w c ≡ true → is_visible_form c.form ≡ true
visible_form w c e = by (widget_of c.owner) e
  where
    second : (a b : Bool) → (a && b) ≡ true → b ≡ true
    second true b e = e
    second false b e = absurd (false_true e)

    by : (o : Option ℕ) → option_map_or (λ v. eqb v w && is_visible_form c.form) o false ≡ true → is_visible_form c.form ≡ true
    by None e = absurd (false_true e)
    by (Some v) e = second (eqb v w) (is_visible_form c.form) e

pub open_no_bunch : (o : Owner) (f : Form) (x : ℕ) → writer_in o f ≡ Some x → is_bunch f ≡ false
open_no_bunch o f x e = by (is_bunch f) e
  where
    by : (b : Bool) → (if b then None else widget_of o) ≡ Some x → b ≡ false
    by true e = absurd (none_some e)
    by false e = refl

scopes_seen : (w : ℕ) (f : PlainCell → PlainCell) (all cs : List PlainCell) (i : ℕ) → ((c : PlainCell) → slice_get cs i ≡ Some c → (is_own_scope w (f c) ≡ false) × (is_own_scope w c ≡ false)) → own_scopes w all (changed cs i f) ≡ own_scopes w all cs
scopes_seen w f all [] i h = refl
scopes_seen w f all (c ∷ cs) zero h =
    ap (λ b. map (own_scope w all) (if b then f c ∷ filter (is_own_scope w) cs else filter (is_own_scope w) cs)) (h c refl).0
    ∙ ap (λ b. map (own_scope w all) (if b then c ∷ filter (is_own_scope w) cs else filter (is_own_scope w) cs)) (sym (h c refl).1)
scopes_seen w f all (c ∷ cs) (suc i) h = same_rest (own_scope w all) (is_own_scope w) c (changed cs i f) cs (scopes_seen w f all cs i h)

-- a widget's write, as it sees it
module _ (s : Cells) (links : (i : ℕ) (c : PlainCell) → slice_get s.cells i ≡ Some c → IsLinked s.cells i c) (bunches_each : (i : ℕ) (c : PlainCell) → slice_get s.cells i ≡ Some c → is_bunch c.form ≡ true → IsBunch s.cells c) (i : ℕ) where
  module _ (x : ℕ) (c : PlainCell) (at : slice_get s.cells i ≡ Some c) (writer : writer_in c.owner c.form ≡ Some x) (f : PlainCell → PlainCell) (same_owner : (d : PlainCell) → (f d).owner ≡ d.owner) (same_form : (d : PlainCell) → (f d).form ≡ d.form) (w : ℕ) (visible : is_visible w c ≡ true) (counts : List Counts) (g : OwnCell → OwnCell) where
    numbers : SameNumbers w (length s.cells) (changed s.cells i f) s.cells
    numbers = numbers_kept w f same_owner same_form s.cells i (length s.cells)

    here : visible_at w s.cells i ≡ true
    here = ap (λ (o : Option PlainCell). option_map_or (is_visible w) o false) at ∙ visible

    no_scope : (d : PlainCell) → slice_get s.cells i ≡ Some d → (is_own_scope w (f d) ≡ false) × (is_own_scope w d ≡ false)
    no_scope d e =
        let is : is_own_scope w d ≡ false = ap (is_own_scope w) (some_same d c (sym e ∙ at)) ∙ visible_no_scope w c visible in
        ((λ j. is_of w (same_owner d j) && is_scope (same_form d j)) ∙ is, is)

    pub own_changed : (slots : ℕ) → slice_get counts w ≡ option_map (paid 0 slots 0) (slice_get s.kept w) → own_cell w (changed s.cells i f) (f c) ≡ g (own_cell w (changed s.cells i f) c) → Changed w s (record { cells = changed s.cells i f; kept = counts }) i slots g
    unfolding owned
    own_changed slots pay h = record {
      heap =
          heap_own w f (λ d. λ j. is_own w (same_owner d j) (same_form d j)) (changed s.cells i f) g s.cells i here (λ d e. subst (λ (y : PlainCell). own_cell w (changed s.cells i f) (f y) ≡ g (own_cell w (changed s.cells i f) y)) (some_same c d (sym at ∙ e)) h)
          ∙ ap (λ l. changed l (own_count w s.cells i) g) (heap_stays s.cells (changed s.cells i f) links (bunches s links bunches_each) (stays s links bunches_each i x c at writer f same_owner same_form) w numbers);
      scopes = scopes_seen w f (changed s.cells i f) s.cells i no_scope ∙ scopes_stay s.cells (changed s.cells i f) links (bunches s links bunches_each) (stays s links bunches_each i x c at writer f same_owner same_form) w numbers;
      paid = pay;
    }

    pub numbers_same : (u : Value) → IsRefWithin (length s.cells) u → own_value w (changed s.cells i f) u ≡ own_value w s.cells u
    numbers_same u ref = value_same w (length s.cells) (changed s.cells i f) s.cells numbers u ref

  -- `put`
  module _ (name : List ℕ) (u : Value) (ref : IsRefWithin (length s.cells) u) where
    put_own : put_refusal s i name u ≡ None → (w : ℕ) → visible_at w s.cells i ≡ true → Changed w s (put_done s i name u) i (slots_at s.cells i name) (own_put name (own_value w s.cells u))
    put_own none w v = by (slice_get s.cells i) refl
      where
        visible : (c : PlainCell) → slice_get s.cells i ≡ Some c → is_visible w c ≡ true
        visible c at = sym (ap (λ (o : Option PlainCell). option_map_or (is_visible w) o false) at) ∙ v

        by : (o : Option PlainCell) → slice_get s.cells i ≡ o → Changed w s (put_done s i name u) i (slots_at s.cells i name) (own_put name (own_value w s.cells u))
        by None at = absurd (false_true (sym (ap (λ (o : Option PlainCell). option_map_or (is_visible w) o false) at) ∙ v))
        by (Some c) at =
            let k = put_writer s links bunches_each i name u c at none in
            let e = visible_form w c (visible c at) in
            let stored_is = cell_stored w (changed s.cells i (stored name u)) name u c.owner c.up c.pairs c.form e (open_no_bunch c.owner c.form k.0 k.1) in
            let same = numbers_same k.0 c at k.1 (stored name u) (stored_owner name u) (stored_form name u) w (visible c at) s.kept (own_put name (own_value w s.cells u)) u ref in
            own_changed k.0 c at k.1 (stored name u) (stored_owner name u) (stored_form name u) w (visible c at) (put_done s i name u).kept (own_put name (own_value w s.cells u)) (slots_at s.cells i name) (put_paid s i name u c k.0 w at k.1 (visible c at)) (stored_is ∙ ap (λ y. own_put name y (own_cell w (changed s.cells i (stored name u)) c)) same)

    pub put_own_seen : {E : Type 0} (r : Result (Unit {0}) E) (t : Cells) → OnOk r (IsPut s t i name u) → OnOk r ((w : ℕ) → visible_at w s.cells i ≡ true → Changed w s t i (slots_at s.cells i name) (own_put name (own_value w s.cells u)))
    put_own_seen (Ok y) t ok = λ w v. subst (λ (d : Cells). Changed w s d i (slots_at s.cells i name) (own_put name (own_value w s.cells u))) (sym ok.done) (put_own ok.allowed w v)
    put_own_seen (Err y) t ok = tt

  -- `remove`
  module _ (name : List ℕ) where
    remove_own : remove_refusal s i ≡ None → (w : ℕ) → visible_at w s.cells i ≡ true → Changed w s (remove_done s i name) i 0 (own_removed name)
    remove_own none w v = by (slice_get s.cells i) refl
      where
        visible : (c : PlainCell) → slice_get s.cells i ≡ Some c → is_visible w c ≡ true
        visible c at = sym (ap (λ (o : Option PlainCell). option_map_or (is_visible w) o false) at) ∙ v

        by : (o : Option PlainCell) → slice_get s.cells i ≡ o → Changed w s (remove_done s i name) i 0 (own_removed name)
        by None at = absurd (false_true (sym (ap (λ (o : Option PlainCell). option_map_or (is_visible w) o false) at) ∙ v))
        by (Some c) at =
            let k = remove_writer s links bunches_each i c at none in
            own_changed k.0 c at k.1 (without name) (without_owner name value.Undefined) (without_form name value.Undefined) w (visible c at) s.kept (own_removed name) 0 (none_paid (slice_get s.kept w)) (cell_without w (changed s.cells i (without name)) name c.owner c.up c.pairs c.form (visible_form w c (visible c at)) (open_no_bunch c.owner c.form k.0 k.1))

    pub remove_own_seen : {E : Type 0} (r : Result Bool E) (t : Cells) → IfOk r (λ b. IsRemoved s t i name b) → OnOk r ((w : ℕ) → visible_at w s.cells i ≡ true → Changed w s t i 0 (own_removed name))
    remove_own_seen (Ok y) t ok = λ w v. subst (λ (d : Cells). Changed w s d i 0 (own_removed name)) (sym ok.done) (remove_own ok.allowed w v)
    remove_own_seen (Err y) t ok = tt

-- a scope is no visible cell
scope_not_visible : (w : ℕ) (c : PlainCell) → is_own_scope w c ≡ true → is_visible w c ≡ false
scope_not_visible w c e = by (is_visible w c) refl
  where
    by : (b : Bool) → is_visible w c ≡ b → b ≡ false
    by false g = refl
    by true g = absurd (false_true (sym (visible_no_scope w c g) ∙ e))

scopes_own : (w : ℕ) (f : PlainCell → PlainCell) → ((c : PlainCell) → is_own_scope w (f c) ≡ is_own_scope w c) → (all : List PlainCell) (g : OwnScope → OwnScope) (cs : List PlainCell) (i : ℕ) → is_own_scope_at w cs i ≡ true → ((c : PlainCell) → own_scope w all (f c) ≡ g (own_scope w all c)) → own_scopes w all (changed cs i f) ≡ changed (own_scopes w all cs) (count_before (is_own_scope w) cs i) g
scopes_own w f seen all g [] i v h = refl
scopes_own w f seen all g (c ∷ cs) zero v h =
    ap (λ b. map (own_scope w all) (if b then f c ∷ filter (is_own_scope w) cs else filter (is_own_scope w) cs)) (seen c ∙ v)
    ∙ ap (λ d. d ∷ own_scopes w all cs) (h c)
    ∙ ap (λ b. changed (map (own_scope w all) (if b then c ∷ filter (is_own_scope w) cs else filter (is_own_scope w) cs)) 0 g) (sym v)
scopes_own w f seen all g (c ∷ cs) (suc i) v h = by (is_own_scope w c) (scopes_own w f seen all g cs i v h) ∙ ap (λ k. changed (map (own_scope w all) (if is_own_scope w c then c ∷ filter (is_own_scope w) cs else filter (is_own_scope w) cs)) k g) (sym (count_step (is_own_scope w) c (take i cs)))
  where
    by : (b : Bool) → own_scopes w all (changed cs i f) ≡ changed (own_scopes w all cs) (count_before (is_own_scope w) cs i) g
        → (map (own_scope w all) (if b then c ∷ filter (is_own_scope w) (changed cs i f) else filter (is_own_scope w) (changed cs i f))) ≡ changed (map (own_scope w all) (if b then c ∷ filter (is_own_scope w) cs else filter (is_own_scope w) cs)) (if b then suc (count_before (is_own_scope w) cs i) else count_before (is_own_scope w) cs i) g
    by true e = ap (λ l. own_scope w all c ∷ l) e
    by false e = e

heap_unseen : (w : ℕ) (f : PlainCell → PlainCell) (all cs : List PlainCell) (i : ℕ) → ((c : PlainCell) → slice_get cs i ≡ Some c → (is_visible w (f c) ≡ false) × (is_visible w c ≡ false)) → own_cells w all (changed cs i f) ≡ own_cells w all cs
heap_unseen w f all [] i h = refl
heap_unseen w f all (c ∷ cs) zero h =
    ap (λ b. map (own_cell w all) (if b then f c ∷ filter (is_visible w) cs else filter (is_visible w) cs)) (h c refl).0
    ∙ ap (λ b. map (own_cell w all) (if b then c ∷ filter (is_visible w) cs else filter (is_visible w) cs)) (sym (h c refl).1)
heap_unseen w f all (c ∷ cs) (suc i) h = same_rest (own_cell w all) (is_visible w) c (changed cs i f) cs (heap_unseen w f all cs i h)

-- `var_set`, as the scope's widget sees it
module _ (s : Cells) (links : (i : ℕ) (c : PlainCell) → slice_get s.cells i ≡ Some c → IsLinked s.cells i c) (bunches_each : (i : ℕ) (c : PlainCell) → slice_get s.cells i ≡ Some c → is_bunch c.form ≡ true → IsBunch s.cells c) (from : ℕ) (name : List ℕ) (u : Value) (scope : is_scope_at s.cells from ≡ true) (ref : IsRefWithin (length s.cells) u) where
  pub var_own : (t : Cells) → t ≡ var_done s from name u → (w : ℕ) → IfSome (holder s.cells from name) (λ h. is_own_scope_at w s.cells h ≡ true → Assigned w s t h (own_set name (own_value w s.cells u)))
  unfolding owned
  var_own t done w = by (holder s.cells from name) refl
    where
      by : (o : Option ℕ) → holder s.cells from name ≡ o → IfSome o (λ h. is_own_scope_at w s.cells h ≡ true → Assigned w s t h (own_set name (own_value w s.cells u)))
      by None e = tt
      by (Some h) e = λ v. subst (λ (d : Cells). Assigned w s d h (own_set name (own_value w s.cells u))) (sym (done ∙ is)) (assigned v)
        where
          f : PlainCell → PlainCell
          f = written name u

          after : List PlainCell
          after = changed s.cells h f

          is : var_done s from name u ≡ record { cells = changed s.cells h (written name u); kept = s.kept }
          is = ap (λ (o : Option ℕ). let d : Cells = record { cells = option_map_or (λ k. changed s.cells k (written name u)) o s.cells; kept = s.kept } in d) e

          numbers : SameNumbers w (length s.cells) (changed s.cells h (written name u)) s.cells
          numbers = numbers_kept w (written name u) (λ d. refl) (λ d. refl) s.cells h (length s.cells)

          assigned : is_own_scope_at w s.cells h ≡ true → Assigned w s (record { cells = changed s.cells h (written name u); kept = s.kept }) h (own_set name (own_value w s.cells u))
          assigned v =
              let k = var_writer s links bunches_each from name u scope h e in
              let hidden = stays s links bunches_each h k.0 k.1 k.2 k.3 (written name u) (λ d. refl) (λ d. refl) in
              let own : is_own_scope w k.1 ≡ true = sym (ap (λ (o : Option PlainCell). option_map_or (is_own_scope w) o false) k.2) ∙ v in
              let unseen : (c : PlainCell) → slice_get s.cells h ≡ Some c → (is_visible w c ≡ false) × (is_visible w c ≡ false) = λ c g. let n = ap (is_visible w) (some_same c k.1 (sym g ∙ k.2)) ∙ scope_not_visible w k.1 own in (n, n) in
              let same : own_value w (changed s.cells h (written name u)) u ≡ own_value w s.cells u = value_same w (length s.cells) (changed s.cells h (written name u)) s.cells numbers u ref in
              record {
                heap = heap_unseen w (written name u) (changed s.cells h (written name u)) s.cells h unseen ∙ heap_stays s.cells (changed s.cells h (written name u)) links (bunches s links bunches_each) hidden w numbers;
                scopes =
                    scopes_own w (written name u) (λ c. refl) (changed s.cells h (written name u)) (own_set name (own_value w s.cells u)) s.cells h v (λ c. (λ j. record { outer = option_map (scope_number w (changed s.cells h (written name u))) c.up; pairs = pairs_written w (changed s.cells h (written name u)) name u c.pairs j }) ∙ ap (λ x. own_set name x (own_scope w (changed s.cells h (written name u)) c)) same)
                    ∙ ap (λ l. changed l (scope_number w s.cells h) (own_set name (own_value w s.cells u))) (scopes_stay s.cells (changed s.cells h (written name u)) links (bunches s links bunches_each) hidden w numbers);
                paid = refl;
              }
