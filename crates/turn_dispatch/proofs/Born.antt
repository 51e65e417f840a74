-- What was made is born in the widget's state.
use Rattle.std.proofs.Common.{◌≡◌, ℕ, ◌<◌, ◌≤◌, Bool, true, false, List, [], ◌∷◌, length, map, refl, sym, ap, ◌∙◌, subst, arith, if◌then◌else◌}
use Rattle.std.specs.Prelude.{Option, codes, nat_lt}
use Rattle.std.specs.List.{IsDistinct}
use Rattle.std.specs.Str.{bytes_eq}
use Rattle.std.specs.declared.vec.Vec.{Vec}
use Rattle.std.specs.declared.alloc.Global.{Global}
use Rattle.js_tree.specs.Forest.{Forest}
use Rattle.permitted_table.specs.declared.native.NativeId.TheVariants as natives
use Rattle.permitted_table.specs.declared.native.HostEntry.{HostEntry}
use Rattle.permitted_table.specs.declared.native.HostEntry.TheVariants as entry
use Rattle.store_cells.specs.declared.value.Value.{Value as StoreValue}
use Rattle.store_cells.specs.declared.value.Value.TheVariants as value
use Rattle.store_cells.specs.Cells.{Cells, PlainCell, is_bunch_at, is_scope_at, prototypes}
use Rattle.store_cells.specs.Host.{is_permitted_cell, place_of}
use Rattle.object_store.specs.declared.store.NewCell.TheVariants as fresh
use Rattle.object_store.specs.Calls.{IsPrototype, slots_of}
use Rattle.object_store.specs.Grows.{Grows}
use Rattle.widget_meaning.specs.Limits.{max_cells, max_nodes, max_slots, max_units}
use Rattle.widget_meaning.specs.Values.{Value, Undefined, Text, Own, Completion, Is, StopCause, Units, Cells as TooManyCells, Slots, Nodes}
use Rattle.widget_meaning.specs.OwnState.{Amounts, Cell, Pairs, State, new_bunch, new_object, plain_object}
use Rattle.widget_meaning.specs.Plan.{Plan, Ret, Halt}
use Rattle.widget_meaning.specs.Costs.{make, object_cost, sum, within}
use Rattle.widget_meaning.specs.HostTable.{native}
use Rattle.widget_meaning.specs.NativeForms as forms
use Rattle.page_tree.specs.declared.page.Page.{Page}
use Rattle.page_image.specs.Image.{number}
use Rattle.event_loop.specs.declared.around.Loop.{Loop}
use Rattle.js_image.specs.declared.outcome.Made.{Made}
use Rattle.js_image.specs.declared.outcome.Made.TheVariants as made
use Rattle.js_image.specs.Image.{Rest, image as store_image, seen, seen_pairs}
use Rattle.js_image.specs.Laws.{AreLawful}
use Rattle.js_image.specs.Plans.{made_plan, meant_new}
use Rattle.js_image.specs.Held.{ArePairs, IsFine, IsHeld}
use Rattle.js_image.proofs.Hosts.{entry_link, permitted_held}
use Rattle.native_image.specs.Image.{Outside, beside, image}
use Rattle.native_image.specs.Sound.{HoldsOwn, IsSound}
use Rattle.native_image.proofs.Joint.{rest, store_lift}
use Rattle.turn_dispatch.specs.Events.{Changes, IsNext, born, pairs_with, stored_pairs}

-- what a plan that ends ends with
record Ends (o p : Completion) (t u : State) : Type 0 where
  how : o ≡ p
  where_it_ends : t ≡ u

ends : (o p : Completion) (t u : State) → Ret o t ≡ Ret p u → Ends o p t u
ends o p t u h = record { how = cc; where_it_ends = cc }

no_stop : (c : StopCause) (s : State) (p : Completion) (u : State) → Halt c s ≡ Ret p u → ⊥
no_stop c s p u h = cc

paid_cases : (a b c d : Bool) (s : State) (o p : Completion) (t u : State)
    → (if a then Halt Units s else if b then Halt TooManyCells s else if c then Halt Slots s else if d then Halt Nodes s else Ret o t) ≡ Ret p u → Ends o p t u
paid_cases true b c d s o p t u h = absurd (no_stop Units s p u h)
paid_cases false true c d s o p t u h = absurd (no_stop TooManyCells s p u h)
paid_cases false false true d s o p t u h = absurd (no_stop Slots s p u h)
paid_cases false false false true s o p t u h = absurd (no_stop Nodes s p u h)
paid_cases false false false false s o p t u h = ends o p t u h

paid : (a : Amounts) (s : State) (o p : Completion) (t u : State) → within a s (Ret o t) ≡ Ret p u → Ends o p t u
paid a s o p t u h = paid_cases (nat_lt max_units a.units) (nat_lt max_cells a.cells) (nat_lt max_slots a.slots) (nat_lt max_nodes a.nodes) s o p t u h

is_same : (u v : Value) → Is u ≡ Is v → u ≡ v
is_same u v h = cc

-- a plan that pays and makes says the state after it, and the number of what was made
pub born_is : (c : Cell) (slots : ℕ) (s u : State) (v : Value) → ((k : Value → State → Plan) → make c slots s k ≡ k v u) → (born c (object_cost slots) s ≡ u) × (v ≡ Own (length s.own.heap))
born_is c slots s u v h =
    let e : Ends (Is (Own (length s.own.heap))) (Is v) (born c (object_cost slots) s) u = paid (sum s.own.counts (object_cost slots)) s _ _ _ _ (h (λ m t. Ret (Is m) t)) in
    (e.where_it_ends, sym (is_same (Own (length s.own.heap)) v e.how))

-- ## The event object before its Bunches

module _ (w : ℕ) (lt : w < 32) (old new : Cells) (laws : AreLawful old.cells) (grows : Grows w old.cells new.cells) (kind : List ℕ) (v : StoreValue) (proto bubble : ℕ) (at : proto ≡ place_of entry.ObjectPrototype) (be : bubble ≡ place_of (entry.Native natives.Bubble)) (pairs : Vec (List ℕ × StoreValue) Global) (are : pairs.items ≡ stored_pairs kind v bubble) where
  link : seen w old.cells (value.Ref bubble) ≡ native natives.Bubble
  link = ap (λ k. seen w old.cells (value.Ref k)) be ∙ entry_link w old.cells laws (entry.Native natives.Bubble)

  pairs_are : seen_pairs w old.cells pairs.items ≡ pairs_with kind Undefined Undefined (seen w old.cells v)
  pairs_are =
      ap (seen_pairs w old.cells) are
      ∙ (λ j. (let ps : Pairs = (codes "type", Text kind) ∷ (codes "target", Undefined) ∷ (codes "that", Undefined) ∷ (codes "value", seen w old.cells v) ∷ (codes "bubble", link j) ∷ [] in ps))

  cell_is : (fs : List Forest) (ns : List ℕ) → meant_new w old.cells fs ns (fresh.ObjectWith proto pairs) ≡ plain_object (pairs_with kind Undefined Undefined (seen w old.cells v))
  cell_is fs ns = λ j. new_object ((ap (λ k. seen w old.cells (value.Ref k)) at ∙ entry_link w old.cells laws entry.ObjectPrototype) j) (pairs_are j)

  module _ (m : Made) (id : ℕ) (is : m ≡ made.Cell id) (plan : (fs : List Forest) (r : Rest) (k : Value → State → Plan) → make (meant_new w old.cells fs r.nodes (fresh.ObjectWith proto pairs)) (slots_of (fresh.ObjectWith proto pairs)) (store_image fs r w old) k ≡ made_plan w new.cells m k (store_image fs r w new)) where
    made_so : (fs : List Forest) (x : Outside) (p : Page) (l : Loop) (b : Option Bool) → IsSound w old p l
        → (born (plain_object (pairs_with kind Undefined Undefined (seen w old.cells v))) (object_cost 5) (image fs x w (beside old p l b)) ≡ image fs x w (beside new p l b))
        × (seen w new.cells (value.Ref id) ≡ Own (length (image fs x w (beside old p l b)).own.heap))
    made_so fs x p l b sound =
        let r : Rest = rest w lt x (beside old p l b) in
        born_is (plain_object (pairs_with kind Undefined Undefined (seen w old.cells v))) 5 (image fs x w (beside old p l b)) (image fs x w (beside new p l b)) (seen w new.cells (value.Ref id))
        (λ k. (λ j. make (sym (cell_is fs r.nodes) j) (sym (ap length are) j) (image fs x w (beside old p l b)) k)
        ∙ (plan fs r k
        ∙ (ap (λ q. made_plan w new.cells q k (store_image fs r w new)) is
        ∙ ap (k (seen w new.cells (value.Ref id))) (store_lift w old new p l sound.holds grows lt fs x b))))

    pub object_born : (p : Page) → Changes w old new p (born (plain_object (pairs_with kind Undefined Undefined (seen w old.cells v))) (object_cost 5))
    object_born p fs x l b sound = (made_so fs x p l b sound).0

    pub object_next : (p : Page) → IsNext w old new p id
    object_next p fs x l b sound = (made_so fs x p l b sound).1

-- what an event object is made of is what the widget may hold
five_names : IsDistinct bytes_eq (codes "type" ∷ codes "target" ∷ codes "that" ∷ codes "value" ∷ codes "bubble" ∷ [])
unfolding IsDistinct
five_names = ((refl, (refl, (refl, (refl, tt)))), ((refl, (refl, (refl, tt))), ((refl, (refl, tt)), ((refl, tt), (tt, tt)))))

-- the host's cell of an entry, as the store gives it
pub record IsEntry (cells : List PlainCell) (e : HostEntry) (i : ℕ) : Type 0 where
  pub place : i ≡ place_of e
  pub within : is_permitted_cell i ≡ true
  pub object : is_scope_at cells i ≡ false
  pub unbunched : is_bunch_at cells i ≡ false
  pub chain : prototypes cells i ≤ 2
  pub born : i < length cells

pub event_new : (w : ℕ) (cells : List PlainCell) → AreLawful cells → (kind : List ℕ) (v : StoreValue) → IsFine w cells v → (proto : ℕ) → IsEntry cells entry.ObjectPrototype proto → (bubble : ℕ) → is_permitted_cell bubble ≡ true
    → (ps : List (List ℕ × StoreValue)) → ps ≡ stored_pairs kind v bubble
    → IsHeld w cells proto × IsPrototype cells proto × IsDistinct bytes_eq (map (λ p. p.0) ps) × ArePairs w cells ps
event_new w cells laws kind v fine proto h bubble b ps is = (
  permitted_held w cells laws proto h.within,
  record { within = h.born; object = h.object; unbunched = h.unbunched; few = omega (arith, h.chain) },
  subst (λ (l : List (List ℕ × StoreValue)). IsDistinct bytes_eq (map (λ p. p.0) l)) (sym is) five_names,
  subst (ArePairs w cells) (sym is) (tt, (tt, (tt, (fine, (permitted_held w cells laws bubble b, tt))))),
)

-- ## A Bunch of one node

module _ (w : ℕ) (old new : Cells) (p : Page) (node : ℕ) (nodes : List ℕ) (are : nodes ≡ node ∷ []) (m : Made) (id : ℕ) (is : m ≡ made.Cell id) (plan : (fs : List Forest) (x : Outside) (l : Loop) (b : Option Bool) (k : Value → State → Plan) → HoldsOwn w old p l → forms.make_bunch (map (number p w) nodes) (image fs x w (beside old p l b)) k ≡ made_plan w new.cells m k (image fs x w (beside new p l b))) where
  bunch_so : (fs : List Forest) (x : Outside) (l : Loop) (b : Option Bool) → IsSound w old p l
      → (born (new_bunch (number p w node ∷ [])) (object_cost 2) (image fs x w (beside old p l b)) ≡ image fs x w (beside new p l b))
      × (seen w new.cells (value.Ref id) ≡ Own (length (image fs x w (beside old p l b)).own.heap))
  bunch_so fs x l b sound =
      born_is (new_bunch (number p w node ∷ [])) 2 (image fs x w (beside old p l b)) (image fs x w (beside new p l b)) (seen w new.cells (value.Ref id))
      (λ k. ap (λ ns. forms.make_bunch (map (number p w) ns) (image fs x w (beside old p l b)) k) (sym are)
      ∙ (plan fs x l b k sound.holds ∙ ap (λ q. made_plan w new.cells q k (image fs x w (beside new p l b))) is))

  pub bunch_born : Changes w old new p (born (new_bunch (number p w node ∷ [])) (object_cost 2))
  bunch_born fs x l b sound = (bunch_so fs x l b sound).0

  pub bunch_next : IsNext w old new p id
  bunch_next fs x l b sound = (bunch_so fs x l b sound).1
