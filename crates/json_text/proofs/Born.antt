-- What is born of JSON, one part after the other.
use Rattle.std.proofs.Common.{◌≡◌, ℕ, suc, ◌+◌, List, [], ◌∷◌, ◌++◌, length, refl, sym, ap, ◌∙◌, None, Bool, true, false, arith, if◌then◌else◌, append_assoc, is_some}
use Rattle.std.specs.Prelude.{nat_lt, slice_index_or, slice_set}
use Rattle.std.proofs.lemmas.List.{length-append}
use Rattle.std.proofs.lemmas.List.Sums.{sum_by-append, sum_by-cons}
use Rattle.js_tree.specs.Forest.{Forest}
use Rattle.store_cells.specs.declared.value.Value.{Value as StoreValue}
use Rattle.store_cells.specs.Cells.{Cells}
use Rattle.widget_meaning.specs.Limits.{max_cells, max_nodes, max_slots, max_units}
use Rattle.widget_meaning.specs.Values as meaning
use Rattle.widget_meaning.specs.Values.{Completion, Is, Own, Undefined, Value}
use Rattle.widget_meaning.specs.OwnState.{Amounts, Cell, Pairs, State, cell_at, lookup, replaced, with_cell, with_new_cell, with_own}
use Rattle.widget_meaning.specs.Plan.{Halt, Ret}
use Rattle.widget_meaning.specs.Costs.{cost, give, make, pay, slots_cost, sum, with_counts, within}
use Rattle.widget_meaning.specs.Properties.{put, put_own, put_pair}
use Rattle.widget_meaning.specs.JsonValues.{Parts, cells_at, value_at, with_part}
use Rattle.serde_json.specs.Data as json
use Rattle.js_image.specs.Image.{Rest, image, seen}
use Rattle.js_values.proofs.Plain.{seen_plain}
use Rattle.json_text.specs.Building.{Begins, Builds, Comes, IsPlainOf, joined, raised, slots_in}

halt_ret : {c : meaning.StopCause} {s t : State} {o : Completion} → Halt c s ≡ Ret o t → ⊥
halt_ret e = cc

ret_state : (o p : Completion) (s t : State) → Ret o s ≡ Ret p t → s ≡ t
ret_state o p s t e = cc

ret_how : (o p : Completion) (s t : State) → Ret o s ≡ Ret p t → o ≡ p
ret_how o p s t e = cc

-- what was paid was within the limits
chosen : (a b c d : Bool) (s u t : State) (o p : Completion) → (if a then Halt meaning.Units s else if b then Halt meaning.Cells s else if c then Halt meaning.Slots s else if d then Halt meaning.Nodes s else Ret o u) ≡ Ret p t → Ret o u ≡ Ret p t
chosen true b c d s u t o p e = absurd (halt_ret e)
chosen false true c d s u t o p e = absurd (halt_ret e)
chosen false false true d s u t o p e = absurd (halt_ret e)
chosen false false false true s u t o p e = absurd (halt_ret e)
chosen false false false false s u t o p e = e

pub paid_within : (a : Amounts) (s u t : State) (o p : Completion) → within a s (Ret o u) ≡ Ret p t → Ret o u ≡ Ret p t
paid_within a s u t o p e = chosen (nat_lt max_units a.units) (nat_lt max_cells a.cells) (nat_lt max_slots a.slots) (nat_lt max_nodes a.nodes) s u t o p e

pub state_same : (o p : Completion) (s t : State) → Ret o s ≡ Ret p t → s ≡ t
state_same = ret_state

value_same : (v u : Value) → Is v ≡ Is u → v ≡ u
value_same v u e = cc

pub given_same : (v u : Value) (s t : State) → give v s ≡ give u t → (v ≡ u) × (s ≡ t)
given_same v u s t e = (value_same v u (ret_how (Is v) (Is u) s t e), ret_state (Is v) (Is u) s t e)

-- the object at the end of the older ones
at_end : (h : List Cell) (c : Cell) (cs : List Cell) (d : Cell) → slice_index_or (h ++ c ∷ cs) (length h) d ≡ c
at_end [] c cs d = refl
at_end (x ∷ h) c cs d = at_end h c cs d

set_end : (h : List Cell) (c b : Cell) (cs : List Cell) → slice_set (h ++ c ∷ cs) (length h) b ≡ h ++ b ∷ cs
set_end [] c b cs = refl
set_end (x ∷ h) c b cs = ap (λ l. x ∷ l) (set_end h c b cs)

slots_of : Cell → ℕ
slots_of c = length c.pairs

module _ (s : State) where
  abbrev n : ℕ
  n = length s.own.heap

  -- objects and then more
  pub raised_more : (xs ys : List Cell) → raised (raised s xs) ys ≡ raised s (xs ++ ys)
  raised_more xs ys =
      let units : (a : ℕ) → (a + 0) + 0 ≡ a + 0 = λ (a : ℕ). omega arith in
      let cells : (s.own.counts.cells + length xs) + length ys ≡ s.own.counts.cells + length (xs ++ ys) = omega (arith, length-append xs ys) in
      let slots : (s.own.counts.slots + slots_in xs) + slots_in ys ≡ s.own.counts.slots + slots_in (xs ++ ys) = omega (arith, sum_by-append (λ (c : Cell). length c.pairs) xs ys) in
      λ j. with_own s (record s.own { heap = append_assoc s.own.heap xs ys j; counts = cost (units s.own.counts.units j) (cells j) (slots j) (units s.own.counts.nodes j) })

  nothing_more : (xs : List Cell) → xs ++ [] ≡ xs
  nothing_more [] = refl
  nothing_more (x ∷ xs) = ap (λ l. x ∷ l) (nothing_more xs)

  -- no objects
  pub raised_none : raised s [] ≡ s
  raised_none =
      let same : (a : ℕ) → a + 0 ≡ a = λ (a : ℕ). omega arith in
      λ j. with_own s (record s.own { heap = nothing_more s.own.heap j; counts = cost (same s.own.counts.units j) (same s.own.counts.cells j) (same s.own.counts.slots j) (same s.own.counts.nodes j) })

  -- the object that was begun
  pub begun_at : (c : Cell) (cs : List Cell) → cell_at (raised s (c ∷ cs)) n ≡ c
  begun_at c cs = at_end s.own.heap c cs _

  -- how many objects there are
  pub born_length : (c : Cell) (cs : List Cell) → length (raised s (c ∷ cs)).own.heap ≡ n + 1 + length cs
  born_length c cs = omega (arith, length-append s.own.heap (c ∷ cs))

  -- one more property of the object that was begun
  pub one_more : (c b : Cell) (cs : List Cell) → length b.pairs ≡ length c.pairs + 1 → with_cell (with_counts (raised s (c ∷ cs)) (sum (raised s (c ∷ cs)).own.counts (slots_cost 1))) n b ≡ raised s (b ∷ cs)
  one_more c b cs more =
      let same : (a : ℕ) → (a + 0) + 0 ≡ a + 0 = λ (a : ℕ). omega arith in
      let count : (s.own.counts.cells + suc (length cs)) + 0 ≡ s.own.counts.cells + suc (length cs) = omega arith in
      let slots : (s.own.counts.slots + slots_in (c ∷ cs)) + 1 ≡ s.own.counts.slots + slots_in (b ∷ cs) = omega (arith, more, sum_by-cons (λ (d : Cell). length d.pairs) c cs, sum_by-cons (λ (d : Cell). length d.pairs) b cs) in
      λ j. with_own s (record s.own { heap = set_end s.own.heap c b cs j; counts = cost (same s.own.counts.units j) (count j) (slots j) (same s.own.counts.nodes j) })

-- parts that come one after the other
joined_next : (ps : Pairs) (cs ds : List Cell) (x : List ℕ) (v : Value) (q : Parts) → joined (ps, cs) (with_part x v ds q) ≡ joined (ps ++ (x, v) ∷ [], cs ++ ds) q
joined_next ps cs ds x v q = λ j. (sym (append_assoc ps ((x, v) ∷ []) q.0) j, sym (append_assoc cs ds q.1) j)

-- a new property
pub put_pair_is : (c : Cell) (n : ℕ) (x : List ℕ) (v : Value) (t u : State) → lookup c.pairs x ≡ None → put_pair c n x v t (give Undefined) ≡ give Undefined u
    → u ≡ with_cell (with_counts t (sum t.own.counts (slots_cost 1))) n (record c { pairs = c.pairs ++ (x, v) ∷ [] })
put_pair_is c n x v t u none e =
    let after : State = with_cell (with_counts t (sum t.own.counts (slots_cost 1))) n (record c { pairs = c.pairs ++ (x, v) ∷ [] }) in
    sym (ret_state (Is Undefined) (Is Undefined) after u (paid_within (sum t.own.counts (slots_cost 1)) t after u (Is Undefined) (Is Undefined)
    (sym (ap (λ o. if is_some o then give Undefined (with_cell t n (record c { pairs = replaced c.pairs x v })) else pay (slots_cost 1) t (λ w. give Undefined (with_cell w n (record c { pairs = c.pairs ++ (x, v) ∷ [] })))) none) ∙ e)))

-- How a form takes one more property.
pub record Takes (form : Pairs → Cell) (ps : Pairs) (x : List ℕ) : Type 0 where
  pub shape : (qs : Pairs) → (form qs).pairs ≡ qs
  pub put : (v : Value) (n : ℕ) (t u : State) → put_own (form ps).kind (form ps) n x v t (give Undefined) ≡ give Undefined u
      → u ≡ with_cell (with_counts t (sum t.own.counts (slots_cost 1))) n (form (ps ++ (x, v) ∷ []))

module _ (fs : List Forest) (r : Rest) (w : ℕ) (old now mid new : Cells) (parent value : StoreValue) (form : Pairs → Cell) (d : json.Data) (x : List ℕ) where
  abbrev s : State
  s = image fs r w old

  -- one more part
  pub comes_next : (Named Next : Pairs → Type 0) (rest later total : ℕ → Parts) → (h : Comes fs r w old now parent form Named rest total) → Builds fs r w now mid value d
      → seen w mid.cells parent ≡ seen w now.cells parent → seen w new.cells parent ≡ seen w mid.cells parent
      → (name : List ℕ) → name ≡ x → put (seen w mid.cells parent) name (seen w mid.cells value) (image fs r w mid) (give Undefined) ≡ give Undefined (image fs r w new)
      → ((m : ℕ) → rest m ≡ with_part x (value_at m d) (cells_at m d) (later (m + length (cells_at m d))))
      → ((ps : Pairs) → Named ps → Takes form ps x) → ((ps : Pairs) (v : Value) → Named ps → Next (ps ++ (x, v) ∷ []))
      → Comes fs r w old new parent form Next later total
  comes_next Named Next rest later total h built stays again name is put_is step takes named =
      let ps : Pairs = h.pairs in
      let cs : List Cell = h.cells in
      let k : ℕ = length s.own.heap in
      let m : ℕ = length (image fs r w now).own.heap in
      let m_is : m ≡ k + 1 + length cs = ap (λ (t : State). length t.own.heap) h.state ∙ born_length s (form ps) cs in
      let ds : List Cell = cells_at (k + 1 + length cs) d in
      let v : Value = value_at (k + 1 + length cs) d in
      let t : State = raised s (form ps ∷ (cs ++ ds)) in
      let mid_is : image fs r w mid ≡ t = built.state ∙ (λ j. raised (h.state j) (cells_at (m_is j) d)) ∙ raised_more s (form ps ∷ cs) ds in
      let value_is : seen w mid.cells value ≡ v = built.value ∙ ap (λ i. value_at i d) m_is in
      let parent_is : seen w mid.cells parent ≡ Own k = stays ∙ h.value in
      let put_at : put_own (form ps).kind (form ps) k x v t (give Undefined) ≡ give Undefined (image fs r w new) =
      ap (λ (c : Cell). put_own c.kind c k x v t (give Undefined)) (sym (begun_at s (form ps) (cs ++ ds)))
      ∙ sym (λ j. put (parent_is j) (is j) (value_is j) (mid_is j) (give Undefined)) ∙ put_is in
      let take : Takes form ps x = takes ps h.named in
      let qs : Pairs = ps ++ (x, v) ∷ [] in
      let longer : length (form qs).pairs ≡ length (form ps).pairs + 1 = omega (arith, ap length (take.shape qs), ap length (take.shape ps), length-append ps ((x, v) ∷ [])) in
      let place : k + 1 + length (cs ++ ds) ≡ k + 1 + length cs + length ds = omega (arith, length-append cs ds) in
      record {
        pairs = qs;
        cells = cs ++ ds;
        state = take.put v k t (image fs r w new) put_at ∙ one_more s (form ps) (form qs) (cs ++ ds) longer;
        value = again ∙ parent_is;
        named = named ps v h.named;
        parts = ap (λ i. joined (qs, cs ++ ds) (later i)) place ∙ sym (joined_next ps cs ds x v (later (k + 1 + length cs + length ds))) ∙ ap (joined (ps, cs)) (sym (step (k + 1 + length cs))) ∙ h.parts;
      }

  -- no part is left
  pub comes_whole : (Named : Pairs → Type 0) (rest total : ℕ → Parts) → (h : Comes fs r w old now parent form Named rest total) → ((m : ℕ) → rest m ≡ ([], []))
      → (image fs r w now ≡ raised s (form (total (length s.own.heap + 1)).0 ∷ (total (length s.own.heap + 1)).1)) × (seen w now.cells parent ≡ Own (length s.own.heap))
  comes_whole Named rest total h none =
      let k : ℕ = length s.own.heap in
      let all : joined (h.pairs, h.cells) ([], []) ≡ total (k + 1) = ap (joined (h.pairs, h.cells)) (sym (none (k + 1 + length h.cells))) ∙ h.parts in
      let ps : h.pairs ≡ (total (k + 1)).0 = sym (append_end h.pairs) ∙ ap (λ (p : Parts). p.0) all in
      let cs : h.cells ≡ (total (k + 1)).1 = sym (append_end h.cells) ∙ ap (λ (p : Parts). p.1) all in
      (h.state ∙ (λ j. raised s (form (ps j) ∷ cs j)), h.value)
    where
      append_end : {X : Type 0} (xs : List X) → xs ++ [] ≡ xs
      append_end [] = refl
      append_end (x ∷ xs) = ap (λ l. x ∷ l) (append_end xs)

-- neither an object nor an array
pub plain_builds : (fs : List Forest) (r : Rest) (w : ℕ) (s : Cells) (v : StoreValue) (d : json.Data) → IsPlainOf v d → Builds fs r w s s v d
plain_builds fs r w s v d h = record {
  state = sym (ap (raised (image fs r w s)) (h.cells (length (image fs r w s).own.heap)) ∙ raised_none (image fs r w s));
  value = seen_plain w s.cells v h.primitive ∙ h.value (length (image fs r w s).own.heap);
}

-- an object or array that was begun
pub begun : (fs : List Forest) (r : Rest) (w : ℕ) (old new : Cells) (v : StoreValue) (c : Cell) (slots : ℕ) → slots ≡ 0 → c.pairs ≡ [] → make c slots (image fs r w old) give ≡ give (seen w new.cells v) (image fs r w new) → Begins fs r w old new v c
begun fs r w old new v c slots none empty e =
    let s : State = image fs r w old in
    let made : State = with_new_cell (with_counts s (sum s.own.counts (cost 0 1 slots 0))) c in
    let ret = paid_within (sum s.own.counts (cost 0 1 slots 0)) s made (image fs r w new) (Is (Own (length s.own.heap))) (Is (seen w new.cells v)) e in
    record {
      state = sym (ret_state (Is (Own (length s.own.heap))) (Is (seen w new.cells v)) made (image fs r w new) ret) ∙ (λ j. with_own s (record s.own { heap = s.own.heap ++ c ∷ []; counts = sum s.own.counts (cost 0 1 (slots_are j) 0) }));
      value = sym (value_same (Own (length s.own.heap)) (seen w new.cells v) (ret_how (Is (Own (length s.own.heap))) (Is (seen w new.cells v)) made (image fs r w new) ret));
    }
  where
    slots_are : slots ≡ slots_in (c ∷ [])
    slots_are = omega (arith, none, ap length empty)

-- nothing has come yet
pub comes_first : (fs : List Forest) (r : Rest) (w : ℕ) (old now : Cells) (parent : StoreValue) (form : Pairs → Cell) (Named : Pairs → Type 0) (rest : ℕ → Parts) → Begins fs r w old now parent (form []) → Named [] → Comes fs r w old now parent form Named rest rest
comes_first fs r w old now parent form Named rest h named = record {
  pairs = [];
  cells = [];
  state = h.state;
  value = h.value;
  named = named;
  parts = ap rest (none (length (image fs r w old).own.heap + 1));
}
  where
    none : (k : ℕ) → k + 0 ≡ k
    none k = omega arith

-- the state after units were paid
pub paid_state : (a : Amounts) (s t : State) → pay a s (give Undefined) ≡ give Undefined t → t ≡ with_counts s (sum s.own.counts a)
paid_state a s t e = sym (ret_state (Is Undefined) (Is Undefined) (with_counts s (sum s.own.counts a)) t (paid_within (sum s.own.counts a) s (with_counts s (sum s.own.counts a)) t (Is Undefined) (Is Undefined) e))
