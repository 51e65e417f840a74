-- What was read is given: the stops, the cost, and what is born.
use Rattle.std.proofs.Common.{◌≡◌, ℕ, ◌+◌, ◌<◌, ◌≤◌, List, [], ◌∷◌, ◌++◌, length, refl, sym, ap, ◌∙◌, Some, true, false, arith, if◌then◌else◌, append_assoc, slice_get, not}
use Rattle.std.specs.Prelude.{◌-◌, nat_lt}
use Rattle.std.specs.List.{fold}
use Rattle.std.proofs.lemmas.Bool.Decides.{nat_tests}
use Rattle.serde_json.specs.Data as json
use Rattle.js_tree.specs.Forest.{Forest}
use Rattle.store_cells.specs.declared.value.Value.{Value as StoreValue}
use Rattle.store_cells.specs.declared.counts.Counts.{Counts}
use Rattle.store_cells.specs.declared.counts.TheConstants.{CELL_LIMIT, SLOT_LIMIT, UNIT_LIMIT}
use Rattle.store_cells.specs.Cells.{Cells}
use Rattle.object_store.specs.Owned.{owned}
use Rattle.widget_meaning.specs.Limits.{max_cells, max_nodes, max_slots, max_units}
use Rattle.widget_meaning.specs.Values as meaning
use Rattle.widget_meaning.specs.Values.{Value}
use Rattle.widget_meaning.specs.OwnState.{Amounts, Cell, State, with_new_cell, with_own}
use Rattle.widget_meaning.specs.Plan.{Plan, Halt, charge}
use Rattle.widget_meaning.specs.Costs.{cost, give, pay, sum, throw, units_cost, want, with_counts}
use Rattle.widget_meaning.specs.JsonValues.{cells_at, give_read, json_cost, texts_in, value_at}
use Rattle.js_image.specs.Image.{Rest, image, meant_counts, seen}
use Rattle.json_text.specs.declared.weighing.Weight.{Weight}
use Rattle.json_text.specs.Building.{Builds, raised, slots_in}
use Rattle.json_text.specs.Reading.{born_plan, read_plan, weight_cost}
use Rattle.json_text.specs.Weights.{weight}
use Rattle.json_text.proofs.Weighed.{Weighs, numbers, weighs}

-- objects are born one after the other
all_born : (u : State) (cs : List Cell) → fold with_new_cell u cs ≡ with_own u (record u.own { heap = u.own.heap ++ cs })
all_born u [] = ap (λ h. with_own u (record u.own { heap = h })) (sym (nothing_more u.own.heap))
  where
    nothing_more : (xs : List Cell) → xs ++ [] ≡ xs
    nothing_more [] = refl
    nothing_more (x ∷ xs) = ap (λ l. x ∷ l) (nothing_more xs)
all_born u (c ∷ cs) = all_born (with_new_cell u c) cs ∙ ap (λ h. with_own u (record u.own { heap = h })) (append_assoc u.own.heap (c ∷ []) cs)

-- ## The cost

module _ (fs : List Forest) (r : Rest) (w : ℕ) (s : Cells) (k : Counts) (at : slice_get s.kept w ≡ Some k) (a : Weight) (go : State → Plan) where
  abbrev st : State
  st = image fs r w s

  abbrev total : Amounts
  total = sum st.own.counts (weight_cost a)

  abbrev paid : Plan
  paid = go (with_counts st total)

  counted : st.own.counts ≡ meant_counts r.state.own.counts.nodes (Some k)
  unfolding owned
  counted = ap (meant_counts r.state.own.counts.nodes) at

  units_are : total.units ≡ k.units + a.units
  units_are = ap (λ (b : Amounts). b.units + a.units) counted

  cells_are : total.cells ≡ k.cells + a.cells
  cells_are = ap (λ (b : Amounts). b.cells + a.cells) counted

  slots_are : total.slots ≡ k.slots + a.slots
  slots_are = ap (λ (b : Amounts). b.slots + a.slots) counted

  few_nodes : nat_lt max_nodes total.nodes ≡ false
  few_nodes = ap (λ (b : Amounts). nat_lt max_nodes (b.nodes + 0)) counted ∙ ap (nat_lt max_nodes) (none r.state.own.counts.nodes) ∙ r.few
    where
      none : (n : ℕ) → n + 0 ≡ n
      none n = omega arith

  over : (top n m : ℕ) → n ≤ top → top - n < m → nat_lt top (n + m) ≡ true
  over top n m le lt = grind (arith, nat_tests, le, lt)

  fits : (top n m : ℕ) → n ≤ top → m ≤ top - n → nat_lt top (n + m) ≡ false
  fits top n m le h = grind (arith, nat_tests, le, h)

  pub units_stop : k.units ≤ UNIT_LIMIT → UNIT_LIMIT - k.units < a.units → pay (weight_cost a) st go ≡ Halt meaning.Units st
  units_stop le lt =
      let h : nat_lt max_units total.units ≡ true = ap (nat_lt max_units) units_are ∙ over max_units k.units a.units le lt in
      λ j. if h j then Halt meaning.Units st else if nat_lt max_cells total.cells then Halt meaning.Cells st else if nat_lt max_slots total.slots then Halt meaning.Slots st else if nat_lt max_nodes total.nodes then Halt meaning.Nodes st else paid

  module _ (units : k.units ≤ UNIT_LIMIT) (room : a.units ≤ UNIT_LIMIT - k.units) where
    units_fit : nat_lt max_units total.units ≡ false
    units_fit = ap (nat_lt max_units) units_are ∙ fits max_units k.units a.units units room

    pub cells_stop : k.cells ≤ CELL_LIMIT → CELL_LIMIT - k.cells < a.cells → pay (weight_cost a) st go ≡ Halt meaning.Cells st
    cells_stop le lt =
        let h : nat_lt max_cells total.cells ≡ true = ap (nat_lt max_cells) cells_are ∙ over max_cells k.cells a.cells le lt in
        λ j. if units_fit j then Halt meaning.Units st else if h j then Halt meaning.Cells st else if nat_lt max_slots total.slots then Halt meaning.Slots st else if nat_lt max_nodes total.nodes then Halt meaning.Nodes st else paid

    module _ (cells : k.cells ≤ CELL_LIMIT) (fit : a.cells ≤ CELL_LIMIT - k.cells) where
      cells_fit : nat_lt max_cells total.cells ≡ false
      cells_fit = ap (nat_lt max_cells) cells_are ∙ fits max_cells k.cells a.cells cells fit

      pub slots_stop : k.slots ≤ SLOT_LIMIT → SLOT_LIMIT - k.slots < a.slots → pay (weight_cost a) st go ≡ Halt meaning.Slots st
      slots_stop le lt =
          let h : nat_lt max_slots total.slots ≡ true = ap (nat_lt max_slots) slots_are ∙ over max_slots k.slots a.slots le lt in
          λ j. if units_fit j then Halt meaning.Units st else if cells_fit j then Halt meaning.Cells st else if h j then Halt meaning.Slots st else if nat_lt max_nodes total.nodes then Halt meaning.Nodes st else paid

      pub all_fit : k.slots ≤ SLOT_LIMIT → a.slots ≤ SLOT_LIMIT - k.slots → pay (weight_cost a) st go ≡ paid
      all_fit le h =
          let f : nat_lt max_slots total.slots ≡ false = ap (nat_lt max_slots) slots_are ∙ fits max_slots k.slots a.slots le h in
          λ j. if units_fit j then Halt meaning.Units st else if cells_fit j then Halt meaning.Cells st else if f j then Halt meaning.Slots st else if few_nodes j then Halt meaning.Nodes st else paid

-- ## The stops

module _ (d : json.Data) (s : State) where
  abbrev n : ℕ
  n = length s.own.heap

  abbrev v : Value
  v = value_at n d

  abbrev cs : List Cell
  cs = cells_at n d

  abbrev ts : List (List ℕ)
  ts = texts_in v cs

  -- what is given once the cost is paid
  abbrev pub all_given : State → Plan
  all_given u = give v (fold with_new_cell u cs)

  -- names that are not permitted
  pub bad_names : (extra : ℕ) → (weight d).named ≡ false → read_plan extra d s ≡ throw meaning.E8 s
  bad_names extra h = ap (λ b. want meaning.E8 b s (charge extra s (born_plan d s))) ((weighs n d).named ∙ h)

  pub good_names : (extra : ℕ) → (weight d).named ≡ true → read_plan extra d s ≡ charge extra s (born_plan d s)
  good_names extra h = ap (λ b. want meaning.E8 b s (charge extra s (born_plan d s))) ((weighs n d).named ∙ h)

  -- a number that is none of the language's
  pub bad_number : (weight d).whole ≡ false → born_plan d s ≡ Halt meaning.Number s
  bad_number h = ap (λ b. give_read b v cs ts s) (numbers d ∙ h)

  -- a text that is too long
  pub long_text : (weight d).whole ≡ true → (weight d).short ≡ false → born_plan d s ≡ Halt meaning.LongText s
  long_text h g = ap (λ b. give_read b v cs ts s) (numbers d ∙ h) ∙ ap (λ b. if b then Halt meaning.LongText s else pay (json_cost ts cs) s (λ u. give v (fold with_new_cell u cs))) ((weighs n d).short ∙ ap not g)

  -- the cost
  pub at_cost : (weight d).whole ≡ true → (weight d).short ≡ true → born_plan d s ≡ pay (weight_cost (weight d)) s (λ u. give v (fold with_new_cell u cs))
  at_cost h g =
      ap (λ b. give_read b v cs ts s) (numbers d ∙ h)
      ∙ ap (λ b. if b then Halt meaning.LongText s else pay (json_cost ts cs) s (λ u. give v (fold with_new_cell u cs))) ((weighs n d).short ∙ ap not g)
      ∙ (λ j. pay (cost ((weighs n d).units j) ((weighs n d).cells j) ((weighs n d).slots j) 0) s (λ u. give v (fold with_new_cell u cs)))

-- ## What is born

pub born_here : (fs : List Forest) (r : Rest) (w : ℕ) (old mid new : Cells) (d : json.Data) (u : StoreValue) → image fs r w mid ≡ with_counts (image fs r w old) (sum (image fs r w old).own.counts (units_cost (weight d).units)) → Builds fs r w mid new u d
    → give (value_at (length (image fs r w old).own.heap) d) (fold with_new_cell (with_counts (image fs r w old) (sum (image fs r w old).own.counts (weight_cost (weight d)))) (cells_at (length (image fs r w old).own.heap) d))
    ≡ give (seen w new.cells u) (image fs r w new)
born_here fs r w old mid new d u paid built = λ j. give (value_is j) (state_is j)
  where
    s : State
    s = image fs r w old

    at : length (image fs r w mid).own.heap ≡ length (image fs r w old).own.heap
    at = ap (λ (t : State). length t.own.heap) paid

    value_is : value_at (length (image fs r w old).own.heap) d ≡ seen w new.cells u
    value_is = sym (built.value ∙ ap (λ m. value_at m d) at)

    h : Weighs (value_at (length (image fs r w old).own.heap) d) (cells_at (length (image fs r w old).own.heap) d) (weight d)
    h = weighs (length (image fs r w old).own.heap) d

    same_counts : sum (image fs r w old).own.counts (weight_cost (weight d)) ≡ sum (sum (image fs r w old).own.counts (units_cost (weight d).units)) (cost 0 (length (cells_at (length (image fs r w old).own.heap) d)) (slots_in (cells_at (length (image fs r w old).own.heap) d)) 0)
    same_counts =
        let c : Amounts = (image fs r w old).own.counts in
        let units : c.units + (weight d).units ≡ (c.units + (weight d).units) + 0 = omega arith in
        let cells : c.cells + (weight d).cells ≡ (c.cells + 0) + length (cells_at (length (image fs r w old).own.heap) d) = omega (arith, h.cells) in
        let slots : c.slots + (weight d).slots ≡ (c.slots + 0) + slots_in (cells_at (length (image fs r w old).own.heap) d) = omega (arith, h.slots) in
        let nodes : c.nodes + 0 ≡ (c.nodes + 0) + 0 = omega arith in
        λ j. cost (units j) (cells j) (slots j) (nodes j)

    state_is : fold with_new_cell (with_counts (image fs r w old) (sum (image fs r w old).own.counts (weight_cost (weight d)))) (cells_at (length (image fs r w old).own.heap) d) ≡ image fs r w new
    state_is =
        all_born (with_counts (image fs r w old) (sum (image fs r w old).own.counts (weight_cost (weight d)))) (cells_at (length (image fs r w old).own.heap) d)
        ∙ (λ j. with_own (image fs r w old) (record (image fs r w old).own { heap = (image fs r w old).own.heap ++ cells_at (length (image fs r w old).own.heap) d; counts = same_counts j }))
        ∙ sym (λ j. raised (paid j) (cells_at (at j) d))
        ∙ sym built.state
