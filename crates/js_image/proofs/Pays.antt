-- A cost in the store is the cost of the meaning.
use Rattle.std.proofs.Common.{◌≡◌, ℕ, ◌+◌, ◌≤◌, List, refl, sym, ap, ◌∙◌, Option, Some, None, arith, Bool, true, false, if◌then◌else◌, slice_get, length}
use Rattle.std.proofs.lemmas.Bool.Decides.{nat_tests}
use Rattle.std.specs.Prelude.{nat_lt}
use Rattle.std.specs.Option.{option_map, option_map_or}
use Rattle.js_tree.specs.Forest.{Forest}
use Rattle.store_cells.specs.declared.counts.Counts.{Counts}
use Rattle.store_cells.specs.declared.counts.StoreFault.{StoreFault}
use Rattle.store_cells.specs.declared.counts.StoreFault.TheVariants as fault
use Rattle.store_cells.specs.declared.counts.TheConstants.{CELL_LIMIT, SLOT_LIMIT, UNIT_LIMIT}
use Rattle.store_cells.specs.Cells.{Cells, kept_cells}
use Rattle.store_cells.specs.Costs.{Refuses, cost_refusal, kept_slots, kept_units, paid, slots_refusal, units_refusal}
use Rattle.object_store.specs.Owned.{own_paid, owned}
use Rattle.widget_meaning.specs.Limits.{max_cells, max_slots, max_text, max_units, max_nodes}
use Rattle.widget_meaning.specs.Values as meaning
use Rattle.widget_meaning.specs.OwnState.{State}
use Rattle.widget_meaning.specs.Plan.{Plan, Halt}
use Rattle.widget_meaning.specs.Costs.{cost, make_text, pay, slots_cost, sum, units_cost, with_counts, within}
use Rattle.js_image.specs.declared.outcome.StopCause.{StopCause}
use Rattle.js_image.specs.Image.{Rest, image, meant_counts, state_of}
use Rattle.js_image.specs.Plans.{IsStopOf, meant_cause}

none_some : {A : Type 0} {a : A} → None ≡ Some a → ⊥
none_some h = cc

pub not_over : (m n : ℕ) → n ≤ m → nat_lt m n ≡ false
not_over m n h = grind (arith, nat_tests, h)

-- the stop of a cost
abbrev cost_cause : StoreFault → meaning.StopCause
cost_cause (fault.Cells k) = meaning.Cells
cost_cause (fault.Slots k) = meaning.Slots
cost_cause (fault.Units k) = meaning.Units
cost_cause _ = meaning.Nodes

-- what is done where nothing is refused, or else the stop
abbrev pub cost_plan : Option StoreFault → State → Plan → Plan
cost_plan None s p = p
cost_plan (Some e) s p = Halt (cost_cause e) s

-- a refusal stops by its cause
pub stops : (e : StoreFault) (c : StopCause) (o : Option StoreFault) (s : State) (p : Plan) → IsStopOf e c → Refuses e o → cost_plan o s p ≡ Halt (meant_cause c) s
stops (fault.Cells k) c o s p is h = (λ j. cost_plan (h j) s p) ∙ sym (ap (λ d. Halt (meant_cause d) s) is)
stops (fault.Slots k) c o s p is h = (λ j. cost_plan (h j) s p) ∙ sym (ap (λ d. Halt (meant_cause d) s) is)
stops (fault.Units k) c o s p is h = (λ j. cost_plan (h j) s p) ∙ sym (ap (λ d. Halt (meant_cause d) s) is)
stops fault.Closed c o s p is h = absurd is
stops fault.BadLength c o s p is h = absurd is
stops fault.Memory c o s p is h = absurd is

within_is : (st : State) (u c n m : ℕ) (p : Plan) → u ≤ max_units → nat_lt max_nodes m ≡ false → within (cost u c n m) st p ≡ (if nat_lt max_cells c then Halt meaning.Cells st else if nat_lt max_slots n then Halt meaning.Slots st else p)
within_is st u c n m p units nodes =
    let v : nat_lt max_units u ≡ false = not_over max_units u units in
    λ j. if v j then Halt meaning.Units st else if nat_lt max_cells c then Halt meaning.Cells st else if nat_lt max_slots n then Halt meaning.Slots st else if nodes j then Halt meaning.Nodes st else p

units_within : (st : State) (u c n m : ℕ) (p : Plan) → c ≤ max_cells → n ≤ max_slots → nat_lt max_nodes m ≡ false → within (cost u c n m) st p ≡ (if nat_lt max_units u then Halt meaning.Units st else p)
units_within st u c n m p cells slots nodes = λ j. if nat_lt max_units u then Halt meaning.Units st else if not_over max_cells c cells j then Halt meaning.Cells st else if not_over max_slots n slots j then Halt meaning.Slots st else if nodes j then Halt meaning.Nodes st else p

choice : (b d : Bool) (x y : ℕ) (st : State) (p : Plan) → (if b then Halt meaning.Cells st else if d then Halt meaning.Slots st else p) ≡ cost_plan (if b then Some (fault.Cells x) else (if d then Some (fault.Slots y) else None)) st p
choice true d x y st p = refl
choice false true x y st p = refl
choice false false x y st p = refl

units_choice : (b : Bool) (x : ℕ) (st : State) (p : Plan) → (if b then Halt meaning.Units st else p) ≡ cost_plan (if b then Some (fault.Units x) else None) st p
units_choice true x st p = refl
units_choice false x st p = refl

pub plus_none : (u : ℕ) → u ≡ u + 0
plus_none u = omega arith

module _ (fs : List Forest) (r : Rest) (w : ℕ) (s : Cells) (k : Counts) (at : slice_get s.kept w ≡ Some k) where
  abbrev m : ℕ
  m = r.state.own.counts.nodes

  abbrev st : State
  st = image fs r w s

  -- what the image counts
  counted : st.own.counts ≡ meant_counts m (Some k)
  unfolding owned
  counted = ap (meant_counts m) at

  -- after cells, slots and units were paid
  pub paid_state : (c n u : ℕ) → state_of fs r (own_paid c n u (owned w s)) ≡ with_counts st (meant_counts m (Some (paid c n u k)))
  unfolding owned
  paid_state c n u = λ j. with_counts st (meant_counts m (option_map (paid c n u) (at j)))

  -- cells and slots
  pub pay_is : k.units ≤ UNIT_LIMIT → (c n : ℕ) (go : State → Plan) → pay (cost 0 c n 0) st go ≡ cost_plan (cost_refusal s.kept w c n) st (go (with_counts st (meant_counts m (Some (paid c n 0 k)))))
  pay_is units c n go =
      let a : sum st.own.counts (cost 0 c n 0) ≡ cost k.units (k.cells + c) (k.slots + n) m = ap (λ x. sum x (cost 0 c n 0)) counted ∙ (λ j. cost (sym (plus_none k.units) j) (k.cells + c) (k.slots + n) (sym (plus_none m) j)) in
      ap (λ x. within x st (go (with_counts st x))) a
      ∙ within_is st k.units (k.cells + c) (k.slots + n) m _ units r.few
      ∙ choice (nat_lt max_cells (k.cells + c)) (nat_lt max_slots (k.slots + n)) k.cells k.slots st _
      ∙ (λ j. cost_plan (let x : ℕ = option_map_or (λ (q : Counts). q.cells) (sym at j) 0 in let y : ℕ = option_map_or (λ (q : Counts). q.slots) (sym at j) 0 in if nat_lt CELL_LIMIT (x + c) then Some (fault.Cells x) else (if nat_lt SLOT_LIMIT (y + n) then Some (fault.Slots y) else None)) st (go (with_counts st (cost (plus_none k.units j) (k.cells + c) (k.slots + n) m))))

  -- slots alone
  pub pay_slots_is : k.units ≤ UNIT_LIMIT → k.cells ≤ CELL_LIMIT → (n : ℕ) (go : State → Plan) → pay (cost 0 0 n 0) st go ≡ cost_plan (slots_refusal s.kept w n) st (go (with_counts st (meant_counts m (Some (paid 0 n 0 k)))))
  pay_slots_is units cells n go =
      pay_is units 0 n go ∙ ap (λ o. cost_plan o st (go (with_counts st (meant_counts m (Some (paid 0 n 0 k)))))) same
    where
      same : cost_refusal s.kept w 0 n ≡ slots_refusal s.kept w n
      same = λ j. if within_cells j then Some (fault.Cells (kept_cells s.kept w)) else (if nat_lt SLOT_LIMIT (kept_slots s.kept w + n) then Some (fault.Slots (kept_slots s.kept w)) else None)
        where
          within_cells : nat_lt CELL_LIMIT (kept_cells s.kept w + 0) ≡ false
          within_cells = (λ j. nat_lt CELL_LIMIT (option_map_or (λ (q : Counts). q.cells) (at j) 0 + 0)) ∙ (λ j. nat_lt CELL_LIMIT (sym (plus_none k.cells) j)) ∙ not_over CELL_LIMIT k.cells cells

  -- text units
  pub pay_units_is : k.cells ≤ CELL_LIMIT → k.slots ≤ SLOT_LIMIT → (n : ℕ) (go : State → Plan) → pay (units_cost n) st go ≡ cost_plan (units_refusal s.kept w n) st (go (with_counts st (meant_counts m (Some (paid 0 0 n k)))))
  pay_units_is cells slots n go =
      let a : sum st.own.counts (cost n 0 0 0) ≡ cost (k.units + n) k.cells k.slots m = ap (λ x. sum x (cost n 0 0 0)) counted ∙ (λ j. cost (k.units + n) (sym (plus_none k.cells) j) (sym (plus_none k.slots) j) (sym (plus_none m) j)) in
      ap (λ x. within x st (go (with_counts st x))) a
      ∙ units_within st (k.units + n) k.cells k.slots m _ cells slots r.few
      ∙ units_choice (nat_lt max_units (k.units + n)) k.units st _
      ∙ (λ j. cost_plan (let x : ℕ = option_map_or (λ (q : Counts). q.units) (sym at j) 0 in if nat_lt UNIT_LIMIT (x + n) then Some (fault.Units x) else None) st (go (with_counts st (cost (k.units + n) (plus_none k.cells j) (plus_none k.slots j) m))))

  -- units that are paid, and those that stop
  pub units_done : k.cells ≤ CELL_LIMIT → k.slots ≤ SLOT_LIMIT → (n : ℕ) (new : Cells) (go : State → Plan) → units_refusal s.kept w n ≡ None → owned w new ≡ own_paid 0 0 n (owned w s) → pay (units_cost n) st go ≡ go (image fs r w new)
  units_done cells slots n new go free seen =
      pay_units_is cells slots n go
      ∙ (λ j. cost_plan (free j) st (go (with_counts st (meant_counts m (Some (paid 0 0 n k))))))
      ∙ ap go (sym (ap (state_of fs r) seen ∙ paid_state 0 0 n))

  pub units_stop : k.cells ≤ CELL_LIMIT → k.slots ≤ SLOT_LIMIT → (n : ℕ) (e : StoreFault) (new : Cells) (go : State → Plan) → units_refusal s.kept w n ≡ Some e → new ≡ s → pay (units_cost n) st go ≡ Halt meaning.Units (image fs r w new)
  units_stop cells slots n e new go refused same = pay_units_is cells slots n go ∙ by (nat_lt UNIT_LIMIT (kept_units s.kept w + n)) refused ∙ ap (λ t. Halt meaning.Units (image fs r w t)) (sym same)
    where
      by : (b : Bool) → (if b then Some (fault.Units (kept_units s.kept w)) else None) ≡ Some e → cost_plan (if b then Some (fault.Units (kept_units s.kept w)) else None) st (go (with_counts st (meant_counts m (Some (paid 0 0 n k))))) ≡ Halt meaning.Units st
      by true h = refl
      by false h = absurd (none_some h)

  -- slots that are paid, and those that stop
  pub slots_done : k.units ≤ UNIT_LIMIT → k.cells ≤ CELL_LIMIT → (n : ℕ) (new : Cells) (go : State → Plan) → slots_refusal s.kept w n ≡ None → owned w new ≡ own_paid 0 n 0 (owned w s) → pay (slots_cost n) st go ≡ go (image fs r w new)
  slots_done units cells n new go free seen =
      pay_slots_is units cells n go
      ∙ (λ j. cost_plan (free j) st (go (with_counts st (meant_counts m (Some (paid 0 n 0 k))))))
      ∙ ap go (sym (ap (state_of fs r) seen ∙ paid_state 0 n 0))

  pub slots_stop : k.units ≤ UNIT_LIMIT → k.cells ≤ CELL_LIMIT → (n : ℕ) (e : StoreFault) (new : Cells) (go : State → Plan) → slots_refusal s.kept w n ≡ Some e → new ≡ s → pay (slots_cost n) st go ≡ Halt meaning.Slots (image fs r w new)
  slots_stop units cells n e new go refused same = pay_slots_is units cells n go ∙ by (nat_lt SLOT_LIMIT (kept_slots s.kept w + n)) refused ∙ ap (λ t. Halt meaning.Slots (image fs r w t)) (sym same)
    where
      by : (b : Bool) → (if b then Some (fault.Slots (kept_slots s.kept w)) else None) ≡ Some e → cost_plan (if b then Some (fault.Slots (kept_slots s.kept w)) else None) st (go (with_counts st (meant_counts m (Some (paid 0 n 0 k))))) ≡ Halt meaning.Slots st
      by true h = refl
      by false h = absurd (none_some h)

-- a text of at most 65,536 units
pub short_text : (t : List ℕ) (s : State) (go : State → Plan) → length t ≤ max_text → make_text t s go ≡ pay (units_cost (length t)) s go
short_text t s go short = ap (λ b. if b then Halt meaning.LongText s else pay (units_cost (length t)) s go) (not_over max_text (length t) short)

pub long_text : (t : List ℕ) (s : State) (go : State → Plan) → nat_lt max_text (length t) ≡ true → make_text t s go ≡ Halt meaning.LongText s
long_text t s go long = ap (λ b. if b then Halt meaning.LongText s else pay (units_cost (length t)) s go) long
