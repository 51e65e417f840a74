-- A whole cost that is judged.
use Rattle.std.proofs.Common.{◌≡◌, ℕ, ◌+◌, List, Bool, true, false, sym, ap, ◌∙◌, Option, Some, length, if◌then◌else◌, slice_get}
use Rattle.std.specs.Prelude.{nat_lt}
use Rattle.js_tree.specs.Forest.{Forest}
use Rattle.store_cells.specs.declared.counts.Counts.{Counts}
use Rattle.store_cells.specs.Cells.{Cells}
use Rattle.object_store.specs.Owned.{owned}
use Rattle.widget_meaning.specs.Limits.{max_cells, max_nodes, max_slots, max_units}
use Rattle.widget_meaning.specs.Values as meaning
use Rattle.widget_meaning.specs.OwnState.{Amounts, State}
use Rattle.widget_meaning.specs.Plan.{Halt, Plan}
use Rattle.widget_meaning.specs.Costs.{cost, pay, sum, with_counts}
use Rattle.js_image.specs.Image.{meant_counts}
use Rattle.page_tree.specs.declared.page.Page.{Page}
use Rattle.page_image.specs.Image.{own}
use Rattle.event_loop.specs.declared.around.Loop.{Loop}
use Rattle.native_image.specs.Image.{Outside, beside, image}

module _ (w : ℕ) (s : Cells) (p : Page) (k : Counts) (at : slice_get s.kept w ≡ Some k) (fs : List Forest) (x : Outside) (l : Loop) (b : Option Bool) where
  abbrev st : State
  st = image fs x w (beside s p l b)

  -- what is counted at the image
  pub counted_here : st.own.counts ≡ meant_counts (length (own p w)) (Some k)
  unfolding owned
  counted_here = ap (meant_counts (length (own p w))) at

  module _ (u c n m : ℕ) (go : State → Plan) where
    abbrev total : Amounts
    total = sum st.own.counts (cost u c n m)

    abbrev chosen : Bool → Bool → Bool → Bool → Plan
    chosen f g h i = if f then Halt meaning.Units st else if g then Halt meaning.Cells st else if h then Halt meaning.Slots st else if i then Halt meaning.Nodes st else go (with_counts st total)

    units_is : nat_lt max_units total.units ≡ nat_lt max_units (k.units + u)
    units_is = ap (λ (a : Amounts). nat_lt max_units (a.units + u)) counted_here

    cells_is : nat_lt max_cells total.cells ≡ nat_lt max_cells (k.cells + c)
    cells_is = ap (λ (a : Amounts). nat_lt max_cells (a.cells + c)) counted_here

    slots_is : nat_lt max_slots total.slots ≡ nat_lt max_slots (k.slots + n)
    slots_is = ap (λ (a : Amounts). nat_lt max_slots (a.slots + n)) counted_here

    nodes_is : nat_lt max_nodes total.nodes ≡ nat_lt max_nodes (length (own p w) + m)
    nodes_is = ap (λ (a : Amounts). nat_lt max_nodes (a.nodes + m)) counted_here

    pub units_over : nat_lt max_units (k.units + u) ≡ true → pay (cost u c n m) st go ≡ Halt meaning.Units st
    units_over f = ap (λ q. chosen q (nat_lt max_cells total.cells) (nat_lt max_slots total.slots) (nat_lt max_nodes total.nodes)) (units_is ∙ f)

    module _ (f : nat_lt max_units (k.units + u) ≡ false) where
      pub cells_over : nat_lt max_cells (k.cells + c) ≡ true → pay (cost u c n m) st go ≡ Halt meaning.Cells st
      cells_over g = λ j. chosen ((units_is ∙ f) j) ((cells_is ∙ g) j) (nat_lt max_slots total.slots) (nat_lt max_nodes total.nodes)

      module _ (g : nat_lt max_cells (k.cells + c) ≡ false) where
        pub slots_over : nat_lt max_slots (k.slots + n) ≡ true → pay (cost u c n m) st go ≡ Halt meaning.Slots st
        slots_over h = λ j. chosen ((units_is ∙ f) j) ((cells_is ∙ g) j) ((slots_is ∙ h) j) (nat_lt max_nodes total.nodes)

        module _ (h : nat_lt max_slots (k.slots + n) ≡ false) where
          pub nodes_over : nat_lt max_nodes (length (own p w) + m) ≡ true → pay (cost u c n m) st go ≡ Halt meaning.Nodes st
          nodes_over i = λ j. chosen ((units_is ∙ f) j) ((cells_is ∙ g) j) ((slots_is ∙ h) j) ((nodes_is ∙ i) j)

          pub all_within : nat_lt max_nodes (length (own p w) + m) ≡ false → (d : Amounts) → d.units ≡ k.units + u → d.cells ≡ k.cells + c → d.slots ≡ k.slots + n → d.nodes ≡ length (own p w) + m → pay (cost u c n m) st go ≡ go (with_counts st d)
          all_within i d du dc dn dm =
              (λ j. chosen ((units_is ∙ f) j) ((cells_is ∙ g) j) ((slots_is ∙ h) j) ((nodes_is ∙ i) j))
              ∙ ap (λ (a : Amounts). go (with_counts st (sum a (cost u c n m)))) counted_here
              ∙ (λ j. go (with_counts st (record { units = sym du j; cells = sym dc j; slots = sym dn j; nodes = sym dm j })))
