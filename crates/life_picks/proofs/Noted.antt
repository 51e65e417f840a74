-- A note that is kept and paid, or with which the widget stops.
use Rattle.std.proofs.Common.{◌≡◌, ℕ, ◌+◌, ◌-◌, ◌<◌, ◌≤◌, List, [], ◌∷◌, ◌++◌, true, false, refl, sym, ap, ◌∙◌, subst, length, Option, Some, None, arith, if◌then◌else◌}
use Rattle.std.specs.Prelude.{nat_lt, slice_get}
use Rattle.std.proofs.lemmas.Bool.Decides.{nat_tests}
use Rattle.js_tree.specs.Forest.{Forest}
use Rattle.store_cells.specs.Cells.{Cells}
use Rattle.store_cells.specs.declared.counts.Counts.{Counts}
use Rattle.store_cells.specs.declared.counts.TheConstants.{UNIT_LIMIT}
use Rattle.widget_meaning.specs.Costs.{cost, pay, sum, units_cost}
use Rattle.widget_meaning.specs.Limits.{max_units}
use Rattle.widget_meaning.specs.OwnState.{OwnState, State}
use Rattle.widget_meaning.specs.Plan.{Plan}
use Rattle.widget_meaning.specs.Turns.{noted, stopped}
use Rattle.widget_meaning.specs.Values.{PastLimit, Units}
use Rattle.js_image.specs.Held.{Kept}
use Rattle.js_image.specs.Image as joint
use Rattle.js_image.specs.Image.{Rest}
use Rattle.js_image.proofs.Units.{units_are}
use Rattle.native_image.specs.Image.{beside}
use Rattle.native_image.proofs.Joint.{rest, store_lift}
use Rattle.native_image.proofs.Told.{paid_told}
use Rattle.native_image.specs.declared.handed.Shared.{Shared}
use Rattle.life_queue.specs.Turn.{Turn}
use Rattle.life_queue.specs.declared.life.Life.{Life}
use Rattle.life_queue.specs.Lives.{outside, own_of, trees_in}
use Rattle.life_queue.specs.Fine.{FineLife, FineTurn, KeepsLife}
use Rattle.life_queue.proofs.Keeps.{keeps_stored}
use Rattle.life_queue.proofs.Scripts.{rested}
use Rattle.std.specs.Prelude.{IfSome}
use Rattle.std.specs.declared.vec.Vec.{Vec}
use Rattle.std.specs.declared.alloc.Global.{Global}

module _ (h : Shared) (w : ℕ) (lt : w < 32) (a : Life) (fine : FineLife h w a) (paid : Counts) (at : slice_get h.store.kept w ≡ Some paid) (t : List ℕ) where
  units_here : (own_of h w a).counts.units ≡ paid.units
  units_here = units_are (trees_in h) (rest w lt (outside a) (beside h.store h.page a.widget.around None)) w h.store paid at

  -- it cannot be paid
  pub stops : UNIT_LIMIT - paid.units < length t + 1 → paid.units ≤ UNIT_LIMIT → noted t (own_of h w a) ≡ stopped (PastLimit Units) (own_of h w a)
  stops over few =
      let o : OwnState = own_of h w a in
      let test : nat_lt max_units (o.counts.units + (length t + 1)) ≡ true = ap (λ n. nat_lt max_units (n + (length t + 1))) units_here ∙ passes in
      ap (λ b. if b then stopped (PastLimit Units) o else record o { uncaught = o.uncaught ++ t ∷ []; counts = sum o.counts (cost (length t + 1) 0 0 0) }) test
    where
      passes : nat_lt max_units (paid.units + (length t + 1)) ≡ true
      passes = grind (arith, nat_tests, over, few)

  -- it is kept
  pub is_kept : length t + 1 ≤ UNIT_LIMIT - paid.units → paid.units ≤ UNIT_LIMIT → (new : Cells) → Kept (trees_in h) w h.store new
      → ((fs : List Forest) (r : Rest) (k : State → Plan) → pay (units_cost (length t + 1)) (joint.image fs r w h.store) k ≡ k (joint.image fs r w new))
      → (let o : OwnState = own_of h w a in noted t o) ≡ (let o : OwnState = own_of (record h { store = new }) w a in record o { uncaught = o.uncaught ++ t ∷ [] })
  is_kept fits few new kept plan =
      let o : OwnState = own_of h w a in
      let r = rest w lt (outside a) (beside h.store h.page a.widget.around None) in
      let test : nat_lt max_units (o.counts.units + (length t + 1)) ≡ false = ap (λ n. nat_lt max_units (n + (length t + 1))) units_here ∙ within in
      let told = paid_told (units_cost (length t + 1)) (joint.image (trees_in h) r w h.store) (joint.image (trees_in h) r w new) (plan (trees_in h) r) in
      let after : own_of (record h { store = new }) w a ≡ record o { counts = sum o.counts (cost (length t + 1) 0 0 0) } =
      ap (λ (s : State). s.own) (sym (store_lift w h.store new h.page a.widget.around fine.sound.holds kept.grows lt (trees_in h) (outside a) None) ∙ told) in
      ap (λ b. if b then stopped (PastLimit Units) o else record o { uncaught = o.uncaught ++ t ∷ []; counts = sum o.counts (cost (length t + 1) 0 0 0) }) test
      ∙ ap (λ (p : OwnState). let q : OwnState = record p { uncaught = p.uncaught ++ t ∷ [] } in q) (sym after)
    where
      within : nat_lt max_units (paid.units + (length t + 1)) ≡ false
      within = grind (arith, nat_tests, fits, few)

-- a life between turns that has one note more
module _ (h : Shared) (w : ℕ) (a : Life) (new : Cells) (rest_now : a.turn ≡ None) (fine : FineLife h w a) (kept : Kept (trees_in h) w h.store new) (notes : Vec (List ℕ) Global) where
  abbrev with_notes : Life
  with_notes = record a { records = record a.records { uncaught = notes } }

  pub fine_noted : FineLife (record h { store = new }) w with_notes
  fine_noted =
      let r = rested h w a new rest_now fine kept in
      record {
        number = r.number;
        confined = r.confined;
        sound = r.sound;
        lib = record { held = r.lib.held; first = r.lib.first };
        works = r.works;
        turn = subst (λ (o : Option Turn). IfSome o (FineTurn (trees_in h) w new h.page a.grant)) (sym rest_now) tt;
        counts = record { grant = r.counts.grant; spent = r.counts.spent; room = r.counts.room };
      }

  pub keeps_noted : KeepsLife w h (record h { store = new }) a with_notes
  keeps_noted = keeps_stored w h new a with_notes fine.sound.holds kept (record { widget = refl; slot = refl; accepted = refl })

  module _ (lt : w < 32) (paid : Counts) (at : slice_get h.store.kept w ≡ Some paid) (t : List ℕ) where
    -- it is kept, and paid
    pub own_noted : length t + 1 ≤ UNIT_LIMIT - paid.units → paid.units ≤ UNIT_LIMIT → notes.items ≡ a.records.uncaught.items ++ t ∷ []
        → ((fs : List Forest) (r : Rest) (k : State → Plan) → pay (units_cost (length t + 1)) (joint.image fs r w h.store) k ≡ k (joint.image fs r w new))
        → own_of (record h { store = new }) w with_notes ≡ noted t (own_of h w a)
    own_noted fits few are plan =
        ap (λ (us : List (List ℕ)). let o : OwnState = own_of (record h { store = new }) w a in let p : OwnState = record o { uncaught = us } in p) are
        ∙ sym (is_kept h w lt a fine paid at t fits few new kept plan)
