-- A room that is not told the numbers of the nodes asks for handlers at none.
use Rattle.std.proofs.Common.{◌≡◌, ℕ, List, [], refl, sym, ap, ◌∙◌, length}
use Rattle.js_tree.specs.Forest.{Forest}
use Rattle.store_cells.specs.Cells.{Cells}
use Rattle.store_cells.specs.declared.value.Value.{Value as StoreValue}
use Rattle.query_grammar.specs.Finds.{has_number}
use Rattle.widget_meaning.specs.OwnState.{State}
use Rattle.widget_meaning.specs.Plan.{Plan}
use Rattle.widget_meaning.specs.Values.{Value}
use Rattle.js_image.specs.Held.{IsConfined}
use Rattle.js_image.specs.Image.{Rest, image, seen}
use Rattle.js_values.specs.Fuel.{Fuel}
use Rattle.js_values.specs.declared.outcome.NativeOut.{NativeOut}
use Rattle.js_values.specs.declared.outcome.NativeOut.TheVariants as native
use Rattle.js_values.specs.declared.outcome.Plan.TheVariants as calls
use Rattle.native_common.specs.Refines.{Refines}
use Rattle.adsafe_object.specs.Ends.{RefinesNoted}
use Rattle.adsafe_object.specs.Notes.{Notes, noted}
use Rattle.store_natives.proofs.Unheard.{IsGivenAnyhow, at_none, it_listens, listener, no_true}
use Rattle.native_image.specs.Image.{Parts}
use Rattle.native_image.specs.Refines.{FiresAtOwn}

-- it asks for handlers at no node
given_nowhere : (see : StoreValue → Value) (v : ℕ) (h : Parts) (o : NativeOut) → ((kind : List ℕ) → IsGivenAnyhow see o kind) → FiresAtOwn v h o
given_nowhere see v h (native.Value x) f = tt
given_nowhere see v h (native.Throw x) f = tt
given_nowhere see v h (native.Stop c) f = tt
given_nowhere see v h native.OutOfFuel f = tt
given_nowhere see v h (native.Call (calls.ToText i)) f = tt
given_nowhere see v h (native.Call (calls.Each func items last)) f = tt
given_nowhere see v h (native.Call (calls.Gather func items how)) f = tt
given_nowhere see v h (native.Call (calls.Fire kind nodes last)) f = λ n is.
    absurd (no_true (ap (λ ns. has_number ns n) (sym (at_none see kind nodes last (f kind))) ∙ is))

module _ (w : ℕ) (s t : Cells) (r : Rest) (had has : Fuel) (plan : ℕ → State → Plan) (o : NativeOut) (v : ℕ) (h : Parts) where
  -- what a room answers that knows the store alone
  pub refines_nowhere : Refines w s t had has plan o → FiresAtOwn v h o
  refines_nowhere m = given_nowhere (seen w t.cells) v h o (λ kind. record {
    depth = 0;
    plan = plan 0 (image [] (listener kind r) w s);
    from = image [] (listener kind r) w s;
    to = image [] (listener kind r) w t;
    before = had.left;
    left = has.left;
    here = it_listens kind;
    silent = refl;
    top = refl;
    answers = λ node. m.answer [] (listener kind r) node 0;
  })

  -- and what the room of `ADSAFE` answers
  pub noted_nowhere : (waiting : ℕ) (old new : Notes) (fs : List Forest) → IsConfined fs w s → length r.state.own.timers ≡ waiting → RefinesNoted w waiting s t had has old new plan o → FiresAtOwn v h o
  noted_nowhere waiting old new fs confined many m = given_nowhere (seen w t.cells) v h o (λ kind. record {
    depth = 0;
    plan = plan 0 (image fs (noted w s.cells old (listener kind r)) w s);
    from = image fs (noted w s.cells old (listener kind r)) w s;
    to = image fs (noted w t.cells new (listener kind r)) w t;
    before = had.left;
    left = has.left;
    here = it_listens kind;
    silent = refl;
    top = refl;
    answers = λ node. m.answer fs (listener kind r) node 0 confined many;
  })
