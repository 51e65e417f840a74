-- The node to which a path leads, as the widget has it.
use Rattle.std.proofs.Common.{◌≡◌, ℕ, ◌<◌, true, List, Option, None, Some, sym, ap, ◌∙◌, subst}
use Rattle.std.specs.Prelude.{option_and_then, slice_get}
use Rattle.code_units.specs.declared.owner.Owner.TheVariants as owner
use Rattle.query_grammar.specs.Renumbering.{renumbered}
use Rattle.widget_meaning.specs.Trees.{node_at}
use Rattle.page_nodes.specs.Entries.{at}
use Rattle.page_tree.specs.declared.page.Page.{Page}
use Rattle.page_tree.specs.Pages.{nodes}
use Rattle.page_image.specs.Held.{OptionIn}
use Rattle.page_image.specs.Image.{forest, number, owns, root_of}
use Rattle.page_image.specs.Own.{own_forest, own_number}
use Rattle.page_image.proofs.Pages.{is_widget}
use Rattle.page_image.proofs.Shown.{own_child}
use Rattle.event_loop.specs.Deliveries.{leads}
use Rattle.event_loop.proofs.Ways.{got_listed}
use Rattle.page_image.proofs.Events.{leads_image}

module _ (p : Page) (w : ℕ) where
  child_own : (n step c : ℕ) → owns p w n ≡ true → slice_get (at (nodes p) n).children step ≡ Some c → owns p w c ≡ true
  unfolding owns
  child_own n step c h e = own_child (nodes p) p.arena.sound w n c h (got_listed (at (nodes p) n).children step c e)

  pub place_own : (o : Option ℕ) (step : ℕ) → OptionIn (owns p w) o → (r : Option ℕ) → r ≡ option_and_then (λ m. slice_get (at (nodes p) m).children step) o → OptionIn (owns p w) r
  place_own None step h r e = subst (OptionIn (owns p w)) (sym e) tt
  place_own (Some n) step h None e = tt
  place_own (Some n) step h (Some c) e = child_own n step c h (sym e)

  pub root_own : (r : ℕ) → w < 32 → root_of p w ≡ Some r → owns p w r ≡ true
  unfolding owns root_of
  root_own r lt e = p.rooted.own (owner.Widget w) r (is_widget w lt) e

  pub led : (r : ℕ) → root_of p w ≡ Some r → (path : List ℕ) (o : Option ℕ) → o ≡ leads (nodes p) (Some r) path → renumbered (number p w) o ≡ node_at (forest p w) path
  unfolding root_of number forest
  led r e path o f = ap (renumbered (own_number (nodes p) w)) f ∙ sym (ap (λ u. node_at (own_forest (nodes p) u w) path) e ∙ leads_image (nodes p) p.arena.sound r w path)

  pub some_own : (o : Option ℕ) (n : ℕ) → o ≡ Some n → OptionIn (owns p w) o → owns p w n ≡ true
  some_own o n e h = subst (OptionIn (owns p w)) e h
