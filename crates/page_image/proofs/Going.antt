-- Where an event goes, at the image.
use Rattle.std.proofs.Common.{◌≡◌, ℕ, ◌<◌, List, [], ◌∷◌, Bool, true, false, refl, sym, ap, ◌∙◌, map, length, Option, Some, None, slice_get}
use Rattle.std.proofs.lemmas.Bool.{lt-ltb}
use Rattle.code_units.specs.declared.owner.Owner.TheVariants as owner
use Rattle.query_grammar.specs.Renumbering.{renumbered}
use Rattle.widget_meaning.specs.OwnState.{State}
use Rattle.widget_meaning.specs.Dispatch.{nearest}
use Rattle.widget_meaning.specs.Trees.{node_at}
use Rattle.page_nodes.specs.Entries.{at}
use Rattle.page_tree.specs.declared.page.Page.{Page}
use Rattle.page_tree.specs.Pages.{nodes, root}
use Rattle.page_image.specs.Held.{OptionIn}
use Rattle.page_image.specs.Own.{is_own, own_number, own_nodes, own_forest}
use Rattle.page_image.specs.Image.{owns, number, own, root_of, forest, HasRoot}
use Rattle.page_image.proofs.Pages.{is_node}
use Rattle.page_image.proofs.Shown.{own_child}
use Rattle.event_loop.specs.declared.around.Loop.{Loop}
use Rattle.event_loop.specs.Around as around
use Rattle.event_loop.specs.Deliveries as ways
use Rattle.event_loop.specs.Deliveries.{IsNodeOf, most, leads, delivered, delivered_at, delivered_to}
use Rattle.event_loop.proofs.Ways.{most_is, got_listed}
use Rattle.page_image.specs.Around.{Shows, kept_of, own_found, own_goes, goes_from, goes_to, goes}
use Rattle.page_image.proofs.Events.{nearest_image, leads_image}

-- a widget's node is one of the page
pub is_one : (p : Page) (w : ℕ) (o : Option ℕ) → OptionIn (owns p w) o → IsNodeOf (nodes p) o
is_one p w None h = tt
is_one p w (Some n) h = is_node p w n h

-- the root
pub root_is : (p : Page) (w : ℕ) (o : Option ℕ) (r : ℕ) → o ≡ root p (owner.Widget w) → o ≡ Some r → root_of p w ≡ Some r
unfolding root_of
root_is p w o r e f = sym e ∙ f

none_some : (r : ℕ) → ◌≡◌ {A = Option ℕ} None (Some r) → ⊥
none_some r h = cc

pub root_there : (p : Page) (w : ℕ) → HasRoot p w → (o : Option ℕ) → o ≡ root p (owner.Widget w) → o ≡ None → ⊥
unfolding root_of
root_there p w home o e f = none_some home.root (sym f ∙ e ∙ home.is)

pub root_is_one : (p : Page) (w r : ℕ) → w < 32 → root_of p w ≡ Some r → r < length (nodes p)
unfolding owns root_of
root_is_one p w r few is_root = is_node p w r (p.rooted.own (owner.Widget w) r (lt-ltb w 32 few) is_root)

goes_at : (f g : ℕ → ℕ) (target : ℕ) (u : Option (ℕ × List ℕ)) → own_goes f g (delivered_at target u) ≡ goes_from (f target) (own_found f g u)
goes_at f g target None = refl
goes_at f g target (Some (n, fs)) = refl

module _ (p : Page) (w r : ℕ) (g : ℕ → ℕ) (l : Loop) (s : State) (few : w < 32) (is_root : root p (owner.Widget w) ≡ Some r) (trees : s.own.forest ≡ own_forest (nodes p) (Some r) w) (notes : s.own.kept ≡ map (λ n. kept_of g (around.kept l n)) (own_nodes (nodes p) w)) where
  found_at : (o : Option ℕ) (kind : List ℕ) → OptionIn (is_own (nodes p) w) o → nearest s (renumbered (own_number (nodes p) w) o) kind ≡ own_found (own_number (nodes p) w) g (ways.nearest most (nodes p) r l o kind)
  found_at o kind h =
      nearest_image (nodes p) w g l s notes p.arena.sound p.roots p.rooted r (lt-ltb w 32 few) is_root trees 201 o kind h
      ∙ ap (λ m. own_found (own_number (nodes p) w) g (ways.nearest m (nodes p) r l o kind)) (sym most_is)

  led_own : (path : List ℕ) (o : Option ℕ) → OptionIn (is_own (nodes p) w) o → OptionIn (is_own (nodes p) w) (leads (nodes p) o path)
  led_own [] o h = h
  led_own (i ∷ path) None h = led_own path None tt
  led_own (i ∷ path) (Some n) h = led_own path (slice_get (at (nodes p) n).children i) (child (slice_get (at (nodes p) n).children i) refl)
    where
      child : (u : Option ℕ) → slice_get (at (nodes p) n).children i ≡ u → OptionIn (is_own (nodes p) w) u
      child None e = tt
      child (Some c) e = own_child (nodes p) p.arena.sound w n c h (got_listed (at (nodes p) n).children i c e)

  led_to : (o : Option ℕ) (kind : List ℕ) → OptionIn (is_own (nodes p) w) o → own_goes (own_number (nodes p) w) g (delivered_to (nodes p) r l o kind) ≡ goes_to s (renumbered (own_number (nodes p) w) o) kind
  led_to None kind h = refl
  led_to (Some target) kind h =
      goes_at (own_number (nodes p) w) g target (ways.nearest most (nodes p) r l (Some target) kind)
      ∙ ap (goes_from (own_number (nodes p) w target)) (sym (found_at (Some target) kind h))

  goes_there : (stopped : Bool) (path kind : List ℕ) → own_goes (own_number (nodes p) w) g (delivered (nodes p) r l stopped path kind) ≡ goes s stopped path kind
  goes_there true path kind = refl
  goes_there false path kind =
      led_to (leads (nodes p) (Some r) path) kind (led_own path (Some r) (p.rooted.own (owner.Widget w) r (lt-ltb w 32 few) is_root))
      ∙ ap (λ o. goes_to s o kind) (sym (ap (λ t. node_at t path) trees ∙ leads_image (nodes p) p.arena.sound r w path))

module _ (p : Page) (w r : ℕ) (g : ℕ → ℕ) (l : Loop) (s : State) (few : w < 32) (is_root : root_of p w ≡ Some r) (shows : Shows p w g l s.own) where
  pub found_image : (o : Option ℕ) (kind : List ℕ) → OptionIn (owns p w) o → nearest s (renumbered (number p w) o) kind ≡ own_found (number p w) g (ways.nearest most (nodes p) r l o kind)
  unfolding owns number own root_of forest
  found_image o kind h = found_at p w r g l s few is_root (shows.trees ∙ ap (λ u. own_forest (nodes p) u w) is_root) shows.notes o kind h

  pub goes_image : (stopped : Bool) (path kind : List ℕ) → own_goes (number p w) g (delivered (nodes p) r l stopped path kind) ≡ goes s stopped path kind
  unfolding owns number own root_of forest
  goes_image stopped path kind = goes_there p w r g l s few is_root (shows.trees ∙ ap (λ u. own_forest (nodes p) u w) is_root) shows.notes stopped path kind
