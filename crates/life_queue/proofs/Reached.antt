-- An event at its node, where its value is set.
use Rattle.std.proofs.Common.{◌≡◌, ℕ, refl, sym, ap, ◌∙◌, subst, Option, Some, None, map}
use Rattle.std.specs.declared.vec.Vec.{Vec}
use Rattle.std.specs.declared.alloc.Global.{Global}
use Rattle.std.specs.Prelude.{IfSome}
use Rattle.std.specs.Option.{option_map}
use Rattle.query_grammar.specs.Renumbering.{renumbered}
use Rattle.store_cells.specs.Cells.{own_count}
use Rattle.widget_meaning.specs.Dispatch.{dispatch, nearest}
use Rattle.widget_meaning.specs.Items.{event_value, resting, with_value}
use Rattle.widget_meaning.specs.OwnState.{OwnState, State}
use Rattle.widget_meaning.specs.Trees.{label_of, node_at}
use Rattle.page_image.specs.Image.{forest, label_at, number}
use Rattle.page_image.specs.Stays.{KeepsNodes}
use Rattle.page_tree.specs.declared.page.Page.{Page}
use Rattle.event_loop.specs.declared.delivery.Event.{Event as Told}
use Rattle.event_loop.specs.Deliveries.{found_of}
use Rattle.page_image.specs.Around.{Shows, own_found}
use Rattle.native_image.specs.Sound.{HoldsOwn}
use Rattle.native_image.proofs.Joint.{image_shows, page_lift}
use Rattle.life_laws.specs.Life.{Same, started, waiting}
use Rattle.life_laws.proofs.Begins.{event_begins, event_unheard}
use Rattle.native_image.specs.declared.handed.Shared.{Shared}
use Rattle.life_queue.specs.declared.life.Life.{Life}
use Rattle.life_queue.specs.declared.life.Work.TheVariants as work
use Rattle.life_queue.specs.Lives.{event_of, life_with, meant_stop, outside, own_of, trees_in, works_of}

module _ (h : Shared) (w : ℕ) (q : Page) (a : Life) (keeps : KeepsNodes h.page q) (event : Told) (node : ℕ)
    (set : (o : OwnState) → o.forest ≡ forest h.page w → with_value (label_at h.page w node) (number h.page w node) event.value o ≡ record o { forest = forest q w }) where
  -- with the page after that
  abbrev pub then_page : Shared
  then_page = record h { page = q }

  abbrev n : ℕ
  n = number h.page w node

  own_paged : own_of then_page w a ≡ record (own_of h w a) { forest = forest q w }
  own_paged = ap (λ (s : State). s.own) (page_lift w (trees_in h) (outside a) h.store h.page q a.widget.around None keeps)

  value_is : own_of then_page w a ≡ with_value (label_of n (own_of h w a).forest) n event.value (own_of h w a)
  value_is = own_paged ∙ sym (set (own_of h w a) refl)

  module _ (holds : HoldsOwn w h.store q a.widget.around) (live : a.records.stop ≡ None) (leads : node_at (forest h.page w) event.path.items ≡ Some n) (found : Option (ℕ × Vec ℕ Global))
      (image : (g : ℕ → ℕ) (s : State) → Shows q w g a.widget.around s.own → own_found (number q w) g (found_of found) ≡ nearest s (renumbered (number q w) (Some node)) event.kind) where
    near : (s : State) → Shows q w (own_count w h.store.cells) a.widget.around s.own → nearest s (Some n) event.kind ≡ own_found (number q w) (own_count w h.store.cells) (found_of found)
    near s shows = ap (λ k. nearest s (Some k) event.kind) (sym (keeps.numbers w node)) ∙ sym (image (own_count w h.store.cells) s shows)

    rests_near : nearest (resting (own_of then_page w a)) (Some n) event.kind ≡ own_found (number q w) (own_count w h.store.cells) (found_of found)
    rests_near = near (resting (own_of then_page w a)) (image_shows w (trees_in h) (outside a) h.store q a.widget.around None holds)

    -- nobody listens
    pub unheard : found ≡ None → Same (life_with h w (work.Event event) a) (waiting (own_of then_page w a) (works_of then_page w a))
    unheard none =
        event_unheard (own_of h w a) (own_of then_page w a) (event_of event) n (works_of h w a) (ap (option_map meant_stop) live) leads value_is
        (rests_near ∙ ap (λ (o : Option (ℕ × Vec ℕ Global)). own_found (number q w) (own_count w h.store.cells) (found_of o)) none) refl

    -- a node listens
    pub heard : (at : ℕ × Vec ℕ Global) → found ≡ Some at
        → Same (life_with h w (work.Event event) a) (started (dispatch event.kind (number q w node) (event_value event.value) 0) (own_of then_page w a) (works_of then_page w a))
    heard at some =
        ap_start (event_begins (own_of h w a) (own_of then_page w a) (event_of event) n (number q w at.0, map (own_count w h.store.cells) at.1.items) (works_of h w a) (ap (option_map meant_stop) live) leads value_is
        (rests_near ∙ ap (λ (o : Option (ℕ × Vec ℕ Global)). own_found (number q w) (own_count w h.store.cells) (found_of o)) some) refl)
      where
        ap_start : Same (life_with h w (work.Event event) a) (started (dispatch event.kind n (event_value event.value) 0) (own_of then_page w a) (works_of then_page w a))
            → Same (life_with h w (work.Event event) a) (started (dispatch event.kind (number q w node) (event_value event.value) 0) (own_of then_page w a) (works_of then_page w a))
        ap_start s = subst (λ (k : ℕ). Same (life_with h w (work.Event event) a) (started (dispatch event.kind k (event_value event.value) 0) (own_of then_page w a) (works_of then_page w a))) (sym (keeps.numbers w node)) s

    -- what is found at the node by its number on the new page
    pub found_near : (at : ℕ × Vec ℕ Global) → found ≡ Some at → (s : State) → Shows q w (own_count w h.store.cells) a.widget.around s.own
        → nearest s (Some (number q w node)) event.kind ≡ Some (number q w at.0, map (own_count w h.store.cells) at.1.items)
    found_near at some s shows = sym (image (own_count w h.store.cells) s shows) ∙ ap (λ (o : Option (ℕ × Vec ℕ Global)). own_found (number q w) (own_count w h.store.cells) (found_of o)) some

-- what is said of what may be there, where it is there
pub at_some : {A : Type 0} (P : A → Type 0) (o : Option A) (a : A) → o ≡ Some a → IfSome o P → P a
at_some P o a e h = subst (λ u. IfSome u P) e h
