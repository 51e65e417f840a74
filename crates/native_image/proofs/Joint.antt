-- The image of store, page and loop together, as each of them changes.
use Rattle.std.proofs.Common.{◌≡◌, ℕ, ◌<◌, List, [], ◌∷◌, Bool, true, false, refl, sym, ap, ◌∙◌, map, length, Option, None, Some, arith}
use Rattle.std.specs.Prelude.{is_some, nat_lt}
use Rattle.std.specs.List.{AllByRecursion}
use Rattle.code_units.specs.declared.owner.Owner.TheVariants as owner
use Rattle.js_tree.specs.Forest.{Forest}
use Rattle.store_cells.specs.Born.{raw_place}
use Rattle.store_cells.specs.Cells.{Cells, own_count}
use Rattle.object_store.specs.Grows.{Grows}
use Rattle.object_store.specs.Owned.{owned}
use Rattle.query_grammar.specs.Renumbering.{renumbered}
use Rattle.widget_meaning.specs.Limits.{max_nodes}
use Rattle.widget_meaning.specs.OwnState.{Handler, OwnState, with_forest}
use Rattle.page_tree.specs.declared.page.Page.{Page}
use Rattle.event_loop.specs.declared.around.Loop.{Loop}
use Rattle.event_loop.specs.declared.timers.Timer.{Timer}
use Rattle.event_loop.specs.Around as around
use Rattle.js_image.specs.Held.{HoldNodes, Kept}
use Rattle.js_image.specs.Image as store
use Rattle.js_image.specs.Image.{Rest, meant_cell, meant_counts}
use Rattle.js_image.proofs.Pays.{not_over}
use Rattle.page_image.specs.Image.{forest, own, owns}
use Rattle.page_image.specs.Stays.{KeepsNodes}
use Rattle.page_image.proofs.Kept.{all_same}
use Rattle.page_image.proofs.Looks.{made_is}
use Rattle.page_image.proofs.Pages.{is_widget}
use Rattle.page_image.specs.Around.{Shows, handler_of, kept_of, own_focus, own_kept, own_timers, timer_of}
use Rattle.native_image.specs.Image.{Outside, Parts, beside, dispatches_of, image}
use Rattle.native_image.specs.Sound.{HasRaw, HoldsOwn, IsOwnCell, IsSound, KeepsStore}

no_true : false ≡ true → ⊥
no_true e = cc

-- a page has few nodes of a widget
pub few_nodes : (p : Page) (w : ℕ) → w < 32 → nat_lt max_nodes (length (own p w)) ≡ false
few_nodes p w lt = not_over max_nodes (length (own p w)) (omega (arith, p.counted.most (owner.Widget w) (is_widget w lt), made_is p w))

-- what the store does not hold
abbrev pub rest : (w : ℕ) → w < 32 → Outside → Parts → Rest
rest w lt x h = record {
  nodes = own h.page w;
  state = record {
    own = record {
      heap = [];
      scopes = [];
      forest = forest h.page w;
      kept = own_kept h.page w (own_count w h.store.cells) h.around;
      timers = own_timers (own_count w h.store.cells) h.around;
      clock = around.clock h.around;
      focus = own_focus h.page w h.around;
      log = x.log;
      uncaught = x.uncaught;
      posts = x.posts;
      counts = record { units = 0; cells = 0; slots = 0; nodes = length (own h.page w) };
      turns = x.turns;
      spent = x.spent;
      missed = x.missed;
      gone = x.gone;
      stop = x.stop;
      grant = x.grant;
    };
    dispatches = dispatches_of h.bubbled x.outer;
  };
  few = few_nodes h.page w lt;
}

-- the image is the store's with that rest
pub at_rest : (w : ℕ) (lt : w < 32) (fs : List Forest) (x : Outside) (h : Parts) → store.image fs (rest w lt x h) w h.store ≡ image fs x w h
at_rest w lt fs x h = refl

-- ## The store grows

module _ (w : ℕ) (s new : Cells) (p : Page) (l : Loop) (holds : HoldsOwn w s p l) (g : Grows w s.cells new.cells) where
  handlers_same : (hs : List (List ℕ × ℕ)) → AllByRecursion (λ h. IsOwnCell w s.cells h.1) hs → map (handler_of (own_count w new.cells)) hs ≡ map (handler_of (own_count w s.cells)) hs
  handlers_same [] h = refl
  handlers_same (f ∷ fs) h = λ j. (let r : Handler = record { kind = f.0; func = g.count f.1 h.0.0 j } in r) ∷ handlers_same fs h.1 j

  kept_at_same : (n : ℕ) → kept_of (own_count w new.cells) (around.kept l n) ≡ kept_of (own_count w s.cells) (around.kept l n)
  kept_at_same n = λ j. record { handlers = handlers_same (around.kept l n).handlers (holds.handlers n) j; mark = (kept_of (own_count w s.cells) (around.kept l n)).mark; is_protected = (around.kept l n).is_protected }

  kept_same : own_kept p w (own_count w new.cells) l ≡ own_kept p w (own_count w s.cells) l
  kept_same = all_same (λ n. kept_of (own_count w s.cells) (around.kept l n)) (λ n. kept_of (own_count w new.cells) (around.kept l n)) kept_at_same (own p w)

  timers_at_same : (ts : List Timer) → AllByRecursion (λ t. IsOwnCell w s.cells t.func) ts → map (timer_of (own_count w new.cells)) ts ≡ map (timer_of (own_count w s.cells)) ts
  timers_at_same [] h = refl
  timers_at_same (t ∷ ts) h = λ j. record { due = t.at; func = g.count t.func h.0.0 j } ∷ timers_at_same ts h.1 j

  timers_same : own_timers (own_count w new.cells) l ≡ own_timers (own_count w s.cells) l
  timers_same = timers_at_same (around.timers l) holds.timers

  -- the state after a call of the store
  pub store_lift : (lt : w < 32) (fs : List Forest) (x : Outside) (b : Option Bool) → store.image fs (rest w lt x (beside s p l b)) w new ≡ image fs x w (beside new p l b)
  store_lift lt fs x b = λ j. record {
    own = record (image fs x w (beside new p l b)).own { kept = sym kept_same j; timers = sym timers_same j };
    dispatches = dispatches_of b x.outer;
  }

  own_cell_stays : (i : ℕ) → IsOwnCell w s.cells i → IsOwnCell w new.cells i
  own_cell_stays i h = (omega (arith, h.0, g.size), g.visible i h.0 ∙ h.1)

  handlers_stay : (hs : List (List ℕ × ℕ)) → AllByRecursion (λ h. IsOwnCell w s.cells h.1) hs → AllByRecursion (λ h. IsOwnCell w new.cells h.1) hs
  handlers_stay [] h = tt
  handlers_stay (f ∷ fs) h = (own_cell_stays f.1 h.0, handlers_stay fs h.1)

  timers_stay : (ts : List Timer) → AllByRecursion (λ t. IsOwnCell w s.cells t.func) ts → AllByRecursion (λ t. IsOwnCell w new.cells t.func) ts
  timers_stay [] h = tt
  timers_stay (t ∷ ts) h = (own_cell_stays t.func h.0, timers_stay ts h.1)

  raw_stays : (n : ℕ) → HasRaw s.cells n → HasRaw new.cells n
  raw_stays n = by (raw_place n s.cells) refl
    where
      by : (o : Option ℕ) → raw_place n s.cells ≡ o → is_some o ≡ true → HasRaw new.cells n
      by None e h = absurd (no_true h)
      by (Some i) e h = ap is_some (g.raws n i e)

-- what the widget holds stays its own where the nodes of its Bunches are
pub holds_grows : (w : ℕ) (s new : Cells) (p : Page) (l : Loop) → HoldsOwn w s p l → Grows w s.cells new.cells → HoldNodes (owns p w) w new → HoldsOwn w new p l
holds_grows w s new p l h g bunches = record {
  home = h.home;
  bunches = bunches;
  handlers = λ n. handlers_stay w s new p l h g (around.kept l n).handlers (h.handlers n);
  timers = timers_stay w s new p l h g (around.timers l) h.timers;
  focus = h.focus;
  elsewhere = h.elsewhere;
}

pub sound_grows : (w : ℕ) (s new : Cells) (p : Page) (l : Loop) → IsSound w s p l → Grows w s.cells new.cells → HoldNodes (owns p w) w new → IsSound w new p l
sound_grows w s new p l h g bunches = record {
  holds = holds_grows w s new p l h.holds g bunches;
  raws = λ v n o. raw_stays w s new p l h.holds g n (h.raws v n o);
}

pub sound_stays : (w : ℕ) (s new : Cells) (p : Page) (l : Loop) → IsSound w s p l → Kept [] w s new → IsSound w new p l
sound_stays w s new p l h k = sound_grows w s new p l h k.grows (k.nodes (owns p w) h.holds.bunches)

pub keeps_of : (w : ℕ) (s new : Cells) → ((fs : List Forest) → Kept fs w s new) → KeepsStore w s new
keeps_of w s new k = record { confined = λ fs. (k fs).confined; grows = (k []).grows; others = (k []).others; others_grow = (k []).others_grow; others_confined = (k []).others_confined; counts = (k []).counts }

-- ## The page changes, and no node comes

-- the state after a call of the page
pub page_lift : (w : ℕ) (fs : List Forest) (x : Outside) (s : Cells) (old new : Page) (l : Loop) (b : Option Bool) → KeepsNodes old new → image fs x w (beside s new l b) ≡ with_forest (image fs x w (beside s old l b)) (forest new w)
page_lift w fs x s old new l b k = λ j. record {
  own = record (image fs x w (beside s new l b)).own {
    heap = map (meant_cell fs (k.nodes w j)) (owned w s).heap;
    kept = map (λ n. kept_of (own_count w s.cells) (around.kept l n)) (k.nodes w j);
    focus = renumbered (λ n. k.numbers w n j) (around.focus l);
    counts = meant_counts (length (k.nodes w j)) (owned w s).paid;
  };
  dispatches = dispatches_of b x.outer;
}

-- ## The loop changes

-- what the image shows of page and loop
pub image_shows : (w : ℕ) (fs : List Forest) (x : Outside) (s : Cells) (p : Page) (l : Loop) (b : Option Bool) → HoldsOwn w s p l → Shows p w (own_count w s.cells) l (image fs x w (beside s p l b)).own
image_shows w fs x s p l b h = record {
  trees = refl;
  notes = refl;
  waiting = refl;
  time = refl;
  focused = refl;
  mine = h.focus;
  elsewhere = h.elsewhere;
}

-- a state that shows page and loop has what they say
pub shown_is : (p : Page) (w : ℕ) (g : ℕ → ℕ) (l : Loop) (o : OwnState) → Shows p w g l o → record o { forest = forest p w; kept = own_kept p w g l; timers = own_timers g l; clock = around.clock l; focus = own_focus p w l } ≡ o
shown_is p w g l o h = λ j. record o { forest = sym h.trees j; kept = sym h.notes j; timers = sym h.waiting j; clock = sym h.time j; focus = sym h.focused j }
