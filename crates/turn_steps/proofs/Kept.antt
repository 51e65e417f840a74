-- What steps of a turn keep.
use Rattle.std.proofs.Common.{ℕ, List, ◌∙◌, refl, subst}
use Rattle.js_tree.specs.Forest.{Forest}
use Rattle.store_cells.specs.Cells.{Cells}
use Rattle.page_tree.specs.declared.page.Page.{Page}
use Rattle.page_image.specs.Image.{owns}
use Rattle.page_image.proofs.Hosting.{host_then}
use Rattle.event_loop.specs.declared.around.Loop.{Loop}
use Rattle.js_image.specs.Held.{Kept}
use Rattle.js_image.proofs.Grown.{kept_same}
use Rattle.native_image.specs.Sound.{HoldsOwn, IsSound, KeepsAll}
use Rattle.native_image.proofs.Joint.{holds_grows}
use Rattle.native_image.proofs.Keeping.{grows_next, host_here, page_same, page_then}
use Rattle.js_names.specs.Code.{trees_of}
use Rattle.native_image.specs.declared.handed.Shared.{Shared}
use Rattle.native_image.specs.declared.handed.Widget.{Widget}
use Rattle.turn_dispatch.specs.Took.{StaysSound}
use Rattle.turn_steps.specs.Keeping.{Keeps, KeepsTurn}
use Rattle.turn_steps.specs.Turning.{forests}

module _ (fs : List Forest) (w : ℕ) where
  -- what a native keeps
  pub keeps_all : (s t : Cells) (p q : Page) (l : Loop) → KeepsAll w s t p q l → KeepsTurn fs w s t p q l
  keeps_all s t p q l k = record {
    confined = k.store.confined fs;
    grows = k.store.grows;
    others = k.store.others;
    others_grow = k.store.others_grow;
    others_confined = k.store.others_confined;
    page = k.page;
    host = k.host;
    holds = k.holds;
  }

  -- what a step of a task keeps
  pub keeps_kept : (s t : Cells) (p : Page) (l : Loop) → HoldsOwn w s p l → Kept fs w s t → KeepsTurn fs w s t p p l
  keeps_kept s t p l h k = record {
    confined = k.confined;
    grows = k.grows;
    others = k.others;
    others_grow = k.others_grow;
    others_confined = k.others_confined;
    page = page_same w p;
    host = host_here p;
    holds = holds_grows w s t p l h k.grows (k.nodes (owns p w) h.bunches);
  }

  -- nothing changed
  pub keeps_same : (s : Cells) (p : Page) (l : Loop) → HoldsOwn w s p l → KeepsTurn fs w s s p p l
  keeps_same s p l h = keeps_kept s s p l h (kept_same fs w s s refl)

  -- what is kept where how a call ended is given
  pub keeps_sound : (s t : Cells) (p : Page) (l : Loop) → IsSound w s p l → StaysSound w p s t → KeepsTurn fs w s t p p l
  keeps_sound s t p l h k = record {
    confined = k.kept.confined fs;
    grows = k.kept.grows;
    others = k.kept.others;
    others_grow = k.kept.others_grow;
    others_confined = k.kept.others_confined;
    page = page_same w p;
    host = host_here p;
    holds = (k.sound l h).holds;
  }

  -- one step after the other
  pub keeps_then : (s t u : Cells) (p q r : Page) (k l : Loop) → KeepsTurn fs w s t p q k → KeepsTurn fs w t u q r l → KeepsTurn fs w s u p r l
  keeps_then s t u p q r k l f g = record {
    confined = λ h. g.confined (f.confined h);
    grows = grows_next w s.cells t.cells u.cells f.grows g.grows;
    others = λ v ne. g.others v ne ∙ f.others v ne;
    others_grow = λ v ne. grows_next v s.cells t.cells u.cells (f.others_grow v ne) (g.others_grow v ne);
    others_confined = λ gs v ne h. g.others_confined gs v ne (f.others_confined gs v ne h);
    page = page_then w p q r f.page g.page;
    host = host_then p q r f.host g.host;
    holds = g.holds;
  }

-- one step of a widget after the other
pub keeps_on : (a b c : Shared) (v u x : Widget) → Keeps a b v u → Keeps b c u x → Keeps a c v x
keeps_on a b c v u x f g = record {
  turn = keeps_then (forests a) v.id.index a.store b.store c.store a.page b.page c.page u.around x.around f.turn
      (subst (λ (fs : List Forest). KeepsTurn fs v.id.index b.store c.store b.page c.page x.around) (λ j. trees_of (f.codes j).items)
      (subst (λ (n : ℕ). KeepsTurn (forests b) n b.store c.store b.page c.page x.around) f.number g.turn));
  number = g.number ∙ f.number;
  codes = g.codes ∙ f.codes;
}
