-- What calls for a life keep.
use Rattle.std.proofs.Common.{◌≡◌, ℕ, ◌<◌, ◌∙◌, List, refl, sym, ap, subst, Option, None}
use Rattle.std.specs.Prelude.{IfSome}
use Rattle.std.specs.declared.vec.Vec.{Vec}
use Rattle.std.specs.declared.alloc.Global.{Global}
use Rattle.js_tree.specs.Forest.{Forest}
use Rattle.store_cells.specs.Cells.{Cells}
use Rattle.page_image.specs.Stays.{HostStays, KeepsNodes, OthersStay}
use Rattle.page_image.proofs.Hosting.{host_then}
use Rattle.page_tree.specs.declared.page.Page.{Page}
use Rattle.js_image.specs.Held.{Kept}
use Rattle.js_names.specs.declared.code.Code.{Code}
use Rattle.js_names.specs.Code.{trees_of}
use Rattle.native_image.specs.Sound.{HoldsOwn, KeepsPage, KeepsStore}
use Rattle.native_image.proofs.Joint.{holds_grows}
use Rattle.native_image.proofs.Keeping.{grows_next, holds_page, host_here, page_keeps, page_same, page_then, sound_page}
use Rattle.object_store.proofs.Growth.{grows_same}
use Rattle.page_image.specs.Image.{owns}
use Rattle.native_image.specs.declared.handed.Shared.{Shared}
use Rattle.turn_dispatch.specs.declared.turn.Turn.{Turn}
use Rattle.native_image.specs.declared.handed.Widget.{Widget}
use Rattle.life_queue.specs.declared.life.Life.{Life}
use Rattle.life_queue.specs.Lives.{trees_in}
use Rattle.life_queue.specs.Fine.{FineLife, FineTurn, KeepsCells, KeepsLife}

-- ## The store

pub cells_same : (fs : List Forest) (w : ℕ) (s : Cells) → KeepsCells fs w s s
cells_same fs w s = record { confined = λ h. h; grows = grows_same w s.cells; others = λ v ne. refl; others_grow = λ v ne. grows_same v s.cells; others_confined = λ gs v ne h. h }

pub cells_kept : (fs : List Forest) (w : ℕ) (s t : Cells) → Kept fs w s t → KeepsCells fs w s t
cells_kept fs w s t k = record { confined = k.confined; grows = k.grows; others = k.others; others_grow = k.others_grow; others_confined = k.others_confined }

pub cells_stored : (fs : List Forest) (w : ℕ) (s t : Cells) → KeepsStore w s t → KeepsCells fs w s t
cells_stored fs w s t k = record { confined = k.confined fs; grows = k.grows; others = k.others; others_grow = k.others_grow; others_confined = k.others_confined }

pub cells_then : (fs : List Forest) (w : ℕ) (s t u : Cells) → KeepsCells fs w s t → KeepsCells fs w t u → KeepsCells fs w s u
cells_then fs w s t u f g = record {
  confined = λ h. g.confined (f.confined h);
  grows = grows_next w s.cells t.cells u.cells f.grows g.grows;
  others = λ v ne. g.others v ne ∙ f.others v ne;
  others_grow = λ v ne. grows_next v s.cells t.cells u.cells (f.others_grow v ne) (g.others_grow v ne);
  others_confined = λ gs v ne h. g.others_confined gs v ne (f.others_confined gs v ne h);
}

-- ## A life

-- the life is the same but for its turn, its queue and its records
pub record SameLife (a b : Life) : Type 0 where
  pub widget : b.widget ≡ a.widget
  pub slot : b.slot ≡ a.slot
  pub accepted : b.accepted ≡ a.accepted

pub same_life : (a : Life) → SameLife a a
same_life a = record { widget = refl; slot = refl; accepted = refl }

-- store and page changed, and the life is the same
pub keeps_by : (w : ℕ) (h : Shared) (t : Cells) (q : Page) (a b : Life) → KeepsCells (trees_in h) w h.store t → KeepsPage w h.page q → HostStays h.page q → HoldsOwn w t q a.widget.around → SameLife a b → KeepsLife w h (record h { store = t; page = q }) a b
keeps_by w h t q a b cells page host holds same = record {
  codes = refl;
  cells = cells;
  page = page;
  host = host;
  holds = subst (λ (v : Widget). HoldsOwn w t q v.around) (sym same.widget) holds;
  number = ap (λ (v : Widget). v.id.index) same.widget;
  slot = same.slot;
  accepted = same.accepted;
}

-- nothing changed
pub keeps_life : (w : ℕ) (h : Shared) (a b : Life) → HoldsOwn w h.store h.page a.widget.around → SameLife a b → KeepsLife w h h a b
keeps_life w h a b holds same = keeps_by w h h.store h.page a b (cells_same (trees_in h) w h.store) (page_same w h.page) (host_here h.page) holds same

-- the store changed
pub keeps_stored : (w : ℕ) (h : Shared) (t : Cells) (a b : Life) → HoldsOwn w h.store h.page a.widget.around → Kept (trees_in h) w h.store t → SameLife a b → KeepsLife w h (record h { store = t }) a b
keeps_stored w h t a b holds kept same =
    keeps_by w h t h.page a b (cells_kept (trees_in h) w h.store t kept) (page_same w h.page) (host_here h.page) (holds_grows w h.store t h.page a.widget.around holds kept.grows (kept.nodes (owns h.page w) holds.bunches)) same

-- the page changed, and no node came
pub keeps_paged : (w : ℕ) (lt : w < 32) (h : Shared) (q : Page) (a b : Life) → HoldsOwn w h.store h.page a.widget.around → KeepsNodes h.page q → OthersStay h.page q w → HostStays h.page q → SameLife a b → KeepsLife w h (record h { page = q }) a b
keeps_paged w lt h q a b holds keeps others host same =
    keeps_by w h h.store q a b (cells_same (trees_in h) w h.store) (page_keeps w h.page q keeps others) host (holds_page w lt h.page q (page_keeps w h.page q keeps others) h.store a.widget.around holds) same

-- one call after another
pub keeps_both : (w : ℕ) (h m k : Shared) (a b c : Life) → KeepsLife w h m a b → KeepsLife w m k b c → KeepsLife w h k a c
keeps_both w h m k a b c f g = record {
  codes = g.codes ∙ f.codes;
  cells = cells_then (trees_in h) w h.store m.store k.store f.cells (subst (λ fs. KeepsCells fs w m.store k.store) (ap (λ (cs : Vec Code Global). trees_of cs.items) f.codes) g.cells);
  page = page_then w h.page m.page k.page f.page g.page;
  host = host_then h.page m.page k.page f.host g.host;
  holds = g.holds;
  number = g.number ∙ f.number;
  slot = g.slot ∙ f.slot;
  accepted = g.accepted ∙ f.accepted;
}

-- a life between turns stays sound as the page changes and no node comes
pub fine_paged : (w : ℕ) (lt : w < 32) (h : Shared) (q : Page) (a : Life) → a.turn ≡ None → FineLife h w a → KeepsNodes h.page q → OthersStay h.page q w → FineLife (record h { page = q }) w a
fine_paged w lt h q a e fine keeps others = record {
  number = fine.number;
  confined = fine.confined;
  sound = sound_page w lt h.page q keeps others h.store a.widget.around fine.sound;
  lib = record { held = fine.lib.held; first = fine.lib.first };
  works = fine.works;
  turn = subst (λ (o : Option Turn). IfSome o (FineTurn (trees_in h) w h.store q a.grant)) (sym e) tt;
  counts = record { grant = fine.counts.grant; spent = fine.counts.spent; room = fine.counts.room };
}

-- the queue of a life has no part in it
pub keeps_queue : (w : ℕ) (h k : Shared) (a b q : Life) → KeepsLife w h k a b → KeepsLife w h k a (record b { queue = q.queue })
keeps_queue w h k a b q keeps = record { codes = keeps.codes; cells = keeps.cells; page = keeps.page; host = keeps.host; holds = keeps.holds; number = keeps.number; slot = keeps.slot; accepted = keeps.accepted }
