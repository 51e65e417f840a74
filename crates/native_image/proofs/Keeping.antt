-- What calls keep of store, page and loop.
use Rattle.std.proofs.Common.{◌≡◌, ℕ, ◌<◌, List, [], ◌∷◌, true, false, Bool, refl, sym, ap, ◌∙◌, length, length-append, Option, None, Some, arith}
use Rattle.std.specs.List.{AllByRecursion}
use Rattle.js_tree.specs.Forest.{Forest}
use Rattle.store_cells.specs.Cells.{Cells, PlainCell}
use Rattle.object_store.specs.Grows as store
use Rattle.object_store.specs.Owned as cells
use Rattle.object_store.specs.Owned.{OwnCell, OwnKind, owned}
use Rattle.page_tree.specs.declared.page.Page.{Page}
use Rattle.page_image.specs.Held.{OptionIn}
use Rattle.page_image.specs.Image.{HasRoot, own, owns}
use Rattle.page_image.specs.Stays.{Grows, HostStays, KeepsNodes, OthersStay}
use Rattle.page_image.proofs.Hosting.{host_same, host_then}
use Rattle.page_image.proofs.Looks.{root_owned}
use Rattle.page_image.proofs.Pages.{is_widget}
use Rattle.event_loop.specs.declared.around.Loop.{Loop}
use Rattle.event_loop.specs.Around as around
use Rattle.js_image.specs.Held.{Kept, PassNodes}
use Rattle.js_image.proofs.Grown.{kept_same}
use Rattle.js_image.proofs.Nodes.{rise_then}
use Rattle.native_image.specs.Sound.{HoldsOwn, IsSound, KeepsAll, KeepsPage, KeepsStore}
use Rattle.native_image.proofs.Joint.{holds_grows, keeps_of}

no_true : false ≡ true → ⊥
no_true e = cc

-- ## The store

pub store_same : (w : ℕ) (s : Cells) → KeepsStore w s s
store_same w s = keeps_of w s s (λ fs. kept_same fs w s s refl)

pub grows_next : (w : ℕ) (a b c : List PlainCell) → store.Grows w a b → store.Grows w b c → store.Grows w a c
grows_next w a b c g h = record {
  size = omega (arith, g.size, h.size);
  visible = λ k lt. h.visible k (omega (arith, lt, g.size)) ∙ g.visible k lt;
  count = λ k lt. h.count k (omega (arith, lt, g.size)) ∙ g.count k lt;
  scope = λ k lt. h.scope k (omega (arith, lt, g.size)) ∙ g.scope k lt;
  own_scope = λ k lt. h.own_scope k (omega (arith, lt, g.size)) ∙ g.own_scope k lt;
  bunch = λ k lt. h.bunch k (omega (arith, lt, g.size)) ∙ g.bunch k lt;
  raws = λ n i e. h.raws n i (g.raws n i e);
}

pub store_then : (w : ℕ) (a b c : Cells) → KeepsStore w a b → KeepsStore w b c → KeepsStore w a c
store_then w a b c f g = record {
  confined = λ fs h. g.confined fs (f.confined fs h);
  grows = grows_next w a.cells b.cells c.cells f.grows g.grows;
  others = λ v ne. g.others v ne ∙ f.others v ne;
  others_grow = λ v ne. grows_next v a.cells b.cells c.cells (f.others_grow v ne) (g.others_grow v ne);
  others_confined = λ fs v ne h. g.others_confined fs v ne (f.others_confined fs v ne h);
  counts = rise_then (owned w a).paid (owned w b).paid (owned w c).paid f.counts g.counts;
}

-- ## The page

pub page_same : (w : ℕ) (p : Page) → KeepsPage w p p
page_same w p = record { owners = λ v n h. h; numbers = λ v n h. refl; made = omega arith; others = λ v ne. refl; trees = λ v lt ne. refl; roots = λ v lt. refl }

pub host_here : (p : Page) → HostStays p p
host_here p = host_same p p refl

pub page_then : (w : ℕ) (p q r : Page) → KeepsPage w p q → KeepsPage w q r → KeepsPage w p r
page_then w p q r f g = record {
  owners = λ v n h. g.owners v n (f.owners v n h);
  numbers = λ v n h. g.numbers v n (f.owners v n h) ∙ f.numbers v n h;
  made = omega (arith, f.made, g.made);
  others = λ v ne. g.others v ne ∙ f.others v ne;
  trees = λ v lt ne. g.trees v lt ne ∙ f.trees v lt ne;
  roots = λ v lt. g.roots v lt ∙ f.roots v lt;
}

-- no node comes
pub page_keeps : (w : ℕ) (p q : Page) → KeepsNodes p q → OthersStay p q w → KeepsPage w p q
page_keeps w p q k trees = record {
  owners = λ v n h. k.owners v n ∙ h;
  numbers = λ v n h. k.numbers v n;
  made = omega (arith, ap length (k.nodes w));
  others = λ v ne. k.nodes v;
  trees = trees;
  roots = k.roots;
}

-- nodes come
pub page_grows : (w : ℕ) (p q : Page) (news : List ℕ) → Grows p q w news → OthersStay p q w → KeepsPage w p q
page_grows w p q news g trees = record {
  owners = g.owners;
  numbers = g.numbers;
  made = omega (arith, ap length g.nodes, length-append (own p w) news);
  others = g.others;
  trees = trees;
  roots = g.roots;
}

pub nodes_then : (p q r : Page) → KeepsNodes p q → KeepsNodes q r → KeepsNodes p r
nodes_then p q r f g = record {
  owners = λ v n. g.owners v n ∙ f.owners v n;
  numbers = λ v n. g.numbers v n ∙ f.numbers v n;
  nodes = λ v. g.nodes v ∙ f.nodes v;
  roots = λ v lt. g.roots v lt ∙ f.roots v lt;
}

pub nodes_same : (p : Page) → KeepsNodes p p
nodes_same p = record { owners = λ v n. refl; numbers = λ v n. refl; nodes = λ v. refl; roots = λ v lt. refl }

-- ## What the widget holds stays its own

module _ (w : ℕ) (lt : w < 32) (p q : Page) (k : KeepsPage w p q) where
  pub home_stays : HasRoot p w → HasRoot q w
  home_stays h = record { root = h.root; is = k.roots w lt ∙ h.is; first = k.numbers w h.root (root_owned p w h (is_widget w lt)) ∙ h.first }

  all_more : (ns : List ℕ) → AllByRecursion (λ n. owns p w n ≡ true) ns → AllByRecursion (λ n. owns q w n ≡ true) ns
  all_more [] h = tt
  all_more (n ∷ ns) h = (k.owners w n h.0, all_more ns h.1)

  pass_more : (c : OwnKind) → PassNodes (owns p w) c → PassNodes (owns q w) c
  pass_more cells.Object h = tt
  pass_more (cells.Array n) h = tt
  pass_more (cells.Function code fun declared scope) h = tt
  pass_more (cells.Bunch ns) h = all_more ns h

  heap_more : (heap : List OwnCell) → AllByRecursion (λ c. PassNodes (owns p w) c.kind) heap → AllByRecursion (λ c. PassNodes (owns q w) c.kind) heap
  heap_more [] h = tt
  heap_more (c ∷ heap) h = (pass_more c.kind h.0, heap_more heap h.1)

  focus_more : (o : Option ℕ) → OptionIn (owns p w) o → OptionIn (owns q w) o
  focus_more None h = tt
  focus_more (Some n) h = k.owners w n h

  off : (n : ℕ) → owns q w n ≡ false → owns p w n ≡ false
  off n h = by (owns p w n) refl
    where
      by : (b : Bool) → owns p w n ≡ b → b ≡ false
      by true e = absurd (no_true (sym h ∙ k.owners w n e))
      by false e = refl

  pub holds_page : (s : Cells) (l : Loop) → HoldsOwn w s p l → HoldsOwn w s q l
  holds_page s l h = record {
    home = home_stays h.home;
    bunches = heap_more (owned w s).heap h.bunches;
    handlers = h.handlers;
    timers = h.timers;
    focus = focus_more (around.focus l) h.focus;
    elsewhere = λ n e. h.elsewhere n (off n e);
  }

-- each node still has its cell
pub sound_page : (w : ℕ) (lt : w < 32) (p q : Page) → KeepsNodes p q → OthersStay p q w → (s : Cells) (l : Loop) → IsSound w s p l → IsSound w s q l
sound_page w lt p q k trees s l h = record {
  holds = holds_page w lt p q (page_keeps w p q k trees) s l h.holds;
  raws = λ v n e. h.raws v n (sym (k.owners v n) ∙ e);
}

-- ## All together

-- nothing changed
pub keeps_here : (w : ℕ) (s : Cells) (p : Page) (l : Loop) → HoldsOwn w s p l → KeepsAll w s s p p l
keeps_here w s p l h = record { store = store_same w s; page = page_same w p; host = host_here p; holds = h }

-- the store changed
pub keeps_store : (w : ℕ) (s t : Cells) (p : Page) (l : Loop) → HoldsOwn w s p l → ((fs : List Forest) → Kept fs w s t) → KeepsAll w s t p p l
keeps_store w s t p l h k = record { store = keeps_of w s t k; page = page_same w p; host = host_here p; holds = holds_grows w s t p l h (k []).grows ((k []).nodes (owns p w) h.bunches) }

-- the store changed, and then the page
pub keeps_paged : (w : ℕ) (lt : w < 32) (s t : Cells) (p q : Page) (l : Loop) → HoldsOwn w s p l → ((fs : List Forest) → Kept fs w s t) → KeepsNodes p q → OthersStay p q w → HostStays p q → KeepsAll w s t p q l
keeps_paged w lt s t p q l h k keeps trees host = let g = keeps_store w s t p l h k in record { store = g.store; page = page_keeps w p q keeps trees; host = host; holds = holds_page w lt p q (page_keeps w p q keeps trees) t l g.holds }

pub keeps_then : (w : ℕ) (s t u : Cells) (p q r : Page) (k l : Loop) → KeepsAll w s t p q k → KeepsAll w t u q r l → KeepsAll w s u p r l
keeps_then w s t u p q r k l f g = record { store = store_then w s t u f.store g.store; page = page_then w p q r f.page g.page; host = host_then p q r f.host g.host; holds = g.holds }

-- the store changed again
pub keeps_next : (w : ℕ) (s t u : Cells) (p q : Page) (k l : Loop) → KeepsAll w s t p q k → KeepsStore w t u → HoldsOwn w u q l → KeepsAll w s u p q l
keeps_next w s t u p q k l f g holds = record { store = store_then w s t u f.store g; page = f.page; host = f.host; holds = holds }
