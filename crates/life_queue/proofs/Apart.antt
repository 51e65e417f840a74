-- What is seen of a life stays as it is where a call for another life changed store and page, and the life stays sound.
use Rattle.std.proofs.Common.{◌≡◌, ℕ, ◌<◌, ◌+◌, List, [], ◌∷◌, Bool, true, false, refl, sym, ap, ◌∙◌, subst, length, map, Option, Some, None}
use Rattle.std.specs.Prelude.{IfSome, ◌^◌}
use Rattle.std.specs.List.{AllByRecursion}
use Rattle.std.specs.Option.{option_map}
use Rattle.std.specs.declared.vec.Vec.{Vec}
use Rattle.std.specs.declared.alloc.Global.{Global}
use Rattle.js_tree.specs.Forest.{Forest}
use Rattle.store_cells.specs.Cells.{Cells, own_count}
use Rattle.object_store.specs.Grows.{Grows}
use Rattle.object_store.specs.Owned as kinds
use Rattle.object_store.specs.Owned.{OwnCell, OwnKind, Owned, owned}
use Rattle.query_grammar.specs.Renumbering.{renumbered}
use Rattle.widget_meaning.specs.OwnState.{State}
use Rattle.page_image.specs.Held.{OptionIn}
use Rattle.page_image.specs.Image.{forest, number, own, owns, root_of}
use Rattle.page_image.proofs.Pages.{is_widget}
use Rattle.page_image.proofs.Looks.{root_owned}
use Rattle.page_tree.specs.declared.page.Page.{Page}
use Rattle.event_loop.specs.Around as around
use Rattle.event_loop.specs.declared.around.Loop.{Loop}
use Rattle.page_image.specs.Around.{kept_of}
use Rattle.js_image.specs.Held.{IsConfined, PassNodes}
use Rattle.js_image.specs.Image.{meant_cell, meant_counts, state_of}
use Rattle.js_names.specs.declared.code.Code.{Code}
use Rattle.js_names.specs.Code.{trees_of}
use Rattle.native_image.specs.Image.{Outside, beside, dispatches_of, image}
use Rattle.native_image.specs.Sound.{HasRaw, HoldsOwn, KeepsPage}
use Rattle.native_image.proofs.Joint.{holds_grows, rest, store_lift}
use Rattle.life_laws.specs.Life.{potentials}
use Rattle.turn_dispatch.specs.Levels.{turn_plan}
use Rattle.turn_dispatch.proofs.Stays.{levels_fine}
use Rattle.turn_dispatch.specs.Turns.{bubbled_of, outside_of, turn_image}
use Rattle.life_queue.specs.declared.life.Life.{Life}
use Rattle.turn_dispatch.specs.declared.turn.Turn.{Turn}
use Rattle.native_image.specs.declared.handed.Shared.{Shared}
use Rattle.life_queue.specs.Lives.{going_of, life_seen, outside, own_of, trees_in, work_of, works_of}
use Rattle.life_queue.specs.Fine.{FineLife, FineTurn, FineWork, KeepsCells}
use Rattle.life_queue.proofs.Scripts.{lib_stays}
use Rattle.life_queue.proofs.Waits.{doing_fine, turn_same}

no_true : false ≡ true → ⊥
no_true e = cc

focus_same : (p q : Page) (v : ℕ) → ((n : ℕ) → owns p v n ≡ true → number q v n ≡ number p v n) → (o : Option ℕ) → OptionIn (owns p v) o → renumbered (number q v) o ≡ renumbered (number p v) o
focus_same p q v numbers None h = refl
focus_same p q v numbers (Some n) h = ap Some (numbers n h)

module _ (p q : Page) (v : ℕ) (owners : (n : ℕ) → owns p v n ≡ true → owns q v n ≡ true) where
  all_more : (ns : List ℕ) → AllByRecursion (λ n. owns p v n ≡ true) ns → AllByRecursion (λ n. owns q v n ≡ true) ns
  all_more [] h = tt
  all_more (n ∷ ns) h = (owners n h.0, all_more ns h.1)

  pass_more : (c : OwnKind) → PassNodes (owns p v) c → PassNodes (owns q v) c
  pass_more kinds.Object h = tt
  pass_more (kinds.Array n) h = tt
  pass_more (kinds.Function code fun declared scope) h = tt
  pass_more (kinds.Bunch ns) h = all_more ns h

  heap_more : (heap : List OwnCell) → AllByRecursion (λ (c : OwnCell). PassNodes (owns p v) c.kind) heap → AllByRecursion (λ (c : OwnCell). PassNodes (owns q v) c.kind) heap
  heap_more [] h = tt
  heap_more (c ∷ heap) h = (pass_more c.kind h.0, heap_more heap h.1)

  focus_more : (o : Option ℕ) → OptionIn (owns p v) o → OptionIn (owns q v) o
  focus_more None h = tt
  focus_more (Some n) h = owners n h

  off : (n : ℕ) → owns q v n ≡ false → owns p v n ≡ false
  off n h = by (owns p v n) refl
    where
      by : (b : Bool) → owns p v n ≡ b → b ≡ false
      by true e = absurd (no_true (sym h ∙ owners n e))
      by false e = refl

-- What another leaves of the page of widget v: its nodes under their numbers, its trees and its root.
pub record LeavesPage (v : ℕ) (p q : Page) : Type 0 where
  pub owners : (n : ℕ) → owns p v n ≡ true → owns q v n ≡ true
  pub numbers : (n : ℕ) → owns p v n ≡ true → number q v n ≡ number p v n
  pub own : own q v ≡ own p v
  pub trees : forest q v ≡ forest p v
  pub root : root_of q v ≡ root_of p v

-- the image of widget v, after a call for widget w
module _ (w v : ℕ) (ne : w ≡ v → ⊥) (lt : v < 32) (trees : List Forest) (s t : Cells) (p q : Page) (cells : KeepsCells trees w s t) (page : LeavesPage v p q) (l : Loop) (holds : HoldsOwn v s p l) where
  grows : Grows v s.cells t.cells
  grows = cells.others_grow v ne

  same_owned : owned v t ≡ owned v s
  same_owned = cells.others v ne

  -- the store changed
  store_apart : (fs : List Forest) (x : Outside) (b : Option Bool) → image fs x v (beside t p l b) ≡ image fs x v (beside s p l b)
  store_apart fs x b = sym (store_lift v s t p l holds grows lt fs x b) ∙ ap (state_of fs (rest v lt x (beside s p l b))) same_owned

  -- and then the page
  page_apart : (fs : List Forest) (x : Outside) (b : Option Bool) → image fs x v (beside t q l b) ≡ image fs x v (beside t p l b)
  page_apart fs x b = λ j. record {
    own = record (image fs x v (beside t q l b)).own {
      heap = map (meant_cell fs (page.own j)) (owned v t).heap;
      forest = page.trees j;
      kept = map (λ n. kept_of (own_count v t.cells) (around.kept l n)) (page.own j);
      focus = focus_same p q v page.numbers (around.focus l) holds.focus j;
      counts = meant_counts (length (page.own j)) (owned v t).paid;
    };
    dispatches = dispatches_of b x.outer;
  }

  image_left : (fs : List Forest) (x : Outside) (b : Option Bool) → image fs x v (beside t q l b) ≡ image fs x v (beside s p l b)
  image_left fs x b = page_apart fs x b ∙ store_apart fs x b

  -- what widget v holds stays its own
  pub holds_left : HoldsOwn v t q l
  holds_left =
      let grown = holds_grows v s t p l holds grows (subst (AllByRecursion (λ (c : OwnCell). PassNodes (owns p v) c.kind)) (ap (λ (o : Owned). o.heap) (sym same_owned)) holds.bunches) in record {
        home = record { root = holds.home.root; is = page.root ∙ holds.home.is; first = page.numbers holds.home.root (root_owned p v holds.home (is_widget v lt)) ∙ holds.home.first };
        bunches = heap_more p q v page.owners (owned v t).heap grown.bunches;
        handlers = grown.handlers;
        timers = grown.timers;
        focus = focus_more p q v page.owners (around.focus l) grown.focus;
        elsewhere = λ n e. grown.elsewhere n (off p q v page.owners n e);
      }

-- the turn of widget v, after a call for widget w
module _ (w v : ℕ) (ne : w ≡ v → ⊥) (trees : List Forest) (s t : Cells) (p q : Page) (cells : KeepsCells trees w s t) (owners : (n : ℕ) → owns p v n ≡ true → owns q v n ≡ true) (numbers : (n : ℕ) → owns p v n ≡ true → number q v n ≡ number p v n) where
  -- what it holds stays its own, whichever trees its scripts have
  pub turn_left : (fs : List Forest) (grant : ℕ) (o : Option Turn) → IfSome o (FineTurn fs v s p grant) → IfSome o (FineTurn fs v t q grant)
  turn_left fs grant None f = tt
  turn_left fs grant (Some u) f = record {
    doing = doing_fine fs v s t (cells.others_grow v ne) (cells.others v ne) p q numbers owners u.doing f.doing;
    levels = levels_fine v s.cells t.cells (cells.others_grow v ne) p q numbers owners fs u.calls.levels.items f.levels;
    left = f.left;
  }

-- a life, after a call for another, whose scripts may have other trees
module _ (w v : ℕ) (ne : w ≡ v → ⊥) (lt : v < 32) (trees : List Forest) (h k : Shared) (codes : k.codes ≡ h.codes) (cells : KeepsCells trees w h.store k.store) (page : LeavesPage v h.page k.page) (a : Life) (fine : FineLife h v a) where
  same_trees : trees_in k ≡ trees_in h
  same_trees = ap (λ (cs : Vec Code Global). trees_of cs.items) codes

  own_left : own_of k v a ≡ own_of h v a
  own_left = ap (λ (s : State). s.own) (image_left w v ne lt trees h.store k.store h.page k.page cells page a.widget.around fine.sound.holds (trees_in k) (outside a) None)
      ∙ ap (λ fs. (image fs (outside a) v (beside h.store h.page a.widget.around None)).own) same_trees

  going_left : (t : Turn) → FineTurn (trees_in h) v h.store h.page a.grant t → going_of k v a t ≡ going_of h v a t
  going_left t turn =
      let x = outside_of (outside a) t.calls.dispatches.items in
      let states : turn_image (trees_in k) (outside a) v k.store k.page a.widget.around t.calls.dispatches.items ≡ turn_image (trees_in h) (outside a) v h.store h.page a.widget.around t.calls.dispatches.items =
      image_left w v ne lt trees h.store k.store h.page k.page cells page a.widget.around fine.sound.holds (trees_in k) x (bubbled_of t.calls.dispatches.items)
      ∙ ap (λ fs. image fs x v (beside h.store h.page a.widget.around (bubbled_of t.calls.dispatches.items))) same_trees in
      let plans : turn_plan (trees_in k) v k.store.cells k.page t.doing t.calls.levels.items (turn_image (trees_in k) (outside a) v k.store k.page a.widget.around t.calls.dispatches.items)
      ≡ turn_plan (trees_in h) v h.store.cells h.page t.doing t.calls.levels.items (turn_image (trees_in h) (outside a) v h.store h.page a.widget.around t.calls.dispatches.items) =
      (λ j. turn_plan (same_trees j) v k.store.cells k.page t.doing t.calls.levels.items (states j))
      ∙ turn_same (trees_in h) v h.store k.store (cells.others_grow v ne) (cells.others v ne) h.page k.page page.numbers t.doing t.calls.levels.items turn.doing turn.levels _ in
      λ j. record { plan = plans j; left = t.left }

  some_going : (o : Option Turn) → IfSome o (FineTurn (trees_in h) v h.store h.page a.grant) → option_map (going_of k v a) o ≡ option_map (going_of h v a) o
  some_going None f = refl
  some_going (Some t) f = ap Some (going_left t f)

  same_works : works_of k v a ≡ works_of h v a
  same_works = ap (λ fs. map (work_of fs) a.queue.items) same_trees

  -- what is seen of it
  pub seen_left : life_seen k v a ≡ life_seen h v a
  seen_left = λ j. record { own = own_left j; going = some_going a.turn fine.turn j; queue = same_works j }

  -- and it stays sound, where each node still has its cell
  pub fine_left : ((u n : ℕ) → owns k.page u n ≡ true → HasRaw k.store.cells n) → FineLife k v a
  fine_left raws = record {
    number = fine.number;
    confined = subst (λ fs. IsConfined fs v k.store) (sym same_trees) (cells.others_confined (trees_in h) v ne fine.confined);
    sound = record { holds = holds_left w v ne lt trees h.store k.store h.page k.page cells page a.widget.around fine.sound.holds; raws = raws };
    lib = lib_stays v h.store k.store a (cells.others_grow v ne) fine.lib;
    works = subst (λ fs. AllByRecursion (FineWork fs) a.queue.items) (sym same_trees) fine.works;
    turn = subst (λ fs. IfSome a.turn (FineTurn fs v k.store k.page a.grant)) (sym same_trees) (turn_left w v ne trees h.store k.store h.page k.page cells page.owners page.numbers (trees_in h) a.grant a.turn fine.turn);
    counts = record {
      grant = fine.counts.grant;
      spent = fine.counts.spent;
      room = subst (λ is. a.records.turns + (a.records.missed + (a.records.gone + potentials is)) < 2 ^ 32) (sym same_works) fine.counts.room;
    };
  }

-- ## After a call for another widget

module _ (w v : ℕ) (ne : w ≡ v → ⊥) where
  leaves : v < 32 → (p q : Page) → KeepsPage w p q → LeavesPage v p q
  leaves lt p q page = record { owners = page.owners v; numbers = page.numbers v; own = page.others v (λ e. ne (sym e)); trees = page.trees v lt (λ e. ne (sym e)); root = page.roots v lt }

  pub holds_apart : (lt : v < 32) (trees : List Forest) (s t : Cells) (p q : Page) → KeepsCells trees w s t → KeepsPage w p q → (l : Loop) → HoldsOwn v s p l → HoldsOwn v t q l
  holds_apart lt trees s t p q cells page = holds_left w v ne lt trees s t p q cells (leaves lt p q page)

  pub turn_apart : (trees : List Forest) (s t : Cells) (p q : Page) → KeepsCells trees w s t → KeepsPage w p q → (fs : List Forest) (grant : ℕ) (o : Option Turn) → IfSome o (FineTurn fs v s p grant) → IfSome o (FineTurn fs v t q grant)
  turn_apart trees s t p q cells page = turn_left w v ne trees s t p q cells (page.owners v) (page.numbers v)

  module _ (lt : v < 32) (trees : List Forest) (h k : Shared) (codes : k.codes ≡ h.codes) (cells : KeepsCells trees w h.store k.store) (page : KeepsPage w h.page k.page) (a : Life) (fine : FineLife h v a) where
    pub seen_apart : life_seen k v a ≡ life_seen h v a
    seen_apart = seen_left w v ne lt trees h k codes cells (leaves lt h.page k.page page) a fine

    pub fine_apart : ((u n : ℕ) → owns k.page u n ≡ true → HasRaw k.store.cells n) → FineLife k v a
    fine_apart = fine_left w v ne lt trees h k codes cells (leaves lt h.page k.page page) a fine
