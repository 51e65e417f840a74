-- What is kept with nodes, as it changes.
use Rattle.std.proofs.Common.{◌≡◌, ℕ, ◌+◌, ◌<◌, List, [], ◌∷◌, ◌++◌, Bool, true, false, refl, sym, ap, ◌∙◌, subst, map, length, take, get_or, eqb, cond, ne_eqb, Option, None, Some, arith}
use Rattle.std.specs.Prelude.{filter, not}
use Rattle.std.specs.List.{AllByRecursion, fold}
use Rattle.std.specs.Str.{bytes_eq}
use Rattle.std.proofs.lemmas.List.Sums.{fold-append}
use Rattle.js_tree.specs.Forest.{Forest}
use Rattle.store_cells.specs.Cells.{Cells, PlainCell, own_count}
use Rattle.object_store.specs.Grows.{Grows}
use Rattle.widget_meaning.specs.BunchWrites as writes
use Rattle.widget_meaning.specs.BunchWrites.{change_kept}
use Rattle.widget_meaning.specs.OwnState.{Kept, State}
use Rattle.widget_meaning.specs.Values.{Own}
use Rattle.page_tree.specs.declared.page.Page.{Page}
use Rattle.page_image.specs.Held.{OptionIn}
use Rattle.page_image.specs.Image.{number, owns}
use Rattle.event_loop.specs.declared.around.Loop.{Loop}
use Rattle.event_loop.specs.Around as around
use Rattle.event_loop.specs.Around.{ChangedAt, SameKept, SameTimes}
use Rattle.event_loop.specs.Kept.{PlainKept}
use Rattle.page_image.specs.Around.{Shows, kept_of}
use Rattle.page_image.proofs.Events.{with_handler_of}
use Rattle.page_image.proofs.States.{changed_shows, hushed_of}
use Rattle.native_image.specs.Image.{Outside, beside, image}
use Rattle.native_image.specs.Sound.{HoldsOwn, IsOwnCell, IsSound}
use Rattle.native_image.proofs.Lists.{mapped_one}
use Rattle.native_image.proofs.Working.{kept_folded, loop_lift}
use Rattle.bunch_attributes.specs.declared.keeping.Change.{Change}
use Rattle.bunch_attributes.specs.declared.keeping.Change.TheVariants as change
use Rattle.bunch_attributes.specs.Kept.{IsFineChange, meant, plain_change}

no_true : false ≡ true → ⊥
no_true e = cc

-- a change of the loop is that of the meaning
pub meant_is : (g : ℕ → ℕ) (c : Change) (k : PlainKept) → kept_of g (plain_change c k) ≡ meant g c (kept_of g k)
meant_is g (change.Listen kind func) k = with_handler_of g k kind func
meant_is g (change.Hush kind) k = hushed_of g kind k
meant_is g (change.Mark text) k = refl
meant_is g change.Protect k = refl

-- ## The handlers stay the widget's

module _ (w : ℕ) (cells : List PlainCell) where
  abbrev AreOwn : List (List ℕ × ℕ) → Type 0
  AreOwn hs = AllByRecursion (λ h. IsOwnCell w cells h.1) hs

  own_last : (hs : List (List ℕ × ℕ)) (h : List ℕ × ℕ) → AreOwn hs → IsOwnCell w cells h.1 → AreOwn (hs ++ h ∷ [])
  own_last [] h f g = (g, tt)
  own_last (k ∷ hs) h f g = (f.0, own_last hs h f.1 g)

  own_left : (kind : List ℕ) (hs : List (List ℕ × ℕ)) → AreOwn hs → AreOwn (filter (λ h. not (bytes_eq h.0 kind)) hs)
  own_left kind [] f = tt
  own_left kind (h ∷ hs) f = by (not (bytes_eq h.0 kind)) (own_left kind hs f.1)
    where
      by : (b : Bool) → AreOwn (filter (λ h. not (bytes_eq h.0 kind)) hs) → AreOwn (cond b (h ∷ filter (λ h. not (bytes_eq h.0 kind)) hs) (filter (λ h. not (bytes_eq h.0 kind)) hs))
      by true g = (f.0, g)
      by false g = g

  handlers_own : (c : Change) (k : PlainKept) → IsFineChange w cells c → AreOwn k.handlers → AreOwn (plain_change c k).handlers
  handlers_own (change.Listen kind func) k fine f = own_last k.handlers (kind, func) f fine
  handlers_own (change.Hush None) k fine f = tt
  handlers_own (change.Hush (Some kind)) k fine f = own_left kind k.handlers f
  handlers_own (change.Mark text) k fine f = f
  handlers_own change.Protect k fine f = f

module _ (w : ℕ) (s : Cells) (p : Page) (old new : Loop) (times : SameTimes old new) where
  holds_by : ((n : ℕ) → AllByRecursion (λ h. IsOwnCell w s.cells h.1) (around.kept new n).handlers) → ((n : ℕ) → owns p w n ≡ false → around.kept new n ≡ around.kept old n) → HoldsOwn w s p old → HoldsOwn w s p new
  holds_by handlers off h = record {
    home = h.home;
    bunches = h.bunches;
    handlers = handlers;
    timers = subst (λ ts. AllByRecursion (λ t. IsOwnCell w s.cells t.func) ts) (sym times.same_timers) h.timers;
    focus = subst (OptionIn (owns p w)) (sym times.same_focus) h.focus;
    elsewhere = λ n e. off n e ∙ h.elsewhere n e;
  }

  -- one node's is changed
  pub holds_changed : (n : ℕ) (c : Change) → owns p w n ≡ true → IsFineChange w s.cells c → ChangedAt old new n (plain_change c) → HoldsOwn w s p old → HoldsOwn w s p new
  holds_changed n c own fine changed h =
      holds_by
      (λ m. subst (λ (k : PlainKept). AllByRecursion (λ h. IsOwnCell w s.cells h.1) k.handlers) (sym (changed m)) (by m (eqb m n)))
      (λ m off. changed m ∙ ap (λ b. cond b (plain_change c (around.kept old m)) (around.kept old m)) (ne_eqb m n (λ e. no_true (sym off ∙ ap (owns p w) e ∙ own))))
      h
    where
      by : (m : ℕ) (b : Bool) → AllByRecursion (λ h. IsOwnCell w s.cells h.1) (cond b (plain_change c (around.kept old m)) (around.kept old m)).handlers
      by m true = handlers_own w s.cells c (around.kept old m) fine (h.handlers m)
      by m false = h.handlers m

  -- all stays
  pub holds_same : SameKept old new → HoldsOwn w s p old → HoldsOwn w s p new
  holds_same same h =
      holds_by
      (λ m. subst (λ (k : PlainKept). AllByRecursion (λ h. IsOwnCell w s.cells h.1) k.handlers) (sym (same m)) (h.handlers m))
      (λ m off. same m)
      h

-- ## Several nodes

pub kept_more : (p : Page) (w : ℕ) (g : ℕ → ℕ) (old new : Loop) (s : State) (ns : List ℕ) (i : ℕ) (c : Change) → i < length ns → owns p w (get_or ns i 0) ≡ true → SameTimes old new → ChangedAt old new (get_or ns i 0) (plain_change c) → Shows p w g old (fold (change_kept (meant g c)) s (map (number p w) (take i ns))).own → Shows p w g new (fold (change_kept (meant g c)) s (map (number p w) (take (i + 1) ns))).own
kept_more p w g old new s ns i c lt own times changed shows =
    subst (λ (t : State). Shows p w g new t.own)
    (sym (ap (fold (change_kept (meant g c)) s) (mapped_one (number p w) ns i lt)
    ∙ fold-append (change_kept (meant g c)) s (map (number p w) (take i ns)) (number p w (get_or ns i 0) ∷ [])))
    (changed_shows p w g old new (fold (change_kept (meant g c)) s (map (number p w) (take i ns))) (get_or ns i 0) (plain_change c) (meant g c) own (meant_is g c) times shows changed)

-- a handler's function keeps its number as the store grows
pub meant_stays : (w : ℕ) (s t : List PlainCell) (c : Change) → Grows w s t → IsFineChange w s c → (k : Kept) → meant (own_count w t) c k ≡ meant (own_count w s) c k
meant_stays w s t (change.Listen kind func) g fine k = ap (λ n. writes.with_handler kind (Own n) k) (g.count func fine.0)
meant_stays w s t (change.Hush kind) g fine k = refl
meant_stays w s t (change.Mark text) g fine k = refl
meant_stays w s t change.Protect g fine k = refl

pub fine_change : (w : ℕ) (s t : List PlainCell) (c : Change) → Grows w s t → IsFineChange w s c → IsFineChange w t c
fine_change w s t (change.Listen kind func) g fine = (omega (arith, fine.0, g.size), g.visible func fine.0 ∙ fine.1)
fine_change w s t (change.Hush kind) g fine = tt
fine_change w s t (change.Mark text) g fine = tt
fine_change w s t change.Protect g fine = tt

-- the image of what was kept
pub kept_lift : (w : ℕ) (fs : List Forest) (x : Outside) (s : Cells) (p : Page) (old new : Loop) (b : Option Bool) (f : Kept → Kept) (ns : List ℕ) → Shows p w (own_count w s.cells) new (fold (change_kept f) (image fs x w (beside s p old b)) ns).own → image fs x w (beside s p new b) ≡ fold (change_kept f) (image fs x w (beside s p old b)) ns
kept_lift w fs x s p old new b f ns shows =
    let u = image fs x w (beside s p old b) in
    let e = kept_folded f u ns in
    loop_lift w fs x s p old new b (fold (change_kept f) u ns).own.kept u.own.focus (subst (λ (t : State). Shows p w (own_count w s.cells) new t.own) e shows)
    ∙ sym e

-- each node has its cell as before
pub sound_around : (w : ℕ) (s : Cells) (p : Page) (old new : Loop) → IsSound w s p old → HoldsOwn w s p new → IsSound w s p new
sound_around w s p old new h holds = record { holds = holds; raws = h.raws }
