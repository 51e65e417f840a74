-- New nodes of a widget, and their cells.
use Rattle.std.proofs.Common.{◌≡◌, ℕ, ◌+◌, ◌<◌, ◌≤◌, List, [], ◌∷◌, ◌++◌, Bool, true, false, refl, sym, ap, ◌∙◌, subst, length, length-append, Option, None, Some, arith, ◌⊎◌, inl, inr, ⊎_elim}
use Rattle.std.specs.Prelude.{MatchOption, is_some, nat_lt}
use Rattle.std.proofs.lemmas.Bool.Decides.{nat_tests}
use Rattle.code_units.specs.declared.owner.Owner.TheVariants as owner
use Rattle.js_tree.specs.Forest.{Forest}
use Rattle.plain_tree.specs.Trees.{PlainTrees, Trees, size}
use Rattle.tree_ops.specs.Trees.{copied, numbered, subtree}
use Rattle.store_cells.specs.Born.{raw_place}
use Rattle.store_cells.specs.Cells.{Cells, PlainCell, raw_cell}
use Rattle.object_store.specs.Calls.{HasNode}
use Rattle.object_store.specs.Grows as store
use Rattle.object_store.specs.Owned.{Owned, owned}
use Rattle.page_nodes.specs.Adds.{IsAdded}
use Rattle.page_nodes.specs.Entries.{Entry, at}
use Rattle.page_nodes.specs.Owners.{same_owner}
use Rattle.page_tree.specs.declared.page.Page.{Page}
use Rattle.page_tree.specs.Pages.{SameRoots, copy_of, nodes}
use Rattle.page_image.specs.Image.{forest, number, own, owns}
use Rattle.page_image.proofs.Hosting.{added_host}
use Rattle.page_image.proofs.Growing.{added_grows, added_image, added_number, added_others, added_owned, copied_image, copy_added, copy_size, range_long}
use Rattle.page_image.proofs.Pages.{below_32, is_node}
use Rattle.event_loop.specs.declared.around.Loop.{Loop}
use Rattle.js_image.specs.Held.{CountsRise, IsConfined, IsFineFor, Kept}
use Rattle.js_image.proofs.Grown.{confined_more}
use Rattle.js_image.proofs.Nodes.{hold_same, rise_same}
use Rattle.native_image.specs.Grown.{IsGrown}
use Rattle.native_image.specs.Sound.{HasRaw, HoldsOwn, IsSound, KeepsAll}
use Rattle.native_image.proofs.Keeping.{holds_page, keeps_store, page_grows}

no_true : false ≡ true → ⊥
no_true e = cc

-- ## The cells of page nodes

module _ (fs : List Forest) (w : ℕ) (old new : Cells) (node : ℕ) where
  raw_fine : IsFineFor fs w new.cells (raw_cell node)
  raw_fine = record { cell = λ v. absurd (no_true v); scope = λ v. absurd (no_true v) }

  confined_raw : (id : ℕ) → HasNode old new node id → store.Grows w old.cells new.cells → IsConfined fs w old → IsConfined fs w new
  confined_raw id h g f = by (raw_place node old.cells) h
    where
      by : (o : Option ℕ) → MatchOption o ((id ≡ length old.cells) × (new ≡ record { cells = old.cells ++ raw_cell node ∷ []; kept = old.kept })) (λ i. (id ≡ i) × (new ≡ old)) → IsConfined fs w new
      by None e = confined_more fs w old new (raw_cell node ∷ []) (ap (λ (c : Cells). c.cells) e.1) g (raw_fine, tt) f
      by (Some i) e = subst (λ (c : Cells). IsConfined fs w c) (sym e.1) f

pub raw_kept : (fs : List Forest) (w : ℕ) (old new : Cells) (node id : ℕ) → HasNode old new node id → ((v : ℕ) → store.Grows v old.cells new.cells) → ((v : ℕ) → owned v new ≡ owned v old) → Kept fs w old new
raw_kept fs w old new node id h g same = record {
  confined = confined_raw fs w old new node id h (g w);
  grows = g w;
  others = λ v ne. same v;
  others_grow = λ v ne. g v;
  others_confined = λ gs v ne. confined_raw gs v old new node id h (g v);
  nodes = λ p held. hold_same p w old new (ap (λ (o : Owned). o.heap) (same w)) held;
  counts = subst (λ o. CountsRise (owned w old).paid o) (sym (ap (λ (o : Owned). o.paid) (same w))) (rise_same (owned w old).paid);
}

-- a cell that is there stays
pub raw_stays : (w : ℕ) (old new : List PlainCell) → store.Grows w old new → (n : ℕ) → HasRaw old n → HasRaw new n
raw_stays w old new g n = by (raw_place n old) refl
  where
    by : (o : Option ℕ) → raw_place n old ≡ o → is_some o ≡ true → HasRaw new n
    by None e h = absurd (no_true h)
    by (Some i) e h = ap is_some (g.raws n i e)

-- one more node has its cell
pub more_cells : (w : ℕ) (old new : List PlainCell) (first i : ℕ) → store.Grows w old new → ((n : ℕ) → first ≤ n → n < i → HasRaw old n) → HasRaw new i → (n : ℕ) → first ≤ n → n < i + 1 → HasRaw new n
more_cells w old new first i g h here n le lt = by (nat_lt n i) refl
  where
    by : (b : Bool) → nat_lt n i ≡ b → HasRaw new n
    by true e = raw_stays w old new g n (h n le (grind (arith, nat_tests, e)))
    by false e = let same : i ≡ n = grind (arith, nat_tests, e, lt) in subst (HasRaw new) same here

-- ## Nodes of the page

module _ (old new : Page) (same : SameRoots old new) (w : ℕ) (lt : w < 32) (id : ℕ) (p : PlainTrees) (c : IsAdded (nodes old) (nodes new) id (owner.Widget w) p) where
  fresh_nodes : (v n : ℕ) → owns new v n ≡ true → (owns old v n ≡ true) ⊎ ((id ≤ n) × (n < id + size p))
  unfolding owns
  fresh_nodes v n h = by (nat_lt n (length (nodes old))) refl
    where
      there : n < length (nodes new)
      there = is_node new v n h

      by : (b : Bool) → nat_lt n (length (nodes old)) ≡ b → (owns old v n ≡ true) ⊎ ((id ≤ n) × (n < id + size p))
      by true e = let low : n < length (nodes old) = grind (arith, nat_tests, e) in inl (sym (ap (λ (k : Entry). same_owner k.owner (owner.Widget v)) (c.older.same n low)) ∙ h)
      by false e = let high : length (nodes old) ≤ n = grind (arith, nat_tests, e) in inr (omega (arith, high, c.number), omega (arith, there, c.made, c.number))

  pub grown_of : IsGrown w old new id (size p) (numbered (length (own old w)) p)
  grown_of = record {
    trees = added_image old new same w lt id p c;
    first = added_number old new same w lt id p c;
    mine = added_owned old new same w lt id p c;
    grows = (_, range_long (size p) _, added_grows old new same w lt id p c);
    others = added_others old new same w lt id p c;
    host = added_host old new id (owner.Widget w) p refl c;
    fresh = fresh_nodes;
  }

-- a copy
pub copied_of : (old new : Page) (same : SameRoots old new) (w n id : ℕ) (h : owns old w n ≡ true) → IsAdded (nodes old) (nodes new) id (at (nodes old) n).owner (copy_of (nodes old) n) → IsGrown w old new id (size (subtree (number old w n) (forest old w))) (numbered (length (own old w)) (copied (subtree (number old w n) (forest old w))))
copied_of old new same w n id h c =
    let k = length (own old w) in
    subst (λ m. IsGrown w old new id m (numbered k (copied (subtree (number old w n) (forest old w))))) (copy_size old w n h)
    (subst (IsGrown w old new id (size (copy_of (nodes old) n))) (copied_image old w n k h)
    (grown_of old new same w (below_32 old w n h) id (copy_of (nodes old) n) (copy_added old new w n id h c)))

-- ## All together

module _ (w : ℕ) (lt : w < 32) (s t : Cells) (p q : Page) (id many : ℕ) (tree : Trees ℕ) (g : IsGrown w p q id many tree) (k : (fs : List Forest) → Kept fs w s t) where
  pub keeps_grown : (l : Loop) → HoldsOwn w s p l → KeepsAll w s t p q l
  keeps_grown l h =
      let a = keeps_store w s t p l h k in
      let b = page_grows w p q g.grows.0 g.grows.2 g.others in
      record { store = a.store; page = b; host = g.host; holds = holds_page w lt p q b t l a.holds }

  pub sound_grown : ((n : ℕ) → id ≤ n → n < id + many → HasRaw t.cells n) → (l : Loop) → IsSound w s p l → IsSound w t q l
  sound_grown there l h = record {
    holds = (keeps_grown l h.holds).holds;
    raws = λ v n e. ⊎_elim (λ o. raw_stays w s.cells t.cells (k []).grows n (h.raws v n o)) (λ r. there n r.0 r.1) (g.fresh v n e);
  }

-- how many come
pub so_many : (w : ℕ) (p q : Page) (id many : ℕ) (tree : Trees ℕ) → IsGrown w p q id many tree → length (own q w) ≡ length (own p w) + many
so_many w p q id many tree g = ap length g.grows.2.nodes ∙ length-append (own p w) g.grows.0 ∙ ap (λ m. length (own p w) + m) g.grows.1
