-- The hidden Array of a Bunch, and its nodes.
use Rattle.std.proofs.Common.{◌≡◌, ℕ, zero, suc, ◌+◌, ◌<◌, List, [], ◌∷◌, ◌++◌, length, refl, sym, ap, ◌∙◌, subst, arith, Option, Some, None, true, false, if◌then◌else◌, slice_get, take}
use Rattle.std.specs.Prelude.{IfSome, nat_eq, option_to_list}
use Rattle.std.specs.List.{IsDistinct, cons_option}
use Rattle.std.specs.Option.{option_and_then, option_map, option_map_or}
use Rattle.store_cells.specs.declared.value.Value.{Value}
use Rattle.store_cells.specs.Bunches.{IsBunch, node_at}
use Rattle.store_cells.specs.Cells.{PlainCell, is_bunch, node_in}
use Rattle.store_cells.specs.Shape.{AreRefs, IsLinked, IsRefWithin}
use Rattle.store_cells.proofs.Lists.{get_within, none_some, some_same}
use Rattle.object_store.specs.Elements.{HasHidden, bunch_nodes, reference_in}
use Rattle.object_store.specs.Owned.{node_of, nodes_in, nodes_of}
use Rattle.object_store.proofs.Views.{nodes_are}

pub get_there : (cells : List PlainCell) (i : ℕ) → i < length cells → (c : PlainCell) × (slice_get cells i ≡ Some c)
get_there [] i lt = absurd (omega (arith, lt))
get_there (c ∷ cells) zero lt = (c, refl)
get_there (c ∷ cells) (suc i) lt = get_there cells i (omega (arith, lt))

-- the node to whose cell a reference leads
pub node_is : (cells : List PlainCell) (i : ℕ) (o : Option ℕ) → i < length cells → IfSome (slice_get cells i) (λ c. o ≡ node_in c.form) → o ≡ node_at cells i
node_is cells i o lt h =
    let c = get_there cells i lt in
    let e : o ≡ node_in c.0.form = subst (λ (x : Option PlainCell). IfSome x (λ d. o ≡ node_in d.form)) c.1 h in
    e ∙ sym (ap (λ (x : Option PlainCell). option_and_then node_in (option_and_then (λ d. Some d.form) x)) c.1)

cons_more : (o : Option ℕ) (xs ys : List ℕ) → cons_option o (xs ++ ys) ≡ cons_option o xs ++ ys
cons_more None xs ys = refl
cons_more (Some x) xs ys = refl

cons_last : (o : Option ℕ) → cons_option o [] ≡ option_to_list o
cons_last None = refl
cons_last (Some x) = refl

-- one pair more
pub nodes_more : (cells : List PlainCell) (ps : List (List ℕ × Value)) (k : ℕ) (v : Value) → Some v ≡ option_map (λ (p : List ℕ × Value). p.1) (slice_get ps k) → nodes_in cells (take (suc k) ps) ≡ nodes_in cells (take k ps) ++ option_to_list (node_of cells v)
nodes_more cells [] k v e = absurd (none_some (sym e))
nodes_more cells (p ∷ ps) zero v e = cons_last (node_of cells p.1) ∙ ap (λ u. option_to_list (node_of cells u)) (some_same p.1 v (sym e))
nodes_more cells (p ∷ ps) (suc k) v e = ap (cons_option (node_of cells p.1)) (nodes_more cells ps k v e) ∙ cons_more (node_of cells p.1) (nodes_in cells (take k ps)) (option_to_list (node_of cells v))

pub nodes_all : (ps : List (List ℕ × Value)) (k : ℕ) → None ≡ option_map (λ (p : List ℕ × Value). p.1) (slice_get ps k) → take k ps ≡ ps
nodes_all [] zero e = refl
nodes_all [] (suc k) e = refl
nodes_all (p ∷ ps) zero e = absurd (none_some e)
nodes_all (p ∷ ps) (suc k) e = ap (λ l. p ∷ l) (nodes_all ps k e)

pub refs_at : (n : ℕ) (ps : List (List ℕ × Value)) (k : ℕ) (v : Value) → AreRefs n ps → Some v ≡ option_map (λ (p : List ℕ × Value). p.1) (slice_get ps k) → IsRefWithin n v
refs_at n [] k v h e = absurd (none_some (sym e))
refs_at n (p ∷ ps) zero v h e = subst (IsRefWithin n) (some_same p.1 v (sym e)) h.0
refs_at n (p ∷ ps) (suc k) v h e = refs_at n ps k v h.1 e

-- a value at a place of a cell
module _ (cells : List PlainCell) (i : ℕ) (lt : i < length cells) (k : ℕ) (v : Value) (found : IfSome (slice_get cells i) (λ a. Some v ≡ option_map (λ (p : List ℕ × Value). p.1) (slice_get a.pairs k))) where
  value_at : (a : PlainCell) → slice_get cells i ≡ Some a → Some v ≡ option_map (λ (p : List ℕ × Value). p.1) (slice_get a.pairs k)
  value_at a e = subst (λ (x : Option PlainCell). IfSome x (λ b. Some v ≡ option_map (λ (p : List ℕ × Value). p.1) (slice_get b.pairs k))) e found

  pub ref_found : ((j : ℕ) (d : PlainCell) → slice_get cells j ≡ Some d → IsLinked cells j d) → IsRefWithin (length cells) v
  ref_found linked = let a = get_there cells i lt in refs_at (length cells) a.0.pairs k v (linked i a.0 a.1).refs (value_at a.0 a.1)

  pub more_found : (ns new : List ℕ) → IfSome (slice_get cells i) (λ a. ns ≡ nodes_in cells (take k a.pairs)) → new ≡ ns ++ option_to_list (node_of cells v) → IfSome (slice_get cells i) (λ a. new ≡ nodes_in cells (take (k + 1) a.pairs))
  more_found ns new h e =
      let a = get_there cells i lt in
      let g : ns ≡ nodes_in cells (take k a.0.pairs) = subst (λ (x : Option PlainCell). IfSome x (λ b. ns ≡ nodes_in cells (take k b.pairs))) a.1 h in
      let n : k + 1 ≡ suc k = omega arith in
      subst (λ (x : Option PlainCell). IfSome x (λ b. new ≡ nodes_in cells (take (k + 1) b.pairs))) (sym a.1)
      (e ∙ ap (λ l. l ++ option_to_list (node_of cells v)) g ∙ sym (nodes_more cells a.0.pairs k v (value_at a.0 a.1)) ∙ ap (λ m. nodes_in cells (take m a.0.pairs)) (sym n))

module _ (cells : List PlainCell) (i : ℕ) (c : PlainCell) (at : slice_get cells i ≡ Some c) where
  abbrev pub Hides : Option ℕ → Type 0
  Hides o = IfSome (slice_get cells i) (λ d. HasHidden cells d o)

  pub hidden_not : is_bunch c.form ≡ false → Hides None
  hidden_not e = subst (λ (x : Option PlainCell). IfSome x (λ d. HasHidden cells d None)) (sym at) e

  pub hidden_is : is_bunch c.form ≡ true → IsBunch cells c → (v : Option Value) (o : Option ℕ) → IfSome (slice_get cells i) (λ d. v ≡ option_map (λ (p : List ℕ × Value). p.1) (slice_get d.pairs 0)) → o ≡ option_and_then reference_in v → Hides o
  hidden_is e h v o first is =
      let f : v ≡ option_map (λ (p : List ℕ × Value). p.1) (slice_get c.pairs 0) = subst (λ (x : Option PlainCell). IfSome x (λ d. v ≡ option_map (λ (p : List ℕ × Value). p.1) (slice_get d.pairs 0))) at first in
      let g : o ≡ Some h.array = is ∙ ap (option_and_then reference_in) (f ∙ ap (λ (ps : List (List ℕ × Value)). option_map (λ (p : List ℕ × Value). p.1) (slice_get ps 0)) h.pairs) in
      subst Hides (sym g) (subst (λ (x : Option PlainCell). IfSome x (λ d. HasHidden cells d (Some h.array))) (sym at) (e, h.pairs, get_within cells h.array _ h.hidden))

  pub bunch_none : Hides None → IfSome (slice_get cells i) (λ d. None ≡ bunch_nodes cells d)
  bunch_none h =
      let e : is_bunch c.form ≡ false = subst (λ (x : Option PlainCell). IfSome x (λ d. HasHidden cells d None)) at h in
      subst (λ (x : Option PlainCell). IfSome x (λ d. None ≡ bunch_nodes cells d)) (sym at) (sym (ap (λ b. if b then Some (nodes_of cells c) else None) e))

  module _ (a : ℕ) (h : Hides (Some a)) (ns : List ℕ) (is : IfSome (slice_get cells a) (λ d. ns ≡ nodes_in cells d.pairs)) where
    hidden : HasHidden cells c (Some a)
    hidden = subst (λ (x : Option PlainCell). IfSome x (λ d. HasHidden cells d (Some a))) at h

    these : ns ≡ nodes_of cells c
    these =
        let d = get_there cells a hidden.2 in
        let e : ns ≡ nodes_in cells d.0.pairs = subst (λ (x : Option PlainCell). IfSome x (λ b. ns ≡ nodes_in cells b.pairs)) d.1 is in
        e ∙ sym (ap (λ (ps : List (List ℕ × Value)). nodes_of cells (record c { pairs = ps })) hidden.1 ∙ ap (λ (x : Option PlainCell). option_map_or (λ (b : PlainCell). nodes_in cells b.pairs) x []) d.1)

    pub bunch_some : IfSome (slice_get cells i) (λ d. Some ns ≡ bunch_nodes cells d)
    bunch_some = subst (λ (x : Option PlainCell). IfSome x (λ d. Some ns ≡ bunch_nodes cells d)) (sym at) (ap Some these ∙ sym (ap (λ b. if b then Some (nodes_of cells c) else None) hidden.0))

    pub bunch_distinct : ((j : ℕ) (d : PlainCell) → slice_get cells j ≡ Some d → is_bunch d.form ≡ true → IsBunch cells d) → IsDistinct nat_eq ns
    bunch_distinct law =
        let b = law i c at hidden.0 in
        subst (IsDistinct nat_eq) (sym (these ∙ nodes_are cells c b)) b.distinct
