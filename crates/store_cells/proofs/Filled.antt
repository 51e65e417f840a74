-- A cell with its first pairs.
use Rattle.std.proofs.Common.{◌≡◌, ℕ, ◌+◌, ◌<◌, ◌≤◌, List, [], ◌∷◌, ◌++◌, length, map, refl, sym, ap, ◌∙◌, subst, Option, Some, arith, Bool, true, false, eqb, if◌then◌else◌, slice_get}
use Rattle.std.specs.Prelude.{Result, Ok, Err, IfOk, OnErr, IfSome, ◌&&◌}
use Rattle.std.specs.List.{AllByRecursion, IsDistinct, fold}
use Rattle.std.specs.Str.{bytes_eq}
use Rattle.std.proofs.lemmas.Option.{get_or_from_slice_get, slice_get-get_or}
use Rattle.std.proofs.lemmas.List.{map-append}
use Rattle.std.proofs.lemmas.Map.Keys.{IsDistinct-head, IsDistinct-tail}
use Rattle.std.proofs.lemmas.Slice.Eq.{bytes_eq-Decides}
use Rattle.indexmap.specs.IndexMap.{insert_entry}
use Rattle.keyed_names.specs.Interned.{IsTable}
use Rattle.store_cells.specs.declared.value.Value.{Value}
use Rattle.store_cells.specs.declared.cell.Head.{Head}
use Rattle.store_cells.specs.Cells.{PlainCell, is_array}
use Rattle.store_cells.specs.Arrays.{length_name, nodes_name}
use Rattle.store_cells.specs.Numbered.{NumberedCell, Grown, plain, cells_of, heads, own_head}
use Rattle.store_cells.specs.Shape.{AreRefs, AreWords, Grew, IsBase, IsWellFormed, IsOrdered, Kept, Known, scope_at, scope_head}
use Rattle.store_cells.specs.Born.{filled_cell, with_pair}
use Rattle.store_cells.proofs.Lists.{get_within}
use Rattle.store_cells.proofs.Look.{known_cells}
use Rattle.store_cells.proofs.Entries.{ref_more}
use Rattle.store_cells.proofs.Writes.{all_fine_stay, cells_stay}
use Rattle.store_cells.proofs.Adds.{base_push, heads_push}
use Rattle.store_cells.proofs.Elements.{known_refs}

false_true : false ≡ true → ⊥
false_true g = cc

same_is : (a b : List ℕ) → a ≡ b → bytes_eq a b ≡ true
same_is a b e = (bytes_eq-Decides a b).1 e

is_same : (a b : List ℕ) → bytes_eq a b ≡ true → a ≡ b
is_same a b e = (bytes_eq-Decides a b).0 e

flipped : (a b : List ℕ) → bytes_eq a b ≡ false → bytes_eq b a ≡ false
flipped a b e = by (bytes_eq b a) refl
  where
    by : (d : Bool) → bytes_eq b a ≡ d → d ≡ false
    by false g = refl
    by true g = absurd (false_true (sym e ∙ same_is a b (sym (is_same b a g))))

-- the names of pairs
abbrev first_names : List (List ℕ × Value) → List (List ℕ)
first_names ps = map (λ p. p.0) ps

-- no pair has the name
abbrev Lacks : List ℕ → List (List ℕ × Value) → Type 0
Lacks x [] = Unit {0}
Lacks x (p ∷ ps) = (bytes_eq x p.0 ≡ false) × Lacks x ps

abbrev AllLack : List (List ℕ) → List (List ℕ × Value) → Type 0
AllLack [] ps = Unit {0}
AllLack (x ∷ xs) ps = Lacks x ps × AllLack xs ps

inserted_last : (name : List ℕ) (v : Value) (ps : List (List ℕ × Value)) → Lacks name ps → insert_entry bytes_eq ps name v ≡ ps ++ (name, v) ∷ []
inserted_last name v [] h = refl
inserted_last name v (p ∷ ps) h = ap (λ b. if b then (p.0, v) ∷ ps else p ∷ insert_entry bytes_eq ps name v) h.0 ∙ ap (λ l. p ∷ l) (inserted_last name v ps h.1)

lacks_push : (x name : List ℕ) (v : Value) (ps : List (List ℕ × Value)) → Lacks x ps → bytes_eq x name ≡ false → Lacks x (ps ++ (name, v) ∷ [])
lacks_push x name v [] h e = (e, tt)
lacks_push x name v (p ∷ ps) h e = (h.0, lacks_push x name v ps h.1 e)

all_lack_push : (name : List ℕ) (v : Value) (xs : List (List ℕ)) (ps : List (List ℕ × Value)) → AllLack xs ps → AllByRecursion (λ y. bytes_eq name y ≡ false) xs → AllLack xs (ps ++ (name, v) ∷ [])
all_lack_push name v [] ps h e = tt
all_lack_push name v (x ∷ xs) ps h e = (lacks_push x name v ps h.0 (flipped name x e.0), all_lack_push name v xs ps h.1 e.1)

none_lack : (xs : List (List ℕ)) → AllLack xs []
none_lack [] = tt
none_lack (x ∷ xs) = (tt, none_lack xs)

push_more : {X : Type 0} (xs : List X) (y : X) (ys : List X) → (xs ++ y ∷ []) ++ ys ≡ xs ++ y ∷ ys
push_more [] y ys = refl
push_more (x ∷ xs) y ys = ap (λ l. x ∷ l) (push_more xs y ys)

append_none : {X : Type 0} (xs : List X) → xs ++ [] ≡ xs
append_none [] = refl
append_none (y ∷ xs) = ap (λ l. y ∷ l) (append_none xs)

-- pairs of different names are written in their order
written_all : (h : Head) (qs ps : List (List ℕ × Value)) → IsDistinct bytes_eq (first_names qs) → AllLack (first_names qs) ps → fold with_pair (filled_cell h ps) qs ≡ filled_cell h (ps ++ qs)
written_all h [] ps d k = ap (filled_cell h) (sym (append_none ps))
written_all h (q ∷ qs) ps d k =
    ap (λ l. fold with_pair (filled_cell h l) qs) (inserted_last q.0 q.1 ps k.0)
    ∙ written_all h qs (ps ++ q ∷ []) (IsDistinct-tail bytes_eq q.0 (first_names qs) d) (all_lack_push q.0 q.1 (first_names qs) ps k.1 (IsDistinct-head bytes_eq q.0 (first_names qs) d))
    ∙ ap (filled_cell h) (push_more ps q qs)

pub filled_is : (h : Head) (pairs : List (List ℕ × Value)) → IsDistinct bytes_eq (first_names pairs) → fold with_pair (filled_cell h []) pairs ≡ filled_cell h pairs
filled_is h pairs d = written_all h pairs [] d (none_lack (first_names pairs))

-- the two names with fixed numbers
pub words_grown : (old new : List (List ℕ)) → Grown old new → AreWords old → AreWords new
words_grown old new grown words = record {
  length = stay 0 length_name words.length;
  nodes = stay 1 nodes_name words.nodes;
}
  where
    stay : (k : ℕ) (t : List ℕ) → slice_get old k ≡ Some t → slice_get new k ≡ Some t
    stay k t at =
        let lt = get_within old k t at in
        slice_get-get_or new k [] (omega (arith, lt, grown.longer)) ∙ ap Some (grown.kept k lt ∙ get_or_from_slice_get old k t [] at)

-- references of more cells
refs_more : (m n : ℕ) (ps : List (List ℕ × Value)) → m ≤ n → AreRefs m ps → AreRefs n ps
refs_more m n [] le h = tt
refs_more m n (p ∷ ps) le h = (ref_more m n p.1 le h.0, refs_more m n ps le h.1)

pub filled_fine : (names : List (List ℕ)) (size : ℕ) (h : Head) (pairs : List (List ℕ × Value)) (c : NumberedCell) → Known (length names) c.entries → c.head ≡ h → plain names c ≡ filled_cell h pairs → is_array h.form ≡ false → AreRefs size pairs → IsWellFormed names (size + 1) c
filled_fine names size h pairs c known head is other refs = record {
  entries = known_refs names (length names) (size + 1) c.entries known (subst (AreRefs (size + 1)) (sym (ap (λ (p : PlainCell). p.pairs) is)) (refs_more size (size + 1) pairs (omega arith) refs));
  array = λ a. absurd (false_true (sym other ∙ ap (λ (k : Head). is_array k.form) (sym head) ∙ a));
}

-- a cell is added
module _ (old new : List (List ℕ)) (grown : Grown old new) (table : IsTable new) (cs : List NumberedCell) (base : IsBase old cs) where
  grown_base : IsBase new cs
  grown_base = record {
    table = table;
    words = words_grown old new grown base.words;
    fine = all_fine_stay old new grown.longer grown.kept (length cs) (length cs) cs (omega arith) base.fine;
    ordered = base.ordered;
  }

  grown_cells : cells_of new cs ≡ cells_of old cs
  grown_cells = cells_stay old new grown.longer grown.kept cs (known_cells old (length cs) cs base.fine)

  grown_kept : (after : List NumberedCell) → after ≡ cs → Kept old cs new after
  grown_kept after e = record {
    done = ap (cells_of new) e ∙ grown_cells;
    base = subst (IsBase new) (sym e) grown_base;
    heads = ap heads e;
  }

  pub kept_err : {X E : Type 0} (r : Result X E) → OnErr r (Kept old cs new cs)
  kept_err (Ok x) = tt
  kept_err (Err x) = grown_kept cs refl

  pub kept_after : {X E : Type 0} (after : List NumberedCell) (r : Result X E) → OnErr r (after ≡ cs) → OnErr r (Kept old cs new after)
  kept_after after (Ok x) e = tt
  kept_after after (Err x) e = grown_kept after e

  pub kept_same : {X E : Type 0} (after : List NumberedCell) (r : Result X E) → after ≡ cs → OnErr r (Kept old cs new after)
  kept_same after (Ok x) e = tt
  kept_same after (Err x) e = grown_kept after e

  module _ (h : Head) (pairs : List (List ℕ × Value)) (c : NumberedCell) (head : c.head ≡ h) (is : plain new c ≡ filled_cell h pairs) (fine : IsWellFormed new (length cs + 1) c) (ordered : IsOrdered (heads cs) (length cs) h) where
    cell_grew : (after : List NumberedCell) → after ≡ cs ++ c ∷ [] → Grew old cs new after (filled_cell h pairs) h
    cell_grew after e = record {
      done = ap (cells_of new) e ∙ map-append (plain new) cs (c ∷ []) ∙ (λ j. grown_cells j ++ is j ∷ []);
      base = subst (IsBase new) (sym e) (base_push new cs c grown_base fine (subst (λ (k : Head). IsOrdered (heads cs) (length cs) k) (sym head) ordered));
      heads = ap heads e ∙ heads_push cs c ∙ ap (λ k. heads cs ++ k ∷ []) head;
    }

    pub cell_ok : {E : Type 0} (r : Result ℕ E) (after : List NumberedCell) → IfOk r (λ id. (id ≡ length cs) × (after ≡ cs ++ c ∷ [])) → IfOk r (λ id. (id ≡ length cs) × Grew old cs new after (filled_cell h pairs) h)
    cell_ok (Ok id) after ok = (ok.0, cell_grew after ok.1)
    cell_ok (Err e) after ok = tt

-- the fixed part of a scope
pub scope_ordered : (hs : List Head) (n w : ℕ) (outer : Option ℕ) → n ≡ length hs → IfSome outer (λ j. (j < n) × (scope_at hs j ≡ true)) → IsOrdered hs n (scope_head w outer)
scope_ordered hs n w outer same fits = record {
  up = fits;
  scope = tt;
  links = refl;
  few = omega arith;
  below = omega arith;
  owned = λ e. refl;
  based = λ e g. absurd (false_true (sym g));
  unbunched = λ g. absurd (false_true (sym g));
  number = λ v e. absurd (false_true (sym (never v) ∙ e));
}
  where
    never : (v : ℕ) → own_head v (scope_head w outer) ≡ false
    never v = and_false (eqb w v)
      where
        and_false : (b : Bool) → (b && false) ≡ false
        and_false true = refl
        and_false false = refl
