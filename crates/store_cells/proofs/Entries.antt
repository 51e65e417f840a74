-- The entries of one cell, after each change.
use Rattle.std.proofs.Common.{◌≡◌, ℕ, ◌<◌, ◌≤◌, List, [], ◌∷◌, refl, sym, ap, ◌∙◌, Some, None, arith, Bool, true, false, eqb, cond, if◌then◌else◌, true≢false, filter}
use Rattle.std.specs.Map.{lookup, remove_entry}
use Rattle.std.proofs.lemmas.Bool.Decides.{nat_tests}
use Rattle.indexmap.specs.IndexMap.{insert_entry}
use Rattle.store_cells.specs.declared.value.Value.{Value}
use Rattle.store_cells.specs.declared.value.Value.TheVariants as value
use Rattle.store_cells.specs.Numbered.{name_at, named}
use Rattle.store_cells.specs.Shape.{AreEntries, IsRefWithin}

-- references
pub ref_more : (m n : ℕ) (v : Value) → m ≤ n → IsRefWithin m v → IsRefWithin n v
ref_more m n value.Undefined le h = tt
ref_more m n value.Null le h = tt
ref_more m n (value.Bool b) le h = tt
ref_more m n (value.Num k) le h = tt
ref_more m n (value.Text t) le h = tt
ref_more m n (value.Ref i) le h = omega (arith, h)

pub entries_more : (n n' size size' : ℕ) (es : List (ℕ × Value)) → n ≤ n' → size ≤ size' → AreEntries n size es → AreEntries n' size' es
entries_more n n' size size' [] le ls h = tt
entries_more n n' size size' (e ∷ es) le ls h = ((omega (arith, h.0.0), ref_more size size' e.1 ls h.0.1), entries_more n n' size size' es le ls h.1)

pub entries_insert : (n size k : ℕ) (v : Value) (es : List (ℕ × Value)) → AreEntries n size es → k < n → IsRefWithin size v → AreEntries n size (insert_entry eqb es k v)
entries_insert n size k v [] h lt r = ((lt, r), tt)
entries_insert n size k v (e ∷ es) h lt r = by (eqb k e.0) (entries_insert n size k v es h.1 lt r)
  where
    by : (b : Bool) → AreEntries n size (insert_entry eqb es k v) → AreEntries n size (if b then (e.0, v) ∷ es else e ∷ insert_entry eqb es k v)
    by true rest = ((h.0.0, r), h.1)
    by false rest = (h.0, rest)

pub entries_remove : (n size k : ℕ) (es : List (ℕ × Value)) → AreEntries n size es → AreEntries n size (remove_entry (eqb k) es)
entries_remove n size k [] h = tt
entries_remove n size k (e ∷ es) h = by (eqb k e.0) (entries_remove n size k es h.1)
  where
    by : (b : Bool) → AreEntries n size (remove_entry (eqb k) es) → AreEntries n size (cond b es (e ∷ remove_entry (eqb k) es))
    by true rest = h.1
    by false rest = (h.0, rest)

pub entries_filter : (n size : ℕ) (p : ℕ × Value → Bool) (es : List (ℕ × Value)) → AreEntries n size es → AreEntries n size (filter p es)
entries_filter n size p [] h = tt
entries_filter n size p (e ∷ es) h = by (p e) (entries_filter n size p es h.1)
  where
    by : (b : Bool) → AreEntries n size (filter p es) → AreEntries n size (cond b (e ∷ filter p es) (filter p es))
    by true rest = (h.0, rest)
    by false rest = rest

-- indices
-- what is found under a number
pub lookup_inserted : (n : ℕ) (v : Value) (es : List (ℕ × Value)) → lookup (eqb n) (insert_entry eqb es n v) ≡ Some v
lookup_inserted n v [] = ap (λ b. cond b (Some v) None) (eqb_self n)
  where
    eqb_self : (n : ℕ) → eqb n n ≡ true
    eqb_self n = grind (arith, nat_tests)
lookup_inserted n v (e ∷ es) = by (eqb n e.0) refl (lookup_inserted n v es)
  where
    by : (b : Bool) → eqb n e.0 ≡ b → lookup (eqb n) (insert_entry eqb es n v) ≡ Some v → lookup (eqb n) (if b then (e.0, v) ∷ es else e ∷ insert_entry eqb es n v) ≡ Some v
    by true g rest = ap (λ b. cond b (Some v) (lookup (eqb n) es)) g
    by false g rest = ap (λ b. cond b (Some e.1) (lookup (eqb n) (insert_entry eqb es n v))) g ∙ rest

no_two : (k n m : ℕ) → eqb n m ≡ true → eqb k n ≡ false → eqb k m ≡ false
no_two k n m e f = grind (arith, nat_tests, e, f)

pub lookup_other : (k n : ℕ) (v : Value) (es : List (ℕ × Value)) → eqb k n ≡ false → lookup (eqb k) (insert_entry eqb es n v) ≡ lookup (eqb k) es
lookup_other k n v [] differs = ap (λ b. cond b (Some v) None) differs
lookup_other k n v (e ∷ es) differs = by (eqb n e.0) refl (lookup_other k n v es differs)
  where
    by : (b : Bool) → eqb n e.0 ≡ b → lookup (eqb k) (insert_entry eqb es n v) ≡ lookup (eqb k) es → lookup (eqb k) (if b then (e.0, v) ∷ es else e ∷ insert_entry eqb es n v) ≡ cond (eqb k e.0) (Some e.1) (lookup (eqb k) es)
    by true g rest =
        let f : eqb k e.0 ≡ false = no_two k n e.0 g differs in
        ap (λ b. cond b (Some v) (lookup (eqb k) es)) f ∙ sym (ap (λ b. cond b (Some e.1) (lookup (eqb k) es)) f)
    by false g rest = ap (λ o. cond (eqb k e.0) (Some e.1) o) rest

pub lookup_removed : (k n : ℕ) (es : List (ℕ × Value)) → eqb k n ≡ false → lookup (eqb k) (remove_entry (eqb n) es) ≡ lookup (eqb k) es
lookup_removed k n [] differs = refl
lookup_removed k n (e ∷ es) differs = by (eqb n e.0) refl (lookup_removed k n es differs)
  where
    by : (b : Bool) → eqb n e.0 ≡ b → lookup (eqb k) (remove_entry (eqb n) es) ≡ lookup (eqb k) es → lookup (eqb k) (cond b es (e ∷ remove_entry (eqb n) es)) ≡ cond (eqb k e.0) (Some e.1) (lookup (eqb k) es)
    by true g rest = sym (ap (λ b. cond b (Some e.1) (lookup (eqb k) es)) (no_two k n e.0 g differs))
    by false g rest = ap (λ o. cond (eqb k e.0) (Some e.1) o) rest

-- a filter that keeps a number keeps what is found under it
pub lookup_filter : (n : ℕ) (p : ℕ → Bool) (es : List (ℕ × Value)) → p n ≡ true → lookup (eqb n) (filter (λ e. p e.0) es) ≡ lookup (eqb n) es
lookup_filter n p [] keeps = refl
lookup_filter n p (e ∷ es) keeps = by (p e.0) refl (eqb n e.0) refl (lookup_filter n p es keeps)
  where
    same_number : (m : ℕ) → eqb n m ≡ true → m ≡ n
    same_number m g = grind (arith, nat_tests, g)

    by : (b : Bool) → p e.0 ≡ b → (d : Bool) → eqb n e.0 ≡ d → lookup (eqb n) (filter (λ e. p e.0) es) ≡ lookup (eqb n) es → lookup (eqb n) (cond b (e ∷ filter (λ e. p e.0) es) (filter (λ e. p e.0) es)) ≡ cond (eqb n e.0) (Some e.1) (lookup (eqb n) es)
    by true f d g rest = ap (λ o. cond (eqb n e.0) (Some e.1) o) rest
    by false f true g rest = absurd (true≢false (sym (ap p (same_number e.0 g) ∙ keeps) ∙ f))
    by false f false g rest = rest ∙ sym (ap (λ b. cond b (Some e.1) (lookup (eqb n) es)) g)

-- a filter by name
pub named_filter : (names : List (List ℕ)) (p : List ℕ → Bool) (es : List (ℕ × Value)) → named names (filter (λ e. p (name_at names e.0)) es) ≡ filter (λ q. p q.0) (named names es)
named_filter names p [] = refl
named_filter names p (e ∷ es) = by (p (name_at names e.0)) (named_filter names p es)
  where
    by : (b : Bool) → named names (filter (λ e. p (name_at names e.0)) es) ≡ filter (λ q. p q.0) (named names es)
        → named names (cond b (e ∷ filter (λ e. p (name_at names e.0)) es) (filter (λ e. p (name_at names e.0)) es)) ≡ cond b ((name_at names e.0, e.1) ∷ filter (λ q. p q.0) (named names es)) (filter (λ q. p q.0) (named names es))
    by true rest = ap (λ l. (name_at names e.0, e.1) ∷ l) rest
    by false rest = rest

-- an index of cells by node
pub node_found : (n v : ℕ) (es : List (ℕ × ℕ)) → lookup (eqb n) (insert_entry eqb es n v) ≡ Some v
node_found n v [] = ap (λ b. cond b (Some v) None) (eqb_self n)
  where
    eqb_self : (n : ℕ) → eqb n n ≡ true
    eqb_self n = grind (arith, nat_tests)
node_found n v (e ∷ es) = by (eqb n e.0) refl (node_found n v es)
  where
    by : (b : Bool) → eqb n e.0 ≡ b → lookup (eqb n) (insert_entry eqb es n v) ≡ Some v → lookup (eqb n) (if b then (e.0, v) ∷ es else e ∷ insert_entry eqb es n v) ≡ Some v
    by true g rest = ap (λ b. cond b (Some v) (lookup (eqb n) es)) g
    by false g rest = ap (λ b. cond b (Some e.1) (lookup (eqb n) (insert_entry eqb es n v))) g ∙ rest

pub node_other : (k n v : ℕ) (es : List (ℕ × ℕ)) → eqb k n ≡ false → lookup (eqb k) (insert_entry eqb es n v) ≡ lookup (eqb k) es
node_other k n v [] differs = ap (λ b. cond b (Some v) None) differs
node_other k n v (e ∷ es) differs = by (eqb n e.0) refl (node_other k n v es differs)
  where
    by : (b : Bool) → eqb n e.0 ≡ b → lookup (eqb k) (insert_entry eqb es n v) ≡ lookup (eqb k) es → lookup (eqb k) (if b then (e.0, v) ∷ es else e ∷ insert_entry eqb es n v) ≡ cond (eqb k e.0) (Some e.1) (lookup (eqb k) es)
    by true g rest =
        let f : eqb k e.0 ≡ false = no_two k n e.0 g differs in
        ap (λ b. cond b (Some v) (lookup (eqb k) es)) f ∙ sym (ap (λ b. cond b (Some e.1) (lookup (eqb k) es)) f)
    by false g rest = ap (λ o. cond (eqb k e.0) (Some e.1) o) rest
