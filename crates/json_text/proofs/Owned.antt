-- The permitted pairs of an Object, each found by its name.
use Rattle.std.proofs.Common.{◌≡◌, ℕ, zero, suc, ◌<◌, ◌≤◌, List, [], ◌∷◌, length, refl, sym, ap, ◌∙◌, subst, Bool, true, false, ◌&&◌, not, Option, Some, None, arith, cond, if◌then◌else◌, is_some, get_or, map, slice_get}
use Rattle.std.specs.Cmp.{IsEquivalence}
use Rattle.std.specs.List.{IsDistinct, filter, find}
use Rattle.std.specs.Option.{IfSome, option_and_then, option_map_or}
use Rattle.std.specs.Str.{bytes_eq}
use Rattle.std.proofs.lemmas.Bool.{true≢false}
use Rattle.std.proofs.lemmas.Map.Entries.{lookup_from_place}
use Rattle.std.proofs.lemmas.Slice.Eq.{bytes_eq-Decides}
use Rattle.code_units.specs.Permitted.{is_permitted}
use Rattle.store_cells.specs.declared.value.Value.{Value}
use Rattle.store_cells.specs.declared.kind.Form.{Form}
use Rattle.store_cells.specs.declared.kind.Form.TheVariants as form
use Rattle.store_cells.specs.Arrays.{is_key, keys_of, length_name}
use Rattle.store_cells.specs.Cells.{PlainCell, chain, first_own, has_own, is_array, is_bunch, kind_of, value_of, widget_of}
use Rattle.store_cells.specs.Lists.{links}
use Rattle.object_store.specs.Calls.{keys_at, readable}
use Rattle.js_image.specs.Held.{ArePairs, IsFine}
use Rattle.js_image.specs.Image.{seen, seen_pairs}
use Rattle.json_text.specs.Objects.{IsObjectAt, is_object, is_object_kind, pairs_at}

none_some : {A : Type 0} {a : A} → None ≡ Some a → ⊥
none_some h = cc

some_same : {A : Type 0} (a b : A) → Some a ≡ Some b → a ≡ b
some_same a b e = cc

abbrev Pair : Type 0
Pair = List ℕ × Value

-- the pairs whose names are permitted
abbrev pub open_pairs : List (List ℕ × Value) → List (List ℕ × Value)
open_pairs ps = filter (λ p. is_permitted p.0) ps

-- they are what the widget sees under permitted names
pub open_seen : (w : ℕ) (cells : List PlainCell) (ps : List (List ℕ × Value)) → filter (λ q. is_permitted q.0) (seen_pairs w cells ps) ≡ seen_pairs w cells (open_pairs ps)
open_seen w cells [] = refl
open_seen w cells (p ∷ ps) = by (is_permitted p.0) (open_seen w cells ps)
  where
    by : (b : Bool) → filter (λ q. is_permitted q.0) (seen_pairs w cells ps) ≡ seen_pairs w cells (open_pairs ps)
        → cond b ((p.0, seen w cells p.1) ∷ filter (λ q. is_permitted q.0) (seen_pairs w cells ps)) (filter (λ q. is_permitted q.0) (seen_pairs w cells ps)) ≡ seen_pairs w cells (cond b (p ∷ open_pairs ps) (open_pairs ps))
    by true e = ap (λ l. (p.0, seen w cells p.1) ∷ l) e
    by false e = e

-- one that passes a test stands somewhere
kept_there : {X : Type 0} (f : X → Bool) (xs : List X) (k : ℕ) (x : X) → slice_get (filter f xs) k ≡ Some x → (j : ℕ) × (slice_get xs j ≡ Some x)
kept_there f [] k x e = absurd (none_some e)
kept_there f (y ∷ xs) k x e = by (λ n g. kept_there f xs n x g) (f y) k e
  where
    later : (j : ℕ) × (slice_get xs j ≡ Some x) → (j : ℕ) × (slice_get (y ∷ xs) j ≡ Some x)
    later r = (suc r.0, r.1)

    by : ((n : ℕ) → slice_get (filter f xs) n ≡ Some x → (j : ℕ) × (slice_get xs j ≡ Some x)) → (b : Bool) (k : ℕ) → slice_get (cond b (y ∷ filter f xs) (filter f xs)) k ≡ Some x → (j : ℕ) × (slice_get (y ∷ xs) j ≡ Some x)
    by rest true zero g = (0, g)
    by rest true (suc k) g = later (rest k g)
    by rest false k g = later (rest k g)

pub at_place : {X : Type 0} (xs : List X) (k : ℕ) (x : X) → k < length xs → x ≡ get_or xs k x → slice_get xs k ≡ Some x
at_place [] k x lt e = absurd (omega (arith, lt))
at_place (y ∷ xs) zero x lt e = ap Some (sym e)
at_place (y ∷ xs) (suc k) x lt e = at_place xs k x (omega (arith, lt)) e

-- ## Names

bytes_same : (a : List ℕ) → bytes_eq a a ≡ true
bytes_same a = (bytes_eq-Decides a a).1 refl

same_bytes : (a b : List ℕ) → bytes_eq a b ≡ true → a ≡ b
same_bytes a b e = (bytes_eq-Decides a b).0 e

bytes_flip : (a b : List ℕ) → bytes_eq a b ≡ bytes_eq b a
bytes_flip a b = by (bytes_eq a b) refl (bytes_eq b a) refl
  where
    by : (x : Bool) → bytes_eq a b ≡ x → (y : Bool) → bytes_eq b a ≡ y → x ≡ y
    by true e true g = refl
    by true e false g = sym (ap (λ z. bytes_eq b z) (same_bytes a b e) ∙ bytes_same b) ∙ g
    by false e true g = sym e ∙ ap (λ z. bytes_eq a z) (same_bytes b a g) ∙ bytes_same a
    by false e false g = refl

bytes_are : IsEquivalence bytes_eq
bytes_are = record {
  refl = bytes_same;
  symm = bytes_flip;
  congr = λ a b d e. ap (λ z. bytes_eq z d) (same_bytes a b e);
}

first_at : (name : List ℕ) (cells : List PlainCell) (i : ℕ) (c : PlainCell) (v : Value) → slice_get cells i ≡ Some c → value_of c.pairs name ≡ Some v → first_own name (chain cells i) ≡ Some v
first_at name [] i c v at own = absurd (none_some at)
first_at name (d ∷ ds) i c v at own =
    let up : PlainCell → List PlainCell = λ x. links (λ e. e.up) (length ds) (d ∷ ds) x.up in
    ap (λ x. first_own name (option_map_or (λ (e : PlainCell). e ∷ up e) x [])) at
    ∙ ap (λ b. option_and_then (λ (e : PlainCell). value_of e.pairs name) (if b then Some c else find (has_own name) (up c))) (ap is_some own)
    ∙ own

-- a read of a cell that is no Bunch begins with its own
own_first : (name : List ℕ) (cells : List PlainCell) (i : ℕ) (c : PlainCell) (v : Value) → slice_get cells i ≡ Some c → is_bunch c.form ≡ false → value_of c.pairs name ≡ Some v → first_own name (readable cells i) ≡ Some v
own_first name cells i c v at plain own =
    ap (λ x. first_own name (option_map_or (chain cells) (option_and_then (λ (d : PlainCell). if is_bunch d.form then d.up else Some i) x) [])) at
    ∙ ap (λ b. first_own name (option_map_or (chain cells) (if b then c.up else Some i) [])) plain
    ∙ first_at name cells i c v at own

-- the listed names of a cell that is no Array are its permitted ones
names_open : (c : PlainCell) → is_array c.form ≡ false → (ps : List Pair) → filter (is_key c) (map (λ (p : Pair). p.0) ps) ≡ map (λ (p : Pair). p.0) (open_pairs ps)
names_open c plain [] = refl
names_open c plain (p ∷ ps) = by (is_permitted p.0) (is_array c.form) plain (names_open c plain ps)
  where
    by : (b a : Bool) → a ≡ false → filter (is_key c) (map (λ (q : Pair). q.0) ps) ≡ map (λ (q : Pair). q.0) (open_pairs ps)
        → cond (b && not (a && bytes_eq p.0 length_name)) (p.0 ∷ filter (is_key c) (map (λ (q : Pair). q.0) ps)) (filter (is_key c) (map (λ (q : Pair). q.0) ps)) ≡ map (λ (q : Pair). q.0) (cond b (p ∷ open_pairs ps) (open_pairs ps))
    by false a e h = h
    by true false e h = ap (λ l. p.0 ∷ l) h
    by true true e h = absurd (true≢false e)

name_at : (ps : List Pair) (k : ℕ) (x : List ℕ) → slice_get (map (λ (p : Pair). p.0) ps) k ≡ Some x → (v : Value) × (slice_get ps k ≡ Some (x, v))
name_at [] k x e = absurd (none_some e)
name_at (p ∷ ps) zero x e = (p.1, ap (λ n. Some (n, p.1)) (some_same p.0 x e))
name_at (p ∷ ps) (suc k) x e = name_at ps k x e

none_named : (ps : List Pair) (k : ℕ) → length (map (λ (p : Pair). p.0) ps) ≤ k → slice_get ps k ≡ None
none_named [] k past = refl
none_named (p ∷ ps) zero past = absurd (omega (arith, past))
none_named (p ∷ ps) (suc k) past = none_named ps k (omega (arith, past))

-- ## An Object

plain_array : (f : Form) → is_object_kind (kind_of f) ≡ true → is_array f ≡ false
plain_array form.Object h = refl
plain_array form.Array h = absurd (true≢false (sym h))
plain_array (form.Function p) h = refl
plain_array (form.Native n) h = refl
plain_array form.Scope h = refl
plain_array form.Bunch h = refl
plain_array (form.RawNode n) h = refl
plain_array form.Global h = refl

plain_bunch : (f : Form) → is_object_kind (kind_of f) ≡ true → is_bunch f ≡ false
plain_bunch form.Object h = refl
plain_bunch form.Array h = refl
plain_bunch (form.Function p) h = refl
plain_bunch (form.Native n) h = refl
plain_bunch form.Scope h = refl
plain_bunch form.Bunch h = absurd (true≢false (sym h))
plain_bunch (form.RawNode n) h = refl
plain_bunch form.Global h = refl

second : (a b : Bool) → (a && b) ≡ true → b ≡ true
second true b h = h
second false b h = absurd (true≢false (sym h))

abbrev Differ : List PlainCell → ℕ → Type 0
Differ cells i = IfSome (slice_get cells i) (λ c. IsDistinct bytes_eq (map (λ (p : Pair). p.0) c.pairs))

module _ (cells : List PlainCell) (i : ℕ) (is : IsObjectAt cells i) where
  there : (o : Option PlainCell) → slice_get cells i ≡ o → option_map_or is_object o false ≡ true → (c : PlainCell) × (slice_get cells i ≡ Some c) × (is_object_kind (kind_of c.form) ≡ true)
  there None at e = absurd (true≢false (sym e))
  there (Some c) at e = (c, at, second (is_some (widget_of c.owner)) _ e)

  abbrev mine : List Pair
  mine = pairs_at cells i

  module _ (c : PlainCell) (at : slice_get cells i ≡ Some c) (kind : is_object_kind (kind_of c.form) ≡ true) where
    pairs_are : mine ≡ c.pairs
    pairs_are = ap (λ (o : Option PlainCell). option_map_or (λ (d : PlainCell). d.pairs) o []) at

    names_are : keys_at cells i ≡ map (λ (p : Pair). p.0) (open_pairs mine)
    names_are =
        ap (λ (o : Option PlainCell). option_map_or keys_of o []) at ∙ names_open c (plain_array c.form kind) c.pairs
        ∙ ap (λ (ps : List Pair). map (λ (p : Pair). p.0) (open_pairs ps)) (sym pairs_are)

    value_is : Differ cells i → (k : ℕ) (x : List ℕ) (v : Value) → slice_get (open_pairs mine) k ≡ Some (x, v) → first_own x (readable cells i) ≡ Some v
    value_is apart k x v e =
        let stands = kept_there (λ (p : Pair). is_permitted p.0) mine k (x, v) e in
        let own : slice_get c.pairs stands.0 ≡ Some (x, v) = ap (λ (ps : List Pair). slice_get ps stands.0) (sym pairs_are) ∙ stands.1 in
        let distinct : IsDistinct bytes_eq (map (λ (p : Pair). p.0) c.pairs) = subst (λ (o : Option PlainCell). IfSome o (λ d. IsDistinct bytes_eq (map (λ (p : Pair). p.0) d.pairs))) at apart in
        own_first x cells i c v at (plain_bunch c.form kind) (lookup_from_place bytes_are c.pairs stands.0 x v distinct own)

  names : keys_at cells i ≡ map (λ (p : Pair). p.0) (open_pairs mine)
  names = let c = there (slice_get cells i) refl is in names_are c.0 c.1 c.2

  -- a listed name and what a read gives under it
  pub key_pair : Differ cells i → (keys : List (List ℕ)) → keys ≡ keys_at cells i → (k : ℕ) (x : List ℕ) (o : Option Value) (v : Value) → slice_get keys k ≡ Some x → o ≡ first_own x (readable cells i) → o ≡ Some v
      → slice_get (open_pairs mine) k ≡ Some (x, v)
  key_pair apart keys are k x o v at read is_v =
      let c = there (slice_get cells i) refl is in
      let pair = name_at (open_pairs mine) k x (sym (ap (λ (ns : List (List ℕ)). slice_get ns k) (are ∙ names)) ∙ at) in
      let same : v ≡ pair.0 = some_same v pair.0 (sym is_v ∙ read ∙ value_is c.0 c.1 c.2 apart k x pair.0 pair.1) in
      pair.1 ∙ ap (λ u. Some (x, u)) (sym same)

  pub keys_over : (keys : List (List ℕ)) → keys ≡ keys_at cells i → (k : ℕ) → length keys ≤ k → slice_get (open_pairs mine) k ≡ None
  keys_over keys are k past = none_named (open_pairs mine) k (subst (λ (ns : List (List ℕ)). length ns ≤ k) (are ∙ names) past)

fine_at : (w : ℕ) (cells : List PlainCell) (ps : List Pair) (at : ℕ) (p : Pair) → ArePairs w cells ps → slice_get ps at ≡ Some p → IsFine w cells p.1
fine_at w cells [] at p h e = absurd (none_some e)
fine_at w cells (q ∷ ps) zero p h e = subst (λ (x : Pair). IsFine w cells x.1) (some_same q p e) h.0
fine_at w cells (q ∷ ps) (suc at) p h e = fine_at w cells ps at p h.1 e

-- what stands under a permitted name may be held
pub open_fine : (w : ℕ) (cells : List PlainCell) (ps : List (List ℕ × Value)) (k : ℕ) (x : List ℕ) (v : Value) → ArePairs w cells ps → slice_get (open_pairs ps) k ≡ Some (x, v) → IsFine w cells v
open_fine w cells ps k x v h e =
    let stands = kept_there (λ (p : Pair). is_permitted p.0) ps k (x, v) e in
    fine_at w cells ps stands.0 (x, v) h stands.1
