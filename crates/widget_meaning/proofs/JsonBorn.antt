-- The objects that are made for a tree have that tree.
use Rattle.std.proofs.Common.{◌≡◌, ℕ, zero, suc, ◌+◌, ◌<◌, ◌≤◌, pos, negsuc, Bool, true, false, ◌&&◌, List, [], ◌∷◌, ◌++◌, length, Option, Some, None, refl, sym, ap, ◌∙◌, arith, lt-ltb, append_assoc}
use Rattle.std.specs.Prelude.{if◌then◌else◌, filter, option_map, unsigned_abs}
use Rattle.std.specs.List.{list_all}
use Rattle.std.specs.Str.{bytes_eq}
use Rattle.std.proofs.lemmas.Bool.{false≢true}
use Rattle.std.proofs.lemmas.List.{get_or_append_left, get_or-append-add, length-append}
use Rattle.std.proofs.lemmas.List.Folds.{list_all-append}
use Rattle.std.proofs.lemmas.Slice.Eq.{bytes_eq-Decides}
use Rattle.code_units.specs.declared.whole.WholeRead.{WholeRead}
use Rattle.code_units.specs.declared.whole.WholeRead.TheVariants as read
use Rattle.code_units.specs.Whole.{number_in}
use Rattle.code_units.specs.Permitted.{is_permitted}
use Rattle.code_units.proofs.WholeBack.{number_in-signed_decimal}
use Rattle.code_units.proofs.RoundTrip.{utf8_of-units_of}
use Rattle.serde_json.specs.Data as json
use Rattle.widget_meaning.specs.Limits.{max_length, past_numbers}
use Rattle.widget_meaning.specs.Values.{Value}
use Rattle.widget_meaning.specs.OwnState.{State, Cell, Pairs, lookup, cell_at, plain_object, new_array}
use Rattle.widget_meaning.specs.Properties.{index_name}
use Rattle.widget_meaning.specs.JsonValues.{value_at, cells_at, items_at, members_at, has_numbers, items_have_numbers, members_have_numbers, has_permitted_names}
use Rattle.widget_meaning.specs.JsonLaws.{items_tree, members_tree, cell_tree, tree_of}
use Rattle.widget_meaning.specs.JsonBack.{IsTree, AreItems, AreMembers, item_count, StandFrom, BornLaws}

-- names of different indexes differ
size : WholeRead → ℕ
size (read.Whole z) = unsigned_abs z
size read.NotNumber = 0
size read.Left = 0

same_index : (i j : ℕ) → i ≤ max_length → j ≤ max_length → index_name i ≡ index_name j → i ≡ j
unfolding size
same_index i j h k e = ap size (sym (number_in-signed_decimal (pos i) (omega (arith, h))) ∙ ap number_in e ∙ number_in-signed_decimal (pos j) (omega (arith, k)))

is_false : (b : Bool) → (b ≡ true → ⊥) → b ≡ false
is_false true h = absurd (h refl)
is_false false h = refl

other_name : (i j : ℕ) → i < j → j ≤ max_length → bytes_eq (index_name j) (index_name i) ≡ false
other_name i j h k = is_false _ (λ e. omega (arith, h, same_index i j (omega (arith, h, k)) k (sym ((bytes_eq-Decides (index_name j) (index_name i)).0 e))))

own_name : (x : List ℕ) → bytes_eq x x ≡ true
own_name x = (bytes_eq-Decides x x).1 refl

-- look-ups past pairs that lack the name
is_there : Option Value → Bool
is_there None = false
is_there (Some v) = true

some_none : (v : Value) → Some v ≡ None → ⊥
unfolding is_there
some_none v e = false≢true (sym (ap is_there e))

is_other : (b : Bool) (v : Value) (o : Option Value) → (if b then Some v else o) ≡ None → b ≡ false
is_other true v o e = absurd (some_none v e)
is_other false v o e = refl

after_others : (ps qs : Pairs) (x : List ℕ) → lookup ps x ≡ None → lookup (ps ++ qs) x ≡ lookup qs x
after_others [] qs x h = refl
after_others (p ∷ ps) qs x h =
    let b : bytes_eq x p.0 ≡ false = is_other (bytes_eq x p.0) p.1 (lookup ps x) h in
    ap (λ c. if c then Some p.1 else lookup (ps ++ qs) x) b ∙ after_others ps qs x (sym (ap (λ c. if c then Some p.1 else lookup ps x) b) ∙ h)

-- pairs that have no index from one on
abbrev Misses : Pairs → ℕ → Type 0
Misses ps i = (j : ℕ) → i ≤ j → j ≤ max_length → lookup ps (index_name j) ≡ None

misses_more : (ps : Pairs) (i : ℕ) (v : Value) → Misses ps i → Misses (ps ++ (index_name i, v) ∷ []) (i + 1)
misses_more ps i v m j low high =
    after_others ps ((index_name i, v) ∷ []) (index_name j) (m j (omega (arith, low)) high)
    ∙ ap (λ b. if b then Some v else None) (other_name i j (omega (arith, low)) high)

found_here : (ps qs : Pairs) (i : ℕ) (v : Value) → lookup ps (index_name i) ≡ None → lookup (ps ++ (index_name i, v) ∷ qs) (index_name i) ≡ Some v
found_here ps qs i v h =
    after_others ps ((index_name i, v) ∷ qs) (index_name i) h ∙ ap (λ b. if b then Some v else lookup qs (index_name i)) (own_name (index_name i))

-- parts of the objects that stand
stand_left : (s : State) (n : ℕ) (cs ds : List Cell) → StandFrom s n (cs ++ ds) → StandFrom s n cs
stand_left s n cs ds h i k = h i (omega (arith, k, length-append cs ds)) ∙ get_or_append_left cs ds (plain_object []) i k

stand_right : (s : State) (n : ℕ) (cs ds : List Cell) → StandFrom s n (cs ++ ds) → StandFrom s (n + length cs) ds
stand_right s n cs ds h i k =
    let place : n + length cs + i ≡ n + (length cs + i) = omega arith in
    ap (cell_at s) place ∙ h (length cs + i) (omega (arith, k, length-append cs ds)) ∙ get_or-append-add cs ds i (plain_object [])

stand_first : (s : State) (n : ℕ) (c : Cell) (cs : List Cell) → StandFrom s n (c ∷ cs) → cell_at s n ≡ c
stand_first s n c cs h =
    let place : n ≡ n + 0 = omega arith in
    ap (cell_at s) place ∙ h 0 (omega arith)

stand_rest : (s : State) (n : ℕ) (c : Cell) (cs : List Cell) → StandFrom s n (c ∷ cs) → StandFrom s (n + 1) cs
stand_rest s n c cs h i k =
    let place : n + 1 + i ≡ n + suc i = omega arith in
    ap (cell_at s) place ∙ h (suc i) (omega (arith, k))

-- primitives
primitive_tree : (m : ℕ) (s : State) (n : ℕ) (d : json.Data) → IsTree d → json.depth d ≡ 0 → tree_of m s (value_at n d) ≡ Some d
primitive_tree zero s n json.null h e = refl
primitive_tree (suc m) s n json.null h e = refl
primitive_tree zero s n (json.boolean b) h e = refl
primitive_tree (suc m) s n (json.boolean b) h e = refl
primitive_tree zero s n (json.number (json.unsigned k)) h e = refl
primitive_tree (suc m) s n (json.number (json.unsigned k)) h e = refl
primitive_tree m s n (json.number (json.negative (pos k))) h e = absurd h
primitive_tree zero s n (json.number (json.negative (negsuc k))) h e = refl
primitive_tree (suc m) s n (json.number (json.negative (negsuc k))) h e = refl
primitive_tree m s n (json.number (json.float x)) h e = absurd h
primitive_tree zero s n (json.string bs) h e = ap (λ x. Some (json.string x)) (utf8_of-units_of bs h)
primitive_tree (suc m) s n (json.string bs) h e = ap (λ x. Some (json.string x)) (utf8_of-units_of bs h)
primitive_tree m s n (json.array ds) h e = absurd (omega (arith, e))
primitive_tree m s n (json.object ms) h e = absurd (omega (arith, e))

-- every tree
mutual
  born : (m : ℕ) (s : State) (n : ℕ) (d : json.Data) → IsTree d → json.depth d ≤ m → StandFrom s n (cells_at n d) → tree_of m s (value_at n d) ≡ Some d
  born m s n json.null h deep st = primitive_tree m s n json.null h refl
  born m s n (json.boolean b) h deep st = primitive_tree m s n (json.boolean b) h refl
  born m s n (json.number x) h deep st = primitive_tree m s n (json.number x) h refl
  born m s n (json.string bs) h deep st = primitive_tree m s n (json.string bs) h refl
  born zero s n (json.array ds) h deep st = absurd (omega (arith, deep))
  born (suc m) s n (json.array ds) h deep st =
      let p = items_at (n + 1) 0 ds in
      ap (λ c. cell_tree (tree_of m s) c.kind c.pairs) (stand_first s n (new_array (length p.0) p.0) p.1 st)
      ∙ ap (option_map json.array) (born_items m s (n + 1) 0 ds p.0 [] refl (λ j low high. refl) (omega (arith, h.0)) h.1 (omega (arith, deep)) (stand_rest s n (new_array (length p.0) p.0) p.1 st))
  born zero s n (json.object ms) h deep st = absurd (omega (arith, deep))
  born (suc m) s n (json.object ms) h deep st =
      let p = members_at (n + 1) ms in
      ap (λ c. cell_tree (tree_of m s) c.kind c.pairs) (stand_first s n (plain_object p.0) p.1 st)
      ∙ ap (option_map json.object) (born_members m s (n + 1) ms h (omega (arith, deep)) (stand_rest s n (plain_object p.0) p.1 st))

  born_items : (m : ℕ) (s : State) (n i : ℕ) (ds : json.Items) (all pre : Pairs) → all ≡ pre ++ (items_at n i ds).0 → Misses pre i → i + item_count ds ≤ max_length → AreItems ds → json.items_depth ds ≤ m
      → StandFrom s n (items_at n i ds).1 → items_tree (tree_of m s) all i (length (items_at n i ds).0) ≡ Some ds
  born_items m s n i json.no_items all pre e miss short h deep st = refl
  born_items m s n i (json.item d ds) all pre e miss short h deep st =
      let v = value_at n d in
      let cs = cells_at n d in
      let rest = items_at (n + length cs) (i + 1) ds in
      let l : lookup all (index_name i) ≡ Some v = ap (λ ps. lookup ps (index_name i)) e ∙ found_here pre rest.0 i v (miss i (omega arith) (omega (arith, short))) in
      let t = born m s n d h.0 (omega (arith, deep)) (stand_left s n cs rest.1 st) in
      let r = born_items m s (n + length cs) (i + 1) ds all (pre ++ (index_name i, v) ∷ []) (e ∙ sym (append_assoc pre ((index_name i, v) ∷ []) rest.0)) (misses_more pre i v miss) (omega (arith, short)) h.1 (omega (arith, deep)) (stand_right s n cs rest.1 st) in
      rw l (rw t (rw r refl))

  born_members : (m : ℕ) (s : State) (n : ℕ) (ms : json.Members) → AreMembers ms → json.members_depth ms ≤ m → StandFrom s n (members_at n ms).1 → members_tree (tree_of m s) (filter (λ p. is_permitted p.0) (members_at n ms).0) ≡ Some ms
  born_members m s n json.no_members h deep st = refl
  born_members m s n (json.member k d ms) h deep st =
      let cs = cells_at n d in
      let rest = members_at (n + length cs) ms in
      let t = born m s n d h.2 (omega (arith, deep)) (stand_left s n cs rest.1 st) in
      let r = born_members m s (n + length cs) ms h.3 (omega (arith, deep)) (stand_right s n cs rest.1 st) in
      rw h.1 (rw t (rw r (ap (λ x. Some (json.member x d ms)) (utf8_of-units_of k h.0))))

-- no name of the objects throws
abbrev is_named : Cell → Bool
is_named c = has_permitted_names c.kind c.pairs

both : (a b : Bool) → a ≡ true → b ≡ true → (a && b) ≡ true
both a b e f = rw e f

mutual
  named : (n : ℕ) (d : json.Data) → IsTree d → list_all is_named (cells_at n d) ≡ true
  named n json.null h = refl
  named n (json.boolean b) h = refl
  named n (json.number x) h = refl
  named n (json.string bs) h = refl
  named n (json.array ds) h = named_items (n + 1) 0 ds h.1
  named n (json.object ms) h = both _ _ (permitted_members (n + 1) ms h) (named_members (n + 1) ms h)

  named_items : (n i : ℕ) (ds : json.Items) → AreItems ds → list_all is_named (items_at n i ds).1 ≡ true
  named_items n i json.no_items h = refl
  named_items n i (json.item d ds) h =
      list_all-append is_named (cells_at n d) (items_at (n + length (cells_at n d)) (i + 1) ds).1
      ∙ both _ _ (named n d h.0) (named_items (n + length (cells_at n d)) (i + 1) ds h.1)

  named_members : (n : ℕ) (ms : json.Members) → AreMembers ms → list_all is_named (members_at n ms).1 ≡ true
  named_members n json.no_members h = refl
  named_members n (json.member k d ms) h =
      list_all-append is_named (cells_at n d) (members_at (n + length (cells_at n d)) ms).1
      ∙ both _ _ (named n d h.2) (named_members (n + length (cells_at n d)) ms h.3)

  permitted_members : (n : ℕ) (ms : json.Members) → AreMembers ms → list_all (λ p. is_permitted p.0) (members_at n ms).0 ≡ true
  permitted_members n json.no_members h = refl
  permitted_members n (json.member k d ms) h = both _ _ h.1 (permitted_members (n + length (cells_at n d)) ms h.3)

-- no number stops
mutual
  numbered : (d : json.Data) → IsTree d → has_numbers d ≡ true
  numbered json.null h = refl
  numbered (json.boolean b) h = refl
  numbered (json.number (json.unsigned n)) h = lt-ltb n past_numbers h
  numbered (json.number (json.negative (pos n))) h = absurd h
  numbered (json.number (json.negative (negsuc n))) h = lt-ltb (suc n) past_numbers h
  numbered (json.number (json.float x)) h = absurd h
  numbered (json.string bs) h = refl
  numbered (json.array ds) h = numbered_items ds h.1
  numbered (json.object ms) h = numbered_members ms h

  numbered_items : (ds : json.Items) → AreItems ds → items_have_numbers ds ≡ true
  numbered_items json.no_items h = refl
  numbered_items (json.item d ds) h = both _ _ (numbered d h.0) (numbered_items ds h.1)

  numbered_members : (ms : json.Members) → AreMembers ms → members_have_numbers ms ≡ true
  numbered_members json.no_members h = refl
  numbered_members (json.member k d ms) h = both _ _ (numbered d h.2) (numbered_members ms h.3)

pub born_laws : BornLaws
born_laws m s n d h deep st = record { tree = born m s n d h deep st; names = named n d h; numbers = numbered d h }
