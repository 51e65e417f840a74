-- A value that is written and read is the same tree again.
use Rattle.std.proofs.Common.{◌≡◌, ℕ, zero, suc, ◌+◌, ◌≤◌, pos, negsuc, Bool, true, false, cond, List, [], ◌∷◌, ◌++◌, length, Option, Some, None, refl, sym, ap, ◌∙◌, subst, arith, append_assoc, append-nil, IsUtf8, option_and_then}
use Rattle.std.specs.Prelude.{⊤, if◌then◌else◌, filter, option_map, slice_index_or}
use Rattle.std.specs.List.{fold, list_all}
use Rattle.std.specs.Ordering.{match_ordering, nat_cmp}
use Rattle.std.specs.declared.cmp.Ordering.{Ordering}
use Rattle.std.specs.declared.cmp.Ordering.TheVariants.{Less, Equal, Greater}
use Rattle.std.specs.Cmp.Lexicographic.{slice_cmp}
use Rattle.std.specs.Char.Utf16.{has_unpaired_surrogate}
use Rattle.std.proofs.lemmas.Bool.{false≢true}
use Rattle.std.proofs.lemmas.List.{get_or-append-add}
use Rattle.code_units.specs.Utf8.{units_of, utf8_of}
use Rattle.code_units.specs.Permitted.{is_permitted}
use Rattle.code_units.proofs.UnitsBack.{IsUtf8-utf8_of, units_of-utf8_of}
use Rattle.serde_json.specs.Data as json
use Rattle.widget_meaning.specs.Limits.{max_nesting}
use Rattle.widget_meaning.specs.Values.{Value, Undefined, Null, Truth, NaN, Num, Text, Own, Host, E8, E4}
use Rattle.widget_meaning.specs.OwnState.{State, Cell, Kind, Object, Array, Function, Bunch, Pairs, lookup, cell_at, plain_object, with_new_cell}
use Rattle.widget_meaning.specs.Plan.{charge}
use Rattle.widget_meaning.specs.Costs.{throw, or_throw}
use Rattle.widget_meaning.specs.Properties.{index_name}
use Rattle.widget_meaning.specs.JsonValues.{read_value, give_read, texts_in, value_at, cells_at, has_numbers, has_permitted_names}
use Rattle.widget_meaning.specs.JsonLaws.{PartTree, items_tree, members_tree, cell_tree, tree_of, in_order, items_in_order, put_all, HasUnits, IsOrdinary, AreOrdinary}
use Rattle.widget_meaning.specs.JsonBack.{IsTree, AreItems, AreMembers, item_count, StandFrom, HasWholeNames, HasLength, IsOrdinaryCell, ReturnLaws}
use Rattle.widget_meaning.proofs.JsonHolds.{OrdinaryOption, lookup_ordinary, json_laws}
use Rattle.widget_meaning.proofs.JsonBorn.{born_laws}

-- what an option gives came from one that was there
is_there : {A : Type 0} → Option A → Bool
is_there None = false
is_there (Some a) = true

no_some : {A B : Type 0} (a : A) → None ≡ Some a → B
unfolding is_there
no_some a e = absurd (false≢true (ap is_there e))

some_is : {A : Type 0} → A → Option A → A
some_is d None = d
some_is d (Some a) = a

same_some : {A : Type 0} (a b : A) → Some a ≡ Some b → a ≡ b
unfolding some_is
same_some a b e = ap (some_is a) e

came : {A B : Type 0} (f : A → Option B) (o : Option A) (b : B) → option_and_then f o ≡ Some b → (a : A) × (o ≡ Some a) × (f a ≡ Some b)
came f None b e = no_some b e
came f (Some a) b e = (a, refl, e)

mapped : {A B : Type 0} (f : A → B) (o : Option A) (b : B) → option_map f o ≡ Some b → (a : A) × (o ≡ Some a) × (b ≡ f a)
mapped f None b e = no_some b e
mapped f (Some a) b e = (a, refl, sym (same_some (f a) b e))

-- the tree of a value
abbrev Plain : ℕ → PartTree → Type 0
Plain m tree = (v : Value) (d : json.Data) → IsOrdinary v → tree v ≡ Some d → IsTree d × (json.depth d ≤ m)

record Plain-items (m n : ℕ) (ds : json.Items) : Type 0 where
  are : AreItems ds
  count : item_count ds ≡ n
  shallow : json.items_depth ds ≤ m

record Plain-members (m : ℕ) (ms : json.Members) : Type 0 where
  are : AreMembers ms
  shallow : json.members_depth ms ≤ m

abbrev ArePermitted : Pairs → Type 0
ArePermitted [] = ⊤
ArePermitted (p ∷ ps) = (is_permitted p.0 ≡ true) × ArePermitted ps

module _ (m : ℕ) (tree : PartTree) (plain : Plain m tree) where
  plain_option : (o : Option Value) (d : json.Data) → OrdinaryOption o → option_and_then tree o ≡ Some d → IsTree d × (json.depth d ≤ m)
  plain_option None d h e = no_some d e
  plain_option (Some v) d h e = plain v d h e

  plain_items : (ps : Pairs) → AreOrdinary ps → (i n : ℕ) (ds : json.Items) → items_tree tree ps i n ≡ Some ds → Plain-items m n ds
  plain_items ps h i zero ds e = subst (Plain-items m 0) (same_some json.no_items ds e) (record { are = tt; count = refl; shallow = omega arith })
  plain_items ps h i (suc n) ds e =
      let a = came (λ d. option_map (json.item d) (items_tree tree ps (i + 1) n)) (option_and_then tree (lookup ps (index_name i))) ds e in
      let b = mapped (json.item a.0) (items_tree tree ps (i + 1) n) ds a.2 in
      let x = plain_option (lookup ps (index_name i)) a.0 (lookup_ordinary ps (index_name i) h) a.1 in
      let r = plain_items ps h (i + 1) n b.0 b.1 in
      subst (Plain-items m (suc n)) (sym b.2) (record { are = (x.0, r.are); count = omega (arith, r.count); shallow = omega (arith, x.1, r.shallow) })

  plain_members : (ps : Pairs) → AreOrdinary ps → HasWholeNames ps → ArePermitted ps → (ms : json.Members) → members_tree tree ps ≡ Some ms → Plain-members m ms
  plain_members [] h w k ms e = subst (Plain-members m) (same_some json.no_members ms e) (record { are = tt; shallow = omega arith })
  plain_members (p ∷ ps) h w k ms e =
      let a = came (λ d. option_map (json.member (utf8_of p.0) d) (members_tree tree ps)) (tree p.1) ms e in
      let b = mapped (json.member (utf8_of p.0) a.0) (members_tree tree ps) ms a.2 in
      let x = plain p.1 a.0 h.1 a.1 in
      let r = plain_members ps h.2 w.1 k.1 b.0 b.1 in
      subst (Plain-members m) (sym b.2) (record {
        are = (IsUtf8-utf8_of p.0 h.0, ap is_permitted (units_of-utf8_of p.0 h.0 w.0) ∙ k.0, x.0, r.are);
        shallow = omega (arith, x.1, r.shallow);
      })

-- the permitted names of a cell
record Kept (ps : Pairs) : Type 0 where
  ordinary : AreOrdinary ps
  names : HasWholeNames ps
  permitted : ArePermitted ps

kept_one : (b : Bool) (p : List ℕ × Value) (ps : Pairs) → is_permitted p.0 ≡ b → HasUnits p.0 → IsOrdinary p.1 → has_unpaired_surrogate p.0 ≡ false → Kept ps → Kept (cond b (p ∷ ps) ps)
kept_one true p ps e h k w r = record { ordinary = (h, k, r.ordinary); names = (w, r.names); permitted = (e, r.permitted) }
kept_one false p ps e h k w r = r

kept : (ps : Pairs) → AreOrdinary ps → HasWholeNames ps → Kept (filter (λ p. is_permitted p.0) ps)
kept [] h w = record { ordinary = tt; names = tt; permitted = tt }
kept (p ∷ ps) h w = kept_one (is_permitted p.0) p (filter (λ p. is_permitted p.0) ps) refl h.0 h.1 w.0 (kept ps h.2 w.1)

plain_cell : (m : ℕ) (tree : PartTree) → Plain m tree → (kind : Kind) (ps : Pairs) (d : json.Data) → AreOrdinary ps → HasWholeNames ps → HasLength kind → cell_tree tree kind ps ≡ Some d → IsTree d × (json.depth d ≤ suc m)
plain_cell m tree plain Object ps d h w l e =
    let q = kept ps h w in
    let a = mapped json.object (members_tree tree (filter (λ p. is_permitted p.0) ps)) d e in
    let r = plain_members m tree plain (filter (λ p. is_permitted p.0) ps) q.ordinary q.names q.permitted a.0 a.1 in
    subst (λ d. IsTree d × (json.depth d ≤ suc m)) (sym a.2) (r.are, omega (arith, r.shallow))
plain_cell m tree plain (Array len) ps d h w l e =
    let a = mapped json.array (items_tree tree ps 0 len) d e in
    let r = plain_items m tree plain ps h 0 len a.0 a.1 in
    subst (λ d. IsTree d × (json.depth d ≤ suc m)) (sym a.2) ((omega (arith, l, r.count), r.are), omega (arith, r.shallow))
plain_cell m tree plain (Function f scope) ps d h w l e = no_some d e
plain_cell m tree plain (Bunch ns) ps d h w l e = no_some d e

-- every value
leaf : (m : ℕ) (c d : json.Data) → IsTree c → json.depth c ≡ 0 → Some c ≡ Some d → IsTree d × (json.depth d ≤ m)
leaf m c d h flat e = subst (λ d. IsTree d × (json.depth d ≤ m)) (same_some c d e) (h, omega (arith, flat))

module _ (s : State) (cells : (n : ℕ) → IsOrdinaryCell (cell_at s n)) where
  plain : (m : ℕ) → Plain m (tree_of m s)
  plain zero Undefined d h e = no_some d e
  plain zero Null d h e = leaf 0 json.null d tt refl e
  plain zero (Truth b) d h e = leaf 0 (json.boolean b) d tt refl e
  plain zero NaN d h e = no_some d e
  plain zero (Num (pos n)) d h e = leaf 0 (json.number (json.unsigned n)) d h refl e
  plain zero (Num (negsuc n)) d h e = leaf 0 (json.number (json.negative (negsuc n))) d h refl e
  plain zero (Text u) d h e = leaf 0 (json.string (utf8_of u)) d (IsUtf8-utf8_of u h) refl e
  plain zero (Own n) d h e = no_some d e
  plain zero (Host x) d h e = no_some d e
  plain (suc m) Undefined d h e = no_some d e
  plain (suc m) Null d h e = leaf (suc m) json.null d tt refl e
  plain (suc m) (Truth b) d h e = leaf (suc m) (json.boolean b) d tt refl e
  plain (suc m) NaN d h e = no_some d e
  plain (suc m) (Num (pos n)) d h e = leaf (suc m) (json.number (json.unsigned n)) d h refl e
  plain (suc m) (Num (negsuc n)) d h e = leaf (suc m) (json.number (json.negative (negsuc n))) d h refl e
  plain (suc m) (Text u) d h e = leaf (suc m) (json.string (utf8_of u)) d (IsUtf8-utf8_of u h) refl e
  plain (suc m) (Own n) d h e = plain_cell m (tree_of m s) (plain m) (cell_at s n).kind (cell_at s n).pairs d (cells n).ordinary (cells n).names (cells n).len e
  plain (suc m) (Host x) d h e = no_some d e

-- the order of the crate's map keeps all that
put_by : (m : ℕ) (o : Ordering) (k l : List ℕ) (d e : json.Data) (ms : json.Members) → IsUtf8 k → is_permitted (units_of k) ≡ true → IsTree d → json.depth d ≤ m
    → Plain-members m (json.member l e ms) → Plain-members m (json.put k d ms)
    → Plain-members m (match_ordering o (json.member k d (json.member l e ms)) (json.member l d ms) (json.member l e (json.put k d ms)))
put_by m Less k l d e ms u p h deep r g = record { are = (u, p, h, r.are); shallow = omega (arith, deep, r.shallow) }
put_by m Equal k l d e ms u p h deep r g = record { are = (r.are.0, r.are.1, h, r.are.3); shallow = omega (arith, deep, r.shallow) }
put_by m Greater k l d e ms u p h deep r g = record { are = (r.are.0, r.are.1, r.are.2, g.are); shallow = omega (arith, r.shallow, g.shallow) }

put_plain : (m : ℕ) (k : List ℕ) (d : json.Data) (ms : json.Members) → IsUtf8 k → is_permitted (units_of k) ≡ true → IsTree d → json.depth d ≤ m → Plain-members m ms → Plain-members m (json.put k d ms)
put_plain m k d json.no_members u p h deep r = record { are = (u, p, h, tt); shallow = omega (arith, deep) }
put_plain m k d (json.member l e ms) u p h deep r =
    put_by m (slice_cmp nat_cmp k l) k l d e ms u p h deep r (put_plain m k d ms u p h deep (record { are = r.are.3; shallow = omega (arith, r.shallow) }))

mutual
  ordered : (m : ℕ) (d : json.Data) → IsTree d → json.depth d ≤ m → IsTree (in_order d) × (json.depth (in_order d) ≤ m)
  ordered m json.null h deep = (tt, deep)
  ordered m (json.boolean b) h deep = (tt, deep)
  ordered m (json.number x) h deep = (h, deep)
  ordered m (json.string bs) h deep = (h, deep)
  ordered zero (json.array ds) h deep = absurd (omega (arith, deep))
  ordered (suc m) (json.array ds) h deep =
      let r = ordered_items m ds h.1 (omega (arith, deep)) in
      ((omega (arith, h.0, r.count), r.are), omega (arith, r.shallow))
  ordered zero (json.object ms) h deep = absurd (omega (arith, deep))
  ordered (suc m) (json.object ms) h deep =
      let r = ordered_members m ms json.no_members h (omega (arith, deep)) (record { are = tt; shallow = omega arith }) in
      (r.are, omega (arith, r.shallow))

  ordered_items : (m : ℕ) (ds : json.Items) → AreItems ds → json.items_depth ds ≤ m → Plain-items m (item_count ds) (items_in_order ds)
  ordered_items m json.no_items h deep = record { are = tt; count = refl; shallow = omega arith }
  ordered_items m (json.item d ds) h deep =
      let x = ordered m d h.0 (omega (arith, deep)) in
      let r = ordered_items m ds h.1 (omega (arith, deep)) in
      record { are = (x.0, r.are); count = omega (arith, r.count); shallow = omega (arith, x.1, r.shallow) }

  ordered_members : (m : ℕ) (ms found : json.Members) → AreMembers ms → json.members_depth ms ≤ m → Plain-members m found → Plain-members m (put_all ms found)
  ordered_members m json.no_members found h deep r = r
  ordered_members m (json.member k d ms) found h deep r =
      let x = ordered m d h.2 (omega (arith, deep)) in
      ordered_members m ms (json.put k (in_order d) found) h.3 (omega (arith, deep)) (put_plain m k (in_order d) found h.0 h.1 x.0 x.1 r)

-- the new objects stand where they were born
heap_after : (cs : List Cell) (u : State) → (fold with_new_cell u cs).own.heap ≡ u.own.heap ++ cs
heap_after [] u = sym (append-nil u.own.heap)
heap_after (c ∷ cs) u = heap_after cs (with_new_cell u c) ∙ append_assoc u.own.heap (c ∷ []) cs

stand : (u : State) (cs : List Cell) → StandFrom (fold with_new_cell u cs) (length u.own.heap) cs
stand u cs i k = ap (λ h. slice_index_or h (length u.own.heap + i) (plain_object [])) (heap_after cs u) ∙ get_or-append-add u.own.heap cs i (plain_object [])

-- neither E8 nor the stop for a number comes
judged : (extra : ℕ) (d : json.Data) (cs : List Cell) (v : Value) (u : State) → list_all (λ c. has_permitted_names c.kind c.pairs) cs ≡ true → has_numbers d ≡ true
    → read_value extra d cs v u ≡ charge extra u (give_read true v cs (texts_in v cs) u)
judged extra d cs v u names numbers =
    ap (λ b. if b then charge extra u (give_read (has_numbers d) v cs (texts_in v cs) u) else throw E8 u) names
    ∙ ap (λ b. charge extra u (give_read b v cs (texts_in v cs) u)) numbers

pub return_laws : ReturnLaws
return_laws s v t cells h e =
    let back = json_laws s v t (λ n. (cells n).ordinary) h e in
    let d = in_order back.tree in
    let x = plain s cells max_nesting v back.tree h back.is in
    let o = ordered max_nesting back.tree x.0 x.1 in
    let laws = λ (u : State). born_laws max_nesting (fold with_new_cell u (cells_at (length u.own.heap) d)) (length u.own.heap) d o.0 o.1 (stand u (cells_at (length u.own.heap) d)) in
    record {
      tree = back.tree;
      is = back.is;
      reads = λ u.
          ap (λ r. or_throw E4 r u (λ d. read_value (length t) d (cells_at (length u.own.heap) d) (value_at (length u.own.heap) d) u)) back.read
          ∙ judged (length t) d (cells_at (length u.own.heap) d) (value_at (length u.own.heap) d) u (laws u).names (laws u).numbers;
      again = λ u. (laws u).tree;
    }
