-- The nodes of Bunches, by own numbers.
use Rattle.std.proofs.Common.{◌≡◌, ℕ, zero, suc, ◌+◌, ◌<◌, ◌≤◌, List, [], ◌∷◌, Bool, true, false, refl, sym, ap, ◌∙◌, subst, map, length, eqb, eqb-true, eq-eqb, ne_eqb, cond, Option, None, Some, unwrap_or, arith, slice_get, slice_index_or, ◌||◌, ⊎_elim, if◌then◌else◌, position}
use Rattle.std.specs.Prelude.{nat_eq, ◌&&◌, Result, Ok, Err, IfOk, IfSome}
use Rattle.std.specs.declared.vec.Vec.{Vec}
use Rattle.std.specs.declared.alloc.Global.{Global}
use Rattle.std.specs.List.{AllByRecursion, IsDistinct}
use Rattle.std.specs.Option.{option_and_then, option_map}
use Rattle.std.proofs.lemmas.Bool.{or_cases}
use Rattle.std.proofs.lemmas.Map.Keys.{IsDistinct-cons, IsDistinct-head, IsDistinct-tail}
use Rattle.std.proofs.lemmas.Map.Steps.{length-le_from_distinct_below}
use Rattle.std.proofs.lemmas.List.{length-map}
use Rattle.code_units.specs.declared.owner.Owner.TheVariants as owner
use Rattle.js_tree.specs.Forest.{Forest}
use Rattle.store_cells.specs.declared.value.Value.{Value as StoreValue}
use Rattle.store_cells.specs.declared.value.Value.TheVariants as value
use Rattle.store_cells.specs.declared.value.Number.TheVariants as numeral
use Rattle.store_cells.specs.Born.{HaveCells}
use Rattle.store_cells.specs.Costs.{Refuses}
use Rattle.store_cells.specs.Host.{host_count}
use Rattle.store_cells.specs.declared.counts.Counts.{Counts}
use Rattle.store_cells.specs.declared.counts.StoreFault.{StoreFault}
use Rattle.store_cells.specs.declared.counts.TheConstants.{UNIT_LIMIT}
use Rattle.store_cells.specs.Cells.{Cells, PlainCell, own_count}
use Rattle.store_cells.proofs.Places.{position_step}
use Rattle.object_store.specs.declared.store.NewCell.TheVariants as fresh
use Rattle.object_store.specs.Calls.{IsMade, make_refusal}
use Rattle.object_store.specs.Grows.{Grows}
use Rattle.object_store.specs.Owned as store
use Rattle.object_store.specs.Owned.{Made, OwnCell, OwnKind, Owned, made_cells, owned, visible_at}
use Rattle.query_grammar.specs.Finds.{has_number}
use Rattle.query_grammar.proofs.Numbers.{has_first}
use Rattle.widget_meaning.specs.Values.{Value}
use Rattle.widget_meaning.specs.OwnState.{State, bunch_nodes, kind_of, new_bunch, plain_object}
use Rattle.widget_meaning.specs.Plan.{Plan, Halt}
use Rattle.widget_meaning.specs.Costs.{make}
use Rattle.widget_meaning.specs.NativeForms.{make_bunch}
use Rattle.page_nodes.specs.Entries.{Entry}
use Rattle.page_nodes.specs.Owners.{same_owner}
use Rattle.page_tree.specs.declared.page.Page.{Page}
use Rattle.page_tree.specs.Pages.{nodes}
use Rattle.js_image.specs.declared.outcome.StopCause.{StopCause}
use Rattle.js_image.specs.Held.{HoldNodes, IsFine, PassNodes, is_held}
use Rattle.js_image.specs.Plans.{IsNew, IsStopOf, meant_cause}
use Rattle.js_image.proofs.Grown.{kept_same}
use Rattle.js_image.proofs.Makes.{made_apart, new_confined, new_made, new_refused}
use Rattle.js_image.proofs.Nodes.{hold_more, rise_to}
use Rattle.js_image.specs.Image as joint
use Rattle.js_image.specs.Image.{Rest, meant, meant_cell, no_rest, node_number, seen}
use Rattle.page_image.specs.Image as page
use Rattle.page_image.specs.Image.{number, own, owns}
use Rattle.page_image.specs.Own.{is_own, own_nodes_from, own_number}
use Rattle.page_image.proofs.Looks.{made_is, number_low, told_apart}
use Rattle.page_image.proofs.Pages.{is_widget}
use Rattle.event_loop.specs.declared.around.Loop.{Loop}
use Rattle.native_common.specs.Receivers.{IsReceiver, is_plain_call, receiver}
use Rattle.native_image.specs.Image.{Outside, beside, image}
use Rattle.native_image.specs.Sound.{AreNodes, HasRaw, HoldsOwn, IsSound, KeepsStore}
use Rattle.native_image.proofs.Joint.{keeps_of, rest, sound_grows, store_lift}

no_true : false ≡ true → ⊥
no_true e = cc

second : (a b : Bool) → b ≡ true → (a || b) ≡ true
second true b e = refl
second false b e = e

-- ## Numbers in lists

pub has_all : (p : ℕ → Bool) (ns : List ℕ) → AllByRecursion (λ n. p n ≡ true) ns → (n : ℕ) → has_number ns n ≡ true → p n ≡ true
has_all p [] h n e = absurd (no_true e)
has_all p (m ∷ ns) h n e = ⊎_elim (λ q. ap p (eqb-true n m q) ∙ h.0) (λ q. has_all p ns h.1 n q) (or_cases (eqb n m) (has_number ns n) e)

pub all_of_has : (p : ℕ → Bool) (ns : List ℕ) → ((n : ℕ) → has_number ns n ≡ true → p n ≡ true) → AllByRecursion (λ n. p n ≡ true) ns
all_of_has p [] h = tt
all_of_has p (m ∷ ns) h = (h m (has_first m ns), all_of_has p ns (λ n e. h n (second (eqb n m) (has_number ns n) e)))

-- each of these nodes has its cell
pub have_cells : (p : ℕ → Bool) (cells : List PlainCell) (ns : List ℕ) → ((n : ℕ) → has_number ns n ≡ true → p n ≡ true) → ((n : ℕ) → p n ≡ true → HasRaw cells n) → HaveCells cells ns
have_cells p cells [] h raws = refl
have_cells p cells (m ∷ ns) h raws = λ j. both (raws m (h m (has_first m ns)) j) (have_cells p cells ns (λ n e. h n (second (eqb n m) (has_number ns n) e)) raws j)
  where
    both : Bool → Bool → Bool
    both a b = a && b

-- ## Own numbers

-- a node of a widget stands at its own number
found : (k : List Entry) (w a n : ℕ) → is_own k w n ≡ true → position (nat_eq (a + n)) (own_nodes_from a k w) ≡ Some (own_number k w n)
found [] w a n h = absurd (no_true h)
found (e ∷ k) w a zero own =
    let here : eqb (a + 0) a ≡ true = eq-eqb (a + 0) a (omega arith) in
    ap (λ b. position (nat_eq (a + 0)) (cond b (a ∷ own_nodes_from (a + 1) k w) (own_nodes_from (a + 1) k w))) own
    ∙ position_step (nat_eq (a + 0)) a (own_nodes_from (a + 1) k w)
    ∙ ap (λ b. if b then Some 0 else option_map suc (position (nat_eq (a + 0)) (own_nodes_from (a + 1) k w))) here
found (e ∷ k) w a (suc n) own = by_test (same_owner e.owner (owner.Widget w)) (found k w (a + 1) n own)
  where
    same : a + 1 + n ≡ a + suc n
    same = omega arith

    by_test : (b : Bool) → position (nat_eq (a + 1 + n)) (own_nodes_from (a + 1) k w) ≡ Some (own_number k w n) → position (nat_eq (a + suc n)) (cond b (a ∷ own_nodes_from (a + 1) k w) (own_nodes_from (a + 1) k w)) ≡ Some (cond b 1 0 + own_number k w n)
    by_test true g =
        let apart : eqb (a + suc n) a ≡ false = ne_eqb (a + suc n) a (λ q. omega (arith, q)) in
        let next : suc (own_number k w n) ≡ 1 + own_number k w n = omega arith in
        position_step (nat_eq (a + suc n)) a (own_nodes_from (a + 1) k w)
        ∙ ap (λ b. if b then Some 0 else option_map suc (position (nat_eq (a + suc n)) (own_nodes_from (a + 1) k w))) apart
        ∙ ap (λ m. option_map suc (position (nat_eq m) (own_nodes_from (a + 1) k w))) (sym same)
        ∙ ap (option_map suc) g
        ∙ ap Some next
    by_test false g =
        let next : own_number k w n ≡ 0 + own_number k w n = omega arith in
        ap (λ m. position (nat_eq m) (own_nodes_from (a + 1) k w)) (sym same) ∙ g ∙ ap Some next

pub node_is : (p : Page) (w n : ℕ) → owns p w n ≡ true → node_number (own p w) n ≡ number p w n
unfolding owns own number
node_is p w n h =
    let e : n ≡ 0 + n = omega arith in
    ap (λ m. unwrap_or (position (nat_eq m) (own_nodes_from 0 (nodes p) w)) 0) e
    ∙ ap (λ o. unwrap_or o 0) (found (nodes p) w 0 n h)

pub numbers_are : (p : Page) (w : ℕ) (ns : List ℕ) → ((n : ℕ) → has_number ns n ≡ true → owns p w n ≡ true) → map (node_number (own p w)) ns ≡ map (number p w) ns
numbers_are p w [] h = refl
numbers_are p w (n ∷ ns) h = λ j. node_is p w n (h n (has_first n ns)) j ∷ numbers_are p w ns (λ m e. h m (second (eqb m n) (has_number ns m) e)) j

module _ (p : Page) (w : ℕ) where
  others_apart : (m : ℕ) → owns p w m ≡ true → (xs : List ℕ) → ((n : ℕ) → has_number xs n ≡ true → owns p w n ≡ true) → AllByRecursion (λ y. eqb m y ≡ false) xs → AllByRecursion (λ y. eqb (number p w m) y ≡ false) (map (number p w) xs)
  others_apart m hm [] h d = tt
  others_apart m hm (x ∷ xs) h d = (told_apart p w x m (h x (has_first x xs)) hm ∙ d.0, others_apart m hm xs (λ n e. h n (second (eqb n x) (has_number xs n) e)) d.1)

  -- the numbers of own nodes that differ do
  pub own_distinct : (xs : List ℕ) → ((n : ℕ) → has_number xs n ≡ true → owns p w n ≡ true) → IsDistinct nat_eq xs → IsDistinct eqb (map (number p w) xs)
  own_distinct [] h d = IsDistinct-tail eqb 0 [] (IsDistinct-cons eqb 0 [] tt d)
  own_distinct (x ∷ xs) h d =
      let later = λ (n : ℕ) (e : has_number xs n ≡ true). h n (second (eqb n x) (has_number xs n) e) in
      IsDistinct-cons eqb (number p w x) (map (number p w) xs)
      (others_apart x (h x (has_first x xs)) xs later (IsDistinct-head nat_eq x xs d))
      (own_distinct xs later (IsDistinct-tail nat_eq x xs d))

  own_below : (xs : List ℕ) → ((n : ℕ) → has_number xs n ≡ true → owns p w n ≡ true) → (q : ℕ) → has_number (map (number p w) xs) q ≡ true → q < length (own p w)
  own_below [] h q e = absurd (no_true e)
  own_below (x ∷ xs) h q e =
      ⊎_elim
      (λ g. let low = number_low p w x (h x (has_first x xs)) in omega (arith, low, eqb-true q (number p w x) g))
      (λ g. own_below xs (λ n f. h n (second (eqb n x) (has_number xs n) f)) q g)
      (or_cases (eqb q (number p w x)) (has_number (map (number p w) xs) q) e)

-- own nodes that differ are no more than the widget has
pub few_own : (p : Page) (w : ℕ) → w < 32 → (ns : List ℕ) → ((n : ℕ) → has_number ns n ≡ true → owns p w n ≡ true) → IsDistinct nat_eq ns → length ns ≤ 16384
few_own p w lt ns mine apart =
    omega (
      arith,
      length-map ns (number p w),
      length-le_from_distinct_below (map (number p w) ns) (length (own p w)) (own_distinct p w ns mine apart) (own_below p w ns mine),
      p.counted.most (owner.Widget w) (is_widget w lt),
      made_is p w,
    )

-- ## A list is told by the places of its numbers in all lists

-- the place of a number in a list of two
in_two : (x y : ℕ) → node_number (suc x ∷ x ∷ []) y ≡ unwrap_or (if eqb y (suc x) then Some 0 else option_map suc (if eqb y x then Some 0 else None)) 0
in_two x y =
    ap (λ o. unwrap_or o 0)
    (position_step (nat_eq y) (suc x) (x ∷ [])
    ∙ ap (λ (o : Option ℕ). if eqb y (suc x) then Some 0 else option_map suc o) (position_step (nat_eq y) x []))

there : (x : ℕ) → node_number (suc x ∷ x ∷ []) x ≡ 1
there x =
    let past : eqb x (suc x) ≡ false = ne_eqb x (suc x) (λ e. omega (arith, e)) in
    let self : eqb x x ≡ true = eq-eqb x x refl in
    in_two x x ∙ (λ j. unwrap_or (if past j then Some 0 else option_map suc (if self j then Some 0 else None)) 0)

only : (x y : ℕ) → node_number (suc x ∷ x ∷ []) y ≡ 1 → x ≡ y
only x y h = by (eqb y (suc x)) (eqb y x) refl (sym (in_two x y) ∙ h)
  where
    by : (a b : Bool) → eqb y x ≡ b → unwrap_or (if a then Some 0 else option_map suc (if b then Some 0 else None)) 0 ≡ 1 → x ≡ y
    by true b e g = absurd (omega (arith, g))
    by false true e g = sym (eqb-true y x e)
    by false false e g = absurd (omega (arith, g))

head_of : {A : Type 0} (a b : A) (xs ys : List A) → a ∷ xs ≡ b ∷ ys → a ≡ b
head_of a b xs ys e = cc

tail_of : {A : Type 0} (a b : A) (xs ys : List A) → a ∷ xs ≡ b ∷ ys → xs ≡ ys
tail_of a b xs ys e = cc

none_more : {A : Type 0} (a : A) (xs : List A) → [] ≡ a ∷ xs → ⊥
none_more a xs e = cc

told : (xs ys : List ℕ) → ((ns : List ℕ) → map (node_number ns) xs ≡ map (node_number ns) ys) → xs ≡ ys
told [] [] h = refl
told [] (y ∷ ys) h = absurd (none_more (node_number [] y) (map (node_number []) ys) (h []))
told (x ∷ xs) [] h = absurd (none_more (node_number [] x) (map (node_number []) xs) (sym (h [])))
told (x ∷ xs) (y ∷ ys) h =
    let two : List ℕ = suc x ∷ x ∷ [] in
    let e : node_number two x ≡ node_number two y = head_of (node_number two x) (node_number two y) (map (node_number two) xs) (map (node_number two) ys) (h two) in
    let a : x ≡ y = only x y (sym e ∙ there x) in
    let b : xs ≡ ys = told xs ys (λ ns. tail_of (node_number ns x) (node_number ns y) (map (node_number ns) xs) (map (node_number ns) ys) (h ns)) in
    λ j. a j ∷ b j

some_of : {A : Type 0} (a b : A) → Some a ≡ Some b → a ≡ b
some_of a b e = cc

none_some : {A : Type 0} (a : A) → None ≡ Some a → ⊥
none_some a e = cc

-- the same of lists that may be there
told_option : (a b : Option (List ℕ)) → ((ns : List ℕ) → option_map (map (node_number ns)) a ≡ option_map (map (node_number ns)) b) → a ≡ b
told_option None None h = refl
told_option None (Some ys) h = absurd (none_some (map (node_number []) ys) (h []))
told_option (Some xs) None h = absurd (none_some (map (node_number []) xs) (sym (h [])))
told_option (Some xs) (Some ys) h = ap Some (told xs ys (λ ns. some_of (map (node_number ns) xs) (map (node_number ns) ys) (h ns)))

-- ## Bunches in the heap

-- the nodes of an own cell, if it is a Bunch
abbrev pub cell_nodes : OwnKind → Option (List ℕ)
cell_nodes (store.Bunch ns) = Some ns
cell_nodes k = None

-- the nodes of the Bunch under a number
abbrev pub nodes_under : List OwnCell → ℕ → Option (List ℕ)
nodes_under heap k = option_and_then (λ c. cell_nodes c.kind) (slice_get heap k)

module _ (fs : List Forest) (ns : List ℕ) where
  cell_is : (k : OwnKind) → bunch_nodes (Some (joint.meant_kind fs ns k)) ≡ option_map (map (node_number ns)) (cell_nodes k)
  cell_is store.Object = refl
  cell_is (store.Array n) = refl
  cell_is (store.Function code fun declared scope) = refl
  cell_is (store.Bunch ms) = refl

  under_is : (heap : List OwnCell) (k : ℕ) → bunch_nodes (Some (slice_index_or (map (meant_cell fs ns) heap) k (plain_object [])).kind) ≡ option_map (map (node_number ns)) (nodes_under heap k)
  under_is [] k = refl
  under_is (c ∷ heap) zero = cell_is c.kind
  under_is (c ∷ heap) (suc k) = under_is heap k

under_pass : (p : ℕ → Bool) (heap : List OwnCell) → AllByRecursion (λ c. PassNodes p c.kind) heap → (k : ℕ) (ns : List ℕ) → nodes_under heap k ≡ Some ns → AllByRecursion (λ n. p n ≡ true) ns
under_pass p [] h k ns e = absurd (none_some ns e)
under_pass p (c ∷ heap) h zero ns e = by c.kind h.0 e
  where
    by : (k : OwnKind) → PassNodes p k → cell_nodes k ≡ Some ns → AllByRecursion (λ n. p n ≡ true) ns
    by store.Object f g = absurd (none_some ns g)
    by (store.Array n) f g = absurd (none_some ns g)
    by (store.Function code fun declared scope) f g = absurd (none_some ns g)
    by (store.Bunch ms) f g = subst (AllByRecursion (λ n. p n ≡ true)) (some_of ms ns g) f
under_pass p (c ∷ heap) h (suc k) ns e = under_pass p heap h.1 k ns e

module _ (w : ℕ) (s : Cells) where
  -- the nodes of the Bunch of the widget to which a value refers
  abbrev pub value_nodes : StoreValue → Option (List ℕ)
  value_nodes (value.Ref i) = if visible_at w s.cells i then nodes_under (owned w s).heap (own_count w s.cells i) else None
  value_nodes v = None

  value_is : (fs : List Forest) (r : Rest) (v : StoreValue) → bunch_nodes (kind_of (joint.image fs r w s) (seen w s.cells v)) ≡ option_map (map (node_number r.nodes)) (value_nodes v)
  value_is fs r value.Undefined = refl
  value_is fs r value.Null = refl
  value_is fs r (value.Bool b) = refl
  value_is fs r (value.Num numeral.NaN) = refl
  value_is fs r (value.Num (numeral.Whole z)) = refl
  value_is fs r (value.Text t) = refl
  value_is fs r (value.Ref i) = by (visible_at w s.cells i)
    where
      by : (b : Bool) → bunch_nodes (kind_of (joint.image fs r w s) (meant (if b then store.Own (own_count w s.cells i) else store.Other i))) ≡ option_map (map (node_number r.nodes)) (if b then nodes_under (owned w s).heap (own_count w s.cells i) else None)
      by true = under_is fs r.nodes (owned w s).heap (own_count w s.cells i)
      by false = refl

  -- what is read of a Bunch are its nodes
  pub read_is : (v : StoreValue) (o : Option (List ℕ)) → ((r : Rest) → bunch_nodes (kind_of (joint.image [] r w s) (seen w s.cells v)) ≡ option_map (map (node_number r.nodes)) o) → value_nodes v ≡ o
  read_is v o h = told_option (value_nodes v) o (λ ns. let r : Rest = record no_rest { nodes = ns } in sym (value_is [] r v) ∙ h r)

  -- and they pass
  pub read_pass : (p : ℕ → Bool) → HoldNodes p w s → (v : StoreValue) (ns : List ℕ) → value_nodes v ≡ Some ns → (n : ℕ) → has_number ns n ≡ true → p n ≡ true
  read_pass p h value.Undefined ns e = absurd (none_some ns e)
  read_pass p h value.Null ns e = absurd (none_some ns e)
  read_pass p h (value.Bool b) ns e = absurd (none_some ns e)
  read_pass p h (value.Num n) ns e = absurd (none_some ns e)
  read_pass p h (value.Text t) ns e = absurd (none_some ns e)
  read_pass p h (value.Ref i) ns e = has_all p ns (by (visible_at w s.cells i) e)
    where
      by : (b : Bool) → (if b then nodes_under (owned w s).heap (own_count w s.cells i) else None) ≡ Some ns → AllByRecursion (λ n. p n ≡ true) ns
      by true g = under_pass p (owned w s).heap h (own_count w s.cells i) ns g
      by false g = absurd (none_some ns g)

-- ## What is read of a value, and what is made

module _ (w : ℕ) (lt : w < 32) (s : Cells) (p : Page) (held : HoldNodes (owns p w) w s) (v : StoreValue) (fine : IsFine w s.cells v) where
  abbrev IsRead : Option (Vec ℕ Global) → Type 0
  IsRead o = (fs : List Forest) (r : Rest) (u : ℕ) → IsFine u s.cells v → bunch_nodes (kind_of (joint.image fs r u s) (seen u s.cells v)) ≡ option_map (λ ns. map (node_number r.nodes) ns.items) o

  own_read : (ns : Vec ℕ Global) → IsRead (Some ns) → (n : ℕ) → has_number ns.items n ≡ true → owns p w n ≡ true
  own_read ns h = read_pass w s (owns p w) held v ns.items (read_is w s v (Some ns.items) (λ r. h [] r w fine))

  read_at : (o : Option (Vec ℕ Global)) → IsRead o → (fs : List Forest) (x : Outside) (l : Loop) (b : Option Bool) → bunch_nodes (kind_of (image fs x w (beside s p l b)) (seen w s.cells v)) ≡ option_map (λ ns. map (number p w) ns.items) o
  read_at None h fs x l b = h fs (rest w lt x (beside s p l b)) w fine
  read_at (Some ns) h fs x l b = h fs (rest w lt x (beside s p l b)) w fine ∙ ap Some (numbers_are p w ns.items (own_read ns h))

  nodes_at : (o : Option (Vec ℕ Global)) → IsRead o → IfSome o (λ ns. IsDistinct nat_eq ns.items) → IfSome o (λ ns. AreNodes p w ns.items)
  nodes_at None h d = tt
  nodes_at (Some ns) h d = record { own = own_read ns h; apart = d; few = few_own p w lt ns.items (own_read ns h) d }

  pub all_read : {E : Type 0} (r : Result (Option (Vec ℕ Global)) E) → IfOk r (λ o. IsRead o) → IfOk r (λ o. (fs : List Forest) (x : Outside) (l : Loop) (b : Option Bool) → bunch_nodes (kind_of (image fs x w (beside s p l b)) (seen w s.cells v)) ≡ option_map (λ ns. map (number p w) ns.items) o)
  all_read (Ok o) h = read_at o h
  all_read (Err e) h = h

  pub all_nodes : {E : Type 0} (r : Result (Option (Vec ℕ Global)) E) → IfOk r (λ o. IsRead o) → IfOk r (λ o. IfSome o (λ ns. IsDistinct nat_eq ns.items)) → IfOk r (λ o. IfSome o (λ ns. AreNodes p w ns.items))
  all_nodes (Ok o) h d = nodes_at o h d
  all_nodes (Err e) h d = h

-- what a new Bunch needs
pub is_new : (w : ℕ) (s : Cells) (p : Page) (l : Loop) → IsSound w s p l → (ns : Vec ℕ Global) → ((n : ℕ) → has_number ns.items n ≡ true → owns p w n ≡ true) → IsDistinct nat_eq ns.items → IsNew w s.cells (fresh.Bunch ns)
is_new w s p l sound ns own apart = (apart, have_cells (owns p w) s.cells ns.items own (λ n o. sound.raws w n o))

module _ (w : ℕ) (lt : w < 32) (old new : Cells) (p : Page) (ns : Vec ℕ Global) (own : (n : ℕ) → has_number ns.items n ≡ true → owns p w n ≡ true) (h : IsNew w old.cells (fresh.Bunch ns)) where
  -- the plan by own numbers is the store's
  by_numbers : (fs : List Forest) (x : Outside) (l : Loop) (b : Option Bool) (go : Value → State → Plan) → make_bunch (map (number p w) ns.items) (image fs x w (beside old p l b)) go ≡ make (new_bunch (map (node_number (page.own p w)) ns.items)) (length ns.items + 1) (image fs x w (beside old p l b)) go
  by_numbers fs x l b go =
      ap (λ m. make (new_bunch (map (number p w) ns.items)) (m + 1) (image fs x w (beside old p l b)) go) (length-map ns.items (number p w))
      ∙ ap (λ ms. make (new_bunch ms) (length ns.items + 1) (image fs x w (beside old p l b)) go) (sym (numbers_are p w ns.items own))

  module _ (k : Counts) (at : slice_get old.kept w ≡ Some k) (units : k.units ≤ UNIT_LIMIT) (grows : Grows w old.cells new.cells) where
    pub bunch_made : (id : ℕ) → IsMade old new w id (fresh.Bunch ns) → Made w old new id (fresh.Bunch ns) → (fs : List Forest) (x : Outside) (l : Loop) (b : Option Bool) (go : Value → State → Plan) → HoldsOwn w old p l → make_bunch (map (number p w) ns.items) (image fs x w (beside old p l b)) go ≡ go (seen w new.cells (value.Ref id)) (image fs x w (beside new p l b))
    bunch_made id made own_made fs x l b go holds =
        by_numbers fs x l b go
        ∙ new_made w old new (fresh.Bunch ns) h fs (rest w lt x (beside old p l b)) k at units id made own_made go
        ∙ ap (go (seen w new.cells (value.Ref id))) (store_lift w old new p l holds grows lt fs x b)

    pub bunch_refused : (e : StoreFault) (c : StopCause) → IsStopOf e c → Refuses e (make_refusal old w (fresh.Bunch ns)) → new ≡ old → (fs : List Forest) (x : Outside) (l : Loop) (b : Option Bool) (go : Value → State → Plan) → HoldsOwn w old p l → make_bunch (map (number p w) ns.items) (image fs x w (beside old p l b)) go ≡ Halt (meant_cause c) (image fs x w (beside new p l b))
    bunch_refused e c is refused same fs x l b go holds =
        by_numbers fs x l b go
        ∙ new_refused w old new (fresh.Bunch ns) h fs (rest w lt x (beside old p l b)) k at units e c is refused same go
        ∙ ap (Halt (meant_cause c)) (store_lift w old new p l holds grows lt fs x b)

  pub bunch_sound : (id : ℕ) → Made w old new id (fresh.Bunch ns) → Grows w old.cells new.cells → (l : Loop) → IsSound w old p l → IsSound w new p l
  bunch_sound id made grows l sound = sound_grows w old new p l sound grows (hold_more (owns p w) w old new (made_cells w old.cells (fresh.Bunch ns)) (ap (λ (o : Owned). o.heap) made.seen) (all_of_has (owns p w) ns.items own, tt) sound.holds.bunches)

  pub bunch_kept : (id : ℕ) → host_count ≤ length old.cells → IsMade old new w id (fresh.Bunch ns) → Made w old new id (fresh.Bunch ns) → ((v : ℕ) → Grows v old.cells new.cells) → ((v : ℕ) → (w ≡ v → ⊥) → owned v new ≡ owned v old) → KeepsStore w old new
  bunch_kept id enough made own_made grows others = record {
    confined = λ fs. new_confined w old new (fresh.Bunch ns) h id enough made (grows w) fs tt refl;
    grows = grows w;
    others = others;
    others_grow = λ v apart. grows v;
    others_confined = λ fs v apart. made_apart v w old new id (fresh.Bunch ns) apart made (grows v) fs;
    counts = rise_to 1 (length ns.items + 1) 0 (owned w old).paid (owned w new).paid (ap (λ (o : Owned). o.paid) own_made.seen);
  }

-- nothing changed
pub same_sound : (w : ℕ) (old new : Cells) (p : Page) → new ≡ old → (l : Loop) → IsSound w old p l → IsSound w new p l
same_sound w old new p e l h = subst (λ (c : Cells). IsSound w c p l) (sym e) h

pub same_kept : (w : ℕ) (old new : Cells) → new ≡ old → KeepsStore w old new
same_kept w old new e = keeps_of w old new (λ fs. kept_same fs w old new e)

-- a list of one node
one_distinct : (n : ℕ) → IsDistinct nat_eq (n ∷ [])
unfolding IsDistinct
one_distinct n = (tt, tt)

pub one_apart : (n : ℕ) (ns : List ℕ) → ns ≡ n ∷ [] → IsDistinct nat_eq ns
one_apart n ns e = subst (IsDistinct nat_eq) (sym e) (one_distinct n)

pub one_owned : (p : Page) (w n : ℕ) (ns : List ℕ) → ns ≡ n ∷ [] → owns p w n ≡ true → (m : ℕ) → has_number ns m ≡ true → owns p w m ≡ true
one_owned p w n ns e h = subst (λ ms. (m : ℕ) → has_number ms m ≡ true → owns p w m ≡ true) (sym e) (has_all (owns p w) (n ∷ []) (h, tt))

-- ## Receivers

module _ (w : ℕ) (cells : List PlainCell) where
  pub receiver_none : (v : StoreValue) → is_plain_call v ≡ true → receiver w cells v ≡ None
  receiver_none (value.Ref i) e = ap (λ b. if b then None else Some (seen w cells (value.Ref i))) e
  receiver_none value.Undefined e = absurd (no_true e)
  receiver_none value.Null e = absurd (no_true e)
  receiver_none (value.Bool b) e = absurd (no_true e)
  receiver_none (value.Num n) e = absurd (no_true e)
  receiver_none (value.Text t) e = absurd (no_true e)

  pub receiver_some : (v : StoreValue) → is_plain_call v ≡ false → receiver w cells v ≡ Some (seen w cells v)
  receiver_some (value.Ref i) e = ap (λ b. if b then None else Some (seen w cells (value.Ref i))) e
  receiver_some value.Undefined e = refl
  receiver_some value.Null e = refl
  receiver_some (value.Bool b) e = refl
  receiver_some (value.Num n) e = refl
  receiver_some (value.Text t) e = refl

  pub receiver_fine : (v : StoreValue) → is_plain_call v ≡ false → IsReceiver w cells v → IsFine w cells v
  receiver_fine (value.Ref i) e h = (h.0, ap (λ b. b || is_held w cells i) (sym e) ∙ h.1)
  receiver_fine value.Undefined e h = tt
  receiver_fine value.Null e h = tt
  receiver_fine (value.Bool b) e h = tt
  receiver_fine (value.Num n) e h = tt
  receiver_fine (value.Text t) e h = tt
