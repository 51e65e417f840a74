-- A Bunch is added with its hidden Array.
use Rattle.std.proofs.Common.{◌≡◌, ℕ, zero, suc, ◌+◌, ◌<◌, ◌≤◌, List, [], ◌∷◌, ◌++◌, length, map, refl, sym, ap, ◌∙◌, subst, Option, Some, None, arith, Bool, true, false, eqb, if◌then◌else◌, slice_get, is_some, length-append}
use Rattle.std.specs.Prelude.{◌&&◌, unwrap_or}
use Rattle.std.specs.List.{IsDistinct, list_all, count_by}
use Rattle.std.specs.Map.{lookup}
use Rattle.std.specs.Option.{option_and_then, option_map_or}
use Rattle.std.proofs.lemmas.Option.{get_or_from_slice_get}
use Rattle.std.proofs.lemmas.List.{length-map, map-append}
use Rattle.std.proofs.lemmas.Bool.Decides.{nat_tests}
use Rattle.keyed_names.specs.Interned.{IsTable}
use Rattle.store_cells.specs.declared.value.Value.TheVariants as value
use Rattle.store_cells.specs.declared.kind.Form.TheVariants as form
use Rattle.store_cells.specs.declared.cell.Head.{Head}
use Rattle.store_cells.specs.declared.counts.Counts.{Counts}
use Rattle.store_cells.specs.Lists.{changed}
use Rattle.store_cells.specs.Cells.{Cells, PlainCell, is_bunch, is_raw, kept_cells, node_in, prototypes}
use Rattle.store_cells.specs.Arrays.{nodes_name}
use Rattle.store_cells.specs.Bunches.{AreCellsOf, IsBunch, bunch_cell, hidden_array, node_at}
use Rattle.store_cells.specs.Host.{AreHost, array_prototype, bunch_prototype, host_count}
use Rattle.store_cells.specs.Numbered.{NumberedCell, Grown, plain, name_at, cells_of, heads, own_head}
use Rattle.store_cells.specs.Shape.{AreClosed, AreWellFormed, AreOrdered, AreRaws, AreWithin, AreWords, GrewBunch, IsBase, IsArrayOf, IsWellFormed, IsOrdered, IsShape, head_on, bunch_at, hidden_head, links_at, scope_at}
use Rattle.store_cells.specs.Born.{HaveCells, bunch_cells, made, node_place, raw_place}
use Rattle.store_cells.specs.Costs.{paid}
use Rattle.store_cells.proofs.Lists.{by_push, get_within, count_by-push, length-changed}
use Rattle.store_cells.proofs.Places.{position_at}
use Rattle.store_cells.proofs.Look.{known_cells}
use Rattle.store_cells.proofs.Writes.{all_fine_stay, cells_stay}
use Rattle.store_cells.proofs.Heads.{bunch_same, head_at, links_are, scope_same, some_at}
use Rattle.store_cells.proofs.Hosts.{host_push}
use Rattle.store_table.proofs.Protos.{host_chain, host_object, host_open}
use Rattle.store_cells.proofs.Adds.{bunch_older as bunch_at_older, cells_paid_own, fine_push, heads_push, links_older, ordered_push, raw_place_is, raws_push, scope_older}
use Rattle.store_cells.proofs.Filled.{words_grown}
use Rattle.store_cells.proofs.Elements.{AllUnder, array_plain as plain_array, array_fine as fine_array, under_elements}
use Rattle.store_cells.proofs.Makes.{new_ordered, own_visible}
use Rattle.store_cells.proofs.Closed.{bunch_older, cells_of_older}

false_true : false ≡ true → ⊥
false_true g = cc

push_twice : {X : Type 0} (xs : List X) (x y : X) → xs ++ x ∷ y ∷ [] ≡ (xs ++ x ∷ []) ++ y ∷ []
push_twice [] x y = refl
push_twice (z ∷ xs) x y = ap (λ l. z ∷ l) (push_twice xs x y)

-- the cells of nodes
pub places_under : (hs : List Head) (raws : List (ℕ × ℕ)) (size : ℕ) (nodes : List ℕ) → AreRaws hs raws → 0 < size → length hs ≤ size → AllUnder size (map (λ n. unwrap_or (lookup (eqb n) raws) 0) nodes)
places_under hs raws size [] h some le = tt
places_under hs raws size (n ∷ nodes) h some le = (by (lookup (eqb n) raws) refl, places_under hs raws size nodes h some le)
  where
    by : (o : Option ℕ) → lookup (eqb n) raws ≡ o → unwrap_or o 0 < size
    by None e = some
    by (Some i) e = let r = position_at (λ (x : Head). is_raw n x.form) hs i (sym (h.found n) ∙ e) in omega (arith, le, get_within hs i r.0 r.1)

-- the chains of the host's cells are short
pub links_short : (names : List (List ℕ)) (cs : List NumberedCell) → AreOrdered (heads cs) → AreHost (cells_of names cs) → (i : ℕ) → i < host_count → links_at (heads cs) i ≤ 2
links_short names cs ordered host i lt =
    let k = some_at cs i (omega (arith, lt, host.enough, length-map cs (plain names))) in
    let is : links_at (heads cs) i ≡ prototypes (cells_of names cs) i = ap (λ (p : Option Head). option_map_or (λ h. h.links) p 0) (head_at cs i k.0 k.1) ∙ links_are names cs ordered i k.0 k.1 in
    omega (arith, is, host_chain names cs ordered host i lt)

-- a table that grew
module _ (old new : List (List ℕ)) (grown : Grown old new) (table : IsTable new) (cs : List NumberedCell) (base : IsBase old cs) where
  words : AreWords new
  words = words_grown old new grown base.words

  same_cells : cells_of new cs ≡ cells_of old cs
  same_cells = cells_stay old new grown.longer grown.kept cs (known_cells old (length cs) cs base.fine)

  -- a Bunch and its hidden Array
  module _ (host : AreHost (cells_of old cs)) (w number : ℕ) (refs : List ℕ) (bunch array : NumberedCell) (is_bunch : bunch ≡ record { head = head_on (heads cs) w form.Bunch bunch_prototype number; elements = []; references = 0; entries = (1, value.Ref (length cs + 1)) ∷ [] }) (ordered : IsOrdered (heads cs) (length cs) (head_on (heads cs) w form.Bunch bunch_prototype number)) (few : length (map value.Ref refs) ≤ 4294967295) (under : AllUnder (length cs + 2) refs) (is_array : IsArrayOf new (hidden_head (heads cs)) (length (map value.Ref refs)) (map value.Ref refs) array) where
    one_within : 1 < length new
    one_within = get_within new 1 nodes_name words.nodes

    bunch_fine : IsWellFormed new (length cs + 2) bunch
    bunch_fine = subst (λ (c : NumberedCell). IsWellFormed new (length cs + 2) c) (sym is_bunch) (record {
      entries = ((one_within, omega arith), tt);
      array = λ e. absurd (false_true e);
    })

    array_fine : IsWellFormed new (length cs + 2) array
    array_fine = fine_array new (length cs + 2) (hidden_head (heads cs)) (length (map value.Ref refs)) (map value.Ref refs) array table words few few (under_elements (length cs + 2) refs under) is_array

    all_fine : AreWellFormed new (length cs + 2) ((cs ++ bunch ∷ []) ++ array ∷ [])
    all_fine = fine_push new (length cs + 2) (cs ++ bunch ∷ []) array (fine_push new (length cs + 2) cs bunch (all_fine_stay old new grown.longer grown.kept (length cs) (length cs + 2) cs (omega arith) base.fine) bunch_fine) array_fine

    heads_length : length (heads cs) ≡ length cs
    heads_length = length-map cs (λ c. c.head)

    proto_within : array_prototype < length (heads cs)
    proto_within = omega (arith, host.enough, length-map cs (plain old), heads_length)

    proto_open : scope_at (heads cs) array_prototype ≡ false
    proto_open = sym (scope_same old cs array_prototype) ∙ host_object old cs base.ordered host array_prototype (omega arith)

    proto_plain : bunch_at (heads cs) array_prototype ≡ false
    proto_plain = sym (bunch_same old cs array_prototype) ∙ host_open old cs base.ordered host array_prototype (omega arith)

    abbrev pub bunch_head : Head
    bunch_head = head_on (heads cs) w form.Bunch bunch_prototype number

    proto_links : links_at (heads cs) array_prototype ≤ 99 → links_at (heads cs) array_prototype ≤ array_prototype → IsOrdered (heads cs ++ bunch_head ∷ []) (length (heads cs ++ bunch_head ∷ [])) (hidden_head (heads cs))
    proto_links short below = record {
      up = (omega (arith, proto_within, length-append (heads cs) (bunch_head ∷ [])), scope_older (heads cs) bunch_head array_prototype proto_within ∙ proto_open);
      scope = tt;
      links = sym (ap suc (links_older (heads cs) bunch_head array_prototype proto_within));
      few = omega (arith, short);
      below = omega (arith, below, proto_within, length-append (heads cs) (bunch_head ∷ []));
      owned = λ e. absurd (false_true e);
      based = λ e g. absurd (false_true e);
      unbunched = λ g. bunch_at_older (heads cs) bunch_head array_prototype proto_within ∙ proto_plain;
      number = λ v e. absurd (false_true e);
    }

    short : links_at (heads cs) array_prototype ≤ 2
    short = links_short old cs base.ordered host array_prototype (omega arith)

    pub bunch_grew : (after : List NumberedCell) → after ≡ cs ++ bunch ∷ array ∷ [] → GrewBunch old cs new after (bunch_cell w (length cs + 1)) (hidden_array refs) bunch_head (hidden_head (heads cs))
    bunch_grew after e = record {
      done = ap (cells_of new) e ∙ map-append (plain new) cs (bunch ∷ array ∷ []) ∙ (λ j. same_cells j ++ bunch_plain j ∷ array_plain j ∷ []);
      base = subst (IsBase new) (sym twice) (record {
        table = table;
        words = words;
        fine = subst (λ n. AreWellFormed new n ((cs ++ bunch ∷ []) ++ array ∷ [])) size all_fine;
        ordered = subst AreOrdered (sym both_heads) (ordered_push (heads cs ++ bunch_head ∷ []) (hidden_head (heads cs)) (ordered_push (heads cs) bunch_head base.ordered (subst (λ n. IsOrdered (heads cs) n bunch_head) (sym heads_length) ordered)) (proto_links (omega (arith, short)) (omega (arith, short))));
      });
      heads = ap heads twice ∙ both_heads ∙ sym (push_twice (heads cs) bunch_head (hidden_head (heads cs)));
    }
      where
        twice : after ≡ (cs ++ bunch ∷ []) ++ array ∷ []
        twice = e ∙ push_twice cs bunch array

        size : length cs + 2 ≡ length ((cs ++ bunch ∷ []) ++ array ∷ [])
        size = omega (arith, length-append (cs ++ bunch ∷ []) (array ∷ []), length-append cs (bunch ∷ []))

        both_heads : heads ((cs ++ bunch ∷ []) ++ array ∷ []) ≡ (heads cs ++ bunch_head ∷ []) ++ hidden_head (heads cs) ∷ []
        both_heads = heads_push (cs ++ bunch ∷ []) array ∙ (λ j. (heads_push cs bunch ∙ ap (λ (c : NumberedCell). heads cs ++ c.head ∷ []) is_bunch) j ++ is_array.head j ∷ [])

        nodes_here : name_at new 1 ≡ nodes_name
        nodes_here = get_or_from_slice_get new 1 nodes_name [] words.nodes

        bunch_plain : plain new bunch ≡ bunch_cell w (length cs + 1)
        bunch_plain = ap (plain new) is_bunch ∙ (λ j. record { owner = bunch_head.owner; form = form.Bunch; up = Some bunch_prototype; pairs = (nodes_here j, value.Ref (length cs + 1)) ∷ [] })

        array_plain : plain new array ≡ hidden_array refs
        array_plain = plain_array new (hidden_head (heads cs)) (length (map value.Ref refs)) (map value.Ref refs) array refl is_array

-- the Bunch by its fixed part and the place of its hidden Array
pub bunch_is : (c : NumberedCell) (h k : Head) (a b : ℕ) → (let d : NumberedCell = record { head = h; elements = []; references = 0; entries = (1, value.Ref a) ∷ [] } in c ≡ d) → h ≡ k → a ≡ b → (let d : NumberedCell = record { head = k; elements = []; references = 0; entries = (1, value.Ref b) ∷ [] } in c ≡ d)
bunch_is c h k a b e f g = e ∙ (λ j. record { head = f j; elements = []; references = 0; entries = (1, value.Ref (g j)) ∷ [] })

-- the node of the cell that a node has
raw_cell_at : (cells : List PlainCell) (n i : ℕ) → raw_place n cells ≡ Some i → node_at cells i ≡ Some n
raw_cell_at cells n i e =
    let r = position_at (λ (c : PlainCell). is_raw n c.form) cells i e in
    ap (λ (o : Option PlainCell). option_and_then node_in (option_and_then (λ c. Some c.form) o)) r.1 ∙ by (node_in r.0.form) r.2
  where
    equal : (m : ℕ) → eqb n m ≡ true → m ≡ n
    equal m g = grind (arith, nat_tests, g)

    by : (o : Option ℕ) → option_map_or (λ m. eqb n m) o false ≡ true → o ≡ Some n
    by None g = absurd (false_true g)
    by (Some m) g = ap Some (equal m g)

pub places_lead : (cells : List PlainCell) (nodes : List ℕ) → HaveCells cells nodes → AreCellsOf cells (map (node_place cells) nodes) nodes
places_lead cells [] h = tt
places_lead cells (n ∷ nodes) h = (by (raw_place n cells) refl (first (is_some (raw_place n cells)) h), places_lead cells nodes (rest (is_some (raw_place n cells)) h))
  where
    first : (a : Bool) → (a && list_all (λ n. is_some (raw_place n cells)) nodes) ≡ true → a ≡ true
    first true e = refl
    first false e = e

    rest : (a : Bool) → (a && list_all (λ n. is_some (raw_place n cells)) nodes) ≡ true → list_all (λ n. is_some (raw_place n cells)) nodes ≡ true
    rest true e = e
    rest false e = absurd (false_true e)

    by : (o : Option ℕ) → raw_place n cells ≡ o → is_some o ≡ true → node_at cells (unwrap_or o 0) ≡ Some n
    by None e g = absurd (false_true g)
    by (Some i) e g = raw_cell_at cells n i e

-- what a store becomes
module _ (s : Cells) (names : List (List ℕ)) (cs : List NumberedCell) {raws : List (ℕ × ℕ)} (kept : List Counts) (view : (let c : Cells = record { cells = cells_of names cs; kept = kept } in c ≡ s)) (shape : IsShape names cs raws kept) (nodes : List ℕ) where
  place_same : (n : ℕ) → unwrap_or (lookup (eqb n) raws) 0 ≡ node_place s.cells n
  place_same n = ap (λ (o : Option ℕ). unwrap_or o 0) (shape.nodes.found n ∙ raw_place_is names n cs ∙ ap (λ (t : Cells). raw_place n t.cells) view)

  places_same : (ns : List ℕ) → map (λ n. unwrap_or (lookup (eqb n) raws) 0) ns ≡ map (node_place s.cells) ns
  places_same [] = refl
  places_same (n ∷ ns) = λ j. place_same n j ∷ places_same ns j

  length_same : length s.cells ≡ length cs
  length_same = ap (λ (t : Cells). length t.cells) (sym view) ∙ length-map cs (plain names)

  born_same : (w : ℕ) → bunch_cell w (length cs + 1) ∷ hidden_array (map (λ n. unwrap_or (lookup (eqb n) raws) 0) nodes) ∷ [] ≡ bunch_cells s.cells w nodes
  born_same w = λ j. bunch_cell w (sym length_same j + 1) ∷ hidden_array (places_same nodes j) ∷ []

  pub bunch_made : (new : List (List ℕ)) (after : List NumberedCell) (counts : List Counts) (w n : ℕ) (h k : Head) → GrewBunch names cs new after (bunch_cell w (length cs + 1)) (hidden_array (map (λ n. unwrap_or (lookup (eqb n) raws) 0) nodes)) h k → counts ≡ changed kept w (paid 1 n 0) → (let d : Cells = record { cells = cells_of new after; kept = counts } in d ≡ made s w (bunch_cells s.cells w nodes) 1 n)
  bunch_made new after counts w n h k grew e = (λ j. record { cells = (grew.done ∙ ap (λ l. cells_of names cs ++ l) (born_same w)) j; kept = e j }) ∙ ap (λ (t : Cells). made t w (bunch_cells s.cells w nodes) 1 n) view

  closed_after : (new : List (List ℕ)) (after : List NumberedCell) (w : ℕ) (h k : Head) → IsDistinct eqb nodes → HaveCells s.cells nodes → GrewBunch names cs new after (bunch_cell w (length cs + 1)) (hidden_array (map (λ n. unwrap_or (lookup (eqb n) raws) 0) nodes)) h k → AreClosed (cells_of new after)
  closed_after new after w h k distinct have grew = subst AreClosed (sym (grew.done ∙ push_twice (cells_of names cs) one two)) (record {
    host = host_push (cells_of names cs ++ one ∷ []) two (host_push (cells_of names cs) one shape.closed.host);
    bunches = record { each = by_push (cells_of names cs ++ one ∷ []) two (λ i d. is_bunch d.form ≡ true → IsBunch all d) (by_push (cells_of names cs) one (λ i d. is_bunch d.form ≡ true → IsBunch all d) (λ i d at b. bunch_older (cells_of names cs ++ one ∷ []) (two ∷ []) d (bunch_older (cells_of names cs) (one ∷ []) d (shape.closed.bunches.each i d at b))) (λ b. new_bunch)) (λ b. absurd (false_true b)) };
  })
    where
      one : PlainCell
      one = bunch_cell w (length cs + 1)

      refs : List ℕ
      refs = map (λ n. unwrap_or (lookup (eqb n) raws) 0) nodes

      two : PlainCell
      two = hidden_array refs

      all : List PlainCell
      all = (cells_of names cs ++ one ∷ []) ++ two ∷ []

      last_at : {X : Type 0} (xs : List X) (x : X) (n : ℕ) → n ≡ length xs → slice_get (xs ++ x ∷ []) n ≡ Some x
      last_at [] x n e = ap (λ k. slice_get (x ∷ []) k) e
      last_at (y ∷ xs) x zero e = absurd (omega (arith, e))
      last_at (y ∷ xs) x (suc n) e = last_at xs x n (omega (arith, e))

      lead : AreCellsOf (cells_of names cs) refs nodes
      lead = subst (λ (l : List PlainCell). AreCellsOf l refs nodes) (ap (λ (t : Cells). t.cells) (sym view)) (subst (λ (rs : List ℕ). AreCellsOf s.cells rs nodes) (sym (places_same nodes)) (places_lead s.cells nodes have))

      new_bunch : IsBunch all one
      new_bunch = record {
        array = length cs + 1;
        refs = refs;
        nodes = nodes;
        pairs = refl;
        hidden = last_at (cells_of names cs ++ one ∷ []) two (length cs + 1) (sym (length-append (cells_of names cs) (one ∷ []) ∙ ap (λ n. n + 1) (length-map cs (plain names))));
        lead = cells_of_older (cells_of names cs ++ one ∷ []) (two ∷ []) refs nodes (cells_of_older (cells_of names cs) (one ∷ []) refs nodes lead);
        distinct = distinct;
      }

  pub bunch_shape : (new : List (List ℕ)) (after : List NumberedCell) (counts : List Counts) (w n number : ℕ) → w < 32 → IsDistinct eqb nodes → HaveCells s.cells nodes → GrewBunch names cs new after (bunch_cell w (length cs + 1)) (hidden_array (map (λ n. unwrap_or (lookup (eqb n) raws) 0) nodes)) (head_on (heads cs) w form.Bunch bunch_prototype number) (hidden_head (heads cs)) → AreWithin counts → counts ≡ changed kept w (paid 1 n 0) → IsShape new after raws counts
  bunch_shape new after counts w n number lt distinct have grew within e = record {
    base = grew.base;
    closed = closed_after new after w one two distinct have grew;
    nodes = subst (λ (l : List Head). AreRaws l raws) (sym twice) (raws_push (heads cs ++ one ∷ []) raws two (raws_push (heads cs) raws one shape.nodes refl) refl);
    counted = ap length e ∙ length-changed kept w (paid 1 n 0) ∙ shape.counted;
    within = within;
    exact = λ v g.
        let own : unit (own_head v one) ≡ unit (eqb w v) = ap unit (own_visible w v form.Bunch refl) in
        let counts_is : kept_cells counts v ≡ count_by (own_head v) (heads cs) + unit (eqb w v) = ap (λ (ks : List Counts). kept_cells ks v) e ∙ cells_paid_own kept w 1 n 0 v (omega (arith, lt, shape.counted)) ∙ ap (λ m. m + unit (eqb w v)) (shape.exact v g) in
        let all : count_by (own_head v) (heads after) ≡ (count_by (own_head v) (heads cs) + unit (own_head v one)) + 0 = ap (count_by (own_head v)) twice ∙ count_by-push (own_head v) (heads cs ++ one ∷ []) two ∙ ap (λ m. m + 0) (count_by-push (own_head v) (heads cs) one) in
        omega (arith, own, counts_is, all);
  }
    where
      unit : Bool → ℕ
      unit b = if b then 1 else 0

      one : Head
      one = head_on (heads cs) w form.Bunch bunch_prototype number

      two : Head
      two = hidden_head (heads cs)

      twice : heads after ≡ (heads cs ++ one ∷ []) ++ two ∷ []
      twice = grew.heads ∙ push_twice (heads cs) one two

-- the fixed part of a new Bunch
pub bunch_ordered : (names : List (List ℕ)) (cs : List NumberedCell) (kept : List Counts) {raws : List (ℕ × ℕ)} → IsShape names cs raws kept → (w number : ℕ) → w < 32 → number ≡ kept_cells kept w → IsOrdered (heads cs) (length cs) (head_on (heads cs) w form.Bunch bunch_prototype number)
bunch_ordered names cs kept shape w number lt counted = new_ordered names cs kept shape w bunch_prototype number form.Bunch within no_scope no_bunch few refl tt lt counted
  where
    within : bunch_prototype < length cs
    within = omega (arith, shape.closed.host.enough, length-map cs (plain names))

    no_scope : scope_at (heads cs) bunch_prototype ≡ false
    no_scope = sym (scope_same names cs bunch_prototype) ∙ host_object names cs shape.base.ordered shape.closed.host bunch_prototype (omega arith)

    no_bunch : bunch_at (heads cs) bunch_prototype ≡ false
    no_bunch = sym (bunch_same names cs bunch_prototype) ∙ host_open names cs shape.base.ordered shape.closed.host bunch_prototype (omega arith)

    few : links_at (heads cs) bunch_prototype < 100
    few = omega (arith, links_short names cs shape.base.ordered shape.closed.host bunch_prototype (omega arith))

-- one node
one_distinct : (n : ℕ) → IsDistinct eqb (n ∷ [])
unfolding IsDistinct
one_distinct n = (tt, tt)

pub one_node : (cells : List PlainCell) (items : List ℕ) (n i : ℕ) → items ≡ n ∷ [] → raw_place n cells ≡ Some i → IsDistinct eqb items × HaveCells cells items
one_node cells items n i e at = (subst (IsDistinct eqb) (sym e) (one_distinct n), subst (HaveCells cells) (sym e) (ap (λ (o : Option ℕ). is_some o && true) at))
