-- What a query finds goes with the numbers of the nodes.
use Rattle.std.proofs.Common.{◌≡◌, ℕ, zero, suc, ◌+◌, List, [], ◌∷◌, ◌++◌, Bool, true, false, ◌&&◌, ◌||◌, refl, sym, ap, ◌∙◌, take, drop, map, cond, codes, eqb, eqb-true, eq-eqb, Option, Some, None}
use Rattle.std.specs.Prelude.{◌==◌, ◌%◌, is_some}
use Rattle.std.specs.List.{filter, flat_map, enumerate_from}
use Rattle.query_grammar.specs.declared.query.Filter.{Filter}
use Rattle.query_grammar.specs.declared.query.Filter.TheVariants as by
use Rattle.query_grammar.specs.declared.query.Hunter.{Hunter}
use Rattle.query_grammar.specs.declared.query.Hunter.TheVariants as hunter
use Rattle.query_grammar.specs.declared.query.ListFilter.{ListFilter}
use Rattle.query_grammar.specs.declared.query.ListFilter.TheVariants as on_list
use Rattle.query_grammar.specs.declared.query.StepFilter.{StepFilter}
use Rattle.query_grammar.specs.declared.query.StepFilter.TheVariants as kind
use Rattle.query_grammar.specs.Steps.{Step}
use Rattle.query_grammar.specs.Filters.{is_equal, is_among, seen_option}
use Rattle.query_grammar.specs.Finds.{Sight, has_number, is_element, is_tagged, has_id, after_number, element_behind, next_element, hunted, in_order, passes, sifted, filtered, all_filtered, finds}
use Rattle.query_grammar.specs.Renumbering.{Stand, renumbered, IsWhole, Renumbers}
use Rattle.query_grammar.proofs.Kept.{filtered_is, all_filtered_is}
use Rattle.query_grammar.proofs.Numbers.{has_first, kept_is, taken_is, behind_is, from_piece}
use Rattle.query_grammar.proofs.Truths.{or_right, same_truth}

-- ## Lists of other numbers

take_mapped : (f : ℕ → ℕ) (i : ℕ) (ns : List ℕ) → take i (map f ns) ≡ map f (take i ns)
take_mapped f zero ns = refl
take_mapped f (suc i) [] = refl
take_mapped f (suc i) (n ∷ ns) = ap (λ l. f n ∷ l) (take_mapped f i ns)

drop_mapped : (f : ℕ → ℕ) (i : ℕ) (ns : List ℕ) → drop i (map f ns) ≡ map f (drop i ns)
drop_mapped f zero ns = refl
drop_mapped f (suc i) [] = refl
drop_mapped f (suc i) (n ∷ ns) = drop_mapped f i ns

both_mapped : (f : ℕ → ℕ) (xs ys : List ℕ) → map f (xs ++ ys) ≡ map f xs ++ map f ys
both_mapped f [] ys = refl
both_mapped f (x ∷ xs) ys = ap (λ l. f x ∷ l) (both_mapped f xs ys)

-- a test of the other numbers that agrees with one of the first
kept_mapped : (f : ℕ → ℕ) (p q : ℕ → Bool) (ns : List ℕ) → ((n : ℕ) → has_number ns n ≡ true → p (f n) ≡ q n) → filter p (map f ns) ≡ map f (filter q ns)
kept_mapped f p q [] h = refl
kept_mapped f p q (n ∷ ns) h =
    ap (λ b. cond b (f n ∷ filter p (map f ns)) (filter p (map f ns))) (h n (has_first n ns))
    ∙ by_test (q n) (kept_mapped f p q ns (λ m e. h m (or_right (eqb m n) (has_number ns m) e)))
  where
    by_test : (b : Bool) → filter p (map f ns) ≡ map f (filter q ns) → cond b (f n ∷ filter p (map f ns)) (filter p (map f ns)) ≡ map f (cond b (n ∷ filter q ns) (filter q ns))
    by_test true e = ap (λ l. f n ∷ l) e
    by_test false e = e

-- the numbers of one rest, with their places
abbrev placed : ℕ → ℕ → List ℕ → List (ℕ × ℕ)
placed r i ns = filter (λ q. q.0 % 2 == r) (enumerate_from i ns)

placed_mapped : (f : ℕ → ℕ) (r i : ℕ) (ns : List ℕ) → map (λ q. q.1) (placed r i (map f ns)) ≡ map f (map (λ q. q.1) (placed r i ns))
placed_mapped f r i [] = refl
placed_mapped f r i (n ∷ ns) = by_test (i % 2 == r) (placed_mapped f r (i + 1) ns)
  where
    by_test : (b : Bool) → map (λ q. q.1) (placed r (i + 1) (map f ns)) ≡ map f (map (λ q. q.1) (placed r (i + 1) ns)) → map (λ q. q.1) (cond b ((i, f n) ∷ placed r (i + 1) (map f ns)) (placed r (i + 1) (map f ns))) ≡ map f (map (λ q. q.1) (cond b ((i, n) ∷ placed r (i + 1) ns) (placed r (i + 1) ns)))
    by_test true e = ap (λ l. f n ∷ l) e
    by_test false e = e

sifted_mapped : (f : ℕ → ℕ) (g : ListFilter) (ns : List ℕ) → sifted g (map f ns) ≡ map f (sifted g ns)
sifted_mapped f on_list.First ns = take_mapped f 1 ns
sifted_mapped f on_list.Rest ns = drop_mapped f 1 ns
sifted_mapped f on_list.Even ns = placed_mapped f 0 0 ns
sifted_mapped f on_list.Odd ns = placed_mapped f 1 0 ns

-- the numbers of a list stand where those of a longer one do
later : (s : Sight) (n : ℕ) (ns : List ℕ) → Stand s (n ∷ ns) → Stand s ns
later s n ns h m e = h m (or_right (eqb m n) (has_number ns m) e)

module _ (s t : Sight) (f : ℕ → ℕ) (whole : IsWhole s) (re : Renumbers s t f) where
  -- ## Numbers of the document

  same_number : (n m : ℕ) → has_number s.document n ≡ true → has_number s.document m ≡ true → eqb (f n) (f m) ≡ eqb n m
  same_number n m hn hm = same_truth (eqb (f n) (f m)) (eqb n m)
      (λ e. eq-eqb n m (re.distinct n m hn hm (eqb-true (f n) (f m) e)))
      (λ e. eq-eqb (f n) (f m) (ap f (eqb-true n m e)))

  has_mapped : (n : ℕ) (ns : List ℕ) → has_number s.document n ≡ true → Stand s ns → has_number (map f ns) (f n) ≡ has_number ns n
  has_mapped n [] hn h = refl
  has_mapped n (m ∷ ns) hn h =
      ap (λ b. b || has_number (map f ns) (f n)) (same_number n m hn (h m (has_first m ns)))
      ∙ ap (λ b. eqb n m || b) (has_mapped n ns hn (later s m ns h))

  behind_mapped : (n : ℕ) (ns : List ℕ) → has_number s.document n ≡ true → Stand s ns → after_number (f n) (map f ns) ≡ map f (after_number n ns)
  behind_mapped n [] hn h = refl
  behind_mapped n (m ∷ ns) hn h =
      ap (λ b. cond b (map f ns) (after_number (f n) (map f ns))) (same_number m n (h m (has_first m ns)) hn)
      ∙ by_test (eqb m n) (behind_mapped n ns hn (later s m ns h))
    where
      by_test : (b : Bool) → after_number (f n) (map f ns) ≡ map f (after_number n ns) → cond b (map f ns) (after_number (f n) (map f ns)) ≡ map f (cond b ns (after_number n ns))
      by_test true e = refl
      by_test false e = e

  -- ## Hunters

  element_same : (n : ℕ) → has_number s.document n ≡ true → is_element t.links.look (f n) ≡ is_element s.links.look n
  element_same n h = ap is_some (re.alike n h).tag

  tagged_same : (tag : List ℕ) (n : ℕ) → has_number s.document n ≡ true → is_tagged t.links.look tag (f n) ≡ is_tagged s.links.look tag n
  tagged_same tag n h = ap (λ o. is_some o && is_equal o tag) (re.alike n h).tag

  id_same : (w : List ℕ) (n : ℕ) → has_number s.document n ≡ true → has_id t.links.look w (f n) ≡ has_id s.links.look w n
  id_same w n h =
      ap (λ o. is_some o && is_equal ((t.links.look (f n)).attribute (codes "id")) w) (re.alike n h).tag
      ∙ ap (λ o. is_some (s.links.look n).tag && is_equal o w) ((re.alike n h).attributes (codes "id"))

  element_behind_mapped : (n : ℕ) → has_number s.document n ≡ true → (u : Option ℕ) → s.links.parent n ≡ u → element_behind t.links (renumbered f u) (f n) ≡ map f (element_behind s.links u n)
  element_behind_mapped n hn None e = refl
  element_behind_mapped n hn (Some m) e =
      let hm = whole.parent n m hn e in
      let children = s.links.children m in
      ap (λ l. take 1 (filter (is_element t.links.look) (after_number (f n) l))) (re.alike m hm).children
      ∙ ap (λ l. take 1 (filter (is_element t.links.look) l)) (behind_mapped n children hn (whole.children m hm))
      ∙ ap (take 1) (kept_mapped f (is_element t.links.look) (is_element s.links.look) (after_number n children) (λ x g. element_same x (whole.children m hm x (behind_is n children x g))))
      ∙ take_mapped f 1 (filter (is_element s.links.look) (after_number n children))

  next_mapped : (n : ℕ) → has_number s.document n ≡ true → next_element t.links (f n) ≡ map f (next_element s.links n)
  next_mapped n h = ap (λ u. element_behind t.links u (f n)) (re.alike n h).parent ∙ element_behind_mapped n h (s.links.parent n) refl

  element_behind_stands : (n : ℕ) → has_number s.document n ≡ true → (u : Option ℕ) → s.links.parent n ≡ u → Stand s (element_behind s.links u n)
  element_behind_stands n hn None e x g = cc
  element_behind_stands n hn (Some m) e x g =
      let rest = after_number n (s.links.children m) in
      whole.children m (whole.parent n m hn e) x (behind_is n (s.links.children m) x (kept_is (is_element s.links.look) rest x (taken_is 1 (filter (is_element s.links.look) rest) x g)))

  next_stands : (n : ℕ) → has_number s.document n ≡ true → Stand s (next_element s.links n)
  next_stands n h = element_behind_stands n h (s.links.parent n) refl

  hunted_stands : (h : Hunter) (n : ℕ) → has_number s.document n ≡ true → Stand s (hunted s.links h n)
  hunted_stands (hunter.Tag tag) n h x g = whole.below n h x (kept_is (is_tagged s.links.look tag) (s.links.below n) x g)
  hunted_stands (hunter.Id w) n h x g = whole.below n h x (kept_is (has_id s.links.look w) (s.links.below n) x g)
  hunted_stands (hunter.Child tag) n h x g = whole.children n h x (kept_is (is_tagged s.links.look tag) (s.links.children n) x g)
  hunted_stands (hunter.Next tag) n h x g = next_stands n h x (kept_is (is_tagged s.links.look tag) (next_element s.links n) x g)
  hunted_stands hunter.Children n h x g = whole.children n h x (kept_is (is_element s.links.look) (s.links.children n) x g)
  hunted_stands hunter.All n h x g = whole.below n h x (kept_is (is_element s.links.look) (s.links.below n) x g)

  hunted_mapped : (h : Hunter) (n : ℕ) → has_number s.document n ≡ true → hunted t.links h (f n) ≡ map f (hunted s.links h n)
  hunted_mapped (hunter.Tag tag) n h = ap (filter (is_tagged t.links.look tag)) (re.alike n h).below ∙ kept_mapped f (is_tagged t.links.look tag) (is_tagged s.links.look tag) (s.links.below n) (λ x g. tagged_same tag x (whole.below n h x g))
  hunted_mapped (hunter.Id w) n h = ap (filter (has_id t.links.look w)) (re.alike n h).below ∙ kept_mapped f (has_id t.links.look w) (has_id s.links.look w) (s.links.below n) (λ x g. id_same w x (whole.below n h x g))
  hunted_mapped (hunter.Child tag) n h = ap (filter (is_tagged t.links.look tag)) (re.alike n h).children ∙ kept_mapped f (is_tagged t.links.look tag) (is_tagged s.links.look tag) (s.links.children n) (λ x g. tagged_same tag x (whole.children n h x g))
  hunted_mapped (hunter.Next tag) n h = ap (filter (is_tagged t.links.look tag)) (next_mapped n h) ∙ kept_mapped f (is_tagged t.links.look tag) (is_tagged s.links.look tag) (next_element s.links n) (λ x g. tagged_same tag x (next_stands n h x g))
  hunted_mapped hunter.Children n h = ap (filter (is_element t.links.look)) (re.alike n h).children ∙ kept_mapped f (is_element t.links.look) (is_element s.links.look) (s.links.children n) (λ x g. element_same x (whole.children n h x g))
  hunted_mapped hunter.All n h = ap (filter (is_element t.links.look)) (re.alike n h).below ∙ kept_mapped f (is_element t.links.look) (is_element s.links.look) (s.links.below n) (λ x g. element_same x (whole.below n h x g))

  all_hunted_stand : (h : Hunter) (ns : List ℕ) → Stand s ns → Stand s (flat_map (hunted s.links h) ns)
  all_hunted_stand h ns st x g = let q = from_piece (hunted s.links h) ns x g in hunted_stands h (q.0) (st (q.0) (q.1)) x (q.2)

  all_hunted_mapped : (h : Hunter) (ns : List ℕ) → Stand s ns → flat_map (hunted t.links h) (map f ns) ≡ map f (flat_map (hunted s.links h) ns)
  all_hunted_mapped h [] st = refl
  all_hunted_mapped h (n ∷ ns) st =
      ap (λ l. l ++ flat_map (hunted t.links h) (map f ns)) (hunted_mapped h n (st n (has_first n ns)))
      ∙ ap (λ l. map f (hunted s.links h n) ++ l) (all_hunted_mapped h ns (later s n ns st))
      ∙ sym (both_mapped f (hunted s.links h n) (flat_map (hunted s.links h) ns))

  -- ## Order and filters

  ordered_mapped : (ns : List ℕ) → Stand s ns → in_order t.document (map f ns) ≡ map f (in_order s.document ns)
  ordered_mapped ns st = ap (filter (has_number (map f ns))) re.document ∙ kept_mapped f (has_number (map f ns)) (has_number ns) s.document (λ n h. has_mapped n ns h st)

  passes_same : (g : Filter) (n : ℕ) → has_number s.document n ≡ true → passes t.links.look t.focus g (f n) ≡ passes s.links.look s.focus g n
  passes_same (by.Class w) n h = ap (λ o. is_among o w) ((re.alike n h).attributes (codes "class"))
  passes_same (by.Name w) n h = ap (λ o. is_equal o w) ((re.alike n h).attributes (codes "name"))
  passes_same (by.Kind w) n h = ap (λ o. is_equal o w) ((re.alike n h).attributes (codes "type"))
  passes_same (by.Has w) n h = ap is_some ((re.alike n h).attributes w)
  passes_same (by.Equals w v) n h = ap (λ o. is_equal (seen_option w o) v) ((re.alike n h).attributes w)
  passes_same by.Checked n h = rw ((re.alike n h).tag, (re.alike n h).attributes (codes "checked")) refl
  passes_same by.Unchecked n h = rw ((re.alike n h).tag, (re.alike n h).attributes (codes "checked")) refl
  passes_same by.Enabled n h = rw ((re.alike n h).tag, (re.alike n h).attributes (codes "disabled")) refl
  passes_same by.Disabled n h = rw ((re.alike n h).tag, (re.alike n h).attributes (codes "disabled")) refl
  passes_same by.Focus n h = (re.alike n h).focus

  filtered_mapped : (g : StepFilter) (ns : List ℕ) → Stand s ns → filtered t.links.look t.focus g (map f ns) ≡ map f (filtered s.links.look s.focus g ns)
  filtered_mapped (kind.Node g) ns st = kept_mapped f (passes t.links.look t.focus g) (passes s.links.look s.focus g) ns (λ n h. passes_same g n (st n h))
  filtered_mapped (kind.List g) ns st = sifted_mapped f g ns

  all_filtered_mapped : (gs : List StepFilter) (ns : List ℕ) → Stand s ns → all_filtered t.links.look t.focus gs (map f ns) ≡ map f (all_filtered s.links.look s.focus gs ns)
  all_filtered_mapped [] ns st = refl
  all_filtered_mapped (g ∷ gs) ns st =
      ap (all_filtered t.links.look t.focus gs) (filtered_mapped g ns st)
      ∙ all_filtered_mapped gs (filtered s.links.look s.focus g ns) (λ x h. st x (filtered_is s.links.look s.focus g ns x h))

  -- ## Steps

  pub finds_mapped : (ns : List ℕ) (q : List Step) → Stand s ns → finds t (map f ns) q ≡ map f (finds s ns q)
  finds_mapped ns [] st = refl
  finds_mapped ns (u ∷ q) st =
      let found = flat_map (hunted s.links u.hunter) ns in
      let ordered = in_order s.document found in
      let ordered_stands : Stand s ordered = λ x h. kept_is (has_number found) s.document x h in
      ap (λ l. finds t (all_filtered t.links.look t.focus u.filters (in_order t.document l)) q) (all_hunted_mapped u.hunter ns st)
      ∙ ap (λ l. finds t (all_filtered t.links.look t.focus u.filters l) q) (ordered_mapped found (all_hunted_stand u.hunter ns st))
      ∙ ap (λ l. finds t l q) (all_filtered_mapped u.filters ordered ordered_stands)
      ∙ finds_mapped (all_filtered s.links.look s.focus u.filters ordered) q (λ x h. ordered_stands x (all_filtered_is s.links.look s.focus u.filters ordered x h))
