-- Filters that keep all nodes are left out.
use Rattle.std.proofs.Common.{◌≡◌, ℕ, zero, suc, ◌+◌, ◌*◌, ◌-◌, ◌<◌, ◌≤◌, List, [], ◌∷◌, ◌++◌, append-nil, Bool, true, false, not, refl, ap, sym, ◌∙◌, subst, cond, arith, ltb-false, ⊎_elim, Option, length, length-drop, map, drop, take}
use Rattle.std.specs.Prelude.{◌==◌, ◌%◌, ◌/◌, min, nat_lt}
use Rattle.std.specs.List.{filter, list_any, enumerate_from}
use Rattle.std.specs.Str.{bytes_eq}
use Rattle.std.specs.Cmp.Lexicographic.{bytes_decides}
use Rattle.std.proofs.lemmas.Bool.{or_cases}
use Rattle.std.proofs.lemmas.List.Concat.{flat_map-append}
use Rattle.std.proofs.lemmas.List.Folds.{list_any-append}
use Rattle.query_grammar.specs.declared.query.Filter.{Filter}
use Rattle.query_grammar.specs.declared.query.Filter.TheVariants as on_node
use Rattle.query_grammar.specs.declared.query.ListFilter.TheVariants as on_list
use Rattle.query_grammar.specs.declared.query.StepFilter.{StepFilter}
use Rattle.query_grammar.specs.declared.query.StepFilter.TheVariants as kind
use Rattle.query_grammar.specs.Filters.{Look}
use Rattle.query_grammar.specs.Finds.{has_number, passes, at_places, filtered, all_filtered}
use Rattle.query_grammar.specs.Spelled.{filters_of, AreFilters, IsFirst}
use Rattle.query_grammar.proofs.Truths.{no_true, not_false, same_number}
use Rattle.query_grammar.proofs.Numbers.{kept_is}
use Rattle.query_grammar.proofs.Kept.{filtered_is, all_filtered_is}
use Rattle.query_grammar.proofs.Spelled.{first_filter}
use Rattle.query_walks.specs.Classes.{class_word, class_words}
use Rattle.query_text.specs.Again.{AreAlike, none_alike, one_alike, StandAlike}
use Rattle.query_walks.specs.Thinned.{KeepSame, LeavesSame, keeps_again, most_left, is_tried, classes_after, seen_after}
use Rattle.query_walks.proofs.FirstFailed.{all_pass, kept_passes}

-- ## How many are left

fewer : (t : ℕ → Bool) (ns : List ℕ) → length (filter t ns) ≤ length ns
fewer t [] = omega arith
fewer t (n ∷ ns) = by_test (t n) (fewer t ns)
  where
    by_test : (b : Bool) → length (filter t ns) ≤ length ns → length (cond b (n ∷ filter t ns) (filter t ns)) ≤ length (n ∷ ns)
    by_test true more = omega (arith, more)
    by_test false more = omega (arith, more)

abbrev placed : ℕ → ℕ → List ℕ → List ℕ
placed r i ns = map (λ p. p.1) (filter (λ p. p.0 % 2 == r) (enumerate_from i ns))

-- of two places one behind the other one has the rest
one_of : (r i : ℕ) → cond (i % 2 == r) 1 0 + cond ((i + 1) % 2 == r) 1 0 ≤ 1
one_of r i = by_tests (i % 2 == r) ((i + 1) % 2 == r) refl refl
  where
    by_tests : (a b : Bool) → (i % 2 == r) ≡ a → ((i + 1) % 2 == r) ≡ b → cond a 1 0 + cond b 1 0 ≤ 1
    by_tests true true ea eb =
        let one : i % 2 ≡ r = same_number (i % 2) r ea in
        let two : (i + 1) % 2 ≡ r = same_number ((i + 1) % 2) r eb in
        absurd (omega (arith, one, two))
    by_tests true false ea eb = omega arith
    by_tests false true ea eb = omega arith
    by_tests false false ea eb = omega arith

-- every second one
half : (r i : ℕ) (ns : List ℕ) → 2 * length (placed r i ns) ≤ length ns + cond (i % 2 == r) 1 0
half r i [] = by_test (i % 2 == r)
  where
    by_test : (b : Bool) → 2 * 0 ≤ 0 + cond b 1 0
    by_test true = omega arith
    by_test false = omega arith
half r i (n ∷ ns) = by_test (i % 2 == r) (one_of r i) (half r (i + 1) ns)
  where
    by_test : (b : Bool) → cond b 1 0 + cond ((i + 1) % 2 == r) 1 0 ≤ 1 → 2 * length (placed r (i + 1) ns) ≤ length ns + cond ((i + 1) % 2 == r) 1 0 →
        2 * length (map (λ p. p.1) (cond b ((i, n) ∷ filter (λ p. p.0 % 2 == r) (enumerate_from (i + 1) ns)) (filter (λ p. p.0 % 2 == r) (enumerate_from (i + 1) ns)))) ≤ length (n ∷ ns) + cond b 1 0
    by_test true one more = omega (arith, one, more)
    by_test false one more = omega (arith, one, more)

halved : (l n most : ℕ) → 2 * l ≤ n + 1 → n ≤ most → l ≤ most - most / 2
halved l n most h le = omega (arith, h, le)

halved_down : (l n most : ℕ) → 2 * l ≤ n + 0 → n ≤ most → l ≤ most / 2
halved_down l n most h le = omega (arith, h, le)

at_most_one : (ns : List ℕ) (most : ℕ) → length ns ≤ most → length (take 1 ns) ≤ min most 1
at_most_one [] most le = omega arith
at_most_one (n ∷ ns) zero le = absurd (omega (arith, le))
at_most_one (n ∷ ns) (suc most) le = omega arith

but_one : (ns : List ℕ) (most : ℕ) → length ns ≤ most → length (drop 1 ns) ≤ most - 1
but_one [] most le = omega arith
but_one (n ∷ ns) most le = omega (arith, le)

module _ (look : ℕ → Look) (focus : Option ℕ) where
  pub few_left : (f : StepFilter) (ns : List ℕ) (most : ℕ) → length ns ≤ most → length (filtered look focus f ns) ≤ most_left f most
  few_left (kind.Node f) ns most le = let less = fewer (passes look focus f) ns in omega (arith, less, le)
  few_left (kind.List on_list.First) ns most le = at_most_one ns most le
  few_left (kind.List on_list.Rest) ns most le = but_one ns most le
  few_left (kind.List on_list.Even) ns most le = halved (length (placed 0 0 ns)) (length ns) most (half 0 0 ns) le
  few_left (kind.List on_list.Odd) ns most le = halved_down (length (placed 1 0 ns)) (length ns) most (half 1 0 ns) le

  -- ## Filters one behind the other

  one_more : (fs : List StepFilter) (f : StepFilter) (ns : List ℕ) → all_filtered look focus (fs ++ f ∷ []) ns ≡ filtered look focus f (all_filtered look focus fs ns)
  one_more [] f ns = refl
  one_more (g ∷ fs) f ns = one_more fs f (filtered look focus g ns)

  none_left : (fs : List StepFilter) → all_filtered look focus fs [] ≡ []
  none_left [] = refl
  none_left (kind.Node f ∷ fs) = none_left fs
  none_left (kind.List on_list.First ∷ fs) = none_left fs
  none_left (kind.List on_list.Rest ∷ fs) = none_left fs
  none_left (kind.List on_list.Even ∷ fs) = none_left fs
  none_left (kind.List on_list.Odd ∷ fs) = none_left fs

  pub nothing_left : (fs : List StepFilter) (ns : List ℕ) → length ns ≤ 0 → all_filtered look focus fs ns ≡ ns
  nothing_left fs [] le = none_left fs
  nothing_left fs (n ∷ ns) le = absurd (omega (arith, le))

-- ## What stood before

one_stays : (most : ℕ) (ns : List ℕ) → length ns ≤ most → nat_lt 1 most ≡ false → length ns ≤ 1
one_stays most ns le h = let few = ltb-false 1 most h in omega (arith, le, few)

first_stays : (ns : List ℕ) → length ns ≤ 1 → take 1 ns ≡ ns
first_stays [] le = refl
first_stays (n ∷ []) le = refl
first_stays (n ∷ m ∷ ns) le = absurd (omega (arith, le))

even_stays : (ns : List ℕ) → length ns ≤ 1 → at_places 0 ns ≡ ns
even_stays [] le = refl
even_stays (n ∷ []) le = refl
even_stays (n ∷ m ∷ ns) le = absurd (omega (arith, le))

-- the nodes have each class of these
abbrev HaveAll : (ℕ → Look) → Option ℕ → List (List ℕ) → List ℕ → Type 0
HaveAll look focus classes ns = (w : List ℕ) → list_any (bytes_eq w) classes ≡ true → (x : ℕ) → has_number ns x ≡ true → passes look focus (on_node.Class w) x ≡ true

-- the nodes pass each filter on nodes that these units spell
abbrev Pass : (ℕ → Look) → Option ℕ → List (List ℕ) → List ℕ → Type 0
Pass look focus seen ns = (k : List ℕ) → list_any (bytes_eq k) seen ≡ true → (f : Filter) → filters_of k ≡ kind.Node f ∷ [] → (x : ℕ) → has_number ns x ≡ true → passes look focus f x ≡ true

same_filter : (f g : Filter) → ◌≡◌ {A = List StepFilter} (kind.Node f ∷ []) (kind.Node g ∷ []) → f ≡ g
same_filter f g e = cc

module _ (look : ℕ → Look) (focus : Option ℕ) where
  -- what filters keep has the classes that they ask for
  class_kept : (fs : List StepFilter) (ns : List ℕ) → HaveAll look focus (class_words fs) (all_filtered look focus fs ns)
  class_kept [] ns w there x h = absurd (no_true there)
  class_kept (kind.Node (on_node.Class v) ∷ fs) ns w there x h = ⊎_elim
      (λ same. subst (λ y. passes look focus (on_node.Class y) x ≡ true) (sym ((bytes_decides w v).0 same))
      (kept_passes (passes look focus (on_node.Class v)) ns x (all_filtered_is look focus fs (filter (passes look focus (on_node.Class v)) ns) x h)))
      (λ later. class_kept fs (filter (passes look focus (on_node.Class v)) ns) w later x h)
      (or_cases (bytes_eq w v) (list_any (bytes_eq w) (class_words fs)) there)
  class_kept (f ∷ fs) ns w there x h = class_kept fs (filtered look focus f ns) w there x h

  -- what is not tried keeps all
  keeps_all : (f : StepFilter) (most : ℕ) (classes seen : List (List ℕ)) (us : List ℕ) (ns : List ℕ) → filters_of us ≡ f ∷ [] → length ns ≤ most → HaveAll look focus classes ns → Pass look focus seen ns → is_tried f most classes seen us ≡ false → filtered look focus f ns ≡ ns
  keeps_all (kind.Node (on_node.Class w)) most classes seen us ns is le have pass h = all_pass (passes look focus (on_node.Class w)) ns (have w (not_false (list_any (bytes_eq w) classes) h))
  keeps_all (kind.Node f) most classes seen us ns is le have pass h = all_pass (passes look focus f) ns (λ x there. pass us (not_false (list_any (bytes_eq us) seen) h) f is x there)
  keeps_all (kind.List on_list.First) most classes seen us ns is le have pass h = first_stays ns (one_stays most ns le h)
  keeps_all (kind.List on_list.Rest) most classes seen us ns is le have pass h = cc
  keeps_all (kind.List on_list.Even) most classes seen us ns is le have pass h = even_stays ns (one_stays most ns le h)
  keeps_all (kind.List on_list.Odd) most classes seen us ns is le have pass h = cc

  -- what is left of nodes passes what they passed
  pass_still : (f : StepFilter) (seen : List (List ℕ)) (ns : List ℕ) → Pass look focus seen ns → Pass look focus seen (filtered look focus f ns)
  pass_still f seen ns pass k there g is x h = pass k there g is x (filtered_is look focus f ns x h)

  -- and the filter too
  pass_more : (f : Filter) (seen : List (List ℕ)) (us : List ℕ) (ns : List ℕ) → filters_of us ≡ kind.Node f ∷ [] → Pass look focus seen ns → Pass look focus (seen ++ us ∷ []) (filter (passes look focus f) ns)
  pass_more f seen us ns are pass k there g is x h = ⊎_elim
      (λ before. pass k before g is x (kept_is (passes look focus f) ns x h))
      (λ now. ⊎_elim
      (λ same. subst (λ y. passes look focus y x ≡ true) (same_filter f g (sym are ∙ ap filters_of (sym ((bytes_decides k us).0 same)) ∙ is)) (kept_passes (passes look focus f) ns x h))
      (λ none. absurd (no_true none))
      (or_cases (bytes_eq k us) false now))
      (or_cases (list_any (bytes_eq k) seen) (list_any (bytes_eq k) (us ∷ [])) (sym (list_any-append (bytes_eq k) seen (us ∷ [])) ∙ there))

  pass_after : (f : StepFilter) (seen : List (List ℕ)) (us : List ℕ) (ns : List ℕ) → filters_of us ≡ f ∷ [] → Pass look focus seen ns → Pass look focus (seen_after f seen us) (filtered look focus f ns)
  pass_after (kind.Node (on_node.Class w)) seen us ns are pass = pass_still (kind.Node (on_node.Class w)) seen ns pass
  pass_after (kind.Node f) seen us ns are pass = by_test (list_any (bytes_eq us) seen)
    where
      by_test : (b : Bool) → Pass look focus (cond b seen (seen ++ us ∷ [])) (filter (passes look focus f) ns)
      by_test true = pass_still (kind.Node f) seen ns pass
      by_test false = pass_more f seen us ns are pass
  pass_after (kind.List f) seen us ns are pass = pass_still (kind.List f) seen ns pass

-- ## Filters that stand again

not_true : (b : Bool) → not b ≡ true → b ≡ false
not_true true h = sym h
not_true false h = refl

module _ (look : ℕ → Look) (focus : Option ℕ) where
  again_keeps : (f : StepFilter) (most : ℕ) (ns : List ℕ) → keeps_again f most ≡ true → length (filtered look focus f ns) ≤ most → filtered look focus f (filtered look focus f ns) ≡ filtered look focus f ns
  again_keeps (kind.Node f) most ns h le = all_pass (passes look focus f) (filter (passes look focus f) ns) (λ x there. kept_passes (passes look focus f) ns x there)
  again_keeps (kind.List on_list.First) most ns h le = first_stays (take 1 ns) (one_stays most (take 1 ns) le (not_true (nat_lt 1 most) h))
  again_keeps (kind.List on_list.Rest) most ns h le = absurd (no_true h)
  again_keeps (kind.List on_list.Even) most ns h le = even_stays (at_places 0 ns) (one_stays most (at_places 0 ns) le (not_true (nat_lt 1 most) h))
  again_keeps (kind.List on_list.Odd) most ns h le = absurd (no_true h)

-- filters that are left where those alike are not
record AlikeLeft (f : StepFilter) (us rest : List ℕ) : Type 0 where
  filters : AreFilters rest
  same : (look : ℕ → Look) (focus : Option ℕ) (ns : List ℕ) → filtered look focus f ns ≡ ns → all_filtered look focus (filters_of rest) ns ≡ all_filtered look focus (filters_of us) ns

alike_left : (f : StepFilter) {us rest : List ℕ} → AreAlike f us rest → AreFilters us → AlikeLeft f us rest
alike_left f none_alike are = record { filters = are; same = λ look focus ns h. refl }
alike_left f (one_alike {us = us} {vs = vs} {rest = rest} before one) are =
    let some = alike_left f before are in
    let next = first_filter vs rest f some.filters one in
    record {
      filters = next.1;
      same = λ look focus ns h.
          ap (λ l. all_filtered look focus (filters_of rest) l) (sym h)
          ∙ ap (λ fs. all_filtered look focus fs ns) (sym (next.0))
          ∙ some.same look focus ns h;
    }

module _ (us : List ℕ) (f : StepFilter) (end most : ℕ) (left : List ℕ) (is : IsFirst us f end) where
  pub leaves_alike : (to : ℕ) → StandAlike us f end to → keeps_again f most ≡ true → left ≡ drop to us → LeavesSame us f most left
  leaves_alike to stand again e =
      let some = alike_left f stand.alike is.others in
      subst (LeavesSame us f most) (sym e) (record {
        filters = some.filters;
        fewer = (let later = is.later in let order = stand.order in let inside = stand.inside in omega (arith, later, order, inside, length-drop to us));
        same = λ look focus ns le. some.same look focus (filtered look focus f ns) (again_keeps look focus f most ns again le) ∙ ap (λ fs. all_filtered look focus fs ns) (sym is.filters);
      })

  pub leaves_others : left ≡ drop end us → LeavesSame us f most left
  leaves_others e =
      subst (LeavesSame us f most) (sym e) (record {
        filters = is.others;
        fewer = (let later = is.later in let inside = is.inside in omega (arith, later, inside, length-drop end us));
        same = λ look focus ns le. ap (λ fs. all_filtered look focus fs ns) (sym is.filters);
      })

-- ## The filters that are kept

-- of the filters that units spell the rest is left, and those kept, with these classes, leave of at most so many nodes at most so many, which pass those seen
pub record Thins (nodes : ℕ) (units rest : List ℕ) (classes seen : List (List ℕ)) (kept : List StepFilter) (most : ℕ) : Type 0 where
  pub filters : AreFilters rest
  pub classed : classes ≡ class_words kept
  pub few : (look : ℕ → Look) (focus : Option ℕ) (ns : List ℕ) → length ns ≤ nodes → length (all_filtered look focus kept ns) ≤ most
  pub passed : (look : ℕ → Look) (focus : Option ℕ) (ns : List ℕ) → length ns ≤ nodes → Pass look focus seen (all_filtered look focus kept ns)
  pub same : (look : ℕ → Look) (focus : Option ℕ) (ns : List ℕ) → length ns ≤ nodes → all_filtered look focus (filters_of rest) (all_filtered look focus kept ns) ≡ all_filtered look focus (filters_of units) ns

pub thins_all : (nodes : ℕ) (units : List ℕ) → AreFilters units → Thins nodes units units [] [] [] nodes
thins_all nodes units are = record {
  filters = are;
  classed = refl;
  few = λ look focus ns le. le;
  passed = λ look focus ns le k there f is x h. absurd (no_true there);
  same = λ look focus ns le. refl;
}

-- what is kept after a filter leaves what the filter leaves
after : (look : ℕ → Look) (focus : Option ℕ) (kept : List StepFilter) (f : StepFilter) (b : Bool) (ns : List ℕ) → (b ≡ false → filtered look focus f (all_filtered look focus kept ns) ≡ all_filtered look focus kept ns) →
    all_filtered look focus (cond b (kept ++ f ∷ []) kept) ns ≡ filtered look focus f (all_filtered look focus kept ns)
after look focus kept f true ns h = one_more look focus kept f ns
after look focus kept f false ns h = sym (h refl)

-- and its words are those of what is kept
module _ (classes : List (List ℕ)) (kept : List StepFilter) (classed : classes ≡ class_words kept) where
  with_word : (f : StepFilter) → class_words (kept ++ f ∷ []) ≡ classes ++ class_word f
  with_word f = flat_map-append class_word kept (f ∷ []) ∙ (λ i. sym classed i ++ append-nil (class_word f) i)

  same_words : (f : StepFilter) (b : Bool) → class_word f ≡ [] → class_words (cond b (kept ++ f ∷ []) kept) ≡ classes
  same_words f true none = with_word f ∙ ap (λ l. classes ++ l) none ∙ append-nil classes
  same_words f false none = sym classed

  classed_after : (f : StepFilter) (most : ℕ) (seen : List (List ℕ)) (us : List ℕ) → class_words (cond (is_tried f most classes seen us) (kept ++ f ∷ []) kept) ≡ classes_after f classes
  classed_after (kind.Node (on_node.Class w)) most seen us = by_test (list_any (bytes_eq w) classes)
    where
      by_test : (b : Bool) → class_words (cond (not b) (kept ++ kind.Node (on_node.Class w) ∷ []) kept) ≡ cond b classes (classes ++ w ∷ [])
      by_test true = sym classed
      by_test false = with_word (kind.Node (on_node.Class w))
  classed_after f most seen us = same_words f (is_tried f most classes seen us) refl

module _ (nodes : ℕ) (units rest : List ℕ) (classes seen : List (List ℕ)) (kept : List StepFilter) (most : ℕ) (f : StepFilter) (end : ℕ) (left : List ℕ) (t : Thins nodes units rest classes seen kept most) (is : IsFirst rest f end) (s : LeavesSame rest f (most_left f most) left) where
  abbrev kept_after : List StepFilter
  kept_after = cond (is_tried f most classes seen (take end rest)) (kept ++ f ∷ []) kept

  leaves : (look : ℕ → Look) (focus : Option ℕ) (ns : List ℕ) → length ns ≤ nodes → all_filtered look focus kept_after ns ≡ filtered look focus f (all_filtered look focus kept ns)
  leaves look focus ns le = after look focus kept f (is_tried f most classes seen (take end rest)) ns
      (keeps_all look focus f most classes seen (take end rest) (all_filtered look focus kept ns) is.alone (t.few look focus ns le)
      (subst (λ l. HaveAll look focus l (all_filtered look focus kept ns)) (sym t.classed) (class_kept look focus kept ns)) (t.passed look focus ns le))

  thins_next : Thins nodes units left (classes_after f classes) (seen_after f seen (take end rest)) kept_after (most_left f most)
  thins_next = record {
    filters = s.filters;
    classed = sym (classed_after classes kept t.classed f most seen (take end rest));
    few = λ look focus ns le. subst (λ l. length l ≤ most_left f most) (sym (leaves look focus ns le)) (few_left look focus f (all_filtered look focus kept ns) most (t.few look focus ns le));
    passed = λ look focus ns le. subst (λ l. Pass look focus (seen_after f seen (take end rest)) l) (sym (leaves look focus ns le))
        (pass_after look focus f seen (take end rest) (all_filtered look focus kept ns) is.alone (t.passed look focus ns le));
    same = λ look focus ns le.
        ap (λ l. all_filtered look focus (filters_of left) l) (leaves look focus ns le)
        ∙ s.same look focus (all_filtered look focus kept ns) (few_left look focus f (all_filtered look focus kept ns) most (t.few look focus ns le))
        ∙ t.same look focus ns le;
  }

pub thins_more : (nodes : ℕ) (units rest : List ℕ) (classes seen : List (List ℕ)) (kept : List StepFilter) (most : ℕ) (f : StepFilter) (end : ℕ) (left : List ℕ) (more now : List (List ℕ)) (b : Bool) (longer : List StepFilter) (fewer : ℕ) →
    Thins nodes units rest classes seen kept most → IsFirst rest f end → LeavesSame rest f fewer left → more ≡ classes_after f classes → now ≡ seen_after f seen (take end rest) → b ≡ is_tried f most classes seen (take end rest) → longer ≡ cond b (kept ++ f ∷ []) kept → fewer ≡ most_left f most →
    Thins nodes units left more now longer fewer
thins_more nodes units rest classes seen kept most f end left more now b longer fewer t is s em en eb ek ef =
    let us = take end rest in
    subst (λ l. Thins nodes units left l now longer fewer) (sym em)
    (subst (λ l. Thins nodes units left (classes_after f classes) l longer fewer) (sym en)
    (subst (λ l. Thins nodes units left (classes_after f classes) (seen_after f seen us) l fewer) (sym (ek ∙ ap (λ c. cond c (kept ++ f ∷ []) kept) eb))
    (subst (λ l. Thins nodes units left (classes_after f classes) (seen_after f seen us) (cond (is_tried f most classes seen us) (kept ++ f ∷ []) kept) l) (sym ef)
    (thins_next nodes units rest classes seen kept most f end left t is (subst (λ m. LeavesSame rest f m left) ef s)))))

-- no filter is left, or no node
pub thins_done : (nodes : ℕ) (units rest : List ℕ) (classes seen : List (List ℕ)) (kept : List StepFilter) (most : ℕ) → Thins nodes units rest classes seen kept most → filters_of rest ≡ [] → KeepSame nodes (filters_of units) kept
thins_done nodes units rest classes seen kept most t none look focus ns le = ap (λ fs. all_filtered look focus fs (all_filtered look focus kept ns)) (sym none) ∙ t.same look focus ns le

pub thins_out : (nodes : ℕ) (units rest : List ℕ) (classes seen : List (List ℕ)) (kept : List StepFilter) (most : ℕ) → Thins nodes units rest classes seen kept most → most ≡ 0 → KeepSame nodes (filters_of units) kept
thins_out nodes units rest classes seen kept most t e look focus ns le =
    sym (nothing_left look focus (filters_of rest) (all_filtered look focus kept ns) (subst (λ m. length (all_filtered look focus kept ns) ≤ m) e (t.few look focus ns le)))
    ∙ t.same look focus ns le

-- ## One filter after the other

module _ (look : ℕ → Look) (focus : Option ℕ) where
  pub first_tried : (us : List ℕ) (f : StepFilter) (end : ℕ) (left : List ℕ) (ns list all : List ℕ) → IsFirst us f end → left ≡ drop end us → list ≡ filtered look focus f ns → all_filtered look focus (filters_of us) ns ≡ all → all_filtered look focus (filters_of left) list ≡ all
  first_tried us f end left ns list all is el en inv =
      ap (λ l. all_filtered look focus (filters_of left) l) en
      ∙ ap (λ l. all_filtered look focus (filters_of l) (filtered look focus f ns)) el
      ∙ ap (λ fs. all_filtered look focus fs ns) (sym is.filters)
      ∙ inv

  pub none_tried : (us ns all : List ℕ) → filters_of us ≡ [] → all_filtered look focus (filters_of us) ns ≡ all → ns ≡ all
  none_tried us ns all none inv = ap (λ fs. all_filtered look focus fs ns) (sym none) ∙ inv

pub fewer_units : (us : List ℕ) (f : StepFilter) (end : ℕ) (left : List ℕ) → IsFirst us f end → left ≡ drop end us → length left < length us
fewer_units us f end left is e = let later = is.later in let inside = is.inside in omega (arith, later, inside, ap length e, length-drop end us)
