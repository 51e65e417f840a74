-- Where nodes may go, as the page judges it and as the meaning does.
use Rattle.std.proofs.Common.{◌≡◌, ℕ, zero, suc, ◌+◌, ◌<◌, ◌≤◌, List, [], ◌∷◌, Bool, true, false, not, ◌&&◌, refl, sym, ap, ◌∙◌, map, length, ◌||◌, eqb, eq-eqb, ne_eqb, arith, Option, Some, ⊎_elim, Result, Ok, Err}
use Rattle.std.specs.Prelude.{slice_index, nat_eq, nat_le, unwrap_or, option_and_then, MatchResult}
use Rattle.std.specs.List.{list_all}
use Rattle.std.specs.Option.{option_map_or}
use Rattle.std.specs.Result.{is_ok}
use Rattle.std.proofs.lemmas.Bool.{le-leb}
use Rattle.std.proofs.lemmas.Bool.Decides.{nat_tests}
use Rattle.plain_tree.specs.Names as names
use Rattle.plain_tree.specs.Trees.{Label, TextOf, ElementOf, height}
use Rattle.tree_ops.specs.Labels.{is_leaf, is_text, tag_of}
use Rattle.tree_ops.specs.Trees.{has, subtree}
use Rattle.page_nodes.specs.Entries.{at}
use Rattle.page_nodes.specs.Moves.{IsDepth}
use Rattle.page_nodes.proofs.Walk.{limit_is}
use Rattle.page_tree.specs.declared.fault.PageFault.{PageFault}
use Rattle.page_tree.specs.declared.fault.PageFault.TheVariants as fault
use Rattle.page_tree.specs.declared.page.Page.{Page}
use Rattle.page_tree.specs.Pages.{nodes, root, IsInside, IsNotInside, IsLow, IsTooDeep, MayPutAll, RefusesAll, SomeNode, AreNotInside}
use Rattle.query_grammar.specs.Finds.{has_number}
use Rattle.widget_meaning.specs.Trees.{depth_of}
use Rattle.page_image.specs.Image.{owns, number, forest, HasRoot}
use Rattle.page_image.specs.Targets.{is_text_at, is_void_at, may_go, takes}
use Rattle.page_image.proofs.Looks.{label_at, has_at, height_at, depth_at, root_number, same_widget, one_widget}

no_true : false ≡ true → ⊥
no_true e = cc

-- a leaf by the meaning's two tests
leaf_is : (l : Label) → (not (is_text l) && not (names.is_void (unwrap_or (tag_of l) []))) ≡ not (is_leaf l)
leaf_is (TextOf t) = refl
leaf_is (ElementOf tag attributes) = refl

all_pass : (p : ℕ → Bool) (f : ℕ → ℕ) (ns : List ℕ) → ((i : ℕ) → i < length ns → p (f (slice_index ns i)) ≡ true) → list_all p (map f ns) ≡ true
all_pass p f [] h = refl
all_pass p f (n ∷ ns) h = ap (λ b. b && list_all p (map f ns)) (h 0 (omega arith)) ∙ all_pass p f ns (λ i lt. h (suc i) (omega (arith, lt)))

some_fails : (p : ℕ → Bool) (f : ℕ → ℕ) (ns : List ℕ) (i : ℕ) → i < length ns → p (f (slice_index ns i)) ≡ false → list_all p (map f ns) ≡ false
some_fails p f [] i lt e = absurd (omega (arith, lt))
some_fails p f (n ∷ ns) zero lt e = ap (λ b. b && list_all p (map f ns)) e
some_fails p f (n ∷ ns) (suc i) lt e = ap (λ b. p (f n) && b) (some_fails p f ns i (omega (arith, lt)) e) ∙ no_and (p (f n))
  where
    no_and : (b : Bool) → (b && false) ≡ false
    no_and true = refl
    no_and false = refl

three : (a b c : Bool) → a ≡ true → b ≡ true → c ≡ true → (a && b && c) ≡ true
three a b c x y z = ap (λ e. e && b && c) x ∙ ap (λ e. e && c) y ∙ z

pub index_has : (ns : List ℕ) (i : ℕ) → i < length ns → has_number ns (slice_index ns i) ≡ true
index_has [] i lt = absurd (omega (arith, lt))
index_has (n ∷ ns) zero lt = first (eqb n n) (eq n)
  where
    eq : (n : ℕ) → eqb n n ≡ true
    eq n = grind (arith, nat_tests)

    first : (a : Bool) → a ≡ true → (a || has_number ns n) ≡ true
    first true e = refl
    first false e = cc
index_has (n ∷ ns) (suc i) lt = last (eqb (slice_index ns i) n) (index_has ns i (omega (arith, lt)))
  where
    last : (a : Bool) {b : Bool} → b ≡ true → (a || b) ≡ true
    last true e = refl
    last false e = e

module _ (p : Page) (w : ℕ) (home : HasRoot p w) (t : ℕ) (ht : owns p w t ≡ true) where
  f : ℕ → ℕ
  f = number p w

  deep : IsDepth (nodes p) t (depth_of (number p w t) (forest p w) + 1)
  deep = depth_at p w t ht

  -- ## One node

  goes : (n : ℕ) → owns p w n ≡ true → IsInside (nodes p) (root p) t n → IsLow (nodes p) t n → may_go (forest p w) (number p w t) (number p w n) ≡ true
  goes n h i low = three _ _ _
      (ap not (root_number p w home n h ∙ other (eqb-false_from n home.root (λ e. i.no_root (same_widget p w home n h ∙ ap Some (sym e))))))
      (ap not (has_at p w t n ht h ∙ i.apart))
      (below (depth_of (number p w t) (forest p w) + height (subtree (number p w n) (forest p w))) fits)
    where
      other : {b : Bool} → b ≡ false → b ≡ false
      other e = e

      eqb-false_from : (a b : ℕ) → (a ≡ b → ⊥) → eqb a b ≡ false
      eqb-false_from a b ne = ne_eqb a b ne

      below : (x : ℕ) → x ≤ 200 → nat_le x 200 ≡ true
      below x le = le-leb x 200 le

      fits : depth_of (number p w t) (forest p w) + height (subtree (number p w n) (forest p w)) ≤ 200
      fits = ⊎_elim
          (λ b. let z : depth_of (number p w t) (forest p w) + 1 ≡ 0 = b.1 in absurd (omega (arith, z)))
          (λ x. omega (arith, x.2, low (x.0) (x.1), height_at p w n h, limit_is))
          deep.reached

  stays : (n : ℕ) → owns p w n ≡ true → IsNotInside (nodes p) (root p) t n → may_go (forest p w) (number p w t) (number p w n) ≡ false
  stays n h c = ⊎_elim
      (λ e. second (not (nat_eq (number p w n) 0)) (not (has (number p w t) (subtree (number p w n) (forest p w)))) _ (ap not (has_at p w t n ht h ∙ e)))
      (λ d. ⊎_elim
      (λ ne. absurd (ne (one_widget p w t n ht h)))
      (λ e. first (not (nat_eq (number p w n) 0)) _ _ (ap not (root_number p w home n h ∙ eq-eqb n home.root (some_is n home.root (sym e ∙ same_widget p w home n h)))))
      d)
      c
    where
      first : (a b c : Bool) → a ≡ false → (a && b && c) ≡ false
      first a b c e = ap (λ x. x && b && c) e

      second : (a b c : Bool) → b ≡ false → (a && b && c) ≡ false
      second true b c e = ap (λ x. x && c) e
      second false b c e = refl

      some_is : (a b : ℕ) → ◌≡◌ {A = Option ℕ} (Some a) (Some b) → a ≡ b
      some_is a b h = cc

  sinks : (n : ℕ) → owns p w n ≡ true → IsTooDeep (nodes p) t n → may_go (forest p w) (number p w t) (number p w n) ≡ false
  sinks n h c = third (not (nat_eq (number p w n) 0)) (not (has (number p w t) (subtree (number p w n) (forest p w)))) _ (above (depth_of (number p w t) (forest p w) + height (subtree (number p w n) (forest p w))) (omega (arith, c.2, deep.most (c.0) (c.1), height_at p w n h, limit_is)))
    where
      third : (a b c : Bool) → c ≡ false → (a && b && c) ≡ false
      third true true c e = e
      third true false c e = refl
      third false b c e = refl

      above : (x : ℕ) → 200 < x → nat_le x 200 ≡ false
      above x lt = grind (arith, nat_tests, lt)

  -- ## All of them

  module _ (ns : List ℕ) (own : (n : ℕ) → has_number ns n ≡ true → owns p w n ≡ true) where
    target_is : (not (is_text_at (forest p w) (number p w t)) && not (is_void_at (forest p w) (number p w t))) ≡ not (is_leaf (at (nodes p) t).label)
    target_is = ap (λ o. not (option_map_or is_text o false) && not (names.is_void (unwrap_or (option_and_then tag_of o) []))) (label_at p w t ht) ∙ leaf_is (at (nodes p) t).label

    regroup : (a b c : Bool) → (a && b && c) ≡ ((a && b) && c)
    regroup true b c = refl
    regroup false b c = refl

    takes_is : takes (forest p w) (map (number p w) ns) (number p w t) ≡ (not (is_leaf (at (nodes p) t).label) && list_all (may_go (forest p w) (number p w t)) (map (number p w) ns))
    takes_is = regroup (not (is_text_at (forest p w) (number p w t))) (not (is_void_at (forest p w) (number p w t))) (list_all (may_go (forest p w) (number p w t)) (map (number p w) ns)) ∙ ap (λ b. b && list_all (may_go (forest p w) (number p w t)) (map (number p w) ns)) target_is

    pub may_take : MayPutAll (nodes p) (root p) t ns → takes (forest p w) (map (number p w) ns) (number p w t) ≡ true
    may_take c =
        takes_is
        ∙ ap (λ b. not b && list_all (may_go (forest p w) (number p w t)) (map (number p w) ns)) c.open_target
        ∙ all_pass (may_go (forest p w) (number p w t)) (number p w) ns (λ i lt. goes (slice_index ns i) (own (slice_index ns i) (index_has ns i lt)) (c.inside i lt) (c.low i lt))

    no_take : (a b : Bool) → b ≡ false → (a && b) ≡ false
    no_take true b e = e
    no_take false b e = refl

    pub not_inside : AreNotInside (nodes p) (root p) t ns → takes (forest p w) (map (number p w) ns) (number p w t) ≡ false
    not_inside c = takes_is ∙ ⊎_elim
        (λ e. ap (λ b. not b && list_all (may_go (forest p w) (number p w t)) (map (number p w) ns)) e)
        (λ q. no_take _ _ (some_fails (may_go (forest p w) (number p w t)) (number p w) ns (q.0) (q.1) (stays (slice_index ns (q.0)) (own (slice_index ns (q.0)) (index_has ns (q.0) (q.1))) (q.2))))
        c

    pub too_deep : SomeNode ns (IsTooDeep (nodes p) t) → takes (forest p w) (map (number p w) ns) (number p w t) ≡ false
    too_deep q = takes_is ∙ no_take _ _ (some_fails (may_go (forest p w) (number p w t)) (number p w) ns (q.0) (q.1) (sinks (slice_index ns (q.0)) (own (slice_index ns (q.0)) (index_has ns (q.0) (q.1))) (q.2)))

    pub may_not_take : (e : PageFault) → RefusesAll (nodes p) (root p) t ns e → takes (forest p w) (map (number p w) ns) (number p w t) ≡ false
    may_not_take fault.NotInside c = not_inside c
    may_not_take fault.TooDeep c = too_deep (c.1)
    may_not_take fault.Memory c = absurd c
    may_not_take (fault.Nodes kept) c = absurd c

    -- the page's answer
    pub judged : {T : Type 0} (r : Result T PageFault) → MatchResult r (λ _. MayPutAll (nodes p) (root p) t ns) (RefusesAll (nodes p) (root p) t ns) → is_ok r ≡ takes (forest p w) (map (number p w) ns) (number p w t)
    judged (Ok x) c = sym (may_take c)
    judged (Err e) c = sym (may_not_take e c)
