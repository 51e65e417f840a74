-- Which targets take nodes, as the page judges it for several at once.
use Rattle.std.proofs.Common.{◌≡◌, ℕ, zero, suc, ◌<◌, List, [], ◌∷◌, Bool, true, false, ◌&&◌, sym, ap, ◌∙◌, refl, arith, length, map, ⊎_elim}
use Rattle.std.specs.Prelude.{MatchBool, slice_index}
use Rattle.std.specs.List.{list_all}
use Rattle.code_units.specs.declared.owner.Owner.TheVariants as owner
use Rattle.page_nodes.specs.Entries.{at}
use Rattle.page_nodes.proofs.Owners.{same_is}
use Rattle.page_tree.specs.declared.page.Page.{Page}
use Rattle.page_tree.specs.Pages.{nodes, root, MayPutAll, MayNotPutAll, SomeNode}
use Rattle.query_grammar.specs.Finds.{has_number}
use Rattle.page_image.specs.Image.{HasRoot, forest, number, owns}
use Rattle.page_image.specs.Targets.{takes}
use Rattle.page_image.proofs.Taking.{index_has, may_take, not_inside, too_deep}

widget_is : (p : Page) (w n : ℕ) → owns p w n ≡ true → (at (nodes p) n).owner ≡ owner.Widget w
unfolding owns
widget_is p w n h = same_is (at (nodes p) n).owner (owner.Widget w) h

pub widgets_own : (p : Page) (w : ℕ) (ns : List ℕ) → ((n : ℕ) → has_number ns n ≡ true → owns p w n ≡ true) → (i : ℕ) → i < length ns → (at (nodes p) (slice_index ns i)).owner ≡ owner.Widget w
widgets_own p w ns own i lt = widget_is p w (slice_index ns i) (own (slice_index ns i) (index_has ns i lt))

all_pass : (p : ℕ → Bool) (f : ℕ → ℕ) (ns : List ℕ) → ((i : ℕ) → i < length ns → p (f (slice_index ns i)) ≡ true) → list_all p (map f ns) ≡ true
all_pass p f [] h = refl
all_pass p f (n ∷ ns) h = ap (λ b. b && list_all p (map f ns)) (h 0 (omega arith)) ∙ all_pass p f ns (λ i lt. h (suc i) (omega (arith, lt)))

some_fails : (p : ℕ → Bool) (f : ℕ → ℕ) (ns : List ℕ) (i : ℕ) → i < length ns → p (f (slice_index ns i)) ≡ false → list_all p (map f ns) ≡ false
some_fails p f [] i lt e = absurd (omega (arith, lt))
some_fails p f (n ∷ ns) zero lt e = ap (λ b. b && list_all p (map f ns)) e
some_fails p f (n ∷ ns) (suc i) lt e = ap (λ b. p (f n) && b) (some_fails p f ns i (omega (arith, lt)) e) ∙ no_and (p (f n))
  where
    no_and : (b : Bool) → (b && false) ≡ false
    no_and true = refl
    no_and false = refl

module _ (p : Page) (w : ℕ) (home : HasRoot p w) (ts ns : List ℕ) (targets : (n : ℕ) → has_number ts n ≡ true → owns p w n ≡ true) (news : (n : ℕ) → has_number ns n ≡ true → owns p w n ≡ true) where
  own : (j : ℕ) → j < length ts → owns p w (slice_index ts j) ≡ true
  own j lt = targets (slice_index ts j) (index_has ts j lt)

  pub all_judged : (b : Bool) → MatchBool b ((j : ℕ) → j < length ts → MayPutAll (nodes p) (root p) (slice_index ts j) ns) (SomeNode ts (MayNotPutAll (nodes p) (root p) ns)) → b ≡ list_all (takes (forest p w) (map (number p w) ns)) (map (number p w) ts)
  all_judged true all = sym (all_pass (takes (forest p w) (map (number p w) ns)) (number p w) ts (λ j lt. may_take p w home (slice_index ts j) (own j lt) ns news (all j lt)))
  all_judged false some = sym (some_fails (takes (forest p w) (map (number p w) ns)) (number p w) ts (some.0) (some.1)
      (⊎_elim (λ e. not_inside p w home (slice_index ts (some.0)) (own (some.0) (some.1)) ns news e) (λ e. too_deep p w home (slice_index ts (some.0)) (own (some.0) (some.1)) ns news e) (some.2)))
