-- The calls of the page that may be refused, at the image.
use Rattle.std.proofs.Common.{◌≡◌, ◌≢◌, ℕ, suc, ◌<◌, List, [], ◌∷◌, Bool, true, false, refl, sym, ap, ◌∙◌, map, length, cond, eqb, eqb-true, ne_eqb, arith, Some, None, ◌⊎◌, inl, inr, ⊎_elim, Result, OnOk, OnErr}
use Rattle.std.specs.Prelude.{is_some, slice_index}
use Rattle.std.specs.List.{fold}
use Rattle.std.specs.Option.{option_map_or}
use Rattle.std.proofs.lemmas.Bool.{or_cases}
use Rattle.plain_tree.specs.Trees.{Label}
use Rattle.tree_ops.specs.Labels.{is_text}
use Rattle.tree_ops.specs.Trees.{relabelled}
use Rattle.page_nodes.specs.Entries.{at}
use Rattle.page_nodes.specs.Moves as page
use Rattle.page_nodes.specs.Moves.{Detached, Puts, IsRelabelled, AreNodes}
use Rattle.page_tree.specs.declared.fault.PageFault.{PageFault}
use Rattle.page_tree.specs.declared.fault.PageFault.TheVariants as fault
use Rattle.page_tree.specs.declared.page.Page.{Page}
use Rattle.page_tree.specs.Pages.{nodes, root, SameRoots, MayPutAll, RefusesPut}
use Rattle.query_grammar.specs.Finds.{has_number}
use Rattle.widget_meaning.specs.Trees.{moved}
use Rattle.page_image.specs.Image.{owns, number, forest, HasRoot}
use Rattle.page_image.specs.Stays.{KeepsNodes, OthersStay}
use Rattle.page_image.specs.Targets.{is_text_at, takes}
use Rattle.page_image.proofs.Looks.{label_at, same_widget}
use Rattle.page_image.proofs.Moving.{puts_keep}
use Rattle.page_image.proofs.Pages.{is_node, keeps, others_stay, all_keep, all_stay, label_image, move_image, puts_parent}
use Rattle.page_image.proofs.Results.{either}
use Rattle.page_image.proofs.Taking.{index_has, may_not_take}

no_true : false ≡ true → ⊥
no_true e = cc

-- ## Lists of nodes

pub are_nodes : (p : Page) (w : ℕ) (ns : List ℕ) → ((n : ℕ) → has_number ns n ≡ true → owns p w n ≡ true) → AreNodes (nodes p) ns
are_nodes p w ns own i lt = is_node p w (slice_index ns i) (own (slice_index ns i) (index_has ns i lt))

-- a number of a list stands at a place
pub at_place : (ns : List ℕ) (n : ℕ) → has_number ns n ≡ true → (i : ℕ) × (i < length ns) × (slice_index ns i ≡ n)
at_place [] n h = absurd (no_true h)
at_place (m ∷ ns) n h = ⊎_elim
    (λ e. (0, omega arith, sym (eqb-true n m e)))
    (λ e. let q = at_place ns n e in (suc (q.0), omega (arith, q.1), q.2))
    (or_cases (eqb n m) (has_number ns n) h)

-- ## Labels

-- the tests on a text node read its label
pub is_text_there : (p : Page) (w n : ℕ) (b : Bool) → owns p w n ≡ true → is_text_at (forest p w) (number p w n) ≡ b → is_text (at (nodes p) n).label ≡ b
is_text_there p w n b h e = sym (ap (λ o. option_map_or is_text o false) (label_at p w n h)) ∙ e

module _ (old new : Page) (same : SameRoots old new) (w n : ℕ) (h : owns old w n ≡ true) where
  pub label_keeps : (l : Label) → IsRelabelled (nodes old) (nodes new) n l → KeepsNodes old new
  label_keeps l c = keeps old new same c.made c.owners

  pub label_others : (l : Label) → IsRelabelled (nodes old) (nodes new) n l → page.OthersStay (nodes old) (nodes new) n → OthersStay old new w
  label_others l c others = others_stay old new same w n h c.made c.owners (λ x _. ap is_some (c.parents x)) others

  -- an answer that may be want of memory
  pub label_either : {T E : Type 0} (r : Result T E) (l : Label) → OnOk r (IsRelabelled (nodes old) (nodes new) n l) → OnErr r (nodes new ≡ nodes old) → KeepsNodes old new
  label_either r l a b = either r (IsRelabelled (nodes old) (nodes new) n l) (nodes new ≡ nodes old) (KeepsNodes old new) (label_keeps l) (all_keep old new same) a b

  pub label_others_either : {T E : Type 0} (r : Result T E) (l : Label) → OnOk r (IsRelabelled (nodes old) (nodes new) n l) → OnErr r (nodes new ≡ nodes old) → page.OthersStay (nodes old) (nodes new) n → OthersStay old new w
  label_others_either r l a b others = either r (IsRelabelled (nodes old) (nodes new) n l) (nodes new ≡ nodes old) (OthersStay old new w) (λ c. label_others l c others) (λ e v lt ne. all_stay old new same e v lt) a b

  pub text_image : (home : HasRoot old w) (l : Label) → IsRelabelled (nodes old) (nodes new) n l → forest new w ≡ relabelled (number old w n) l (forest old w)
  text_image home l c = label_image old new same w home n (λ _. l) h c ∙ ap (λ o. option_map_or (λ _. relabelled (number old w n) l (forest old w)) o (forest old w)) (label_at old w n h)

  -- ## A node is detached

  pub detach_keeps : Detached (nodes old) (nodes new) n → KeepsNodes old new
  detach_keeps c = keeps old new same c.kept.made c.kept.owners

  pub detach_others : Detached (nodes old) (nodes new) n → page.OthersStay (nodes old) (nodes new) n → OthersStay old new w
  detach_others c others = others_stay old new same w n h c.kept.made c.kept.owners
      (λ x off. ap is_some (c.parents x ∙ ap (λ b. cond b None (at (nodes old) x).parent) (ne_eqb x n (λ e. no_true (sym off ∙ ap (owns old w) e ∙ h))))) others

-- ## Nodes are put under a target

module _ (old new : Page) (same : SameRoots old new) (w : ℕ) (home : HasRoot old w) (t : ℕ) (ht : owns old w t ≡ true) (ns : List ℕ) (own : (n : ℕ) → has_number ns n ≡ true → owns old w n ≡ true) where
  -- none of them is the root
  no_root : MayPutAll (nodes old) (root old) t ns → (n : ℕ) → has_number ns n ≡ true → n ≢ home.root
  no_root c n l e =
      let q = at_place ns n l in
      (c.inside (q.0) (q.1)).no_root (same_widget old w home (slice_index ns (q.0)) (own (slice_index ns (q.0)) (index_has ns (q.0) (q.1))) ∙ ap Some (sym e ∙ sym (q.2)))

  pub append_image : MayPutAll (nodes old) (root old) t ns → Puts (nodes old) t None ns (nodes new) → forest new w ≡ fold (moved (number old w t) None) (forest old w) (map (number old w) ns)
  append_image c puts = move_image old new same w home t ns ht c.open_target (λ n l. (own n l, no_root c n l)) puts

  other : (x : ℕ) → owns old w x ≡ false → (n : ℕ) → has_number ns n ≡ true → x ≢ n
  other x off n l e = no_true (sym off ∙ ap (owns old w) e ∙ own n l)

  pub append_keeps : {T E : Type 0} (r : Result T E) → OnOk r (Puts (nodes old) t None ns (nodes new)) → OnErr r (nodes new ≡ nodes old) → KeepsNodes old new
  append_keeps r a b = either r (Puts (nodes old) t None ns (nodes new)) (nodes new ≡ nodes old) (KeepsNodes old new) (λ c. let q = puts_keep (nodes old) t None (nodes new) ns c in keeps old new same q.made q.owners) (all_keep old new same) a b

  pub append_others : {T E : Type 0} (r : Result T E) → OnOk r (Puts (nodes old) t None ns (nodes new)) → OnErr r (nodes new ≡ nodes old) → page.OthersStay (nodes old) (nodes new) t → OthersStay old new w
  append_others r a b others = either r (Puts (nodes old) t None ns (nodes new)) (nodes new ≡ nodes old) (OthersStay old new w)
      (λ c. let q = puts_keep (nodes old) t None (nodes new) ns c in others_stay old new same w t ht q.made q.owners (λ x off. ap is_some (puts_parent (nodes old) t None (nodes new) ns x c (other x off))) others)
      (λ e v lt ne. all_stay old new same e v lt) a b

  pub append_refused : (e : PageFault) → RefusesPut (nodes old) (root old) t ns e → (e ≡ fault.Memory) ⊎ (takes (forest old w) (map (number old w) ns) (number old w t) ≡ false)
  append_refused fault.Memory c = inl refl
  append_refused fault.NotInside c = inr (may_not_take old w home t ht ns own fault.NotInside c)
  append_refused fault.TooDeep c = inr (may_not_take old w home t ht ns own fault.TooDeep c)
  append_refused (fault.Nodes kept) c = absurd c
