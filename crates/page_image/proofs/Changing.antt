-- What is kept for a widget, as the page changes.
use Rattle.std.proofs.Common.{◌≡◌, ℕ, List, [], ◌∷◌, ◌++◌, Bool, true, false, refl, sym, ap, ◌∙◌, subst, map, length, replicate, eqb, eq-eqb, Option, Some, None, Result, Ok, Err, IfOk}
use Rattle.query_grammar.specs.Finds.{has_number}
use Rattle.query_grammar.specs.Renumbering.{renumbered}
use Rattle.tree_ops.proofs.Tests.{cases, or_left, or_right}
use Rattle.widget_meaning.specs.OwnState.{OwnState, Kept, nothing_kept}
use Rattle.page_tree.specs.declared.page.Page.{Page}
use Rattle.page_image.specs.Held.{OptionIn}
use Rattle.page_image.specs.Image.{owns, number, own, forest}
use Rattle.page_image.specs.Stays.{KeepsNodes, Grows}
use Rattle.event_loop.specs.declared.around.Loop.{Loop}
use Rattle.event_loop.specs.Kept.{nothing}
use Rattle.event_loop.specs.Around as around
use Rattle.page_image.specs.Around.{Shows, kept_of, timer_of}

no_true : false ≡ true → ⊥
no_true e = cc

same_number : (q : ℕ → Bool) (f h : ℕ → ℕ) → ((n : ℕ) → q n ≡ true → f n ≡ h n) → (o : Option ℕ) → OptionIn q o → renumbered f o ≡ renumbered h o
same_number q f h e None i = refl
same_number q f h e (Some n) i = ap Some (e n i)

still_in : (q r : ℕ → Bool) → ((n : ℕ) → q n ≡ true → r n ≡ true) → (o : Option ℕ) → OptionIn q o → OptionIn r o
still_in q r e None i = tt
still_in q r e (Some n) i = e n i

map_both : {A B : Type 0} (f : A → B) (xs ys : List A) → map f (xs ++ ys) ≡ map f xs ++ map f ys
map_both f [] ys = refl
map_both f (x ∷ xs) ys = ap (λ l. f x ∷ l) (map_both f xs ys)

-- with nodes with which nothing is kept
pub nothing_there : (g : ℕ → ℕ) (l : Loop) (ns : List ℕ) → ((n : ℕ) → has_number ns n ≡ true → around.kept l n ≡ nothing) → replicate (length ns) nothing_kept ≡ map (λ n. kept_of g (around.kept l n)) ns
nothing_there g l [] h = refl
nothing_there g l (n ∷ ns) h =
    ap (λ (k : Kept). k ∷ replicate (length ns) nothing_kept) (sym (ap (kept_of g) (h n (or_left (eqb n n) (has_number ns n) (eq-eqb n n refl)))))
    ∙ ap (λ ks. kept_of g (around.kept l n) ∷ ks) (nothing_there g l ns (λ m e. h m (or_right (eqb m n) (has_number ns m) e)))

-- no node comes and none goes
pub stays : (old new : Page) (w : ℕ) (g : ℕ → ℕ) (l : Loop) (o : OwnState) → KeepsNodes old new → Shows old w g l o → Shows new w g l (record o { forest = forest new w })
stays old new w g l o keeps shows = record {
  trees = refl;
  notes = shows.notes ∙ ap (map (λ n. kept_of g (around.kept l n))) (sym (keeps.nodes w));
  waiting = shows.waiting;
  time = shows.time;
  focused = shows.focused ∙ sym (same_number (owns old w) (number new w) (number old w) (λ n h. keeps.numbers w n) (around.focus l) shows.mine);
  mine = still_in (owns old w) (owns new w) (λ n h. keeps.owners w n ∙ h) (around.focus l) shows.mine;
  elsewhere = λ n h. shows.elsewhere n (sym (keeps.owners w n) ∙ h);
}

-- nodes come, and nothing is kept with them
pub grows : (old new : Page) (w : ℕ) (news : List ℕ) (g : ℕ → ℕ) (l : Loop) (o : OwnState) → Grows old new w news → Shows old w g l o → Shows new w g l (record o { forest = forest new w; kept = o.kept ++ replicate (length news) nothing_kept })
grows old new w news g l o more shows = record {
  trees = refl;
  notes =
      ap (λ ks. ks ++ replicate (length news) nothing_kept) shows.notes
      ∙ ap (λ ks. map (λ n. kept_of g (around.kept l n)) (own old w) ++ ks) (nothing_there g l news (λ n h. shows.elsewhere n (more.fresh w n h)))
      ∙ sym (map_both (λ n. kept_of g (around.kept l n)) (own old w) news)
      ∙ ap (map (λ n. kept_of g (around.kept l n))) (sym more.nodes);
  waiting = shows.waiting;
  time = shows.time;
  focused = shows.focused ∙ sym (same_number (owns old w) (number new w) (number old w) (λ n h. more.numbers w n h) (around.focus l) shows.mine);
  mine = still_in (owns old w) (owns new w) (λ n h. more.owners w n h) (around.focus l) shows.mine;
  elsewhere = λ n h. shows.elsewhere n (cases (λ b. owns old w n ≡ b → b ≡ false) (owns old w n) (λ e _. absurd (no_true (sym h ∙ more.owners w n e))) (λ _ _. refl) refl);
}

-- of a new loop
pub begins : (p : Page) (w : ℕ) (g : ℕ → ℕ) (l : Loop) (o : OwnState) → ((n : ℕ) → around.kept l n ≡ nothing) → around.timers l ≡ [] → around.clock l ≡ 0 → around.focus l ≡ None → Shows p w g l (record o { forest = forest p w; kept = replicate (length (own p w)) nothing_kept; timers = []; clock = 0; focus = None })
begins p w g l o none et ec ef = record {
  trees = refl;
  notes = nothing_there g l (own p w) (λ n _. none n);
  waiting = ap (map (timer_of g)) (sym et);
  time = sym ec;
  focused = ap (renumbered (number p w)) (sym ef);
  mine = subst (OptionIn (owns p w)) (sym ef) tt;
  elsewhere = λ n _. none n;
}

pub new_shows : {E : Type 0} (p : Page) (w : ℕ) (r : Result Loop E) → IfOk r (λ l. (n : ℕ) → around.kept l n ≡ nothing) → IfOk r (λ l. around.timers l ≡ []) → IfOk r (λ l. around.clock l ≡ 0) → IfOk r (λ l. around.focus l ≡ None) → IfOk r (λ l. (g : ℕ → ℕ) (o : OwnState) → Shows p w g l (record o { forest = forest p w; kept = replicate (length (own p w)) nothing_kept; timers = []; clock = 0; focus = None }))
new_shows p w (Ok l) none et ec ef = λ g o. begins p w g l o none et ec ef
new_shows p w (Err e) none et ec ef = none
