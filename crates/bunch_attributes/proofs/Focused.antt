-- The focus, as it changes.
use Rattle.std.proofs.Common.{◌≡◌, ◌≢◌, ℕ, List, [], ◌∷◌, Bool, true, false, refl, sym, ap, ◌∙◌, subst, map, length, get_or, Option, None, Some, arith, if◌then◌else◌}
use Rattle.std.specs.List.{AllByRecursion}
use Rattle.js_tree.specs.Forest.{Forest}
use Rattle.store_cells.specs.Cells.{Cells, own_count}
use Rattle.query_grammar.specs.Finds.{has_number}
use Rattle.query_grammar.specs.Renumbering.{renumbered}
use Rattle.widget_meaning.specs.BunchWrites.{focus, left_focus, with_focus}
use Rattle.widget_meaning.specs.Costs.{give, throw}
use Rattle.widget_meaning.specs.OwnState.{State}
use Rattle.widget_meaning.specs.Plan.{charge}
use Rattle.widget_meaning.specs.Values.{E4, Value}
use Rattle.page_tree.specs.declared.page.Page.{Page}
use Rattle.page_image.specs.Held.{OptionIn}
use Rattle.page_image.specs.Image.{number, owns}
use Rattle.event_loop.specs.declared.around.Loop.{Loop}
use Rattle.event_loop.specs.Around as around
use Rattle.event_loop.specs.Around.{SameKept}
use Rattle.event_loop.specs.Kept.{PlainKept}
use Rattle.page_image.specs.Around.{Shows}
use Rattle.page_image.proofs.States.{focus_shows}
use Rattle.native_image.specs.Image.{Outside, beside, image}
use Rattle.native_image.specs.Sound.{HoldsOwn, IsOwnCell}
use Rattle.native_image.proofs.Lists.{has_own}
use Rattle.native_image.proofs.Working.{loop_lift}

module _ (w : ℕ) (s : Cells) (p : Page) (old new : Loop) (node : Option ℕ) (mine : OptionIn (owns p w) node) (e : around.focus new ≡ node) (same : SameKept old new) (timers : around.timers new ≡ around.timers old) where
  pub holds_focus : HoldsOwn w s p old → HoldsOwn w s p new
  holds_focus h = record {
    home = h.home;
    bunches = h.bunches;
    handlers = λ n. subst (λ (k : PlainKept). AllByRecursion (λ a. IsOwnCell w s.cells a.1) k.handlers) (sym (same n)) (h.handlers n);
    timers = subst (λ ts. AllByRecursion (λ t. IsOwnCell w s.cells t.func) ts) (sym timers) h.timers;
    focus = subst (OptionIn (owns p w)) (sym e) mine;
    elsewhere = λ n off. same n ∙ h.elsewhere n off;
  }

-- the image of another focus
pub focus_lift : (w : ℕ) (fs : List Forest) (x : Outside) (s : Cells) (p : Page) (old new : Loop) (b : Option Bool) (o : Option ℕ) → Shows p w (own_count w s.cells) new (with_focus o (image fs x w (beside s p old b))).own → image fs x w (beside s p new b) ≡ with_focus o (image fs x w (beside s p old b))
focus_lift w fs x s p old new b o shows = loop_lift w fs x s p old new b (image fs x w (beside s p old b)).own.kept o shows

-- ## `focus`

one_node : (list : List ℕ) → length list ≡ 1 → list ≡ get_or list 0 0 ∷ []
one_node [] e = absurd (omega (arith, e))
one_node (n ∷ []) e = refl
one_node (n ∷ m ∷ ns) e = absurd (omega (arith, e))

pub focus_one : (f : ℕ → ℕ) (list : List ℕ) (v : Value) (s : State) → length list ≡ 1 → focus (map f list) v s ≡ charge 1 s (give v (with_focus (Some (f (get_or list 0 0))) s))
focus_one f list v s e = ap (λ l. focus (map f l) v s) (one_node list e)

pub focus_other : (f : ℕ → ℕ) (list : List ℕ) (v : Value) (s : State) → length list ≢ 1 → focus (map f list) v s ≡ throw E4 s
focus_other f [] v s e = refl
focus_other f (n ∷ []) v s e = absurd (e refl)
focus_other f (n ∷ m ∷ ns) v s e = refl

-- ## `blur`

-- nothing changes where the focus is not among the nodes
pub left_other : (p : Page) (w : ℕ) (g : ℕ → ℕ) (l : Loop) (s : State) (ns : List ℕ) (n : ℕ) → ((m : ℕ) → has_number ns m ≡ true → owns p w m ≡ true) → around.focus l ≡ Some n → has_number ns n ≡ false → Shows p w g l s.own → Shows p w g l (with_focus (left_focus s.own.focus (map (number p w) ns)) s).own
left_other p w g l s ns n own e off shows =
    let mine : owns p w n ≡ true = subst (OptionIn (owns p w)) e shows.mine in
    let f : s.own.focus ≡ Some (number p w n) = shows.focused ∙ ap (renumbered (number p w)) e in
    let h : left_focus s.own.focus (map (number p w) ns) ≡ Some (number p w n) = ap (λ o. left_focus o (map (number p w) ns)) f ∙ ap (λ b. if b then None else Some (number p w n)) (has_own p w ns n own mine ∙ off) in
    subst (λ o. Shows p w g l (record s.own { focus = o })) (f ∙ sym h) shows

pub left_one : (p : Page) (w : ℕ) (g : ℕ → ℕ) (l new : Loop) (s : State) (ns : List ℕ) (n : ℕ) → ((m : ℕ) → has_number ns m ≡ true → owns p w m ≡ true) → around.focus l ≡ Some n → has_number ns n ≡ true → around.focus new ≡ None → SameKept l new → around.timers new ≡ around.timers l → around.clock new ≡ around.clock l → Shows p w g l s.own → Shows p w g new (with_focus (left_focus s.own.focus (map (number p w) ns)) s).own
left_one p w g l new s ns n own e on none same timers clock shows =
    let mine : owns p w n ≡ true = own n on in
    let f : s.own.focus ≡ Some (number p w n) = shows.focused ∙ ap (renumbered (number p w)) e in
    let h : left_focus s.own.focus (map (number p w) ns) ≡ None = ap (λ o. left_focus o (map (number p w) ns)) f ∙ ap (λ b. if b then None else Some (number p w n)) (has_own p w ns n own mine ∙ on) in
    subst (λ o. Shows p w g new (record s.own { focus = o })) (sym h) (focus_shows p w g l new s.own None tt none same timers clock shows)
