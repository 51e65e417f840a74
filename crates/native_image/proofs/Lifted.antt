-- The image as a widget pays and gets nodes.
use Rattle.std.proofs.Common.{◌≡◌, ℕ, ◌+◌, ◌<◌, List, [], ◌∷◌, ◌++◌, Bool, true, false, refl, sym, ap, ◌∙◌, map, length, length-append, Option, None, Some, arith, if◌then◌else◌}
use Rattle.std.specs.Prelude.{nat_lt, replicate}
use Rattle.std.specs.List.{AllByRecursion}
use Rattle.std.proofs.lemmas.List.{length-map}
use Rattle.std.proofs.lemmas.Bool.{ltb-true}
use Rattle.std.proofs.lemmas.Bool.Decides.{nat_tests}
use Rattle.js_tree.specs.Forest.{Forest}
use Rattle.plain_tree.specs.Trees.{End, Label, Node, PlainTrees, Trees, marked, size, beside as after}
use Rattle.tree_ops.specs.Trees.{numbered}
use Rattle.store_cells.specs.declared.value.Value.{Value}
use Rattle.widget_meaning.specs.Values.{Own, Value as Meant}
use Rattle.widget_meaning.specs.BunchReads.{with_bunch}
use Rattle.store_cells.specs.Cells.{Cells, own_count}
use Rattle.store_cells.specs.declared.counts.Counts.{Counts}
use Rattle.object_store.specs.Owned as cells
use Rattle.object_store.specs.Owned.{OwnCell, OwnKind, owned}
use Rattle.widget_meaning.specs.OwnState as state
use Rattle.widget_meaning.specs.OwnState.{Amounts, OwnState, State, nothing_kept, new_bunch, with_forest, with_new_cell}
use Rattle.widget_meaning.specs.PageForms.{next_node, with_node, with_room}
use Rattle.widget_meaning.specs.Plan.{Plan}
use Rattle.widget_meaning.specs.Costs.{pay, units_cost, with_counts}
use Rattle.widget_meaning.specs.Trees.{among, with_detached}
use Rattle.page_nodes.specs.Owners.{is_owner}
use Rattle.page_tree.specs.declared.page.Page.{Page}
use Rattle.page_tree.specs.Pages.{nodes, root}
use Rattle.code_units.specs.declared.owner.Owner.TheVariants as owner
use Rattle.page_image.specs.Image.{forest, number, own, owns}
use Rattle.page_image.specs.Stays.{Grows}
use Rattle.page_image.specs.Own.{is_own, own_number, page_forest}
use Rattle.page_image.proofs.Looks.{number_low}
use Rattle.page_image.proofs.Shown.{forest_own}
use Rattle.native_common.proofs.Loops.{over_yes}
use Rattle.page_image.proofs.Marked.{AllIn}
use Rattle.page_image.proofs.Pages.{is_widget}
use Rattle.event_loop.specs.declared.around.Loop.{Loop}
use Rattle.page_image.proofs.Changing.{grows}
use Rattle.js_image.specs.Held.{Kept, PassNodes}
use Rattle.js_image.specs.Image as joint
use Rattle.js_image.specs.Image.{Rest, meant_cell, meant_counts, meant_kind, node_number, state_of}
use Rattle.native_image.specs.Grown.{IsGrown}
use Rattle.native_image.specs.Made.{AreBunches, IsNode}
use Rattle.native_image.specs.Image.{Outside, beside, dispatches_of, image}
use Rattle.native_image.specs.Sound.{HoldsOwn}
use Rattle.native_image.proofs.Joint.{holds_grows, image_shows, rest, shown_is, store_lift}
use Rattle.native_image.proofs.Keeping.{holds_page, page_grows}
use Rattle.native_image.proofs.Nodes.{node_is}
use Rattle.native_image.proofs.Told.{paid_told}

-- ## Nodes come

-- so many nodes more, with these trees
abbrev pub grown : ℕ → Trees ℕ → State → State
grown k f s = record s { own = record s.own { forest = f; kept = s.own.kept ++ replicate k nothing_kept; counts = record s.own.counts { nodes = s.own.counts.nodes + k } } }

module _ (fs : List Forest) (w : ℕ) (p new : Page) (news : List ℕ) (g : Grows p new w news) where
  numbers_stay : (ns : List ℕ) → AllByRecursion (λ n. owns p w n ≡ true) ns → map (node_number (own new w)) ns ≡ map (node_number (own p w)) ns
  numbers_stay [] h = refl
  numbers_stay (n ∷ ns) h = λ j. (node_is new w n (g.owners w n h.0) ∙ g.numbers w n h.0 ∙ sym (node_is p w n h.0)) j ∷ numbers_stay ns h.1 j

  kind_stays : (k : OwnKind) → PassNodes (owns p w) k → meant_kind fs (own new w) k ≡ meant_kind fs (own p w) k
  kind_stays cells.Object h = refl
  kind_stays (cells.Array n) h = refl
  kind_stays (cells.Function code fun declared scope) h = refl
  kind_stays (cells.Bunch ns) h = ap state.Bunch (numbers_stay ns h)

  heap_stays : (heap : List OwnCell) → AllByRecursion (λ c. PassNodes (owns p w) c.kind) heap → map (meant_cell fs (own new w)) heap ≡ map (meant_cell fs (own p w)) heap
  heap_stays [] h = refl
  heap_stays (c ∷ heap) h = λ j. record (meant_cell fs (own p w) c) { kind = kind_stays c.kind h.0 j } ∷ heap_stays heap h.1 j

counts_more : (n m k : ℕ) (o : Option Counts) → m ≡ n + k → meant_counts m o ≡ record (meant_counts n o) { nodes = (meant_counts n o).nodes + k }
counts_more n m k None e = ap (λ x. meant_counts x None) e
counts_more n m k (Some c) e = ap (λ x. meant_counts x (Some c)) e

-- the state after nodes came
pub grow_lift : (w : ℕ) (fs : List Forest) (x : Outside) (s : Cells) (old new : Page) (news : List ℕ) (l : Loop) (b : Option Bool) → Grows old new w news → HoldsOwn w s old l → image fs x w (beside s new l b) ≡ grown (length news) (forest new w) (image fs x w (beside s old l b))
grow_lift w fs x s old new news l b g holds = λ j. record {
  own = record (same j) {
    heap = heap_stays fs w old new news g (owned w s).heap holds.bunches j;
    counts = counts_more (length (own old w)) (length (own new w)) (length news) (owned w s).paid (ap length g.nodes ∙ length-append (own old w) news) j;
  };
  dispatches = dispatches_of b x.outer;
}
  where
    before : OwnState
    before = (image fs x w (beside s old l b)).own

    after_it : OwnState
    after_it = record before { forest = forest new w; kept = before.kept ++ replicate (length news) nothing_kept }

    same : record after_it { forest = forest new w; kept = (image fs x w (beside s new l b)).own.kept; timers = (image fs x w (beside s new l b)).own.timers; clock = (image fs x w (beside s new l b)).own.clock; focus = (image fs x w (beside s new l b)).own.focus } ≡ after_it
    same = shown_is new w (own_count w s.cells) l after_it (grows old new w news (own_count w s.cells) l before g (image_shows w fs x s old l b holds))

-- ## The store

module _ (w : ℕ) (lt : w < 32) (s t : Cells) (p : Page) (l : Loop) (holds : HoldsOwn w s p l) (k : Kept [] w s t) (fs : List Forest) (x : Outside) (b : Option Bool) where
  -- what the widget has stays
  pub owned_lift : owned w t ≡ owned w s → image fs x w (beside t p l b) ≡ image fs x w (beside s p l b)
  owned_lift e = sym (store_lift w s t p l holds k.grows lt fs x b) ∙ ap (state_of fs (rest w lt x (beside s p l b))) e

  -- units were paid, and nothing else
  pub paid_lift : (n : ℕ) → ((r : Rest) (go : State → Plan) → pay (units_cost n) (joint.image fs r w s) go ≡ go (joint.image fs r w t)) → (c : Amounts) → with_counts (image fs x w (beside t p l b)) c ≡ with_counts (image fs x w (beside s p l b)) c
  paid_lift n plan c =
      ap (λ u. with_counts u c)
      (paid_told (units_cost n) (image fs x w (beside s p l b)) (image fs x w (beside t p l b))
      (λ go. plan (rest w lt x (beside s p l b)) go ∙ ap go (store_lift w s t p l holds k.grows lt fs x b)))

-- a tree came, and the store has the cells of its nodes
pub tree_lift : (w : ℕ) (lt : w < 32) (s t : Cells) (p q : Page) (l : Loop) → HoldsOwn w s p l → Kept [] w s t → owned w t ≡ owned w s → (id many : ℕ) (tree : Trees ℕ) → IsGrown w p q id many tree → (fs : List Forest) (x : Outside) (b : Option Bool) (c : Amounts) → with_counts (image fs x w (beside t q l b)) c ≡ with_room many (with_forest (with_counts (image fs x w (beside s p l b)) c) (after (forest p w) tree))
tree_lift w lt s t p q l holds k same id many tree g fs x b c =
    ap (λ u. with_counts u c)
    (owned_lift w lt s t q l (holds_page w lt p q (page_grows w p q g.grows.0 g.grows.2 g.others) s l holds) k fs x b same
    ∙ grow_lift w fs x s p q g.grows.0 l b g.grows.2 holds)
    ∙ (λ j. with_room (g.grows.1 j) (with_forest (with_counts (image fs x w (beside s p l b)) c) (g.trees j)))

-- ## A node by itself

low_not : (n m : ℕ) → m < n → nat_lt n m ≡ false
low_not n m h = grind (arith, nat_tests, h)

-- the numbers of a widget's trees are below the next one
abbrev below : ℕ → ℕ → Bool
below n m = nat_lt m n

marked_all : (f : ℕ → ℕ) (p q : ℕ → Bool) → ((x : ℕ) → p x ≡ true → q (f x) ≡ true) → (ts : Trees ℕ) → AllIn p ts → AllIn q (marked f ts)
marked_all f p q h End a = tt
marked_all f p q h (Node m l ks ts) a = (h m a.0, marked_all f p q h ks a.1, marked_all f p q h ts a.2)

low_number : (p : Page) (w x : ℕ) → is_own (nodes p) w x ≡ true → below (length (own p w)) (own_number (nodes p) w x) ≡ true
unfolding owns number
low_number p w x h = over_yes (own_number (nodes p) w x) (length (own p w)) (number_low p w x h)

all_lower : (p : Page) (w : ℕ) → is_owner (owner.Widget w) ≡ true → AllIn (below (length (own p w))) (forest p w)
unfolding forest
all_lower p w is = marked_all (own_number (nodes p) w) (is_own (nodes p) w) (below (length (own p w))) (low_number p w) (page_forest (nodes p) (root p (owner.Widget w)) w) (forest_own (nodes p) p.arena.sound p.roots p.rooted w (root p (owner.Widget w)) is refl)

among_last : (n : ℕ) (l : Label) (ts : Trees ℕ) → AllIn (below n) ts → among n l End ts ≡ after ts (Node n l End End)
among_last n l End h = refl
among_last n l (Node m v us ts) h =
    ap (λ f. if f then Node n l End (Node m v us ts) else Node m v us (among n l End ts)) (low_not n m (ltb-true m n h.0))
    ∙ ap (Node m v us) (among_last n l ts h.2)

pub last_detached : (n : ℕ) (l : Label) (ts : Trees ℕ) → AllIn (below n) ts → with_detached (Node n l End End) ts ≡ after ts (Node n l End End)
last_detached n l End h = refl
last_detached n l (Node r v us ts) h = ap (Node r v us) (among_last n l ts h.2)

pub detached_here : (p : Page) (w : ℕ) (lt : w < 32) (l : Label) → with_detached (Node (length (own p w)) l End End) (forest p w) ≡ after (forest p w) (Node (length (own p w)) l End End)
detached_here p w lt l = last_detached (length (own p w)) l (forest p w) (all_lower p w (is_widget w lt))

-- a node by itself, and then its Bunch
pub node_lift : (w : ℕ) (lt : w < 32) (s m t u : Cells) (p q : Page) (l : Loop) → HoldsOwn w s p l → Kept [] w s m → ((fs : List Forest) (x : Outside) (b : Option Bool) (c : Amounts) → with_counts (image fs x w (beside m p l b)) c ≡ with_counts (image fs x w (beside s p l b)) c)
    → Kept [] w m t → owned w t ≡ owned w m → (id : ℕ) (label : Label) (tree : PlainTrees) → tree ≡ Node tt label End End → IsGrown w p q id (size tree) (numbered (length (own p w)) tree)
    → (v : Value) → AreBunches w t u q l (number q w id ∷ []) (v ∷ []) → IsNode w s u p q l label v
node_lift w lt s m t u p q l holds first paid second same id label tree is g v made = record {
  state = λ fs x b c.
      made.state fs x b c
      ∙ ap (λ k. with_bunch k (number q w id)) (come fs x b c)
      ∙ (λ j. with_new_cell (with_node label (with_counts (image fs x w (beside s p l b)) c)) (new_bunch ((g.first ∙ sym (many fs x b)) j ∷ [])));
  value = λ fs x b.
      let c = (image fs x w (beside s p l b)).own.counts in
      head_of (made.values fs x b)
      ∙ ap (λ k. Own (length k.own.heap)) (come fs x b c);
  fine = made.fine.0;
}
  where
    many : (fs : List Forest) (x : Outside) (b : Option Bool) → next_node (image fs x w (beside s p l b)) ≡ length (own p w)
    many fs x b = length-map (own p w) _

    held : HoldsOwn w m p l
    held = holds_grows w s m p l holds first.grows (first.nodes (owns p w) holds.bunches)

    come : (fs : List Forest) (x : Outside) (b : Option Bool) (c : Amounts) → with_counts (image fs x w (beside t q l b)) c ≡ with_node label (with_counts (image fs x w (beside s p l b)) c)
    come fs x b c =
        tree_lift w lt m t p q l held second same id (size tree) (numbered (length (own p w)) tree) g fs x b c
        ∙ (λ j. with_room (size (is j)) (with_forest (paid fs x b c j) (after (forest p w) (numbered (length (own p w)) (is j)))))
        ∙ ap (λ f. with_room 1 (with_forest (with_counts (image fs x w (beside s p l b)) c) f)) (sym (detached_here p w lt label))
        ∙ (λ j. with_room 1 (with_forest (with_counts (image fs x w (beside s p l b)) c) (with_detached (Node (sym (many fs x b) j) label End End) (forest p w))))

    head_of : {a b : Meant} → a ∷ [] ≡ b ∷ [] → a ≡ b
    head_of e = cc
