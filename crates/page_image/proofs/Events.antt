-- What is kept with nodes, timers and the way of events, by own numbers.
use Rattle.std.proofs.Common.{◌≡◌, ℕ, zero, suc, ◌+◌, List, [], ◌∷◌, ◌++◌, Bool, true, false, refl, sym, ap, ◌∙◌, map, cond, eqb, eq-eqb, ne_eqb, not, arith, set, get_or, Option, Some, None, unwrap_or, slice_get}
use Rattle.std.specs.Prelude.{nat_le, nat_eq, option_and_then}
use Rattle.std.specs.List.{filter, fold}
use Rattle.std.specs.Option.{option_map}
use Rattle.std.specs.Str.{bytes_eq}
use Rattle.code_units.specs.declared.owner.Owner.TheVariants as owner
use Rattle.plain_tree.specs.Trees.{Trees, End, marked}
use Rattle.tree_ops.specs.Trees.{tops}
use Rattle.page_nodes.specs.Entries.{Entry, at, tree, IsSound}
use Rattle.page_nodes.specs.Owners.{is_owner, root_in}
use Rattle.page_nodes.proofs.Shows.{Shows, none, one_more, shows_one, shows_tree}
use Rattle.page_tree.specs.Roots.{IsRooted}
use Rattle.page_tree.specs.Documents.{parent_within}
use Rattle.query_grammar.specs.Renumbering.{renumbered}
use Rattle.widget_meaning.specs.Values.{Own}
use Rattle.widget_meaning.specs.OwnState.{State, Kept, Handler, nothing_kept, kept_at}
use Rattle.widget_meaning.specs.BunchWrites as writes
use Rattle.widget_meaning.specs.Items as items
use Rattle.widget_meaning.specs.Dispatch as dispatch
use Rattle.widget_meaning.specs.Trees.{parent, child_at, first_children, node_at}
use Rattle.event_loop.specs.declared.timers.Timer.{Timer}
use Rattle.event_loop.specs.declared.around.Loop.{Loop}
use Rattle.event_loop.specs.Kept as kept
use Rattle.event_loop.specs.Kept.{PlainKept}
use Rattle.event_loop.specs.Around as around
use Rattle.event_loop.specs.Timers as timers
use Rattle.event_loop.specs.Deliveries as ways
use Rattle.event_loop.specs.Deliveries.{leads}
use Rattle.page_image.specs.Held.{OptionIn}
use Rattle.page_image.specs.Own.{is_own, own_number, own_nodes, own_forest}
use Rattle.page_image.proofs.Kept.{at_own, set_own}
use Rattle.page_image.proofs.Looking.{parent_own, owned_parent}
use Rattle.page_image.specs.Around.{handler_of, kept_of, timer_of, own_found}

-- ## Handlers with other numbers

module _ (g : ℕ → ℕ) where
  handlers_after : (hs : List (List ℕ × ℕ)) (kind : List ℕ) (func : ℕ) → map (handler_of g) (hs ++ (kind, func) ∷ []) ≡ map (handler_of g) hs ++ record { kind = kind; func = g func } ∷ []
  handlers_after [] kind func = refl
  handlers_after (h ∷ hs) kind func = ap (λ l. handler_of g h ∷ l) (handlers_after hs kind func)

  -- one more handler
  pub with_handler_of : (k : PlainKept) (kind : List ℕ) (func : ℕ) → kept_of g (kept.with_handler kind func k) ≡ writes.with_handler kind (Own (g func)) (kept_of g k)
  with_handler_of k kind func = ap (λ (hs : List Handler). record { handlers = hs; mark = unwrap_or k.mark []; is_protected = k.is_protected }) (handlers_after k.handlers kind func)

  abbrev still : List ℕ → List (List ℕ × ℕ) → List (List ℕ × ℕ)
  still kind hs = filter (λ h. not (bytes_eq (h.0) kind)) hs

  abbrev own_still : List ℕ → List Handler → List Handler
  own_still kind hs = filter (λ h. not (bytes_eq h.kind kind)) hs

  pub handlers_left : (hs : List (List ℕ × ℕ)) (kind : List ℕ) → map (handler_of g) (still kind hs) ≡ own_still kind (map (handler_of g) hs)
  handlers_left [] kind = refl
  handlers_left (h ∷ hs) kind = by_test (bytes_eq (h.0) kind) (handlers_left hs kind)
    where
      by_test : (b : Bool) → map (handler_of g) (still kind hs) ≡ own_still kind (map (handler_of g) hs) → map (handler_of g) (cond (not b) (h ∷ still kind hs) (still kind hs)) ≡ cond (not b) (handler_of g h ∷ own_still kind (map (handler_of g) hs)) (own_still kind (map (handler_of g) hs))
      by_test true e = e
      by_test false e = ap (λ l. handler_of g h ∷ l) e

  abbrev heard : List ℕ → List (List ℕ × ℕ) → List ℕ
  heard kind hs = map (λ h. h.1) (filter (λ h. bytes_eq (h.0) kind) hs)

  abbrev own_heard : List ℕ → List Handler → List ℕ
  own_heard kind hs = map (λ (h : Handler). h.func) (filter (λ (h : Handler). bytes_eq h.kind kind) hs)

  -- the functions that listen
  pub listens : (hs : List (List ℕ × ℕ)) (kind : List ℕ) → own_heard kind (map (handler_of g) hs) ≡ map g (heard kind hs)
  listens [] kind = refl
  listens (h ∷ hs) kind = by_test (bytes_eq (h.0) kind) (listens hs kind)
    where
      by_test : (b : Bool) → own_heard kind (map (handler_of g) hs) ≡ map g (heard kind hs) → map (λ (h : Handler). h.func) (cond b (handler_of g h ∷ filter (λ (h : Handler). bytes_eq h.kind kind) (map (handler_of g) hs)) (filter (λ (h : Handler). bytes_eq h.kind kind) (map (handler_of g) hs))) ≡ map g (map (λ h. h.1) (cond b (h ∷ filter (λ h. bytes_eq (h.0) kind) hs) (filter (λ h. bytes_eq (h.0) kind) hs)))
      by_test true e = ap (λ l. g (h.1) ∷ l) e
      by_test false e = e

  -- ## Timers with other numbers

  sooner_of : (u v : Option Timer) → items.sooner (option_map (timer_of g) u) (option_map (timer_of g) v) ≡ option_map (timer_of g) (timers.sooner u v)
  sooner_of None v = refl
  sooner_of (Some t) None = refl
  sooner_of (Some t) (Some u) = by_test (nat_le t.at u.at)
    where
      by_test : (b : Bool) → cond b (Some (timer_of g t)) (Some (timer_of g u)) ≡ option_map (timer_of g) (cond b (Some t) (Some u))
      by_test true = refl
      by_test false = refl

  if_due : (b : Bool) (t : Timer) → cond b (Some (timer_of g t)) None ≡ option_map (timer_of g) (cond b (Some t) None)
  if_due true t = refl
  if_due false t = refl

  pub next_due_of : (limit : ℕ) (ts : List Timer) → items.next_due limit (map (timer_of g) ts) ≡ option_map (timer_of g) (timers.next_due limit ts)
  next_due_of limit [] = refl
  next_due_of limit (t ∷ ts) =
      ap (λ o. items.sooner o (items.next_due limit (map (timer_of g) ts))) (if_due (nat_le t.at limit) t)
      ∙ ap (items.sooner (option_map (timer_of g) (cond (nat_le t.at limit) (Some t) None))) (next_due_of limit ts)
      ∙ sooner_of (cond (nat_le t.at limit) (Some t) None) (timers.next_due limit ts)

  pub without_due_of : (d : ℕ) (ts : List Timer) → items.without_due d (map (timer_of g) ts) ≡ map (timer_of g) (timers.without_due d ts)
  without_due_of d [] = refl
  without_due_of d (t ∷ ts) = by_test (nat_eq t.at d) (without_due_of d ts)
    where
      by_test : (b : Bool) → items.without_due d (map (timer_of g) ts) ≡ map (timer_of g) (timers.without_due d ts) → cond b (map (timer_of g) ts) (timer_of g t ∷ items.without_due d (map (timer_of g) ts)) ≡ map (timer_of g) (cond b ts (t ∷ timers.without_due d ts))
      by_test true e = refl
      by_test false e = ap (λ l. timer_of g t ∷ l) e

-- ## What is kept with a node

module _ (k : List Entry) (w : ℕ) (g : ℕ → ℕ) (l : Loop) (st : State) (notes : st.own.kept ≡ map (λ n. kept_of g (around.kept l n)) (own_nodes k w)) where
  pub notes_is : (n : ℕ) → is_own k w n ≡ true → kept_at st (own_number k w n) ≡ kept_of g (around.kept l n)
  notes_is n own =
      let e : 0 + n ≡ n = omega arith in
      ap (λ ks. get_or ks (own_number k w n) nothing_kept) notes
      ∙ at_own (λ x. kept_of g (around.kept l x)) nothing_kept k w 0 n own
      ∙ ap (λ x. kept_of g (around.kept l x)) e

  -- a change of what is kept with one node
  pub noted : (m : Loop) (n : ℕ) (change : PlainKept → PlainKept) (own_change : Kept → Kept) → is_own k w n ≡ true → ((x : PlainKept) → kept_of g (change x) ≡ own_change (kept_of g x)) → ((x : ℕ) → around.kept m x ≡ cond (eqb x n) (change (around.kept l x)) (around.kept l x)) →
      map (λ x. kept_of g (around.kept m x)) (own_nodes k w) ≡ set st.own.kept (own_number k w n) (own_change (kept_at st (own_number k w n)))
  noted m n change own_change own same h =
      let e : 0 + n ≡ n = omega arith in
      set_own (λ x. kept_of g (around.kept l x)) (λ x. kept_of g (around.kept m x)) k w 0 n own (λ x ne. ap (kept_of g) (h x ∙ ap (λ b. cond b (change (around.kept l x)) (around.kept l x)) (ne_eqb x n (λ u. ne (u ∙ sym e)))))
      ∙ ap (λ x. set (map (λ y. kept_of g (around.kept l y)) (own_nodes k w)) (own_number k w n) (kept_of g (around.kept m x))) e
      ∙ ap (λ x. set (map (λ y. kept_of g (around.kept l y)) (own_nodes k w)) (own_number k w n) (kept_of g x)) (h n ∙ ap (λ b. cond b (change (around.kept l n)) (around.kept l n)) (eq-eqb n n refl))
      ∙ ap (λ x. set (map (λ y. kept_of g (around.kept l y)) (own_nodes k w)) (own_number k w n) x) (same (around.kept l n) ∙ ap own_change (sym (notes_is n own)))
      ∙ ap (λ ks. set ks (own_number k w n) (own_change (kept_at st (own_number k w n)))) (sym notes)

  pub listening_image : (n : ℕ) (kind : List ℕ) → is_own k w n ≡ true → dispatch.listening st (own_number k w n) kind ≡ map g (kept.listening (around.kept l n) kind)
  listening_image n kind own =
      ap (λ (x : Kept). map (λ (h : Handler). h.func) (filter (λ (h : Handler). bytes_eq h.kind kind) x.handlers)) (notes_is n own)
      ∙ listens g (around.kept l n).handlers kind

  -- ## The way of an event

  module _ (s : IsSound k) (roots : List (Option ℕ)) (rooted : IsRooted k roots) (r : ℕ) (is : is_owner (owner.Widget w) ≡ true) (root : root_in roots (owner.Widget w) ≡ Some r) (trees : st.own.forest ≡ own_forest k (Some r) w) where
    own_up : (n : ℕ) → is_own k w n ≡ true → OptionIn (is_own k w) (parent_within k (Some r) n)
    own_up n own = of (parent_within k (Some r) n) refl
      where
        of : (u : Option ℕ) → parent_within k (Some r) n ≡ u → OptionIn (is_own k w) u
        of None e = tt
        of (Some m) e = owned_parent k s roots rooted w (Some r) is root n m own e

    here_or_of : (n : ℕ) (fs : List ℕ) (u : Option (ℕ × List ℕ)) → dispatch.here_or_above (own_number k w n) (map g fs) (λ _. own_found (own_number k w) g u) ≡ own_found (own_number k w) g (ways.here_or n fs u)
    here_or_of n [] u = refl
    here_or_of n (f ∷ fs) u = refl

    pub nearest_image : (m : ℕ) (o : Option ℕ) (kind : List ℕ) → OptionIn (is_own k w) o → dispatch.nearest_from m st (renumbered (own_number k w) o) kind ≡ own_found (own_number k w) g (ways.nearest m k r l o kind)
    nearest_image m None kind h = refl
    nearest_image zero (Some n) kind h = refl
    nearest_image (suc m) (Some n) kind h =
        ap (λ fs. dispatch.here_or_above (own_number k w n) fs (λ _. dispatch.nearest_from m st (parent (own_number k w n) st.own.forest) kind)) (listening_image n kind h)
        ∙ ap (λ o. dispatch.here_or_above (own_number k w n) (map g (kept.listening (around.kept l n) kind)) (λ _. dispatch.nearest_from m st o kind)) (ap (parent (own_number k w n)) trees ∙ parent_own k s roots rooted w (Some r) is root n h)
        ∙ ap (λ u. dispatch.here_or_above (own_number k w n) (map g (kept.listening (around.kept l n) kind)) (λ _. u)) (nearest_image m (parent_within k (Some r) n) kind (own_up n h))
        ∙ here_or_of n (kept.listening (around.kept l n) kind) (ways.nearest m k r l (parent_within k (Some r) n) kind)

-- ## Paths

module _ (k : List Entry) (s : IsSound k) (f : ℕ → ℕ) where
  -- the tree of a node that may be there
  abbrev at_place : Option ℕ → Trees ℕ
  at_place None = End
  at_place (Some n) = marked f (tree k n)

  child_shown : (i : ℕ) (ns : List ℕ) (ts : Trees ℕ) → Shows k ns ts → child_at i (marked f ts) ≡ at_place (slice_get ns i)
  child_shown zero [] _ none = refl
  child_shown (suc i) [] _ none = refl
  child_shown zero (n ∷ ns) _ (one_more {ks = ks} {ts = ts} hk hs) = ap (marked f) (shows_one k (n ∷ []) _ _ (one_more hk none) (shows_tree k s n))
  child_shown (suc i) (n ∷ ns) _ (one_more {ks = ks} {ts = ts} hk hs) = child_shown i ns ts hs

  one_step : (i : ℕ) (o : Option ℕ) → child_at i (first_children (at_place o)) ≡ at_place (option_and_then (λ n. slice_get (at k n).children i) o)
  one_step zero None = refl
  one_step (suc i) None = refl
  one_step i (Some n) = of (tree k n) (shows_tree k s n)
    where
      of : (ts : Trees ℕ) → Shows k (n ∷ []) ts → child_at i (first_children (marked f ts)) ≡ at_place (slice_get (at k n).children i)
      of _ (one_more {ks = ks} hk none) = child_shown i (at k n).children ks hk

  steps : (path : List ℕ) (o : Option ℕ) → fold (λ t i. child_at i (first_children t)) (at_place o) path ≡ at_place (leads k o path)
  steps [] o = refl
  steps (i ∷ path) o = ap (λ t. fold (λ u j. child_at j (first_children u)) t path) (one_step i o) ∙ steps path (option_and_then (λ n. slice_get (at k n).children i) o)

  first_top : (o : Option ℕ) → slice_get (tops (at_place o)) 0 ≡ renumbered f o
  first_top None = refl
  first_top (Some n) = refl

-- the node to which a path leads
pub leads_image : (k : List Entry) → IsSound k → (r w : ℕ) (path : List ℕ) → node_at (own_forest k (Some r) w) path ≡ renumbered (own_number k w) (leads k (Some r) path)
leads_image k s r w path = ap (λ t. slice_get (tops t) 0) (steps k s (own_number k w) path (Some r)) ∙ first_top k s (own_number k w) (leads k (Some r) path)
