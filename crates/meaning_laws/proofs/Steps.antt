-- What each state of a plan keeps: all that is named is there. The steps of which plans are made.
use Rattle.std.proofs.Common.{◌≡◌, ℕ, zero, suc, ◌+◌, ◌<◌, ◌≤◌, List, [], ◌∷◌, ◌++◌, length, Bool, true, false, refl, sym, subst, arith}
use Rattle.std.specs.Prelude.{codes, Option, Some, None, nat_lt, if◌then◌else◌, slice_set, replicate}
use Rattle.std.specs.List.{AllByRecursion}
use Rattle.std.proofs.lemmas.List.{length-set, length-append}
use Rattle.std.proofs.lemmas.Bool.{ltb-false}
use Rattle.permitted_table.specs.declared.native.HostEntry.TheVariants as host
use Rattle.plain_tree.specs.Trees.{height}
use Rattle.widget_meaning.specs.Limits.{max_node_depth, max_units, max_cells, max_slots, max_nodes, max_text, max_chain}
use Rattle.widget_meaning.specs.Values.{StopCause, Units, Cells, Slots, Nodes, LongText, Value, Own, Completion, Normal, Is, Refers, Return, Break, Continue, Throw, Reference, Fault}
use Rattle.widget_meaning.specs.OwnState.{Amounts, State, Cell, Scope, Kept, Timer, Pairs, plain_object, nothing_kept, with_new_cell}
use Rattle.widget_meaning.specs.Plan.{Job, Plan, Ret, Halt, Need, Tick, Do, and_then, ticks, charge, on_value, on_reference, on_normal, on_throw}
use Rattle.widget_meaning.specs.Costs.{sum, pay, make, make_text, throw, fault_pairs, fault_name, fault_message, object_cost, units_cost, or_throw, want, with_counts}
use Rattle.widget_meaning.specs.Keeps.{no_scope}
use Rattle.widget_meaning.specs.NodeLaws.{IsPage}
use Rattle.widget_meaning.specs.Trees.{Trees}
use Rattle.meaning_laws.specs.There.{Sizes, Grows, Told, IsBelow, ValueIs, PairsAre, OfNode, CellIs, KeptIs, ReferenceIs, CompletionIs, JobIs, CellFits, AreThere, IsShort, cell_in}
use Rattle.meaning_laws.specs.Texts.{AreNames, PageHasTexts}
use Rattle.meaning_laws.proofs.Units.{tested, name_of_fault, message_of_fault}
use Rattle.meaning_laws.proofs.Each.{every, at_end, at_set, at_room, each_both}
use Rattle.meaning_laws.proofs.Later.{same_size, through, below_later, value_later, node_later, pairs_later, cell_later, kept_later, maybe_node_later, told_later}
use Rattle.meaning_laws.proofs.Chains.{short_born, same_prototypes, short_still}
use Rattle.meaning_laws.proofs.Values.{told, own_value, text_is, host_is, no_pairs, more_pairs, throw_end}

-- all that is named in a state is there, and at least so much was born
pub record Fine (m : Sizes) (hs : List Cell) (cs : List Scope) (ks : List Kept) (ts : List Timer) (f : Trees) (focus : Option ℕ) (slots : ℕ) : Type 0 where
  pub there : AreThere m hs cs ks ts f focus slots
  pub wide : Grows m (record { objects = length hs; nodes = length ks; texts = m.texts })

abbrev pub R : Sizes → State → Type 0
R m s = Fine m s.own.heap s.own.scopes s.own.kept s.own.timers s.own.forest s.own.focus s.own.counts.slots

-- a state to which a plan comes, where perhaps more was born
pub record Stands (m : Sizes) (s : State) : Type 0 where
  pub size : Sizes
  pub grows : Grows m size
  pub fine : R size s

-- an end
pub record Ends (m : Sizes) (o : Completion) (s : State) : Type 0 where
  pub size : Sizes
  pub grows : Grows m size
  pub fine : R size s
  pub end : CompletionIs size o

-- each state of a plan has it, where those that its jobs hand on have it
unfoldable pub Keeps : Sizes → Plan → Type 0
Keeps m (Ret o s) = Ends m o s
Keeps m (Halt c s) = Stands m s
Keeps m (Need c s p) = Stands m s × Keeps m p
Keeps m (Tick s p) = Stands m s × Keeps m p
Keeps m (Do j s k) = (n : Sizes) × (Grows m n × (R n s × (JobIs n j
    × ((l : Sizes) → Grows n l → (o : Completion) (t : State) → R l t → CompletionIs l o → Keeps l (k o t)))))

pub higher : (m n : Sizes) (s : State) → Grows m n → Stands n s → Stands m s
higher m n s g h = record { size = h.size; grows = through m n h.size g h.grows; fine = h.fine }

pub lowered : (m n : Sizes) (p : Plan) → Grows m n → Keeps n p → Keeps m p
unfolding Keeps
lowered m n (Ret o s) g h = record { size = h.size; grows = through m n h.size g h.grows; fine = h.fine; end = h.end }
lowered m n (Halt c s) g h = higher m n s g h
lowered m n (Need c s p) g h = (higher m n s g h.0, lowered m n p g h.1)
lowered m n (Tick s p) g h = (higher m n s g h.0, lowered m n p g h.1)
lowered m n (Do j s k) g h = (h.0, (through m n h.0 g h.1.0, h.1.1))

module _ (m : Sizes) where
  pub stands : (s : State) → R m s → Stands m s
  stands s h = record { size = m; grows = same_size m; fine = h }

  pub ended : (o : Completion) (s : State) → R m s → CompletionIs m o → Keeps m (Ret o s)
  unfolding Keeps
  ended o s h q = record { size = m; grows = same_size m; fine = h; end = q }

  pub halted : (c : StopCause) (s : State) → R m s → Keeps m (Halt c s)
  unfolding Keeps
  halted c s h = stands s h

  pub job : (j : Job) (s : State) (k : Completion → State → Plan) → R m s → JobIs m j
      → ((n : Sizes) → Grows m n → (o : Completion) (t : State) → R n t → CompletionIs n o → Keeps n (k o t)) → Keeps m (Do j s k)
  unfolding Keeps
  job j s k h q f = (m, (same_size m, (h, (q, f))))

  pub either : (b : Bool) (p q : Plan) → Keeps m p → Keeps m q → Keeps m (if b then p else q)
  either true p q h k = h
  either false p q h k = k

  pub by_test : (b : Bool) (p q : Plan) → (b ≡ true → Keeps m p) → (b ≡ false → Keeps m q) → Keeps m (if b then p else q)
  by_test true p q h k = h refl
  by_test false p q h k = k refl

  pub value : (o : Completion) (s : State) (k : Value → Plan) → R m s → CompletionIs m o → ((v : Value) → ValueIs m v → Keeps m (k v)) → Keeps m (on_value o s k)
  value (Is v) s k h q f = f v q.value
  value Normal s k h q f = ended Normal s h q
  value (Refers r) s k h q f = ended (Refers r) s h q
  value (Return v) s k h q f = ended (Return v) s h q
  value Break s k h q f = ended Break s h q
  value Continue s k h q f = ended Continue s h q
  value (Throw v) s k h q f = ended (Throw v) s h q

  pub reference : (o : Completion) (s : State) (k : Reference → Plan) → R m s → CompletionIs m o → ((r : Reference) → ReferenceIs m r → Keeps m (k r)) → Keeps m (on_reference o s k)
  reference (Refers r) s k h q f = f r q.value
  reference Normal s k h q f = ended Normal s h q
  reference (Is v) s k h q f = ended (Is v) s h q
  reference (Return v) s k h q f = ended (Return v) s h q
  reference Break s k h q f = ended Break s h q
  reference Continue s k h q f = ended Continue s h q
  reference (Throw v) s k h q f = ended (Throw v) s h q

  pub normal : (o : Completion) (s : State) (p : Plan) → R m s → CompletionIs m o → Keeps m p → Keeps m (on_normal o s p)
  normal Normal s p h q f = f
  normal (Is v) s p h q f = ended (Is v) s h q
  normal (Refers r) s p h q f = ended (Refers r) s h q
  normal (Return v) s p h q f = ended (Return v) s h q
  normal Break s p h q f = ended Break s h q
  normal Continue s p h q f = ended Continue s h q
  normal (Throw v) s p h q f = ended (Throw v) s h q

  pub thrown : (o : Completion) (p : Plan) (k : Value → Plan) → CompletionIs m o → Keeps m p → ((v : Value) → ValueIs m v → Keeps m (k v)) → Keeps m (on_throw o p k)
  thrown (Throw v) p k q h f = f v q.value
  thrown Normal p k q h f = h
  thrown (Is v) p k q h f = h
  thrown (Refers r) p k q h f = h
  thrown (Return v) p k q h f = h
  thrown Break p k q h f = h
  thrown Continue p k q h f = h

pub chain : (m : Sizes) (p : Plan) (k : Completion → State → Plan) → Keeps m p
    → ((n : Sizes) → Grows m n → (o : Completion) (t : State) → R n t → CompletionIs n o → Keeps n (k o t)) → Keeps m (and_then p k)
unfolding Keeps
chain m (Ret o s) k h f = lowered m h.size (k o s) h.grows (f h.size h.grows o s h.fine h.end)
chain m (Halt c s) k h f = h
chain m (Need c s p) k h f = (h.0, chain m p k h.1 f)
chain m (Tick s p) k h f = (h.0, chain m p k h.1 f)
chain m (Do j s i) k h f = (
  h.0,
  (
    h.1.0,
    (
      h.1.1.0,
      (
        h.1.1.1.0,
        λ l g o t u w. chain l (i o t) k (h.1.1.1.1 l g o t u w)
            (λ n e. f n (through m l n (through m h.0 l h.1.0 g) e)),
      ),
    ),
  ),
)

pub second_part : (a b c : ℕ) → a + b ≤ c → b ≤ c
second_part a b c h = omega (arith, h)

-- what is known of counts after a cost: no fewer slots than it and those before, and no more than may be
pub record Due (s : State) (c a : Amounts) : Type 0 where
  pub more : s.own.counts.slots + c.slots ≤ a.slots
  pub most : a.slots ≤ max_slots

no_fewer : (a b : ℕ) → a ≤ a + b
no_fewer a b = omega arith

self_le : (n : ℕ) → n ≤ n
self_le n = omega arith

pub fits_later : (a b : ℕ) (c : Cell) → a ≤ b → CellFits a c → CellFits b c
fits_later a b c l h = record { room = omega (arith, l, h.room); len = h.len; count = h.count }

pub there_paid : (m : Sizes) (hs : List Cell) (cs : List Scope) (ks : List Kept) (ts : List Timer) (f : Trees) (focus : Option ℕ) (slots more : ℕ)
    → slots ≤ more → AreThere m hs cs ks ts f focus slots → AreThere m hs cs ks ts f focus more
there_paid m hs cs ks ts f focus slots more l h = record {
  objects = h.objects;
  older = h.older;
  chains = h.chains;
  scopes = h.scopes;
  kept = h.kept;
  timers = h.timers;
  page = h.page;
  low = h.low;
  focused = h.focused;
  labels = h.labels;
  fits = λ i. fits_later slots more (cell_in hs i) l (h.fits i);
  lib = h.lib;
  root = h.root;
}

more_paid : (m : Sizes) (s : State) (a : Amounts) → R m s → s.own.counts.slots ≤ a.slots → R m (with_counts s a)
more_paid m s a h l = record {
  there = there_paid m s.own.heap s.own.scopes s.own.kept s.own.timers s.own.forest s.own.focus s.own.counts.slots a.slots l h.there;
  wide = h.wide;
}

module _ (m : Sizes) where
  ticked : (n : ℕ) (s : State) (p : Plan) → R m s → Keeps m p → Keeps m (ticks n s p)
  unfolding Keeps
  ticked zero s p h f = f
  ticked (suc n) s p h f = (stands m s h, ticked n s p h f)

  pub charged : (n : ℕ) (s : State) (p : Plan) → R m s → Keeps m p → Keeps m (charge n s p)
  unfolding Keeps
  charged n s p h f = (stands m s h, ticked n s p h f)

  pub paid : (c : Amounts) (s : State) (k : State → Plan) → R m s → ((a : Amounts) → R m (with_counts s a) → Due s c a → Keeps m (k (with_counts s a))) → Keeps m (pay c s k)
  paid c s k h f =
      let b : Amounts = sum s.own.counts c in
      either m (nat_lt max_units b.units) _ _ (halted m Units s h)
      (either m (nat_lt max_cells b.cells) _ _ (halted m Cells s h)
      (by_test m (nat_lt max_slots b.slots) _ _ (λ e. halted m Slots s h) (λ e.
      either m (nat_lt max_nodes b.nodes) _ _ (halted m Nodes s h)
      (f b (more_paid m s b h (no_fewer s.own.counts.slots c.slots)) (record { more = self_le b.slots; most = ltb-false max_slots b.slots e })))))

-- ## Objects, scopes, the page

one_more : {A : Type 0} (xs : List A) (x : A) → length xs ≤ length (xs ++ x ∷ [])
one_more xs x = omega (arith, length-append xs (x ∷ []))

self : (n : ℕ) → n ≤ n
self n = omega arith

newest : {A : Type 0} (xs : List A) (x : A) → length xs < length (xs ++ x ∷ [])
newest xs x = omega (arith, length-append xs (x ∷ []))

less : (i m n : ℕ) → i < m → m ≤ n → i < n
less i m n l h = omega arith

far : (m n k : ℕ) → m ≤ n → n ≤ k → m ≤ k
far m n k h i = omega arith

-- one more object
abbrev pub with_one : Sizes → List Cell → Cell → Sizes
with_one m hs c = record { objects = length (hs ++ c ∷ []); nodes = m.nodes; texts = m.texts }

pub page_later : (f : Trees) (i j : ℕ) → i ≤ j → IsPage f i → IsPage f j
page_later f i j l h = record { once = h.once; there = λ n k. h.there n (far i j n l k) }

-- of a state, however much was born
abbrev pub Holds : Sizes → State → Type 0
Holds m s = AreThere m s.own.heap s.own.scopes s.own.kept s.own.timers s.own.forest s.own.focus s.own.counts.slots

pub there_later : (m n : Sizes) (hs : List Cell) (cs : List Scope) (ks : List Kept) (ts : List Timer) (f : Trees) (focus : Option ℕ) (slots : ℕ)
    → Grows m n → AreThere m hs cs ks ts f focus slots → AreThere n hs cs ks ts f focus slots
there_later m n hs cs ks ts f focus slots g h = record {
  objects = λ i. cell_later m n _ g (h.objects i);
  older = h.older;
  chains = h.chains;
  scopes = λ i. pairs_later m n _ g (h.scopes i);
  kept = λ i. kept_later m n _ g (h.kept i);
  timers = every (λ t. t.func < m.objects) (λ t. t.func < n.objects) (λ t l. less t.func m.objects n.objects l g.objects) ts h.timers;
  page = page_later f m.nodes n.nodes g.nodes h.page;
  low = h.low;
  focused = maybe_node_later m n focus g h.focused;
  labels = told_later m n _ g h.labels;
  fits = h.fits;
  lib = value_later m n (Own 0) g h.lib;
  root = node_later m n 0 g h.root;
}

pub there_born : (n : Sizes) (hs : List Cell) (cs : List Scope) (ks : List Kept) (ts : List Timer) (f : Trees) (focus : Option ℕ) (slots : ℕ) (c : Cell)
    → AreThere n hs cs ks ts f focus slots → CellIs n c → IsBelow (length hs) c.prototype → IsShort max_chain hs (Some c.prototype) → CellFits slots c
    → AreThere n (hs ++ c ∷ []) cs ks ts f focus slots
there_born n hs cs ks ts f focus slots c h q below short z = record {
  objects = at_end (λ i x. CellIs n x) hs c (plain_object []) h.objects q;
  older = at_end (λ i x. IsBelow i x.prototype) hs c (plain_object []) h.older below;
  chains = short_born hs c h.older h.chains below short;
  scopes = h.scopes;
  kept = h.kept;
  timers = h.timers;
  page = h.page;
  low = h.low;
  focused = h.focused;
  labels = h.labels;
  fits = at_end (λ i x. CellFits slots x) hs c (plain_object []) h.fits z;
  lib = h.lib;
  root = h.root;
}

module _ (m : Sizes) (hs : List Cell) (cs : List Scope) (ks : List Kept) (ts : List Timer) (f : Trees) (focus : Option ℕ) (slots : ℕ) where
  pub born_grows : (c : Cell) → Fine m hs cs ks ts f focus slots → Grows m (with_one m hs c)
  born_grows c h = record { objects = far m.objects (length hs) _ h.wide.objects (one_more hs c); nodes = self m.nodes; texts = refl }

  pub is_born : (c : Cell) → ValueIs (with_one m hs c) (Own (length hs))
  is_born c = own_value (with_one m hs c) (length hs) (newest hs c)

  pub born : (c : Cell) → Fine m hs cs ks ts f focus slots → CellIs m c → IsShort max_chain hs (Some c.prototype) → CellFits slots c
      → Fine (with_one m hs c) (hs ++ c ∷ []) cs ks ts f focus slots
  born c h q short z =
      let b : Sizes = with_one m hs c in
      let g : Grows m b = born_grows c h in
      record {
        there = there_born b hs cs ks ts f focus slots c (there_later m b hs cs ks ts f focus slots g h.there) (cell_later m b c g q)
            (below_later m.objects (length hs) c.prototype h.wide.objects q.prototype.born) short z;
        wide = record { objects = self b.objects; nodes = h.wide.nodes; texts = refl };
      }

  -- an object is written, and has the prototype that it had
  pub written : (n : ℕ) (c : Cell) → Fine m hs cs ks ts f focus slots → CellIs m c → c.prototype ≡ (cell_in hs n).prototype → CellFits slots c
      → Fine m (slice_set hs n c) cs ks ts f focus slots
  written n c h q e z = record {
    there = record {
      objects = at_set (λ i x. CellIs m x) hs n c (plain_object []) h.there.objects q;
      older = λ i. subst (IsBelow i) (sym (same_prototypes hs n c e i)) (h.there.older i);
      chains = λ i. short_still (suc max_chain) hs (slice_set hs n c) (Some (Own i)) (same_prototypes hs n c e) (h.there.chains i);
      scopes = h.there.scopes;
      kept = h.there.kept;
      timers = h.there.timers;
      page = h.there.page;
      low = h.there.low;
      focused = h.there.focused;
      labels = h.there.labels;
      fits = at_set (λ i x. CellFits slots x) hs n c (plain_object []) h.there.fits z;
      lib = h.there.lib;
      root = h.there.root;
    };
    wide = record { objects = subst (λ k. m.objects ≤ k) (sym (length-set hs n c)) h.wide.objects; nodes = h.wide.nodes; texts = refl };
  }

  -- a scope comes, or gets other values
  pub entered : (c : Scope) → Fine m hs cs ks ts f focus slots → PairsAre m c.pairs → Fine m hs (cs ++ c ∷ []) ks ts f focus slots
  entered c h q = record {
    there = record {
      objects = h.there.objects;
      older = h.there.older;
      chains = h.there.chains;
      scopes = at_end (λ n x. PairsAre m x.pairs) cs c no_scope h.there.scopes q;
      kept = h.there.kept;
      timers = h.there.timers;
      page = h.there.page;
      low = h.there.low;
      focused = h.there.focused;
      labels = h.there.labels;
      fits = h.there.fits;
      lib = h.there.lib;
      root = h.there.root;
    };
    wide = h.wide;
  }

  pub assigned : (n : ℕ) (c : Scope) → Fine m hs cs ks ts f focus slots → PairsAre m c.pairs → Fine m hs (slice_set cs n c) ks ts f focus slots
  assigned n c h q = record {
    there = record {
      objects = h.there.objects;
      older = h.there.older;
      chains = h.there.chains;
      scopes = at_set (λ i x. PairsAre m x.pairs) cs n c no_scope h.there.scopes q;
      kept = h.there.kept;
      timers = h.there.timers;
      page = h.there.page;
      low = h.there.low;
      focused = h.there.focused;
      labels = h.there.labels;
      fits = h.there.fits;
      lib = h.there.lib;
      root = h.there.root;
    };
    wide = h.wide;
  }

  -- another page of the same nodes
  pub paged : (g : Trees) → Fine m hs cs ks ts f focus slots → IsPage g m.nodes → height g ≤ max_node_depth + 1 → Told m (PageHasTexts g) → Fine m hs cs ks ts g focus slots
  paged g h q l w = record {
    there = record {
      objects = h.there.objects;
      older = h.there.older;
      chains = h.there.chains;
      scopes = h.there.scopes;
      kept = h.there.kept;
      timers = h.there.timers;
      page = q;
      low = l;
      focused = h.there.focused;
      labels = w;
      fits = h.there.fits;
      lib = h.there.lib;
      root = h.there.root;
    };
    wide = h.wide;
  }

  -- new nodes
  pub room_grows : (k : ℕ) → Fine m hs cs ks ts f focus slots → Grows m (record { objects = m.objects; nodes = length (ks ++ replicate k nothing_kept); texts = m.texts })
  room_grows k h = record { objects = self m.objects; nodes = omega (arith, h.wide.nodes, length-append ks (replicate k nothing_kept)); texts = refl }

  pub roomy : (g : Trees) (k : ℕ) → Fine m hs cs ks ts f focus slots → IsPage g (length (ks ++ replicate k nothing_kept)) → height g ≤ max_node_depth + 1 → Told m (PageHasTexts g)
      → Fine (record { objects = m.objects; nodes = length (ks ++ replicate k nothing_kept); texts = m.texts }) hs cs (ks ++ replicate k nothing_kept) ts g focus slots
  roomy g k h q l v =
      let b : Sizes = record { objects = m.objects; nodes = length (ks ++ replicate k nothing_kept); texts = m.texts } in
      let w : Grows m b = room_grows k h in
      let t : AreThere b hs cs ks ts f focus slots = there_later m b hs cs ks ts f focus slots w h.there in
      record {
        there = record {
          objects = t.objects;
          older = t.older;
          chains = t.chains;
          scopes = t.scopes;
          kept = at_room (KeptIs b) ks k nothing_kept t.kept (record { handlers = tt; mark = told b tt });
          timers = t.timers;
          page = q;
          low = l;
          focused = t.focused;
          labels = told_later m b _ w v;
          fits = t.fits;
          lib = t.lib;
          root = t.root;
        };
        wide = record { objects = h.wide.objects; nodes = self b.nodes; texts = refl };
      }

  -- what is kept with a node is changed
  pub rekept : (n : ℕ) (k : Kept) → Fine m hs cs ks ts f focus slots → KeptIs m k → Fine m hs cs (slice_set ks n k) ts f focus slots
  rekept n k h q = record {
    there = record {
      objects = h.there.objects;
      older = h.there.older;
      chains = h.there.chains;
      scopes = h.there.scopes;
      kept = at_set (λ i x. KeptIs m x) ks n k nothing_kept h.there.kept q;
      timers = h.there.timers;
      page = h.there.page;
      low = h.there.low;
      focused = h.there.focused;
      labels = h.there.labels;
      fits = h.there.fits;
      lib = h.there.lib;
      root = h.there.root;
    };
    wide = record { objects = h.wide.objects; nodes = subst (λ i. m.nodes ≤ i) (sym (length-set ks n k)) h.wide.nodes; texts = refl };
  }

  -- a timer
  pub waits : (t : Timer) → Fine m hs cs ks ts f focus slots → t.func < m.objects → Fine m hs cs ks (ts ++ t ∷ []) f focus slots
  waits t h l = timed (ts ++ t ∷ []) h (each_both (λ x. x.func < m.objects) ts (t ∷ []) h.there.timers (l, tt))
    where
      timed : (us : List Timer) → Fine m hs cs ks ts f focus slots → AllByRecursion (λ x. x.func < m.objects) us → Fine m hs cs ks us f focus slots
      timed us h q = record {
        there = record {
          objects = h.there.objects;
          older = h.there.older;
          chains = h.there.chains;
          scopes = h.there.scopes;
          kept = h.there.kept;
          timers = q;
          page = h.there.page;
          low = h.there.low;
          focused = h.there.focused;
          labels = h.there.labels;
          fits = h.there.fits;
          lib = h.there.lib;
          root = h.there.root;
        };
        wide = h.wide;
      }

  -- the focus
  pub focused : (o : Option ℕ) → Fine m hs cs ks ts f focus slots → OfNode m o → Fine m hs cs ks ts f o slots
  focused o h q = record {
    there = record {
      objects = h.there.objects;
      older = h.there.older;
      chains = h.there.chains;
      scopes = h.there.scopes;
      kept = h.there.kept;
      timers = h.there.timers;
      page = h.there.page;
      low = h.there.low;
      focused = q;
      labels = h.there.labels;
      fits = h.there.fits;
      lib = h.there.lib;
      root = h.there.root;
    };
    wide = h.wide;
  }

module _ (m : Sizes) where
  -- an object of the host's prototypes
  pub plain_is : (ps : Pairs) → PairsAre m ps → Told m (AreNames ps) → CellIs m (plain_object ps)
  plain_is ps h k = record { kind = tt; prototype = host_is m host.ObjectPrototype; pairs = h; names = k }

  pub born_then : (c : Cell) (s : State) (k : Value → State → Plan) → R m s → CellIs m c → IsShort max_chain s.own.heap (Some c.prototype) → CellFits s.own.counts.slots c
      → ((n : Sizes) → Grows m n → (v : Value) (t : State) → R n t → ValueIs n v → Keeps n (k v t))
      → Keeps m (k (Own (length s.own.heap)) (with_new_cell s c))
  born_then c s k h q short z f =
      let n : Sizes = with_one m s.own.heap c in
      let g : Grows m n = born_grows m s.own.heap s.own.scopes s.own.kept s.own.timers s.own.forest s.own.focus s.own.counts.slots c h in
      lowered m n (k (Own (length s.own.heap)) (with_new_cell s c)) g
      (f n g (Own (length s.own.heap)) (with_new_cell s c)
      (born m s.own.heap s.own.scopes s.own.kept s.own.timers s.own.forest s.own.focus s.own.counts.slots c h q short z)
      (is_born m s.own.heap s.own.scopes s.own.kept s.own.timers s.own.forest s.own.focus s.own.counts.slots c))

  pub made : (c : Cell) (n : ℕ) (s : State) (k : Value → State → Plan) → R m s → CellIs m c → IsShort max_chain s.own.heap (Some c.prototype) → CellFits n c
      → ((n : Sizes) → Grows m n → (v : Value) (t : State) → R n t → ValueIs n v → Keeps n (k v t)) → Keeps m (make c n s k)
  made c n s k h q short z f = paid m (object_cost n) s (λ t. k (Own (length t.own.heap)) (with_new_cell t c)) h (λ a u due. born_then c (with_counts s a) k u q short (fits_later n a.slots c (second_part s.own.counts.slots n a.slots due.more) z) f)

  pub made_text : (x : List ℕ) (s : State) (k : State → Plan) → R m s → ((a : Amounts) → R m (with_counts s a) → Due s (units_cost (length x)) a → nat_lt max_text (length x) ≡ false → Keeps m (k (with_counts s a))) → Keeps m (make_text x s k)
  made_text x s k h f = by_test m (nat_lt max_text (length x)) _ _ (λ e. halted m LongText s h) (λ e. paid m (units_cost (length x)) s k h (λ a u due. f a u due e))

  fault_is : (e : Fault) → CellIs m (plain_object (fault_pairs e))
  fault_is e = plain_is (fault_pairs e) (more_pairs m _ _ _ (text_is m (fault_name e) (told m (name_of_fault e))) (more_pairs m _ _ _ (text_is m (fault_message e) (told m (message_of_fault e))) (no_pairs m)))
      (told m (tested (codes "name") refl, (tested (codes "message") refl, tt)))

  pub faulted : (e : Fault) (s : State) → R m s → Keeps m (throw e s)
  faulted e s h = made (plain_object (fault_pairs e)) 2 s (λ v t. Ret (Throw v) t) h (fault_is e) tt (record { room = omega arith; len = tt; count = tt }) (λ n g v t u w. ended n (Throw v) t u (throw_end n v w))

  pub wanted : (e : Fault) (b : Bool) (s : State) (p : Plan) → R m s → (b ≡ true → Keeps m p) → Keeps m (want e b s p)
  wanted e b s p h f = by_test m b p (throw e s) f (λ x. faulted e s h)

  pub wants : (e : Fault) (b : Bool) (s : State) (p : Plan) → R m s → Keeps m p → Keeps m (want e b s p)
  wants e b s p h f = either m b p (throw e s) f (faulted e s h)

  pub found : {A : Type 0} (e : Fault) (o : Option A) (s : State) (k : A → Plan) → R m s → ((a : A) → o ≡ Some a → Keeps m (k a)) → Keeps m (or_throw e o s k)
  found e None s k h f = faulted e s h
  found e (Some a) s k h f = f a refl

-- an end at a state to which more was born
pub ended_at : (m : Sizes) (o : Completion) (s : State) → Stands m s → ((n : Sizes) → Grows m n → CompletionIs n o) → Keeps m (Ret o s)
unfolding Keeps
ended_at m o s h f = record { size = h.size; grows = h.grows; fine = h.fine; end = f h.size h.grows }
