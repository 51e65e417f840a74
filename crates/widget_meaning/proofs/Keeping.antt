-- What every plan keeps, and how it ends: the steps of which plans are made.
use Rattle.std.proofs.Common.{◌≡◌, ℕ, zero, suc, ◌≤◌, List, [], ◌∷◌, ◌++◌, length, Bool, true, false, refl, sym, subst, Option, Some, None, arith}
use Rattle.std.specs.Prelude.{nat_lt, if◌then◌else◌, slice_set, slice_index_or}
use Rattle.std.proofs.lemmas.Bool.{ltb-false}
use Rattle.std.proofs.lemmas.List.{length-set}
use Rattle.plain_tree.specs.Trees.{Label}
use Rattle.tree_ops.specs.Trees.{relabelled}
use Rattle.widget_meaning.specs.Trees.{Trees, detached}
use Rattle.widget_meaning.specs.Limits.{max_cells, max_slots, max_units, max_nodes, max_text}
use Rattle.widget_meaning.specs.Values.{StopCause, Units, Cells, Slots, Nodes, LongText, Value, Own, Completion, Normal, Is, Refers, Return, Break, Continue, Throw, Reference, Fault}
use Rattle.widget_meaning.specs.OwnState.{Amounts, State, Cell, Kind, Object, Array, Function, Bunch, Scope, Timer, Pairs, cell_at, plain_object, with_new_cell}
use Rattle.widget_meaning.specs.Plan.{Job, Eval, Target, Exec, Pass, Call, RunNative, Hear, Place, Plan, Ret, Halt, Need, Tick, Do, and_then, ticks, charge, on_value, on_reference, on_normal, on_throw}
use Rattle.widget_meaning.specs.Costs.{sum, pay, make, make_text, throw, fault_pairs, object_cost, units_cost, or_throw, want, with_counts}
use Rattle.widget_meaning.specs.Ways.{Way, ByValue, ByReference, Anyhow, Ends, way_of}
use Rattle.widget_meaning.specs.Keeps.{Links, Pages, Invariant, Fine, HoldsOf, JobOf, Keeps, OfFunction, no_scope}

pub no_kind : (k : Kind) → OfFunction (λ o. Unit {0}) k
no_kind (Function f o) = tt
no_kind Object = tt
no_kind (Array n) = tt
no_kind (Bunch ns) = tt

pub none : (n : ℕ) → 0 ≤ n
none n = omega arith

-- where objects and scopes are not looked at
abbrev pub no_links : Links
no_links = record {
  asked = λ n. 0;
  enough = λ n. none n;
  through = λ m n k l h. none k;
  Linked = λ hs cs. Unit {0};
  Older = λ n o. Unit {0};
  later = λ m n o l h. tt;
  outermost = λ n. tt;
  newest = λ cs c. tt;
  function = λ hs cs n h. no_kind (slice_index_or hs n (plain_object [])).kind;
  born = λ hs cs c h q. tt;
  written = λ hs cs n c h q. tt;
  entered = λ hs cs c h q. tt;
  assigned = λ hs cs n ps h. tt;
}

-- where the page is not looked at
abbrev pub no_pages : Pages
no_pages = record {
  Page = λ ts k. Unit {0};
  labelled = λ ts k n l h. tt;
  put = λ ts k p n next h. tt;
  freed = λ ts k n h. tt;
  grown = λ ts us k p next h. tt;
  added = λ ts k l h. tt;
}

-- one more
longer : (cs : List Scope) (c : Scope) → length cs ≤ length (cs ++ c ∷ [])
longer [] c = omega arith
longer (d ∷ cs) c = one_more (length cs) _ (longer cs c)
  where
    one_more : (m n : ℕ) → m ≤ n → suc m ≤ suc n
    one_more m n h = omega arith

module _ (inv : Invariant) (many : ℕ) where
  -- the states of a plan
  abbrev pub R : State → Type 0
  R s = HoldsOf inv many s

  -- the scope of a place
  abbrev pub At : Place → Type 0
  At p = inv.links.Older many p.scope

  pub ended : (way : Way) (o : Completion) (s : State) → R s → Ends way o → Keeps inv many way (Ret o s)
  unfolding Keeps
  ended way o s h e = (h, e)

  pub gave : (way : Way) (v : Value) (s : State) → R s → Keeps inv many way (Ret (Is v) s)
  gave ByValue v s h = ended ByValue (Is v) s h tt
  gave ByReference v s h = ended ByReference (Is v) s h tt
  gave Anyhow v s h = ended Anyhow (Is v) s h tt

  pub threw : (way : Way) (v : Value) (s : State) → R s → Keeps inv many way (Ret (Throw v) s)
  threw ByValue v s h = ended ByValue (Throw v) s h tt
  threw ByReference v s h = ended ByReference (Throw v) s h tt
  threw Anyhow v s h = ended Anyhow (Throw v) s h tt

  pub refers : (r : Reference) (s : State) → R s → Keeps inv many ByReference (Ret (Refers r) s)
  refers r s h = ended ByReference (Refers r) s h tt

  pub any_end : (o : Completion) (s : State) → R s → Keeps inv many Anyhow (Ret o s)
  any_end o s h = ended Anyhow o s h tt

  pub halted : (way : Way) (c : StopCause) (s : State) → R s → Keeps inv many way (Halt c s)
  unfolding Keeps
  halted way c s h = h

  -- so many scopes are there where more are
  far : (m n k : ℕ) → m ≤ n → n ≤ k → m ≤ k
  far m n k h i = omega arith

  pub wider : (n : ℕ) (t : State) → inv.links.asked many ≤ n → HoldsOf inv n t → R t
  wider n t l h = record { holds = h.holds; linked = h.linked; page = h.page; wide = inv.links.through many n (length t.own.scopes) l h.wide }

  pub job_later : (m n : ℕ) (j : Job) → inv.links.asked m ≤ n → JobOf inv m j → JobOf inv n j
  job_later m n (Eval e p) l h = inv.links.later m n p.scope l h
  job_later m n (Target e p) l h = inv.links.later m n p.scope l h
  job_later m n (Exec e p) l h = inv.links.later m n p.scope l h
  job_later m n (Pass x p) l h = inv.links.later m n p.scope l h
  job_later m n (Call f this vs d) l h = tt
  job_later m n (RunNative f this vs d) l h = tt
  job_later m n (Hear x) l h = tt

  pub kind_later : (m n : ℕ) (k : Kind) → inv.links.asked m ≤ n → OfFunction (inv.links.Older m) k → OfFunction (inv.links.Older n) k
  kind_later m n (Function f o) l h = inv.links.later m n o l h
  kind_later m n Object l h = tt
  kind_later m n (Array x) l h = tt
  kind_later m n (Bunch ns) l h = tt

  pub job : (way : Way) (j : Job) (s : State) (k : Completion → State → Plan) → R s → JobOf inv many j → ((o : Completion) (t : State) → R t → Ends (way_of j) o → Keeps inv many way (k o t)) → Keeps inv many way (Do j s k)
  unfolding Keeps
  job way j s k h q f = (h, (job_later many (length s.own.scopes) j h.wide q, λ o t u e. f o t (wider (length s.own.scopes) t h.wide u) e))

  pub either : (way : Way) (b : Bool) (p q : Plan) → Keeps inv many way p → Keeps inv many way q → Keeps inv many way (if b then p else q)
  either way true p q h k = h
  either way false p q h k = k

  pub value : (way : Way) (o : Completion) (s : State) (k : Value → Plan) → R s → Ends ByValue o → ((v : Value) → Keeps inv many way (k v)) → Keeps inv many way (on_value o s k)
  value way (Is v) s k h e f = f v
  value way (Throw v) s k h e f = threw way v s h
  value way Normal s k h e f = absurd e
  value way (Refers r) s k h e f = absurd e
  value way (Return v) s k h e f = absurd e
  value way Break s k h e f = absurd e
  value way Continue s k h e f = absurd e

  pub any_value : (o : Completion) (s : State) (k : Value → Plan) → R s → ((v : Value) → Keeps inv many Anyhow (k v)) → Keeps inv many Anyhow (on_value o s k)
  any_value (Is v) s k h f = f v
  any_value Normal s k h f = any_end Normal s h
  any_value (Refers r) s k h f = any_end (Refers r) s h
  any_value (Return v) s k h f = any_end (Return v) s h
  any_value Break s k h f = any_end Break s h
  any_value Continue s k h f = any_end Continue s h
  any_value (Throw v) s k h f = any_end (Throw v) s h

  pub reference : (o : Completion) (s : State) (k : Reference → Plan) → R s → Ends ByReference o → ((r : Reference) → Keeps inv many ByValue (k r)) → Keeps inv many ByValue (on_reference o s k)
  reference (Refers r) s k h e f = f r
  reference (Is v) s k h e f = gave ByValue v s h
  reference (Throw v) s k h e f = threw ByValue v s h
  reference Normal s k h e f = absurd e
  reference (Return v) s k h e f = absurd e
  reference Break s k h e f = absurd e
  reference Continue s k h e f = absurd e

  pub normal : (o : Completion) (s : State) (p : Plan) → R s → Keeps inv many Anyhow p → Keeps inv many Anyhow (on_normal o s p)
  normal Normal s p h f = f
  normal (Is v) s p h f = any_end (Is v) s h
  normal (Refers r) s p h f = any_end (Refers r) s h
  normal (Return v) s p h f = any_end (Return v) s h
  normal Break s p h f = any_end Break s h
  normal Continue s p h f = any_end Continue s h
  normal (Throw v) s p h f = any_end (Throw v) s h

  pub thrown : (o : Completion) (p : Plan) (k : Value → Plan) → Keeps inv many Anyhow p → ((v : Value) → Keeps inv many Anyhow (k v)) → Keeps inv many Anyhow (on_throw o p k)
  thrown (Throw v) p k h f = f v
  thrown Normal p k h f = h
  thrown (Is v) p k h f = h
  thrown (Refers r) p k h f = h
  thrown (Return v) p k h f = h
  thrown Break p k h f = h
  thrown Continue p k h f = h

  -- one plan, and then another, where the first may speak of more scopes
  pub chain_later : (way first : Way) (n : ℕ) (p : Plan) (k : Completion → State → Plan) → inv.links.asked many ≤ n → Keeps inv n first p
      → ((o : Completion) (t : State) → HoldsOf inv n t → Ends first o → Keeps inv many way (k o t)) → Keeps inv many way (and_then p k)
  unfolding Keeps
  chain_later way first n (Ret o s) k l h f = f o s h.0 h.1
  chain_later way first n (Halt c s) k l h f = wider n s l h
  chain_later way first n (Need c s p) k l h f = (wider n s l h.0, chain_later way first n p k l h.1 f)
  chain_later way first n (Tick s p) k l h f = (wider n s l h.0, chain_later way first n p k l h.1 f)
  chain_later way first n (Do j s m) k l h f = (wider n s l h.0, (h.1.0, λ o t u e. chain_later way first n (m o t) k l (h.1.1 o t u e) f))

  pub chain : (way : Way) (p : Plan) (k : Completion → State → Plan) → Keeps inv many ByValue p → ((o : Completion) (t : State) → R t → Ends ByValue o → Keeps inv many way (k o t)) → Keeps inv many way (and_then p k)
  chain way p k h f = chain_later way ByValue many p k (inv.links.enough many) h f

  pub any_chain : (way : Way) (p : Plan) (k : Completion → State → Plan) → Keeps inv many Anyhow p → ((o : Completion) (t : State) → R t → Keeps inv many way (k o t)) → Keeps inv many way (and_then p k)
  any_chain way p k h f = chain_later way Anyhow many p k (inv.links.enough many) h (λ o t u e. f o t u)

  -- a plan that speaks of more scopes
  pub lowered : (way : Way) (n : ℕ) (p : Plan) → inv.links.asked many ≤ n → Keeps inv n way p → Keeps inv many way p
  unfolding Keeps
  lowered way n (Ret o s) l h = (wider n s l h.0, h.1)
  lowered way n (Halt c s) l h = wider n s l h
  lowered way n (Need c s p) l h = (wider n s l h.0, lowered way n p l h.1)
  lowered way n (Tick s p) l h = (wider n s l h.0, lowered way n p l h.1)
  lowered way n (Do j s k) l h = (wider n s l h.0, (h.1.0, λ o t u e. lowered way n (k o t) l (h.1.1 o t u e)))

  ticked : (way : Way) (n : ℕ) (s : State) (p : Plan) → R s → Keeps inv many way p → Keeps inv many way (ticks n s p)
  unfolding Keeps
  ticked way zero s p h f = f
  ticked way (suc n) s p h f = (h, ticked way n s p h f)

  pub charged : (way : Way) (n : ℕ) (s : State) (p : Plan) → R s → Keeps inv many way p → Keeps inv many way (charge n s p)
  unfolding Keeps
  charged way n s p h f = (h, ticked way n s p h f)

  -- a cost
  pub unless : (way : Way) (b : Bool) (p q : Plan) → Keeps inv many way p → (b ≡ false → Keeps inv many way q) → Keeps inv many way (if b then p else q)
  unless way true p q h f = h
  unless way false p q h f = f refl

  pub paid : (way : Way) (c : Amounts) (s : State) (k : State → Plan) → R s → ((a : Amounts) → R (with_counts s a) → Keeps inv many way (k (with_counts s a))) → Keeps inv many way (pay c s k)
  paid way c s k h f =
      let b : Amounts = sum s.own.counts c in
      unless way (nat_lt max_units b.units) _ _ (halted way Units s h) (λ u. unless way (nat_lt max_cells b.cells) _ _ (halted way Cells s h) (λ v. unless way (nat_lt max_slots b.slots) _ _ (halted way Slots s h) (λ x. unless way (nat_lt max_nodes b.nodes) _ _ (halted way Nodes s h) (λ y. f b (record {
        holds = inv.paid s.own.counts c s.own.timers s.own.clock h.holds (record {
          units = ltb-false max_units b.units u;
          cells = ltb-false max_cells b.cells v;
          slots = ltb-false max_slots b.slots x;
          nodes = ltb-false max_nodes b.nodes y;
        });
        linked = h.linked;
        page = h.page;
        wide = h.wide;
      })))))

  -- objects and scopes
  module _ (c : Amounts) (ts : List Timer) (clock : ℕ) (hs : List Cell) (cs : List Scope) (f : Trees) (k : ℕ) where
    pub born : (d : Cell) → Fine inv many c ts clock hs cs f k → OfFunction (inv.links.Older many) d.kind → Fine inv many c ts clock (hs ++ d ∷ []) cs f k
    born d h q = record { holds = h.holds; linked = inv.links.born hs cs d h.linked (kind_later many (length cs) d.kind h.wide q); page = h.page; wide = h.wide }

    pub written : (n : ℕ) (d : Cell) → Fine inv many c ts clock hs cs f k → OfFunction (inv.links.Older (length cs)) d.kind → Fine inv many c ts clock (slice_set hs n d) cs f k
    written n d h q = record { holds = h.holds; linked = inv.links.written hs cs n d h.linked q; page = h.page; wide = h.wide }

    pub entered : (d : Scope) → Fine inv many c ts clock hs cs f k → inv.links.Older (length cs) d.outer → Fine inv (length (cs ++ d ∷ [])) c ts clock hs (cs ++ d ∷ []) f k
    entered d h q = record { holds = h.holds; linked = inv.links.entered hs cs d h.linked q; page = h.page; wide = inv.links.enough (length (cs ++ d ∷ [])) }

    pub assigned : (n : ℕ) (ps : Pairs) → Fine inv many c ts clock hs cs f k → Fine inv many c ts clock hs (slice_set cs n (record (slice_index_or cs n no_scope) { pairs = ps })) f k
    assigned n ps h = record { holds = h.holds; linked = inv.links.assigned hs cs n ps h.linked; page = h.page; wide = subst (λ m. inv.links.asked many ≤ m) (sym (length-set cs n _)) h.wide }

    -- another page
    pub paged : (g : Trees) (m : ℕ) → Fine inv many c ts clock hs cs f k → inv.pages.Page g m → Fine inv many c ts clock hs cs g m
    paged g m h q = record { holds = h.holds; linked = h.linked; page = q; wide = h.wide }

    pub labelled : (n : ℕ) (l : Label) → Fine inv many c ts clock hs cs f k → Fine inv many c ts clock hs cs (relabelled n l f) k
    labelled n l h = paged (relabelled n l f) k h (inv.pages.labelled f k n l h.page)

    pub freed : (n : ℕ) → Fine inv many c ts clock hs cs f k → Fine inv many c ts clock hs cs (detached f n) k
    freed n h = paged (detached f n) k h (inv.pages.freed f k n h.page)

  pub no_fewer : (s : State) (c : Scope) → R s → inv.links.asked many ≤ length (s.own.scopes ++ c ∷ [])
  no_fewer s c h = far (inv.links.asked many) (length s.own.scopes) _ h.wide (longer s.own.scopes c)

  pub kind_at : (s : State) (n : ℕ) → R s → OfFunction (inv.links.Older (length s.own.scopes)) (cell_at s n).kind
  kind_at s n h = inv.links.function s.own.heap s.own.scopes n h.linked

  -- what is no function has no scope
  pub no_function : Unit {0}
  no_function = tt

  -- nor has one that is made outside of all
  pub outermost : inv.links.Older many None
  outermost = inv.links.outermost many

  pub made : (way : Way) (c : Cell) (n : ℕ) (s : State) (k : Value → State → Plan) → R s → OfFunction (inv.links.Older many) c.kind → ((v : Value) (t : State) → R t → Keeps inv many way (k v t)) → Keeps inv many way (make c n s k)
  made way c n s k h q f = paid way (object_cost n) s (λ t. k (Own (length t.own.heap)) (with_new_cell t c)) h (λ a u. f (Own (length s.own.heap)) (with_new_cell (with_counts s a) c) (born a s.own.timers s.own.clock s.own.heap s.own.scopes s.own.forest (length s.own.kept) c u q))

  pub made_text : (way : Way) (x : List ℕ) (s : State) (k : State → Plan) → R s → ((a : Amounts) → R (with_counts s a) → Keeps inv many way (k (with_counts s a))) → Keeps inv many way (make_text x s k)
  made_text way x s k h f = either way (nat_lt max_text (length x)) _ _ (halted way LongText s h) (paid way (units_cost (length x)) s k h f)

  pub faulted : (way : Way) (e : Fault) (s : State) → R s → Keeps inv many way (throw e s)
  faulted way e s h = made way (plain_object (fault_pairs e)) 2 s (λ v t. Ret (Throw v) t) h tt (λ v t u. threw way v t u)

  pub wanted : (way : Way) (e : Fault) (b : Bool) (s : State) (p : Plan) → R s → Keeps inv many way p → Keeps inv many way (want e b s p)
  wanted way e b s p h f = either way b p (throw e s) f (faulted way e s h)

  pub found : {A : Type 0} (way : Way) (e : Fault) (o : Option A) (s : State) (k : A → Plan) → R s → ((a : A) → Keeps inv many way (k a)) → Keeps inv many way (or_throw e o s k)
  found way e None s k h f = faulted way e s h
  found way e (Some a) s k h f = f a
