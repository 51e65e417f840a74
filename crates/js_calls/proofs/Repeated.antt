-- Calls with each item of a list.
use Rattle.std.proofs.Common.{◌≡◌, ℕ, zero, suc, ◌<◌, ◌+◌, Bool, true, false, List, [], ◌∷◌, ◌++◌, length, refl, sym, ap, ◌∙◌, subst, cond, Some, None, map, drop, take, get_or, arith}
use Rattle.std.specs.Prelude.{IfSome, slice_get, option_map, if◌then◌else◌, pos}
use Rattle.std.specs.Option.{option_map_or}
use Rattle.std.proofs.lemmas.List.{length-map, length_push, map-append}
use Rattle.store_cells.specs.declared.value.Value.{Value as Stored}
use Rattle.store_cells.specs.declared.value.Value.TheVariants as value
use Rattle.store_cells.specs.declared.value.Number.TheVariants as number
use Rattle.js_tree.specs.Forest.{Forest}
use Rattle.store_cells.specs.Cells.{PlainCell}
use Rattle.widget_meaning.specs.Values.{Value, Is, Num, is_true}
use Rattle.widget_meaning.specs.OwnState.{State}
use Rattle.widget_meaning.specs.Plan as plan
use Rattle.widget_meaning.specs.Plan.{Do, after}
use Rattle.widget_meaning.specs.Costs.{give}
use Rattle.widget_meaning.specs.ListNatives.{call_each, kept}
use Rattle.widget_meaning.specs.BunchWrites.{each_called}
use Rattle.js_image.specs.Image.{all_seen, seen}
use Rattle.js_image.specs.Held.{AreFine, IsFine, IsHeld}
use Rattle.js_values.specs.declared.outcome.Keep.{Keep}
use Rattle.js_values.specs.declared.outcome.Keep.TheVariants as keep
use Rattle.js_values.specs.Answers as answers
use Rattle.js_flow.specs.Fine.{FineCall}
use Rattle.js_flow.specs.declared.job.Call.{Call}
use Rattle.js_flow.specs.declared.frame.Calling.{Calling}
use Rattle.js_flow.specs.declared.frame.Gathering.{Gathering}
use Rattle.js_flow.specs.Calls.{calling_taken, gathered, gathering_taken}
use Rattle.js_calls.specs.Called.{each_left, gather_left, kept_as}
use Rattle.js_calls.proofs.Pairs.{fine_at}

none_some : {A : Type 0} {a : A} → None ≡ Some a → ⊥
none_some e = cc

some_none : {A : Type 0} {a : A} → Some a ≡ None → ⊥
some_none e = cc

same_some : {A : Type 0} (a b : A) → Some a ≡ Some b → a ≡ b
same_some a b e = cc

-- the element at a place
module _ {X Y : Type 0} (g : X → Y) where
  drop_next : (xs : List X) (n : ℕ) (x : X) → slice_get xs n ≡ Some x → drop n (map g xs) ≡ g x ∷ drop (suc n) (map g xs)
  drop_next [] n x h = absurd (none_some h)
  drop_next (y ∷ xs) zero x h = ap (λ z. g z ∷ map g xs) (same_some y x h)
  drop_next (y ∷ xs) (suc n) x h = drop_next xs n x h

  pub drop_at : (xs : List X) (n : ℕ) (x : X) → slice_get xs n ≡ Some x → drop n (map g xs) ≡ g x ∷ drop (n + 1) (map g xs)
  drop_at xs n x h = drop_next xs n x h ∙ ap (λ m. g x ∷ drop m (map g xs)) (one n)
    where
      one : (k : ℕ) → suc k ≡ k + 1
      one k = omega arith

  pub drop_past : (xs : List X) (n : ℕ) → slice_get xs n ≡ None → drop n (map g xs) ≡ []
  drop_past [] zero h = refl
  drop_past [] (suc n) h = refl
  drop_past (y ∷ xs) zero h = absurd (some_none h)
  drop_past (y ∷ xs) (suc n) h = drop_past xs n h

pub there : {X : Type 0} (xs : List X) (i : ℕ) (x : X) → i < length xs → x ≡ get_or xs i x → slice_get xs i ≡ Some x
there [] i x lt is = absurd (omega arith)
there (y ∷ xs) zero x lt is = ap Some (sym is)
there (y ∷ xs) (suc i) x lt is = there xs i x (omega arith) is

pub within : {X : Type 0} (xs : List X) (i : ℕ) (x : X) → slice_get xs i ≡ Some x → i < length xs
within [] i x h = absurd (none_some h)
within (y ∷ xs) zero x h = omega arith
within (y ∷ xs) (suc i) x h = omega (arith, within xs i x h)

-- a job by the parts of its call
pub job_is : (w : ℕ) (cells : List PlainCell) (c : Call) (f : Stored) (vs : List Stored) (d : ℕ) → c.func ≡ f → c.this ≡ None → c.args.items ≡ vs → c.depth ≡ d
    → plan.Call (seen w cells c.func) (option_map (seen w cells) c.this) (all_seen w cells c.args.items) c.depth ≡ plan.Call (seen w cells f) None (all_seen w cells vs) d
job_is w cells c f vs d a b e g = λ i. plan.Call (seen w cells (a i)) (option_map (seen w cells) (b i)) (all_seen w cells (e i)) (g i)

-- the items whose result is true
one_kept : (x u : Value) (ps qs : List (Value × Value)) (r : List Value) (b : Bool) → map (λ (p : Value × Value). p.0) ps ≡ map (λ (p : Value × Value). p.0) qs ++ r
    → map (λ (p : Value × Value). p.0) (cond b ((x, u) ∷ ps) ps) ≡ map (λ (p : Value × Value). p.0) (cond b ((x, u) ∷ qs) qs) ++ r
one_kept x u ps qs r true h = ap (λ l. x ∷ l) h
one_kept x u ps qs r false h = h

first_kept : (x u : Value) (b : Bool) → map (λ (p : Value × Value). p.0) (cond b ((x, u) ∷ []) []) ≡ (if b then x ∷ [] else [])
first_kept x u true = refl
first_kept x u false = refl

pub kept_more : (vs ws : List Value) (i : ℕ) (v : Value) → slice_get vs i ≡ Some v → kept (take (suc i) vs) ws ≡ kept (take i vs) ws ++ (if option_map_or is_true (slice_get ws i) false then v ∷ [] else [])
kept_more [] ws i v h = absurd (none_some h)
kept_more (x ∷ vs) [] zero v h = refl
kept_more (x ∷ vs) [] (suc i) v h = refl
kept_more (x ∷ vs) (u ∷ us) zero v h = first_kept x u (is_true u) ∙ ap (λ y. if is_true u then y ∷ [] else []) (same_some x v h)
kept_more (x ∷ vs) (u ∷ us) (suc i) v h = one_kept x u _ _ _ (is_true u) (kept_more vs us i v h)

-- the next call with an item, and the end of all calls
module _ (fs : List Forest) (w : ℕ) (cells : List PlainCell) (s : State) where
  pub each_next : (c b : Calling) (call : Call) (item : Stored) → slice_get c.items.items c.next ≡ Some item → b ≡ record c { next = c.next + 1 }
      → call.func ≡ value.Ref c.func → call.this ≡ None → call.args.items ≡ item ∷ [] → call.depth ≡ c.depth
      → Do (plan.Call (seen w cells call.func) (option_map (seen w cells) call.this) (all_seen w cells call.args.items) call.depth) s (calling_taken fs w cells b) ≡ each_left w cells c s
  each_next c b call item at same f t a d =
      (λ i. Do (job_is w cells call (value.Ref c.func) (item ∷ []) c.depth f t a d i) s (calling_taken fs w cells (same i)))
      ∙ sym (ap (λ l. each_called (seen w cells (value.Ref c.func)) l (seen w cells c.last) c.depth s) (drop_at (seen w cells) c.items.items c.next item at))

  pub each_over : (c : Calling) (last : Stored) → slice_get c.items.items c.next ≡ None → last ≡ c.last → give (seen w cells last) s ≡ each_left w cells c s
  each_over c last at same =
      ap (λ v. give (seen w cells v) s) same
      ∙ sym (ap (λ l. each_called (seen w cells (value.Ref c.func)) l (seen w cells c.last) c.depth s) (drop_past (seen w cells) c.items.items c.next at))

  module _ (g : Gathering) where
    abbrev vs : List Value
    vs = all_seen w cells g.items.items

    abbrev ws : List Value
    ws = all_seen w cells g.results.items

    left_is : (l : List Value) → drop (length g.results.items) vs ≡ l
        → call_each (seen w cells (value.Ref g.func)) l (length ws) ws g.depth s (gathered g.keep vs) ≡ gather_left w cells g s
    left_is l e = ap (λ l. call_each (seen w cells (value.Ref g.func)) l (length ws) ws g.depth s (gathered g.keep vs)) (sym (ap (λ n. drop n vs) (length-map g.results.items (seen w cells)) ∙ e))

    pub gather_next : (call : Call) (item : Stored) (n : ℕ) → slice_get g.items.items (length g.results.items) ≡ Some item → n ≡ length g.results.items
        → call.func ≡ value.Ref g.func → call.this ≡ None → call.args.items ≡ item ∷ (value.Num (number.Whole (pos n)) ∷ []) → call.depth ≡ g.depth
        → Do (plan.Call (seen w cells call.func) (option_map (seen w cells) call.this) (all_seen w cells call.args.items) call.depth) s (gathering_taken fs w cells g) ≡ gather_left w cells g s
    gather_next call item n at many f t a d =
        (λ i. Do (job_is w cells call (value.Ref g.func) (item ∷ (value.Num (number.Whole (pos n)) ∷ [])) g.depth f t a d i) s
        (after (λ v u. call_each (seen w cells (value.Ref g.func)) (drop (length_push ws v i) vs) (length_push ws v i) (ws ++ v ∷ []) g.depth u (gathered g.keep vs))))
        ∙ (λ i. Do (plan.Call (seen w cells (value.Ref g.func)) None (seen w cells item ∷ (Num (pos ((many ∙ sym (length-map g.results.items (seen w cells))) i)) ∷ [])) g.depth) s
        (after (λ v u. call_each (seen w cells (value.Ref g.func)) (drop (length-map g.results.items (seen w cells) i + 1) vs) (length ws + 1) (ws ++ v ∷ []) g.depth u (gathered g.keep vs))))
        ∙ left_is (seen w cells item ∷ drop (length g.results.items + 1) vs) (drop_at (seen w cells) g.items.items (length g.results.items) item at)

    pub gather_over : slice_get g.items.items (length g.results.items) ≡ None → gathered g.keep vs ws s ≡ gather_left w cells g s
    gather_over at = left_is [] (drop_past (seen w cells) g.items.items (length g.results.items) at)

-- one result more
pub one_result : (fs : List Forest) (w : ℕ) (cells : List PlainCell) (s : State) (g h : Gathering) (v : Stored) → h.func ≡ g.func → h.items ≡ g.items → h.results.items ≡ g.results.items ++ v ∷ [] → h.keep ≡ g.keep → h.depth ≡ g.depth
    → gather_left w cells h s ≡ gathering_taken fs w cells g (Is (seen w cells v)) s
one_result fs w cells s g h v f i r k d =
    let ws : all_seen w cells h.results.items ≡ all_seen w cells g.results.items ++ seen w cells v ∷ [] = ap (all_seen w cells) r ∙ map-append (seen w cells) g.results.items (v ∷ []) in
    λ j. call_each (seen w cells (value.Ref (f j))) (drop (length (ws j)) (all_seen w cells (i j).items)) (length (ws j)) (ws j) (d j) s (gathered (k j) (all_seen w cells (i j).items))

-- one item more of those that are kept
at_map : {X Y : Type 0} (g : X → Y) (xs : List X) (i : ℕ) (x : X) → slice_get xs i ≡ Some x → slice_get (map g xs) i ≡ Some (g x)
at_map g [] i x h = absurd (none_some h)
at_map g (y ∷ xs) zero x h = ap (λ z. Some (g z)) (same_some y x h)
at_map g (y ∷ xs) (suc i) x h = at_map g xs i x h

seen_if : (w : ℕ) (cells : List PlainCell) (b : Bool) (v : Stored) → all_seen w cells (if b then v ∷ [] else []) ≡ (if b then seen w cells v ∷ [] else [])
seen_if w cells true v = refl
seen_if w cells false v = refl

pub kept_step : (w : ℕ) (cells : List PlainCell) (items results ks new : List Stored) (i : ℕ) (item : Stored) (b : Bool) → i < length items → item ≡ get_or items i item
    → new ≡ ks ++ (if b then item ∷ [] else []) → b ≡ option_map_or is_true (slice_get (all_seen w cells results) i) false
    → all_seen w cells ks ≡ kept (take i (all_seen w cells items)) (all_seen w cells results)
    → all_seen w cells new ≡ kept (take (i + 1) (all_seen w cells items)) (all_seen w cells results)
kept_step w cells items results ks new i item b lt is push passes h =
    ap (all_seen w cells) push ∙ map-append (seen w cells) ks (if b then item ∷ [] else [])
    ∙ (λ j. h j ++ (seen_if w cells b item ∙ ap (λ (q : Bool). if q then seen w cells item ∷ [] else []) passes) j)
    ∙ sym (kept_more (all_seen w cells items) (all_seen w cells results) i (seen w cells item) (at_map (seen w cells) items i item (there items i item lt is)))
    ∙ ap (λ n. kept (take n (all_seen w cells items)) (all_seen w cells results)) (one i)
  where
    one : (k : ℕ) → suc k ≡ k + 1
    one k = omega arith

fine_if : (w : ℕ) (cells : List PlainCell) (ks : List Stored) (v : Stored) (b : Bool) → AreFine w cells ks → IsFine w cells v → AreFine w cells (ks ++ (if b then v ∷ [] else []))
fine_if w cells [] v true h k = (k, tt)
fine_if w cells [] v false h k = tt
fine_if w cells (x ∷ ks) v b h k = (h.0, fine_if w cells ks v b h.1 k)

pub fine_step : (w : ℕ) (cells : List PlainCell) (items ks new : List Stored) (i : ℕ) (item : Stored) (b : Bool) → i < length items → item ≡ get_or items i item
    → new ≡ ks ++ (if b then item ∷ [] else []) → AreFine w cells items → AreFine w cells ks → AreFine w cells new
fine_step w cells items ks new i item b lt is push f h =
    subst (AreFine w cells) (sym push) (fine_if w cells ks item b h (fine_at w cells items i item (there items i item lt is) f))

-- a call of what the widget may hold
pub fine_call : (w : ℕ) (cells : List PlainCell) (c : Call) (func : ℕ) (vs : List Stored) → c.func ≡ value.Ref func → c.this ≡ None → c.args.items ≡ vs → IsHeld w cells func → AreFine w cells vs → FineCall w cells c
fine_call w cells c func vs f t a h k =
    (subst (IsFine w cells) (sym f) h, subst (λ o. IfSome o (IsFine w cells)) (sym t) tt, subst (AreFine w cells) (sym a) k)

-- the calls that a native asks for begin with the first item
same_keep : (k : Keep) (us rs : List Value) (t : State) → gathered (kept_as k) us rs t ≡ answers.gathered k us rs t
same_keep keep.Nothing us rs t = refl
same_keep keep.Results us rs t = refl
same_keep keep.Passing us rs t = refl

pub gather_start : (w : ℕ) (cells : List PlainCell) (s : State) (g : Gathering) (func : ℕ) (items : List Stored) (k : Keep) (d : ℕ)
    → g.func ≡ func → g.items.items ≡ items → g.results.items ≡ [] → g.keep ≡ kept_as k → g.depth ≡ d
    → gather_left w cells g s ≡ call_each (seen w cells (value.Ref func)) (all_seen w cells items) 0 [] d s (answers.gathered k (all_seen w cells items))
gather_start w cells s g func items k d f i r e h =
    (λ j. call_each (seen w cells (value.Ref (f j))) (drop (length (all_seen w cells (r j))) (all_seen w cells (i j))) (length (all_seen w cells (r j))) (all_seen w cells (r j)) (h j) s (gathered (e j) (all_seen w cells (i j))))
    ∙ (λ j. call_each (seen w cells (value.Ref func)) (all_seen w cells items) 0 [] d s (λ ws t. same_keep k (all_seen w cells items) ws t j))
