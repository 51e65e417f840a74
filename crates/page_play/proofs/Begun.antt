-- What the lives of a page begin with, with one item more.
use Rattle.std.proofs.Common.{◌≡◌, ◌≢◌, ℕ, zero, suc, ◌+◌, List, [], ◌∷◌, ◌++◌, Bool, true, false, Option, Some, None, refl, sym, ap, ◌∙◌, arith, append_assoc, append-nil, ◌⊎◌, inl, inr}
use Rattle.std.specs.Prelude.{nat_eq, if◌then◌else◌, option_map, slice_get, slice_index_or}
use Rattle.std.proofs.lemmas.Bool.Decides.{eqb_tells}
use Rattle.adsafe_rules.specs.declared.accepted.Accepted.{Accepted}
use Rattle.trace_reader.specs.Said.{Said, an_event, an_advance, a_swap}
use Rattle.widget_meaning.specs.Alone.{Content}
use Rattle.widget_meaning.specs.Items.{Item}
use Rattle.life_laws.specs.Fed.{Fed}
use Rattle.page_plan.specs.declared.PageSpec.{PageSpec}
use Rattle.page_plan.specs.declared.SlotContent.{SlotContent}
use Rattle.page_plan.specs.declared.SlotSpec.{SlotSpec}
use Rattle.page_plan.specs.Contents.{content_of}
use Rattle.slot_lives.specs.Lives as lives
use Rattle.slot_lives.specs.Lives.{Life, last_life, swaps_in}
use Rattle.slot_lives.specs.LifeLaws as laws
use Rattle.slot_lives.specs.LifeLaws.{new_life}
use Rattle.slot_lives.proofs.LawsHold.{life_laws}
use Rattle.widget_host.specs.declared.items.HostItem.{HostItem}
use Rattle.widget_host.specs.declared.items.HostItem.TheVariants as host
use Rattle.widget_host.specs.Given as given
use Rattle.widget_host.specs.Given.{begins, begun, with_items, with_swap}
use Rattle.page_play.specs.Played.{fed_of, begun_from, begun_in, ended_from, ended_in}
use Rattle.page_play.specs.Settled.{said_of}

-- ## An item

same_gives : (i : HostItem) (w : ℕ) → lives.gives_to w (said_of i) ≡ given.gives_to i w
same_gives (host.Event to e) w = refl
same_gives (host.Advance ms) w = refl

no_swap : (i : HostItem) (w : ℕ) → laws.swaps w (said_of i) ≡ false
no_swap (host.Event to e) w = refl
no_swap (host.Advance ms) w = refl

-- a life with an item more, and what it begins with
module _ (libs : List Accepted) (fuel : ℕ) where
  fed_more : (w : ℕ) (i : HostItem) (l : Life SlotContent) → fed_of libs fuel (laws.with_item w (said_of i) l) ≡ option_map (with_items (given.gives_to i w)) (fed_of libs fuel l)
  fed_more w i l = by (content_of libs l.runs) where
    by : (o : Option Content) → option_map (λ (c : Content). record { content = c; grant = fuel; items = l.items ++ lives.gives_to w (said_of i); told = 0 }) o ≡ option_map (with_items (given.gives_to i w)) (option_map (λ (c : Content). record { content = c; grant = fuel; items = l.items; told = 0 }) o)
    by None = refl
    by (Some c) = ap (λ (xs : List Item). Some (record { content = c; grant = fuel; items = l.items ++ xs; told = 0 })) (same_gives i w)

  -- nothing more is as it was
  fed_same : (l : Life SlotContent) (to w : ℕ) (file : List ℕ) → fed_of libs fuel (laws.with_item w (a_swap to file) l) ≡ fed_of libs fuel l
  fed_same l to w file = ap (λ (xs : List Item). fed_of libs fuel (record { runs = l.runs; items = xs; until = l.until })) (append-nil l.items)

pub index_there : {A : Type 0} (xs : List A) (n : ℕ) (x d : A) → slice_get xs n ≡ Some x → slice_index_or xs n d ≡ x
index_there [] n x d at = cc
index_there (y ∷ xs) zero x d at = cc
index_there (y ∷ xs) (suc n) x d at = index_there xs n x d at

if_true : {A : Type 0} (b : Bool) (x y : A) → b ≡ true → (if b then x else y) ≡ x
if_true b x y e = rw e refl

if_false : {A : Type 0} (b : Bool) (x y : A) → b ≡ false → (if b then x else y) ≡ y
if_false b x y e = rw e refl

module _ (spec : PageSpec) (swaps : List SlotContent) where
  -- before all items
  pub begun_none : (w : ℕ) (ss : List SlotSpec) → begun_from spec swaps [] w ss ≡ begun spec.libs.items ss
  begun_none w [] = refl
  begun_none w (s ∷ ss) =
      ap (λ l. fed_of spec.libs.items s.fuel l ∷ begun_from spec swaps [] (w + 1) ss) (life_laws s.content swaps w).before
      ∙ ap (λ fs. begins s.fuel (content_of spec.libs.items s.content) ∷ fs) (begun_none (w + 1) ss)

  pub begun_item : (i : HostItem) (items : List Said) (w : ℕ) (ss : List SlotSpec) → begun_from spec swaps (items ++ said_of i ∷ []) w ss ≡ given.with_item i w (begun_from spec swaps items w ss)
  begun_item i items w [] = refl
  begun_item i items w (s ∷ ss) =
      ap (λ l. fed_of spec.libs.items s.fuel l ∷ begun_from spec swaps (items ++ said_of i ∷ []) (w + 1) ss) ((life_laws s.content swaps w).given items (said_of i) (no_swap i w))
      ∙ ap (λ f. f ∷ begun_from spec swaps (items ++ said_of i ∷ []) (w + 1) ss) (fed_more spec.libs.items s.fuel w i (last_life s.content swaps items w))
      ∙ ap (λ fs. option_map (with_items (given.gives_to i w)) (fed_of spec.libs.items s.fuel (last_life s.content swaps items w)) ∷ fs) (begun_item i items (w + 1) ss)

  module _ (to fuel : ℕ) (file : List ℕ) (content : SlotContent) (items : List Said) (there : slice_get swaps (swaps_in items) ≡ Some content) where
    swap_one : (w : ℕ) (s : SlotSpec) → (to ≡ w → fuel ≡ s.fuel) → ((nat_eq to w ≡ true) × (to ≡ w)) ⊎ ((nat_eq to w ≡ false) × (to ≢ w))
        → fed_of spec.libs.items s.fuel (last_life s.content swaps (items ++ a_swap to file ∷ []) w) ≡ (if nat_eq to w then begins fuel (content_of spec.libs.items content) else fed_of spec.libs.items s.fuel (last_life s.content swaps items w))
    swap_one w s much (inl here) =
        ap (fed_of spec.libs.items s.fuel) ((life_laws s.content swaps w).swapped items (a_swap to file) here.0 ∙ ap new_life (index_there swaps (swaps_in items) content s.content there))
        ∙ ap (λ n. begins n (content_of spec.libs.items content)) (sym (much here.1))
        ∙ sym (if_true (nat_eq to w) (begins fuel (content_of spec.libs.items content)) (fed_of spec.libs.items s.fuel (last_life s.content swaps items w)) here.0)
    swap_one w s much (inr other) =
        ap (fed_of spec.libs.items s.fuel) ((life_laws s.content swaps w).given items (a_swap to file) other.0)
        ∙ fed_same spec.libs.items s.fuel (last_life s.content swaps items w) to w file
        ∙ sym (if_false (nat_eq to w) (begins fuel (content_of spec.libs.items content)) (fed_of spec.libs.items s.fuel (last_life s.content swaps items w)) other.0)

    pub begun_swap : (w : ℕ) (ss : List SlotSpec) → ((k : ℕ) (s : SlotSpec) → slice_get ss k ≡ Some s → to ≡ w + k → fuel ≡ s.fuel)
        → begun_from spec swaps (items ++ a_swap to file ∷ []) w ss ≡ with_swap to (begins fuel (content_of spec.libs.items content)) w (begun_from spec swaps items w ss)
    begun_swap w [] much = refl
    begun_swap w (s ∷ ss) much =
        ap (λ f. f ∷ begun_from spec swaps (items ++ a_swap to file ∷ []) (w + 1) ss) (swap_one w s (λ e. much 0 s refl (omega (arith, e))) (eqb_tells to w))
        ∙ ap (λ fs. (if nat_eq to w then begins fuel (content_of spec.libs.items content) else fed_of spec.libs.items s.fuel (last_life s.content swaps items w)) ∷ fs)
        (begun_swap (w + 1) ss (λ k t at e. much (suc k) t at (omega (arith, e))))

  -- ## Lives that swaps end

  ended_after : (before items : List Said) (i : Said) → ended_from spec swaps before (items ++ i ∷ []) ≡ ended_from spec swaps before items ++ ended_from spec swaps (before ++ items) (i ∷ [])
  ended_after before [] i = ap (λ b. ended_from spec swaps b (i ∷ [])) (sym (append-nil before))
  ended_after before (an_event to kind path value ∷ items) i =
      ended_after (before ++ an_event to kind path value ∷ []) items i
      ∙ ap (λ b. ended_from spec swaps (before ++ an_event to kind path value ∷ []) items ++ ended_from spec swaps b (i ∷ [])) (append_assoc before (an_event to kind path value ∷ []) items)
  ended_after before (an_advance ms ∷ items) i =
      ended_after (before ++ an_advance ms ∷ []) items i
      ∙ ap (λ b. ended_from spec swaps (before ++ an_advance ms ∷ []) items ++ ended_from spec swaps b (i ∷ [])) (append_assoc before (an_advance ms ∷ []) items)
  ended_after before (a_swap to file ∷ items) i =
      ap (λ fs. slice_index_or (begun_in spec swaps before) to None ∷ fs)
      (ended_after (before ++ a_swap to file ∷ []) items i
      ∙ ap (λ b. ended_from spec swaps (before ++ a_swap to file ∷ []) items ++ ended_from spec swaps b (i ∷ [])) (append_assoc before (a_swap to file ∷ []) items))

  none_by : (items : List Said) (i : HostItem) → ended_from spec swaps items (said_of i ∷ []) ≡ []
  none_by items (host.Event to e) = refl
  none_by items (host.Advance ms) = refl

  pub ended_item : (i : HostItem) (items : List Said) → ended_in spec swaps (items ++ said_of i ∷ []) ≡ ended_in spec swaps items
  ended_item i items = ended_after [] items (said_of i) ∙ ap (λ fs. ended_in spec swaps items ++ fs) (none_by items i) ∙ append-nil (ended_in spec swaps items)

  pub ended_swap : (to : ℕ) (file : List ℕ) (items : List Said) → ended_in spec swaps (items ++ a_swap to file ∷ []) ≡ ended_in spec swaps items ++ slice_index_or (begun_in spec swaps items) to None ∷ []
  ended_swap to file items = ended_after [] items (a_swap to file)

  -- ## A slot by its number

  pub begun_at : (items : List Said) (w k : ℕ) (ss : List SlotSpec) (s : SlotSpec) → slice_get ss k ≡ Some s → slice_get (begun_from spec swaps items w ss) k ≡ Some (fed_of spec.libs.items s.fuel (last_life s.content swaps items (w + k)))
  begun_at items w k [] s at = cc
  begun_at items w zero (t ∷ ss) s at =
      let e : w ≡ w + 0 = omega arith in
      let same : t ≡ s = cc in
      ap (λ (x : SlotSpec). Some (fed_of spec.libs.items x.fuel (last_life x.content swaps items w))) same ∙ ap (λ n. Some (fed_of spec.libs.items s.fuel (last_life s.content swaps items n))) e
  begun_at items w (suc k) (t ∷ ss) s at =
      let e : (w + 1) + k ≡ w + suc k = omega arith in
      begun_at items (w + 1) k ss s at ∙ ap (λ n. Some (fed_of spec.libs.items s.fuel (last_life s.content swaps items n))) e

  pub begun_there : (items : List Said) (w k : ℕ) (ss : List SlotSpec) (f : Option Fed) → slice_get (begun_from spec swaps items w ss) k ≡ Some f → (s : SlotSpec) × (slice_get ss k ≡ Some s) × (f ≡ fed_of spec.libs.items s.fuel (last_life s.content swaps items (w + k)))
  begun_there items w k [] f at = absurd (let e = at in cc)
  begun_there items w zero (t ∷ ss) f at =
      let e : w ≡ w + 0 = omega arith in
      let same : fed_of spec.libs.items t.fuel (last_life t.content swaps items w) ≡ f = cc in
      (t, refl, sym same ∙ ap (λ n. fed_of spec.libs.items t.fuel (last_life t.content swaps items n)) e)
  begun_there items w (suc k) (t ∷ ss) f at =
      let r = begun_there items (w + 1) k ss f at in
      let e : (w + 1) + k ≡ w + suc k = omega arith in
      (r.0, r.1, r.2 ∙ ap (λ n. fed_of spec.libs.items r.0.fuel (last_life r.0.content swaps items n)) e)
