-- What lives were given where items are taken one after the other, beside what the trace gives them.
use Rattle.std.proofs.Common.{◌≡◌, ℕ, zero, suc, ◌+◌, ◌≤◌, List, [], ◌∷◌, ◌++◌, map, length, Bool, true, false, Option, Some, None, refl, sym, ap, subst, ◌∙◌, arith, append_assoc}
use Rattle.std.specs.Prelude.{nat_eq, if◌then◌else◌, is_some, option_map, slice_get, slice_index_or}
use Rattle.std.specs.List.{filter}
use Rattle.std.proofs.lemmas.List.{length_push, map-append}
use Rattle.trace_reader.specs.Said.{Said, an_event, an_advance, a_swap}
use Rattle.widget_meaning.specs.Items.{Item}
use Rattle.post_rounds.specs.declared.posts.Post.{Post}
use Rattle.post_rounds.specs.News.{news}
use Rattle.life_laws.specs.Fed.{Fed, RoundsTo, ended, again, fed_on, fresh, round_from}
use Rattle.life_laws.specs.RoundLaws.{fed_at}
use Rattle.life_laws.proofs.RoundsHold.{round_laws}
use Rattle.page_plan.specs.declared.PageSpec.{PageSpec}
use Rattle.page_plan.specs.declared.SlotContent.{SlotContent}
use Rattle.page_plan.specs.declared.SlotSpec.{SlotSpec}
use Rattle.slot_lives.specs.Lives.{is_swap, last_life, last_of, swaps_in}
use Rattle.slot_lives.proofs.LawsHold.{life_laws}
use Rattle.page_play.specs.HostItem.{HostItem}
use Rattle.page_play.specs.Given.{begun, gives_to, with_item, with_items, with_swap}
use Rattle.page_play.specs.Played.{name_of, fed_of, begun_from, begun_in, ended_from, ended_in}
use Rattle.page_play.specs.Playing.{fuel_of}
use Rattle.page_play.proofs.Begun.{begun_none, begun_item, begun_swap, ended_item, ended_swap}
use Rattle.page_play.proofs.Given.{item_swaps, swap_swaps}
use Rattle.page_live.specs.Living.{Rounds, LivesOn, loaded, takes_item, takes_swap, brought_to}

-- ## Lists

heads : {A : Type 0} (a b : A) (xs ys : List A) → a ∷ xs ≡ b ∷ ys → a ≡ b
heads a b xs ys e = cc

tails : {A : Type 0} (a b : A) (xs ys : List A) → a ∷ xs ≡ b ∷ ys → xs ≡ ys
tails a b xs ys e = cc

pairs : {A : Type 0} (a b : A) (xs ys : List A) → a ≡ b → xs ≡ ys → a ∷ xs ≡ b ∷ ys
pairs a b xs ys e f = cc

get_behind : {A : Type 0} (xs : List A) (y : A) (ys : List A) (n : ℕ) → length xs ≡ n → slice_get (xs ++ y ∷ ys) n ≡ Some y
get_behind [] y ys zero e = refl
get_behind [] y ys (suc n) e = absurd (omega (arith, e))
get_behind (x ∷ xs) y ys zero e = absurd (omega (arith, e))
get_behind (x ∷ xs) y ys (suc n) e = get_behind xs y ys n (omega (arith, e))

fuel_there : (ss : List SlotSpec) (w : ℕ) (s : SlotSpec) → slice_get ss w ≡ Some s → slice_index_or (map fuel_of ss) w 0 ≡ s.fuel
fuel_there [] w s at = cc
fuel_there (t ∷ ss) zero s at = let same : t ≡ s = cc in ap fuel_of same
fuel_there (t ∷ ss) (suc w) s at = fuel_there ss w s at

-- ## What later swaps bring does not matter

swaps_front : (xs ys : List Said) → swaps_in (xs ++ ys) ≡ swaps_in xs + swaps_in ys
swaps_front [] ys = omega arith
swaps_front (x ∷ xs) ys = by (is_swap x) (swaps_front xs ys) where
  by : (b : Bool) → swaps_in (xs ++ ys) ≡ swaps_in xs + swaps_in ys → length (if b then x ∷ filter is_swap (xs ++ ys) else filter is_swap (xs ++ ys)) ≡ length (if b then x ∷ filter is_swap xs else filter is_swap xs) + swaps_in ys
  by true e = omega (arith, e)
  by false e = omega (arith, e)

module _ (spec : PageSpec) (swaps more : List SlotContent) where
  begun_more_from : (items : List Said) (w : ℕ) (ss : List SlotSpec) → swaps_in items ≤ length swaps → begun_from spec (swaps ++ more) items w ss ≡ begun_from spec swaps items w ss
  begun_more_from items w [] few = refl
  begun_more_from items w (s ∷ ss) few =
      pairs (fed_of spec.libs.items s.fuel (last_life s.content (swaps ++ more) items w)) (fed_of spec.libs.items s.fuel (last_life s.content swaps items w))
      (begun_from spec (swaps ++ more) items (w + 1) ss) (begun_from spec swaps items (w + 1) ss)
      (ap (λ ls. fed_of spec.libs.items s.fuel (last_of s.content ls)) ((life_laws s.content swaps w).others_beyond items more few)) (begun_more_from items (w + 1) ss few)

  pub begun_more : (items : List Said) → swaps_in items ≤ length swaps → begun_in spec (swaps ++ more) items ≡ begun_in spec swaps items
  begun_more items few = begun_more_from items 0 spec.slots.items few

  ended_more_from : (before items : List Said) → swaps_in (before ++ items) ≤ length swaps → ended_from spec (swaps ++ more) before items ≡ ended_from spec swaps before items
  ended_more_from before [] few = refl
  ended_more_from before (an_event to kind path value ∷ items) few =
      ended_more_from (before ++ an_event to kind path value ∷ []) items (subst (λ xs. swaps_in xs ≤ length swaps) (sym (append_assoc before (an_event to kind path value ∷ []) items)) few)
  ended_more_from before (an_advance ms ∷ items) few =
      ended_more_from (before ++ an_advance ms ∷ []) items (subst (λ xs. swaps_in xs ≤ length swaps) (sym (append_assoc before (an_advance ms ∷ []) items)) few)
  ended_more_from before (a_swap to file ∷ items) few =
      let front = swaps_front before (a_swap to file ∷ items) in
      pairs (fed_at (begun_in spec (swaps ++ more) before) to) (fed_at (begun_in spec swaps before) to)
      (ended_from spec (swaps ++ more) (before ++ a_swap to file ∷ []) items) (ended_from spec swaps (before ++ a_swap to file ∷ []) items)
      (ap (λ (fs : List (Option Fed)). fed_at fs to) (begun_more before (omega (arith, front, few))))
      (ended_more_from (before ++ a_swap to file ∷ []) items (subst (λ xs. swaps_in xs ≤ length swaps) (sym (append_assoc before (a_swap to file ∷ []) items)) few))

  pub ended_more : (items : List Said) → swaps_in items ≤ length swaps → ended_in spec (swaps ++ more) items ≡ ended_in spec swaps items
  ended_more items few = ended_more_from [] items few

-- ## What is the same of all that lives were given

-- a mark of what a life was given, which rounds leave, and which what is given more keeps alike
module _ {A : Type 0} (k : Option Fed → A) (spec : PageSpec)
    (on_rounds : (fs gs : List (Option Fed)) → Rounds spec fs gs → map k gs ≡ map k fs)
    (on_items : (xs : List Item) (f g : Option Fed) → k f ≡ k g → k (option_map (with_items xs) f) ≡ k (option_map (with_items xs) g)) where
  item_alike : (i : HostItem) (w : ℕ) (fs gs : List (Option Fed)) → map k fs ≡ map k gs → map k (with_item i w fs) ≡ map k (with_item i w gs)
  item_alike i w [] [] e = refl
  item_alike i w [] (g ∷ gs) e = absurd (let f = e in cc)
  item_alike i w (f ∷ fs) [] e = absurd (let g = e in cc)
  item_alike i w (f ∷ fs) (g ∷ gs) e =
      pairs (k (option_map (with_items (gives_to i w)) f)) (k (option_map (with_items (gives_to i w)) g)) (map k (with_item i (w + 1) fs)) (map k (with_item i (w + 1) gs))
      (on_items (gives_to i w) f g (heads (k f) (k g) (map k fs) (map k gs) e)) (item_alike i (w + 1) fs gs (tails (k f) (k g) (map k fs) (map k gs) e))

  if_alike : (b : Bool) (life f g : Option Fed) → k f ≡ k g → k (if b then life else f) ≡ k (if b then life else g)
  if_alike true life f g e = refl
  if_alike false life f g e = e

  swap_alike : (to : ℕ) (life : Option Fed) (w : ℕ) (fs gs : List (Option Fed)) → map k fs ≡ map k gs → map k (with_swap to life w fs) ≡ map k (with_swap to life w gs)
  swap_alike to life w [] [] e = refl
  swap_alike to life w [] (g ∷ gs) e = absurd (let f = e in cc)
  swap_alike to life w (f ∷ fs) [] e = absurd (let g = e in cc)
  swap_alike to life w (f ∷ fs) (g ∷ gs) e =
      pairs (k (if nat_eq to w then life else f)) (k (if nat_eq to w then life else g)) (map k (with_swap to life (w + 1) fs)) (map k (with_swap to life (w + 1) gs))
      (if_alike (nat_eq to w) life f g (heads (k f) (k g) (map k fs) (map k gs) e)) (swap_alike to life (w + 1) fs gs (tails (k f) (k g) (map k fs) (map k gs) e))

  at_alike : (to : ℕ) (fs gs : List (Option Fed)) → map k fs ≡ map k gs → k (fed_at fs to) ≡ k (fed_at gs to)
  at_alike to [] [] e = refl
  at_alike to [] (g ∷ gs) e = absurd (let f = e in cc)
  at_alike to (f ∷ fs) [] e = absurd (let g = e in cc)
  at_alike zero (f ∷ fs) (g ∷ gs) e = heads (k f) (k g) (map k fs) (map k gs) e
  at_alike (suc to) (f ∷ fs) (g ∷ gs) e = at_alike to fs gs (tails (k f) (k g) (map k fs) (map k gs) e)

  -- so it is the same of what the trace gives
  pub record AreAlike (items : List Said) (swaps : List SlotContent) (fs es : List (Option Fed)) : Type 0 where
    pub lasts : map k fs ≡ map k (begun_in spec swaps items)
    pub ended_are : map k es ≡ map k (ended_in spec swaps items)
    pub many : length swaps ≡ swaps_in items

  pub lives_alike : {items : List Said} {swaps : List SlotContent} {fs es : List (Option Fed)} → LivesOn spec items swaps fs es → AreAlike items swaps fs es
  lives_alike (loaded {fs = fs} rounds) = record {
    lasts = on_rounds (begun spec.libs.items spec.slots.items) fs rounds ∙ ap (map k) (sym (begun_none spec [] 0 spec.slots.items));
    ended_are = refl;
    many = refl;
  }
  lives_alike (takes_item {items = items} {swaps = swaps} {fs = fs} {es = es} {gs = gs} i before rounds) =
      let a = lives_alike before in
      record {
        lasts = on_rounds (with_item i 0 fs) gs rounds ∙ item_alike i 0 fs (begun_in spec swaps items) a.lasts ∙ ap (map k) (sym (begun_item spec swaps i items 0 spec.slots.items));
        ended_are = a.ended_are ∙ ap (map k) (sym (ended_item spec swaps i items));
        many = a.many ∙ sym (item_swaps items i);
      }
  lives_alike (takes_swap {items = items} {swaps = swaps} {fs = fs} {es = es} {gs = gs} to file content before rounds) =
      let a = lives_alike before in
      let few : swaps_in items ≤ length swaps = omega (arith, a.many) in
      let there : slice_get (swaps ++ content ∷ []) (swaps_in items) ≡ Some content = get_behind swaps content [] (swaps_in items) a.many in
      let fuel = slice_index_or (map fuel_of spec.slots.items) to 0 in
      let same = begun_more spec swaps (content ∷ []) items few in
      record {
        lasts =
            on_rounds (with_swap to (brought_to spec to content) 0 fs) gs rounds
            ∙ swap_alike to (brought_to spec to content) 0 fs (begun_in spec (swaps ++ content ∷ []) items) (a.lasts ∙ ap (map k) (sym same))
            ∙ ap (map k) (sym (begun_swap spec (swaps ++ content ∷ []) to fuel file content items there 0 spec.slots.items (λ w s at e. fuel_there spec.slots.items to s (ap (slice_get spec.slots.items) (let f : to ≡ w = omega (arith, e) in f) ∙ at))));
        ended_are =
            map-append k es (fed_at fs to ∷ [])
            ∙ ap (λ xs. xs ++ k (fed_at fs to) ∷ []) (a.ended_are ∙ ap (map k) (sym (ended_more spec swaps (content ∷ []) items few)))
            ∙ ap (λ x. map k (ended_in spec (swaps ++ content ∷ []) items) ++ x ∷ []) (at_alike to fs (begun_in spec (swaps ++ content ∷ []) items) (a.lasts ∙ ap (map k) (sym same)))
            ∙ sym (map-append k (ended_in spec (swaps ++ content ∷ []) items) (fed_at (begun_in spec (swaps ++ content ∷ []) items) to ∷ []))
            ∙ ap (map k) (sym (ended_swap spec (swaps ++ content ∷ []) to file items));
        many = length_push swaps content ∙ ap (λ n. n + 1) a.many ∙ sym (swap_swaps items to file);
      }

-- ## Which lives have a widget

module _ (spec : PageSpec) where
  pub round_flags : (posts : List (List Post)) (w : ℕ) (fs : List (Option Fed)) → map is_some (round_from spec.channels.items (map name_of spec.slots.items) posts w fs) ≡ map is_some fs
  round_flags posts w [] = refl
  round_flags posts w (f ∷ fs) = pairs (is_some (option_map (fed_on (news spec.channels.items (map name_of spec.slots.items) posts w)) f)) (is_some f)
      (map is_some (round_from spec.channels.items (map name_of spec.slots.items) posts (w + 1) fs)) (map is_some fs) (by f) (round_flags posts (w + 1) fs)
    where
      by : (g : Option Fed) → is_some (option_map (fed_on (news spec.channels.items (map name_of spec.slots.items) posts w)) g) ≡ is_some g
      by None = refl
      by (Some g) = refl

  pub rounds_flags : {fs gs : List (Option Fed)} → RoundsTo spec.channels.items (map name_of spec.slots.items) fs gs → map is_some gs ≡ map is_some fs
  rounds_flags (ended quiet) = refl
  rounds_flags {fs} (again loud rest) = rounds_flags rest ∙ round_flags (fresh fs) 0 fs

  pub flags_more : (xs : List Item) (f g : Option Fed) → is_some f ≡ is_some g → is_some (option_map (with_items xs) f) ≡ is_some (option_map (with_items xs) g)
  flags_more xs f g e = by f ∙ e ∙ sym (by g) where
    by : (h : Option Fed) → is_some (option_map (with_items xs) h) ≡ is_some h
    by None = refl
    by (Some h) = refl

  pub same_flags : {items : List Said} {swaps : List SlotContent} {fs es : List (Option Fed)} → LivesOn spec items swaps fs es → AreAlike is_some spec (λ fs gs r. rounds_flags r) flags_more items swaps fs es
  same_flags lives = lives_alike is_some spec (λ fs gs r. rounds_flags r) flags_more lives

  -- ## Without channels

  map_self : {A : Type 0} (xs : List A) → map (λ x. x) xs ≡ xs
  map_self [] = refl
  map_self (x ∷ xs) = ap (λ ys. x ∷ ys) (map_self xs)

  module _ (none : spec.channels.items ≡ []) where
    pub rounds_still : (fs gs : List (Option Fed)) → Rounds spec fs gs → map (λ (f : Option Fed). f) gs ≡ map (λ (f : Option Fed). f) fs
    rounds_still fs gs r = ap (map (λ (f : Option Fed). f)) ((round_laws spec.channels.items (map name_of spec.slots.items) fs).no_channels gs none r)

    pub record AreTraced (items : List Said) (swaps : List SlotContent) (fs es : List (Option Fed)) : Type 0 where
      pub lasts : fs ≡ begun_in spec swaps items
      pub ended_are : es ≡ ended_in spec swaps items
      pub many : length swaps ≡ swaps_in items

    -- each life was given what the trace gives it
    pub same_lives : {items : List Said} {swaps : List SlotContent} {fs es : List (Option Fed)} → LivesOn spec items swaps fs es → AreTraced items swaps fs es
    same_lives {items} {swaps} {fs} {es} lives =
        let a = lives_alike (λ (f : Option Fed). f) spec rounds_still (λ xs f g e. ap (option_map (with_items xs)) e) lives in
        record {
          lasts = sym (map_self fs) ∙ a.lasts ∙ map_self (begun_in spec swaps items);
          ended_are = sym (map_self es) ∙ a.ended_are ∙ map_self (ended_in spec swaps items);
          many = a.many;
        }

    -- and rounds end at once
    pub still_rounds : (fs : List (Option Fed)) → Rounds spec fs fs
    still_rounds fs =
        let laws = round_laws spec.channels.items (map name_of spec.slots.items) fs in
        subst (Rounds spec fs) (laws.no_channels laws.end.0 none laws.end.1) laws.end.1
