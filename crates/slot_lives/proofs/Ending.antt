-- What each life comes to.
use Rattle.std.proofs.Common.{◌≡◌, ℕ, zero, suc, ◌+◌, ◌<◌, List, [], ◌∷◌, ◌++◌, map, length, slice_get, slice_index_or, Option, Some, None, is_some, true, refl, sym, ap, subst, ◌∙◌, arith}
use Rattle.std.proofs.lemmas.List.{append-nil, append_assoc, map-append, length-map}
use Rattle.std.specs.Option.{option_map}
use Rattle.trace_reader.specs.Said.{Said}
use Rattle.slot_check.specs.Sources.{Source}
use Rattle.widget_meaning.specs.OwnState.{OwnState}
use Rattle.widget_meaning.specs.Items.{Item}
use Rattle.widget_meaning.specs.Alone.{alone}
use Rattle.post_rounds.specs.News.{news}
use Rattle.life_laws.specs.Fed.{Fed, RoundsTo, again, ended, event_of, fed_on, fresh, round}
use Rattle.life_laws.proofs.Rounding.{after_round}
use Rattle.life_laws.proofs.Ending.{no_channels}
use Rattle.page_check.specs.Runs.{SlotRun, with_file}
use Rattle.page_check.proofs.OneWidget.{widget_once, never_refused}
use Rattle.slot_lives.specs.Lives.{Life, last_life}
use Rattle.slot_lives.specs.OtherSlots.{OtherSlotLaws}
use Rattle.slot_lives.specs.Ends.{life_name, Begins, accepted, broken, end_of, AllBegin, no_life, one_life, AreEnded, no_end, one_end}
use Rattle.slot_lives.specs.Outcome.{last_lives, ComeTo}
use Rattle.slot_lives.specs.EndLaws.{IsEnd, by_itself, not_accepted, end_at, items_of, EndsOn, EndLaws, OtherEnds}
use Rattle.slot_lives.proofs.Others.{other_slots}

-- ## By number

some_life : (x y : Life SlotRun) → Some x ≡ Some y → x ≡ y
some_life x y e = cc

no_such : (x : Life SlotRun) → None ≡ Some x → ⊥
no_such x e = cc

begins_at : (ls : List (Life SlotRun)) (fs : List (Option Fed)) (w : ℕ) (l : Life SlotRun) → AllBegin ls fs → slice_get ls w ≡ Some l → Begins l (slice_index_or fs w None)
begins_at ls fs w l no_life there = absurd (no_such l there)
begins_at ls fs zero l (one_life {life = x} {fed = f} is rest) there = subst (λ y. Begins y f) (some_life x l there) is
begins_at ls fs (suc w) l (one_life {lives = ls1} {feds = fs1} is rest) there = begins_at ls1 fs1 w l rest there

ends_of : (fs : List (Option Fed)) (w : ℕ) → end_at (map end_of fs) w ≡ end_of (slice_index_or fs w None)
ends_of [] w = refl
ends_of (f ∷ fs) zero = refl
ends_of (f ∷ fs) (suc w) = ends_of fs w

-- ## Rounds add to what a slot was given

-- the same content and grant, and more items
abbrev Adds : Option Fed → Option Fed → List Item → Type 0
Adds None None more = Unit {0}
Adds (Some f) (Some g) more = (g.content ≡ f.content) × ((g.grant ≡ f.grant) × (g.items ≡ f.items ++ more))
Adds _ _ more = ⊥

adds_none : (o : Option Fed) → Adds o o []
adds_none None = tt
adds_none (Some f) = (refl, (refl, sym (append-nil f.items)))

adds_on : (vs : List (List ℕ)) (o : Option Fed) → Adds o (option_map (fed_on vs) o) (map event_of vs)
adds_on vs None = tt
adds_on vs (Some f) = (refl, (refl, refl))

adds_both : (o p q : Option Fed) (more rest : List Item) → Adds o p more → Adds p q rest → Adds o q (more ++ rest)
adds_both None None None more rest a b = tt
adds_both None None (Some h) more rest a b = b
adds_both None (Some g) q more rest a b = absurd a
adds_both (Some f) None q more rest a b = absurd a
adds_both (Some f) (Some g) None more rest a b = b
adds_both (Some f) (Some g) (Some h) more rest a b =
    (b.0 ∙ a.0, (b.1.0 ∙ a.1.0, b.1.1 ∙ (ap (λ (is : List Item). is ++ rest) a.1.1 ∙ append_assoc f.items more rest)))

module _ (channels : List (ℕ × ℕ)) (names : List (List ℕ)) where
  rounds_add : (fs gs : List (Option Fed)) → RoundsTo channels names fs gs → (w : ℕ) → (more : List Item) × Adds (slice_index_or fs w None) (slice_index_or gs w None) more
  rounds_add fs gs (ended quiet) w = ([], adds_none (slice_index_or fs w None))
  rounds_add fs gs (again loud later) w =
      let vs : List (List ℕ) = news channels names (fresh fs) w in
      let rest = rounds_add (round channels names fs) gs later w in
      let first : Adds (slice_index_or fs w None) (slice_index_or (round channels names fs) w None) (map event_of vs) =
      subst (λ p. Adds (slice_index_or fs w None) p (map event_of vs)) (sym (after_round channels names fs w)) (adds_on vs (slice_index_or fs w None)) in
      (map event_of vs ++ rest.0, adds_both (slice_index_or fs w None) (slice_index_or (round channels names fs) w None) (slice_index_or gs w None) (map event_of vs) rest.0 first rest.1)

-- ## The last lives

-- what a life comes to on what was added
comes : (l : Life SlotRun) (o p : Option Fed) (more : List Item) → Begins l o → Adds o p more → IsEnd l.runs (l.items ++ more) (end_of p)
comes l o (Some g) more (accepted {content = x} has) adds =
    subst (λ (s : OwnState). IsEnd l.runs (l.items ++ more) (Some s))
    (sym (ap (λ c. alone c g.grant g.items) adds.0 ∙ (ap (λ n. alone x n g.items) adds.1.0 ∙ ap (alone x l.runs.fuel) adds.1.1))) (by_itself has)
comes l o None more (accepted has) adds = absurd adds
comes l o None more (broken first) adds = not_accepted first
comes l o (Some g) more (broken first) adds = absurd adds

gave : (l : Life SlotRun) (o p : Option Fed) (more : List Item) → Begins l o → Adds o p more → is_some (end_of p) ≡ true → items_of p ≡ l.items ++ more
gave l o (Some g) more (accepted has) adds some = adds.1.1
gave l o None more (accepted has) adds some = absurd adds
gave l o None more (broken first) adds some = cc
gave l o (Some g) more (broken first) adds some = absurd adds

-- of a slot that was given no more
module _ (channels : List (ℕ × ℕ)) (lives : List (Life SlotRun)) (ends : List (Option OwnState)) (come : ComeTo channels lives ends) (w : ℕ) (life : Life SlotRun) (there : slice_get lives w ≡ Some life) where
  begun : Begins life (slice_index_or come.begun w None)
  begun = begins_at lives come.begun w life come.begin there

  end_is : end_of (slice_index_or come.fed w None) ≡ end_at ends w
  end_is = sym (ap (λ (es : List (Option OwnState)). end_at es w) come.ends_are ∙ ends_of come.fed w)

  by_more : (more : List Item) → Adds (slice_index_or come.begun w None) (slice_index_or come.fed w None) more → (channels ≡ [] → more ≡ []) → EndsOn channels come.fed w life (end_at ends w)
  by_more more adds none = record {
    more = more;
    given = λ some. gave life (slice_index_or come.begun w None) (slice_index_or come.fed w None) more begun adds (ap is_some end_is ∙ some);
    no_channels = none;
    is = subst (IsEnd life.runs (life.items ++ more)) end_is (comes life (slice_index_or come.begun w None) (slice_index_or come.fed w None) more begun adds);
  }

  by_channels : (cs : List (ℕ × ℕ)) → channels ≡ cs → EndsOn channels come.fed w life (end_at ends w)
  by_channels [] none =
      let same : come.fed ≡ come.begun = no_channels channels (map life_name lives) come.begun come.fed none come.rounds in
      by_more [] (subst (λ (fs : List (Option Fed)). Adds (slice_index_or come.begun w None) (slice_index_or fs w None) []) (sym same) (adds_none (slice_index_or come.begun w None))) (λ e. refl)
  by_channels (c ∷ cs) some =
      let rounds = rounds_add channels (map life_name lives) come.begun come.fed come.rounds w in
      by_more rounds.0 rounds.1 (λ none. absurd (some_channel (sym none ∙ some)))
    where
      some_channel : [] ≡ c ∷ cs → ⊥
      some_channel e = cc

  pub ends_on : EndsOn channels come.fed w life (end_at ends w)
  ends_on = by_channels channels refl

-- ## Ended lives

end_begun : (l : Life SlotRun) (f : Option Fed) → Begins l f → IsEnd l.runs l.items (end_of f)
end_begun l f (accepted has) = by_itself has
end_begun l f (broken first) = not_accepted first

pub ended_at_end : (ls : List (Life SlotRun)) (es : List (Option OwnState)) (lines : List ℕ) → AreEnded ls es lines → (n : ℕ) (l : Life SlotRun) → slice_get ls n ≡ Some l → IsEnd l.runs l.items (end_at es n)
ended_at_end ls es lines no_end n l there = absurd (no_such l there)
ended_at_end ls es lines (one_end {life = x} {fed = f} begins is rest) zero l there = subst (λ (y : Life SlotRun). IsEnd y.runs y.items (end_of f)) (some_life x l there) (end_begun x f begins)
ended_at_end ls es lines (one_end {lives = ls1} {ends = es1} {lines = more} begins is rest) (suc n) l there = ended_at_end ls1 es1 more rest n l there

pub end_laws : (channels : List (ℕ × ℕ)) (lives : List (Life SlotRun)) (ends : List (Option OwnState)) → EndLaws channels lives ends
end_laws channels lives ends = record {
  last = λ come w life there. ends_on channels lives ends come w life there;
  ended = λ lines are n life there. ended_at_end lives ends lines are n life there;
}

-- ## The other slots of a swap

-- a slot comes to one end
pub end_once : (run : SlotRun) (items : List Item) (e f : Option OwnState) → IsEnd run items e → IsEnd run items f → e ≡ f
end_once run items e f (by_itself {content = x} has) (by_itself {content = y} also) = ap (λ c. Some (alone c run.fuel items)) (widget_once run.slot x y has also)
end_once run items e f (by_itself {content = x} has) (not_accepted {rule = r} {file = a} {at = n} first) = absurd (never_refused run.slot x r a n has first)
end_once run items e f (not_accepted {rule = r} {file = a} {at = n} first) (by_itself {content = x} has) = absurd (never_refused run.slot x r a n has first)
end_once run items e f (not_accepted first) (not_accepted also) = refl

-- the last life of the slot with a number
run_there : (runs : List SlotRun) (w : ℕ) → w < length runs → (run : SlotRun) × (slice_get runs w ≡ Some run)
run_there [] w lt = absurd (omega arith)
run_there (r ∷ runs) zero lt = (r, refl)
run_there (r ∷ runs) (suc w) lt = run_there runs w (omega arith)

no_run : (x : SlotRun) → None ≡ Some x → ⊥
no_run x e = cc

some_run : (x y : SlotRun) → Some x ≡ Some y → x ≡ y
some_run x y e = cc

pub last_there : (files : List Source) (items : List Said) (v : ℕ) (runs : List SlotRun) (w n : ℕ) (run : SlotRun) → n ≡ v + w → slice_get runs w ≡ Some run
    → slice_get (last_lives files items v runs) w ≡ Some (last_life run (map (with_file run) files) items n)
last_there files items v [] w n run e there = absurd (no_run run there)
last_there files items v (r ∷ runs) zero n run e there =
    let number : v ≡ n = omega arith in
    ap (λ k. Some (last_life r (map (with_file r) files) items k)) number ∙ ap (λ (x : SlotRun). Some (last_life x (map (with_file x) files) items n)) (some_run r run there)
last_there files items v (r ∷ runs) (suc w) n run e there = last_there files items (v + 1) runs w n run (omega arith) there

-- without channels a last life comes to what it comes to on the items of the trace
no_channel_end : (lives : List (Life SlotRun)) (ends : List (Option OwnState)) (w : ℕ) (life : Life SlotRun) → ComeTo [] lives ends → slice_get lives w ≡ Some life → IsEnd life.runs life.items (end_at ends w)
no_channel_end lives ends w life come there =
    let on = ends_on [] lives ends come w life there in
    subst (λ (is : List Item). IsEnd life.runs is (end_at ends w)) (ap (λ (is : List Item). life.items ++ is) (on.no_channels refl) ∙ append-nil life.items) on.is

pub other_ends : OtherEnds
other_ends runs before after file front back i ends others is even come also w within other =
    let at = run_there runs w within in
    let run : SlotRun = at.0 in
    let f : Source → SlotRun = with_file run in
    let life : Life SlotRun = last_life run (map f (before ++ file ∷ after)) (front ++ i ∷ back) w in
    let left : Life SlotRun = last_life run (map f (before ++ after)) (front ++ back) w in
    let laws : OtherSlotLaws run (f file) (map f before) (map f after) front back i w = other_slots run (f file) (map f before) (map f after) front back i w is other (length-map before f ∙ even) in
    let same : life ≡ left =
    ap (λ (xs : List SlotRun). last_life run xs (front ++ i ∷ back) w) (map-append f before (file ∷ after))
    ∙ (laws.last ∙ ap (λ (xs : List SlotRun). last_life run xs (front ++ back) w) (sym (map-append f before after))) in
    let here : slice_get (last_lives (before ++ file ∷ after) (front ++ i ∷ back) 0 runs) w ≡ Some life = last_there (before ++ file ∷ after) (front ++ i ∷ back) 0 runs w w run (omega arith) at.1 in
    let there : slice_get (last_lives (before ++ after) (front ++ back) 0 runs) w ≡ Some left = last_there (before ++ after) (front ++ back) 0 runs w w run (omega arith) at.1 in
    let one : IsEnd life.runs life.items (end_at ends w) = no_channel_end (last_lives (before ++ file ∷ after) (front ++ i ∷ back) 0 runs) ends w life come here in
    let two : IsEnd left.runs left.items (end_at others w) = no_channel_end (last_lives (before ++ after) (front ++ back) 0 runs) others w left also there in
    (here ∙ (ap Some same ∙ sym there), end_once left.runs left.items (end_at ends w) (end_at others w) (subst (λ (l : Life SlotRun). IsEnd l.runs l.items (end_at ends w)) same one) two)
