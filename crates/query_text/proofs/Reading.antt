-- The parts of the reader, and the machine.
use Rattle.std.proofs.Common.{◌≡◌, ◌≢◌, ℕ, ◌+◌, ◌<◌, ◌≤◌, ◌⊎◌, inl, inr, List, [], ◌∷◌, ◌++◌, Bool, true, false, ◌||◌, Some, None, refl, ap, sym, ◌∙◌, subst, length, drop, get_or, arith, length-append}
use Rattle.std.specs.Prelude.{◌==◌, slice_range, nat_lt, MatchResult, Result, Ok, Err}
use Rattle.std.specs.Str.{byte}
use Rattle.std.proofs.lemmas.Bool.{cases_lt}
use Rattle.std.proofs.lemmas.Bool.Decides.{nat_tests}
use Rattle.exact_refusals.specs.Judge.{Read, Refused, ended}
use Rattle.exact_refusals.proofs.Plain as plain
use Rattle.query_text.specs.declared.QueryFault.{QueryFault}
use Rattle.query_text.specs.declared.QueryFault.TheVariants as fault
use Rattle.query_grammar.specs.declared.query.Hunter.{Hunter}
use Rattle.query_grammar.specs.declared.query.Hunter.TheVariants as hunter
use Rattle.query_grammar.specs.declared.query.Filter.TheVariants as filter
use Rattle.query_grammar.specs.declared.query.StepFilter.{StepFilter}
use Rattle.query_grammar.specs.declared.query.StepFilter.TheVariants as kind
use Rattle.query_grammar.specs.Steps.{Step}
use Rattle.query_grammar.specs.Queries.{is_lower, in_word, in_value, goes_on, Run, run_ends, run_more, Word, a_word, Spaces, here, behind, SpellsHunter, by_tag, by_id, by_child, by_next, by_children, by_all, SpellsFilter, by_class, by_name, by_type, by_presence, by_value, by_keyword, SpellsFilters, no_filter, one_filter, QuerySpells, is_mark}
use Rattle.query_grammar.specs.Machine.{State, Between, Hunt, Inside, Sift, Attribute, AttributeWord, AttributeValue, Keyword, ForId, ForChild, ForNext, FilterRole, ForClass, ForName, ForKind, with, between, keyword_of, keyword_or, fits, step, some_steps, done, begin, goes}
use Rattle.query_text.specs.Runs.{is_space}
use Rattle.query_text.specs.Faults.{IsQueryFault}
use Rattle.query_text.specs.Again.{AreAlike, none_alike, one_alike, StandAlike}
use Rattle.query_text.specs.Reads.{is_first, IsRunAt, IsWordAt, IsNameAt, IsHunterAt, IsFilterBehind, IsFilterAt, AreFiltersAt, StandFilters, HasNone, Refuses, HasRoom}
use Rattle.query_grammar.proofs.Truths.{same_number, other_number, both_ways, not_false, or_split}
use Rattle.query_grammar.proofs.Keywords.{keyword_is}
use Rattle.query_grammar.proofs.Complete.{go, complete, taken, between_spaces, hunter_goes, filters_go, step_ends, attribute_goes, value_on, child_spaces, next_spaces, id_mark, child_mark, next_mark, run_stops}
use Rattle.query_grammar.proofs.Sound.{sound}
use Rattle.query_grammar.proofs.Spelled.{filters_are, spelled_alone, first_is}
use Rattle.query_grammar.specs.Spelled.{filters_of, AreFilters, IsFirst}
use Rattle.query_grammar.proofs.Exact.{refused_is}
use Rattle.query_text.proofs.Cuts.{unit_at, no_unit_at, left_at, first_at, none_at, range_more, range_none, range_behind}

-- a run of spaces
run_spaces : {us run rest : List ℕ} → Run is_space us run rest → Spaces us rest
run_spaces (run_ends h) = here
run_spaces (run_more {u = u} {us = us} {rest = rest} h more) = subst (λ x. Spaces (x ∷ us) rest) (sym (same_number u 32 h)) (behind (run_spaces more))

word_stops : {us w rest : List ℕ} → Word us w rest → goes_on in_word rest ≡ false
word_stops (a_word h run) = run_stops run

filters_more : {us vs rest : List ℕ} {fs : List StepFilter} {f : StepFilter} → SpellsFilters fs us vs → SpellsFilter f vs rest → SpellsFilters (fs ++ f ∷ []) us rest
filters_more no_filter g = one_filter g no_filter
filters_more (one_filter h others) g = one_filter h (filters_more others g)

filters_also : (f : StepFilter) {us vs rest : List ℕ} → AreAlike f vs rest → (fs : List StepFilter) → SpellsFilters fs us vs → (gs : List StepFilter) × SpellsFilters gs us rest
filters_also f none_alike fs h = (fs, h)
filters_also f (one_alike before one) fs h = let all = filters_also f before fs h in (all.0 ++ f ∷ [], filters_more (all.1) one)

nothing_in : (qs : List Step) → length qs ≡ 0 → qs ≡ []
nothing_in [] e = refl
nothing_in (q ∷ qs) e = absurd (omega (arith, e))

some_in : (ts qs : List Step) → ts ≡ qs → (length ts == 0) ≡ false → qs ≢ []
some_in ts qs same h e = let none : (length ts == 0) ≡ true = subst (λ l. (length l == 0) ≡ true) (sym (same ∙ e)) refl in both_ways (length ts == 0) none h

module _ (us : List ℕ) where
  -- ## Refusals

  end_or : (at : ℕ) → at ≤ length us → (at ≡ length us) ⊎ (at < length us)
  end_or at le = elim (cases_lt at (length us)) [ inl lt ↦ inr lt | inr ge ↦ inl (omega (arith, le, ge)) ]

  -- the end of the units, where no query ends
  at_end : (st : State) (at : ℕ) → at ≡ length us → done st ≡ None → Refuses us st at (fault.BadQuery at)
  at_end st at e none =
      let end : drop at us ≡ [] = no_unit_at us at (omega (arith, e)) in
      (omega (arith, e), rw (end, none) refl)

  -- a unit that is not taken
  at_unit : (st : State) (at : ℕ) → at < length us → step st (get_or us at 0) ≡ None → Refuses us st at (fault.BadQuery at)
  at_unit st at lt none = (omega (arith, lt), subst (λ l. go st l ≡ Refused (length l)) (sym (unit_at us at lt)) (plain.stuck step done st (get_or us at 0) (drop (at + 1) us) none))

  -- what is refused later is refused
  pub refused_later : (st after : State) (at later : ℕ) (e : QueryFault) → goes us st at ≡ goes us after later → Refuses us after later e → Refuses us st at e
  refused_later st after at later (fault.BadQuery place) same h = (h.0, same ∙ h.1)
  refused_later st after at later fault.Memory same h = tt

  -- neither the end nor a unit of the class
  refused_here : (st : State) (p : ℕ → Bool) (at : ℕ) (e : QueryFault) → at ≤ length us → HasNone us p at e → done st ≡ None → ((u : ℕ) → at < length us → u ≡ get_or us at 0 → p u ≡ false → step st u ≡ None) → Refuses us st at e
  refused_here st p at fault.Memory le h none stuck = tt
  refused_here st p at (fault.BadQuery place) le h none stuck =
      subst (λ x. Refuses us st at (fault.BadQuery x)) (sym (h.0)) (by_end (end_or at le))
    where
      by_end : (at ≡ length us) ⊎ (at < length us) → Refuses us st at (fault.BadQuery at)
      by_end (inl e) = at_end st at e none
      by_end (inr lt) = at_unit st at lt (stuck (get_or us at 0) lt refl (sym (first_at p us at lt) ∙ h.1))

  -- ## Units

  is_unit : (at n : ℕ) → at < length us → get_or us at 0 ≡ n → drop at us ≡ n ∷ drop (at + 1) us
  is_unit at n lt e = unit_at us at lt ∙ ap (λ x. x ∷ drop (at + 1) us) e

  pub stands_at : (at n : ℕ) → at ≤ length us → is_first n (drop at us) ≡ true → (at < length us) × (get_or us at 0 ≡ n)
  stands_at at n le h =
      elim (end_or at le) [
        | inl e ↦ (let none = none_at (λ u. u == n) us at (omega (arith, e)) in absurd (both_ways (is_first n (drop at us)) h none))
        | inr lt ↦ (lt, same_number (get_or us at 0) n (sym (first_at (λ u. u == n) us at lt) ∙ h))
      ]

  -- ## Hunters

  module _ (at : ℕ) (inside : at < length us) where
    pub id_is : (w : List ℕ) (end : ℕ) → get_or us at 0 ≡ byte "#" → IsWordAt us (at + 1) w end → IsHunterAt us at (hunter.Id w) end
    id_is w end e h = record { later = omega (arith, h.later); inside = h.inside; spelled = subst (λ l. SpellsHunter (hunter.Id w) l (drop end us)) (sym (is_unit at (byte "#") inside e)) (by_id h.reads) }

    pub child_is : (w : List ℕ) (start end : ℕ) → get_or us at 0 ≡ byte ">" → IsRunAt us is_space (at + 1) start → IsNameAt us start w end → IsHunterAt us at (hunter.Child w) end
    child_is w start end e s h =
        record {
          later = omega (arith, s.order, h.later);
          inside = h.inside;
          spelled = subst (λ l. SpellsHunter (hunter.Child w) l (drop end us)) (sym (is_unit at (byte ">") inside e)) (by_child (run_spaces s.reads) h.reads);
        }

    pub next_is : (w : List ℕ) (start end : ℕ) → get_or us at 0 ≡ byte "+" → IsRunAt us is_space (at + 1) start → IsNameAt us start w end → IsHunterAt us at (hunter.Next w) end
    next_is w start end e s h =
        record {
          later = omega (arith, s.order, h.later);
          inside = h.inside;
          spelled = subst (λ l. SpellsHunter (hunter.Next w) l (drop end us)) (sym (is_unit at (byte "+") inside e)) (by_next (run_spaces s.reads) h.reads);
        }

    pub children_is : get_or us at 0 ≡ byte "/" → IsHunterAt us at hunter.Children (at + 1)
    children_is e = record { later = omega arith; inside = omega (arith, inside); spelled = subst (λ l. SpellsHunter hunter.Children l (drop (at + 1) us)) (sym (is_unit at (byte "/") inside e)) by_children }

    pub all_is : get_or us at 0 ≡ byte "*" → IsHunterAt us at hunter.All (at + 1)
    all_is e = record { later = omega arith; inside = omega (arith, inside); spelled = subst (λ l. SpellsHunter hunter.All l (drop (at + 1) us)) (sym (is_unit at (byte "*") inside e)) by_all }

    pub tag_is : (w : List ℕ) (end : ℕ) → IsNameAt us at w end → IsHunterAt us at (hunter.Tag w) end
    tag_is w end h = record { later = h.later; inside = h.inside; spelled = by_tag h.reads }

    pub id_refused : (e : QueryFault) → get_or us at 0 ≡ byte "#" → HasNone us in_word (at + 1) e → (qs : List Step) → HasRoom qs → Refuses us (Between qs) at e
    id_refused e is none qs room =
        refused_later (Between qs) (Hunt ForId qs) at (at + 1) e (ap (go (Between qs)) (is_unit at (byte "#") inside is) ∙ id_mark qs room (drop (at + 1) us))
        (refused_here (Hunt ForId qs) in_word (at + 1) e (omega (arith, inside)) none refl (λ u lt e p. rw p refl))

    pub child_refused : (start : ℕ) (e : QueryFault) → get_or us at 0 ≡ byte ">" → IsRunAt us is_space (at + 1) start → HasNone us is_lower start e → (qs : List Step) → HasRoom qs → Refuses us (Between qs) at e
    child_refused start e is s none qs room =
        refused_later (Between qs) (Hunt ForChild qs) at start e (ap (go (Between qs)) (is_unit at (byte ">") inside is) ∙ child_mark qs room (drop (at + 1) us) ∙ child_spaces qs room (run_spaces s.reads))
        (refused_here (Hunt ForChild qs) is_lower start e s.inside none refl
        (λ u lt is_u p. (let space : (u == 32) ≡ false = ap is_space is_u ∙ sym (first_at is_space us start lt) ∙ run_stops s.reads in rw (space, p) refl)))

    pub next_refused : (start : ℕ) (e : QueryFault) → get_or us at 0 ≡ byte "+" → IsRunAt us is_space (at + 1) start → HasNone us is_lower start e → (qs : List Step) → HasRoom qs → Refuses us (Between qs) at e
    next_refused start e is s none qs room =
        refused_later (Between qs) (Hunt ForNext qs) at start e (ap (go (Between qs)) (is_unit at (byte "+") inside is) ∙ next_mark qs room (drop (at + 1) us) ∙ next_spaces qs room (run_spaces s.reads))
        (refused_here (Hunt ForNext qs) is_lower start e s.inside none refl
        (λ u lt is_u p. (let space : (u == 32) ≡ false = ap is_space is_u ∙ sym (first_at is_space us start lt) ∙ run_stops s.reads in rw (space, p) refl)))

    -- no hunter begins so
    pub none_refused : (e : QueryFault) → goes_on is_space (drop at us) ≡ false → get_or us at 0 ≢ byte "#" → get_or us at 0 ≢ byte ">" → get_or us at 0 ≢ byte "+" → get_or us at 0 ≢ byte "/" → get_or us at 0 ≢ byte "*" → HasNone us is_lower at e → (qs : List Step) → HasRoom qs → Refuses us (Between qs) at e
    none_refused (fault.BadQuery place) first a b c d f h qs room =
        subst (λ x. Refuses us (Between qs) at (fault.BadQuery x)) (sym (h.0)) (at_unit (Between qs) at inside refused)
      where
        refused : between qs (get_or us at 0) ≡ None
        refused =
            let space : (get_or us at 0 == 32) ≡ false = sym (first_at is_space us at inside) ∙ first in
            let letter : is_lower (get_or us at 0) ≡ false = sym (first_at is_lower us at inside) ∙ h.1 in
            let a1 = other_number (get_or us at 0) (byte "#") a in
            let b1 = other_number (get_or us at 0) (byte ">") b in
            let c1 = other_number (get_or us at 0) (byte "+") c in
            let d1 = other_number (get_or us at 0) (byte "/") d in
            let f1 = other_number (get_or us at 0) (byte "*") f in
            rw (space, room, letter, a1, b1, c1, d1, f1) refl
    none_refused fault.Memory first a b c d f h qs room = tt

  -- ## Filters

  module _ (at : ℕ) (inside : at < length us) (qs : List Step) (h : Hunter) where
    -- a mark leads into a filter
    mark_goes : (n : ℕ) (fs : List StepFilter) (into : State) → get_or us at 0 ≡ n → step (Inside qs h fs) n ≡ Some into → goes us (Inside qs h fs) at ≡ goes us into (at + 1)
    mark_goes n fs into e on = ap (go (Inside qs h fs)) (is_unit at n inside e) ∙ taken (Inside qs h fs) into n (drop (at + 1) us) on

    pub sift_refused : (n : ℕ) (role : FilterRole) (fs : List StepFilter) (e : QueryFault) → get_or us at 0 ≡ n → step (Inside qs h fs) n ≡ Some (Sift role qs h fs) → HasNone us in_word (at + 1) e → Refuses us (Inside qs h fs) at e
    sift_refused n role fs e is on none =
        refused_later (Inside qs h fs) (Sift role qs h fs) at (at + 1) e (mark_goes n fs (Sift role qs h fs) is on)
        (refused_here (Sift role qs h fs) in_word (at + 1) e (omega (arith, inside)) none refl (λ u lt is_u p. rw p refl))

    pub attribute_refused : (fs : List StepFilter) (e : QueryFault) → get_or us at 0 ≡ byte "[" → Refuses us (Attribute qs h fs) (at + 1) e → Refuses us (Inside qs h fs) at e
    attribute_refused fs e is r = refused_later (Inside qs h fs) (Attribute qs h fs) at (at + 1) e (mark_goes (byte "[") fs (Attribute qs h fs) is refl) r

    pub keyword_refused : (fs : List StepFilter) (e : QueryFault) → get_or us at 0 ≡ byte ":" → Refuses us (Keyword qs h fs []) (at + 1) e → Refuses us (Inside qs h fs) at e
    keyword_refused fs e is r = refused_later (Inside qs h fs) (Keyword qs h fs []) at (at + 1) e (mark_goes (byte ":") fs (Keyword qs h fs []) is refl) r

  module _ (at : ℕ) (inside : at < length us) where
    pub class_is : (w : List ℕ) (end : ℕ) → get_or us at 0 ≡ byte "." → IsWordAt us (at + 1) w end → IsFilterAt us at (kind.Node (filter.Class w)) end
    class_is w end e g = record { later = omega (arith, g.later); inside = g.inside; spelled = subst (λ l. SpellsFilter (kind.Node (filter.Class w)) l (drop end us)) (sym (is_unit at (byte ".") inside e)) (by_class g.reads) }

    pub named_is : (w : List ℕ) (end : ℕ) → get_or us at 0 ≡ byte "&" → IsWordAt us (at + 1) w end → IsFilterAt us at (kind.Node (filter.Name w)) end
    named_is w end e g = record { later = omega (arith, g.later); inside = g.inside; spelled = subst (λ l. SpellsFilter (kind.Node (filter.Name w)) l (drop end us)) (sym (is_unit at (byte "&") inside e)) (by_name g.reads) }

    pub kind_is : (w : List ℕ) (end : ℕ) → get_or us at 0 ≡ byte "_" → IsWordAt us (at + 1) w end → IsFilterAt us at (kind.Node (filter.Kind w)) end
    kind_is w end e g = record { later = omega (arith, g.later); inside = g.inside; spelled = subst (λ l. SpellsFilter (kind.Node (filter.Kind w)) l (drop end us)) (sym (is_unit at (byte "_") inside e)) (by_type g.reads) }

    pub behind_mark : (n : ℕ) (f : StepFilter) (end : ℕ) → get_or us at 0 ≡ n → IsFilterBehind us n (at + 1) f end → IsFilterAt us at f end
    behind_mark n f end e g = record { later = omega (arith, g.later); inside = g.inside; spelled = subst (λ l. SpellsFilter f l (drop end us)) (sym (is_unit at n inside e)) g.spelled }

  -- the three marks that a word follows
  pub word_refused : (at : ℕ) (inside : at < length us) (e : QueryFault) → goes_on is_mark (drop at us) ≡ true → get_or us at 0 ≢ byte "[" → get_or us at 0 ≢ byte ":" → HasNone us in_word (at + 1) e → (qs : List Step) (h : Hunter) (fs : List StepFilter) → Refuses us (Inside qs h fs) at e
  word_refused at inside e marked a b none qs h fs =
      let u = get_or us at 0 in
      let is : is_mark u ≡ true = sym (first_at is_mark us at inside) ∙ marked in
      let a1 = other_number u (byte "[") a in
      let b1 = other_number u (byte ":") b in
      let left : is_mark u ≡ (u == byte "." || u == byte "&" || u == byte "_" || false || false) = rw (a1, b1) refl in
      elim (or_split (u == byte "." || u == byte "&") (u == byte "_") (last_two (u == byte "." || u == byte "&" || u == byte "_") (sym left ∙ is))) [
        | inr c ↦ sift_refused at inside qs h (byte "_") ForKind fs e (same_number u (byte "_") c) refl none
        | inl c ↦ elim (or_split (u == byte ".") (u == byte "&") c) [ inl d ↦ sift_refused at inside qs h (byte ".") ForClass fs e (same_number u (byte ".") d) refl none | inr d ↦ sift_refused at inside qs h (byte "&") ForName fs e (same_number u (byte "&") d) refl none ]
      ]
    where
      last_two : (t : Bool) → (t || false || false) ≡ true → t ≡ true
      last_two true k = refl
      last_two false k = k

  -- what is left when it is none of the other four
  pub is_low_line : (at : ℕ) → at < length us → goes_on is_mark (drop at us) ≡ true → get_or us at 0 ≢ byte "[" → get_or us at 0 ≢ byte ":" → get_or us at 0 ≢ byte "." → get_or us at 0 ≢ byte "&" → get_or us at 0 ≡ byte "_"
  is_low_line at inside marked a b c d =
      let u = get_or us at 0 in
      let is : is_mark u ≡ true = sym (first_at is_mark us at inside) ∙ marked in
      let a1 = other_number u (byte "[") a in
      let b1 = other_number u (byte ":") b in
      let c1 = other_number u (byte ".") c in
      let d1 = other_number u (byte "&") d in
      let left : is_mark u ≡ ((u == byte "_" || false) || false) = rw (c1, d1, a1, b1) refl in
      same_number u (byte "_") (last_two (u == byte "_") (sym left ∙ is))
    where
      last_two : (t : Bool) → ((t || false) || false) ≡ true → t ≡ true
      last_two true k = refl
      last_two false k = k

  -- a filter that is read from behind its mark
  pub behind_open : (at : ℕ) (inside : at < length us) (r : Result (StepFilter × ℕ) ℕ) → get_or us at 0 ≡ byte "[" → MatchResult r (λ v. IsFilterBehind us (byte "[") (at + 1) v.0 v.1) (λ e. (qs : List Step) (h : Hunter) (fs : List StepFilter) → Refuses us (Attribute qs h fs) (at + 1) (fault.BadQuery e)) → MatchResult r (λ v. IsFilterAt us at v.0 v.1) (λ e. (qs : List Step) (h : Hunter) (fs : List StepFilter) → Refuses us (Inside qs h fs) at (fault.BadQuery e))
  behind_open at inside (Ok v) is g = behind_mark at inside (byte "[") v.0 v.1 is g
  behind_open at inside (Err e) is g = λ qs h fs. attribute_refused at inside qs h fs (fault.BadQuery e) is (g qs h fs)

  pub behind_colon : (at : ℕ) (inside : at < length us) (r : Result (StepFilter × ℕ) ℕ) → get_or us at 0 ≡ byte ":" → MatchResult r (λ v. IsFilterBehind us (byte ":") (at + 1) v.0 v.1) (λ e. (qs : List Step) (h : Hunter) (fs : List StepFilter) → Refuses us (Keyword qs h fs []) (at + 1) (fault.BadQuery e)) → MatchResult r (λ v. IsFilterAt us at v.0 v.1) (λ e. (qs : List Step) (h : Hunter) (fs : List StepFilter) → Refuses us (Inside qs h fs) at (fault.BadQuery e))
  behind_colon at inside (Ok v) is g = behind_mark at inside (byte ":") v.0 v.1 is g
  behind_colon at inside (Err e) is g = λ qs h fs. keyword_refused at inside qs h fs (fault.BadQuery e) is (g qs h fs)

  -- ## Attributes

  module _ (at : ℕ) (qs : List Step) (h : Hunter) (fs : List StepFilter) where
    pub attribute_none : (e : QueryFault) → at ≤ length us → HasNone us in_word at e → Refuses us (Attribute qs h fs) at e
    attribute_none e le none = refused_here (Attribute qs h fs) in_word at e le none refl (λ u lt is_u p. rw p refl)

    pub attribute_bad : (w : List ℕ) (end : ℕ) → IsWordAt us at w end → is_first (byte "]") (drop end us) ≡ false → is_first (byte "=") (drop end us) ≡ false → Refuses us (Attribute qs h fs) at (fault.BadQuery end)
    attribute_bad w end g close equals = refused_later (Attribute qs h fs) (AttributeWord qs h fs w) at end (fault.BadQuery end) (attribute_goes qs h fs g.reads) (by_end (end_or end g.inside))
      where
        by_end : (end ≡ length us) ⊎ (end < length us) → Refuses us (AttributeWord qs h fs w) end (fault.BadQuery end)
        by_end (inl e) = at_end (AttributeWord qs h fs w) end e refl
        by_end (inr lt) =
            let a = sym (first_at in_word us end lt) ∙ word_stops g.reads in
            let b = sym (first_at (λ u. u == byte "]") us end lt) ∙ close in
            let c = sym (first_at (λ u. u == byte "=") us end lt) ∙ equals in
            at_unit (AttributeWord qs h fs w) end lt (rw (a, b, c) refl)

    pub attribute_open : (w : List ℕ) (end close : ℕ) → IsWordAt us at w end → is_first (byte "=") (drop end us) ≡ true → IsRunAt us in_value (end + 1) close → close ≡ length us → Refuses us (Attribute qs h fs) at (fault.BadQuery close)
    attribute_open w end close g equals r e =
        let s = stands_at end (byte "=") g.inside equals in
        refused_later (Attribute qs h fs) (AttributeValue qs h fs w (slice_range us (end + 1) close)) at close (fault.BadQuery close)
        (attribute_goes qs h fs g.reads ∙ ap (go (AttributeWord qs h fs w)) (is_unit end (byte "=") (s.0) (s.1)) ∙ taken (AttributeWord qs h fs w) (AttributeValue qs h fs w []) (byte "=") (drop (end + 1) us) refl ∙ value_on qs h fs w r.reads)
        (at_end (AttributeValue qs h fs w (slice_range us (end + 1) close)) close e refl)

  pub has_is : (at : ℕ) (w : List ℕ) (end : ℕ) → IsWordAt us at w end → is_first (byte "]") (drop end us) ≡ true → IsFilterBehind us (byte "[") at (kind.Node (filter.Has w)) (end + 1)
  has_is at w end g close =
      let s = stands_at end (byte "]") g.inside close in
      record { later = omega (arith, g.later); inside = omega (arith, s.0); spelled = by_presence (subst (λ l. Word (drop at us) w l) (is_unit end (byte "]") (s.0) (s.1)) g.reads) }

  pub equals_is : (at : ℕ) (w v : List ℕ) (end close : ℕ) → IsWordAt us at w end → is_first (byte "=") (drop end us) ≡ true → IsRunAt us in_value (end + 1) close → close < length us → v ≡ slice_range us (end + 1) close → IsFilterBehind us (byte "[") at (kind.Node (filter.Equals w v)) (close + 1)
  equals_is at w v end close g equals r lt e =
      let s = stands_at end (byte "=") g.inside equals in
      let stops = sym (first_at in_value us close lt) ∙ run_stops r.reads in
      let is = same_number (get_or us close 0) (byte "]") (not_false (get_or us close 0 == byte "]") stops) in
      record {
        later = omega (arith, g.later, r.order);
        inside = omega (arith, lt);
        spelled = by_value (subst (λ l. Word (drop at us) w l) (is_unit end (byte "=") (s.0) (s.1)) g.reads)
            (subst (λ l. Run in_value (drop (end + 1) us) l (byte "]" ∷ drop (close + 1) us)) (sym e) (subst (λ l. Run in_value (drop (end + 1) us) (slice_range us (end + 1) close) l) (is_unit close (byte "]") lt is) r.reads));
      }

  -- ## Keywords

  -- the units of a keyword that is read up to `end`
  pub record KeywordSoFar (at end : ℕ) : Type 0 where
    pub order : at ≤ end
    pub inside : end ≤ length us
    pub goes_so : (qs : List Step) (h : Hunter) (fs : List StepFilter) → goes us (Keyword qs h fs []) at ≡ goes us (Keyword qs h fs (slice_range us at end)) end

  pub keyword_begins : (at : ℕ) → at ≤ length us → KeywordSoFar at at
  keyword_begins at le = record { order = omega arith; inside = le; goes_so = λ qs h fs. ap (λ l. goes us (Keyword qs h fs l) at) (sym (range_none us at)) }

  pub keyword_whole : (at end : ℕ) → at < end → end ≤ length us → (f : StepFilter) → keyword_of (slice_range us at end) ≡ Some f → IsFilterBehind us (byte ":") at f end
  keyword_whole at end lt le f e =
      let front = slice_range us at end in
      let whole = range_behind us at end (omega (arith, lt)) le in
      record { later = lt; inside = le; spelled = subst (λ l. SpellsFilter f (byte ":" ∷ l) (drop end us)) (sym whole) (by_keyword (keyword_is front f e)) }

  module _ (at end : ℕ) (so_far : KeywordSoFar at end) where
    module _ (lt : end < length us) where
      keyword_on : (qs : List Step) (h : Hunter) (fs : List StepFilter) → step (Keyword qs h fs (slice_range us at end)) (get_or us end 0) ≡ keyword_or qs h fs (slice_range us at (end + 1)) (keyword_of (slice_range us at (end + 1)))
      keyword_on qs h fs = ap (λ l. keyword_or qs h fs l (keyword_of l)) (sym (range_more us at end so_far.order lt))

      pub keyword_further : keyword_of (slice_range us at (end + 1)) ≡ None → fits (slice_range us at (end + 1)) ≡ true → KeywordSoFar at (end + 1)
      keyword_further none fit =
          record {
            order = omega (arith, so_far.order);
            inside = omega (arith, lt);
            goes_so = λ qs h fs.
                (let front = slice_range us at (end + 1) in
                let on : step (Keyword qs h fs (slice_range us at end)) (get_or us end 0) ≡ Some (Keyword qs h fs front) = keyword_on qs h fs ∙ ap (keyword_or qs h fs front) none ∙ rw fit refl in
                so_far.goes_so qs h fs ∙ ap (go (Keyword qs h fs (slice_range us at end))) (unit_at us end lt) ∙ taken (Keyword qs h fs (slice_range us at end)) (Keyword qs h fs front) (get_or us end 0) (drop (end + 1) us) on);
          }

      pub keyword_found : (f : StepFilter) → keyword_of (slice_range us at (end + 1)) ≡ Some f → IsFilterBehind us (byte ":") at f (end + 1)
      keyword_found f e = keyword_whole at (end + 1) (omega (arith, so_far.order)) (omega (arith, lt)) f e

      pub keyword_stuck : keyword_of (slice_range us at (end + 1)) ≡ None → fits (slice_range us at (end + 1)) ≡ false → (qs : List Step) (h : Hunter) (fs : List StepFilter) → Refuses us (Keyword qs h fs []) at (fault.BadQuery end)
      keyword_stuck none fit qs h fs =
          let front = slice_range us at (end + 1) in
          let stuck : step (Keyword qs h fs (slice_range us at end)) (get_or us end 0) ≡ None = keyword_on qs h fs ∙ ap (keyword_or qs h fs front) none ∙ rw fit refl in
          refused_later (Keyword qs h fs []) (Keyword qs h fs (slice_range us at end)) at end (fault.BadQuery end) (so_far.goes_so qs h fs) (at_unit (Keyword qs h fs (slice_range us at end)) end lt stuck)

    pub keyword_cut : length us ≤ end → (qs : List Step) (h : Hunter) (fs : List StepFilter) → Refuses us (Keyword qs h fs []) at (fault.BadQuery end)
    keyword_cut le qs h fs =
        refused_later (Keyword qs h fs []) (Keyword qs h fs (slice_range us at end)) at end (fault.BadQuery end) (so_far.goes_so qs h fs) (at_end (Keyword qs h fs (slice_range us at end)) end (omega (arith, le, so_far.inside)) refl)

  -- ## Filters in a row

  -- some filters stand up to a place
  pub record FiltersSoFar (at : ℕ) (place : ℕ) : Type 0 where
    pub order : at ≤ place
    pub inside : place ≤ length us
    pub filters : List StepFilter
    pub spelled : SpellsFilters filters (drop at us) (drop place us)

  pub filters_begin : (at : ℕ) → at ≤ length us → FiltersSoFar at at
  filters_begin at le = record { order = omega arith; inside = le; filters = []; spelled = no_filter }

  pub filters_further : (at : ℕ) (f : StepFilter) (place after : ℕ) → FiltersSoFar at place → IsFilterAt us place f after → FiltersSoFar at after
  filters_further at f place after so_far g =
      record { order = omega (arith, so_far.order, g.later); inside = g.inside; filters = so_far.filters ++ f ∷ []; spelled = filters_more so_far.spelled g.spelled }

  -- and those like it that stand behind it
  pub filters_alike : (at : ℕ) (f : StepFilter) (place next after : ℕ) → FiltersSoFar at place → IsFilterAt us place f next → ((g : StepFilter) → SpellsFilter g (drop place us) (drop next us) → StandAlike us g next after) → FiltersSoFar at after
  filters_alike at f place next after so_far g all =
      let more = filters_further at f place next so_far g in
      let stand = all f g.spelled in
      let others = filters_also f stand.alike more.filters more.spelled in
      record { order = omega (arith, more.order, stand.order); inside = stand.inside; filters = others.0; spelled = others.1 }

  pub filters_done : (at : ℕ) (place : ℕ) → FiltersSoFar at place → goes_on is_mark (drop place us) ≡ false → StandFilters us at place
  filters_done at place so_far e = (so_far.filters, record { order = so_far.order; inside = so_far.inside; spelled = so_far.spelled; all = e })

  pub filters_refused : (at : ℕ) (place : ℕ) (e : QueryFault) → FiltersSoFar at place → ((qs : List Step) (h : Hunter) (gs : List StepFilter) → Refuses us (Inside qs h gs) place e) → (qs : List Step) (h : Hunter) → Refuses us (Inside qs h []) at e
  filters_refused at place e so_far r qs h = refused_later (Inside qs h []) (Inside qs h so_far.filters) at place e (filters_go qs h [] so_far.spelled) (r qs h so_far.filters)

  -- the filters between two places, as a part of the units
  part_spells : (at end : ℕ) (fs : List StepFilter) → AreFiltersAt us at fs end → SpellsFilters fs (slice_range us at end) []
  part_spells at end fs h = spelled_alone fs (slice_range us at end) (drop end us) (subst (λ l. SpellsFilters fs l (drop end us)) (range_behind us at end h.order h.inside) h.spelled)

  part_filters : (at end : ℕ) → StandFilters us at end → AreFilters (slice_range us at end)
  part_filters at end h =
      let spells = part_spells at end (h.0) (h.1) in
      subst (λ l. SpellsFilters l (slice_range us at end) []) (sym (filters_are (slice_range us at end) (h.0) spells)) spells

  filters_at : (at end : ℕ) (fs : List StepFilter) → StandFilters us at end → fs ≡ filters_of (slice_range us at end) → AreFiltersAt us at fs end
  filters_at at end fs h e =
      subst (λ l. AreFiltersAt us at l end) (sym (e ∙ filters_are (slice_range us at end) (h.0) (part_spells at end (h.0) (h.1)))) (h.1)

  -- ## Steps

  pub record StepsSoFar (qs : List Step) (at : ℕ) : Type 0 where
    pub inside : at ≤ length us
    pub first : goes_on is_space (drop at us) ≡ false
    pub few : length qs ≤ 32
    pub reads : goes us begin 0 ≡ goes us (Between qs) at

  pub steps_begin : (qs : List Step) (at : ℕ) → IsRunAt us is_space 0 at → qs ≡ [] → StepsSoFar qs at
  steps_begin qs at r e =
      record {
        inside = r.inside;
        first = run_stops r.reads;
        few = subst (λ l. length l ≤ 32) (sym e) (omega arith);
        reads = between_spaces [] (run_spaces r.reads) ∙ ap (λ l. goes us (Between l) at) (sym e);
      }

  room_of : (qs : List Step) → length qs ≤ 32 → length qs ≢ 32 → HasRoom qs
  room_of qs le other = grind (arith, nat_tests)

  module _ (qs : List Step) (at : ℕ) (so_far : StepsSoFar qs at) where
    module _ (ts : List Step) (same : ts ≡ qs) (not_full : (length ts == 32) ≡ false) where
      other : length qs ≢ 32
      other e = let is : (length qs == 32) ≡ false = subst (λ l. (length l == 32) ≡ false) same not_full in no_32 (length qs) e is
        where
          no_32 : (n : ℕ) → n ≡ 32 → (n == 32) ≡ false → ⊥
          no_32 n e is = both_ways (n == 32) (subst (λ x. (x == 32) ≡ true) (sym e) refl) is

      pub steps_further : (rs : List Step) (h : Hunter) (fs : List StepFilter) (b end after : ℕ) → IsHunterAt us at h b → AreFiltersAt us b fs end → IsRunAt us is_space end after → rs ≡ with qs h fs → StepsSoFar rs after
      steps_further rs h fs b end after g f r e =
          record {
            inside = r.inside;
            first = run_stops r.reads;
            few = subst (λ l. length l ≤ 32) (sym e) (omega (arith, so_far.few, other, length-append qs ((record { hunter = h; filters = fs }) ∷ [])));
            reads = so_far.reads ∙ hunter_goes qs (room_of qs so_far.few other) g.spelled ∙ filters_go qs h [] f.spelled ∙ step_ends qs h fs (drop end us) f.all ∙ between_spaces (with qs h fs) (run_spaces r.reads)
                ∙ ap (λ l. goes us (Between l) after) (sym e);
          }

      pub hunter_refused : (e : QueryFault) → ((rs : List Step) → HasRoom rs → Refuses us (Between rs) at e) → Refuses us begin 0 e
      hunter_refused e r = refused_later begin (Between qs) 0 at e so_far.reads (r qs (room_of qs so_far.few other))

      pub step_refused : (h : Hunter) (b : ℕ) (e : QueryFault) → IsHunterAt us at h b → ((rs : List Step) (g : Hunter) → Refuses us (Inside rs g []) b e) → Refuses us begin 0 e
      step_refused h b e g r = refused_later begin (Inside qs h []) 0 b e (so_far.reads ∙ hunter_goes qs (room_of qs so_far.few other) g.spelled) (r qs h)

    pub too_many : (rs : List Step) → rs ≡ qs → (length rs == 32) ≡ true → at < length us → Refuses us begin 0 (fault.BadQuery at)
    too_many rs same is_full lt =
        let full : length qs ≡ 32 = ap length (sym same) ∙ same_number (length rs) 32 is_full in
        let space : (get_or us at 0 == 32) ≡ false = sym (first_at is_space us at lt) ∙ so_far.first in
        let room : nat_lt (length qs) 32 ≡ false = grind (arith, nat_tests) in
        refused_later begin (Between qs) 0 at (fault.BadQuery at) so_far.reads (at_unit (Between qs) at lt (rw (space, room) refl))

    pub no_steps : (rs : List Step) → rs ≡ qs → (length rs == 0) ≡ true → length us ≤ at → Refuses us begin 0 (fault.BadQuery at)
    no_steps rs same h le =
        let e : qs ≡ [] = sym same ∙ nothing_in rs (same_number (length rs) 0 h) in refused_later begin (Between qs) 0 at (fault.BadQuery at) so_far.reads (at_end (Between qs) at (omega (arith, le, so_far.inside)) (subst (λ l. some_steps l ≡ None) (sym e) refl))

    all_read : qs ≢ [] → length us ≤ at → go begin us ≡ Read qs
    all_read some le = so_far.reads ∙ ap (go (Between qs)) (no_unit_at us at le) ∙ ended_some qs some
      where
        ended_some : (rs : List Step) → rs ≢ [] → ended (some_steps rs) ≡ Read rs
        ended_some [] h = absurd (h refl)
        ended_some (r ∷ rs) h = refl

    pub query_is : (ts : List Step) → ts ≡ qs → (length ts == 0) ≡ false → length us ≤ at → QuerySpells us qs
    query_is ts same h le = sound us qs (all_read (some_in ts qs same h) le)

    pub query_only : (ts : List Step) → ts ≡ qs → (length ts == 0) ≡ false → length us ≤ at → (rs : List Step) → QuerySpells us rs → qs ≡ rs
    query_only ts same h le rs q = let some = some_in ts qs same h in let is = complete us rs q in let read = all_read some le in cc

  pub query_fault : (e : QueryFault) → Refuses us begin 0 e → IsQueryFault us e
  query_fault (fault.BadQuery place) h = refused_is us (length (drop place us)) place (h.1) (left_at us place (h.0))
  query_fault fault.Memory h = tt

  pub fault_only : (e : QueryFault) → Refuses us begin 0 e → (rs : List Step) → QuerySpells us rs → e ≡ fault.Memory
  fault_only (fault.BadQuery place) h rs q = let is = complete us rs q in let refused = h.1 in cc
  fault_only fault.Memory h rs q = refl

-- ## Filters as a part of a text

pub text_filters : (text us : List ℕ) (at end : ℕ) → text ≡ us → StandFilters us at end → AreFilters (slice_range text at end)
text_filters text us at end same h = subst (λ l. AreFilters (slice_range l at end)) (sym same) (part_filters us at end h)

pub text_filters_at : (text us : List ℕ) (at end : ℕ) (fs : List StepFilter) → text ≡ us → StandFilters us at end → fs ≡ filters_of (slice_range text at end) → AreFiltersAt us at fs end
text_filters_at text us at end fs same h e = filters_at us at end fs h (e ∙ ap (λ l. filters_of (slice_range l at end)) same)

-- ## The first filter

pub no_filters_in : (us : List ℕ) → (length us == 0) ≡ true → filters_of us ≡ []
no_filters_in [] e = filters_are [] [] no_filter
no_filters_in (u ∷ us) e = let none = same_number (length (u ∷ us)) 0 e in absurd (omega (arith, none))

pub some_units : (us : List ℕ) → (length us == 0) ≡ false → 0 < length us
some_units [] e = absurd (both_ways (length {A = ℕ} [] == 0) refl e)
some_units (u ∷ us) e = omega arith

-- a filter begins with a mark
filter_marked : {f : StepFilter} {us rest : List ℕ} → SpellsFilter f us rest → goes_on is_mark us ≡ true
filter_marked (by_class word) = refl
filter_marked (by_name word) = refl
filter_marked (by_type word) = refl
filter_marked (by_presence word) = refl
filter_marked (by_value word value) = refl
filter_marked (by_keyword key) = refl

filters_marked : {fs : List StepFilter} {us rest : List ℕ} → SpellsFilters fs us rest → length rest ≡ 0 → 0 < length us → goes_on is_mark us ≡ true
filters_marked no_filter e lt = absurd (omega (arith, e, lt))
filters_marked (one_filter one others) e lt = filter_marked one

-- where units spell filters, a filter stands first
pub begins_filter : (us : List ℕ) → AreFilters us → 0 < length us → goes_on is_mark us ≡ true
begins_filter us all some = filters_marked all refl some

-- and it is not refused
never_refused : (us : List ℕ) (place : ℕ) → AreFilters us → ((qs : List Step) (h : Hunter) (fs : List StepFilter) → Refuses us (Inside qs h fs) 0 (fault.BadQuery place)) → ⊥
never_refused us place all r =
    let read = filters_go [] hunter.All [] all in
    let refused = (r [] hunter.All []).1 in
    cc

ok_err : {A B : Type 0} (a : A) (b : B) → ◌≡◌ {A = Result A B} (Ok a) (Err b) → ⊥
ok_err a b e = cc

same_ok : {A B : Type 0} (a b : A) → ◌≡◌ {A = Result A B} (Ok a) (Ok b) → a ≡ b
same_ok a b e = cc

module _ (us : List ℕ) (all : AreFilters us) where
  -- what reading a filter from the front gives
  abbrev IsReadAt : Result (StepFilter × ℕ) ℕ → Type 0
  IsReadAt r = MatchResult r (λ v. IsFilterAt us 0 v.0 v.1) (λ e. (qs : List Step) (h : Hunter) (fs : List StepFilter) → Refuses us (Inside qs h fs) 0 (fault.BadQuery e))

  pub first_read : (r : Result (StepFilter × ℕ) ℕ) (v : StepFilter × ℕ) → r ≡ Ok v → IsReadAt r → IsFirst us v.0 v.1
  first_read (Ok w) v is h = subst (λ x. IsFirst us x.0 x.1) (same_ok w v is) (first_is us w.0 w.1 all h.later h.inside h.spelled)
  first_read (Err e) v is h = absurd (ok_err v e (sym is))

  pub first_spelled : (r : Result (StepFilter × ℕ) ℕ) (v : StepFilter × ℕ) → r ≡ Ok v → IsReadAt r → SpellsFilter v.0 us (drop v.1 us)
  first_spelled (Ok w) v is h = subst (λ x. SpellsFilter x.0 us (drop x.1 us)) (same_ok w v is) h.spelled
  first_spelled (Err e) v is h = absurd (ok_err v e (sym is))

  pub none_bad : (r : Result (StepFilter × ℕ) ℕ) (e : ℕ) → r ≡ Err e → IsReadAt r → ⊥
  none_bad (Ok w) e is h = ok_err w e is
  none_bad (Err d) e is h = never_refused us d all h
