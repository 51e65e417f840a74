-- Filters as the units that spell them.
use Rattle.std.proofs.Common.{◌≡◌, ℕ, suc, ◌+◌, ◌<◌, ◌≤◌, List, [], ◌∷◌, ◌++◌, Bool, false, refl, ap, sym, ◌∙◌, subst, append_assoc, length, length-append, take, drop, arith}
use Rattle.std.specs.Str.{byte}
use Rattle.std.proofs.lemmas.List.{append_cancel_right, take-append-drop}
use Rattle.exact_refusals.specs.Judge.{Read}
use Rattle.query_grammar.specs.declared.query.Hunter.TheVariants as hunter
use Rattle.query_grammar.specs.declared.query.Filter.TheVariants as filter
use Rattle.query_grammar.specs.declared.query.ListFilter.TheVariants as on_list
use Rattle.query_grammar.specs.declared.query.StepFilter.{StepFilter}
use Rattle.query_grammar.specs.declared.query.StepFilter.TheVariants as kind
use Rattle.query_grammar.specs.Queries.{goes_on, in_word, Run, run_ends, run_more, Word, a_word, SpellsFilter, by_class, by_name, by_type, by_presence, by_value, by_keyword, SpellsFilters, no_filter, one_filter, IsKeyword, key_checked, key_unchecked, key_enabled, key_disabled, key_focus, key_first, key_rest, key_even, key_odd}
use Rattle.query_grammar.specs.Machine.{Inside}
use Rattle.query_grammar.specs.Spelled.{filters_in, filters_of, AreFilters, IsFirst}
use Rattle.query_grammar.proofs.Complete.{go, filter_goes, filters_go, run_stops}
use Rattle.query_grammar.proofs.Sound.{filters_left}

-- ## What spells a filter, without what stands behind it

run_text : {p : ℕ → Bool} {us run rest : List ℕ} → Run p us run rest → us ≡ run ++ rest
run_text (run_ends h) = refl
run_text (run_more {u = u} h more) = ap (λ l. u ∷ l) (run_text more)

run_again : {p : ℕ → Bool} {us run rest : List ℕ} → Run p us run rest → (other : List ℕ) → goes_on p other ≡ false → Run p (run ++ other) run other
run_again (run_ends h) other e = run_ends e
run_again (run_more h more) other e = run_more h (run_again more other e)

word_text : {us w rest : List ℕ} → Word us w rest → us ≡ w ++ rest
word_text (a_word {u = u} h run) = ap (λ l. u ∷ l) (run_text run)

word_again : {us w rest : List ℕ} → Word us w rest → (other : List ℕ) → goes_on in_word other ≡ false → Word (w ++ other) w other
word_again (a_word h run) other e = a_word h (run_again run other e)

word_stops : {us w rest : List ℕ} → Word us w rest → goes_on in_word rest ≡ false
word_stops (a_word h run) = run_stops run

-- a name and a bracket
named : (w rest : List ℕ) → (w ++ byte "]" ∷ []) ++ rest ≡ w ++ byte "]" ∷ rest
named w rest = append_assoc w (byte "]" ∷ []) rest

-- a name, a value and a bracket
valued : (w v rest : List ℕ) → (w ++ byte "=" ∷ (v ++ byte "]" ∷ [])) ++ rest ≡ w ++ byte "=" ∷ (v ++ byte "]" ∷ rest)
valued w v rest = append_assoc w (byte "=" ∷ (v ++ byte "]" ∷ [])) rest ∙ ap (λ l. w ++ byte "=" ∷ l) (named v rest)

-- the units of a filter, which spell it in front of others too
record Units (f : StepFilter) (us rest : List ℕ) : Type 0 where
  units : List ℕ
  split : us ≡ units ++ rest
  spells : (other : List ℕ) → (goes_on in_word rest ≡ false → goes_on in_word other ≡ false) → SpellsFilter f (units ++ other) other

abbrev units_of : {f : StepFilter} {us rest : List ℕ} → SpellsFilter f us rest → Units f us rest
units_of (by_class {w = w} word) = record { units = byte "." ∷ w; split = ap (λ l. byte "." ∷ l) (word_text word); spells = λ other stops. by_class (word_again word other (stops (word_stops word))) }
units_of (by_name {w = w} word) = record { units = byte "&" ∷ w; split = ap (λ l. byte "&" ∷ l) (word_text word); spells = λ other stops. by_name (word_again word other (stops (word_stops word))) }
units_of (by_type {w = w} word) = record { units = byte "_" ∷ w; split = ap (λ l. byte "_" ∷ l) (word_text word); spells = λ other stops. by_type (word_again word other (stops (word_stops word))) }
units_of (by_presence {w = w} {rest = rest} word) =
    record {
      units = byte "[" ∷ (w ++ byte "]" ∷ []);
      split = ap (λ l. byte "[" ∷ l) (word_text word ∙ sym (named w rest));
      spells = λ other stops. by_presence (subst (λ l. Word l w (byte "]" ∷ other)) (sym (named w other)) (word_again word (byte "]" ∷ other) refl));
    }
units_of (by_value {w = w} {v = v} {rest = rest} word value) =
    record {
      units = byte "[" ∷ (w ++ byte "=" ∷ (v ++ byte "]" ∷ []));
      split = ap (λ l. byte "[" ∷ l) (word_text word ∙ ap (λ l. w ++ byte "=" ∷ l) (run_text value) ∙ sym (valued w v rest));
      spells = λ other stops.
          by_value
          (subst (λ l. Word l w (byte "=" ∷ (v ++ byte "]" ∷ other))) (sym (valued w v other)) (word_again word (byte "=" ∷ (v ++ byte "]" ∷ other)) refl))
          (run_again value (byte "]" ∷ other) refl);
    }
units_of (by_keyword {w = w} key) = record { units = byte ":" ∷ w; split = refl; spells = λ other stops. by_keyword key }

front_stops : (p : ℕ → Bool) (us rest : List ℕ) → goes_on p (us ++ rest) ≡ false → goes_on p us ≡ false
front_stops p [] rest h = refl
front_stops p (u ∷ us) rest h = h

-- the units of filters
record AllUnits (fs : List StepFilter) (us rest : List ℕ) : Type 0 where
  units : List ℕ
  split : us ≡ units ++ rest
  spells : SpellsFilters fs units []

abbrev all_units_of : {fs : List StepFilter} {us rest : List ℕ} → SpellsFilters fs us rest → AllUnits fs us rest
all_units_of no_filter = record { units = []; split = refl; spells = no_filter }
all_units_of (one_filter {rest = rest} one others) =
    let a = units_of one in
    let b = all_units_of others in
    record {
      units = a.units ++ b.units;
      split = a.split ∙ ap (λ l. a.units ++ l) b.split ∙ sym (append_assoc a.units b.units rest);
      spells = one_filter (a.spells b.units (λ h. front_stops in_word b.units rest (subst (λ l. goes_on in_word l ≡ false) b.split h))) b.spells;
    }

-- filters that stand before others are spelled by their units alone
pub spelled_alone : (fs : List StepFilter) (units rest : List ℕ) → SpellsFilters fs (units ++ rest) rest → SpellsFilters fs units []
spelled_alone fs units rest h =
    let a = all_units_of h in
    subst (λ l. SpellsFilters fs l []) (sym (append_cancel_right units a.units rest a.split)) a.spells

-- ## The filters of units

goes_read : {fs : List StepFilter} {us : List ℕ} → SpellsFilters fs us [] → go (Inside [] hunter.All []) us ≡ Read ((record { hunter = hunter.All; filters = fs }) ∷ [])
goes_read h = filters_go [] hunter.All [] h

pub filters_are : (us : List ℕ) (fs : List StepFilter) → SpellsFilters fs us [] → filters_of us ≡ fs
unfolding filters_of
filters_are us fs h = ap filters_in (goes_read h)

-- ## How many units spell a filter

abbrev width : StepFilter → ℕ
width (kind.Node (filter.Class w)) = suc (length w)
width (kind.Node (filter.Name w)) = suc (length w)
width (kind.Node (filter.Kind w)) = suc (length w)
width (kind.Node (filter.Has w)) = suc (length w + 1)
width (kind.Node (filter.Equals w v)) = suc (length w + suc (length v + 1))
width (kind.Node filter.Checked) = 8
width (kind.Node filter.Unchecked) = 10
width (kind.Node filter.Enabled) = 8
width (kind.Node filter.Disabled) = 9
width (kind.Node filter.Focus) = 6
width (kind.List on_list.First) = 6
width (kind.List on_list.Rest) = 5
width (kind.List on_list.Even) = 5
width (kind.List on_list.Odd) = 4

abbrev widths : List StepFilter → ℕ
widths [] = 0
widths (f ∷ fs) = width f + widths fs

run_width : {p : ℕ → Bool} {us run rest : List ℕ} → Run p us run rest → length us ≡ length run + length rest
run_width {run = run} {rest = rest} h = ap length (run_text h) ∙ length-append run rest

word_width : {us w rest : List ℕ} → Word us w rest → length us ≡ length w + length rest
word_width {w = w} {rest = rest} h = ap length (word_text h) ∙ length-append w rest

keyword_width : {w : List ℕ} {f : StepFilter} → IsKeyword w f → suc (length w) ≡ width f
keyword_width key_checked = refl
keyword_width key_unchecked = refl
keyword_width key_enabled = refl
keyword_width key_disabled = refl
keyword_width key_focus = refl
keyword_width key_first = refl
keyword_width key_rest = refl
keyword_width key_even = refl
keyword_width key_odd = refl

filter_width : {f : StepFilter} {us rest : List ℕ} → SpellsFilter f us rest → length us ≡ width f + length rest
filter_width (by_class word) = omega (arith, word_width word)
filter_width (by_name word) = omega (arith, word_width word)
filter_width (by_type word) = omega (arith, word_width word)
filter_width (by_presence word) = omega (arith, word_width word)
filter_width (by_value word value) = omega (arith, word_width word, run_width value)
filter_width (by_keyword {w = w} {rest = rest} key) = omega (arith, length-append w rest, keyword_width key)

filters_width : {fs : List StepFilter} {us rest : List ℕ} → SpellsFilters fs us rest → length us ≡ widths fs + length rest
filters_width no_filter = omega arith
filters_width (one_filter one others) = omega (arith, filter_width one, filters_width others)

nothing_left : (us : List ℕ) → length us ≡ 0 → us ≡ []
nothing_left [] e = refl
nothing_left (u ∷ us) e = absurd (omega (arith, e))

-- the first of the filters
pub first_filter : (us rest : List ℕ) (f : StepFilter) → AreFilters us → SpellsFilter f us rest → (filters_of us ≡ f ∷ filters_of rest) × AreFilters rest
first_filter us rest f all one =
    let fs = filters_of us in
    let left = filters_left rest hunter.All (f ∷ []) fs (sym (filter_goes [] hunter.All [] one) ∙ goes_read all) in
    let gs = left.0 in
    let others = left.1 in
    let same : fs ≡ f ∷ gs = left.3 in
    let wide : widths fs ≡ width f + widths gs = ap widths same in
    let none : others ≡ [] = nothing_left others (omega (arith, filters_width all, filter_width one, filters_width (left.2), wide)) in
    let spelled : SpellsFilters gs rest [] = subst (λ l. SpellsFilters gs rest l) none (left.2) in
    let is : filters_of rest ≡ gs = filters_are rest gs spelled in
    (same ∙ ap (λ l. f ∷ l) (sym is), subst (λ l. SpellsFilters l rest []) (sym is) spelled)

pub first_is : (us : List ℕ) (f : StepFilter) (end : ℕ) → AreFilters us → 0 < end → end ≤ length us → SpellsFilter f us (drop end us) → IsFirst us f end
first_is us f end all some inside one =
    let first = first_filter us (drop end us) f all one in
    let units = take end us in
    let whole : us ≡ units ++ drop end us = sym (take-append-drop end us) in
    let one_of : SpellsFilters (f ∷ []) (units ++ drop end us) (drop end us) = one_filter (subst (λ l. SpellsFilter f l (drop end us)) whole one) no_filter in
    record { later = some; inside = inside; filters = first.0; others = first.1; alone = filters_are units (f ∷ []) (spelled_alone (f ∷ []) units (drop end us) one_of) }
