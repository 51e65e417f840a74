-- A filter that stands again.
use Rattle.std.proofs.Common.{◌≡◌, ℕ, ◌+◌, ◌-◌, ◌≤◌, List, [], ◌∷◌, ◌++◌, Bool, false, refl, ap, sym, ◌∙◌, subst, append_assoc, length, drop, arith}
use Rattle.std.specs.Prelude.{slice_range}
use Rattle.std.specs.Str.{byte}
use Rattle.std.proofs.lemmas.List.{append_cancel_right}
use Rattle.query_grammar.specs.declared.query.StepFilter.{StepFilter}
use Rattle.query_grammar.specs.Queries.{goes_on, in_word, Run, run_ends, run_more, Word, a_word, SpellsFilter, by_class, by_name, by_type, by_presence, by_value, by_keyword}
use Rattle.query_text.specs.Again.{StandsAgain, AreAlike, none_alike, one_alike, StandAlike}
use Rattle.query_text.proofs.Cuts.{range_behind}

run_text : {p : ℕ → Bool} {us run rest : List ℕ} → Run p us run rest → us ≡ run ++ rest
run_text (run_ends h) = refl
run_text (run_more {u = u} h more) = ap (λ l. u ∷ l) (run_text more)

run_again : {p : ℕ → Bool} {us run rest : List ℕ} → Run p us run rest → (other : List ℕ) → goes_on p other ≡ false → Run p (run ++ other) run other
run_again (run_ends h) other e = run_ends e
run_again (run_more h more) other e = run_more h (run_again more other e)

word_text : {us w rest : List ℕ} → Word us w rest → us ≡ w ++ rest
word_text (a_word {u = u} h run) = ap (λ l. u ∷ l) (run_text run)

word_again : {us w rest : List ℕ} → Word us w rest → (other : List ℕ) → goes_on in_word other ≡ false → Word (w ++ other) w other
word_again (a_word h run) other e = a_word h (run_again run other e)

-- a name and a bracket
named : (w rest : List ℕ) → (w ++ byte "]" ∷ []) ++ rest ≡ w ++ byte "]" ∷ rest
named w rest = append_assoc w (byte "]" ∷ []) rest

-- a name, a value and a bracket
valued : (w v rest : List ℕ) → (w ++ byte "=" ∷ (v ++ byte "]" ∷ [])) ++ rest ≡ w ++ byte "=" ∷ (v ++ byte "]" ∷ rest)
valued w v rest = append_assoc w (byte "=" ∷ (v ++ byte "]" ∷ [])) rest ∙ ap (λ l. w ++ byte "=" ∷ l) (named v rest)

-- the units of a filter, which spell it in front of others too
record Units (f : StepFilter) (us rest other : List ℕ) : Type 0 where
  units : List ℕ
  split : us ≡ units ++ rest
  spells : SpellsFilter f (units ++ other) other

abbrev units_of : {f : StepFilter} {us rest : List ℕ} → SpellsFilter f us rest → (other : List ℕ) → goes_on in_word other ≡ false → Units f us rest other
units_of (by_class {w = w} word) other ends = record { units = byte "." ∷ w; split = ap (λ l. byte "." ∷ l) (word_text word); spells = by_class (word_again word other ends) }
units_of (by_name {w = w} word) other ends = record { units = byte "&" ∷ w; split = ap (λ l. byte "&" ∷ l) (word_text word); spells = by_name (word_again word other ends) }
units_of (by_type {w = w} word) other ends = record { units = byte "_" ∷ w; split = ap (λ l. byte "_" ∷ l) (word_text word); spells = by_type (word_again word other ends) }
units_of (by_presence {w = w} {rest = rest} word) other ends =
    record {
      units = byte "[" ∷ (w ++ byte "]" ∷ []);
      split = ap (λ l. byte "[" ∷ l) (word_text word ∙ sym (named w rest));
      spells = by_presence (subst (λ l. Word l w (byte "]" ∷ other)) (sym (named w other)) (word_again word (byte "]" ∷ other) refl));
    }
units_of (by_value {w = w} {v = v} {rest = rest} word value) other ends =
    record {
      units = byte "[" ∷ (w ++ byte "=" ∷ (v ++ byte "]" ∷ []));
      split = ap (λ l. byte "[" ∷ l) (word_text word ∙ ap (λ l. w ++ byte "=" ∷ l) (run_text value) ∙ sym (valued w v rest));
      spells = by_value
          (subst (λ l. Word l w (byte "=" ∷ (v ++ byte "]" ∷ other))) (sym (valued w v other)) (word_again word (byte "=" ∷ (v ++ byte "]" ∷ other)) refl))
          (run_again value (byte "]" ∷ other) refl);
    }
units_of (by_keyword {w = w} key) other ends = record { units = byte ":" ∷ w; split = refl; spells = by_keyword key }

module _ (us : List ℕ) where
  pub spelled_again : (f : StepFilter) (from to at : ℕ) → from ≤ to → to ≤ length us → SpellsFilter f (drop from us) (drop to us) → StandsAgain us from to at → SpellsFilter f (drop at us) (drop (at + (to - from)) us)
  spelled_again f from to at order inside h again =
      let end = at + (to - from) in
      let other = drop end us in
      let one = units_of h other again.ends in
      let is : slice_range us from to ≡ one.units = append_cancel_right (slice_range us from to) one.units (drop to us) (sym (range_behind us from to order inside) ∙ one.split) in
      let whole : drop at us ≡ one.units ++ other = range_behind us at end (omega arith) again.inside ∙ ap (λ l. l ++ other) (again.same ∙ is) in
      subst (λ l. SpellsFilter f l other) (sym whole) one.spells

  -- as many filters as are found
  pub record AlikeSoFar (from to end : ℕ) : Type 0 where
    pub order : to ≤ end
    pub inside : end ≤ length us
    pub alike : (f : StepFilter) → SpellsFilter f (drop from us) (drop to us) → AreAlike f (drop to us) (drop end us)

  pub alike_begins : (from to : ℕ) → to ≤ length us → AlikeSoFar from to to
  alike_begins from to inside = record { order = omega arith; inside = inside; alike = λ f h. none_alike }

  pub alike_further : (from to at end : ℕ) → from ≤ to → to ≤ length us → AlikeSoFar from to at → StandsAgain us from to at → end ≡ at + (to - from) → AlikeSoFar from to end
  alike_further from to at end order inside so_far again e =
      subst (AlikeSoFar from to) (sym e) (record {
        order = omega (arith, so_far.order);
        inside = again.inside;
        alike = λ f h. one_alike (so_far.alike f h) (spelled_again f from to at order inside h again);
      })

  pub alike_done : (from to end : ℕ) → AlikeSoFar from to end → (f : StepFilter) → SpellsFilter f (drop from us) (drop to us) → StandAlike us f to end
  alike_done from to end so_far f h = record { order = so_far.order; inside = so_far.inside; alike = so_far.alike f h }
