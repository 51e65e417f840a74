-- What filters keep was there, and nothing is found from nothing.
use Rattle.std.proofs.Common.{◌≡◌, ℕ, List, [], ◌∷◌, true, refl, ap, ◌∙◌, Option}
use Rattle.query_grammar.specs.declared.query.ListFilter.{ListFilter}
use Rattle.query_grammar.specs.declared.query.ListFilter.TheVariants as on_list
use Rattle.query_grammar.specs.declared.query.StepFilter.{StepFilter}
use Rattle.query_grammar.specs.declared.query.StepFilter.TheVariants as kind
use Rattle.query_grammar.specs.Steps.{Step}
use Rattle.query_grammar.specs.Filters.{Look}
use Rattle.query_grammar.specs.Finds.{Sight, has_number, passes, sifted, filtered, all_filtered, finds}
use Rattle.query_grammar.proofs.Numbers.{kept_is, taken_is, left_is, placed_is, none_pass}

sifted_is : (f : ListFilter) (ns : List ℕ) (x : ℕ) → has_number (sifted f ns) x ≡ true → has_number ns x ≡ true
sifted_is on_list.First ns x h = taken_is 1 ns x h
sifted_is on_list.Rest ns x h = left_is 1 ns x h
sifted_is on_list.Even ns x h = placed_is 0 0 ns x h
sifted_is on_list.Odd ns x h = placed_is 1 0 ns x h

pub filtered_is : (look : ℕ → Look) (focus : Option ℕ) (f : StepFilter) (ns : List ℕ) (x : ℕ) → has_number (filtered look focus f ns) x ≡ true → has_number ns x ≡ true
filtered_is look focus (kind.Node f) ns x h = kept_is (passes look focus f) ns x h
filtered_is look focus (kind.List f) ns x h = sifted_is f ns x h

pub all_filtered_is : (look : ℕ → Look) (focus : Option ℕ) (fs : List StepFilter) (ns : List ℕ) (x : ℕ) → has_number (all_filtered look focus fs ns) x ≡ true → has_number ns x ≡ true
all_filtered_is look focus [] ns x h = h
all_filtered_is look focus (f ∷ fs) ns x h = filtered_is look focus f ns x (all_filtered_is look focus fs (filtered look focus f ns) x h)

none_filtered : (look : ℕ → Look) (focus : Option ℕ) (fs : List StepFilter) → all_filtered look focus fs [] ≡ []
none_filtered look focus [] = refl
none_filtered look focus (kind.Node f ∷ fs) = none_filtered look focus fs
none_filtered look focus (kind.List on_list.First ∷ fs) = none_filtered look focus fs
none_filtered look focus (kind.List on_list.Rest ∷ fs) = none_filtered look focus fs
none_filtered look focus (kind.List on_list.Even ∷ fs) = none_filtered look focus fs
none_filtered look focus (kind.List on_list.Odd ∷ fs) = none_filtered look focus fs

pub finds_none : (s : Sight) (q : List Step) → finds s [] q ≡ []
finds_none s [] = refl
finds_none s (u ∷ q) =
    ap (λ l. finds s (all_filtered s.links.look s.focus u.filters l) q) (none_pass (has_number []) s.document (λ x h. refl))
    ∙ ap (λ l. finds s l q) (none_filtered s.links.look s.focus u.filters)
    ∙ finds_none s q
