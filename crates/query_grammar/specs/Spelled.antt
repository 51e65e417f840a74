-- The filters of a step as the units that spell them.
use Rattle.std.specs.Prelude.{◌≡◌, ◌⊎◌, ℕ, ◌<◌, ◌≤◌, List, [], ◌∷◌, length, take, drop}
use Rattle.exact_refusals.specs.Judge.{Outcome}
use Rattle.exact_refusals.specs.Judge.Outcome.{Read}
use Rattle.exact_refusals.specs.Plain.{outcome}
use Rattle.query_grammar.specs.declared.query.Hunter.TheVariants as hunter
use Rattle.query_grammar.specs.declared.query.Filter.{Filter}
use Rattle.query_grammar.specs.declared.query.ListFilter.{ListFilter}
use Rattle.query_grammar.specs.declared.query.StepFilter.{StepFilter}
use Rattle.query_grammar.specs.declared.query.StepFilter.TheVariants as kind
use Rattle.query_grammar.specs.Steps.{Step}
use Rattle.query_grammar.specs.Queries.{SpellsFilters}
use Rattle.query_grammar.specs.Machine.{Inside, step, done}

-- the filters of a step that was read alone
abbrev pub filters_in : Outcome (List Step) → List StepFilter
filters_in (Read (q ∷ [])) = q.filters
filters_in _ = []

-- the filters that the units spell, as the machine reads them behind a hunter
unfoldable pub filters_of : List ℕ → List StepFilter
filters_of us = filters_in (outcome step done (Inside [] hunter.All []) us)

-- the units spell filters, and nothing stands behind these
abbrev pub AreFilters : List ℕ → Type 0
AreFilters us = SpellsFilters (filters_of us) us []

-- the first of the filters that the units spell, and the place behind it
pub record IsFirst (us : List ℕ) (f : StepFilter) (end : ℕ) : Type 0 where
  pub later : 0 < end
  pub inside : end ≤ length us
  pub filters : filters_of us ≡ f ∷ filters_of (drop end us)
  pub others : AreFilters (drop end us)
  -- by itself it is spelled so too
  pub alone : filters_of (take end us) ≡ f ∷ []

-- ## Filters that stand again

-- a filter is one of these
abbrev pub IsIn : Filter → List Filter → Type 0
IsIn f [] = ⊥
IsIn f (g ∷ gs) = (f ≡ g) ⊎ IsIn f gs

-- `Thins seen fs gs`: gs are fs without the filters on nodes that are among those seen, or stood before
pub data Thins : List Filter → List StepFilter → List StepFilter → Type 0 where
  no_filters : {seen : List Filter} → Thins seen [] []
  first_time : {seen : List Filter} {f : Filter} {fs gs : List StepFilter} → Thins (f ∷ seen) fs gs → Thins seen (kind.Node f ∷ fs) (kind.Node f ∷ gs)
  again : {seen : List Filter} {f : Filter} {fs gs : List StepFilter} → IsIn f seen → Thins seen fs gs → Thins seen (kind.Node f ∷ fs) gs
  on_list : {seen : List Filter} {f : ListFilter} {fs gs : List StepFilter} → Thins seen fs gs → Thins seen (kind.List f ∷ fs) (kind.List f ∷ gs)
