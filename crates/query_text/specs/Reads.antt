-- What the parts of the reader do.
use Rattle.std.specs.Prelude.{◌≡◌, ℕ, ◌<◌, ◌≤◌, Bool, true, false, List, ◌∷◌, length, drop, slice_range, nat_lt, ◌==◌}
use Rattle.exact_refusals.specs.Judge.Outcome.{Refused}
use Rattle.query_text.specs.declared.QueryFault.{QueryFault}
use Rattle.query_text.specs.declared.QueryFault.TheVariants as fault
use Rattle.query_grammar.specs.declared.query.Hunter.{Hunter}
use Rattle.query_grammar.specs.declared.query.StepFilter.{StepFilter}
use Rattle.query_grammar.specs.Steps.{Step}
use Rattle.query_grammar.specs.Queries.{goes_on, is_mark, Run, Word, Name, SpellsHunter, SpellsFilter, SpellsFilters}
use Rattle.query_grammar.specs.Machine.{State, goes}

-- the unit stands first
abbrev pub is_first : ℕ → List ℕ → Bool
is_first unit us = goes_on (λ u. u == unit) us

-- the longest run of units of the class stands from `at` to `end`
pub record IsRunAt (us : List ℕ) (p : ℕ → Bool) (at end : ℕ) : Type 0 where
  pub order : at ≤ end
  pub inside : end ≤ length us
  pub reads : Run p (drop at us) (slice_range us at end) (drop end us)

-- a word, a name, a hunter, a filter, filters stand from `at` to `end`
pub record IsWordAt (us : List ℕ) (at : ℕ) (w : List ℕ) (end : ℕ) : Type 0 where
  pub later : at < end
  pub inside : end ≤ length us
  pub reads : Word (drop at us) w (drop end us)

pub record IsNameAt (us : List ℕ) (at : ℕ) (w : List ℕ) (end : ℕ) : Type 0 where
  pub later : at < end
  pub inside : end ≤ length us
  pub reads : Name (drop at us) w (drop end us)

pub record IsHunterAt (us : List ℕ) (at : ℕ) (h : Hunter) (end : ℕ) : Type 0 where
  pub later : at < end
  pub inside : end ≤ length us
  pub spelled : SpellsHunter h (drop at us) (drop end us)

-- behind its first unit, which is given
pub record IsFilterBehind (us : List ℕ) (mark at : ℕ) (f : StepFilter) (end : ℕ) : Type 0 where
  pub later : at < end
  pub inside : end ≤ length us
  pub spelled : SpellsFilter f (mark ∷ drop at us) (drop end us)

pub record IsFilterAt (us : List ℕ) (at : ℕ) (f : StepFilter) (end : ℕ) : Type 0 where
  pub later : at < end
  pub inside : end ≤ length us
  pub spelled : SpellsFilter f (drop at us) (drop end us)

pub record AreFiltersAt (us : List ℕ) (at : ℕ) (fs : List StepFilter) (end : ℕ) : Type 0 where
  pub order : at ≤ end
  pub inside : end ≤ length us
  pub spelled : SpellsFilters fs (drop at us) (drop end us)
  pub all : goes_on is_mark (drop end us) ≡ false

-- some filters stand from `at` to `end`
abbrev pub StandFilters : List ℕ → ℕ → ℕ → Type 0
StandFilters us at end = (fs : List StepFilter) × AreFiltersAt us at fs end

-- no unit of the class stands there
abbrev pub HasNone : List ℕ → (ℕ → Bool) → ℕ → QueryFault → Type 0
HasNone us p at (fault.BadQuery place) = (place ≡ at) × (goes_on p (drop at us) ≡ false)
HasNone us p at fault.Memory = Unit {0}

-- the machine, from a state at `at`, refuses what stands at the place of the fault
abbrev pub Refuses : List ℕ → State → ℕ → QueryFault → Type 0
Refuses us st at (fault.BadQuery place) = (place ≤ length us) × (goes us st at ≡ Refused (length (drop place us)))
Refuses us st at fault.Memory = Unit {0}

-- there may be one more step
abbrev pub HasRoom : List Step → Type 0
HasRoom qs = nat_lt (length qs) 32 ≡ true
