-- Filters that stand again.
use Rattle.std.specs.Prelude.{◌≡◌, ℕ, ◌+◌, ◌-◌, ◌≤◌, false, List, length, drop, slice_range}
use Rattle.query_grammar.specs.declared.query.StepFilter.{StepFilter}
use Rattle.query_grammar.specs.Queries.{goes_on, in_word, SpellsFilter}

-- the units between two places stand again at `at`, and no word goes on behind them
pub record StandsAgain (us : List ℕ) (from to at : ℕ) : Type 0 where
  pub inside : at + (to - from) ≤ length us
  pub same : slice_range us at (at + (to - from)) ≡ slice_range us from to
  pub ends : goes_on in_word (drop (at + (to - from)) us) ≡ false

-- `AreAlike f us rest`: the filter stands in us before rest, once or more often or not at all
pub data AreAlike (f : StepFilter) : List ℕ → List ℕ → Type 0 where
  none_alike : {us : List ℕ} → AreAlike f us us
  one_alike : {us vs rest : List ℕ} → AreAlike f us vs → SpellsFilter f vs rest → AreAlike f us rest

-- the same between two places
pub record StandAlike (us : List ℕ) (f : StepFilter) (at end : ℕ) : Type 0 where
  pub order : at ≤ end
  pub inside : end ≤ length us
  pub alike : AreAlike f (drop at us) (drop end us)
