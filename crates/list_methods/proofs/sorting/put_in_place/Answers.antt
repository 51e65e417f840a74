use Rattle.std.proofs.Common.{rules}
use Rattle.std.proofs.lemmas.Fn.{always_returns_same}
use Rattle.list_methods.specs.Sorting.{comes_before}
use Rattle.list_methods.proofs.Sorts.{key_order}
use Rattle.list_methods.proofs.sorting.put_in_place.Goals as goal

pub returns-in_err-sort_by-clause-stable : goal.returns-in_err-sort_by-clause-stable
returns-in_err-sort_by-clause-stable c = c.sort_by.ensures.stable comes_before key_order (always_returns_same _ _ _ (λ a r f k. search rules))

pub returns-clause-stable : goal.returns-clause-stable
returns-clause-stable c = c.sort_by.ensures.stable comes_before key_order (always_returns_same _ _ _ (λ a r f k. search rules))

pub returns-clause-sorted : goal.returns-clause-sorted
returns-clause-sorted c = c.in_ok-sort_by.ensures.sorted comes_before key_order (always_returns_same _ _ _ (λ a r f k. search rules))
