-- Nodes that get a value.
use Rattle.std.specs.Prelude.{ℕ, ◌*◌, ◌||◌, Bool, List, codes, length}
use Rattle.std.specs.List.{count_by, fold}
use Rattle.std.specs.Str.{bytes_eq}
use Rattle.widget_meaning.specs.BunchWrites.{has_new_text, valued}
use Rattle.widget_meaning.specs.Costs.{cost, give, pay}
use Rattle.widget_meaning.specs.OwnState.{State}
use Rattle.widget_meaning.specs.Plan.{Plan}
use Rattle.widget_meaning.specs.Values.{Value}

-- whether elements of a tag take no value
abbrev pub is_closed_tag : List ℕ → Bool
is_closed_tag tag = bytes_eq tag (codes "br") || bytes_eq tag (codes "hr") || bytes_eq tag (codes "img")

-- what `value` does once its charge is taken
abbrev pub value_paid : List ℕ → List ℕ → Value → State → Plan
value_paid ns t b s =
    pay (cost (length ns * length t) 0 0 (count_by (has_new_text s t) ns)) s (λ u. give b (fold (valued t) u ns))
