-- A machine that takes one unit of a style at a time.
use Rattle.std.specs.Prelude.{ℕ, Bool, ◌&&◌, not, List, [], ◌∷◌, ◌++◌, drop, Option, Some, None, ◌==◌, if◌then◌else◌}
use Rattle.std.specs.List.{list_any}
use Rattle.std.specs.Str.{byte}
use Rattle.code_units.specs.Words.{begins_with}
use Rattle.exact_refusals.specs.Judge.{Outcome}
use Rattle.exact_refusals.specs.Plain.{outcome}
use Rattle.style_text.specs.Styles.{Pair, is_blank, properties, is_listed, is_used, is_value}

-- Where the next unit stands. Each state has the pairs before it.
pub data State : Type 0 where
  -- before a property or the end
  Next : List Pair → State
  -- in a property, of which these units are read
  Name : List Pair → List ℕ → State
  -- behind a property and blanks
  Colon : List Pair → List ℕ → State
  -- behind the colon of this property
  Start : List Pair → List ℕ → State
  -- in a value, of which these units are read, and these spaces behind them
  Value : List Pair → List ℕ → List ℕ → List ℕ → State
  -- behind a pair and blanks
  After : List Pair → State

-- a listed property that no pair has
abbrev pub is_free : List Pair → List ℕ → Bool
is_free pairs property = is_listed property && not (is_used pairs property)

-- some property that no pair has begins with these units
unfoldable pub fits : List Pair → List ℕ → Bool
fits pairs front = list_any (λ property. begins_with property front && not (is_used pairs property)) properties

abbrev pub in_name : List Pair → List ℕ → Option State → Option State
in_name pairs front other = if fits pairs front then Some (Name pairs front) else other

abbrev pub in_value : List Pair → List ℕ → List ℕ → Option State → Option State
in_value pairs property value other = if is_value value then Some (Value pairs property value []) else other

abbrev pub after_name : List Pair → List ℕ → ℕ → Option State
after_name pairs property u =
    if is_blank u then Some (Colon pairs property)
    else if u == byte ":" then Some (Start pairs property)
    else None

abbrev pub after_pair : List Pair → ℕ → Option State
after_pair pairs u =
    if is_blank u then Some (After pairs)
    else if u == byte ";" then Some (Next pairs)
    else None

abbrev pub step : State → ℕ → Option State
step (Next pairs) u = if is_blank u then Some (Next pairs) else in_name pairs (u ∷ []) None
step (Name pairs front) u = in_name pairs (front ++ u ∷ []) (if is_free pairs front then after_name pairs front u else None)
step (Colon pairs property) u = after_name pairs property u
step (Start pairs property) u = if is_blank u then Some (Start pairs property) else in_value pairs property (u ∷ []) None
step (Value pairs property value gap) u =
    in_value pairs property (value ++ gap ++ u ∷ [])
    (if u == 32 then Some (Value pairs property value (gap ++ u ∷ [])) else after_pair (pairs ++ (property, value) ∷ []) u)
step (After pairs) u = after_pair pairs u

-- where the text may end, and its pairs then
abbrev pub done : State → Option (List Pair)
done (Next pairs) = Some pairs
done (Value pairs property value gap) = Some (pairs ++ (property, value) ∷ [])
done (After pairs) = Some pairs
done _ = None

abbrev pub begin : State
begin = Next []

-- what comes of the units from a place on
abbrev pub goes : List ℕ → State → ℕ → Outcome (List Pair)
goes us st at = outcome step done st (drop at us)
