-- A machine that takes one unit of a query at a time.
use Rattle.std.specs.Prelude.{ℕ, Bool, true, false, ◌&&◌, List, [], ◌∷◌, ◌++◌, length, drop, nat_lt, Option, Some, None, ◌==◌, codes, if◌then◌else◌}
use Rattle.std.specs.List.{list_any}
use Rattle.std.specs.Str.{byte, bytes_eq}
use Rattle.exact_refusals.specs.Judge.{Outcome}
use Rattle.exact_refusals.specs.Plain.{outcome}
use Rattle.code_units.specs.Words.{begins_with}
use Rattle.query_grammar.specs.declared.query.Hunter.{Hunter}
use Rattle.query_grammar.specs.declared.query.Hunter.TheVariants as hunter
use Rattle.query_grammar.specs.declared.query.Filter.TheVariants as filter
use Rattle.query_grammar.specs.declared.query.ListFilter.TheVariants as on_list
use Rattle.query_grammar.specs.declared.query.StepFilter.{StepFilter}
use Rattle.query_grammar.specs.declared.query.StepFilter.TheVariants as kind
use Rattle.query_grammar.specs.Steps.{Step}
use Rattle.query_grammar.specs.Queries.{is_lower, in_name, in_word, in_value}

-- what a word is for
pub data Role : Type 0 where
  ForTag : Role
  ForId : Role
  ForChild : Role
  ForNext : Role

-- what the word of a filter is for
pub data FilterRole : Type 0 where
  ForClass : FilterRole
  ForName : FilterRole
  ForKind : FilterRole

-- a step that may still get filters
abbrev pub with : List Step → Hunter → List StepFilter → List Step
with qs h fs = qs ++ (record { hunter = h; filters = fs }) ∷ []

-- Where the next unit stands. Each state has the steps before it.
pub data State : Type 0 where
  -- before a step or the end
  Between : List Step → State
  -- in a hunter, before its word, and in it
  Hunt : Role → List Step → State
  HuntWord : Role → List Step → List ℕ → State
  -- behind a hunter, of a step with these filters
  Inside : List Step → Hunter → List StepFilter → State
  -- in a filter, before its word, and in it
  Sift : FilterRole → List Step → Hunter → List StepFilter → State
  SiftWord : FilterRole → List Step → Hunter → List StepFilter → List ℕ → State
  -- behind `[`, in the attribute's name, and in its value
  Attribute : List Step → Hunter → List StepFilter → State
  AttributeWord : List Step → Hunter → List StepFilter → List ℕ → State
  AttributeValue : List Step → Hunter → List StepFilter → List ℕ → List ℕ → State
  -- behind a colon, with the units of a keyword
  Keyword : List Step → Hunter → List StepFilter → List ℕ → State

-- the hunter with a word
abbrev pub found : Role → List ℕ → Hunter
found ForTag w = hunter.Tag w
found ForId w = hunter.Id w
found ForChild w = hunter.Child w
found ForNext w = hunter.Next w

-- the filter with a word
abbrev pub sifted : FilterRole → List ℕ → StepFilter
sifted ForClass w = kind.Node (filter.Class w)
sifted ForName w = kind.Node (filter.Name w)
sifted ForKind w = kind.Node (filter.Kind w)

-- the first unit of a word for this, and the further ones
abbrev pub begins_word : Role → ℕ → Bool
begins_word ForId u = in_word u
begins_word _ u = is_lower u

-- whether a unit goes on in a word
abbrev pub goes_in : Role → ℕ → Bool
goes_in ForId u = in_word u
goes_in _ u = in_name u

-- whether spaces may stand before the word
abbrev pub may_wait : Role → Bool
may_wait ForChild = true
may_wait ForNext = true
may_wait _ = false

-- the keywords
unfoldable pub keywords : List (List ℕ × StepFilter)
keywords =
    (codes "checked", kind.Node filter.Checked) ∷ (codes "unchecked", kind.Node filter.Unchecked)
    ∷ (codes "enabled", kind.Node filter.Enabled) ∷ (codes "disabled", kind.Node filter.Disabled) ∷ (codes "focus", kind.Node filter.Focus)
    ∷ (codes "first", kind.List on_list.First) ∷ (codes "rest", kind.List on_list.Rest) ∷ (codes "even", kind.List on_list.Even) ∷ (codes "odd", kind.List on_list.Odd) ∷ []

-- the filter of a keyword
abbrev pub look_up : List (List ℕ × StepFilter) → List ℕ → Option StepFilter
look_up [] w = None
look_up (row ∷ rows) w = if bytes_eq w row.0 then Some row.1 else look_up rows w

-- the filter of a word, if it is a keyword
unfoldable pub keyword_of : List ℕ → Option StepFilter
keyword_of w = look_up keywords w

-- some keyword begins with the units
unfoldable pub fits : List ℕ → Bool
fits front = list_any (λ row. begins_with row.0 front) keywords

-- the first unit of a step
abbrev pub hunts : List Step → ℕ → Option State
hunts qs u =
    if nat_lt (length qs) 32 then
    (if is_lower u then Some (HuntWord ForTag qs (u ∷ []))
    else if u == byte "#" then Some (Hunt ForId qs)
    else if u == byte ">" then Some (Hunt ForChild qs)
    else if u == byte "+" then Some (Hunt ForNext qs)
    else if u == byte "/" then Some (Inside qs hunter.Children [])
    else if u == byte "*" then Some (Inside qs hunter.All [])
    else None)
    else None

-- a unit between two steps
abbrev pub between : List Step → ℕ → Option State
between qs u = if u == byte " " then Some (Between qs) else hunts qs u

-- a unit behind a hunter and filters
abbrev pub inside : List Step → Hunter → List StepFilter → ℕ → Option State
inside qs h fs u =
    if u == byte "." then Some (Sift ForClass qs h fs)
    else if u == byte "&" then Some (Sift ForName qs h fs)
    else if u == byte "_" then Some (Sift ForKind qs h fs)
    else if u == byte "[" then Some (Attribute qs h fs)
    else if u == byte ":" then Some (Keyword qs h fs [])
    else between (with qs h fs) u

-- behind the units of a keyword, with its filter if it is whole
abbrev pub keyword_or : List Step → Hunter → List StepFilter → List ℕ → Option StepFilter → Option State
keyword_or qs h fs front (Some f) = Some (Inside qs h (fs ++ f ∷ []))
keyword_or qs h fs front None = if fits front then Some (Keyword qs h fs front) else None

-- the next state, if the unit is taken
abbrev pub step : State → ℕ → Option State
step (Between qs) u = between qs u
step (Hunt role qs) u =
    if may_wait role && u == byte " " then Some (Hunt role qs)
    else if begins_word role u then Some (HuntWord role qs (u ∷ []))
    else None
step (HuntWord role qs w) u = if goes_in role u then Some (HuntWord role qs (w ++ u ∷ [])) else inside qs (found role w) [] u
step (Inside qs h fs) u = inside qs h fs u
step (Sift role qs h fs) u = if in_word u then Some (SiftWord role qs h fs (u ∷ [])) else None
step (SiftWord role qs h fs w) u = if in_word u then Some (SiftWord role qs h fs (w ++ u ∷ [])) else inside qs h (fs ++ sifted role w ∷ []) u
step (Attribute qs h fs) u = if in_word u then Some (AttributeWord qs h fs (u ∷ [])) else None
step (AttributeWord qs h fs w) u =
    if in_word u then Some (AttributeWord qs h fs (w ++ u ∷ []))
    else if u == byte "]" then Some (Inside qs h (fs ++ kind.Node (filter.Has w) ∷ []))
    else if u == byte "=" then Some (AttributeValue qs h fs w [])
    else None
step (AttributeValue qs h fs w v) u =
    if in_value u then Some (AttributeValue qs h fs w (v ++ u ∷ [])) else Some (Inside qs h (fs ++ kind.Node (filter.Equals w v) ∷ []))
step (Keyword qs h fs front) u = keyword_or qs h fs (front ++ u ∷ []) (keyword_of (front ++ u ∷ []))

-- where the text may end, and its steps then
-- steps, if there are some
abbrev pub some_steps : List Step → Option (List Step)
some_steps [] = None
some_steps (q ∷ qs) = Some (q ∷ qs)

-- the steps where the text may end
abbrev pub done : State → Option (List Step)
done (Between qs) = some_steps qs
done (HuntWord role qs w) = Some (with qs (found role w) [])
done (Inside qs h fs) = Some (with qs h fs)
done (SiftWord role qs h fs w) = Some (with qs h (fs ++ sifted role w ∷ []))
done _ = None

-- before the text
abbrev pub begin : State
begin = Between []

-- what comes of the units from a place on
abbrev pub goes : List ℕ → State → ℕ → Outcome (List Step)
goes us st at = outcome step done st (drop at us)

-- what comes of a whole text
abbrev pub judged : List ℕ → Outcome (List Step)
judged us = outcome step done begin us
