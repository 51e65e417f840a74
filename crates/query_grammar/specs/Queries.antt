-- Which units spell which query.
use Rattle.std.specs.Prelude.{◌≡◌, ◌≢◌, ℕ, ◌≤◌, Bool, true, false, ◌||◌, not, List, [], ◌∷◌, ◌++◌, length, ◌==◌, codes}
use Rattle.std.specs.Int.{is_in_range}
use Rattle.std.specs.Str.{byte}
use Rattle.exact_refusals.specs.Plain.{IsRefusedAt}
use Rattle.query_grammar.specs.declared.query.Hunter.{Hunter}
use Rattle.query_grammar.specs.declared.query.Hunter.TheVariants as hunter
use Rattle.query_grammar.specs.declared.query.Filter.TheVariants as filter
use Rattle.query_grammar.specs.declared.query.ListFilter.TheVariants as on_list
use Rattle.query_grammar.specs.declared.query.StepFilter.{StepFilter}
use Rattle.query_grammar.specs.declared.query.StepFilter.TheVariants as kind
use Rattle.query_grammar.specs.Steps.{Step}

-- ## Words

-- `a` to `z`
abbrev pub is_lower : ℕ → Bool
is_lower u = is_in_range 97 122 u

-- `0` to `9`
abbrev pub is_digit : ℕ → Bool
is_digit u = is_in_range 48 57 u

-- a tag's further units
abbrev pub in_name : ℕ → Bool
in_name u = is_lower u || is_digit u

-- ASCII letters, digits, `_` and `-`
abbrev pub in_word : ℕ → Bool
in_word u = is_lower u || is_in_range 65 90 u || is_digit u || u == byte "_" || u == byte "-"

-- what an attribute is compared with
abbrev pub in_value : ℕ → Bool
in_value u = not (u == byte "]")

-- the first unit of a filter
abbrev pub is_mark : ℕ → Bool
is_mark u = u == byte "." || u == byte "&" || u == byte "_" || u == byte "[" || u == byte ":"

-- a unit of the class stands first
abbrev pub goes_on : (ℕ → Bool) → List ℕ → Bool
goes_on p [] = false
goes_on p (u ∷ us) = p u

-- `Run p us run rest`: the longest run of units of the class stands in us before rest
pub data Run (p : ℕ → Bool) : List ℕ → List ℕ → List ℕ → Type 0 where
  run_ends : {rest : List ℕ} → goes_on p rest ≡ false → Run p rest [] rest
  run_more : {u : ℕ} {us run rest : List ℕ} → p u ≡ true → Run p us run rest → Run p (u ∷ us) (u ∷ run) rest

-- one or more units of words
pub data Word : List ℕ → List ℕ → List ℕ → Type 0 where
  a_word : {u : ℕ} {us run rest : List ℕ} → in_word u ≡ true → Run in_word us run rest → Word (u ∷ us) (u ∷ run) rest

-- a letter, and then letters and digits
pub data Name : List ℕ → List ℕ → List ℕ → Type 0 where
  a_name : {u : ℕ} {us run rest : List ℕ} → is_lower u ≡ true → Run in_name us run rest → Name (u ∷ us) (u ∷ run) rest

-- `Spaces us rest`: spaces stand in us before rest
pub data Spaces : List ℕ → List ℕ → Type 0 where
  here : {rest : List ℕ} → Spaces rest rest
  behind : {us rest : List ℕ} → Spaces us rest → Spaces (byte " " ∷ us) rest

-- ## Steps

-- what a step finds
pub data SpellsHunter : Hunter → List ℕ → List ℕ → Type 0 where
  by_tag : {us w rest : List ℕ} → Name us w rest → SpellsHunter (hunter.Tag w) us rest
  by_id : {us w rest : List ℕ} → Word us w rest → SpellsHunter (hunter.Id w) (byte "#" ∷ us) rest
  by_child : {us vs w rest : List ℕ} → Spaces us vs → Name vs w rest → SpellsHunter (hunter.Child w) (byte ">" ∷ us) rest
  by_next : {us vs w rest : List ℕ} → Spaces us vs → Name vs w rest → SpellsHunter (hunter.Next w) (byte "+" ∷ us) rest
  by_children : {rest : List ℕ} → SpellsHunter hunter.Children (byte "/" ∷ rest) rest
  by_all : {rest : List ℕ} → SpellsHunter hunter.All (byte "*" ∷ rest) rest

-- a filter that is one word behind a colon
pub data IsKeyword : List ℕ → StepFilter → Type 0 where
  key_checked : IsKeyword (codes "checked") (kind.Node filter.Checked)
  key_unchecked : IsKeyword (codes "unchecked") (kind.Node filter.Unchecked)
  key_enabled : IsKeyword (codes "enabled") (kind.Node filter.Enabled)
  key_disabled : IsKeyword (codes "disabled") (kind.Node filter.Disabled)
  key_focus : IsKeyword (codes "focus") (kind.Node filter.Focus)
  key_first : IsKeyword (codes "first") (kind.List on_list.First)
  key_rest : IsKeyword (codes "rest") (kind.List on_list.Rest)
  key_even : IsKeyword (codes "even") (kind.List on_list.Even)
  key_odd : IsKeyword (codes "odd") (kind.List on_list.Odd)

-- which of the found nodes a step keeps
pub data SpellsFilter : StepFilter → List ℕ → List ℕ → Type 0 where
  by_class : {us w rest : List ℕ} → Word us w rest → SpellsFilter (kind.Node (filter.Class w)) (byte "." ∷ us) rest
  by_name : {us w rest : List ℕ} → Word us w rest → SpellsFilter (kind.Node (filter.Name w)) (byte "&" ∷ us) rest
  by_type : {us w rest : List ℕ} → Word us w rest → SpellsFilter (kind.Node (filter.Kind w)) (byte "_" ∷ us) rest
  by_presence : {us w rest : List ℕ} → Word us w (byte "]" ∷ rest) → SpellsFilter (kind.Node (filter.Has w)) (byte "[" ∷ us) rest
  by_value : {us vs w v rest : List ℕ} →
      Word us w (byte "=" ∷ vs) → Run in_value vs v (byte "]" ∷ rest) →
      SpellsFilter (kind.Node (filter.Equals w v)) (byte "[" ∷ us) rest
  by_keyword : {w rest : List ℕ} {f : StepFilter} → IsKeyword w f → SpellsFilter f (byte ":" ∷ (w ++ rest)) rest

-- filters one behind the other
pub data SpellsFilters : List StepFilter → List ℕ → List ℕ → Type 0 where
  no_filter : {rest : List ℕ} → SpellsFilters [] rest rest
  one_filter : {f : StepFilter} {fs : List StepFilter} {us vs rest : List ℕ} → SpellsFilter f us vs → SpellsFilters fs vs rest → SpellsFilters (f ∷ fs) us rest

-- a hunter and filters, with no spaces between them
pub data SpellsStep : Step → List ℕ → List ℕ → Type 0 where
  a_step : {h : Hunter} {fs : List StepFilter} {us vs rest : List ℕ} → SpellsHunter h us vs → SpellsFilters fs vs rest → SpellsStep (record { hunter = h; filters = fs }) us rest

-- steps, with spaces before, between and behind them
pub data SpellsSteps : List ℕ → List Step → Type 0 where
  no_step : {us : List ℕ} → Spaces us [] → SpellsSteps us []
  one_step : {q : Step} {qs : List Step} {us vs ws : List ℕ} → Spaces us vs → SpellsStep q vs ws → SpellsSteps ws qs → SpellsSteps us (q ∷ qs)

-- the units are a query: 1 to 32 steps
pub record QuerySpells (us : List ℕ) (steps : List Step) : Type 0 where
  pub spelled : SpellsSteps us steps
  pub some : steps ≢ []
  pub few : length steps ≤ 32

-- no query begins with the units up to and with this one, and those before it begin a query; or it is the length, and the units begin a query and are none
abbrev pub BadQueryPlace : List ℕ → ℕ → Type 0
BadQueryPlace us at = IsRefusedAt QuerySpells us at
