-- What was judged weighs the same.
use Rattle.std.proofs.Common.{◌≡◌, ◌&&◌, refl, ap, ◌∙◌, length, List, ℕ}
use Rattle.code_units.specs.Permitted.{is_permitted}
use Rattle.code_units.specs.Utf8.{units_of, utf8_of}
use Rattle.serde_json.specs.Data as json
use Rattle.widget_meaning.specs.Values as meaning
use Rattle.widget_meaning.specs.OwnState.{State}
use Rattle.widget_meaning.specs.Costs.{or_throw, throw}
use Rattle.widget_meaning.specs.JsonValues.{from_json}
use Rattle.json_judge.specs.Names.{has_names, items_have_names, members_have_names}
use Rattle.json_judge.specs.Verdicts.{IsRefused}
use Rattle.json_text.specs.Reading.{read_plan}
use Rattle.json_text.specs.Weights.{items_weight, members_weight, weight}
use Rattle.json_text.proofs.Given.{bad_names}

-- its names are judged alike
mutual
  pub names : (d : json.Data) → (weight d).named ≡ has_names d
  names json.null = refl
  names (json.boolean b) = refl
  names (json.number x) = refl
  names (json.string bs) = refl
  names (json.array ds) = items_names ds
  names (json.object ms) = members_names ms

  items_names : (ds : json.Items) → (items_weight ds).named ≡ items_have_names ds
  items_names json.no_items = refl
  items_names (json.item d ds) = λ j. names d j && items_names ds j

  members_names : (ms : json.Members) → (members_weight ms).named ≡ members_have_names ms
  members_names json.no_members = refl
  members_names (json.member k d ms) = λ j. (is_permitted (units_of k) && names d j) && members_names ms j

-- a text that was refused throws
pub refused_throws : (t : List ℕ) → IsRefused (utf8_of t) → (s : State) → from_json (meaning.Text t) s ≡ throw meaning.E8 s
refused_throws t h s =
    ap (λ o. or_throw meaning.E4 o s (λ x. read_plan (length t) x s)) h.read ∙ bad_names h.value s (length t) (names h.value ∙ h.names)
