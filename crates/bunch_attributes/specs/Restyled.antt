-- What a style becomes.
use Rattle.std.specs.Prelude.{ℕ, Bool, false, List, [], Option, Some, None, length, nat_eq, if◌then◌else◌}
use Rattle.std.specs.Option.{option_map_or}
use Rattle.style_text.specs.Styles.{print_style}
use Rattle.widget_meaning.specs.Styles.{style_pairs, with_property}

-- whether there is no style and an empty value, which sets none
abbrev pub sets_nothing : Option (List ℕ) → List ℕ → Bool
sets_nothing None v = nat_eq (length v) 0
sets_nothing (Some s) v = false

-- what an attribute `style`, which may be missing, becomes where a property is set
abbrev pub restyled : List ℕ → List ℕ → Option (List ℕ) → Option (List ℕ)
restyled p v style =
    if sets_nothing style v then None
    else Some (print_style (with_property (option_map_or style_pairs style []) p v))
