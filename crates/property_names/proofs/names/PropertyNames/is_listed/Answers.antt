use Rattle.std.proofs.Common.{◌∙◌, List, Option, ap, false, not, slice_get, sym, ℕ}
use Rattle.std.specs.Option.{option_map_or}
use Rattle.std.specs.Prelude.{codes, ◌&&◌}
use Rattle.std.specs.Str.{bytes_eq}
use Rattle.code_units.specs.Permitted.{is_permitted}
use Rattle.property_names.proofs.Digits.{listed_index}
use Rattle.property_names.proofs.Seen.{long_keys, number_known, seen_index}
use Rattle.property_names.proofs.names.PropertyNames.is_listed.Goals as goal

pub returns-in-Some : goal.returns-in-Some
returns-in-Some c =
    let keys = c.self.inside.names in
    let n = c.args.n in
    let i = c.in-Some._i in
    let k = number_known n i (sym c.ruled_at.ensures ∙ c.in-Some.is) in
    let at = sym (ap (λ l. slice_get l n) c.self.view_is) ∙ seen_index keys i n (long_keys keys c.self.invariant) k.1 k.0 in
    sym (ap (λ (o : Option (List ℕ)). option_map_or (λ name. is_permitted name && not (c.args.array && bytes_eq name (codes "length"))) o false) at ∙ listed_index c.args.array i)
