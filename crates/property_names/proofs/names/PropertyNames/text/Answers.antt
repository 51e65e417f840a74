use Rattle.std.proofs.Common.{◌∙◌, Some, ap, slice_get, sym}
use Rattle.property_names.proofs.Seen.{long_keys, number_known, seen_index}
use Rattle.property_names.proofs.names.PropertyNames.text.Goals as goal

pub returns-in_ok-index_text-in-Some : goal.returns-in_ok-index_text-in-Some
returns-in_ok-index_text-in-Some c =
    let keys = c.self.inside.names in
    let k = number_known c.args.n c.in-Some.i (sym c.ruled_at.ensures ∙ c.in-Some.is) in
    ap Some c.in_ok-index_text-in-Some.ensures ∙ sym (seen_index keys c.in-Some.i c.args.n (long_keys keys c.self.invariant) k.1 k.0) ∙ ap (λ l. slice_get l c.args.n) c.self.view_is
