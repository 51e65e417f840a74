use Rattle.std.proofs.Common.{◌∙◌, ap, slice_get}
use Rattle.property_names.proofs.Seen.{long_keys, seen_at}
use Rattle.property_names.proofs.names.PropertyNames.interned_at.Goals as goal

pub returns : goal.returns
returns c =
    let keys = c.self.inside.names in
    c.text.ensures ∙ ap (slice_get keys) c.place_of.ensures ∙ seen_at keys c.args.n (long_keys keys c.self.invariant) c.requires ∙ ap (λ l. slice_get l c.args.n) c.self.view_is
