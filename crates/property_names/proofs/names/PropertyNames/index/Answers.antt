use Rattle.std.proofs.Common.{◌∙◌, ap, slice_get, sym}
use Rattle.std.specs.Option.{option_and_then}
use Rattle.code_units.specs.Indices.{index_of}
use Rattle.property_names.proofs.Seen.{index_at, long_keys}
use Rattle.property_names.proofs.names.PropertyNames.index.Goals as goal

pub returns-in-Some : goal.returns-in-Some
returns-in-Some c =
    let keys = c.self.inside.names in
    sym (index_at keys c.args.n c.in-Some.i (long_keys keys c.self.invariant) (sym c.ruled_at.ensures ∙ c.in-Some.is)) ∙ ap (λ l. option_and_then index_of (slice_get l c.args.n)) c.self.view_is
