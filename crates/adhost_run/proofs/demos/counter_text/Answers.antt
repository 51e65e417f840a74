use Rattle.std.proofs.Common.{◌++◌, ap, ◌∙◌}
use Rattle.std.specs.List.{flat_map}
use Rattle.adhost_run.specs.Demo.{counter_pieces}
use Rattle.adhost_run.proofs.demos.counter_text.Goals as goal

pub returns : goal.returns
returns c =
    let pieces = flat_map (λ p. p ++ c.args.name.now) counter_pieces in
    c.in_ok-extend_from_slice.ensures.items
    ∙ ap (λ xs. xs ++ c.as_bytes.result.now) (c.in_ok-push_pieces.ensures ∙ ap (λ xs. xs ++ pieces) c.new-text.ensures.items)
    ∙ ap (λ xs. pieces ++ xs) c.as_bytes.ensures.value
