use Rattle.std.proofs.Common.{length, ap, ◌∙◌, arith}
use Rattle.run_steps.specs.Page.{slot_names}
use Rattle.adhost_run.proofs.Paged.{names_within}
use Rattle.adhost_run.proofs.pages.page_lines.Goals as goal

pub split_at-requires : goal.split_at-requires
split_at-requires c =
    let within = names_within c.args.manifest.now c.in_ok-names.names.items (length c.args.sources.now) (c.in_ok-names.ensures ∙ ap slot_names c.deref.ensures.value) c.requires.many in
    omega (arith, within, c.len.ensures, c.in_ok-names.names.ok.0)
