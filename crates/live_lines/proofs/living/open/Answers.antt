use Rattle.std.proofs.Common.{ap, ◌∙◌}
use Rattle.std.proofs.lemmas.Result.{err_from_is_err_and}
use Rattle.run_steps.specs.Page.{slot_names}
use Rattle.live_lines.proofs.Opening.{alive_first, names_named, names_within, no_files_opens, no_manifest_opens, no_memory_opens, page_opens}
use Rattle.live_lines.proofs.living.open.Goals as goal

pub load-requires-clause-some : goal.load-requires-clause-some
load-requires-clause-some g c = c.requires.some

pub load-requires-clause-fit : goal.load-requires-clause-fit
load-requires-clause-fit g c = let r = c.in_ok-manifest.ensures.reads in c.read_manifests_fit.ensures r.bytes c.in_ok-manifest.manifest r.reads

pub load-requires-clause-named : goal.load-requires-clause-named
load-requires-clause-named g c = names_named c.in_ok-manifest.manifest c.in_ok-names.names.items (c.in_ok-names.ensures ∙ ap slot_names c.deref.ensures.value)

pub load-requires-clause-many : goal.load-requires-clause-many
load-requires-clause-many g c = names_within c.in_ok-manifest.manifest c.in_ok-names.names.items _ (c.in_ok-names.ensures ∙ ap slot_names c.deref.ensures.value) c.in_ok-sources.ensures.many

pub load-requires-clause-small : goal.load-requires-clause-small
load-requires-clause-small g c = c.in_ok-sources.ensures.small

pub returns-in_err-manifest-clause-step : goal.returns-in_err-manifest-clause-step
returns-in_err-manifest-clause-step g c =
    let p = err_from_is_err_and c.from_residual.result c.from_residual.ensures.1 in
    rw (p.1, p.2) (no_manifest_opens g.F.Files.told g.F.Files.calm g.F.Files.faults c.args.name.now c.in_err-manifest.ensures.step)

pub returns-in_err-sources-clause-step : goal.returns-in_err-sources-clause-step
returns-in_err-sources-clause-step g c =
    let p = err_from_is_err_and c.from_residual-in_err-sources.result c.from_residual-in_err-sources.ensures.1 in
    rw (p.1, p.2) (no_files_opens g.F.Files.told g.F.Files.calm g.F.Files.faults c.args.name.now c.in_ok-manifest.manifest c.in_ok-manifest.ensures.step c.in_err-sources.ensures.step)

pub returns-in_err-names-clause-step : goal.returns-in_err-names-clause-step
returns-in_err-names-clause-step g c =
    let p = err_from_is_err_and c.from_residual-in_err-names.result c.from_residual-in_err-names.ensures.1 in
    rw (p.1, p.2) (no_memory_opens g.F.Files.told g.F.Files.calm g.F.Files.faults c.args.name.now c.in_ok-manifest.manifest c.in_ok-manifest.ensures.step c.in_ok-sources.ensures.step)

pub returns-in_err-page-clause-step : goal.returns-in_err-page-clause-step
returns-in_err-page-clause-step g c =
    let p = err_from_is_err_and c.from_residual-in_err-page.result c.from_residual-in_err-page.ensures.1 in
    rw (p.1, p.2) (no_memory_opens g.F.Files.told g.F.Files.calm g.F.Files.faults c.args.name.now c.in_ok-manifest.manifest c.in_ok-manifest.ensures.step c.in_ok-sources.ensures.step)

pub returns-clause-alive : goal.returns-clause-alive
returns-clause-alive g c = alive_first _ _ _ c.in_ok-page.page c.in_ok-page.ensures

pub returns-clause-first : goal.returns-clause-first
returns-clause-first g c = c.in_ok-page.ensures.taken

pub returns-clause-step : goal.returns-clause-step
returns-clause-step g c = page_opens g.F.Files.told g.F.Files.calm g.F.Files.faults c.args.name.now c.in_ok-manifest.manifest c.in_ok-page.page c.in_ok-manifest.ensures.step c.in_ok-sources.ensures.step c.in_ok-page.ensures
