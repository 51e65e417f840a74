use Rattle.std.proofs.Common.{map, subst}
use Rattle.std.proofs.lemmas.Result.{err_from_is_err_and}
use Rattle.serde_json.specs.View.{view}
use Rattle.manifest_shape.specs.Manifest.{IsPageFault}
use Rattle.manifest_shape.proofs.ManifestLemmas.{pass_page_fault}
use Rattle.manifest_shape.proofs.manifest.shape_of.Goals as goal

pub returns-in_err-page-clause-err : goal.returns-in_err-page-clause-err
returns-in_err-page-clause-err c =
    let p = err_from_is_err_and c.from_residual.result c.from_residual.ensures.1 in
    rw (p.1, p.2) (pass_page_fault (view c.args.value.now) (map view c.in-Some.entries.now) c.in_err-page.field-0.0 c.in-Some.ensures (subst (λ version. IsPageFault version (map view c.in-Some.entries.now) c.in_err-page.field-0.0) c.judged_version.ensures c.in_err-page.ensures.err))
