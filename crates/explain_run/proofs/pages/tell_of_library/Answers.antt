use Rattle.std.proofs.lemmas.Result.{err_from_is_err_and}
use Rattle.std.proofs.Common.{subst, ap, arith, length}
use Rattle.run_steps.specs.Page.{file_limit}
use Rattle.explain_run.specs.Page.{HasBytes}
use Rattle.explain_run.specs.Steps.{NoFile}
use Rattle.explain_run.specs.Text.{IsToldOfLibrary}
use Rattle.explain_run.specs.Answer.{OfLibrary}
use Rattle.explain_run.proofs.Stepping.{ended, given, no_memory_left}
use Rattle.explain_run.proofs.pages.tell_of_library.Goals as goal

pub returns-in_err-bytes : goal.returns-in_err-bytes
returns-in_err-bytes g c =
    let p = err_from_is_err_and c.from_residual.result c.from_residual.ensures.1 in
    rw (p.1, p.2) (ended g.F.Files.told g.F.Files.faults (λ m v. HasBytes m file_limit c.args.name.now v.items) (λ m t. OfLibrary m c.args.name.now t.refused t.bytes.items) (λ m. NoFile m file_limit c.args.name.now) (λ m. NoFile m file_limit c.args.name.now) c.in_err-bytes.ensures.step (λ m s is. is))

pub tell_library-requires : goal.tell_library-requires
tell_library-requires g c = omega (arith, ap length c.deref.ensures.value, c.in_ok-bytes.ensures.within)

pub returns-in_err-tell_library : goal.returns-in_err-tell_library
returns-in_err-tell_library g c =
    let p = err_from_is_err_and c.from_residual-in_err-tell_library.result c.from_residual-in_err-tell_library.ensures.1 in
    rw (p.1, p.2) (no_memory_left g.F.Files.told g.F.Files.faults (λ m v. HasBytes m file_limit c.args.name.now v.items) (λ m t. OfLibrary m c.args.name.now t.refused t.bytes.items) (λ m. NoFile m file_limit c.args.name.now) (λ m. NoFile m file_limit c.args.name.now) c.in_ok-bytes.ensures.step)

pub returns : goal.returns
returns g c =
    let t = c.in_ok-tell_library.field-0 in
    given g.F.Files.told g.F.Files.faults (λ m v. HasBytes m file_limit c.args.name.now v.items) (λ m t. OfLibrary m c.args.name.now t.refused t.bytes.items) (λ m. NoFile m file_limit c.args.name.now) (λ m. NoFile m file_limit c.args.name.now) c.in_ok-bytes.ensures.step t
    (λ m has. record { library = c.in_ok-bytes.bytes.items; has = has; told = subst (λ b. IsToldOfLibrary c.args.name.now b t.refused t.bytes.items) c.deref.ensures.value c.in_ok-tell_library.ensures })
