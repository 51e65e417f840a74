use Rattle.std.proofs.Common.{◌<◌, length, refl, sym}
use Rattle.std.proofs.lemmas.Bool.{ltb-true}
use Rattle.std.proofs.lemmas.Option.{slice_get_read}
use Rattle.std.proofs.lemmas.Result.{IfOk-weaker}
use Rattle.page_load.proofs.Growing.{library_found}
use Rattle.page_load.proofs.codes.library_at.Goals as goal

pub returns-in-Some : goal.returns-in-Some
returns-in-Some c =
    let libs = c.args.libs.now in
    let a = c.in-Some.code.now in
    let lt : c.args.place < length libs = ltb-true c.args.place (length libs) (sym c.in-Some.ensures.lookup.0) in
    let at = slice_get_read libs (length libs) c.args.place a refl lt c.in-Some.ensures.lookup.1 in
    IfOk-weaker c.share.result _ _ (λ code e. library_found libs c.args.place a code at e) c.share.ensures.same
