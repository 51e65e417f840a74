use Rattle.std.proofs.Common.{arith, refl}
use Rattle.js_names.specs.Code.{trees_of}
use Rattle.native_image.specs.declared.handed.Shared.{Shared}
use Rattle.page_load.proofs.Begun.{begun_is, keeps_begun, raws_kept, unused_behind}
use Rattle.page_load.proofs.lives.begin_place.Goals as goal

pub make_lib-requires-clause-nothing : goal.make_lib-requires-clause-nothing
make_lib-requires-clause-nothing c = c.requires.unused.nothing c.args.w (omega arith) c.requires.widget

pub returns-clause-begun : goal.returns-clause-begun
returns-clause-begun c =
    let h : Shared = c.args.shared.now in
    let k : Shared = record h { store = c.make_lib.new.store } in
    let a = c.in_ok-place.place in
    let kept = c.in_ok-lib.ensures.kept in
    begun_is k c.args.w c.args.fuel c.args.scripts a c.in_ok-place.ensures.ready c.in_ok-lib.lib a.life.slot a.root c.requires.tree c.in_ok-lib.ensures.one
    ((unused_behind c.args.w h k.store kept c.requires.unused c.requires.raws).confined (trees_of a.codes.items) c.args.w)
    (raws_kept c.args.w h k.store kept c.requires.unused c.requires.raws)
    c.in_ok-lib.ensures.lib (omega (arith, c.if-fuel-gt-MOST_FUEL.false))

pub returns-clause-others : goal.returns-clause-others
returns-clause-others c =
    let h : Shared = c.args.shared.now in
    keeps_begun c.args.w h (record h { store = c.make_lib.new.store }) refl refl c.in_ok-lib.ensures.kept c.requires.unused c.requires.raws
