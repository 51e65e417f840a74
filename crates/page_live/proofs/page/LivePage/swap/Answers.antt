use Rattle.std.proofs.Common.{[], length, All, refl, sym, ap, subst, arith, ◌∙◌}
use Rattle.std.proofs.lemmas.List.Elements.{All-drop}
use Rattle.slot_check.specs.Verdicts.{source_of, IsSmall}
use Rattle.page_check.specs.Judged.{JudgesOn, JudgesOver}
use Rattle.page_play.proofs.Telling.{read_at}
use Rattle.page_live.proofs.Taken.{took_swap, run_there, run_named, swap_fits, swap_judged, few_ends, chains_many, libs_are, some_text}
use Rattle.page_live.proofs.page.LivePage.swap.Goals as goal

pub split_at-requires : goal.split_at-requires
split_at-requires c = omega (arith, c.requires.alive.is.enough, c.len.ensures, ap length c.deref.ensures.value)

pub judge-requires-clause-small_libs : goal.judge-requires-clause-small_libs
judge-requires-clause-small_libs c =
    subst (All IsSmall) (sym c.split_at.ensures.back) (All-drop IsSmall c.len.result c.deref.result.now (subst (All IsSmall) (sym c.deref.ensures.value) c.requires.alive.is.small))

pub judge-requires-clause-over : goal.judge-requires-clause-over
judge-requires-clause-over c =
    let l = c.requires.alive.is in
    let libs = libs_are c.args.self.now.findings.names.items c.args.self.now.sources.items c.deref.result.now c.split_at.result.1.now c.len.result (omega (arith, c.len.ensures, c.args.self.now.findings.names.ok.0)) c.deref.ensures.value c.split_at.ensures.back in
    (l.spec.libs.items, subst (λ ls. JudgesOver ls l.spec.libs.items c.args.self.now.later) (sym libs) l.over)

pub give_swap-requires-clause-some : goal.give_swap-requires-clause-some
give_swap-requires-clause-some c = c.requires.alive.is.some

pub give_swap-requires-clause-housed : goal.give_swap-requires-clause-housed
give_swap-requires-clause-housed c = c.requires.alive.is.live.housed

pub give_swap-requires-clause-unmarked : goal.give_swap-requires-clause-unmarked
give_swap-requires-clause-unmarked c = c.requires.alive.is.live.unmarked

pub give_swap-requires-clause-room : goal.give_swap-requires-clause-room
give_swap-requires-clause-room c = omega (arith, c.requires.room, c.requires.alive.is.live.given, c.requires.alive.is.taken)

pub give_swap-requires-clause-there : goal.give_swap-requires-clause-there
give_swap-requires-clause-there c = let a = c.requires.alive in chains_many a.parts a.pairs a.runs a.files a.items c.args.self.now a.is c.args.to c.requires.there

pub give_swap-requires-clause-few : goal.give_swap-requires-clause-few
give_swap-requires-clause-few c = let a = c.requires.alive in few_ends a.parts a.pairs a.runs a.files a.items c.args.self.now a.is c.requires.few

pub give_swap-requires-clause-loadable : goal.give_swap-requires-clause-loadable
give_swap-requires-clause-loadable c =
    let a = c.requires.alive in
    let libs = libs_are c.args.self.now.findings.names.items c.args.self.now.sources.items c.deref.result.now c.split_at.result.1.now c.len.result (omega (arith, c.len.ensures, c.args.self.now.findings.names.ok.0)) c.deref.ensures.value c.split_at.ensures.back in
    swap_fits a.parts a.pairs a.runs a.files a.items c.args.self.now a.is c.args.to [] (source_of c.args.file.now) c.index-name.result.now c.in_ok-one.one.content
    (read_at c.args.self.now.findings.names.items c.args.to c.index-name.result.now c.requires.there c.index-name.ensures)
    (c.in_ok-one.ensures.loadable a.is.spec.libs.items (subst (λ ls. JudgesOver ls a.is.spec.libs.items c.args.self.now.later) (sym libs) a.is.over))

pub returns : goal.returns
returns c = λ parts pairs runs files items name l.
    let p = c.args.self.now in
    let libs = libs_are p.findings.names.items p.sources.items c.deref.result.now c.split_at.result.1.now c.len.result (omega (arith, c.len.ensures, p.findings.names.ok.0)) c.deref.ensures.value c.split_at.ensures.back in
    let key = read_at p.findings.names.items c.args.to c.index-name.result.now c.requires.there c.index-name.ensures in
    let q = run_there parts pairs runs files items p l c.args.to name (source_of c.args.file.now) c.requires.there in
    let named = some_text c.index-name.result.now q.0.slot.name (sym key ∙ run_named parts pairs runs files items p l c.args.to name (source_of c.args.file.now) q.0 q.1) in
    let judged = c.in_ok-one.ensures.is l.spec.libs.items (subst (λ ls. JudgesOver ls l.spec.libs.items p.later) (sym libs) l.over) in
    took_swap parts pairs runs files items p l c.args.to name (source_of c.args.file.now) c.in_ok-one.one.content c.in_ok-one.one.refusal _ _ _ _ _ _
    (c.in_ok-give_swap.ensures l.spec l.swaps items name l.live)
    (subst (λ ls. JudgesOn ls p.later c.judge.new.self) libs c.judge.ensures.stays)
    refl q.0 q.1
    (swap_judged parts pairs runs files items p l c.args.to name (source_of c.args.file.now) q.0 c.index-name.result.now _ c.in_ok-one.one.content c.in_ok-one.one.refusal q.1 named libs judged)
    c.in_ok-push.ensures.items c.in_ok-push-2.ensures.items c.in_ok-push-3.ensures.items c.requires.there c.requires.few
