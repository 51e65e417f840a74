use Rattle.std.proofs.Common.{◌≡◌, ◌≢◌, ℕ, true, subst, [], length, map, ap, sym, refl, ◌∙◌}
use Rattle.std.specs.List.{fold, list_all}
use Rattle.query_grammar.specs.Finds.{has_number}
use Rattle.store_cells.specs.declared.value.Value.TheVariants as value
use Rattle.widget_meaning.specs.BunchWrites.{is_no_root, write_method}
use Rattle.widget_meaning.specs.Costs.{give}
use Rattle.permitted_table.specs.declared.native.WriteNative.TheVariants.{Remove}
use Rattle.widget_meaning.specs.OwnState.{State, with_forest}
use Rattle.widget_meaning.specs.Plan.{charge}
use Rattle.widget_meaning.specs.Trees.{detached}
use Rattle.widget_meaning.specs.Values.{E10}
use Rattle.js_image.specs.declared.outcome.Fault.TheVariants as fault
use Rattle.js_image.specs.Image.{seen}
use Rattle.js_image.proofs.Grown.{held_stays, seen_stays}
use Rattle.page_image.specs.Image.{forest, number, owns}
use Rattle.native_image.specs.Charges.{Free}
use Rattle.native_image.specs.Image.{beside, image}
use Rattle.native_image.proofs.Joint.{page_lift, sound_stays}
use Rattle.native_image.proofs.Keeping.{keeps_paged, keeps_store, sound_page}
use Rattle.native_image.proofs.Wants.{unwanted, wanted}
use Rattle.native_image.proofs.Working.{at_ended, at_refused, few_counted, forest_folded, gives_back}
use Rattle.bunch_write.proofs.Roots.{none_zero}
use Rattle.native_image.specs.Handed.{parts}
use Rattle.native_image.proofs.Reading.{writes_memory, writes_thrown}
use Rattle.bunch_write.proofs.moving.remove.Goals as goal

pub returns-then-not-none_root : goal.returns-then-not-none_root
returns-then-not-none_root c =
    let w = c.args.widget.now.id.index in
    let p = c.args.shared.now.page in
    let s = c.args.shared.now.store in
    let ns = map (number p w) c.args.bunch.now.nodes.now in
    let v = seen w s.cells (value.Ref c.args.bunch.now.cell) in
    writes_thrown c.args.shared.now c.args.widget.now c.requires.sound (λ d u. write_method Remove ns v [] d u) fault.E10 c.args.meter.now
    (λ fs x d. let u = image fs x w (parts c.args.shared.now c.args.widget.now) in unwanted E10 (list_all is_no_root ns) u (charge (length ns) u (give v (fold (λ (t : State) n. with_forest t (detached t.own.forest n)) u ns))) (sym c.none_root.ensures ∙ c.if-not-none_root.true))

pub detach_all-requires-clause-own : goal.detach_all-requires-clause-own
detach_all-requires-clause-own c = subst (λ k. (n : ℕ) → has_number k n ≡ true → owns c.args.shared.now.page c.args.widget.now.id.index n ≡ true) (sym c.in_ok-nodes.ensures.items) c.requires.bunch.nodes.own

pub detach_all-requires-clause-no_root : goal.detach_all-requires-clause-no_root
detach_all-requires-clause-no_root c =
    let w = c.args.widget.now.id.index in
    let p = c.args.shared.now.page in
    subst (λ k. (n : ℕ) → has_number k n ≡ true → number p w n ≢ 0) (sym c.in_ok-nodes.ensures.items) (none_zero (number p w) c.args.bunch.now.nodes.now (sym c.none_root.ensures ∙ c.if-not-none_root.false))

pub returns-in-Ok : goal.returns-in-Ok
returns-in-Ok c = record {
  refines =
      let l = c.args.widget.now.around in let b = c.args.widget.now.bubbled in let sound = c.requires.sound in let w = c.args.widget.now.id.index in
      let p = c.args.shared.now.page in
      let s = c.args.shared.now.store in
      let ns = map (number p w) c.args.bunch.now.nodes.now in
      let v = seen w s.cells (value.Ref c.args.bunch.now.cell) in
      let t = c.begin.new.store in
      let r = c.detach_all.new.page in
      let begun = c.in-Ok.ensures.begun (length ns) Free (few_counted (number p w) c.args.bunch.now.nodes.now c.requires.bunch.nodes.few) tt in
      let grows = (begun.kept []).grows in
      at_ended w c.args.widget.now.id.small s t p l b sound c.args.meter.now c.begin.new.meter (length ns) Free (λ d u. write_method Remove ns v [] d u) (λ d y. give v (fold (λ (t : State) n. with_forest t (detached t.own.forest n)) y ns))
      (λ fs x d. let u = image fs x w (beside s p l b) in wanted E10 (list_all is_no_root ns) u (charge (length ns) u (give v (fold (λ (t : State) n. with_forest t (detached t.own.forest n)) u ns))) (sym c.none_root.ensures ∙ c.if-not-none_root.false))
      begun (beside t r l b) _
      (gives_back w s c.args.bunch.now.cell c.requires.bunch.held (beside t p l b) (beside t r l b) (seen_stays w s.cells t.cells grows (value.Ref c.args.bunch.now.cell) c.requires.bunch.held) (held_stays w s.cells t.cells grows c.args.bunch.now.cell c.requires.bunch.held)
      (sound_page w c.args.widget.now.id.small p r c.detach_all.ensures.kept c.detach_all.ensures.others t l (sound_stays w s t p l sound (begun.kept [])))
      (λ y. fold (λ (t : State) n. with_forest t (detached t.own.forest n)) y ns)
      (λ fs x.
      page_lift w fs x t p r l b c.detach_all.ensures.kept
      ∙ ap (with_forest (image fs x w (beside t p l b))) (c.detach_all.ensures.image ∙ ap (λ k. fold detached (forest p w) (map (number p w) k)) c.in_ok-nodes.ensures.items)
      ∙ sym (forest_folded (λ (t : State) n. with_forest t (detached t.own.forest n)) detached (λ z n. refl) ns (image fs x w (beside t p l b)))));
  kept =
      let l = c.args.widget.now.around in let sound = c.requires.sound in keeps_paged c.args.widget.now.id.index c.args.widget.now.id.small c.args.shared.now.store c.begin.new.store c.args.shared.now.page c.detach_all.new.page l sound.holds c.begin.ensures.kept c.detach_all.ensures.kept c.detach_all.ensures.others c.detach_all.ensures.host;
  codes = refl;
  rest = refl;
}

pub returns-in-Err : goal.returns-in-Err
returns-in-Err c = record {
  refines =
      let l = c.args.widget.now.around in let b = c.args.widget.now.bubbled in let sound = c.requires.sound in let w = c.args.widget.now.id.index in
      let p = c.args.shared.now.page in
      let s = c.args.shared.now.store in
      let ns = map (number p w) c.args.bunch.now.nodes.now in
      let v = seen w s.cells (value.Ref c.args.bunch.now.cell) in
      at_refused w c.args.widget.now.id.small s c.begin.new.store p l b sound c.args.meter.now c.begin.new.meter (length ns) Free (λ d u. write_method Remove ns v [] d u) (λ d y. give v (fold (λ (t : State) n. with_forest t (detached t.own.forest n)) y ns))
      (λ fs x d. let u = image fs x w (beside s p l b) in wanted E10 (list_all is_no_root ns) u (charge (length ns) u (give v (fold (λ (t : State) n. with_forest t (detached t.own.forest n)) u ns))) (sym c.none_root.ensures ∙ c.if-not-none_root.false))
      c.in-Err.out c.in-Err.ensures.fires
      (c.in-Err.ensures.refused (length ns) Free (λ d y. give v (fold (λ (t : State) n. with_forest t (detached t.own.forest n)) y ns)) (few_counted (number p w) c.args.bunch.now.nodes.now c.requires.bunch.nodes.few) tt);
  kept =
      let l = c.args.widget.now.around in let sound = c.requires.sound in keeps_store c.args.widget.now.id.index c.args.shared.now.store c.begin.new.store c.args.shared.now.page l sound.holds c.begin.ensures.kept;
  codes = refl;
  rest = refl;
}

pub returns-in_err-nodes : goal.returns-in_err-nodes
returns-in_err-nodes c = writes_memory c.args.shared.now c.args.widget.now c.requires.sound c.args.meter.now c.args.meter.now _ c.from_residual.result c.from_residual.ensures.0
