use Rattle.std.proofs.Common.{◌≡◌, ◌+◌, [], ◌∷◌, ◌++◌, refl, sym, ap, ◌∙◌, subst, arith, append_assoc, string_bytes, rules}
use Rattle.std.specs.List.Sorted.{IsStrictlySortedBy}
use Rattle.std.specs.Map.{keys_of}
use Rattle.std.specs.String.{string_cmp}
use Rattle.serde_json.specs.Data as json
use Rattle.serde_json.specs.View.{items_view, members_view, view}
use Rattle.serde_json.proofs.Views.{Entry}
use Rattle.code_units.specs.Utf8.{units_of}
use Rattle.widget_meaning.specs.OwnState.{plain_object}
use Rattle.widget_meaning.specs.Properties.{index_name}
use Rattle.widget_meaning.specs.JsonValues.{items_at, members_at}
use Rattle.js_image.proofs.Grown.{fine_stays, seen_stays}
use Rattle.js_image.proofs.Units.{kept_then}
use Rattle.json_text.specs.Building.{Comes}
use Rattle.std.specs.Fmt.{signed_decimal}
use Rattle.std.specs.Int.{w64}
use Rattle.std.proofs.lemmas.Int.{to_z-of_z}
use Rattle.store_cells.specs.declared.value.Value.TheVariants as value
use Rattle.json_text.proofs.Born.{comes_first, comes_next, comes_whole}
use Rattle.json_text.proofs.Wholes.{array_whole, object_whole}
use Rattle.json_text.proofs.Taking.{AreBelow, HasNames, array_form, array_takes, drop_end, drop_item, more_names, names_differ, no_names, none_below, object_takes, one_below, other_names}
use Rattle.json_text.proofs.building.+building.Goals as goal

pub build_array-loop-item-init : goal.build_array-loop-item-init
build_array-loop-item-init t c = record {
  at = refl;
  kept = c.begin_array.ensures.kept;
  fine = c.in_ok-parent.ensures.fine;
  comes = λ fs r. comes_first fs r c.args.w.index c.args.store.now c.begin_array.new.store c.in_ok-parent.parent array_form (AreBelow 0) _ (c.in_ok-parent.ensures.begun fs r) none_below;
}

pub build_array-returns-in_err-value-clause-kept : goal.build_array-returns-in_err-value-clause-kept
build_array-returns-in_err-value-clause-kept t c = λ fs. kept_then fs c.args.w.index c.args.store.now c.loop-item.store c.build.new.store (c.loop-item.invariant.kept fs) (c.build.ensures.kept fs)

pub build_array-returns-in_err-name-clause-kept : goal.build_array-returns-in_err-name-clause-kept
build_array-returns-in_err-name-clause-kept t c = λ fs. kept_then fs c.args.w.index c.args.store.now c.loop-item.store c.build.new.store (c.loop-item.invariant.kept fs) (c.build.ensures.kept fs)

pub build_array-put_next-requires-clause-parent : goal.build_array-put_next-requires-clause-parent
build_array-put_next-requires-clause-parent t c = fine_stays c.args.w.index c.loop-item.store.cells c.build.new.store.cells (c.build.ensures.kept []).grows _ c.loop-item.invariant.fine

pub build_array-returns-in_err-put_next-clause-kept : goal.build_array-returns-in_err-put_next-clause-kept
build_array-returns-in_err-put_next-clause-kept t c = λ fs.
    kept_then fs c.args.w.index c.args.store.now c.loop-item.store c.put_next.new.store (c.loop-item.invariant.kept fs)
    (kept_then fs c.args.w.index c.loop-item.store c.build.new.store c.put_next.new.store (c.build.ensures.kept fs) (c.put_next.ensures.kept fs))

pub build_array-loop-item-preserved : goal.build_array-loop-item-preserved
build_array-loop-item-preserved t c = record {
  at = ap (λ n. n + 1) c.loop-item.invariant.at;
  kept = λ fs.
      kept_then fs c.args.w.index c.args.store.now c.loop-item.store c.put_next.new.store (c.loop-item.invariant.kept fs)
      (kept_then fs c.args.w.index c.loop-item.store c.build.new.store c.put_next.new.store (c.build.ensures.kept fs) (c.put_next.ensures.kept fs));
  fine = fine_stays c.args.w.index c.build.new.store.cells c.put_next.new.store.cells (c.put_next.ensures.kept []).grows _ (fine_stays c.args.w.index c.loop-item.store.cells c.build.new.store.cells (c.build.ensures.kept []).grows _ c.loop-item.invariant.fine);
  comes = λ fs r.
      comes_next fs r c.args.w.index c.args.store.now c.loop-item.store c.build.new.store c.put_next.new.store _ c.in_ok-value.value array_form (view c.item-item.result) (index_name c.loop-item.at)
      (AreBelow c.loop-item.at) (AreBelow (c.loop-item.at + 1)) _ _ _
      (c.loop-item.invariant.comes fs r) (c.in_ok-value.ensures.built fs r)
      (seen_stays c.args.w.index c.loop-item.store.cells c.build.new.store.cells (c.build.ensures.kept []).grows _ c.loop-item.invariant.fine)
      (seen_stays c.args.w.index c.build.new.store.cells c.put_next.new.store.cells (c.put_next.ensures.kept []).grows _ (fine_stays c.args.w.index c.loop-item.store.cells c.build.new.store.cells (c.build.ensures.kept []).grows _ c.loop-item.invariant.fine))
      c.in_ok-name.name (c.in_ok-name.ensures.digits ∙ ap signed_decimal (to_z-of_z w64 c.from.result (search rules) ∙ c.from.ensures)) (c.in_ok-put_next.ensures.put fs r)
      (λ m. ap (λ l. items_at m c.loop-item.at (items_view l)) (drop_item c.deref-item-items.result.now c.loop-item.item-index c.item-item.result c.loop-item-test.true c.item-item.is))
      (λ ps h. array_takes c.loop-item.at ps (omega (arith, c.if-at.false)) h)
      (λ ps v h. one_below c.loop-item.at ps v (omega (arith, c.if-at.false)) h);
}

pub build_array-returns-clause-built : goal.build_array-returns-clause-built
build_array-returns-clause-built t c = λ fs r.
    let z = comes_whole fs r c.args.w.index c.args.store.now c.loop-item.store c.loop-item.store c.loop-item.store _ value.Undefined array_form json.null [] (AreBelow c.loop-item.at) _ _ (c.loop-item.invariant.comes fs r)
    (λ m. ap (λ l. items_at m c.loop-item.at (items_view l)) (drop_end c.deref-item-items.result.now c.loop-item.item-index c.loop-item-test.false)) in
    array_whole fs r c.args.w.index c.args.store.now c.loop-item.store _ c.deref-item-items.result.now c.args.items.now.items c.deref-item-items.ensures.value z.0 z.1

pub build_object-loop-key-init : goal.build_object-loop-key-init
build_object-loop-key-init t c =
    let all : c.into_iter-key-iterator.result ≡ c.args.members.now.entries = search rules in (
      [],
      record {
        split = sym all;
        kept = c.begin_object.ensures.kept;
        fine = c.in_ok-parent.ensures.fine;
        comes = λ fs r. subst (λ es. Comes fs r c.args.w.index c.args.store.now c.begin_object.new.store c.in_ok-parent.parent plain_object (HasNames []) (λ m. members_at m (members_view es)) (λ m. members_at m (members_view c.args.members.now.entries))) (sym all)
            (comes_first fs r c.args.w.index c.args.store.now c.begin_object.new.store c.in_ok-parent.parent plain_object (HasNames []) _ (c.in_ok-parent.ensures.begun fs r) no_names);
      },
    )

pub build_object-returns-in_err-value-clause-kept : goal.build_object-returns-in_err-value-clause-kept
build_object-returns-in_err-value-clause-kept t c = λ fs. kept_then fs c.args.w.index c.args.store.now c.loop-key.store c.build.new.store (c.loop-key.invariant.1.kept fs) (c.build.ensures.kept fs)

pub build_object-returns-in_err-name-clause-kept : goal.build_object-returns-in_err-name-clause-kept
build_object-returns-in_err-name-clause-kept t c = λ fs. kept_then fs c.args.w.index c.args.store.now c.loop-key.store c.build.new.store (c.loop-key.invariant.1.kept fs) (c.build.ensures.kept fs)

pub build_object-put_next-requires-clause-parent : goal.build_object-put_next-requires-clause-parent
build_object-put_next-requires-clause-parent t c = fine_stays c.args.w.index c.loop-key.store.cells c.build.new.store.cells (c.build.ensures.kept []).grows _ c.loop-key.invariant.1.fine

pub build_object-returns-in_err-put_next-clause-kept : goal.build_object-returns-in_err-put_next-clause-kept
build_object-returns-in_err-put_next-clause-kept t c = λ fs.
    kept_then fs c.args.w.index c.args.store.now c.loop-key.store c.put_next.new.store (c.loop-key.invariant.1.kept fs)
    (kept_then fs c.args.w.index c.loop-key.store c.build.new.store c.put_next.new.store (c.build.ensures.kept fs) (c.put_next.ensures.kept fs))

pub build_object-loop-key-preserved : goal.build_object-loop-key-preserved
build_object-loop-key-preserved t c =
    let l = c.loop-key in
    let done = l.invariant.0 in
    let e : Entry = (c.in-Some.key.now, c.in-Some.member.now) in
    let left = c.next.new.self in
    let all : c.args.members.now.entries ≡ done ++ e ∷ left = l.invariant.1.split ∙ ap (λ es. done ++ es) c.in-Some.ensures.steps in
    let differ = names_differ done e left (subst (λ es. IsStrictlySortedBy string_cmp (keys_of es)) all c.iter-key-items.ensures.ordered) in
    let stays = fine_stays c.args.w.index c.loop-key.store.cells c.build.new.store.cells (c.build.ensures.kept []).grows _ l.invariant.1.fine in (
      done ++ e ∷ [],
      record {
        split = all ∙ sym (append_assoc done (e ∷ []) left);
        kept = λ fs.
            kept_then fs c.args.w.index c.args.store.now c.loop-key.store c.put_next.new.store (l.invariant.1.kept fs)
            (kept_then fs c.args.w.index c.loop-key.store c.build.new.store c.put_next.new.store (c.build.ensures.kept fs) (c.put_next.ensures.kept fs));
        fine = fine_stays c.args.w.index c.build.new.store.cells c.put_next.new.store.cells (c.put_next.ensures.kept []).grows _ stays;
        comes = λ fs r.
            comes_next fs r c.args.w.index c.args.store.now c.loop-key.store c.build.new.store c.put_next.new.store _ c.in_ok-value.value plain_object (view c.in-Some.member.now) (units_of (string_bytes c.in-Some.key.now))
            (HasNames done) (HasNames (done ++ e ∷ [])) _ _ _
            (l.invariant.1.comes fs r) (c.in_ok-value.ensures.built fs r)
            (seen_stays c.args.w.index c.loop-key.store.cells c.build.new.store.cells (c.build.ensures.kept []).grows _ l.invariant.1.fine)
            (seen_stays c.args.w.index c.build.new.store.cells c.put_next.new.store.cells (c.put_next.ensures.kept []).grows _ stays)
            c.in_ok-name.name (c.in_ok-name.ensures ∙ ap units_of (search rules)) (c.in_ok-put_next.ensures.put fs r)
            (λ m. ap (λ es. members_at m (members_view es)) c.in-Some.ensures.steps)
            (λ ps h. object_takes ps (units_of (string_bytes c.in-Some.key.now)) (other_names done ps (units_of (string_bytes c.in-Some.key.now)) h differ))
            (λ ps v h. more_names done e ps v h);
      },
    )

pub build_object-returns-clause-built : goal.build_object-returns-clause-built
build_object-returns-clause-built t c = λ fs r.
    let z = comes_whole fs r c.args.w.index c.args.store.now c.loop-key.store c.loop-key.store c.loop-key.store _ value.Undefined plain_object json.null [] (HasNames c.loop-key.invariant.0) _ _ (c.loop-key.invariant.1.comes fs r)
    (λ m. ap (λ es. members_at m (members_view es)) c.in-None.ensures.steps.0) in
    object_whole fs r c.args.w.index c.args.store.now c.loop-key.store _ c.args.members.now.entries z.0 z.1
