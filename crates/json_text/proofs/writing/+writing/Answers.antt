use Rattle.std.proofs.Common.{◌≡◌, ℕ, suc, ◌+◌, ◌-◌, List, [], sym, ap, ◌∙◌, subst, arith, option_copied}
use Rattle.std.specs.List.{filter}
use Rattle.std.proofs.lemmas.Result.{IfOk-weaker}
use Rattle.code_units.specs.Permitted.{is_permitted}
use Rattle.widget_meaning.specs.Values as meaning
use Rattle.widget_meaning.specs.OwnState.{cell_at}
use Rattle.widget_meaning.specs.JsonTexts.{Wrote, NoJson, TooLong, and_write, members_text, value_text, write}
use Rattle.js_image.specs.Image.{image, seen, seen_pairs}
use Rattle.js_image.specs.Held.{IsFine}
use Rattle.native_common.proofs.Seen.{ref_is_object}
use Rattle.js_image.specs.Elements.{own_place}
use Rattle.json_text.specs.Names.{name_text}
use Rattle.json_text.specs.Objects.{pairs_at}
use Rattle.json_text.specs.declared.steps.Step.TheVariants as step
use Rattle.json_text.proofs.Bodies.{array_text, object_pairs, object_refers, object_text, other_text}
use Rattle.json_text.proofs.Owned.{at_place, key_pair, keys_over, open_fine, open_pairs, open_seen}
use Rattle.json_text.proofs.Parts.{ended, written}
use Rattle.json_text.proofs.Texts.{closed, next_element, opened, step_is, stepped}
use Rattle.json_text.proofs.writing.+writing.Goals as goal

pub write_value-returns-else-not-is_within : goal.write_value-returns-else-not-is_within
write_value-returns-else-not-is_within t c = IfOk-weaker c.write_object.result _ _ (λ p h. λ fs r w confined fine.
    let cells = c.args.store.now.cells in
    let more : suc (c.args.m - 1) ≡ c.args.m = omega (arith, c.if-m-eq0.false) in
    h fs r w confined fine (ap (λ v. meaning.is_object (seen w cells v)) c.in-Ref.is ∙ ref_is_object w cells c.in-Ref.field-0)
    ∙ ap (λ n. value_text n (image fs r w c.args.store.now) (seen w cells c.args.v.now) c.args.out.now.items) more) c.write_object.ensures

pub write_object-returns-in-Some : goal.write_object-returns-in-Some
write_object-returns-in-Some t c = IfOk-weaker c.write_array.result _ _ (λ p h. λ fs r w confined fine object.
    let e = sym (c.array_length.ensures.length fs r w fine) ∙ c.in-Some.is in
    h fs r w confined fine e
    ∙ sym (array_text fs r w c.args.store.now c.lawful.ensures c.args.m c.args.out.now.items c.args.v.now c.in-Some.len fine e)) c.write_array.ensures

pub write_object-returns-in-None : goal.write_object-returns-in-None
write_object-returns-in-None t c = λ fs r w confined fine object.
    sym (other_text fs r w c.args.store.now c.lawful.ensures c.args.m c.args.out.now.items c.args.v.now fine object (sym (c.array_length.ensures.length fs r w fine) ∙ c.in_default.is) (sym c.object_in.ensures ∙ c.in-None.is))

pub write_object-returns-in-Wrote : goal.write_object-returns-in-Wrote
write_object-returns-in-Wrote t c = IfOk-weaker c.write_members.result _ _ (λ p h. λ fs r w confined fine object.
    let s = c.args.store.now in
    let o = object_refers fs r w s c.lawful.ensures c.args.m c.args.out.now.items c.args.v.now c.in-Some-object_in.cell (sym c.object_in.ensures ∙ c.in-Some-object_in.is) in
    let held = subst (IsFine w s.cells) o.0 fine in
    h fs r w confined (object_pairs fs w s confined c.lawful.ensures c.in-Some-object_in.cell held o.1) o.1
    ∙ ap (λ x. and_write x (members_text (value_text c.args.m (image fs r w s)) [] (filter (λ q. is_permitted q.0) (seen_pairs w s.cells (pairs_at s.cells c.in-Some-object_in.cell)))))
    (step_is _ step.Wrote c.push_word.new.out.items _ c.in-Wrote.is c.in_ok-push_word-in-Some-object_in.ensures)
    ∙ sym (ap (λ v. value_text (suc c.args.m) (image fs r w s) (seen w s.cells v) c.args.out.now.items) o.0 ∙ object_text fs r w s c.lawful.ensures c.args.m c.args.out.now.items c.in-Some-object_in.cell held o.1)) c.write_members.ensures

pub write_object-returns-in-TooLong : goal.write_object-returns-in-TooLong
write_object-returns-in-TooLong t c = λ fs r w confined fine object.
    let s = c.args.store.now in
    let o = object_refers fs r w s c.lawful.ensures c.args.m c.args.out.now.items c.args.v.now c.in-Some-object_in.cell (sym c.object_in.ensures ∙ c.in-Some-object_in.is) in
    let held = subst (IsFine w s.cells) o.0 fine in
    ap (λ x. and_write x (members_text (value_text c.args.m (image fs r w s)) [] (filter (λ q. is_permitted q.0) (seen_pairs w s.cells (pairs_at s.cells c.in-Some-object_in.cell)))))
    (step_is _ step.TooLong c.push_word.new.out.items _ c.in-TooLong.is c.in_ok-push_word-in-Some-object_in.ensures)
    ∙ sym (ap (λ v. value_text (suc c.args.m) (image fs r w s) (seen w s.cells v) c.args.out.now.items) o.0 ∙ object_text fs r w s c.lawful.ensures c.args.m c.args.out.now.items c.in-Some-object_in.cell held o.1)

pub write_array-returns-in-NoJson-2 : goal.write_array-returns-in-NoJson-2
write_array-returns-in-NoJson-2 t c = λ fs r w confined fine is.
    let s = image fs r w c.args.store.now in
    let ps = (cell_at s (own_place w c.args.store.now.cells c.args.array.now)).pairs in
    sym (sym (opened c.args.m s ps c.args.len c.args.out.now.items c.push_word.new.out.items (step_is _ step.Wrote c.push_word.new.out.items _ c.in-Wrote.is c.in_ok-push_word.ensures))
    ∙ sym (c.loop-at.invariant fs r w confined fine is)
    ∙ stepped c.args.m s ps c.args.len c.loop-at.at c.loop-at.out.items NoJson (seen w c.args.store.now.cells c.in_ok-v.v) c.separator.result.now c.loop-at-test.true (c.in_ok-v.ensures.found fs r w c.args.len fine is) c.separator.ensures
    (step_is _ step.NoJson c.write_part.new.out.items _ c.in-NoJson-2.is (c.in_ok-write_part.ensures fs r w confined (c.in_ok-v.ensures.fine fs w confined fine))))

pub write_array-returns-in-TooLong-2 : goal.write_array-returns-in-TooLong-2
write_array-returns-in-TooLong-2 t c = λ fs r w confined fine is.
    let s = image fs r w c.args.store.now in
    let ps = (cell_at s (own_place w c.args.store.now.cells c.args.array.now)).pairs in
    sym (sym (opened c.args.m s ps c.args.len c.args.out.now.items c.push_word.new.out.items (step_is _ step.Wrote c.push_word.new.out.items _ c.in-Wrote.is c.in_ok-push_word.ensures))
    ∙ sym (c.loop-at.invariant fs r w confined fine is)
    ∙ stepped c.args.m s ps c.args.len c.loop-at.at c.loop-at.out.items TooLong (seen w c.args.store.now.cells c.in_ok-v.v) c.separator.result.now c.loop-at-test.true (c.in_ok-v.ensures.found fs r w c.args.len fine is) c.separator.ensures
    (step_is _ step.TooLong c.write_part.new.out.items _ c.in-TooLong-2.is (c.in_ok-write_part.ensures fs r w confined (c.in_ok-v.ensures.fine fs w confined fine))))

pub write_array-loop-at-preserved : goal.write_array-loop-at-preserved
write_array-loop-at-preserved t c = λ fs r w confined fine is.
    let s = image fs r w c.args.store.now in
    let ps = (cell_at s (own_place w c.args.store.now.cells c.args.array.now)).pairs in
    next_element c.args.m s ps c.args.len c.loop-at.at c.loop-at.out.items c.write_part.new.out.items (seen w c.args.store.now.cells c.in_ok-v.v) c.separator.result.now c.loop-at-test.true (c.in_ok-v.ensures.found fs r w c.args.len fine is) c.separator.ensures
    (step_is _ step.Wrote c.write_part.new.out.items _ c.in-Wrote-2.is (c.in_ok-write_part.ensures fs r w confined (c.in_ok-v.ensures.fine fs w confined fine)))
    ∙ c.loop-at.invariant fs r w confined fine is

pub write_array-returns : goal.write_array-returns
write_array-returns t c = IfOk-weaker c.push_word-2.result _ _ (λ p h. λ fs r w confined fine is.
    let s = image fs r w c.args.store.now in
    let ps = (cell_at s (own_place w c.args.store.now.cells c.args.array.now)).pairs in
    h ∙ sym (closed c.args.m s ps c.args.len c.loop-at.at c.loop-at.out.items (omega (arith, c.loop-at-test.false)))
    ∙ c.loop-at.invariant fs r w confined fine is
    ∙ opened c.args.m s ps c.args.len c.args.out.now.items c.push_word.new.out.items (step_is _ step.Wrote c.push_word.new.out.items _ c.in-Wrote.is c.in_ok-push_word.ensures)) c.push_word-2.ensures

pub write_members-returns : goal.write_members-returns
write_members-returns t c = IfOk-weaker c.write_named.result _ _ (λ p h. λ fs r w confined pairs object.
    h fs r w confined pairs object (c.deref.ensures.value ∙ c.in_ok-keys.ensures)) c.write_named.ensures

pub write_named-names-init : goal.write_named-names-init
write_named-names-init t c = λ fs r w confined pairs object are.
    let s = c.args.store.now in
    ap (λ l. members_text (value_text c.args.m (image fs r w s)) [] l c.args.out.now.items) (sym (open_seen w s.cells (pairs_at s.cells c.args.cell)))

pub write_named-returns-in-NoJson : goal.write_named-returns-in-NoJson
write_named-returns-in-NoJson t c = λ fs r w confined pairs object are.
    let s = c.args.store.now in
    let l = c.names in
    let x : List ℕ = c.name-item.result in
    let v = c.in-Some.value.now in
    let one = value_text c.args.m (image fs r w s) in
    let ps = pairs_at s.cells c.args.cell in
    let at = key_pair s.cells c.args.cell object c.names_differ.ensures c.args.keys.now are l.name-index x (option_copied c.get.result) v (at_place c.args.keys.now l.name-index x c.names-test.true c.name-item.is) c.get.ensures (ap option_copied c.in-Some.is) in
    let named : NoJson ≡ write l.out.items (name_text l.first x) = step_is _ step.NoJson c.push_name.new.out.items _ c.in-NoJson.is c.in_ok-push_name.ensures in
    sym (written w s.cells one (open_pairs ps) l.first l.name-index (x, v) l.out.items NoJson at (ap (λ y. and_write y (one (seen w s.cells v))) named))
    ∙ l.invariant fs r w confined pairs object are

pub write_named-returns-in-TooLong : goal.write_named-returns-in-TooLong
write_named-returns-in-TooLong t c = λ fs r w confined pairs object are.
    let s = c.args.store.now in
    let l = c.names in
    let x : List ℕ = c.name-item.result in
    let v = c.in-Some.value.now in
    let one = value_text c.args.m (image fs r w s) in
    let ps = pairs_at s.cells c.args.cell in
    let at = key_pair s.cells c.args.cell object c.names_differ.ensures c.args.keys.now are l.name-index x (option_copied c.get.result) v (at_place c.args.keys.now l.name-index x c.names-test.true c.name-item.is) c.get.ensures (ap option_copied c.in-Some.is) in
    let named : TooLong ≡ write l.out.items (name_text l.first x) = step_is _ step.TooLong c.push_name.new.out.items _ c.in-TooLong.is c.in_ok-push_name.ensures in
    sym (written w s.cells one (open_pairs ps) l.first l.name-index (x, v) l.out.items TooLong at (ap (λ y. and_write y (one (seen w s.cells v))) named))
    ∙ l.invariant fs r w confined pairs object are

pub write_named-returns-in-NoJson-2 : goal.write_named-returns-in-NoJson-2
write_named-returns-in-NoJson-2 t c = λ fs r w confined pairs object are.
    let s = c.args.store.now in
    let l = c.names in
    let x : List ℕ = c.name-item.result in
    let v = c.in-Some.value.now in
    let one = value_text c.args.m (image fs r w s) in
    let ps = pairs_at s.cells c.args.cell in
    let at = key_pair s.cells c.args.cell object c.names_differ.ensures c.args.keys.now are l.name-index x (option_copied c.get.result) v (at_place c.args.keys.now l.name-index x c.names-test.true c.name-item.is) c.get.ensures (ap option_copied c.in-Some.is) in
    let named : Wrote c.push_name.new.out.items ≡ write l.out.items (name_text l.first x) = step_is _ step.Wrote c.push_name.new.out.items _ c.in-Wrote.is c.in_ok-push_name.ensures in
    let valued : NoJson ≡ one (seen w s.cells v) c.push_name.new.out.items = step_is _ step.NoJson c.write_value.new.out.items _ c.in-NoJson-2.is (c.in_ok-write_value.ensures fs r w confined (open_fine w s.cells ps l.name-index x v pairs at)) in
    sym (written w s.cells one (open_pairs ps) l.first l.name-index (x, v) l.out.items NoJson at (valued ∙ ap (λ y. and_write y (one (seen w s.cells v))) named))
    ∙ l.invariant fs r w confined pairs object are

pub write_named-returns-in-TooLong-2 : goal.write_named-returns-in-TooLong-2
write_named-returns-in-TooLong-2 t c = λ fs r w confined pairs object are.
    let s = c.args.store.now in
    let l = c.names in
    let x : List ℕ = c.name-item.result in
    let v = c.in-Some.value.now in
    let one = value_text c.args.m (image fs r w s) in
    let ps = pairs_at s.cells c.args.cell in
    let at = key_pair s.cells c.args.cell object c.names_differ.ensures c.args.keys.now are l.name-index x (option_copied c.get.result) v (at_place c.args.keys.now l.name-index x c.names-test.true c.name-item.is) c.get.ensures (ap option_copied c.in-Some.is) in
    let named : Wrote c.push_name.new.out.items ≡ write l.out.items (name_text l.first x) = step_is _ step.Wrote c.push_name.new.out.items _ c.in-Wrote.is c.in_ok-push_name.ensures in
    let valued : TooLong ≡ one (seen w s.cells v) c.push_name.new.out.items = step_is _ step.TooLong c.write_value.new.out.items _ c.in-TooLong-2.is (c.in_ok-write_value.ensures fs r w confined (open_fine w s.cells ps l.name-index x v pairs at)) in
    sym (written w s.cells one (open_pairs ps) l.first l.name-index (x, v) l.out.items TooLong at (valued ∙ ap (λ y. and_write y (one (seen w s.cells v))) named))
    ∙ l.invariant fs r w confined pairs object are

pub write_named-names-preserved : goal.write_named-names-preserved
write_named-names-preserved t c = λ fs r w confined pairs object are.
    let s = c.args.store.now in
    let l = c.names in
    let x : List ℕ = c.name-item.result in
    let v = c.in-Some.value.now in
    let one = value_text c.args.m (image fs r w s) in
    let ps = pairs_at s.cells c.args.cell in
    let at = key_pair s.cells c.args.cell object c.names_differ.ensures c.args.keys.now are l.name-index x (option_copied c.get.result) v (at_place c.args.keys.now l.name-index x c.names-test.true c.name-item.is) c.get.ensures (ap option_copied c.in-Some.is) in
    let named : Wrote c.push_name.new.out.items ≡ write l.out.items (name_text l.first x) = step_is _ step.Wrote c.push_name.new.out.items _ c.in-Wrote.is c.in_ok-push_name.ensures in
    let valued : Wrote c.write_value.new.out.items ≡ one (seen w s.cells v) c.push_name.new.out.items = step_is _ step.Wrote c.write_value.new.out.items _ c.in-Wrote-2.is (c.in_ok-write_value.ensures fs r w confined (open_fine w s.cells ps l.name-index x v pairs at)) in
    sym (written w s.cells one (open_pairs ps) l.first l.name-index (x, v) l.out.items (Wrote c.write_value.new.out.items) at (valued ∙ ap (λ y. and_write y (one (seen w s.cells v))) named))
    ∙ l.invariant fs r w confined pairs object are

pub write_named-returns : goal.write_named-returns
write_named-returns t c = IfOk-weaker c.push_word.result _ _ (λ p h. λ fs r w confined pairs object are.
    let s = c.args.store.now in
    h ∙ sym (ended w s.cells (value_text c.args.m (image fs r w s)) (open_pairs (pairs_at s.cells c.args.cell)) c.names.first c.names.name-index c.names.out.items
    (keys_over s.cells c.args.cell object c.args.keys.now are c.names.name-index (omega (arith, c.names-test.false))))
    ∙ c.names.invariant fs r w confined pairs object are) c.push_word.ensures
