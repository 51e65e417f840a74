use Rattle.std.proofs.Common.{◌≡◌, ◌≤◌, ◌<◌, ℕ, List, [], ◌∷◌, ◌++◌, length, bytes_eq, true, false, sym, subst, ap, ◌∙◌, arith}
use Rattle.std.specs.List.{list_any}
use Rattle.std.proofs.lemmas.Grind.{common_steps}
use Rattle.manifest_shape.specs.Slots.{are_slots}
use Rattle.manifest_shape.proofs.DistinctLemmas.{too_many_slots, named_again, one_slot_more}
use Rattle.manifest_shape.proofs.page.add_slot.Goals as goal

pub returns-then-len-ge-MOST_SLOTS-clause-misfit : goal.returns-then-len-ge-MOST_SLOTS-clause-misfit
returns-then-len-ge-MOST_SLOTS-clause-misfit c = λ err.
    let same : c.len.result ≡ length c.args.names.now.items = grind (arith, common_steps, c.len.ensures) in
    too_many_slots c.args.names.now.items c.args.name.now (subst (λ n. 16 ≤ n) same c.if-len-ge-MOST_SLOTS.true)

pub returns-then-is_among-clause-misfit : goal.returns-then-is_among-clause-misfit
returns-then-is_among-clause-misfit c = λ err.
    named_again c.args.names.now.items c.args.name.now
    (subst (λ (ns : List (List ℕ)). list_any (λ n. bytes_eq n c.args.name.now) ns ≡ true) c.deref.ensures.value (sym c.is_among.ensures ∙ c.if-is_among.true))

pub returns-clause-slots : goal.returns-clause-slots
returns-clause-slots c =
    let names = c.args.names.now.items in
    let name = c.args.name.now in
    let same : c.len.result ≡ length names = grind (arith, common_steps, c.len.ensures) in
    let few : length names < 16 = subst (λ n. n < 16) same c.if-len-ge-MOST_SLOTS.false in
    let new : list_any (λ n. bytes_eq n name) names ≡ false = subst (λ (ns : List (List ℕ)). list_any (λ n. bytes_eq n name) ns ≡ false) c.deref.ensures.value (sym c.is_among.ensures ∙ c.if-is_among.false) in
    let pushed : c.push.new.self.items ≡ names ++ name ∷ [] = c.in_ok-push.ensures.items ∙ ap (λ (n : List ℕ). names ++ n ∷ []) c.in_ok-share.ensures in
    subst (λ (ns : List (List ℕ)). are_slots ns ≡ true) (sym pushed) (one_slot_more names name c.requires few new)
