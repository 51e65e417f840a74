use Rattle.std.proofs.Common.{List, get_or, length, subst, sym, ℕ, ◌<◌, ◌∙◌, ◌≡◌}
use Rattle.js_image.specs.Image.{image, seen}
use Rattle.std.proofs.lemmas.Bool.{ltb-true}
use Rattle.js_direct.proofs.Rarer.{found}
use Rattle.js_direct.proofs.names.next_name.Goals as goal

pub returns-then-is_found : goal.returns-then-is_found
returns-then-is_found c =
    let ys = c.args.names.now.names.items in
    let n = c.each.at in
    let y = c.in-Some.name.now in
    let lt = subst (λ (l : List (List ℕ)). n < length l) c.deref.ensures.value (ltb-true n (length c.deref.result.now) (sym c.in-Some.ensures.lookup.0)) in
    let e = subst (λ (l : List (List ℕ)). y ≡ get_or l n y) c.deref.ensures.value c.in-Some.ensures.lookup.1 in
    λ fs r w x b p h k.
    (lt, c.each.invariant fs r w x b p h k ∙ found (seen w c.args.store.now.cells c.args.names.now.object) x b p (image fs r w c.args.store.now) ys n y lt e (sym (c.is_found.ensures fs r w h k) ∙ c.if-is_found.true))
