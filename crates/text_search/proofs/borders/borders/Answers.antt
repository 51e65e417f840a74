use Rattle.std.proofs.Common.{ℕ, ◌≡◌, ◌+◌, ◌∷◌, [], ◌++◌, List, length, get_or, sym, ap, ◌∙◌, subst, ◌-◌, ◌<◌, arith, rules}
use Rattle.std.proofs.lemmas.List.{get_or_read}
use Rattle.text_search.proofs.Building.{IsBuilding, at_length, extends, falls, lacks}
use Rattle.text_search.proofs.borders.borders.Goals as goal

pub loop-borders-preserved-in-Continue-branch-3 : goal.loop-borders-preserved-in-Continue-branch-3
loop-borders-preserved-in-Continue-branch-3 c =
    let bs = c.loop-borders.borders.items in let q = c.loop-borders.border in
    let many : c.len-in-loop-borders.result ≡ length bs = omega (arith, c.len-in-loop-borders.ensures) in
    subst (λ (l : List ℕ). IsBuilding c.args.x.now l (length l) (q + 1)) (sym c.in_ok-push-2.ensures.items)
    (at_length c.args.x.now bs (q + 1) (length bs) (q + 1) (λ _. length bs)
    (extends c.args.x.now bs (length bs) q c.loop-borders.invariant (omega (arith, c.loop-borders-test.true, c.len.ensures)) (c.if-x-border.true ∙ ap (λ i. get_or c.args.x.now i 0) many)))

pub loop-borders-preserved-in-Continue-branch-4 : goal.loop-borders-preserved-in-Continue-branch-4
loop-borders-preserved-in-Continue-branch-4 c =
    let bs = c.loop-borders.borders.items in let q = c.loop-borders.border in
    let many : c.len-in-loop-borders.result ≡ length bs = omega (arith, c.len-in-loop-borders.ensures) in
    subst (λ (l : List ℕ). IsBuilding c.args.x.now l (length l) q) (sym c.in_ok-push-3.ensures.items)
    (subst (λ i. IsBuilding c.args.x.now (bs ++ 0 ∷ []) (length (bs ++ 0 ∷ [])) i) (sym c.if-border-eq0.true)
    (at_length c.args.x.now bs 0 (length bs) 0 (λ _. length bs)
    (lacks c.args.x.now bs (length bs) q c.loop-borders.invariant (omega (arith, c.loop-borders-test.true, c.len.ensures)) c.if-border-eq0.true (λ e. c.if-x-border.false (e ∙ ap (λ i. get_or c.args.x.now i 0) (sym many))))))

pub loop-borders-preserved : goal.loop-borders-preserved
loop-borders-preserved c =
    let many : c.len-in-loop-borders.result ≡ length c.loop-borders.borders.items = omega (arith, c.len-in-loop-borders.ensures) in
    let b = get_or c.loop-borders.borders.items (c.loop-borders.border - 1) 0 in
    let inside : c.loop-borders.border - 1 < length c.loop-borders.borders.items = omega (arith, c.loop-borders.invariant.some) in
    let own : c.index-border.result.now ≡ get_or c.loop-borders.borders.items (c.loop-borders.border - 1) c.index-border.result.now = search rules in
    let read : c.index-border.result.now ≡ b = get_or_read c.loop-borders.borders.items (c.loop-borders.border - 1) c.index-border.result.now inside own 0 in
    subst (λ i. IsBuilding c.args.x.now c.loop-borders.borders.items (length c.loop-borders.borders.items) i) (sym read)
    (falls c.args.x.now c.loop-borders.borders.items (length c.loop-borders.borders.items) c.loop-borders.border c.loop-borders.invariant (omega (arith, c.if-border-eq0.false)) (λ e. c.if-x-border.false (e ∙ ap (λ i. get_or c.args.x.now i 0) (sym many))))
