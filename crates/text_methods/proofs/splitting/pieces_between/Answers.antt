use Rattle.std.proofs.Common.{◌≡◌, ◌+◌, ◌-◌, ◌∷◌, ◌++◌, [], ℕ, List, Some, None, length, length-drop, drop, sym, ap, subst, ◌∙◌, arith}
use Rattle.std.proofs.lemmas.List.{take_all}
use Rattle.widget_meaning.specs.TextNatives as texts
use Rattle.text_search.specs.Places.{IsFirst}
use Rattle.text_methods.proofs.PieceLists.{cut_first, cut_last, piece, pushed, rest}
use Rattle.text_methods.proofs.splitting.pieces_between.Goals as goal

pub loop-at-preserved : goal.loop-at-preserved
loop-at-preserved c =
    let t = c.args.t.now in let x = c.args.x in let start = c.loop-at.start in let at = c.in-Some.at in
    let first : IsFirst t x start (Some at) = subst (λ (us : List ℕ). IsFirst t us start (Some at)) c.in_ok-needle.ensures c.in-Some.ensures.first in
    let next : at + c.text_len-len.result ≡ at + length x = ap (λ n. at + n) c.text_len-len.ensures.exact in
    record {
      within = omega (arith, c.text_len-len.ensures.exact, first.1.within);
      made = (λ j. c.in_ok-push_piece.ensures j ++ rest t x (next j) (next j))
          ∙ pushed t x c.loop-at.parts.items (piece t x start at) (rest t x (at + length x) (at + length x)) (texts.pieces_from x 0 t)
          (sym (ap (λ (ps : List (List ℕ)). c.loop-at.parts.items ++ ps) (cut_first t x start at c.requires first)) ∙ c.loop-at.invariant.made);
    }

pub returns : goal.returns
returns c =
    let t = c.args.t.now in let x = c.args.x in let start = c.loop-at.start in
    let none : IsFirst t x start None = subst (λ (us : List ℕ). IsFirst t us start None) c.in_ok-needle.ensures c.in_default.ensures.first in
    c.in_ok-push_piece-2.ensures
    ∙ ap (λ (us : List ℕ). c.loop-at.parts.items ++ us ∷ []) (take_all (length t - start) (drop start t) (omega (arith, length-drop start t)))
    ∙ sym (ap (λ (ps : List (List ℕ)). c.loop-at.parts.items ++ ps) (cut_last t x start c.loop-at.invariant.within none))
    ∙ c.loop-at.invariant.made
