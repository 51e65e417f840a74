-- The pieces of a page, one by one.
use Rattle.std.proofs.Common.{◌≡◌, ℕ, ◌+◌, List, [], ◌∷◌, ◌++◌, length, map, sym, ap, ◌∙◌, arith, length-append}
use Rattle.std.proofs.lemmas.List.{map-append, flat_map_more}
use Rattle.manifest_reader.specs.declared.entry.Entry.{Entry}
use Rattle.manifest_reader.specs.Page.{Part, Markup, Widget, part_of}
use Rattle.page_plan.specs.declared.Piece.{Piece}
use Rattle.page_plan.specs.Pages.{piece_of}
use Rattle.page_check.specs.Runs.{named, slots_named, pieces_from, pieces}

-- the pieces behind these begin with the number behind them
pieces_behind : (n : ℕ) (ps : List Part) (p : Part) → pieces_from n (ps ++ p ∷ []) ≡ pieces_from n ps ++ pieces_from (n + length (slots_named ps)) (p ∷ [])
pieces_behind n [] p = let e : n ≡ n + 0 = omega arith in ap (λ k. pieces_from k (p ∷ [])) e
pieces_behind n (Markup trees ∷ ps) p = ap (λ rest. pieces_from n (Markup trees ∷ []) ++ rest) (pieces_behind n ps p)
pieces_behind n (Widget name file fuel ∷ ps) p =
    let e : (n + 1) + length (slots_named ps) ≡ n + length (slots_named (Widget name file fuel ∷ ps)) = omega arith in
    ap (λ rest. pieces_from n (Widget name file fuel ∷ []) ++ rest) (pieces_behind (n + 1) ps p ∙ ap (λ k. pieces_from (n + 1) ps ++ pieces_from k (p ∷ [])) e)

pub pieces_more : (es : List Entry) (e : Entry) (old new : List Piece) (piece : Piece) (slots : ℕ) → slots ≡ length (slots_named (map part_of es)) → map piece_of old ≡ pieces (map part_of es) → new ≡ old ++ piece ∷ [] → piece_of piece ∷ [] ≡ pieces_from slots (part_of e ∷ []) → map piece_of new ≡ pieces (map part_of (es ++ e ∷ []))
pieces_more es e old new piece slots count before after is =
    let many = length (slots_named (map part_of es)) in
    let none : 0 + many ≡ many = omega arith in
    ap (map piece_of) after ∙ map-append piece_of old (piece ∷ []) ∙ ap (λ ps. ps ++ piece_of piece ∷ []) before
    ∙ ap (λ ps. pieces (map part_of es) ++ ps) (is ∙ ap (λ k. pieces_from k (part_of e ∷ [])) count)
    ∙ sym (ap pieces (map-append part_of es (e ∷ [])) ∙ pieces_behind 0 (map part_of es) (part_of e) ∙ ap (λ k. pieces (map part_of es) ++ pieces_from k (part_of e ∷ [])) none)

pub slots_more : (es : List Entry) (e : Entry) (old new : ℕ) → old ≡ length (slots_named (map part_of es)) → new ≡ old + length (named (part_of e)) → new ≡ length (slots_named (map part_of (es ++ e ∷ [])))
slots_more es e old new before after =
    let whole : slots_named (map part_of (es ++ e ∷ [])) ≡ slots_named (map part_of es) ++ named (part_of e) = ap slots_named (map-append part_of es (e ∷ [])) ∙ sym (flat_map_more named [] (map part_of es) (part_of e)) in
    omega (arith, before, after, ap length whole, length-append (slots_named (map part_of es)) (named (part_of e)))
