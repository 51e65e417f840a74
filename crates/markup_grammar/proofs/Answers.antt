-- Bytes have one answer.
use Rattle.std.proofs.Common.{◌≡◌, ℕ, suc, [], append-nil, take-append-drop, ◌<◌, ◌≤◌, List, ◌++◌, length, sym, subst, ◌∙◌, arith, take, drop}
use Rattle.std.proofs.Math.Seq.{take-take, take-length}
use Rattle.markup_grammar.specs.Judge.{Read}
use Rattle.markup_grammar.specs.Markup.{MarkupSpells, Begins, BadMarkupPlace}
use Rattle.markup_grammar.proofs.Places.{spells_judged}
use Rattle.markup_grammar.proofs.Broken.{begins_front}
use Rattle.plain_tree.specs.Trees.{Trees}
use Rattle.plain_tree.specs.Plains.{Places}

pub trees_are : (ts us : Trees Places) → Read ts ≡ Read us → ts ≡ us
trees_are ts us e = cc

pub one_reading : (bytes : List ℕ) (ts us : Trees Places) → MarkupSpells bytes ts → MarkupSpells bytes us → ts ≡ us
one_reading bytes ts us m k = trees_are ts us (sym (spells_judged bytes ts m) ∙ spells_judged bytes us k)

-- what begins with more bytes begins with fewer
begins_less : (bytes : List ℕ) (a b : ℕ) → a ≤ b → Begins (take b bytes) → Begins (take a bytes)
begins_less bytes a b le g =
    let same : take a (take b bytes) ≡ take a bytes = take-take a b bytes le in
    subst Begins same (begins_front (take a (take b bytes)) (drop a (take b bytes)) (subst Begins (sym (take-append-drop a (take b bytes))) g))

not_before : (bytes : List ℕ) (a b : ℕ) → BadMarkupPlace bytes a → BadMarkupPlace bytes b → a < b → ⊥
not_before bytes a b p q lt = let i = q.inside in p.refused (omega (arith, lt, i)) (begins_less bytes (suc a) b lt q.begins)

pub one_place : (bytes : List ℕ) (at other : ℕ) → BadMarkupPlace bytes at → BadMarkupPlace bytes other → at ≡ other
one_place bytes a b p q = let l = not_before bytes a b p q in let r = not_before bytes b a q p in omega (arith, l, r)

pub one_kind : (bytes : List ℕ) (ts : Trees Places) (at : ℕ) → MarkupSpells bytes ts → BadMarkupPlace bytes at → ⊥
one_kind bytes ts at m p =
    let whole : Begins (take (length bytes) bytes) = ([], ts, subst (λ l. MarkupSpells l ts) (sym (append-nil (take (length bytes) bytes) ∙ take-length bytes)) m) in
    let ends : at ≡ length bytes → ⊥ = λ q. p.cut q ts m in
    let inner : at < length bytes → ⊥ = λ lt. p.refused lt (begins_less bytes (suc at) (length bytes) lt whole) in
    let i = p.inside in
    absurd (order ends inner i)
  where
    order : (at ≡ length bytes → ⊥) → (at < length bytes → ⊥) → at ≤ length bytes → ⊥
    order e l i = l (omega (arith, e, i))

pub cut_short : (front more : List ℕ) (ts : Trees Places) → MarkupSpells (front ++ more) ts → ((us : Trees Places) → MarkupSpells front us → ⊥) → BadMarkupPlace front (length front)
cut_short front more ts m no_text = record {
  inside = omega arith;
  begins = subst Begins (sym (take-length front)) (more, ts, m);
  refused = λ lt. absurd (omega (arith, lt));
  cut = λ q us n. no_text us n;
}
