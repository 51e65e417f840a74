-- Verdicts beside their texts.
use Rattle.std.proofs.Common.{◌≡◌, ℕ, zero, suc, ◌<◌, if◌then◌else◌, List, [], ◌∷◌, ◌++◌, length, get_or, false, Some, slice_get, unwrap_or, refl, sym, ap, subst, ◌∙◌}
use Rattle.std.specs.List.{list_any}
use Rattle.std.specs.Str.{bytes_eq}
use Rattle.code_units.specs.Utf8.{utf8_of}
use Rattle.keyed_names.specs.Interned.{Interns}
use Rattle.json_judge.specs.Verdicts.{AreTold, Tells}
use Rattle.json_judge.specs.declared.judging.Verdict.{Verdict}

told_length : (ts : List (List ℕ)) (vs : List Verdict) → AreTold ts vs → length ts ≡ length vs
told_length [] [] h = refl
told_length [] (x ∷ vs) h = absurd h
told_length (u ∷ ts) [] h = absurd h
told_length (u ∷ ts) (x ∷ vs) h = ap suc (told_length ts vs h.1)

pub told_within : (ts : List (List ℕ)) (vs : List Verdict) (n : ℕ) → AreTold ts vs → n < length ts → n < length vs
told_within ts vs n h lt = subst (λ k. n < k) (told_length ts vs h) lt

pub told_at : (ts : List (List ℕ)) (vs : List Verdict) (n : ℕ) (t : List ℕ) (d : Verdict) → AreTold ts vs → slice_get ts n ≡ Some t → Tells (utf8_of t) (get_or vs n d)
told_at [] vs n t d h e = absurd (cc)
told_at (u ∷ ts) [] n t d h e = absurd h
told_at (u ∷ ts) (x ∷ vs) zero t d h e = subst (λ y. Tells (utf8_of y) x) (ap (λ o. unwrap_or o t) e) h.0
told_at (u ∷ ts) (x ∷ vs) (suc n) t d h e = told_at ts vs n t d h.1 e

told_last : (ts : List (List ℕ)) (vs : List Verdict) (t : List ℕ) (v : Verdict) → AreTold ts vs → Tells (utf8_of t) v → AreTold (ts ++ t ∷ []) (vs ++ v ∷ [])
told_last [] [] t v h told = (told, tt)
told_last [] (x ∷ vs) t v h told = absurd h
told_last (u ∷ ts) [] t v h told = absurd h
told_last (u ∷ ts) (x ∷ vs) t v h told = (h.0, told_last ts vs t v h.1 told)

-- a verdict on a text that is new goes last
pub told_more : (ts new : List (List ℕ)) (vs : List Verdict) (t : List ℕ) (v : Verdict) (n : ℕ) → AreTold ts vs → list_any (bytes_eq t) ts ≡ false → Interns ts new t n → Tells (utf8_of t) v → AreTold new (vs ++ v ∷ [])
told_more ts new vs t v n h absent interns told =
    subst (λ l. AreTold l (vs ++ v ∷ [])) (sym (interns.table ∙ ap (λ b. if b then ts else ts ++ t ∷ []) absent)) (told_last ts vs t v h told)
