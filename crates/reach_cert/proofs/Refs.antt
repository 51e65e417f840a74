-- References, one after the other.
use Rattle.std.proofs.Common.{◌≡◌, ℕ, suc, ◌-◌, ◌<◌, Bool, true, false, List, [], ◌∷◌, ◌++◌, length, take, drop, refl, sym, ap, ◌∙◌, subst, arith, Option, Some, None, append_assoc, append-nil, if◌then◌else◌, length-drop}
use Rattle.std.specs.Prelude.{codes, ◌==◌}
use Rattle.std.specs.List.{slice_split, onto_first}
use Rattle.std.specs.Str.{bytes_eq}
use Rattle.std.proofs.lemmas.Slice.Eq.{bytes_eq-Decides}
use Rattle.std.proofs.lemmas.List.Splits.{slice_split-cons_yes, slice_split-cons_no}
use Rattle.std.proofs.lemmas.List.{take-append-drop, take_all}
use Rattle.reach_cert.specs.declared.cert.Ref.{Ref}
use Rattle.reach_cert.proofs.Ends.{some_count}
use Rattle.reach_cert.specs.Words.{behind, is_space, word_end, ref_in, joined, each_ref, refs_in, with_front}

-- ## The first word

-- the words behind the first, where a space stands first
abbrev pub words_behind : List ℕ → List (List ℕ)
words_behind [] = []
words_behind (b ∷ text) = slice_split is_space text

abbrev pub Split : List ℕ → Type 0
Split text = slice_split is_space text ≡ take (word_end text) text ∷ words_behind (drop (word_end text) text)

one_further : (b : ℕ) (text : List ℕ) → is_space b ≡ false → word_end (b ∷ text) ≡ suc (word_end text)
one_further b text e = rw e (omega arith)

split_by : (b : ℕ) (text : List ℕ) → (c : Bool) → is_space b ≡ c → Split text → Split (b ∷ text)
split_by b text true e more = slice_split-cons_yes is_space b text e ∙ rw e refl
split_by b text false e more =
    slice_split-cons_no is_space b text e ∙ ap (onto_first b) more ∙ ap (λ n. take n (b ∷ text) ∷ words_behind (drop n (b ∷ text))) (sym (one_further b text e))

pub split_first : (text : List ℕ) → Split text
split_first [] = refl
split_first (b ∷ text) = split_by b text (is_space b) refl (split_first text)

abbrev Behind : List ℕ → Type 0
Behind text = each_ref (words_behind (drop (word_end text) text)) ≡ refs_in (drop (word_end text) text)

behind_by : (b : ℕ) (text : List ℕ) → (c : Bool) → is_space b ≡ c → Behind text → Behind (b ∷ text)
unfolding refs_in
behind_by b text true e more = rw e (rw e refl)
behind_by b text false e more = subst (λ n. each_ref (words_behind (drop n (b ∷ text))) ≡ refs_in (drop n (b ∷ text))) (sym (one_further b text e)) more

behind_first : (text : List ℕ) → Behind text
unfolding refs_in
behind_first [] = refl
behind_first (b ∷ text) = behind_by b text (is_space b) refl (behind_first text)

-- behind a space stand a reference and more
pub space_first : (text : List ℕ) → refs_in (32 ∷ text) ≡ joined (ref_in (take (word_end text) text)) (refs_in (drop (word_end text) text))
unfolding refs_in
space_first text = ap each_ref (split_first text) ∙ ap (joined (ref_in (take (word_end text) text))) (behind_first text)

-- ## One more reference

pub front_more : (front : List Ref) (ref : Ref) (rest : Option (List Ref)) → with_front front (joined (Some ref) rest) ≡ with_front (front ++ ref ∷ []) rest
front_more front ref None = refl
front_more front ref (Some refs) = ap Some (sym (append_assoc front (ref ∷ []) refs))

-- a front that the bytes have
pub front_had : (front bytes rest : List ℕ) → behind front bytes ≡ Some rest → bytes ≡ front ++ rest
front_had front bytes rest = by (bytes_eq (take (length front) bytes) front) refl
  where
    by : (b : Bool) → bytes_eq (take (length front) bytes) front ≡ b → (if b then Some (drop (length front) bytes) else None) ≡ Some rest → bytes ≡ front ++ rest
    by true is e =
        let back : drop (length front) bytes ≡ rest = cc in
        sym (take-append-drop (length front) bytes) ∙ (λ i. (bytes_eq-Decides (take (length front) bytes) front).0 is i ++ back i)
    by false is e = cc

pub refs_more : (text rest more : List ℕ) (end : ℕ) (front after : List Ref) (ref : Ref) → refs_in text ≡ with_front front (refs_in rest) → behind (codes " ") rest ≡ Some more → end ≡ word_end more →
    Some ref ≡ ref_in (take end more) → after ≡ front ++ ref ∷ [] → refs_in text ≡ with_front after (refs_in (drop end more))
refs_more text rest more end front after ref so_far space is word pushed =
    so_far ∙ ap (λ t. with_front front (refs_in t)) (front_had (codes " ") rest more space) ∙ ap (with_front front) (space_first more)
    ∙ ap (λ n. with_front front (joined (ref_in (take n more)) (refs_in (drop n more)))) (sym is)
    ∙ ap (λ r. with_front front (joined r (refs_in (drop end more)))) (sym word)
    ∙ front_more front ref (refs_in (drop end more)) ∙ ap (λ l. with_front l (refs_in (drop end more))) (sym pushed)

-- the rest of a slice
pub rest_is : (bytes : List ℕ) (end : ℕ) → take (length bytes - end) (drop end bytes) ≡ drop end bytes
rest_is bytes end = take_all (length bytes - end) (drop end bytes) (omega (arith, length-drop end bytes))

pub rest_shorter : (rest more : List ℕ) (end : ℕ) → behind (codes " ") rest ≡ Some more → length (take (length more - end) (drop end more)) < length rest
rest_shorter rest more end space = omega (arith, ap length (rest_is more end), length-drop end more, ap length (front_had (codes " ") rest more space))

pub refs_stop : (text rest more : List ℕ) (end : ℕ) (front : List Ref) → refs_in text ≡ with_front front (refs_in rest) → behind (codes " ") rest ≡ Some more → end ≡ word_end more →
    None ≡ ref_in (take end more) → None ≡ refs_in text
refs_stop text rest more end front so_far space is word =
    sym (so_far ∙ ap (λ t. with_front front (refs_in t)) (front_had (codes " ") rest more space) ∙ ap (with_front front) (space_first more)
    ∙ ap (λ n. with_front front (joined (ref_in (take n more)) (refs_in (drop n more)))) (sym is)
    ∙ ap (λ r. with_front front (joined r (refs_in (drop end more)))) (sym word))

pub refs_begin : (text : List ℕ) (front : List Ref) → front ≡ [] → refs_in text ≡ with_front front (refs_in text)
refs_begin text front e = by (refs_in text) ∙ ap (λ l. with_front l (refs_in text)) (sym e)
  where
    by : (r : Option (List Ref)) → r ≡ with_front [] r
    by None = refl
    by (Some refs) = refl

pub refs_end : (text rest : List ℕ) (front : List Ref) → refs_in text ≡ with_front front (refs_in rest) → true ≡ (length rest == 0) → Some front ≡ refs_in text
unfolding refs_in
refs_end text [] front so_far e = sym (so_far ∙ ap Some (append-nil front))
refs_end text (b ∷ rest) front so_far e = let some = some_count (length rest) in cc

pub refs_none : (text rest : List ℕ) (front : List Ref) → refs_in text ≡ with_front front (refs_in rest) → false ≡ (length rest == 0) → behind (codes " ") rest ≡ None → None ≡ refs_in text
unfolding refs_in
refs_none text [] front so_far e space = cc
refs_none text (b ∷ rest) front so_far e space = by (is_space b) refl
  where
    by : (c : Bool) → is_space b ≡ c → None ≡ refs_in text
    by true is = let found : behind (codes " ") (b ∷ rest) ≡ Some rest = rw is refl in cc
    by false is = sym (so_far ∙ rw is refl)
