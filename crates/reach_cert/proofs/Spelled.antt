-- Words and lines read as what they spell, and spell what they are read as.
use Rattle.std.proofs.Common.{◌≡◌, ℕ, suc, ◌+◌, ◌-◌, ◌^◌, ◌<◌, ◌≤◌, Bool, true, false, ◌&&◌, List, [], ◌∷◌, ◌++◌, map, length, take, drop, get_or, refl, sym, ap, ◌∙◌, subst, arith, nat_lt, lt-ltb, Option, Some, None, append-nil, length-append, if◌then◌else◌, add-one}
use Rattle.std.specs.Prelude.{codes, option_and_then, ◌==◌}
use Rattle.std.specs.Fmt.{decimal}
use Rattle.std.specs.List.{list_all, position, position_or_len, slice_split, join_with_byte}
use Rattle.std.specs.Str.{bytes_eq}
use Rattle.std.proofs.lemmas.Bool.{eqb-true}
use Rattle.std.proofs.lemmas.Bool.Decides.{nat_tests}
use Rattle.std.proofs.lemmas.List.{take-append-drop}
use Rattle.std.proofs.lemmas.List.Splits.{join_with_byte-slice_split}
use Rattle.std.proofs.lemmas.List.Sums.{split_at_first, passes_at_first}
use Rattle.std.proofs.lemmas.Slice.Eq.{bytes_eq-Decides}
use Rattle.code_units.proofs.Signs.{and_both}
use Rattle.reach_cert.specs.declared.cert.Ref.{Ref}
use Rattle.reach_cert.specs.declared.cert.Ref.TheVariants.{Host, Raw, Global, Cell}
use Rattle.reach_cert.specs.declared.cert.RowKind.{RowKind}
use Rattle.reach_cert.specs.declared.cert.RowKind.TheVariants.{Object, Array, Function, Bunch}
use Rattle.reach_cert.specs.Certs.{Row, kind_word, ref_word, refs_text}
use Rattle.reach_cert.specs.Shape.{is_name, is_ref, is_row}
use Rattle.reach_cert.specs.Words.{behind, before_feed, is_space, is_colon, word_end, name_in, number_in, cell_of, cell_at, ref_in, joined, each_ref, refs_in, kind_in, row_with, row_in, cell_behind}
use Rattle.reach_cert.proofs.Ends.{at_found}
use Rattle.reach_cert.proofs.Letters.{AllFit, name_fits, name_text, ref_fits, kind_fits}
use Rattle.reach_cert.proofs.Numbers.{number_known, number_only}
use Rattle.reach_cert.proofs.Refs.{split_first, space_first, front_had}

-- ## Fronts

take_front : (xs ys : List ℕ) → take (length xs) (xs ++ ys) ≡ xs
take_front [] ys = refl
take_front (x ∷ xs) ys = ap (λ l. x ∷ l) (take_front xs ys)

drop_front : (xs ys : List ℕ) → drop (length xs) (xs ++ ys) ≡ ys
drop_front [] ys = refl
drop_front (x ∷ xs) ys = drop_front xs ys

drop_one : (xs ys : List ℕ) → drop (suc (length xs)) (xs ++ 58 ∷ ys) ≡ ys
drop_one [] ys = refl
drop_one (x ∷ xs) ys = drop_one xs ys

same_bytes : (xs : List ℕ) → bytes_eq xs xs ≡ true
same_bytes xs = (bytes_eq-Decides xs xs).1 refl

pub behind_front : (front rest : List ℕ) → behind front (front ++ rest) ≡ Some rest
behind_front front rest =
    ap (λ l. if bytes_eq l front then Some (drop (length front) (front ++ rest)) else None) (take_front front rest)
    ∙ ap (λ b. if b then Some (drop (length front) (front ++ rest)) else None) (same_bytes front) ∙ ap Some (drop_front front rest)

pub feed_back : (text : List ℕ) → before_feed (text ++ codes "\n") ≡ Some text
feed_back text =
    let n : length (text ++ 10 ∷ []) - 1 ≡ length text = omega (arith, length-append text (10 ∷ [])) in
    rw (n, drop_front text (10 ∷ []), take_front text (10 ∷ [])) refl

pub feed_had : (line text : List ℕ) → before_feed line ≡ Some text → line ≡ text ++ codes "\n"
feed_had line text = by (bytes_eq (drop (length line - 1) line) (10 ∷ [])) refl
  where
    by : (b : Bool) → bytes_eq (drop (length line - 1) line) (10 ∷ []) ≡ b → (if b then Some (take (length line - 1) line) else None) ≡ Some text → line ≡ text ++ codes "\n"
    by true is e =
        let front : take (length line - 1) line ≡ text = cc in
        sym (take-append-drop (length line - 1) line) ∙ (λ i. front i ++ (bytes_eq-Decides (drop (length line - 1) line) (10 ∷ [])).0 is i)
    by false is e = cc

-- ## References

colon_at : (name rest : List ℕ) → AllFit 65 95 name → position_or_len is_colon (name ++ 58 ∷ rest) ≡ length name
colon_at [] rest f = refl
colon_at (b ∷ name) rest f =
    let far : 65 ≤ b = f.0.from in
    let other : (b == 58) ≡ false = grind (arith, nat_tests) in
    rw other (omega (arith, colon_at name rest (f.1)))

colon_place : (name rest : List ℕ) → AllFit 65 95 name → position is_colon (name ++ 58 ∷ rest) ≡ Some (length name)
colon_place name rest f =
    let at = colon_at name rest f in
    let within : nat_lt (length name) (length (name ++ 58 ∷ rest)) ≡ true = lt-ltb (length name) (length (name ++ 58 ∷ rest)) (omega (arith, length-append name (58 ∷ rest))) in
    rw at (rw within refl)

-- a word with a colon is none without
no_word : (word other : List ℕ) (k : ℕ) → position is_colon word ≡ Some k → position is_colon other ≡ None → bytes_eq word other ≡ false
no_word word other k e f = by (bytes_eq word other) refl
  where
    by : (b : Bool) → bytes_eq word other ≡ b → bytes_eq word other ≡ false
    by false is = is
    by true is = let same : word ≡ other = (bytes_eq-Decides word other).0 is in cc (ap (position is_colon) same)

cell_read : (name : List ℕ) (number : ℕ) → is_name name ≡ true → number < 2 ^ 32 → ref_in (name ++ 58 ∷ decimal number) ≡ Some (Cell name number)
unfolding ref_in
cell_read name number good small =
    let word = name ++ 58 ∷ decimal number in
    let place = colon_place name (decimal number) (name_fits name good) in
    let front = take_front name (58 ∷ decimal number) in
    let back : drop (length name + 1) word ≡ decimal number = rw add-one (drop_one name (decimal number)) in
    rw (no_word word (codes "host") (length name) place refl, no_word word (codes "raw") (length name) place refl, no_word word (codes "global") (length name) place refl)
    (ap (cell_at word) place ∙ (λ i. cell_of (name_in (front i)) (number_in (back i))) ∙ ap (λ b. cell_of (if b then Some name else None) (number_in (decimal number))) good
    ∙ ap (cell_of (Some name)) (number_only (decimal number) number small refl))

pub ref_read : (ref : Ref) → is_ref ref ≡ true → ref_in (ref_word ref) ≡ Some ref
unfolding ref_in
ref_read Host e = refl
ref_read Raw e = refl
ref_read Global e = refl
ref_read (Cell name number) e =
    let both = and_both (is_name name) (nat_lt number (2 ^ 32)) e in
    ap (λ l. ref_in (l ++ 58 ∷ decimal number)) (name_text name (both.0)) ∙ cell_read name number (both.0) (grind (arith, nat_tests, both.1))

-- a word ends where references begin
end_at : (word : List ℕ) (refs : List Ref) → AllFit 48 122 word → word_end (word ++ refs_text refs) ≡ length word
end_at [] [] f = refl
end_at [] (ref ∷ refs) f = refl
end_at (b ∷ word) refs f =
    let far : 48 ≤ b = f.0.from in
    let other : (b == 32) ≡ false = grind (arith, nat_tests) in
    rw other (omega (arith, end_at word refs (f.1)))

pub refs_read : (refs : List Ref) → list_all is_ref refs ≡ true → refs_in (refs_text refs) ≡ Some refs
unfolding refs_in
refs_read [] e = refl
refs_read (ref ∷ refs) e =
    let both = and_both (is_ref ref) (list_all is_ref refs) e in
    let word = ref_word ref in
    let at = end_at word refs (ref_fits ref (both.0)) in
    space_first (word ++ refs_text refs) ∙ ap (λ n. joined (ref_in (take n (word ++ refs_text refs))) (refs_in (drop n (word ++ refs_text refs)))) at
    ∙ (λ i. joined (ref_in (take_front word (refs_text refs) i)) (refs_in (drop_front word (refs_text refs) i)))
    ∙ (λ i. joined (ref_read ref (both.0) i) (refs_read refs (both.1) i))

kind_read : (kind : RowKind) → kind_in (kind_word kind) ≡ Some kind
kind_read Object = refl
kind_read Array = refl
kind_read Function = refl
kind_read Bunch = refl

pub row_read : (row : Row) → is_row row ≡ true → row_in (kind_word row.kind ++ refs_text row.refs) ≡ Some row
unfolding row_in
row_read row e =
    let word = kind_word row.kind in
    let text = word ++ refs_text row.refs in
    ap (λ n. row_with (kind_in (take n text)) (refs_in (drop n text))) (end_at word row.refs (kind_fits row.kind))
    ∙ (λ i. row_with (kind_in (take_front word (refs_text row.refs) i)) (refs_in (drop_front word (refs_text row.refs) i)))
    ∙ (λ i. row_with (kind_read row.kind i) (refs_read row.refs e i))

pub cell_read_behind : (n : ℕ) (rest : List ℕ) → n < 2 ^ 32 → cell_behind n (codes "c " ++ (decimal n ++ 32 ∷ rest)) ≡ Some rest
unfolding cell_behind
cell_read_behind n rest small =
    ap (λ b. if b then option_and_then (λ t. option_and_then (behind (codes " ")) (behind (decimal n) t)) (behind (codes "c ") (codes "c " ++ (decimal n ++ 32 ∷ rest))) else None) (lt-ltb n (2 ^ 32) small)
    ∙ ap (λ o. option_and_then (λ t. option_and_then (behind (codes " ")) (behind (decimal n) t)) o) (behind_front (codes "c ") (decimal n ++ 32 ∷ rest))
    ∙ ap (option_and_then (behind (codes " "))) (behind_front (decimal n) (32 ∷ rest))
    ∙ behind_front (codes " ") rest

-- ## What was read

-- both steps gave something
pub both_some : {A B : Type 0} (f : A → Option B) (o : Option A) (y : B) → option_and_then f o ≡ Some y → (x : A) × (o ≡ Some x) × (f x ≡ Some y)
both_some f None y e = cc
both_some f (Some x) y e = (x, refl, e)

pub record IsRefWord (ref : Ref) (word : List ℕ) : Type 0 where
  pub text : ref_word ref ≡ word
  pub good : is_ref ref ≡ true

cell_had : (word name : List ℕ) (number k : ℕ) → position is_colon word ≡ Some k → is_name name ≡ true → name ≡ take k word → decimal number ≡ drop (k + 1) word → number < 2 ^ 32 → IsRefWord (Cell name number) word
cell_had word name number k place good front back small =
    let at = at_found is_colon word k (sym place) in
    let within : position_or_len is_colon word < length word = omega (arith, at.0, at.1) in
    let whole = split_at_first is_colon word 0 within in
    let colon : get_or word (position_or_len is_colon word) 0 ≡ 58 = eqb-true (get_or word (position_or_len is_colon word) 0) 58 (passes_at_first is_colon word 0 within) in
    record {
      text = ap (λ l. l ++ 58 ∷ decimal number) (name_text name good ∙ front) ∙ (λ i. take ((at.0) i) word ++ (sym colon i ∷ back i)) ∙ ap (λ n. take (position_or_len is_colon word) word ++ get_or word (position_or_len is_colon word) 0 ∷ drop (n + 1) word) (at.0) ∙ sym whole;
      good = (λ i. good i && lt-ltb number (2 ^ 32) small i);
    }

cell_was : (word : List ℕ) (ref : Ref) (k : ℕ) → position is_colon word ≡ Some k → cell_of (name_in (take k word)) (number_in (drop (k + 1) word)) ≡ Some ref → IsRefWord ref word
cell_was word ref k place = by (is_name (take k word)) refl (number_in (drop (k + 1) word)) refl
  where
    by : (b : Bool) → is_name (take k word) ≡ b → (o : Option ℕ) → number_in (drop (k + 1) word) ≡ o → cell_of (if b then Some (take k word) else None) o ≡ Some ref → IsRefWord ref word
    by false is o number e = cc
    by true is None number e = cc
    by true is (Some n) number e =
        let known = number_known (drop (k + 1) word) n number in
        let same : Cell (take k word) n ≡ ref = cc in
        subst (λ r. IsRefWord r word) same (cell_had word (take k word) n k place is refl (known.0) (known.1))

named_was : (word : List ℕ) (ref : Ref) → (o : Option ℕ) → position is_colon word ≡ o → cell_at word o ≡ Some ref → IsRefWord ref word
named_was word ref None place e = cc
named_was word ref (Some k) place e = cell_was word ref k place e

pub ref_was : (word : List ℕ) (ref : Ref) → ref_in word ≡ Some ref → IsRefWord ref word
unfolding ref_in
ref_was word ref = by (bytes_eq word (codes "host")) (bytes_eq word (codes "raw")) (bytes_eq word (codes "global")) refl refl refl
  where
    by : (a b d : Bool) → bytes_eq word (codes "host") ≡ a → bytes_eq word (codes "raw") ≡ b → bytes_eq word (codes "global") ≡ d →
        (if a then Some Host else if b then Some Raw else if d then Some Global else cell_at word (position is_colon word)) ≡ Some ref → IsRefWord ref word
    by true b d ha hb hd e = let same : Host ≡ ref = cc in subst (λ r. IsRefWord r word) same (record { text = sym ((bytes_eq-Decides word (codes "host")).0 ha); good = refl })
    by false true d ha hb hd e = let same : Raw ≡ ref = cc in subst (λ r. IsRefWord r word) same (record { text = sym ((bytes_eq-Decides word (codes "raw")).0 hb); good = refl })
    by false false true ha hb hd e = let same : Global ≡ ref = cc in subst (λ r. IsRefWord r word) same (record { text = sym ((bytes_eq-Decides word (codes "global")).0 hd); good = refl })
    by false false false ha hb hd e = named_was word ref (position is_colon word) refl e

pub record AreRefs (refs : List Ref) (text : List ℕ) : Type 0 where
  pub text_is : refs_text refs ≡ text
  pub good : list_all is_ref refs ≡ true

record AreWords (refs : List Ref) (words : List (List ℕ)) : Type 0 where
  same : map ref_word refs ≡ words
  good : list_all is_ref refs ≡ true

words_were : (words : List (List ℕ)) (refs : List Ref) → each_ref words ≡ Some refs → AreWords refs words
words_were [] refs e = let none : [] ≡ refs = cc in subst (λ r. AreWords r []) none (record { same = refl; good = refl })
words_were (word ∷ words) refs e = by (ref_in word) refl (each_ref words) refl (λ more. words_were words more) e
  where
    by : (o : Option Ref) → ref_in word ≡ o → (os : Option (List Ref)) → each_ref words ≡ os → ((more : List Ref) → each_ref words ≡ Some more → AreWords more words) → joined o os ≡ Some refs → AreWords refs (word ∷ words)
    by None first os rest tail f = cc
    by (Some ref) first None rest tail f = cc
    by (Some ref) first (Some more) rest tail f =
        let same : ref ∷ more ≡ refs = cc in
        let here = ref_was word ref first in
        let there = tail more rest in
        subst (λ r. AreWords r (word ∷ words)) same (record { same = (λ i. here.text i ∷ there.same i); good = (λ i. here.good i && there.good i) })

-- references with a space before each, and words with one between each two
spaced_join : (ref : Ref) (refs : List Ref) → refs_text (ref ∷ refs) ≡ 32 ∷ join_with_byte 32 (map ref_word (ref ∷ refs))
spaced_join ref [] = ap (λ l. 32 ∷ l) (append-nil (ref_word ref))
spaced_join ref (other ∷ refs) = ap (λ l. 32 ∷ (ref_word ref ++ l)) (spaced_join other refs)

split_were : (text : List ℕ) (refs : List Ref) → AreWords refs (slice_split is_space text) → AreRefs refs (32 ∷ text)
split_were text [] w = let some = split_first text in let none = w.same in cc
split_were text (ref ∷ refs) w =
    record { text_is = spaced_join ref refs ∙ ap (λ l. 32 ∷ join_with_byte 32 l) w.same ∙ ap (λ l. 32 ∷ l) (join_with_byte-slice_split 32 text); good = w.good }

pub refs_were : (text : List ℕ) (refs : List Ref) → refs_in text ≡ Some refs → AreRefs refs text
unfolding refs_in
refs_were [] refs e = let none : [] ≡ refs = cc in subst (λ r. AreRefs r []) none (record { text_is = refl; good = refl })
refs_were (b ∷ text) refs e = by (is_space b) refl e
  where
    by : (c : Bool) → is_space b ≡ c → (if c then each_ref (slice_split is_space text) else None) ≡ Some refs → AreRefs refs (b ∷ text)
    by false is f = cc
    by true is f =
        let space : b ≡ 32 = eqb-true b 32 is in
        subst (λ x. AreRefs refs (x ∷ text)) (sym space) (split_were text refs (words_were (slice_split is_space text) refs f))

kind_was : (word : List ℕ) (kind : RowKind) → kind_in word ≡ Some kind → kind_word kind ≡ word
kind_was word kind = by (bytes_eq word (codes "object")) (bytes_eq word (codes "array")) (bytes_eq word (codes "function")) (bytes_eq word (codes "bunch")) refl refl refl refl
  where
    by : (a b d f : Bool) → bytes_eq word (codes "object") ≡ a → bytes_eq word (codes "array") ≡ b → bytes_eq word (codes "function") ≡ d → bytes_eq word (codes "bunch") ≡ f →
        (if a then Some Object else if b then Some Array else if d then Some Function else if f then Some Bunch else None) ≡ Some kind → kind_word kind ≡ word
    by true b d f ha hb hd hf e = let same : Object ≡ kind = cc in ap kind_word (sym same) ∙ sym ((bytes_eq-Decides word (codes "object")).0 ha)
    by false true d f ha hb hd hf e = let same : Array ≡ kind = cc in ap kind_word (sym same) ∙ sym ((bytes_eq-Decides word (codes "array")).0 hb)
    by false false true f ha hb hd hf e = let same : Function ≡ kind = cc in ap kind_word (sym same) ∙ sym ((bytes_eq-Decides word (codes "function")).0 hd)
    by false false false true ha hb hd hf e = let same : Bunch ≡ kind = cc in ap kind_word (sym same) ∙ sym ((bytes_eq-Decides word (codes "bunch")).0 hf)
    by false false false false ha hb hd hf e = cc

pub record IsRowText (row : Row) (text : List ℕ) : Type 0 where
  pub text_is : kind_word row.kind ++ refs_text row.refs ≡ text
  pub good : is_row row ≡ true

pub row_was : (text : List ℕ) (row : Row) → row_in text ≡ Some row → IsRowText row text
unfolding row_in
row_was text row = by (kind_in (take (word_end text) text)) refl (refs_in (drop (word_end text) text)) refl
  where
    by : (k : Option RowKind) → kind_in (take (word_end text) text) ≡ k → (o : Option (List Ref)) → refs_in (drop (word_end text) text) ≡ o → row_with k o ≡ Some row → IsRowText row text
    by None first o rest e = cc
    by (Some kind) first None rest e = cc
    by (Some kind) first (Some refs) rest e =
        let made : Row = record { kind = kind; refs = refs } in
        let same : made ≡ row = cc in
        let behind_kind = refs_were (drop (word_end text) text) refs rest in
        subst (λ r. IsRowText r text) same
        (record { text_is = (λ i. kind_was (take (word_end text) text) kind first i ++ behind_kind.text_is i) ∙ take-append-drop (word_end text) text; good = behind_kind.good })

pub cell_was_behind : (n : ℕ) (text rest : List ℕ) → cell_behind n text ≡ Some rest → (text ≡ codes "c " ++ (decimal n ++ 32 ∷ rest)) × (n < 2 ^ 32)
unfolding cell_behind
cell_was_behind n text rest = by (nat_lt n (2 ^ 32)) refl
  where
    by : (b : Bool) → nat_lt n (2 ^ 32) ≡ b → (if b then option_and_then (λ t. option_and_then (behind (codes " ")) (behind (decimal n) t)) (behind (codes "c ") text) else None) ≡ Some rest → (text ≡ codes "c " ++ (decimal n ++ 32 ∷ rest)) × (n < 2 ^ 32)
    by false is e = cc
    by true is e =
        let one = both_some (λ t. option_and_then (behind (codes " ")) (behind (decimal n) t)) (behind (codes "c ") text) rest e in
        let two = both_some (behind (codes " ")) (behind (decimal n) (one.0)) rest (one.2) in (
          front_had (codes "c ") text (one.0) (one.1) ∙ ap (λ l. codes "c " ++ l) (front_had (decimal n) (one.0) (two.0) (two.1) ∙ ap (λ l. decimal n ++ l) (front_had (codes " ") (two.0) rest (two.2))),
          grind (arith, nat_tests, is),
        )
