-- Where bytes are refused that are no UTF-8.
use Rattle.std.proofs.Common.{◌≡◌, ℕ, suc, ◌+◌, ◌<◌, ◌≤◌, List, [], ◌∷◌, ◌++◌, Bool, true, false, Option, Some, None, length, refl, ap, sym, subst, ◌∙◌, arith, nat_lt, take, drop, get_or, append_assoc, append-nil, length-drop, encode_utf8, encode_utf8_all, drop-cons}
use Rattle.std.specs.Char.{len_utf8}
use Rattle.std.specs.Str.{IsUtf8, IsValidUpTo, chars}
use Rattle.std.proofs.lemmas.Bool.{ltb-true}
use Rattle.std.proofs.lemmas.Bool.Decides.{nat_tests}
use Rattle.std.proofs.lemmas.List.{length-take-le}
use Rattle.std.proofs.lemmas.Str.{IsUtf8-append, chars-append, chars-encodes, byte_from_char, encodes-chars, scalars-chars, utf8_valid_len-IsValidUpTo, IsUtf8-encode}
use Rattle.std.proofs.Math.Seq.{take-add, take-length}
use Rattle.std.proofs.Math.Utf8.{scalar}
use Rattle.std.proofs.str.Valid.{of_one, longer}
use Rattle.markup_grammar.specs.declared.Sign.TheVariants as sign
use Rattle.markup_grammar.specs.Signs.{sign_of}
use Rattle.markup_grammar.specs.Machine.{State, begin, step}
use Rattle.markup_grammar.specs.Judge.{Outcome, Reached, Stuck, goes_on, reads, Judged, begun_len, breaks, behind, judged}
use Rattle.markup_grammar.specs.Markup.{MarkupSpells, Begins, BadMarkupPlace}
use Rattle.markup_grammar.proofs.Bytes.{size, size_is, begins, reads_append, next_char}
use Rattle.markup_grammar.proofs.Runs.{both}
use Rattle.plain_tree.specs.Trees.{Trees}
use Rattle.plain_tree.specs.Plains.{Places}
use Rattle.markup_grammar.proofs.Cut.{Partial, IsCut, NoText, is_cut}
use Rattle.markup_grammar.proofs.Places.{Of, stuck_place, wide, other_alike, wide_refused}

-- what some text begins with, its front begins
pub begins_front : (p suffix : List ℕ) → Begins (p ++ suffix) → Begins p
begins_front p suffix g = (suffix ++ g.0, g.1, subst (λ l. MarkupSpells l g.1) (append_assoc p suffix g.0) g.2)

module _ (bytes : List ℕ) (n : ℕ) (v : IsValidUpTo bytes n) where
  front : List ℕ
  front = take n bytes

  cs : List ℕ
  cs = chars (take n bytes)

  is_text : encode_utf8_all (chars (take n bytes)) ≡ take n bytes
  is_text = encodes-chars (take n bytes) v.front

  sized : size (chars (take n bytes)) ≡ n
  sized = sym (size_is (chars (take n bytes))) ∙ ap length is_text ∙ length-take-le n bytes (let s = v.short in omega (arith, s))

  no_text : NoText (drop n bytes)
  no_text w some u = v.longest (n + w) (omega (arith, some)) (longer bytes n w v.front u)

  first : drop n bytes ≡ get_or bytes n 0 ∷ drop (suc n) bytes
  first = drop-cons bytes n 0 v.short

  high : 128 ≤ get_or bytes n 0
  high = pick (nat_lt (get_or bytes n 0) 128) refl
    where
      pick : (t : Bool) → nat_lt (get_or bytes n 0) 128 ≡ t → 128 ≤ get_or bytes n 0
      pick true e = absurd (no_text 1 (omega arith) (of_one bytes n v.short (ltb-true (get_or bytes n 0) 128 e)))
      pick false e = grind (arith, nat_tests, e)

  -- a character that begins with the byte has several
  several : (c : ℕ) (more rest : List ℕ) → get_or bytes n 0 ∷ more ≡ encode_utf8 c ++ rest → 128 ≤ c
  several c more rest e = pick (nat_lt c 128) refl
    where
      pick : (t : Bool) → nat_lt c 128 ≡ t → 128 ≤ c
      pick true t = let q = byte_from_char (get_or bytes n 0 ∷ more) rest c e (ltb-true c 128 t) in let l = ltb-true c 128 t in let h = high in absurd (omega (arith, q, l, h))
      pick false t = grind (arith, nat_tests, t)

  -- the bytes up to n and some more
  taken : (k : ℕ) → take (n + k) bytes ≡ take n bytes ++ take k (drop n bytes)
  taken k = take-add n k bytes

  module _ (st : State) (e : reads begin 0 (chars (take n bytes)) ≡ Reached st) where
    -- some content that goes on with these bytes has a character there
    goes : (more : List ℕ) (ts : Trees Places) → MarkupSpells (take n bytes ++ get_or bytes n 0 ∷ more) ts → (c : ℕ) × (rest : List ℕ) × (get_or bytes n 0 ∷ more ≡ encode_utf8 c ++ rest) × (step st (sign_of c) (record { code = c; at = size (chars (take n bytes)) }) ≡ None → ⊥) × (scalar c ≡ true)
    goes more ts m = next_char (chars (take n bytes)) more (get_or bytes n 0) st ts e (subst (λ l. MarkupSpells (l ++ get_or bytes n 0 ∷ more) ts) (sym is_text) m)

    other_place : step st sign.Other (record { code = 0xFFFD; at = n }) ≡ None → BadMarkupPlace bytes n
    other_place none = record {
      inside = let s = v.short in omega (arith, s);
      begins = begins (take n bytes) st v.front e;
      refused = λ lt g.
          let m : MarkupSpells (take n bytes ++ get_or bytes n 0 ∷ g.0) g.1 = subst (λ l. MarkupSpells l g.1) (one_more g.0) g.2 in
          let d = goes g.0 g.1 m in
          d.3 (wide_refused st d.0 (size (chars (take n bytes))) (record { code = 0xFFFD; at = n }) (several d.0 g.0 d.1 d.2) none);
      cut = λ q. absurd (let s = v.short in omega (arith, s, q));
    }
      where
        next_is : suc n ≡ n + 1
        next_is = omega arith

        one_more : (more : List ℕ) → take (suc n) bytes ++ more ≡ take n bytes ++ get_or bytes n 0 ∷ more
        one_more more = ap (λ m. take m bytes ++ more) next_is ∙ ap (λ l. l ++ more) (taken 1 ∙ ap (λ l. take n bytes ++ take 1 l) first) ∙ append_assoc (take n bytes) (get_or bytes n 0 ∷ []) more

    begun_place : (next : State) → step st sign.Other (record { code = 0xFFFD; at = n }) ≡ Some next → BadMarkupPlace bytes (n + begun_len (drop n bytes))
    begun_place next some = record {
      inside = let w = c.within in let l = length-drop n bytes in let s = v.short in omega (arith, w, l, s);
      begins = begins_of (nat_lt 0 k) refl;
      refused = λ lt g. refused lt g;
      cut = λ q ts m. v.longest (length bytes) v.short (subst IsUtf8 (sym (take-length bytes)) m.0);
    }
      where
        k : ℕ
        k = begun_len (drop n bytes)

        c : IsCut (drop n bytes) (begun_len (drop n bytes))
        c = subst (λ l. IsCut l (begun_len l)) (sym first) (is_cut (get_or bytes n 0) (drop (suc n) bytes) high (subst NoText first no_text))

        -- a character of several bytes goes on
        step_some : (d : ℕ) → 128 ≤ d → (p : ℕ) → (o : Option State) → step st (sign_of d) (record { code = d; at = p }) ≡ o → (last : State) × (step st (sign_of d) (record { code = d; at = p }) ≡ Some last)
        step_some d le p None q = absurd (none_is next (sym (other_alike st (record { code = d; at = p }) (record { code = 0xFFFD; at = n }) (subst (λ s. step st s (record { code = d; at = p }) ≡ None) (wide d le) q)) ∙ some))
          where
            none_is : (s : State) → None ≡ Some s → ⊥
            none_is s h = cc
        step_some d le p (Some last) q = (last, q)

        partly : (p : Partial (take (begun_len (drop n bytes)) (drop n bytes))) → Begins (take (n + begun_len (drop n bytes)) bytes)
        partly p =
            let q = step_some p.0 p.3 (0 + size (chars (take n bytes))) (step st (sign_of p.0) (record { code = p.0; at = 0 + size (chars (take n bytes)) })) refl in
            let all : List ℕ = take n bytes ++ encode_utf8 p.0 in
            let one : IsUtf8 (encode_utf8 p.0) = IsUtf8-encode p.0 p.4 in
            let same : chars (take n bytes ++ encode_utf8 p.0) ≡ chars (take n bytes) ++ p.0 ∷ [] = chars-append (take n bytes) (encode_utf8 p.0) v.front ∙ ap (λ l. chars (take n bytes) ++ l) (ap chars (sym (append-nil (encode_utf8 p.0))) ∙ chars-encodes (p.0 ∷ []) (both p.4 refl)) in
            let reached : reads begin 0 (chars (take n bytes ++ encode_utf8 p.0)) ≡ Reached q.0 = ap (reads begin 0) same ∙ reads_append (chars (take n bytes)) (p.0 ∷ []) begin st 0 e ∙ ap (λ o. goes_on o (0 + size (chars (take n bytes))) (λ s. reads s (0 + size (chars (take n bytes)) + len_utf8 p.0) [])) q.1 in
            let b : Begins (take n bytes ++ encode_utf8 p.0) = begins (take n bytes ++ encode_utf8 p.0) q.0 (IsUtf8-append (take n bytes) (encode_utf8 p.0) v.front one) reached in
            begins_front (take (n + begun_len (drop n bytes)) bytes) p.1 (subst Begins (sym (ap (λ l. l ++ p.1) (taken (begun_len (drop n bytes))) ∙ append_assoc (take n bytes) (take (begun_len (drop n bytes)) (drop n bytes)) p.1 ∙ ap (λ l. take n bytes ++ l) p.2)) b)

        begins_of : (t : Bool) → nat_lt 0 (begun_len (drop n bytes)) ≡ t → Begins (take (n + begun_len (drop n bytes)) bytes)
        begins_of true t = partly (c.begun (ltb-true 0 (begun_len (drop n bytes)) t))
        begins_of false t =
            let z : begun_len (drop n bytes) ≡ 0 = grind (arith, nat_tests, t) in
            let m : n + begun_len (drop n bytes) ≡ n = omega (arith, z) in
            subst (λ p. Begins (take p bytes)) (sym m) (begins (take n bytes) st v.front e)

        next_is : suc (n + begun_len (drop n bytes)) ≡ n + suc (begun_len (drop n bytes))
        next_is = omega arith

        refused : n + begun_len (drop n bytes) < length bytes → Begins (take (suc (n + begun_len (drop n bytes))) bytes) → ⊥
        refused lt g =
            let rest : List ℕ = take (begun_len (drop n bytes)) (drop (suc n) bytes) ++ g.0 in
            let same : take (suc (n + begun_len (drop n bytes))) bytes ++ g.0 ≡ take n bytes ++ get_or bytes n 0 ∷ (take (begun_len (drop n bytes)) (drop (suc n) bytes) ++ g.0) =
            ap (λ m. take m bytes ++ g.0) next_is ∙ ap (λ l. l ++ g.0) (taken (suc (begun_len (drop n bytes)))) ∙ append_assoc (take n bytes) (take (suc (begun_len (drop n bytes))) (drop n bytes)) g.0
            ∙ ap (λ l. take n bytes ++ (take (suc (begun_len (drop n bytes))) l ++ g.0)) first in
            let d = goes (take (begun_len (drop n bytes)) (drop (suc n) bytes) ++ g.0) g.1 (subst (λ l. MarkupSpells l g.1) same g.2) in
            let l = length-drop n bytes in
            c.refused (omega (arith, lt, l)) g.0 d.0 d.1 d.4 (ap (λ l2. take (suc (begun_len (drop n bytes))) l2 ++ g.0) first ∙ d.2)

  pub broken_judged : (j : Judged) → judged bytes ≡ j → Of bytes j
  broken_judged j e = subst (Of bytes) (sym same ∙ e) (of (reads begin 0 (chars (take n bytes))) refl)
    where
      same : judged bytes ≡ behind (reads begin 0 (chars (take n bytes))) n (get_or bytes n 0 ∷ drop (suc n) bytes)
      same = ap (λ m. behind (reads begin 0 (chars (take m bytes))) m (drop m bytes)) (utf8_valid_len-IsValidUpTo bytes n v) ∙ ap (behind (reads begin 0 (chars (take n bytes))) n) first

      broken : (st : State) → reads begin 0 (chars (take n bytes)) ≡ Reached st → (o : Option State) → step st sign.Other (record { code = 0xFFFD; at = n }) ≡ o → Of bytes (breaks o n (get_or bytes n 0 ∷ drop (suc n) bytes))
      broken st r None q = other_place st r q
      broken st r (Some next) q = subst (λ l. BadMarkupPlace bytes (n + begun_len l)) first (begun_place st r next q)

      of : (o : Outcome) → reads begin 0 (chars (take n bytes)) ≡ o → Of bytes (behind o n (get_or bytes n 0 ∷ drop (suc n) bytes))
      of (Reached st) r = broken st r (step st sign.Other (record { code = 0xFFFD; at = n })) refl
      of (Stuck place) r = stuck_place bytes (chars (take n bytes)) n place (let s = v.short in omega (arith, s)) (sym is_text) (scalars-chars (take n bytes) v.front) r
