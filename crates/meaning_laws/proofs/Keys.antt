-- A string that is read of JSON is UTF-8, and has no more 16-bit units than the text.
use Rattle.std.proofs.Common.{◌≡◌, ℕ, zero, suc, ◌+◌, ◌*◌, ◌/◌, ◌%◌, ◌<◌, ◌≤◌, ◌⊎◌, inl, inr, Bool, true, false, cond, List, [], ◌∷◌, ◌++◌, length, refl, sym, ap, ◌∙◌, subst, arith, nat_lt, ltb-true, map, encode_utf8_all}
use Rattle.std.specs.Prelude.{Option, Some, None, option_and_then, nat_le, ◌==◌, ◌&&◌, ◌||◌, ⊤, unwrap_or, if◌then◌else◌}
use Rattle.std.specs.List.{AllByRecursion}
use Rattle.std.specs.Str.{all_scalars, chars}
use Rattle.std.specs.Char.{digit_value, is_digit, encode_utf8}
use Rattle.std.specs.Char.Escape.{encode_utf16}
use Rattle.std.specs.Char.Utf16.{utf16_chars, utf16_lossy_chars, lone_unit_char, surrogate_pair_char}
use Rattle.std.specs.Char.Utf16 as utf16
use Rattle.std.proofs.Math.Utf8.{scalar, low_scalar}
use Rattle.std.proofs.lemmas.Bool.{and_parts, or_cases, eqb-true, ltb-false, ne_eqb, le-ltb, leb-true}
use Rattle.std.proofs.lemmas.Bool.Decides.{nat_tests}
use Rattle.std.proofs.lemmas.List.{length-append, append_assoc}
use Rattle.std.proofs.lemmas.Str.{encode_ascii, chars-encodes}
use Rattle.code_units.specs.Utf8.{units_of, units_of_chars, utf8_of}
use Rattle.json.specs.Ascii as ascii
use Rattle.json.specs.Text.{code_unit, short_escape, is_high_surrogate, is_low_surrogate, surrogate_pair, Within, plain, after_backslash, after_u, after_high, prepend, content}
use Rattle.widget_meaning.specs.Limits.{past_units}

abbrev Count : List ℕ → ℕ
Count cs = length (units_of_chars cs)

-- the UTF-8 of characters that have so many units at most
pub record Whole (n : ℕ) (xs : List ℕ) : Type 0 where
  pub points : List ℕ
  pub scalars : all_scalars points ≡ true
  pub is : encode_utf8_all points ≡ xs
  pub few : length (units_of_chars points) ≤ n

abbrev AllHigh : List ℕ → Type 0
AllHigh bs = AllByRecursion (λ b. 128 ≤ b) bs

-- ## Characters

both_so : (a b : Bool) → a ≡ true → b ≡ true → (a && b) ≡ true
both_so a b e f = rw (e, f) refl

clash : {A : Type 0} → true ≡ false → A
clash e = absurd (no e)
  where
    no : true ≡ false → ⊥
    no i = cc

count_more : (c : ℕ) (cs : List ℕ) → Count (c ∷ cs) ≡ length (encode_utf16 c) + Count cs
count_more c cs = length-append (encode_utf16 c) (units_of_chars cs)

at_least_one : (c : ℕ) → 1 ≤ length (encode_utf16 c)
at_least_one c = grind arith

at_most_two : (c : ℕ) → length (encode_utf16 c) ≤ 2
at_most_two c = grind arith

narrow_one : (c : ℕ) → c < 65536 → length (encode_utf16 c) ≤ 1
narrow_one c h = grind (arith, h)

high_bytes : (c : ℕ) → 128 ≤ c → AllHigh (encode_utf8 c)
unfolding encode_utf8
high_bytes c h = by (nat_lt c 128) (nat_lt c 2048) (nat_lt c 65536) refl
  where
    by : (x y z : Bool) → nat_lt c 128 ≡ x → AllHigh (cond x (c ∷ []) (cond y ((192 + c / 64) ∷ (128 + c % 64) ∷ []) (cond z ((224 + c / 4096) ∷ (128 + c / 64 % 64) ∷ (128 + c % 64) ∷ []) ((240 + c / 262144) ∷ (128 + c / 4096 % 64) ∷ (128 + c / 64 % 64) ∷ (128 + c % 64) ∷ []))))
    by true y z e = (h, tt)
    by false true z e = (omega arith, (omega arith, tt))
    by false false true e = (omega arith, (omega arith, (omega arith, tt)))
    by false false false e = (omega arith, (omega arith, (omega arith, (omega arith, tt))))

some_bytes : (c : ℕ) → 1 ≤ length (encode_utf8 c)
unfolding encode_utf8
some_bytes c = grind arith

-- what stands first: an ASCII byte, or a longer character
record Low (n x : ℕ) (xs : List ℕ) : Type 0 where
  small : x < 128
  left : ℕ
  rest : Whole left xs
  fewer : left + 1 ≤ n

record High (n x : ℕ) (xs : List ℕ) : Type 0 where
  point : ℕ
  scalars : scalar point ≡ true
  more : List ℕ
  behind : List ℕ
  first : encode_utf8 point ≡ x ∷ more
  is : xs ≡ more ++ behind
  high : 128 ≤ x
  others : AllHigh more
  left : ℕ
  rest : Whole left behind
  fewer : left + length (encode_utf16 point) ≤ n

same_head : (a b : ℕ) (xs ys : List ℕ) → a ∷ xs ≡ b ∷ ys → a ≡ b
same_head a b xs ys e = cc

same_tail : (a b : ℕ) (xs ys : List ℕ) → a ∷ xs ≡ b ∷ ys → xs ≡ ys
same_tail a b xs ys e = cc

nothing_first : {A : Type 0} (x : ℕ) (xs : List ℕ) → [] ≡ x ∷ xs → A
nothing_first x xs e = absurd (no e)
  where
    no : [] ≡ x ∷ xs → ⊥
    no i = cc

module _ (n x : ℕ) (xs : List ℕ) where
  low_view : (c : ℕ) (cs : List ℕ) → c < 128 → all_scalars cs ≡ true → encode_utf8_all (c ∷ cs) ≡ x ∷ xs → Count (c ∷ cs) ≤ n → Low n x xs
  low_view c cs l s e f =
      let i : c ∷ encode_utf8_all cs ≡ x ∷ xs = ap (λ bs. bs ++ encode_utf8_all cs) (sym (encode_ascii c l)) ∙ e in
      record {
        small = subst (λ y. y < 128) (same_head c x (encode_utf8_all cs) xs i) l;
        left = Count cs;
        rest = record { points = cs; scalars = s; is = same_tail c x (encode_utf8_all cs) xs i; few = same (Count cs) };
        fewer = omega (arith, f, count_more c cs, at_least_one c);
      }
    where
      same : (i : ℕ) → i ≤ i
      same i = omega arith

  high_view : (c : ℕ) (cs bs : List ℕ) → encode_utf8 c ≡ bs → 128 ≤ c → scalar c ≡ true → all_scalars cs ≡ true → bs ++ encode_utf8_all cs ≡ x ∷ xs → Count (c ∷ cs) ≤ n → High n x xs
  high_view c cs [] b l v s e f = absurd (omega (arith, some_bytes c, ap length b))
  high_view c cs (y ∷ ys) b l v s e f =
      let all : AllHigh (y ∷ ys) = subst AllHigh b (high_bytes c l) in
      let h : y ≡ x = same_head y x (ys ++ encode_utf8_all cs) xs e in
      record {
        point = c;
        scalars = v;
        more = ys;
        behind = encode_utf8_all cs;
        first = b ∙ ap (λ z. z ∷ ys) h;
        is = sym (same_tail y x (ys ++ encode_utf8_all cs) xs e);
        high = subst (λ z. 128 ≤ z) h all.0;
        others = all.1;
        left = Count cs;
        rest = record { points = cs; scalars = s; is = refl; few = same (Count cs) };
        fewer = omega (arith, f, count_more c cs);
      }
    where
      same : (i : ℕ) → i ≤ i
      same i = omega arith

  point_view : (cs : List ℕ) → all_scalars cs ≡ true → encode_utf8_all cs ≡ x ∷ xs → Count cs ≤ n → Low n x xs ⊎ High n x xs
  point_view [] s e f = nothing_first x xs e
  point_view (c ∷ cs) s e f = let p = and_parts (scalar c) (all_scalars cs) s in by (nat_lt c 128) refl p.0 p.1
    where
      by : (b : Bool) → nat_lt c 128 ≡ b → scalar c ≡ true → all_scalars cs ≡ true → Low n x xs ⊎ High n x xs
      by true i v w = inl (low_view c cs (ltb-true c 128 i) w e f)
      by false i v w = inr (high_view c cs (encode_utf8 c) refl (ltb-false c 128 i) v w e f)

  view : Whole n (x ∷ xs) → Low n x xs ⊎ High n x xs
  view w = point_view w.points w.scalars w.is w.few

not_both : {A : Type 0} (x : ℕ) → x < 128 → 128 ≤ x → A
not_both x l h = absurd (omega (arith, l, h))

drop_low : (n x : ℕ) (xs : List ℕ) → x < 128 → Whole n (x ∷ xs) → Low n x xs
drop_low n x xs l w = by (view n x xs w)
  where
    by : Low n x xs ⊎ High n x xs → Low n x xs
    by (inl v) = v
    by (inr v) = not_both x l v.high

-- ## Contents

abbrev pub OfContent : ℕ → Option (List ℕ) → Type 0
OfContent n None = ⊤
OfContent n (Some s) = Whole n s

abbrev OfUnit : (ℕ → Type 0) → Option ℕ → Type 0
OfUnit P None = ⊤
OfUnit P (Some u) = P u

abbrev Fits : Within → Type 0
Fits plain = ⊤
Fits after_backslash = ⊤
Fits after_u = ⊤
Fits (after_high h) = (0xD800 ≤ h) × (h < 0xDC00)

either : (n : ℕ) (b : Bool) (x y : Option (List ℕ)) → (b ≡ true → OfContent n x) → (b ≡ false → OfContent n y) → OfContent n (cond b x y)
either n true x y f g = f refl
either n false x y f g = g refl

and_so : (n : ℕ) (P : ℕ → Type 0) (f : ℕ → Option (List ℕ)) (o : Option ℕ) → OfUnit P o → ((u : ℕ) → P u → OfContent n (f u)) → OfContent n (option_and_then f o)
and_so n P f None h k = tt
and_so n P f (Some u) h k = k u h

wider : (m n : ℕ) (r : Option (List ℕ)) → m ≤ n → OfContent m r → OfContent n r
wider m n None l h = tt
wider m n (Some s) l h = record { points = h.points; scalars = h.scalars; is = h.is; few = omega (arith, l, h.few) }

-- a character before the rest
put : (n m c : ℕ) (bs : List ℕ) (r : Option (List ℕ)) → scalar c ≡ true → encode_utf8 c ≡ bs → m + length (encode_utf16 c) ≤ n → OfContent m r → OfContent n (prepend bs r)
put n m c bs None s e l h = tt
put n m c bs (Some k) s e l h = record {
  points = c ∷ h.points;
  scalars = both_so (scalar c) (all_scalars h.points) s h.scalars;
  is = ap (λ xs. xs ++ encode_utf8_all h.points) e ∙ ap (λ xs. bs ++ xs) h.is;
  few = omega (arith, l, h.few, count_more c h.points);
}

not_same : (x c : ℕ) → 128 ≤ x → c < 128 → x ≡ c → ⊥
not_same x c h l e = omega (arith, h, l, e)

prepend_nil : (r : Option (List ℕ)) → prepend [] r ≡ r
prepend_nil None = refl
prepend_nil (Some s) = refl

prepend_both : (a b : List ℕ) (r : Option (List ℕ)) → prepend a (prepend b r) ≡ prepend (a ++ b) r
prepend_both a b None = refl
prepend_both a b (Some s) = ap Some (sym (append_assoc a b s))

-- bytes of longer characters stand for themselves
skip : (bs ys : List ℕ) → AllHigh bs → content plain (bs ++ ys) ≡ prepend bs (content plain ys)
unfolding content
skip [] ys h = sym (prepend_nil (content plain ys))
skip (b ∷ bs) ys h =
    (λ i. cond (ne_eqb b 34 (λ e. not_same b 34 h.0 (omega arith) e) i) (Some []) (cond (ne_eqb b 92 (λ e. not_same b 92 h.0 (omega arith) e) i) (content after_backslash (bs ++ ys))
    (cond (le-ltb b 32 (far b h.0) i) None (prepend (b ∷ []) (skip bs ys h.1 i)))))
    ∙ prepend_both (b ∷ []) bs (content plain ys)
  where
    far : (y : ℕ) → 128 ≤ y → 32 ≤ y
    far y l = omega (arith, l)

short_is : (x : ℕ) → x < 128 → OfUnit (λ d. d < 128) (short_escape x)
unfolding short_escape
short_is x h = by ((x == ascii.quote) || (x == ascii.backslash) || (x == ascii.slash)) (x == ascii.lower_b) (x == ascii.lower_f) (x == ascii.lower_n) (x == ascii.lower_r) (x == ascii.lower_t)
  where
    by : (a b c d e f : Bool) → OfUnit (λ u. u < 128) (cond a (Some x) (cond b (Some ascii.backspace) (cond c (Some ascii.form_feed) (cond d (Some ascii.line_feed) (cond e (Some ascii.carriage_return) (cond f (Some ascii.tab) None))))))
    by true b c d e f = h
    by false true c d e f = omega arith
    by false false true d e f = omega arith
    by false false false true e f = omega arith
    by false false false false true f = omega arith
    by false false false false false true = omega arith
    by false false false false false false = tt

no_match : (x c : ℕ) → 128 ≤ x → nat_lt c 128 ≡ true → (x == c) ≡ true → ⊥
no_match x c h l e = not_same x c h (ltb-true c 128 l) (eqb-true x c e)

no_short : (x : ℕ) → 128 ≤ x → OfUnit (λ d. ⊥) (short_escape x)
unfolding short_escape
no_short x h = by ((x == ascii.quote) || (x == ascii.backslash) || (x == ascii.slash)) (x == ascii.lower_b) (x == ascii.lower_f) (x == ascii.lower_n) (x == ascii.lower_r) (x == ascii.lower_t) refl refl refl refl refl refl
  where
    first : ((x == ascii.quote) || (x == ascii.backslash) || (x == ascii.slash)) ≡ true → ⊥
    first e = three (or_cases ((x == ascii.quote) || (x == ascii.backslash)) (x == ascii.slash) e)
      where
        two : ((x == ascii.quote) ≡ true) ⊎ ((x == ascii.backslash) ≡ true) → ⊥
        two (inl i) = no_match x ascii.quote h refl i
        two (inr i) = no_match x ascii.backslash h refl i

        three : (((x == ascii.quote) || (x == ascii.backslash)) ≡ true) ⊎ ((x == ascii.slash) ≡ true) → ⊥
        three (inl i) = two (or_cases (x == ascii.quote) (x == ascii.backslash) i)
        three (inr i) = no_match x ascii.slash h refl i

    by : (a b c d e f : Bool) → ((x == ascii.quote) || (x == ascii.backslash) || (x == ascii.slash)) ≡ a → (x == ascii.lower_b) ≡ b → (x == ascii.lower_f) ≡ c → (x == ascii.lower_n) ≡ d → (x == ascii.lower_r) ≡ e → (x == ascii.lower_t) ≡ f
        → OfUnit (λ u. ⊥) (cond a (Some x) (cond b (Some ascii.backspace) (cond c (Some ascii.form_feed) (cond d (Some ascii.line_feed) (cond e (Some ascii.carriage_return) (cond f (Some ascii.tab) None))))))
    by true b c d e f i j k l m o = first i
    by false true c d e f i j k l m o = no_match x ascii.lower_b h refl j
    by false false true d e f i j k l m o = no_match x ascii.lower_f h refl k
    by false false false true e f i j k l m o = no_match x ascii.lower_n h refl l
    by false false false false true f i j k l m o = no_match x ascii.lower_r h refl m
    by false false false false false true i j k l m o = no_match x ascii.lower_t h refl o
    by false false false false false false i j k l m o = tt

-- four hexadecimal digits are ASCII
record Hex (a b c d u : ℕ) : Type 0 where
  low : u < 65536
  first : a < 128
  second : b < 128
  third : c < 128
  fourth : d < 128

digit_low : (a : ℕ) → digit_value a < 16 → a < 128
digit_low a h = grind (arith, h)

hex_sum : (i j k l : ℕ) → i < 16 → j < 16 → k < 16 → l < 16 → i * 4096 + j * 256 + k * 16 + l < 65536
hex_sum i j k l w x y z = omega (arith, w, x, y, z)

hex_is : (a b c d : ℕ) → OfUnit (Hex a b c d) (code_unit a b c d)
unfolding code_unit
hex_is a b c d = by (is_digit a 16 && is_digit b 16 && is_digit c 16 && is_digit d 16) refl
  where
    by : (t : Bool) → (is_digit a 16 && is_digit b 16 && is_digit c 16 && is_digit d 16) ≡ t → OfUnit (Hex a b c d) (cond t (Some (digit_value a * 4096 + digit_value b * 256 + digit_value c * 16 + digit_value d)) None)
    by false e = tt
    by true e =
        let p = and_parts (is_digit a 16 && is_digit b 16 && is_digit c 16) (is_digit d 16) e in
        let q = and_parts (is_digit a 16 && is_digit b 16) (is_digit c 16) p.0 in
        let r = and_parts (is_digit a 16) (is_digit b 16) q.0 in
        let i = ltb-true (digit_value a) 16 r.0 in
        let j = ltb-true (digit_value b) 16 r.1 in
        let k = ltb-true (digit_value c) 16 q.1 in
        let l = ltb-true (digit_value d) 16 p.1 in
        record { low = hex_sum (digit_value a) (digit_value b) (digit_value c) (digit_value d) i j k l; first = digit_low a i; second = digit_low b j; third = digit_low c k; fourth = digit_low d l }

lone_is : (u : ℕ) → u < 65536 → is_high_surrogate u ≡ false → is_low_surrogate u ≡ false → scalar u ≡ true
lone_is u h e f = grind (arith, nat_tests, h, e, f)

pair_is : (h l : ℕ) → 0xD800 ≤ h → h < 0xDC00 → is_low_surrogate l ≡ true → scalar (surrogate_pair h l) ≡ true
pair_is h l i j e =
    let p = and_parts (nat_le 0xDC00 l) (nat_lt l 0xE000) e in
    above (surrogate_pair h l) (omega (arith, i, j, leb-true 0xDC00 l p.0, ltb-true l 0xE000 p.1)) (omega (arith, i, j, leb-true 0xDC00 l p.0, ltb-true l 0xE000 p.1))
  where
    above : (c : ℕ) → 0xE000 ≤ c → c < 0x11_0000 → scalar c ≡ true
    above c low high = grind (arith, nat_tests)

high_is : (u : ℕ) → is_high_surrogate u ≡ true → (0xD800 ≤ u) × (u < 0xDC00)
high_is u e = let p = and_parts (nat_le 0xD800 u) (nat_lt u 0xDC00) e in (leb-true 0xD800 u p.0, ltb-true u 0xDC00 p.1)

pub content_whole : (k : ℕ) (w : Within) (n : ℕ) (xs : List ℕ) → Fits w → Whole n xs → length xs ≤ k → OfContent n (content w xs)
unfolding content
content_whole k plain n [] f w l = tt
content_whole k after_backslash n [] f w l = tt
content_whole k after_u n [] f w l = tt
content_whole k (after_high h) n [] f w l = tt
content_whole zero plain n (x ∷ xs) f w l = absurd (omega (arith, l))
content_whole zero after_backslash n (x ∷ xs) f w l = absurd (omega (arith, l))
content_whole zero after_u n (x ∷ xs) f w l = absurd (omega (arith, l))
content_whole zero (after_high h) n (x ∷ xs) f w l = absurd (omega (arith, l))
content_whole (suc k) plain n (x ∷ xs) f w l = by (view n x xs w) (λ v u i. content_whole k v u xs i) (λ u ys i j. content_whole k plain u ys tt i j)
  where
    by : Low n x xs ⊎ High n x xs → ((v : Within) (u : ℕ) → Fits v → Whole u xs → length xs ≤ k → OfContent u (content v xs)) → ((u : ℕ) (ys : List ℕ) → Whole u ys → length ys ≤ k → OfContent u (content plain ys)) → OfContent n (content plain (x ∷ xs))
    by (inl v) go on = either n (x == 34) _ _ (λ e. record { points = []; scalars = refl; is = refl; few = omega arith })
        (λ e. either n (x == 92) _ _ (λ i. wider v.left n _ (omega (arith, v.fewer)) (go after_backslash v.left tt v.rest (omega (arith, l))))
        (λ i. either n (nat_lt x 32) None _ (λ j. tt) (λ j. put n v.left x (x ∷ []) (content plain xs) (low_scalar x (omega (arith, v.small))) (encode_ascii x v.small) (omega (arith, v.fewer, narrow_one x (omega (arith, v.small)))) (go plain v.left tt v.rest (omega (arith, l))))))
    by (inr v) go on =
        subst (λ ys. OfContent n (content plain (x ∷ ys))) (sym v.is) (subst (OfContent n) (sym (skip (x ∷ v.more) v.behind (v.high, v.others)))
        (put n v.left v.point (x ∷ v.more) (content plain v.behind) v.scalars v.first v.fewer (on v.left v.behind v.rest (omega (arith, l, ap length v.is, length-append v.more v.behind)))))
content_whole (suc k) after_backslash n (x ∷ xs) f w l = by (view n x xs w) (λ v u i. content_whole k v u xs i)
  where
    by : Low n x xs ⊎ High n x xs → ((v : Within) (u : ℕ) → Fits v → Whole u xs → length xs ≤ k → OfContent u (content v xs)) → OfContent n (content after_backslash (x ∷ xs))
    by (inl v) go = either n (x == 117) _ _ (λ e. wider v.left n _ (omega (arith, v.fewer)) (go after_u v.left tt v.rest (omega (arith, l))))
        (λ e. and_so n (λ d. d < 128) _ (short_escape x) (short_is x v.small) (λ d q. put n v.left d (d ∷ []) (content plain xs) (low_scalar d (omega (arith, q))) (encode_ascii d q) (omega (arith, v.fewer, narrow_one d (omega (arith, q)))) (go plain v.left tt v.rest (omega (arith, l)))))
    by (inr v) go = either n (x == 117) _ _ (λ e. absurd (no_match x 117 v.high refl e)) (λ e. and_so n (λ d. ⊥) _ (short_escape x) (no_short x v.high) (λ d q. absurd q))
content_whole (suc k) after_u n (a ∷ []) f w l = tt
content_whole (suc k) after_u n (a ∷ b ∷ []) f w l = tt
content_whole (suc k) after_u n (a ∷ b ∷ c ∷ []) f w l = tt
content_whole (suc k) after_u n (a ∷ b ∷ c ∷ d ∷ xs) f w l = and_so n (Hex a b c d) _ (code_unit a b c d) (hex_is a b c d) (λ u q.
    let p1 = drop_low n a (b ∷ c ∷ d ∷ xs) q.first w in
    let p2 = drop_low p1.left b (c ∷ d ∷ xs) q.second p1.rest in
    let p3 = drop_low p2.left c (d ∷ xs) q.third p2.rest in
    let p4 = drop_low p3.left d xs q.fourth p3.rest in
    either n (is_high_surrogate u) _ _ (λ e. wider p4.left n _ (omega (arith, p1.fewer, p2.fewer, p3.fewer, p4.fewer)) (content_whole k (after_high u) p4.left xs (high_is u e) p4.rest (omega (arith, l))))
    (λ e. either n (is_low_surrogate u) None _ (λ i. tt) (λ i. put n p4.left u (encode_utf8 u) (content plain xs) (lone_is u q.low e i) refl (omega (arith, p1.fewer, p2.fewer, p3.fewer, p4.fewer, at_most_two u)) (content_whole k plain p4.left xs tt p4.rest (omega (arith, l))))))
content_whole (suc k) (after_high h) n (s ∷ []) f w l = tt
content_whole (suc k) (after_high h) n (s ∷ u ∷ []) f w l = tt
content_whole (suc k) (after_high h) n (s ∷ u ∷ a ∷ []) f w l = tt
content_whole (suc k) (after_high h) n (s ∷ u ∷ a ∷ b ∷ []) f w l = tt
content_whole (suc k) (after_high h) n (s ∷ u ∷ a ∷ b ∷ c ∷ []) f w l = tt
content_whole (suc k) (after_high h) n (s ∷ u ∷ a ∷ b ∷ c ∷ d ∷ xs) f w l = either n ((s == 92) && (u == 117)) _ None (λ e.
    let z = and_parts (s == 92) (u == 117) e in
    let r1 = drop_low n s (u ∷ a ∷ b ∷ c ∷ d ∷ xs) (below s 92 refl z.0) w in
    let r2 = drop_low r1.left u (a ∷ b ∷ c ∷ d ∷ xs) (below u 117 refl z.1) r1.rest in
    and_so n (Hex a b c d) _ (code_unit a b c d) (hex_is a b c d) (λ v q.
    let p1 = drop_low r2.left a (b ∷ c ∷ d ∷ xs) q.first r2.rest in
    let p2 = drop_low p1.left b (c ∷ d ∷ xs) q.second p1.rest in
    let p3 = drop_low p2.left c (d ∷ xs) q.third p2.rest in
    let p4 = drop_low p3.left d xs q.fourth p3.rest in
    either n (is_low_surrogate v) _ None (λ i. put n p4.left (surrogate_pair h v) (encode_utf8 (surrogate_pair h v)) (content plain xs) (pair_is h v f.0 f.1 i) refl (omega (arith, r1.fewer, r2.fewer, p1.fewer, p2.fewer, p3.fewer, p4.fewer, at_most_two (surrogate_pair h v))) (content_whole k plain p4.left xs tt p4.rest (omega (arith, l))))
    (λ i. tt))) (λ e. tt)
  where
    below : (y c : ℕ) → nat_lt c 128 ≡ true → (y == c) ≡ true → y < 128
    below y c t e = subst (λ z. z < 128) (sym (eqb-true y c e)) (ltb-true c 128 t)

-- ## Where strings begin

-- what is left of a character, and then characters
pub record Aligned (n : ℕ) (xs : List ℕ) : Type 0 where
  pub tail : List ℕ
  pub high : AllByRecursion (λ b. 128 ≤ b) tail
  pub behind : List ℕ
  pub is : xs ≡ tail ++ behind
  pub rest : Whole n behind

pub whole_aligned : (n : ℕ) (xs : List ℕ) → Whole n xs → Aligned n xs
whole_aligned n xs w = record { tail = []; high = tt; behind = xs; is = refl; rest = w }

tail_aligned : (n x : ℕ) (xs ts ys : List ℕ) → AllHigh ts → x ∷ xs ≡ ts ++ ys → Whole n ys → Aligned n xs
tail_aligned n x xs (t ∷ ts) ys h e w = record { tail = ts; high = h.1; behind = ys; is = same_tail x t xs (ts ++ ys) e; rest = w }
tail_aligned n x xs [] ys h e w = by (view n x xs (subst (Whole n) (sym e) w))
  where
    less : (m i : ℕ) (zs : List ℕ) → m ≤ i → Whole m zs → Whole i zs
    less m i zs l v = record { points = v.points; scalars = v.scalars; is = v.is; few = omega (arith, l, v.few) }

    by : Low n x xs ⊎ High n x xs → Aligned n xs
    by (inl v) = record { tail = []; high = tt; behind = xs; is = refl; rest = less v.left n xs (omega (arith, v.fewer)) v.rest }
    by (inr v) = record { tail = v.more; high = v.others; behind = v.behind; is = v.is; rest = less v.left n v.behind (omega (arith, v.fewer)) v.rest }

pub aligned_rest : (n x : ℕ) (xs : List ℕ) → Aligned n (x ∷ xs) → Aligned n xs
aligned_rest n x xs a = tail_aligned n x xs a.tail a.behind a.high a.is a.rest

quote_whole : (n x : ℕ) (xs ts ys : List ℕ) → x < 128 → AllHigh ts → x ∷ xs ≡ ts ++ ys → Whole n ys → Low n x xs
quote_whole n x xs (t ∷ ts) ys l h e w = not_both x l (subst (λ z. 128 ≤ z) (sym (same_head x t xs (ts ++ ys) e)) h.0)
quote_whole n x xs [] ys l h e w = drop_low n x xs l (subst (Whole n) (sym e) w)

-- a string begins behind its quote
pub string_whole : (n x : ℕ) (xs : List ℕ) → x < 128 → Aligned n (x ∷ xs) → OfContent n (content plain xs)
string_whole n x xs l a =
    let v = quote_whole n x xs a.tail a.behind l a.high a.is a.rest in
    wider v.left n _ (omega (arith, v.fewer)) (content_whole (length xs) plain v.left xs tt v.rest (same (length xs)))
  where
    same : (i : ℕ) → i ≤ i
    same i = omega arith

-- ## Of a text

lone_count : (u : ℕ) → u < past_units → length (encode_utf16 (unwrap_or (lone_unit_char u) 0xFFFD)) ≤ 1
lone_count u h = by (nat_le 0xD800 u && nat_lt u 0xE000)
  where
    by : (b : Bool) → length (encode_utf16 (unwrap_or (if b then None else Some u) 0xFFFD)) ≤ 1
    by true = narrow_one 0xFFFD (omega arith)
    by false = narrow_one u (omega (arith, h))

lossy_step : (u v : ℕ) (us : List ℕ) → u < past_units → Count (utf16_lossy_chars us) ≤ length us → Count (utf16_lossy_chars (v ∷ us)) ≤ suc (length us) → Count (utf16_lossy_chars (u ∷ v ∷ us)) ≤ suc (suc (length us))
unfolding utf16_chars
lossy_step u v us h rest more = by (utf16.is_high_surrogate u && utf16.is_low_surrogate v)
  where
    by : (b : Bool) → Count (map (λ o. unwrap_or o 0xFFFD) (if b then Some (surrogate_pair_char u v) ∷ utf16_chars us else lone_unit_char u ∷ utf16_chars (v ∷ us))) ≤ suc (suc (length us))
    by true = omega (arith, rest, count_more (surrogate_pair_char u v) (map (λ o. unwrap_or o 0xFFFD) (utf16_chars us)), at_most_two (surrogate_pair_char u v))
    by false = omega (arith, more, count_more (unwrap_or (lone_unit_char u) 0xFFFD) (map (λ o. unwrap_or o 0xFFFD) (utf16_chars (v ∷ us))), lone_count u h)

lossy_count : (us : List ℕ) → AllByRecursion (λ u. u < past_units) us → Count (utf16_lossy_chars us) ≤ length us
unfolding utf16_chars
lossy_count [] h = omega arith
lossy_count (u ∷ []) h = omega (arith, lone_count u h.0, count_more (unwrap_or (lone_unit_char u) 0xFFFD) [])
lossy_count (u ∷ v ∷ us) h = lossy_step u v us h.0 (lossy_count us h.1.1) (lossy_count (v ∷ us) h.1)

pub text_whole : (t : List ℕ) → AllByRecursion (λ u. u < past_units) t → ((i : ℕ) → all_scalars (utf16_lossy_chars t) ≡ true) → Whole (length t) (utf8_of t)
unfolding utf8_of
text_whole t h s = record { points = utf16_lossy_chars t; scalars = s 0; is = refl; few = lossy_count t h }

-- so many units has what is spelled
pub spelled_units : (n : ℕ) (k : List ℕ) → Whole n k → length (units_of k) ≤ n
unfolding units_of
spelled_units n k w = subst (λ b. length (units_of_chars (chars b)) ≤ n) w.is (subst (λ cs. length (units_of_chars cs) ≤ n) (sym (chars-encodes w.points w.scalars)) w.few)
