-- Bytes that begin with no character: how many of them begin one.
use Rattle.std.proofs.Common.{◌≡◌, ℕ, suc, ◌+◌, ◌-◌, ◌*◌, ◌/◌, ◌<◌, ◌≤◌, ◌≢◌, ◌⊎◌, List, [], ◌∷◌, ◌++◌, Bool, true, false, Some, None, length, refl, ap, sym, subst, ◌∙◌, arith, cond, nat_lt, take, get_or, append-nil, encode_utf8}
use Rattle.std.specs.Prelude.{◌==◌, nat_le, unwrap_or}
use Rattle.std.specs.Int.{is_in_range}
use Rattle.std.specs.Str.{IsUtf8, StartsWithNoChar}
use Rattle.std.specs.Str.Lossy.{second_byte_min, second_byte_max, error_len_after_one}
use Rattle.std.proofs.lemmas.Bool.{ltb-true, eqb-true, leb-true, le-leb, le-ltb}
use Rattle.std.proofs.lemmas.Bool.Decides.{nat_tests}
use Rattle.std.proofs.Math.Utf8.{scalar, next, low_scalar}
use Rattle.std.proofs.str.Laws.{two, three, four, Follows}
use Rattle.std.proofs.str.Digits.{high_scalar}
use Rattle.std.proofs.str.Faults.{Ranged, no_char}
use Rattle.std.proofs.str.Lossy.{utf8_error_len_some}
use Rattle.std.proofs.str.Valid.{of_two}
use Rattle.markup_grammar.specs.Judge.{begun_len}
use Rattle.markup_grammar.proofs.Close.{parts}
use Rattle.markup_grammar.proofs.Runs.{both}

-- these bytes and some others are a character of several bytes
abbrev pub Partial : List ℕ → Type 0
Partial xs = (c : ℕ) × (suffix : List ℕ) × (xs ++ suffix ≡ encode_utf8 c) × (128 ≤ c) × (scalar c ≡ true)

clash : (b : Bool) → b ≡ true → b ≡ false → ⊥
clash b e f = cc

second_facts : (x y : ℕ) → second_byte_min x ≤ y → y ≤ second_byte_max x → (128 ≤ y) × (y < 192) × (x ≡ 224 → 160 ≤ y) × (x ≡ 237 → y < 160) × (x ≡ 240 → 144 ≤ y) × (x ≡ 244 → y < 144)
second_facts x y lo hi = pick (x == 224) (x == 240) (x == 237) (x == 244) refl refl refl refl lo hi
  where
    Q : Type 0
    Q = (128 ≤ y) × (y < 192) × (x ≡ 224 → 160 ≤ y) × (x ≡ 237 → y < 160) × (x ≡ 240 → 144 ≤ y) × (x ≡ 244 → y < 144)

    top : (c d : Bool) → y ≤ cond c 0x9F (cond d 0x8F 0xBF) → y < 192
    top true d m = omega (arith, m)
    top false true m = omega (arith, m)
    top false false m = omega (arith, m)

    pick : (a b c d : Bool) → (x == 224) ≡ a → (x == 240) ≡ b → (x == 237) ≡ c → (x == 244) ≡ d → cond a 0xA0 (cond b 0x90 0x80) ≤ y → y ≤ cond c 0x9F (cond d 0x8F 0xBF) → Q
    pick true b c d e f g h l m = let k = eqb-true x 224 e in (omega (arith, l), top c d m, λ q. l, λ q. absurd (omega (arith, q, k)), λ q. absurd (omega (arith, q, k)), λ q. absurd (omega (arith, q, k)))
    pick false true c d e f g h l m = let k = eqb-true x 240 f in (omega (arith, l), top c d m, λ q. absurd (omega (arith, q, k)), λ q. absurd (omega (arith, q, k)), λ q. l, λ q. absurd (omega (arith, q, k)))
    pick false false true d e f g h l m = let k = eqb-true x 237 g in (l, omega (arith, m), λ q. absurd (omega (arith, q, k)), λ q. omega (arith, m), λ q. absurd (omega (arith, q, k)), λ q. absurd (omega (arith, q, k)))
    pick false false false true e f g h l m = let k = eqb-true x 244 h in (l, omega (arith, m), λ q. absurd (omega (arith, q, k)), λ q. absurd (omega (arith, q, k)), λ q. absurd (omega (arith, q, k)), λ q. omega (arith, m))
    pick false false false false e f g h l m =
        let k1 : x ≢ 224 = grind (arith, nat_tests, e) in let k2 : x ≢ 240 = grind (arith, nat_tests, f) in let k3 : x ≢ 237 = grind (arith, nat_tests, g) in let k4 : x ≢ 244 = grind (arith, nat_tests, h) in
        (l, omega (arith, m), λ q. absurd (k1 q), λ q. absurd (k3 q), λ q. absurd (k2 q), λ q. absurd (k4 q))

facts_second : (x y : ℕ) → 128 ≤ y → y < 192 → (x ≡ 224 → 160 ≤ y) → (x ≡ 237 → y < 160) → (x ≡ 240 → 144 ≤ y) → (x ≡ 244 → y < 144) → (second_byte_min x ≤ y) × (y ≤ second_byte_max x)
facts_second x y a b c d e f = (low (x == 224) (x == 240) refl refl, high (x == 237) (x == 244) refl refl)
  where
    low : (p q : Bool) → (x == 224) ≡ p → (x == 240) ≡ q → cond p 0xA0 (cond q 0x90 0x80) ≤ y
    low true q g h = c (eqb-true x 224 g)
    low false true g h = e (eqb-true x 240 h)
    low false false g h = a

    high : (p q : Bool) → (x == 237) ≡ p → (x == 244) ≡ q → y ≤ cond p 0x9F (cond q 0x8F 0xBF)
    high true q g h = let l = d (eqb-true x 237 g) in omega (arith, l)
    high false true g h = let l = f (eqb-true x 244 h) in omega (arith, l)
    high false false g h = omega (arith, b)

-- ## No character begins so

no_first : (x : ℕ) (more : List ℕ) → 128 ≤ x → is_in_range 0xC2 0xF4 x ≡ false → StartsWithNoChar (x ∷ more)
no_first x more h r = no_char (x ∷ more) 0 (λ w. pick w (nat_le 0xC2 x) (nat_le x 0xF4) refl refl)
  where
    pick : Ranged (length (x ∷ more) - 0) x (get_or (x ∷ more) 1 0) (get_or (x ∷ more) 2 0) (get_or (x ∷ more) 3 0) → (a b : Bool) → nat_le 0xC2 x ≡ a → nat_le x 0xF4 ≡ b → ⊥
    pick w true true p q = clash (is_in_range 0xC2 0xF4 x) (both p q) r
    pick w false b p q = let l : x < 0xC2 = grind (arith, nat_tests, p) in let s = (w.second h).0 in omega (arith, l, s)
    pick w true false p q = let l : 0xF4 < x = grind (arith, nat_tests, q) in let s = (w.fourth (omega (arith, l))).2.1 in omega (arith, l, s)

no_second : (x y : ℕ) (more : List ℕ) → 194 ≤ x → x ≤ 244 → is_in_range (second_byte_min x) (second_byte_max x) y ≡ false → StartsWithNoChar (x ∷ y ∷ more)
no_second x y more lo hi r = no_char (x ∷ y ∷ more) 0 (λ w.
    let s = (w.second (omega (arith, lo))).2 in
    let f = facts_second x y s.0 s.1 (λ e. let t = (w.in_three (omega (arith, e)) (omega (arith, e))).0 in omega (arith, e, t))
    (λ e. below e s.1 (w.in_three (omega (arith, e)) (omega (arith, e))).1)
    (λ e. let t = (w.fourth (omega (arith, e))).2.0 in omega (arith, e, t)) (λ e. let t = (w.fourth (omega (arith, e))).2.1 in omega (arith, e, t)) in
    clash (is_in_range (second_byte_min x) (second_byte_max x) y) (both (le-leb (second_byte_min x) y f.0) (le-leb y (second_byte_max x) f.1)) r)
  where
    below : x ≡ 237 → y < 192 → (((x - 224) * 64 + (y - 128) < 864) ⊎ (896 ≤ (x - 224) * 64 + (y - 128))) → y < 160
    below e b h = omega (arith, e, b, h)

no_third : (x y z : ℕ) (more : List ℕ) → 224 ≤ x → is_in_range 0x80 0xBF z ≡ false → StartsWithNoChar (x ∷ y ∷ z ∷ more)
no_third x y z more lo r = no_char (x ∷ y ∷ z ∷ more) 0 (λ w. let f = (w.third lo).1 in clash (is_in_range 0x80 0xBF z) (both (le-leb 0x80 z f.0) (le-leb z 0xBF (omega (arith, f.1)))) r)

no_fourth : (x y z u : ℕ) (more : List ℕ) → 240 ≤ x → (Follows u → ⊥) → StartsWithNoChar (x ∷ y ∷ z ∷ u ∷ more)
no_fourth x y z u more lo r = no_char (x ∷ y ∷ z ∷ u ∷ more) 0 (λ w. r (w.fourth lo).1)

-- ## Some character begins so

-- a character of two, three or four bytes, by its bytes
two_bytes : (x y : ℕ) → 194 ≤ x → x < 224 → Follows y → (c : ℕ) × (x ∷ y ∷ [] ≡ encode_utf8 c) × (128 ≤ c) × (scalar c ≡ true)
two_bytes x y lo hi f =
    let c = (x - 192) * 64 + (y - 128) in
    let p : x ≡ 192 + c / 64 = omega arith in
    let q : y ≡ next c = omega arith in
    (c, (λ k. p k ∷ q k ∷ []) ∙ sym (two c (omega arith) (omega arith)), omega arith, low_scalar c (omega arith))

three_bytes : (x y z : ℕ) → 224 ≤ x → x < 240 → (128 ≤ y) × (y < 192) × (x ≡ 224 → 160 ≤ y) × (x ≡ 237 → y < 160) → Follows z → (c : ℕ) × (x ∷ y ∷ z ∷ [] ≡ encode_utf8 c) × (128 ≤ c) × (scalar c ≡ true)
three_bytes x y z lo hi f g =
    let c = (x - 224) * 4096 + (y - 128) * 64 + (z - 128) in
    let p : x ≡ 224 + c / 4096 = omega arith in
    let q : y ≡ next (c / 64) = omega arith in
    let r : z ≡ next c = omega arith in
    let least : 2048 ≤ c = least_of (x == 224) refl in
    (c, (λ k. p k ∷ q k ∷ r k ∷ []) ∙ sym (three c least (omega arith)), omega (arith, least), scalar_of (nat_lt x 237) (nat_lt 237 x) refl refl)
  where
    least_of : (b : Bool) → (x == 224) ≡ b → 2048 ≤ (x - 224) * 4096 + (y - 128) * 64 + (z - 128)
    least_of true e = let h = eqb-true x 224 e in let l = f.2 h in omega (arith, h, l)
    least_of false e = let h : 225 ≤ x = grind (arith, nat_tests, e, lo) in omega (arith, h)

    scalar_of : (a b : Bool) → nat_lt x 237 ≡ a → nat_lt 237 x ≡ b → scalar ((x - 224) * 4096 + (y - 128) * 64 + (z - 128)) ≡ true
    scalar_of true b e h = let l = ltb-true x 237 e in low_scalar ((x - 224) * 4096 + (y - 128) * 64 + (z - 128)) (omega (arith, l, f.1, g.1))
    scalar_of false true e h = let l = ltb-true 237 x h in high_scalar ((x - 224) * 4096 + (y - 128) * 64 + (z - 128)) (omega (arith, l)) (omega (arith, l)) (omega (arith, hi, f.1, g.1))
    scalar_of false false e h = let l : x ≡ 237 = grind (arith, nat_tests, e, h) in let m = f.3 l in low_scalar ((x - 224) * 4096 + (y - 128) * 64 + (z - 128)) (omega (arith, l, m, g.1))

four_bytes : (x y z u : ℕ) → 240 ≤ x → x ≤ 244 → (128 ≤ y) × (y < 192) × (x ≡ 240 → 144 ≤ y) × (x ≡ 244 → y < 144) → Follows z → Follows u → (c : ℕ) × (x ∷ y ∷ z ∷ u ∷ [] ≡ encode_utf8 c) × (128 ≤ c) × (scalar c ≡ true)
four_bytes x y z u lo hi f g h =
    let c = (x - 240) * 262144 + (y - 128) * 4096 + (z - 128) * 64 + (u - 128) in
    let p : x ≡ 240 + c / 262144 = omega arith in
    let q : y ≡ next (c / 4096) = omega arith in
    let e : c / 64 ≡ (x - 240) * 4096 + (y - 128) * 64 + (z - 128) = omega arith in
    let r : z ≡ next (c / 64) = subst (λ (m : ℕ). z ≡ next m) (sym e) (omega arith) in
    let t : u ≡ next c = omega arith in
    let least : 65536 ≤ c = least_of (x == 240) refl in
    let most : c < 1114112 = most_of (x == 244) refl in
    (c, (λ k. p k ∷ q k ∷ r k ∷ t k ∷ []) ∙ sym (four c least), omega (arith, least), high_scalar c (omega (arith, least)) (omega (arith, least)) most)
  where
    least_of : (b : Bool) → (x == 240) ≡ b → 65536 ≤ (x - 240) * 262144 + (y - 128) * 4096 + (z - 128) * 64 + (u - 128)
    least_of true e = let k = eqb-true x 240 e in let l = f.2 k in omega (arith, k, l)
    least_of false e = let k : 241 ≤ x = grind (arith, nat_tests, e, lo) in omega (arith, k)

    most_of : (b : Bool) → (x == 244) ≡ b → (x - 240) * 262144 + (y - 128) * 4096 + (z - 128) * 64 + (u - 128) < 1114112
    most_of true e = let k = eqb-true x 244 e in let l = f.3 k in omega (arith, k, l, g.1, h.1)
    most_of false e = let k : x ≤ 243 = grind (arith, nat_tests, e, hi) in omega (arith, k, f.1, g.1, h.1)

follows : Follows 128
follows = (omega arith, omega arith)

least_second : (x : ℕ) → (128 ≤ second_byte_min x) × (second_byte_min x < 192) × (x ≡ 224 → 160 ≤ second_byte_min x) × (x ≡ 237 → second_byte_min x < 160) × (x ≡ 240 → 144 ≤ second_byte_min x) × (x ≡ 244 → second_byte_min x < 144)
least_second x = pick (x == 224) (x == 240) refl refl
  where
    P : ℕ → Type 0
    P y = (128 ≤ y) × (y < 192) × (x ≡ 224 → 160 ≤ y) × (x ≡ 237 → y < 160) × (x ≡ 240 → 144 ≤ y) × (x ≡ 244 → y < 144)

    pick : (a b : Bool) → (x == 224) ≡ a → (x == 240) ≡ b → P (cond a 0xA0 (cond b 0x90 0x80))
    pick true b e f = let k = eqb-true x 224 e in (omega arith, omega arith, λ h. omega arith, λ h. absurd (omega (arith, h, k)), λ h. omega arith, λ h. absurd (omega (arith, h, k)))
    pick false true e f = let k = eqb-true x 240 f in (omega arith, omega arith, λ h. absurd (omega (arith, h, k)), λ h. omega arith, λ h. omega arith, λ h. absurd (omega (arith, h, k)))
    pick false false e f = let k : x ≢ 224 = grind (arith, nat_tests, e) in let l : x ≢ 240 = grind (arith, nat_tests, f) in (omega arith, omega arith, λ h. absurd (omega (arith, h, k)), λ h. omega arith, λ h. absurd (omega (arith, h, l)), λ h. omega arith)

partial_two : (x y : ℕ) → 224 ≤ x → x ≤ 244 → (128 ≤ y) × (y < 192) × (x ≡ 224 → 160 ≤ y) × (x ≡ 237 → y < 160) × (x ≡ 240 → 144 ≤ y) × (x ≡ 244 → y < 144) → Partial (x ∷ y ∷ [])
partial_two x y lo hi f = pick (nat_lt x 240) refl
  where
    pick : (a : Bool) → nat_lt x 240 ≡ a → Partial (x ∷ y ∷ [])
    pick true e = let r = three_bytes x y 128 lo (ltb-true x 240 e) (f.0, f.1, f.2, f.3) follows in (r.0, 128 ∷ [], r.1, r.2, r.3)
    pick false e = let r = four_bytes x y 128 128 (let l : 240 ≤ x = grind (arith, nat_tests, e) in l) hi (f.0, f.1, f.4, f.5) follows follows in (r.0, 128 ∷ 128 ∷ [], r.1, r.2, r.3)

partial_one : (x : ℕ) → 194 ≤ x → x ≤ 244 → Partial (x ∷ [])
partial_one x lo hi = pick (nat_lt x 224) refl
  where
    pick : (a : Bool) → nat_lt x 224 ≡ a → Partial (x ∷ [])
    pick true e = let r = two_bytes x 128 lo (ltb-true x 224 e) follows in (r.0, 128 ∷ [], r.1, r.2, r.3)
    pick false e = let r = partial_two x (second_byte_min x) (let l : 224 ≤ x = grind (arith, nat_tests, e) in l) hi (least_second x) in (r.0, second_byte_min x ∷ r.1, r.2, r.3, r.4)

partial_three : (x y z : ℕ) → 240 ≤ x → x ≤ 244 → (128 ≤ y) × (y < 192) × (x ≡ 240 → 144 ≤ y) × (x ≡ 244 → y < 144) → Follows z → Partial (x ∷ y ∷ z ∷ [])
partial_three x y z lo hi f g = let r = four_bytes x y z 128 lo hi f g follows in (r.0, 128 ∷ [], r.1, r.2, r.3)

-- ## How many bytes begin a character

-- k of these bytes begin a character, and no more
pub record IsCut (tail : List ℕ) (k : ℕ) : Type 0 where
  pub within : k ≤ length tail
  pub begun : 0 < k → Partial (take k tail)
  pub refused : k < length tail → (more : List ℕ) → StartsWithNoChar (take (suc k) tail ++ more)

abbrev pub NoText : List ℕ → Type 0
NoText tail = (w : ℕ) → 0 < w → IsUtf8 (take w tail) → ⊥

cut_none : (x : ℕ) (t : List ℕ) → 128 ≤ x → is_in_range 0xC2 0xF4 x ≡ false → IsCut (x ∷ t) 0
cut_none x t h r = record { within = omega arith; begun = λ l. absurd (omega (arith, l)); refused = λ l more. no_first x more h r }

cut_one : (x y : ℕ) (t : List ℕ) → 194 ≤ x → x ≤ 244 → is_in_range (second_byte_min x) (second_byte_max x) y ≡ false → IsCut (x ∷ y ∷ t) 1
cut_one x y t lo hi r = record { within = omega arith; begun = λ l. partial_one x lo hi; refused = λ l more. no_second x y more lo hi r }

end_one : (x : ℕ) → 194 ≤ x → x ≤ 244 → IsCut (x ∷ []) 1
end_one x lo hi = record { within = omega arith; begun = λ l. partial_one x lo hi; refused = λ l. absurd (omega (arith, l)) }

module _ (x y : ℕ) (lo : 194 ≤ x) (hi : x ≤ 244) (f : (128 ≤ y) × (y < 192) × (x ≡ 224 → 160 ≤ y) × (x ≡ 237 → y < 160) × (x ≡ 240 → 144 ≤ y) × (x ≡ 244 → y < 144)) where
  -- two bytes are no character, so it has three
  long_two : (t : List ℕ) → NoText (x ∷ y ∷ t) → 224 ≤ x
  long_two t n = pick (nat_lt x 224) refl
    where
      pick : (a : Bool) → nat_lt x 224 ≡ a → 224 ≤ x
      pick true e = absurd (n 2 (omega arith) (of_two (x ∷ y ∷ t) 0 (omega arith) (lo, ltb-true x 224 e) (f.0, f.1)))
      pick false e = grind (arith, nat_tests, e)

  long_three : (z : ℕ) (t : List ℕ) → NoText (x ∷ y ∷ z ∷ t) → Follows z → 224 ≤ x → 240 ≤ x
  long_three z t n g l = pick (nat_lt x 240) refl
    where
      pick : (a : Bool) → nat_lt x 240 ≡ a → 240 ≤ x
      pick true e =
          let r = three_bytes x y z l (ltb-true x 240 e) (f.0, f.1, f.2, f.3) g in
          absurd (n 3 (omega arith) (r.0 ∷ [], (both r.3 refl, append-nil (encode_utf8 r.0) ∙ sym r.1)))
      pick false e = grind (arith, nat_tests, e)

  no_text_four : (z u : ℕ) (t : List ℕ) → NoText (x ∷ y ∷ z ∷ u ∷ t) → Follows z → 240 ≤ x → Follows u → ⊥
  no_text_four z u t n g l h =
      let r = four_bytes x y z u l hi (f.0, f.1, f.4, f.5) g h in
      n 4 (omega arith) (r.0 ∷ [], (both r.3 refl, append-nil (encode_utf8 r.0) ∙ sym r.1))

  end_two : NoText (x ∷ y ∷ []) → IsCut (x ∷ y ∷ []) 2
  end_two n = record { within = omega arith; begun = λ l. partial_two x y (long_two [] n) hi f; refused = λ l. absurd (omega (arith, l)) }

  cut_two : (z : ℕ) (t : List ℕ) → NoText (x ∷ y ∷ z ∷ t) → is_in_range 0x80 0xBF z ≡ false → IsCut (x ∷ y ∷ z ∷ t) 2
  cut_two z t n r = record { within = omega arith; begun = λ l. partial_two x y (long_two (z ∷ t) n) hi f; refused = λ l more. no_third x y z more (long_two (z ∷ t) n) r }

  end_three : (z : ℕ) → NoText (x ∷ y ∷ z ∷ []) → Follows z → IsCut (x ∷ y ∷ z ∷ []) 3
  end_three z n g = record { within = omega arith; begun = λ l. partial_three x y z (long_three z [] n g (long_two (z ∷ []) n)) hi (f.0, f.1, f.4, f.5) g; refused = λ l. absurd (omega (arith, l)) }

  cut_three : (z u : ℕ) (t : List ℕ) → NoText (x ∷ y ∷ z ∷ u ∷ t) → Follows z → IsCut (x ∷ y ∷ z ∷ u ∷ t) 3
  cut_three z u t n g =
      let l = long_three z (u ∷ t) n g (long_two (z ∷ u ∷ t) n) in
      record { within = omega arith; begun = λ _. partial_three x y z l hi (f.0, f.1, f.4, f.5) g; refused = λ _ more. no_fourth x y z u more l (no_text_four z u t n g l) }

second_of : (x y : ℕ) → is_in_range (second_byte_min x) (second_byte_max x) y ≡ true → (128 ≤ y) × (y < 192) × (x ≡ 224 → 160 ≤ y) × (x ≡ 237 → y < 160) × (x ≡ 240 → 144 ≤ y) × (x ≡ 244 → y < 144)
second_of x y e = let p = parts (nat_le (second_byte_min x) y) (nat_le y (second_byte_max x)) e in second_facts x y (leb-true (second_byte_min x) y p.0) (leb-true y (second_byte_max x) p.1)

third_of : (z : ℕ) → is_in_range 0x80 0xBF z ≡ true → Follows z
third_of z e = let p = parts (nat_le 0x80 z) (nat_le z 0xBF) e in (leb-true 0x80 z p.0, let l = leb-true z 0xBF p.1 in omega (arith, l))

-- by the bytes behind the first
long_cut : (x y z u : ℕ) (t : List ℕ) → 194 ≤ x → x ≤ 244 → NoText (x ∷ y ∷ z ∷ u ∷ t) → (a b : Bool) → is_in_range (second_byte_min x) (second_byte_max x) y ≡ a → is_in_range 0x80 0xBF z ≡ b →
    IsCut (x ∷ y ∷ z ∷ u ∷ t) (unwrap_or (cond a (cond b (Some 3) (Some 2)) (Some 1)) (length (x ∷ y ∷ z ∷ u ∷ t)))
long_cut x y z u t lo hi n true true p q = cut_three x y lo hi (second_of x y p) z u t n (third_of z q)
long_cut x y z u t lo hi n true false p q = cut_two x y lo hi (second_of x y p) z (u ∷ t) n q
long_cut x y z u t lo hi n false b p q = cut_one x y (z ∷ u ∷ t) lo hi p

three_cut : (x y z : ℕ) → 194 ≤ x → x ≤ 244 → NoText (x ∷ y ∷ z ∷ []) → (a b : Bool) → is_in_range (second_byte_min x) (second_byte_max x) y ≡ a → is_in_range 0x80 0xBF z ≡ b →
    IsCut (x ∷ y ∷ z ∷ []) (unwrap_or (cond a (cond b None (Some 2)) (Some 1)) 3)
three_cut x y z lo hi n true true p q = end_three x y lo hi (second_of x y p) z n (third_of z q)
three_cut x y z lo hi n true false p q = cut_two x y lo hi (second_of x y p) z [] n q
three_cut x y z lo hi n false b p q = cut_one x y (z ∷ []) lo hi p

two_cut : (x y : ℕ) → 194 ≤ x → x ≤ 244 → NoText (x ∷ y ∷ []) → (a : Bool) → is_in_range (second_byte_min x) (second_byte_max x) y ≡ a → IsCut (x ∷ y ∷ []) (unwrap_or (cond a None (Some 1)) 2)
two_cut x y lo hi n true p = end_two x y lo hi (second_of x y p) n
two_cut x y lo hi n false p = cut_one x y [] lo hi p

after_one_cut : (x : ℕ) (t : List ℕ) → 194 ≤ x → x ≤ 244 → NoText (x ∷ t) → IsCut (x ∷ t) (unwrap_or (error_len_after_one (x ∷ t)) (length (x ∷ t)))
after_one_cut x [] lo hi n = end_one x lo hi
after_one_cut x (y ∷ []) lo hi n = two_cut x y lo hi n (is_in_range (second_byte_min x) (second_byte_max x) y) refl
after_one_cut x (y ∷ z ∷ []) lo hi n = three_cut x y z lo hi n (is_in_range (second_byte_min x) (second_byte_max x) y) (is_in_range 0x80 0xBF z) refl refl
after_one_cut x (y ∷ z ∷ u ∷ t) lo hi n =
    let len : ℕ = length (x ∷ y ∷ z ∷ u ∷ t) in
    let s = is_in_range (second_byte_min x) (second_byte_max x) y in
    let r = is_in_range 0x80 0xBF z in
    subst (IsCut (x ∷ y ∷ z ∷ u ∷ t))
    (sym (ap (λ b. unwrap_or (cond b None (cond s (cond (nat_lt len 3) None (cond r (cond (nat_lt len 4) None (Some 3)) (Some 2))) (Some 1))) len) (le-ltb len 2 (omega arith))
    ∙ ap (λ b. unwrap_or (cond s (cond b None (cond r (cond (nat_lt len 4) None (Some 3)) (Some 2))) (Some 1)) len) (le-ltb len 3 (omega arith))
    ∙ ap (λ b. unwrap_or (cond s (cond r (cond b None (Some 3)) (Some 2)) (Some 1)) len) (le-ltb len 4 (omega arith))))
    (long_cut x y z u t lo hi n s r refl refl)

-- the bytes that begin no character are cut where the library says
pub is_cut : (x : ℕ) (t : List ℕ) → 128 ≤ x → NoText (x ∷ t) → IsCut (x ∷ t) (begun_len (x ∷ t))
is_cut x t h n = subst (IsCut (x ∷ t)) (sym (ap (λ o. cond (is_in_range 0xC2 0xF4 x) (unwrap_or o (length (x ∷ t))) 0) (utf8_error_len_some (x ∷ t) (omega arith)))) (pick (is_in_range 0xC2 0xF4 x) refl)
  where
    pick : (b : Bool) → is_in_range 0xC2 0xF4 x ≡ b → IsCut (x ∷ t) (cond b (unwrap_or (cond b (error_len_after_one (x ∷ t)) (Some 1)) (length (x ∷ t))) 0)
    pick true r = let p = parts (nat_le 0xC2 x) (nat_le x 0xF4) r in after_one_cut x t (leb-true 0xC2 x p.0) (leb-true x 0xF4 p.1) n
    pick false r = cut_none x t h r
