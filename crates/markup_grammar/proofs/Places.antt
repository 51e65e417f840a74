-- Where bytes are refused: the machine's place is the exact one.
use Rattle.std.proofs.Common.{◌≡◌, ℕ, suc, ◌<◌, ◌≤◌, List, [], ◌∷◌, ◌++◌, Bool, true, false, Option, Some, None, length, refl, ap, sym, subst, ◌∙◌, arith, cond, nat_lt, take, drop, get_or, append_assoc, append-nil, length-append, encode_utf8, encode_utf8_all}
use Rattle.std.specs.Str.{IsUtf8, chars}
use Rattle.std.proofs.lemmas.Bool.{ltb-true}
use Rattle.std.proofs.lemmas.Bool.Decides.{nat_tests}
use Rattle.std.proofs.lemmas.List.{length-take-le}
use Rattle.std.proofs.lemmas.Str.{chars-encodes, length-encode, len_utf8_bounds, encodes-append, encode_ascii, char_from_byte, byte_from_char, encodes-chars, scalars-chars, utf8_valid_len-IsUtf8}
use Rattle.std.proofs.Math.Seq.{take-length, drop-length, take-take, take_at}
use Rattle.std.proofs.Math.Utf8.{scalars, scalar}
use Rattle.markup_grammar.specs.declared.Sign.TheVariants as sign
use Rattle.markup_grammar.specs.Signs.{Spot, sign_of}
use Rattle.markup_grammar.specs.Machine.{InText, InValue, Ampersand, Named, Number, State, State_at, Between, In, Refers, Begun, TagName, Valued, Spaced, AttributeName, Assigned, Slashed, Ending, Ended, InRaw, RawBegun, RawEnding, begin, step, finished}
use Rattle.markup_grammar.specs.Judge.{Outcome, Reached, Stuck, reads, Judged, Read, Bad, ends, behind, judged}
use Rattle.markup_grammar.specs.Markup.{MarkupSpells, Begins, BadMarkupPlace}
use Rattle.markup_grammar.proofs.Close.{parts}
use Rattle.markup_grammar.proofs.Runs.{both}
use Rattle.markup_grammar.proofs.Bytes.{size, size_is, Split, splits, begins, spelled_reads, read_spells, next_char}
use Rattle.plain_tree.specs.Names.{is_bare}
use Rattle.plain_tree.specs.Trees.{Trees}
use Rattle.plain_tree.specs.Plains.{Places}

-- ## Characters of several bytes are alike

pub wide : (c : ℕ) → 128 ≤ c → sign_of c ≡ sign.Other
wide c le = grind (arith, nat_tests)

nothing_both : (b : Bool) → cond {A = Option State} b None None ≡ None
nothing_both true = refl
nothing_both false = refl

pub other_alike : (st : State) (x y : Spot) → step st sign.Other x ≡ None → step st sign.Other y ≡ None
other_alike (State_at Between ts k) x y e = cc
other_alike (State_at (In (InText at us)) ts k) x y e = cc
other_alike (State_at (In (InValue h name at value_at true us)) ts k) x y e = cc
other_alike (State_at (In (InValue h name at value_at false us)) ts k) x y e = cc
other_alike (State_at (Refers r Ampersand) ts k) x y e = refl
other_alike (State_at (Refers r (Named [] c)) ts k) x y e = refl
other_alike (State_at (Refers r (Named (u ∷ us) c)) ts k) x y e = refl
other_alike (State_at (Refers r (Number n v)) ts k) x y e = refl
other_alike (State_at (Begun at) ts k) x y e = refl
other_alike (State_at (TagName at us) ts k) x y e = refl
other_alike (State_at (Valued h) ts k) x y e = refl
other_alike (State_at (Spaced h) ts k) x y e = refl
other_alike (State_at (AttributeName h at us) ts k) x y e = nothing_both (is_bare us)
other_alike (State_at (Assigned h at us) ts k) x y e = refl
other_alike (State_at (Slashed h) ts k) x y e = refl
other_alike (State_at (Ending []) ts k) x y e = refl
other_alike (State_at (Ending (u ∷ us)) ts k) x y e = refl
other_alike (State_at Ended ts k) x y e = refl
other_alike (State_at (InRaw h at us) ts k) x y e = cc
other_alike (State_at (RawBegun h at us) ts k) x y e = cc
other_alike (State_at (RawEnding h at us []) ts k) x y e = refl
other_alike (State_at (RawEnding h at us (w ∷ ws)) ts k) x y e = refl

-- a character of several bytes is refused as any other
pub wide_refused : (st : State) (c p : ℕ) (x : Spot) → 128 ≤ c → step st sign.Other x ≡ None → step st (sign_of c) (record { code = c; at = p }) ≡ None
wide_refused st c p x le e = subst (λ s. step st s (record { code = c; at = p }) ≡ None) (sym (wide c le)) (other_alike st x (record { code = c; at = p }) e)

first_byte : (b c : ℕ) (bs cs : List ℕ) → b ∷ bs ≡ c ∷ cs → b ≡ c
first_byte b c bs cs e = ap (λ l. get_or l 0 0) e

-- characters that begin with the same byte are refused together
same_refusal : (st : State) (c d p b : ℕ) (es more rest : List ℕ) → encode_utf8 c ≡ b ∷ es → b ∷ more ≡ encode_utf8 d ++ rest → step st (sign_of c) (record { code = c; at = p }) ≡ None → step st (sign_of d) (record { code = d; at = p }) ≡ None
same_refusal st c d p b es more rest e q h = pick (nat_lt c 128) refl
  where
    some : 0 < length (b ∷ more)
    some = omega arith

    pick : (t : Bool) → nat_lt c 128 ≡ t → step st (sign_of d) (record { code = d; at = p }) ≡ None
    pick true t =
        let l : c < 128 = ltb-true c 128 t in
        let bc : b ≡ c = first_byte b c es [] (sym e ∙ encode_ascii c l) in
        let db : d ≡ b = char_from_byte (b ∷ more) rest d q (omega (arith, bc, l)) some in
        subst (λ n. step st (sign_of n) (record { code = n; at = p }) ≡ None) (sym (db ∙ bc)) h
    pick false t =
        let l : 128 ≤ c = grind (arith, nat_tests, t) in
        let high : 128 ≤ b = high_of (nat_lt b 128) refl l in
        let dl : 128 ≤ d = high_d (nat_lt d 128) refl high in
        wide_refused st d p (record { code = c; at = p }) dl (subst (λ s. step st s (record { code = c; at = p }) ≡ None) (wide c l) h)
      where
        high_of : (u : Bool) → nat_lt b 128 ≡ u → 128 ≤ c → 128 ≤ b
        high_of true u l = let cb : c ≡ b = char_from_byte (b ∷ es) [] c (sym e ∙ sym (append-nil (encode_utf8 c))) (ltb-true b 128 u) (omega arith) in let lt = ltb-true b 128 u in absurd (omega (arith, cb, lt, l))
        high_of false u l = grind (arith, nat_tests, u)

        high_d : (u : Bool) → nat_lt d 128 ≡ u → 128 ≤ b → 128 ≤ d
        high_d true u l = let bd : b ≡ d = byte_from_char (b ∷ more) rest d q (ltb-true d 128 u) in let lt = ltb-true d 128 u in absurd (omega (arith, bd, lt, l))
        high_d false u l = grind (arith, nat_tests, u)

-- ## Fronts of bytes

front_of : (bytes xs ys : List ℕ) (n : ℕ) → n ≤ length bytes → take n bytes ≡ xs ++ ys → take (length xs) bytes ≡ xs
front_of bytes xs ys n le e =
    let l = ap length e in
    let m = length-take-le n bytes le in
    let a = length-append xs ys in
    sym (take-take (length xs) n bytes (omega (arith, l, m, a))) ∙ ap (take (length xs)) e ∙ take_at xs ys (length xs) refl

scalars_front : (xs ys : List ℕ) → scalars (xs ++ ys) ≡ true → scalars xs ≡ true
scalars_front [] ys e = refl
scalars_front (x ∷ xs) ys e = let p = parts (scalar x) (scalars (xs ++ ys)) e in both p.0 (scalars_front xs ys p.1)

encode_some : (c : ℕ) → (b : ℕ) × (es : List ℕ) × (encode_utf8 c ≡ b ∷ es)
encode_some c = of (encode_utf8 c) (let l = length-encode c in let m = len_utf8_bounds c in omega (arith, l, m.0)) refl
  where
    of : (l : List ℕ) → 0 < length l → encode_utf8 c ≡ l → (b : ℕ) × (es : List ℕ) × (encode_utf8 c ≡ b ∷ es)
    of [] lt e = absurd (omega (arith, lt))
    of (b ∷ es) lt e = (b, es, e)

-- ## The machine is stuck

pub stuck_place : (bytes cs : List ℕ) (n place : ℕ) → n ≤ length bytes → take n bytes ≡ encode_utf8_all cs → scalars cs ≡ true → reads begin 0 cs ≡ Stuck place → BadMarkupPlace bytes place
stuck_place bytes cs n place le is sc e = record { inside = omega (arith, within, le); begins = front_begins; refused = refused; cut = λ q. absurd (omega (arith, q, within, le)) }
  where
    s : Split cs begin 0 place
    s = splits cs begin 0 place e

    b : (b : ℕ) × (es : List ℕ) × (encode_utf8 s.code ≡ b ∷ es)
    b = encode_some s.code

    front : List ℕ
    front = encode_utf8_all s.front

    at : place ≡ length front
    at = let p = s.place_same in let z = size_is s.front in omega (arith, p, z)

    text : take n bytes ≡ front ++ (encode_utf8 s.code ++ encode_utf8_all s.back)
    text = is ∙ ap encode_utf8_all s.same ∙ encodes-append s.front (s.code ∷ s.back)

    longer : take n bytes ≡ (front ++ b.0 ∷ []) ++ (b.1 ++ encode_utf8_all s.back)
    longer = text ∙ ap (λ l. front ++ (l ++ encode_utf8_all s.back)) b.2 ∙ sym (append_assoc front (b.0 ∷ []) (b.1 ++ encode_utf8_all s.back))

    within : place < n
    within =
        let l = ap length longer in
        let m = length-take-le n bytes le in
        let p = length-append (front ++ b.0 ∷ []) (b.1 ++ encode_utf8_all s.back) in
        let q = length-append front (b.0 ∷ []) in
        omega (arith, l, m, p, q, at)

    front_is : take place bytes ≡ front
    front_is = ap (λ p. take p bytes) at ∙ front_of bytes front (encode_utf8 s.code ++ encode_utf8_all s.back) n le text

    next_is : suc place ≡ length (front ++ b.0 ∷ [])
    next_is = let q = length-append front (b.0 ∷ []) in omega (arith, q, at)

    one_more : take (suc place) bytes ≡ front ++ b.0 ∷ []
    one_more = ap (λ p. take p bytes) next_is ∙ front_of bytes (front ++ b.0 ∷ []) (b.1 ++ encode_utf8_all s.back) n le longer

    sf : scalars s.front ≡ true
    sf = scalars_front s.front (s.code ∷ s.back) (sym (ap scalars s.same) ∙ sc)

    front_begins : Begins (take place bytes)
    front_begins = subst Begins (sym front_is) (begins front s.last (s.front, (sf, refl)) (ap (reads begin 0) (chars-encodes s.front sf) ∙ s.reached))

    size_place : place ≡ size s.front
    size_place = let q = s.place_same in omega (arith, q)

    refused : place < length bytes → Begins (take (suc place) bytes) → ⊥
    refused lt g =
        let m : MarkupSpells (front ++ b.0 ∷ g.0) g.1 = subst (λ l. MarkupSpells l g.1) (ap (λ l. l ++ g.0) one_more ∙ append_assoc front (b.0 ∷ []) g.0) g.2 in
        let d = next_char s.front g.0 b.0 s.last g.1 s.reached m in
        d.3 (same_refusal s.last s.code d.0 (size s.front) b.0 b.1 g.0 d.1 b.2 d.2 (subst (λ p. step s.last (sign_of s.code) (record { code = s.code; at = p }) ≡ None) size_place s.refused))

-- ## The whole is read

pub whole : (text : List ℕ) → IsUtf8 text → judged text ≡ behind (reads begin 0 (chars text)) (length text) []
whole text u = ap (λ n. behind (reads begin 0 (chars (take n text))) n (drop n text)) (utf8_valid_len-IsUtf8 text u)
    ∙ ap (λ l. behind (reads begin 0 (chars l)) (length text) (drop (length text) text)) (take-length text)
    ∙ ap (λ l. behind (reads begin 0 (chars text)) (length text) l) (drop-length text)

pub end_place : (bytes : List ℕ) (st : State) → IsUtf8 bytes → reads begin 0 (chars bytes) ≡ Reached st → finished (Some st) ≡ None → BadMarkupPlace bytes (length bytes)
end_place bytes st u e f = record {
  inside = omega arith;
  begins = subst Begins (sym (take-length bytes)) (begins bytes st u e);
  refused = λ lt. absurd (omega (arith, lt));
  cut = λ q ts m. let p = spelled_reads bytes ts m in clash st p.0 ts f (sym e ∙ p.1) p.2;
}
  where
    same : (a c : State) → Reached a ≡ Reached c → a ≡ c
    same a c q = cc

    none_is : (t : Trees Places) → None ≡ Some t → ⊥
    none_is t h = cc

    clash : (a c : State) (ts : Trees Places) → finished (Some a) ≡ None → Reached a ≡ Reached c → finished (Some c) ≡ Some ts → ⊥
    clash a c ts n q r = none_is ts (sym n ∙ ap (λ s. finished (Some s)) (same a c q) ∙ r)

-- ## Texts

-- what an answer says
abbrev pub Of : List ℕ → Judged → Type 0
Of bytes (Read ts) = MarkupSpells bytes ts
Of bytes (Bad at) = BadMarkupPlace bytes at

pub spells_judged : (bytes : List ℕ) (ts : Trees Places) → MarkupSpells bytes ts → judged bytes ≡ Read ts
spells_judged bytes ts m =
    let p = spelled_reads bytes ts m in
    whole bytes m.0 ∙ ap (λ o. behind o (length bytes) []) p.1 ∙ ap (λ o. ends o (length bytes)) p.2

pub text_judged : (bytes : List ℕ) → IsUtf8 bytes → (j : Judged) → judged bytes ≡ j → Of bytes j
text_judged bytes u j e = of (reads begin 0 (chars bytes)) refl
  where
    end : (st : State) (o : Option (Trees Places)) → reads begin 0 (chars bytes) ≡ Reached st → finished (Some st) ≡ o → Of bytes (ends o (length bytes))
    end st None r f = end_place bytes st u r f
    end st (Some ts) r f = read_spells bytes ts st u r f

    of : (o : Outcome) → reads begin 0 (chars bytes) ≡ o → Of bytes j
    of (Reached st) r = subst (Of bytes) (sym (ap (λ o. behind o (length bytes) []) r) ∙ sym (whole bytes u) ∙ e) (end st (finished (Some st)) r refl)
    of (Stuck place) r = subst (Of bytes) (sym (ap (λ o. behind o (length bytes) []) r) ∙ sym (whole bytes u) ∙ e)
        (stuck_place bytes (chars bytes) (length bytes) place (omega arith) (take-length bytes ∙ sym (encodes-chars bytes u)) (scalars-chars bytes u) r)
