-- The text that leads a state to an end.
use Rattle.std.proofs.Common.{◌≡◌, ℕ, zero, suc, ◌+◌, ◌*◌, ◌<◌, ◌≤◌, ◌≢◌, List, [], ◌∷◌, ◌++◌, Bool, true, false, Some, None, refl, ap, sym, subst, ◌∙◌, arith, cond, nat_lt, nat_eq, eq-eqb}
use Rattle.std.specs.Prelude.{◌&&◌, ◌||◌, codes, nat_le}
use Rattle.std.specs.Char.{len_utf8}
use Rattle.std.specs.Char.Escape.{encode_utf16}
use Rattle.std.proofs.lemmas.Bool.{lt-ltb, eqb-true, le-leb}
use Rattle.std.proofs.lemmas.Bool.Decides.{nat_tests}
use Rattle.markup_grammar.specs.declared.Sign.{Sign}
use Rattle.markup_grammar.specs.Signs.{Spot, located, sign_of, in_tag}
use Rattle.markup_grammar.specs.Grammar.{limit, is_referable}
use Rattle.markup_grammar.specs.Machine as machine
use Rattle.markup_grammar.specs.Machine.{Opening, Open, Run, InText, InValue, Referring, Ampersand, Named, Number, State, State_at, Between, In, Refers, Begun, TagName, Valued, Spaced, AttributeName, Assigned, Slashed, Ending, Ended, InRaw, RawBegun, RawEnding, grown, step, run, finished}
use Rattle.markup_grammar.proofs.Runs.{if_true, both, going, seven}
use Rattle.markup_grammar.proofs.Close.{is_tag, is_ascii, parts, bound, GoodOpen, GoodRun, GoodReferring, Good}
use Rattle.plain_tree.specs.Names.{is_void, is_script}
use Rattle.plain_tree.specs.Trees.{Trees, End, beside}
use Rattle.plain_tree.specs.Plains.{Places, text_node, element_node}

-- the end tags of the open elements
abbrev close_all : List Open → List ℕ
close_all [] = []
close_all (o ∷ k) = 60 ∷ 47 ∷ ((o.head).tag ++ 62 ∷ close_all k)

-- behind the head of an element
abbrev after : List ℕ → List Open → List ℕ
after tag k = cond (is_void tag) (close_all k) (cond (is_script tag) (60 ∷ 47 ∷ (codes "script" ++ 62 ∷ close_all k)) (60 ∷ 47 ∷ (tag ++ 62 ∷ close_all k)))

abbrev quote_code : Bool → ℕ
quote_code true = 34
quote_code false = 39

abbrev close_run : Run → List Open → List ℕ
close_run (InText at us) k = close_all k
close_run (InValue h name at value_at double us) k = quote_code double ∷ 62 ∷ after h.tag k

abbrev close_referring : Referring → List ℕ → List ℕ
close_referring Ampersand tail = 108 ∷ 116 ∷ 59 ∷ tail
close_referring (Named us c) tail = us ++ 59 ∷ tail
close_referring (Number n v) tail = cond (nat_lt 0 n && is_referable v) (59 ∷ tail) (49 ∷ 59 ∷ tail)

abbrev close_begun : List Open → List ℕ
close_begun [] = codes "br>"
close_begun (o ∷ k) = 47 ∷ ((o.head).tag ++ 62 ∷ close_all k)

abbrev close_ended : List Open → List ℕ
close_ended [] = []
close_ended (o ∷ k) = 62 ∷ close_all k

abbrev pub closing : State → List ℕ
closing (State_at Between ts k) = close_all k
closing (State_at (In r) ts k) = close_run r k
closing (State_at (Refers r f) ts k) = close_referring f (close_run r k)
closing (State_at (Begun at) ts k) = close_begun k
closing (State_at (TagName at us) ts k) = 62 ∷ after us k
closing (State_at (Valued h) ts k) = 62 ∷ after h.tag k
closing (State_at (Spaced h) ts k) = 62 ∷ after h.tag k
closing (State_at (AttributeName h at us) ts k) = 61 ∷ 34 ∷ 34 ∷ 62 ∷ after h.tag k
closing (State_at (Assigned h at us) ts k) = 34 ∷ 34 ∷ 62 ∷ after h.tag k
closing (State_at (Slashed h) ts k) = 62 ∷ close_all k
closing (State_at (Ending us) ts k) = us ++ close_ended k
closing (State_at Ended ts k) = close_ended k
closing (State_at (InRaw h at us) ts k) = 60 ∷ 47 ∷ (codes "script" ++ 62 ∷ close_all k)
closing (State_at (RawBegun h at us) ts k) = 47 ∷ (codes "script" ++ 62 ∷ close_all k)
closing (State_at (RawEnding h at us word) ts k) = word ++ 62 ∷ close_all k

-- these code points, from that place on, lead to an end
abbrev pub Ends : State → ℕ → List ℕ → Type 0
Ends st p cs = (ts : Trees Places) × (finished (run (Some st) (located p cs)) ≡ Some ts)

-- the first code point leads to a state from which the others lead to an end
first_ends : (st next : State) (p c : ℕ) (cs : List ℕ) → step st (sign_of c) (record { code = c; at = p }) ≡ Some next → Ends next (p + len_utf8 c) cs → Ends st p (c ∷ cs)
first_ends st next p c cs e h = (h.0, ap finished (going e (located (p + len_utf8 c) cs)) ∙ h.1)

-- a known word, in a state that knows what is left of it
word_ends : (f : List ℕ → State) → ((u : ℕ) (us : List ℕ) (s : Sign) (x : Spot) → step (f (u ∷ us)) s x ≡ cond (in_tag s && nat_eq x.code u) (Some (f us)) None) → (us : List ℕ) → is_tag us ≡ true → (tail : List ℕ) → ((p : ℕ) → Ends (f []) p tail) → (p : ℕ) → Ends (f us) p (us ++ tail)
word_ends f g [] t tail h p = h p
word_ends f g (u ∷ us) t tail h p =
    let q = parts (in_tag (sign_of u) && nat_lt u 128) (is_tag us) t in
    first_ends (f (u ∷ us)) (f us) p u (us ++ tail)
    (g u us (sign_of u) (record { code = u; at = p }) ∙ if_true _ _ (both (parts (in_tag (sign_of u)) (nat_lt u 128) q.0).0 (eq-eqb u u refl)))
    (word_ends f g us q.1 tail h (p + len_utf8 u))

-- the end tag of the innermost element, where the others can be ended
begun_from : (o : Open) (k : List Open) → GoodOpen (o ∷ k) → ((ts : Trees Places) (p : ℕ) → Ends (State_at Between ts k) p (close_all k)) → (at : ℕ) (ts : Trees Places) (p : ℕ) → Ends (State_at (Begun at) ts (o ∷ k)) p (47 ∷ ((o.head).tag ++ 62 ∷ close_all k))
begun_from o k g h at ts p = word_ends (λ us. State_at (Ending us) ts (o ∷ k)) (λ u us s x. refl) (o.head).tag g.0 (62 ∷ close_all k)
    (λ q. h (beside o.before (element_node (o.head).tag (o.head).attrs ts (o.head).at)) (q + len_utf8 62)) (p + len_utf8 47)

between_ends : (k : List Open) → GoodOpen k → (ts : Trees Places) (p : ℕ) → Ends (State_at Between ts k) p (close_all k)
between_ends [] g ts p = (ts, refl)
between_ends (o ∷ k) g ts p = begun_from o k g (between_ends k g.1) p ts (p + len_utf8 60)

begun_ends : (o : Open) (k : List Open) → GoodOpen (o ∷ k) → (at : ℕ) (ts : Trees Places) (p : ℕ) → Ends (State_at (Begun at) ts (o ∷ k)) p (47 ∷ ((o.head).tag ++ 62 ∷ close_all k))
begun_ends o k g at ts p = begun_from o k g (between_ends k g.1) at ts p

ending_ends : (o : Open) (k : List Open) → GoodOpen (o ∷ k) → (ts : Trees Places) (p : ℕ) → Ends (State_at (Ending []) ts (o ∷ k)) p (62 ∷ close_all k)
ending_ends o k g ts p = between_ends k g.1 (beside o.before (element_node (o.head).tag (o.head).attrs ts (o.head).at)) (p + len_utf8 62)

text_ends : (k : List Open) → GoodOpen k → (at : ℕ) (us : List ℕ) (ts : Trees Places) (p : ℕ) → Ends (State_at (In (InText at us)) ts k) p (close_all k)
text_ends [] g at us ts p = (beside ts (text_node us at), refl)
text_ends (o ∷ k) g at us ts p = begun_ends o k g p (beside ts (text_node us at)) (p + len_utf8 60)

raw_ending_ends : (h : Opening) (at : ℕ) (us word : List ℕ) (ts : Trees Places) (k : List Open) → GoodOpen k → is_tag word ≡ true → (p : ℕ) → Ends (State_at (RawEnding h at us word) ts k) p (word ++ 62 ∷ close_all k)
raw_ending_ends h at us word ts k g t p = word_ends (λ ws. State_at (RawEnding h at us ws) ts k) (λ u ws s x. refl) word t (62 ∷ close_all k) (λ q. between_ends k g (beside ts (element_node h.tag h.attrs (text_node us at) h.at)) (q + len_utf8 62)) p

raw_ends : (h : Opening) (at : ℕ) (us : List ℕ) (ts : Trees Places) (k : List Open) → GoodOpen k → (p : ℕ) → Ends (State_at (InRaw h at us) ts k) p (60 ∷ 47 ∷ (codes "script" ++ 62 ∷ close_all k))
raw_ends h at us ts k g p = raw_ending_ends h at us (codes "script") ts k g refl (p + len_utf8 60 + len_utf8 47)

opened_ends : (h : Opening) (ts : Trees Places) (k : List Open) (at : ℕ) → is_tag h.tag ≡ true → GoodOpen k → (p : ℕ) → Ends (machine.opened h ts k at) p (after h.tag k)
opened_ends h ts k at t g p = pick (is_void h.tag) (is_script h.tag)
  where
    pick : (v i : Bool) → Ends (cond v (machine.added h End ts k) (cond i (State_at (InRaw h (suc at) []) ts k) (State_at Between End (record { before = ts; head = h } ∷ k)))) p (cond v (close_all k) (cond i (60 ∷ 47 ∷ (codes "script" ++ 62 ∷ close_all k)) (60 ∷ 47 ∷ (h.tag ++ 62 ∷ close_all k))))
    pick true i = between_ends k g (beside ts (element_node h.tag h.attrs End h.at)) p
    pick false true = raw_ends h (suc at) [] ts k g p
    pick false false = between_ends (record { before = ts; head = h } ∷ k) (t, g) End p

value_ends : (h : Opening) (name : List ℕ) (at value_at : ℕ) (double : Bool) (us : List ℕ) (ts : Trees Places) (k : List Open) → is_tag h.tag ≡ true → GoodOpen k → (p : ℕ) → Ends (State_at (In (InValue h name at value_at double us)) ts k) p (quote_code double ∷ 62 ∷ after h.tag k)
value_ends h name at value_at true us ts k t g p = opened_ends (record h { attrs = h.attrs ++ record { name = name; value = us; at = at; value_at = value_at } ∷ [] }) ts k (p + len_utf8 34) t g (p + len_utf8 34 + len_utf8 62)
value_ends h name at value_at false us ts k t g p = opened_ends (record h { attrs = h.attrs ++ record { name = name; value = us; at = at; value_at = value_at } ∷ [] }) ts k (p + len_utf8 39) t g (p + len_utf8 39 + len_utf8 62)

run_ends : (r : Run) (ts : Trees Places) (k : List Open) → GoodRun r → GoodOpen k → (p : ℕ) → Ends (State_at (In r) ts k) p (close_run r k)
run_ends (InText at us) ts k q g p = text_ends k g at us ts p
run_ends (InValue h name at value_at double us) ts k q g p = value_ends h name at value_at double us ts k q g p

grown_ends : (r : Run) (us : List ℕ) (ts : Trees Places) (k : List Open) → GoodRun r → GoodOpen k → (p : ℕ) → Ends (State_at (In (grown r us)) ts k) p (close_run r k)
grown_ends (InText at vs) us ts k q g p = text_ends k g at (vs ++ us) ts p
grown_ends (InValue h name at value_at double vs) us ts k q g p = value_ends h name at value_at double (vs ++ us) ts k q g p

bound_small : (n : ℕ) → n < 7 → bound n ≤ 1000000
bound_small zero lt = omega arith
bound_small (suc zero) lt = omega arith
bound_small (suc (suc zero)) lt = omega arith
bound_small (suc (suc (suc zero))) lt = omega arith
bound_small (suc (suc (suc (suc zero)))) lt = omega arith
bound_small (suc (suc (suc (suc (suc zero))))) lt = omega arith
bound_small (suc (suc (suc (suc (suc (suc zero)))))) lt = omega arith
bound_small (suc (suc (suc (suc (suc (suc (suc n))))))) lt = absurd (omega (arith, lt))

or_right : (a : Bool) {b : Bool} → b ≡ true → (a || b) ≡ true
or_right true e = refl
or_right false e = e

refer_on : (v : ℕ) → v < 1000000 → is_referable v ≡ false → is_referable (v * 10 + 1) ≡ true
refer_on v small e = pick (nat_lt 0 v) (nat_lt v 0xD800) (nat_le 0xE000 v) (nat_lt v 0x11_0000) refl refl refl refl e
  where
    pick : (a b c d : Bool) → nat_lt 0 v ≡ a → nat_lt v 0xD800 ≡ b → nat_le 0xE000 v ≡ c → nat_lt v 0x11_0000 ≡ d → (a && (b || (c && d))) ≡ false → is_referable (v * 10 + 1) ≡ true
    pick false b c d p q r s t = let z : v ≡ 0 = grind (arith, nat_tests, p) in subst (λ m. is_referable (m * 10 + 1) ≡ true) (sym z) refl
    pick true true c d p q r s t = cc
    pick true false true true p q r s t = cc
    pick true false true false p q r s t = let l : 0x11_0000 ≤ v = grind (arith, nat_tests, s) in absurd (omega (arith, l, small))
    pick true false false d p q r s t =
        let l : 0xD800 ≤ v = grind (arith, nat_tests, q) in
        let m : v < 0xE000 = grind (arith, nat_tests, r) in
        both (lt-ltb 0 (v * 10 + 1) (omega arith)) (or_right (nat_lt (v * 10 + 1) 0xD800) (both (le-leb 0xE000 (v * 10 + 1) (omega (arith, l))) (lt-ltb (v * 10 + 1) 0x11_0000 (omega (arith, m)))))

-- one digit more makes it a code point
one_more : (n v : ℕ) → GoodReferring (Number n v) → (nat_lt 0 n && is_referable v) ≡ false → (n < 7) × (v < 1000000) × (is_referable (v * 10 + 1) ≡ true)
one_more n v h e = (few, small, refer)
  where
    few_of : (b : Bool) → nat_eq n 7 ≡ b → n < 7
    few_of true q =
        let is : n ≡ 7 = eqb-true n 7 q in
        let yes_it_is : (nat_lt 0 n && is_referable v) ≡ true = both (lt-ltb 0 n (omega (arith, is))) (h.1 is) in
        absurd (clash (nat_lt 0 n && is_referable v) yes_it_is e)
      where
        clash : (c : Bool) → c ≡ true → c ≡ false → ⊥
        clash c f g = cc
    few_of false q = let ne : n ≢ 7 = grind (arith, nat_tests, q) in omega (arith, ne, h.0)

    few : n < 7
    few = few_of (nat_eq n 7) refl

    small : v < 1000000
    small = let b = bound_small n few in let l = h.2 few in omega (arith, b, l)

    at_start : n ≡ 0 → v ≡ 0
    at_start z = let l = subst (λ m. v < bound m) z (h.2 few) in omega (arith, l)

    refer_of : (b : Bool) → nat_lt 0 n ≡ b → is_referable (v * 10 + 1) ≡ true
    refer_of false q = let z : n ≡ 0 = grind (arith, nat_tests, q) in subst (λ m. is_referable (m * 10 + 1) ≡ true) (sym (at_start z)) refl
    refer_of true q = refer_on v small (sym (ap (λ b. b && is_referable v) q) ∙ e)

    refer : is_referable (v * 10 + 1) ≡ true
    refer = refer_of (nat_lt 0 n) refl

referring_ends : (r : Run) (f : Referring) (ts : Trees Places) (k : List Open) → GoodRun r → GoodReferring f → GoodOpen k → (p : ℕ) → Ends (State_at (Refers r f) ts k) p (close_referring f (close_run r k))
referring_ends r Ampersand ts k q h g p = grown_ends r (encode_utf16 60) ts k q g (p + len_utf8 108 + len_utf8 116 + len_utf8 59)
referring_ends r (Named us c) ts k q h g p = word_ends (λ ws. State_at (Refers r (Named ws c)) ts k) (λ u ws s x. refl) us h (59 ∷ close_run r k) (λ m. grown_ends r (encode_utf16 c) ts k q g (m + len_utf8 59)) p
referring_ends r (Number n v) ts k q h g p = pick (nat_lt 0 n && is_referable v) refl
  where
    ends_now : (m w : ℕ) (place : ℕ) → (nat_lt 0 m && is_referable w) ≡ true → Ends (State_at (Refers r (Number m w)) ts k) place (59 ∷ close_run r k)
    ends_now m w place e = first_ends (State_at (Refers r (Number m w)) ts k) (State_at (In (grown r (encode_utf16 w))) ts k) place 59 (close_run r k) (if_true _ _ e) (grown_ends r (encode_utf16 w) ts k q g (place + len_utf8 59))

    digit_on : (m w : ℕ) → (n < 7) × (v < 1000000) × (is_referable (v * 10 + 1) ≡ true) → machine.digit r n v 49 ts k ≡ Some (State_at (Refers r (Number (suc n) (v * 10 + 1))) ts k)
    digit_on m w o = if_true _ _ (lt-ltb v 1000000 o.1) ∙ if_true _ _ (seven (suc n) (v * 10 + 1) (omega (arith, o.0)) (λ _. o.2))

    pick : (b : Bool) → (nat_lt 0 n && is_referable v) ≡ b → Ends (State_at (Refers r (Number n v)) ts k) p (cond b (59 ∷ close_run r k) (49 ∷ 59 ∷ close_run r k))
    pick true e = ends_now n v p e
    pick false e =
        let o = one_more n v h e in
        first_ends (State_at (Refers r (Number n v)) ts k) (State_at (Refers r (Number (suc n) (v * 10 + 1))) ts k) p 49 (59 ∷ close_run r k) (digit_on n v o)
        (ends_now (suc n) (v * 10 + 1) (p + len_utf8 49) (both (lt-ltb 0 (suc n) (omega arith)) o.2))

pub closes : (st : State) → Good st → (p : ℕ) → Ends st p (closing st)
unfolding limit is_void
closes (State_at Between ts k) g p = between_ends k g.0 ts p
closes (State_at (In r) ts k) g p = run_ends r ts k g.1 g.0 p
closes (State_at (Refers r f) ts k) g p = referring_ends r f ts k g.1.0 g.1.1 g.0 p
closes (State_at (Begun at) ts []) g p = (beside ts (element_node (codes "br") [] End at), refl)
closes (State_at (Begun at) ts (o ∷ k)) g p = begun_ends o k g.0 at ts p
closes (State_at (TagName at us) ts k) g p = opened_ends (record { tag = us; attrs = []; at = at }) ts k p g.1 g.0 (p + len_utf8 62)
closes (State_at (Valued h) ts k) g p = opened_ends h ts k p g.1 g.0 (p + len_utf8 62)
closes (State_at (Spaced h) ts k) g p = opened_ends h ts k p g.1 g.0 (p + len_utf8 62)
closes (State_at (AttributeName h at us) ts k) g p = value_ends h us at (suc (p + len_utf8 61)) true [] ts k g.1 g.0 (p + len_utf8 61 + len_utf8 34)
closes (State_at (Assigned h at us) ts k) g p = value_ends h us at (suc p) true [] ts k g.1 g.0 (p + len_utf8 34)
closes (State_at (Slashed h) ts k) g p = between_ends k g.0 (beside ts (element_node h.tag h.attrs End h.at)) (p + len_utf8 62)
closes (State_at (Ending us) ts []) g p = absurd g.1
closes (State_at (Ending us) ts (o ∷ k)) g p = word_ends (λ ws. State_at (Ending ws) ts (o ∷ k)) (λ u ws s x. refl) us g.1 (62 ∷ close_all k) (λ q. ending_ends o k g.0 ts q) p
closes (State_at Ended ts []) g p = absurd g.1
closes (State_at Ended ts (o ∷ k)) g p = between_ends k g.0.1 (beside o.before (element_node (o.head).tag (o.head).attrs ts (o.head).at)) (p + len_utf8 62)
closes (State_at (InRaw h at us) ts k) g p = raw_ends h at us ts k g.0 p
closes (State_at (RawBegun h at us) ts k) g p = raw_ending_ends h at us (codes "script") ts k g.0 refl (p + len_utf8 47)
closes (State_at (RawEnding h at us word) ts k) g p = raw_ending_ends h at us word ts k g.0 g.1.1 p

-- ## The text is ASCII

tag_ascii : (us : List ℕ) → is_tag us ≡ true → is_ascii us ≡ true
tag_ascii [] t = refl
tag_ascii (u ∷ us) t = let p = parts (in_tag (sign_of u) && nat_lt u 128) (is_tag us) t in both (parts (in_tag (sign_of u)) (nat_lt u 128) p.0).1 (tag_ascii us p.1)

ascii_append : (us vs : List ℕ) → is_ascii us ≡ true → is_ascii vs ≡ true → is_ascii (us ++ vs) ≡ true
ascii_append [] vs e f = f
ascii_append (u ∷ us) vs e f = let p = parts (nat_lt u 128) (is_ascii us) e in both p.0 (ascii_append us vs p.1 f)

all_ascii : (k : List Open) → GoodOpen k → is_ascii (close_all k) ≡ true
all_ascii [] g = refl
all_ascii (o ∷ k) g = ascii_append (o.head).tag (62 ∷ close_all k) (tag_ascii (o.head).tag g.0) (all_ascii k g.1)

after_ascii : (tag : List ℕ) (k : List Open) → is_tag tag ≡ true → GoodOpen k → is_ascii (after tag k) ≡ true
after_ascii tag k t g = pick (is_void tag) (is_script tag)
  where
    pick : (v i : Bool) → is_ascii (cond v (close_all k) (cond i (60 ∷ 47 ∷ (codes "script" ++ 62 ∷ close_all k)) (60 ∷ 47 ∷ (tag ++ 62 ∷ close_all k)))) ≡ true
    pick true i = all_ascii k g
    pick false true = all_ascii k g
    pick false false = ascii_append tag (62 ∷ close_all k) (tag_ascii tag t) (all_ascii k g)

run_ascii : (r : Run) (k : List Open) → GoodRun r → GoodOpen k → is_ascii (close_run r k) ≡ true
run_ascii (InText at us) k q g = all_ascii k g
run_ascii (InValue h name at value_at true us) k q g = after_ascii h.tag k q g
run_ascii (InValue h name at value_at false us) k q g = after_ascii h.tag k q g

referring_ascii : (f : Referring) (tail : List ℕ) → GoodReferring f → is_ascii tail ≡ true → is_ascii (close_referring f tail) ≡ true
referring_ascii Ampersand tail h e = e
referring_ascii (Named us c) tail h e = ascii_append us (59 ∷ tail) (tag_ascii us h) e
referring_ascii (Number n v) tail h e = pick (nat_lt 0 n && is_referable v)
  where
    pick : (b : Bool) → is_ascii (cond b (59 ∷ tail) (49 ∷ 59 ∷ tail)) ≡ true
    pick true = e
    pick false = e

pub closing_ascii : (st : State) → Good st → is_ascii (closing st) ≡ true
closing_ascii (State_at Between ts k) g = all_ascii k g.0
closing_ascii (State_at (In r) ts k) g = run_ascii r k g.1 g.0
closing_ascii (State_at (Refers r f) ts k) g = referring_ascii f (close_run r k) g.1.1 (run_ascii r k g.1.0 g.0)
closing_ascii (State_at (Begun at) ts []) g = refl
closing_ascii (State_at (Begun at) ts (o ∷ k)) g = all_ascii (o ∷ k) g.0
closing_ascii (State_at (TagName at us) ts k) g = after_ascii us k g.1 g.0
closing_ascii (State_at (Valued h) ts k) g = after_ascii h.tag k g.1 g.0
closing_ascii (State_at (Spaced h) ts k) g = after_ascii h.tag k g.1 g.0
closing_ascii (State_at (AttributeName h at us) ts k) g = after_ascii h.tag k g.1 g.0
closing_ascii (State_at (Assigned h at us) ts k) g = after_ascii h.tag k g.1 g.0
closing_ascii (State_at (Slashed h) ts k) g = all_ascii k g.0
closing_ascii (State_at (Ending us) ts []) g = absurd g.1
closing_ascii (State_at (Ending us) ts (o ∷ k)) g = ascii_append us (62 ∷ close_all k) (tag_ascii us g.1) (all_ascii k g.0.1)
closing_ascii (State_at Ended ts []) g = absurd g.1
closing_ascii (State_at Ended ts (o ∷ k)) g = all_ascii k g.0.1
closing_ascii (State_at (InRaw h at us) ts k) g = all_ascii k g.0
closing_ascii (State_at (RawBegun h at us) ts k) g = all_ascii k g.0
closing_ascii (State_at (RawEnding h at us word) ts k) g = ascii_append word (62 ∷ close_all k) (tag_ascii word g.1.1) (all_ascii k g.0)
