-- The longest mark.
use Rattle.std.proofs.Common.{◌≡◌, ℕ, ◌≤◌, List, [], ◌∷◌, ◌++◌, length, Bool, true, false, refl, ap, ◌∙◌, arith, inl, inr, subst, sym, append_assoc}
use Rattle.std.specs.Prelude.{nat_eq, codes, if◌then◌else◌}
use Rattle.std.specs.List.{list_any, list_all}
use Rattle.std.specs.Str.{bytes_eq}
use Rattle.std.proofs.lemmas.Bool.{cond_both, eqb-true, or_cases, and_parts, and_left, false≢true}
use Rattle.std.proofs.lemmas.Slice.Eq.{bytes_eq-Decides}
use Rattle.js_tokens.specs.declared.class.Class.{Class}
use Rattle.js_tokens.specs.declared.class.Class.TheVariants as class
use Rattle.js_tokens.specs.declared.token.TokenKind.TheVariants as kind
use Rattle.js_tokens.specs.Characters.{class_of, begins_mark, Begins, Starts}
use Rattle.js_tokens.specs.Words.{marks, is_mark}
use Rattle.js_tokens.specs.Lexes.{Spelled, begins_comment}
use Rattle.js_tokens.specs.Lexes.Spelled.{mark}
use Rattle.js_tokens.specs.Scan.{tail, after_assign, after_mark}
use Rattle.js_tokens.proofs.Runs.{Suffix, whole, suffix_length, suffix_more, tail_suffix}

abbrev pub Each : {A : Type 0} → (A → Type 0) → List A → Type 0
Each P [] = Unit {0}
Each P (x ∷ xs) = P x × Each P xs

-- what holds of each word of a list holds of each that is found there
pub any_of : (P : List ℕ → Type 0) (ws : List (List ℕ)) → Each P ws → (m : List ℕ) → list_any (bytes_eq m) ws ≡ true → P m
any_of P [] all m e = absurd (false≢true e)
any_of P (w ∷ ws) all m e =
    elim (or_cases (bytes_eq m w) (list_any (bytes_eq m) ws) e) [
      | inl here ↦ subst P (sym ((bytes_eq-Decides m w).0 here)) (all.0)
      | inr later ↦ any_of P ws (all.1) m later
    ]

any_number : (P : ℕ → Type 0) (ns : List ℕ) → Each P ns → (c : ℕ) → list_any (nat_eq c) ns ≡ true → P c
any_number P [] all c e = absurd (false≢true e)
any_number P (n ∷ ns) all c e =
    elim (or_cases (nat_eq c n) (list_any (nat_eq c) ns) e) [
      | inl here ↦ subst P (sym (eqb-true c n here)) (all.0)
      | inr later ↦ any_number P ns (all.1) c later
    ]

pub all_pass : (p : List ℕ → Bool) (ws : List (List ℕ)) → list_all p ws ≡ true → Each (λ w. p w ≡ true) ws
all_pass p [] e = tt
all_pass p (w ∷ ws) e = let h = and_parts (p w) (list_all p ws) e in (h.0, all_pass p ws (h.1))

-- ends

pub assign_suffix : (cs : List ℕ) → Suffix cs (after_assign cs)
assign_suffix cs = cond_both (Starts 61 cs) (tail cs) cs (λ r. Suffix cs r) (λ e. tail_suffix cs) (λ e. whole)

same_le : (cs : List ℕ) → length cs ≤ length cs
same_le cs = omega arith

assign_le : (cs : List ℕ) → length (after_assign cs) ≤ length cs
assign_le cs = suffix_length (assign_suffix cs)

tail_assign_le : (cs : List ℕ) → length (after_assign (tail cs)) ≤ length cs
tail_assign_le cs = suffix_length (suffix_more (tail_suffix cs) (assign_suffix (tail cs)))

equals_le : (cs : List ℕ) → length (after_mark 61 cs) ≤ length cs
equals_le cs = cond_both (Starts 61 cs) (after_assign (tail cs)) cs (λ r. length r ≤ length cs) (λ e. tail_assign_le cs) (λ e. same_le cs)

doubles_le : (c : ℕ) (cs : List ℕ) → length (if Starts c cs then tail cs else after_assign cs) ≤ length cs
doubles_le c cs = cond_both (Starts c cs) (tail cs) (after_assign cs) (λ r. length r ≤ length cs) (λ e. suffix_length (tail_suffix cs)) (λ e. assign_le cs)

less_le : (cs : List ℕ) → length (after_mark 60 cs) ≤ length cs
less_le cs = cond_both (Starts 60 cs) (after_assign (tail cs)) (after_assign cs) (λ r. length r ≤ length cs) (λ e. tail_assign_le cs) (λ e. assign_le cs)

-- behind `>>`
shift_le : (cs : List ℕ) → length (after_mark 62 (62 ∷ cs)) ≤ length cs
shift_le cs = cond_both (Starts 62 cs) (after_assign (tail cs)) (after_assign cs) (λ r. length r ≤ length cs) (λ e. tail_assign_le cs) (λ e. assign_le cs)

two_tails_le : (cs : List ℕ) → length (after_assign (tail (tail cs))) ≤ length cs
two_tails_le cs = suffix_length (suffix_more (tail_suffix cs) (suffix_more (tail_suffix (tail cs)) (assign_suffix (tail (tail cs)))))

greater_le : (cs : List ℕ) → length (after_mark 62 cs) ≤ length cs
greater_le cs =
    cond_both (Starts 62 cs) _ (after_assign cs) (λ r. length r ≤ length cs)
    (λ e. cond_both (Starts 62 (tail cs)) (after_assign (tail (tail cs))) (after_assign (tail cs)) (λ r. length r ≤ length cs) (λ f. two_tails_le cs) (λ f. tail_assign_le cs))
    (λ e. assign_le cs)

-- longest

abbrev after_front : List ℕ → List ℕ
after_front [] = []
after_front (c ∷ cs) = after_mark c cs

abbrev IsLeast : List ℕ → Type 0
IsLeast m = (other : List ℕ) → length (after_front (m ++ other)) ≤ length other

all_least : Each IsLeast marks
unfolding marks
all_least = (λ o. same_le o, (λ o. same_le o, (λ o. same_le o, (λ o. same_le o, (λ o. same_le o, (λ o. same_le o, (λ o. same_le o, (λ o. same_le o, (λ o. same_le o, (λ o. less_le o, (λ o. greater_le o, (λ o. same_le o, (λ o. same_le o, (λ o. assign_le o, (λ o. assign_le o, (λ o. same_le o, (λ o. same_le o, (λ o. doubles_le 43 o, (λ o. doubles_le 45 o, (λ o. assign_le o, (λ o. assign_le o, (λ o. assign_le o, (λ o. same_le o, (λ o. same_le o, (λ o. assign_le o, (λ o. shift_le o, (λ o. assign_le o, (λ o. doubles_le 38 o, (λ o. doubles_le 124 o, (λ o. assign_le o, (λ o. equals_le o, (λ o. same_le o, (λ o. same_le o, (λ o. same_le o, (λ o. same_le o, (λ o. same_le o, (λ o. equals_le o, (λ o. same_le o, (λ o. same_le o, (λ o. same_le o, (λ o. same_le o, (λ o. same_le o, (λ o. same_le o, (λ o. same_le o, (λ o. same_le o, (λ o. same_le o, (λ o. same_le o, (λ o. same_le o, tt))))))))))))))))))))))))))))))))))))))))))))))))

pub mark_longest : (m : List ℕ) (c : ℕ) (cs other : List ℕ) → is_mark m ≡ true → c ∷ cs ≡ m ++ other → length (after_mark c cs) ≤ length other
unfolding is_mark
mark_longest m c cs other e same = subst (λ l. length (after_front l) ≤ length other) (sym same) (any_of IsLeast marks all_least m e other)

-- what begins a mark

abbrev pub has_mark_class : Class → Bool
has_mark_class class.Mark = true
has_mark_class class.Point = true
has_mark_class class.Slash = true
has_mark_class _ = false

abbrev pub begins_as_mark : List ℕ → Bool
begins_as_mark cs = Begins (λ c. has_mark_class (class_of c)) cs

all_begin : list_all begins_as_mark marks ≡ true
unfolding marks
all_begin = refl

begins_append : (p : ℕ → Bool) (m other : List ℕ) → Begins p m ≡ true → Begins p (m ++ other) ≡ true
begins_append p [] other e = absurd (false≢true e)
begins_append p (c ∷ m) other e = e

pub mark_first : (m : List ℕ) (cs other : List ℕ) → is_mark m ≡ true → cs ≡ m ++ other → begins_as_mark cs ≡ true
unfolding is_mark
mark_first m cs other e same =
    ap begins_as_mark same ∙ begins_append (λ c. has_mark_class (class_of c)) m other (any_of (λ w. begins_as_mark w ≡ true) marks (all_pass begins_as_mark marks all_begin) m e)

-- sound

no_comment : (m : ℕ) (cs : List ℕ) → nat_eq m 47 ≡ false → begins_comment (m ∷ cs) ≡ false
no_comment m cs e = and_left (nat_eq m 47) _ e

-- a mark, with or without `=`
assigns : (w cs all : List ℕ) → is_mark w ≡ true → is_mark (w ++ 61 ∷ []) ≡ true → all ≡ w ++ cs → begins_comment all ≡ false → Spelled kind.Mark all (after_assign cs)
assigns w [] all a b same bare = mark w a same bare
assigns w (c ∷ cs) all a b same bare =
    cond_both (nat_eq c 61) cs (c ∷ cs) (λ r. Spelled kind.Mark all r)
    (λ e. mark (w ++ 61 ∷ []) b (same ∙ ap (λ x. w ++ x ∷ cs) (eqb-true c 61 e) ∙ sym (append_assoc w (61 ∷ []) cs)) bare)
    (λ e. mark w a same bare)

alone : (m : ℕ) (cs : List ℕ) → is_mark (m ∷ []) ≡ true → nat_eq m 47 ≡ false → Spelled kind.Mark (m ∷ cs) cs
alone m cs a bare = mark (m ∷ []) a refl (no_comment m cs bare)

-- `==`, `===`
equals : (m : ℕ) (cs : List ℕ) → is_mark (m ∷ []) ≡ true → is_mark (m ∷ 61 ∷ []) ≡ true → is_mark (m ∷ 61 ∷ 61 ∷ []) ≡ true → nat_eq m 47 ≡ false → Spelled kind.Mark (m ∷ cs) (if Starts 61 cs then after_assign (tail cs) else cs)
equals m [] a b d bare = alone m [] a bare
equals m (c ∷ cs) a b d bare =
    cond_both (nat_eq c 61) (after_assign cs) (c ∷ cs) (λ r. Spelled kind.Mark (m ∷ c ∷ cs) r)
    (λ e. assigns (m ∷ 61 ∷ []) cs (m ∷ c ∷ cs) b d (ap (λ x. m ∷ x ∷ cs) (eqb-true c 61 e)) (no_comment m (c ∷ cs) bare))
    (λ e. alone m (c ∷ cs) a bare)

-- `++`, `+=`
doubles : (m : ℕ) (cs : List ℕ) → is_mark (m ∷ []) ≡ true → is_mark (m ∷ 61 ∷ []) ≡ true → is_mark (m ∷ m ∷ []) ≡ true → nat_eq m 47 ≡ false → Spelled kind.Mark (m ∷ cs) (if Starts m cs then tail cs else after_assign cs)
doubles m [] a b d bare = alone m [] a bare
doubles m (c ∷ cs) a b d bare =
    cond_both (nat_eq c m) cs (after_assign (c ∷ cs)) (λ r. Spelled kind.Mark (m ∷ c ∷ cs) r)
    (λ e. mark (m ∷ m ∷ []) d (ap (λ x. m ∷ x ∷ cs) (eqb-true c m e)) (no_comment m (c ∷ cs) bare))
    (λ e. assigns (m ∷ []) (c ∷ cs) (m ∷ c ∷ cs) a b refl (no_comment m (c ∷ cs) bare))

less : (cs : List ℕ) → Spelled kind.Mark (60 ∷ cs) (after_mark 60 cs)
unfolding is_mark marks
less [] = alone 60 [] refl refl
less (c ∷ cs) =
    cond_both (nat_eq c 60) (after_assign cs) (after_assign (c ∷ cs)) (λ r. Spelled kind.Mark (60 ∷ c ∷ cs) r)
    (λ e. assigns (60 ∷ 60 ∷ []) cs (60 ∷ c ∷ cs) refl refl (ap (λ x. 60 ∷ x ∷ cs) (eqb-true c 60 e)) refl)
    (λ e. assigns (60 ∷ []) (c ∷ cs) (60 ∷ c ∷ cs) refl refl refl refl)

-- behind `>>`
shift : (c : ℕ) (cs : List ℕ) → c ≡ 62 → Spelled kind.Mark (62 ∷ c ∷ cs) (if Starts 62 cs then after_assign (tail cs) else after_assign cs)
unfolding is_mark marks
shift c [] e = mark (62 ∷ 62 ∷ []) refl (ap (λ x. 62 ∷ x ∷ []) e) refl
shift c (d ∷ cs) e =
    cond_both (nat_eq d 62) (after_assign cs) (after_assign (d ∷ cs)) (λ r. Spelled kind.Mark (62 ∷ c ∷ d ∷ cs) r)
    (λ f. assigns (62 ∷ 62 ∷ 62 ∷ []) cs (62 ∷ c ∷ d ∷ cs) refl refl (ap (λ x. 62 ∷ x ∷ d ∷ cs) e ∙ ap (λ x. 62 ∷ 62 ∷ x ∷ cs) (eqb-true d 62 f)) refl)
    (λ f. assigns (62 ∷ 62 ∷ []) (d ∷ cs) (62 ∷ c ∷ d ∷ cs) refl refl (ap (λ x. 62 ∷ x ∷ d ∷ cs) e) refl)

greater : (cs : List ℕ) → Spelled kind.Mark (62 ∷ cs) (after_mark 62 cs)
unfolding is_mark marks
greater [] = alone 62 [] refl refl
greater (c ∷ cs) =
    cond_both (nat_eq c 62) (if Starts 62 cs then after_assign (tail cs) else after_assign cs) (after_assign (c ∷ cs)) (λ r. Spelled kind.Mark (62 ∷ c ∷ cs) r)
    (λ e. shift c cs (eqb-true c 62 e))
    (λ e. assigns (62 ∷ []) (c ∷ cs) (62 ∷ c ∷ cs) refl refl refl refl)

all_sound : Each (λ c. (cs : List ℕ) → Spelled kind.Mark (c ∷ cs) (after_mark c cs)) (codes "{}()[];,<>=!+-*%&|^~?:")
unfolding is_mark marks
all_sound = (λ cs. alone 123 cs refl refl, (λ cs. alone 125 cs refl refl, (λ cs. alone 40 cs refl refl, (λ cs. alone 41 cs refl refl, (λ cs. alone 91 cs refl refl, (λ cs. alone 93 cs refl refl, (λ cs. alone 59 cs refl refl, (λ cs. alone 44 cs refl refl, (λ cs. less cs, (λ cs. greater cs, (λ cs. equals 61 cs refl refl refl refl, (λ cs. equals 33 cs refl refl refl refl, (λ cs. doubles 43 cs refl refl refl refl, (λ cs. doubles 45 cs refl refl refl refl, (λ cs. assigns (42 ∷ []) cs (42 ∷ cs) refl refl refl refl, (λ cs. assigns (37 ∷ []) cs (37 ∷ cs) refl refl refl refl, (λ cs. doubles 38 cs refl refl refl refl, (λ cs. doubles 124 cs refl refl refl refl, (λ cs. assigns (94 ∷ []) cs (94 ∷ cs) refl refl refl refl, (λ cs. alone 126 cs refl refl, (λ cs. alone 63 cs refl refl, (λ cs. alone 58 cs refl refl, tt))))))))))))))))))))))

pub mark_sound : (c : ℕ) (cs : List ℕ) → begins_mark c ≡ true → Spelled kind.Mark (c ∷ cs) (after_mark c cs)
mark_sound c cs e = any_number (λ x. (cs : List ℕ) → Spelled kind.Mark (x ∷ cs) (after_mark x cs)) (codes "{}()[];,<>=!+-*%&|^~?:") all_sound c e cs

pub point_mark : (c : ℕ) (cs : List ℕ) → c ≡ 46 → Spelled kind.Mark (c ∷ cs) cs
unfolding is_mark marks
point_mark c cs e = subst (λ x. Spelled kind.Mark (x ∷ cs) cs) (sym e) (alone 46 cs refl refl)

pub slash_mark : (c : ℕ) (cs : List ℕ) → c ≡ 47 → begins_comment (c ∷ cs) ≡ false → Spelled kind.Mark (c ∷ cs) (after_assign cs)
unfolding is_mark marks
slash_mark c cs e bare = assigns (47 ∷ []) cs (c ∷ cs) refl refl (ap (λ x. x ∷ cs) e) bare
