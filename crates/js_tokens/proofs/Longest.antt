-- What is found at the front is the longest token, a gap, or the bad place.
use Rattle.std.proofs.Common.{◌≡◌, ℕ, ◌≤◌, ◌<◌, List, [], ◌∷◌, ◌++◌, length, Bool, true, false, Option, Some, None, refl, ap, ◌∙◌, arith, inl, inr, subst, sym}
use Rattle.std.specs.Prelude.{nat_eq, ◌||◌, if◌then◌else◌}
use Rattle.std.proofs.lemmas.Bool.{cond_both, eqb-true, both_ways, false≢true}
use Rattle.std.proofs.lemmas.Bool.Decides.{nat_tests}
use Rattle.js_tokens.specs.declared.token.TokenKind.{TokenKind}
use Rattle.js_tokens.specs.declared.token.TokenKind.TheVariants as kind
use Rattle.js_tokens.specs.declared.class.Class.{Class}
use Rattle.js_tokens.specs.declared.class.Class.TheVariants as class
use Rattle.js_tokens.specs.Characters.{class_of, is_letter, is_digit, is_blank, begins_mark, is_part, Begins, Starts}
use Rattle.js_tokens.specs.Words.{is_reserved, is_mark}
use Rattle.js_tokens.specs.Lexes.{front, Run, begins_comment, Spelled, IsLongest, IsApart}
use Rattle.js_tokens.specs.Lexes.Spelled.{name, reserved, number, text, mark}
use Rattle.js_tokens.specs.Scan as scan
use Rattle.js_tokens.specs.Scan.{after_run, after_number, after_exponent, after_assign, after_mark, after_string, first_bad, Found, word_kind, found_number, found_string, found_slash, found_at, found}
use Rattle.js_tokens.proofs.Runs.{Suffix, whole, next, suffix_length, suffix_once, suffix_more, run_suffix, run_sound, run_longest, after_run_suffix}
use Rattle.js_tokens.proofs.Numbers.{number_sound, point_sound, number_suffix, after_exponent_suffix, number_longest, point_longest, point_digit, number_first}
use Rattle.js_tokens.proofs.Marks.{mark_longest, mark_first, has_mark_class, mark_sound, point_mark, slash_mark}
use Rattle.js_tokens.proofs.Strings.{inside_suffix, inside_sound, inside_found}

-- classes

abbrev pub ClassIs : Class → ℕ → Type 0
ClassIs class.Letter c = is_letter c ≡ true
ClassIs class.Digit c = is_digit c ≡ true
ClassIs class.Blank c = is_blank c ≡ true
ClassIs class.Quote c = (nat_eq c 34 || nat_eq c 39) ≡ true
ClassIs class.Point c = nat_eq c 46 ≡ true
ClassIs class.Slash c = nat_eq c 47 ≡ true
ClassIs class.Mark c = begins_mark c ≡ true
ClassIs class.Other c = Unit {0}

pub class_means : (c : ℕ) → ClassIs (class_of c) c
class_means c =
    cond_both (is_letter c) _ _ (λ x. ClassIs x c) (λ e. e) (λ _.
    cond_both (is_digit c) _ _ (λ x. ClassIs x c) (λ e. e) (λ _.
    cond_both (is_blank c) _ _ (λ x. ClassIs x c) (λ e. e) (λ _.
    cond_both (nat_eq c 34 || nat_eq c 39) _ _ (λ x. ClassIs x c) (λ e. e) (λ _.
    cond_both (nat_eq c 46) _ _ (λ x. ClassIs x c) (λ e. e) (λ _.
    cond_both (nat_eq c 47) _ _ (λ x. ClassIs x c) (λ e. e) (λ _.
    cond_both (begins_mark c) _ _ (λ x. ClassIs x c) (λ e. e) (λ _. tt)))))))

no_letter : (c : ℕ) → is_digit c ≡ true → is_letter c ≡ false
no_letter c e = grind (arith, nat_tests)

class_digit : (c : ℕ) → is_digit c ≡ true → class_of c ≡ class.Digit
class_digit c e = let no_l = no_letter c e in rw (no_l, e) refl

pub at_class : (c : ℕ) (x : Class) → class_of c ≡ x → ClassIs x c
at_class c x e = subst (λ y. ClassIs y c) e (class_means c)

-- the longest token, whatever comes behind it
abbrev pub scan_string : Option (List ℕ) → Option (List ℕ) → Found
scan_string (Some rest) None = scan.Token kind.Str rest
scan_string _ _ = scan.End

abbrev pub scan_point : Bool → List ℕ → Found
scan_point b cs = if b then scan.Token kind.Number (after_exponent (after_run is_digit cs)) else scan.Token kind.Mark cs

abbrev pub scan_slash : Bool → List ℕ → Found
scan_slash b cs = if b then scan.End else scan.Token kind.Mark (after_assign cs)

abbrev pub word : ℕ → List ℕ → Bool
word c cs = is_reserved (front (c ∷ cs) (after_run is_part cs))

abbrev pub scan_at : Class → ℕ → List ℕ → Found
scan_at class.Letter c cs = scan.Token (word_kind (word c cs)) (after_run is_part cs)
scan_at class.Digit c cs = scan.Token kind.Number (after_number c cs)
scan_at class.Blank c cs = scan.End
scan_at class.Quote c cs = scan_string (after_string c false cs) (first_bad c false cs)
scan_at class.Point c cs = scan_point (Begins is_digit cs) cs
scan_at class.Slash c cs = scan_slash (begins_comment (c ∷ cs)) cs
scan_at class.Mark c cs = scan.Token kind.Mark (after_mark c cs)
scan_at class.Other c cs = scan.End

abbrev pub scan_of : List ℕ → Found
scan_of [] = scan.End
scan_of (c ∷ cs) = scan_at (class_of c) c cs

-- no token is longer than what is scanned

abbrev Best : Found → TokenKind → List ℕ → Type 0
Best (scan.Token l rest) k other = (length rest ≤ length other) × (rest ≡ other → l ≡ k)
Best _ k other = ⊥

point_shorter : (cs : List ℕ) → Begins is_digit cs ≡ true → length (after_exponent (after_run is_digit cs)) < length cs
point_shorter [] e = absurd (false≢true e)
point_shorter (d ∷ ds) e =
    let le = suffix_length (suffix_more (after_run_suffix is_digit ds) (after_exponent_suffix (after_run is_digit ds))) in
    rw e (omega (arith, le))

pub at_scan : (c : ℕ) (cs : List ℕ) (x : Class) (P : Found → Type 0) → class_of c ≡ x → P (scan_at x c cs) → P (scan_of (c ∷ cs))
at_scan c cs x P e h = subst (λ y. P (scan_at y c cs)) (sym e) h

best_word : (c : ℕ) (cs other : List ℕ) (b : Bool) → Run is_part cs other → is_reserved (front (c ∷ cs) other) ≡ b → Best (scan_at class.Letter c cs) (word_kind b) other
best_word c cs other b r e = (run_longest r, λ same. ap (λ y. word_kind (is_reserved (front (c ∷ cs) y))) same ∙ ap word_kind e)

best_point : (c : ℕ) (cs other : List ℕ) (b : Bool) → Begins is_digit cs ≡ b → length cs ≤ length other → Best (scan_point b cs) kind.Mark other
best_point c cs other true e le =
    let lt = point_shorter cs e in
    (omega (arith, lt, le), λ same. absurd (let eq = ap length same in omega (arith, lt, le, eq)))
best_point c cs other false e le = (le, λ same. refl)

best_mark : (m : List ℕ) (c : ℕ) (cs other : List ℕ) (x : Class) → class_of c ≡ x → has_mark_class x ≡ true → is_mark m ≡ true → c ∷ cs ≡ m ++ other → begins_comment (c ∷ cs) ≡ false → Best (scan_at x c cs) kind.Mark other
best_mark m c cs other class.Letter e h is same bare = absurd (false≢true h)
best_mark m c cs other class.Digit e h is same bare = absurd (false≢true h)
best_mark m c cs other class.Blank e h is same bare = absurd (false≢true h)
best_mark m c cs other class.Quote e h is same bare = absurd (false≢true h)
best_mark m c cs other class.Other e h is same bare = absurd (false≢true h)
best_mark m c cs other class.Mark e h is same bare = (mark_longest m c cs other is same, λ _. refl)
best_mark m c cs other class.Point e h is same bare =
    let le : length (after_mark c cs) ≤ length other = mark_longest m c cs other is same in
    let at : c ≡ 46 = eqb-true c 46 (at_class c class.Point e) in
    best_point c cs other (Begins is_digit cs) refl (subst (λ y. length (after_mark y cs) ≤ length other) at le)
best_mark m c cs other class.Slash e h is same bare =
    let le : length (after_mark c cs) ≤ length other = mark_longest m c cs other is same in
    let at : c ≡ 47 = eqb-true c 47 (at_class c class.Slash e) in
    rw bare (subst (λ y. length (after_mark y cs) ≤ length other) at le, λ _. refl)

complete : (c : ℕ) (cs : List ℕ) (k : TokenKind) (other : List ℕ) → Spelled k (c ∷ cs) other → Best (scan_of (c ∷ cs)) k other
complete c cs k other (name e r n) = at_scan c cs class.Letter (λ f. Best f kind.Name other) e (best_word c cs other false r n)
complete c cs k other (reserved e r n) = at_scan c cs class.Letter (λ f. Best f kind.Reserved other) e (best_word c cs other true r n)
complete c cs k other (number n) =
    elim (number_first c cs other n) [
      | inl d ↦ at_scan c cs class.Digit (λ f. Best f kind.Number other) (class_digit c d) (number_longest c cs other d n, λ _. refl)
      | inr p ↦
          at_scan c cs class.Point (λ f. Best f kind.Number other) (ap class_of p)
          (let h : Begins is_digit cs ≡ true = point_digit c cs other p n in let le = point_longest c cs other p n in rw h (le, λ _. refl))
    ]
complete c cs k other (text q i) =
    let f = inside_found i in
    let closed : after_string c false cs ≡ Some other = f.0 in
    let good : first_bad c false cs ≡ None = f.1 in
    at_scan c cs class.Quote (λ g. Best g kind.Str other) q (rw (closed, good) (omega arith, λ _. refl))
complete c cs k other (mark m is same bare) = at_scan c cs (class_of c) (λ f. Best f kind.Mark other) refl (best_mark m c cs other (class_of c) refl (mark_first m (c ∷ cs) other is same) is same bare)

all_complete : (cs : List ℕ) (k : TokenKind) (other : List ℕ) → Spelled k cs other → Best (scan_of cs) k other
all_complete [] k other (number n) = elim n [ ]
all_complete [] k other (mark m is same bare) = absurd (false≢true (mark_first m [] other is same))
all_complete (c ∷ cs) k other s = complete c cs k other s

-- and it is a token

abbrev Sound : Found → List ℕ → Type 0
Sound (scan.Token k rest) cs = Spelled k cs rest
Sound _ cs = Unit {0}

word_sound : (c : ℕ) (cs rest : List ℕ) (b : Bool) → class_of c ≡ class.Letter → Run is_part cs rest → is_reserved (front (c ∷ cs) rest) ≡ b → Spelled (word_kind b) (c ∷ cs) rest
word_sound c cs rest true e r n = reserved e r n
word_sound c cs rest false e r n = name e r n

string_sound : (c : ℕ) (cs : List ℕ) (r p : Option (List ℕ)) → class_of c ≡ class.Quote → after_string c false cs ≡ r → first_bad c false cs ≡ p → Sound (scan_string r p) (c ∷ cs)
string_sound c cs None p q e f = tt
string_sound c cs (Some rest) None q e f = text q (inside_sound c cs rest e f)
string_sound c cs (Some rest) (Some place) q e f = tt

point_scan : (c : ℕ) (cs : List ℕ) (b : Bool) → c ≡ 46 → Begins is_digit cs ≡ b → Sound (scan_point b cs) (c ∷ cs)
point_scan c cs true e h = number (point_sound c cs e h)
point_scan c cs false e h = point_mark c cs e

slash_scan : (c : ℕ) (cs : List ℕ) (b : Bool) → c ≡ 47 → begins_comment (c ∷ cs) ≡ b → Sound (scan_slash b cs) (c ∷ cs)
slash_scan c cs true e h = tt
slash_scan c cs false e h = slash_mark c cs e h

sound_at : (c : ℕ) (cs : List ℕ) (x : Class) → class_of c ≡ x → ClassIs x c → Sound (scan_at x c cs) (c ∷ cs)
sound_at c cs class.Letter e h = word_sound c cs (after_run is_part cs) (word c cs) e (run_sound is_part cs) refl
sound_at c cs class.Digit e h = number (number_sound c cs h)
sound_at c cs class.Blank e h = tt
sound_at c cs class.Quote e h = string_sound c cs (after_string c false cs) (first_bad c false cs) e refl refl
sound_at c cs class.Point e h = point_scan c cs (Begins is_digit cs) (eqb-true c 46 h) refl
sound_at c cs class.Slash e h = slash_scan c cs (begins_comment (c ∷ cs)) (eqb-true c 47 h) refl
sound_at c cs class.Mark e h = mark_sound c cs h
sound_at c cs class.Other e h = tt

sound : (cs : List ℕ) → Sound (scan_of cs) cs
sound [] = tt
sound (c ∷ cs) = sound_at c cs (class_of c) refl (class_means c)

-- ends

pub append_suffix : (m rest cs : List ℕ) → cs ≡ m ++ rest → Suffix cs rest
append_suffix [] rest cs e = subst (λ l. Suffix l rest) (sym e) whole
append_suffix (c ∷ m) rest cs e = subst (λ l. Suffix l rest) (sym e) (next (append_suffix m rest (m ++ rest) refl))

pub spelled_suffix : {k : TokenKind} {cs rest : List ℕ} → Spelled k cs rest → Suffix cs rest
spelled_suffix (name e r n) = next (run_suffix r)
spelled_suffix (reserved e r n) = next (run_suffix r)
spelled_suffix (number n) = number_suffix n
spelled_suffix (text q i) = next (inside_suffix i)
spelled_suffix {k} {cs} {rest} (mark m is same bare) = append_suffix m rest cs same

-- the longest token is what is scanned

token_at : (k : TokenKind) (cs rest : List ℕ) (f : Found) → Sound f cs → Best f k rest → Spelled k cs rest → IsLongest cs rest → f ≡ scan.Token k rest
token_at k cs rest scan.End s b t long = absurd b
token_at k cs rest (scan.Gap r) s b t long = absurd b
token_at k cs rest (scan.Bad r) s b t long = absurd b
token_at k cs rest (scan.Token l r) s b t long =
    let le = long l r s in
    let same : r ≡ rest = suffix_once (spelled_suffix s) (spelled_suffix t) (omega (arith, le, b.0)) in
    let kinds : l ≡ k = b.1 same in
    cc

pub token_scanned : {k : TokenKind} {cs rest : List ℕ} → Spelled k cs rest → IsLongest cs rest → scan_of cs ≡ scan.Token k rest
token_scanned {k} {cs} {rest} s long = token_at k cs rest (scan_of cs) (sound cs) (all_complete cs k rest s) s long

pub scanned_spelled : (k : TokenKind) (cs rest : List ℕ) → scan_of cs ≡ scan.Token k rest → Spelled k cs rest
scanned_spelled k cs rest e = subst (λ f. Sound f cs) e (sound cs)

pub scanned_longest : (k : TokenKind) (cs rest : List ℕ) → scan_of cs ≡ scan.Token k rest → IsLongest cs rest
scanned_longest k cs rest e l other s = (subst (λ f. Best f l other) e (all_complete cs l other s)).0

-- what is found, where a token is scanned

abbrev finish : TokenKind → List ℕ → List ℕ → Found
finish kind.Number cs rest = found_number cs rest
finish k cs rest = scan.Token k rest

abbrev finish_of : List ℕ → Found → Found
finish_of cs (scan.Token k rest) = finish k cs rest
finish_of cs f = f

abbrev is_token : Found → Bool
is_token (scan.Token k rest) = true
is_token _ = false

finish_word : (b : Bool) (cs rest : List ℕ) → scan.Token (word_kind b) rest ≡ finish (word_kind b) cs rest
finish_word true cs rest = refl
finish_word false cs rest = refl

finish_string : (here : List ℕ) (r p : Option (List ℕ)) → is_token (scan_string r p) ≡ true → found_string here r p ≡ finish_of here (scan_string r p)
finish_string here None p e = absurd (false≢true e)
finish_string here (Some r) None e = refl
finish_string here (Some r) (Some p) e = absurd (false≢true e)

finish_point : (here cs : List ℕ) (b : Bool) → (if b then found_number here (after_exponent (after_run is_digit cs)) else scan.Token kind.Mark cs) ≡ finish_of here (scan_point b cs)
finish_point here cs true = refl
finish_point here cs false = refl

finish_slash : (c : ℕ) (cs : List ℕ) (a b : Bool) → nat_eq c 47 ≡ true → Starts 47 cs ≡ a → Starts 42 cs ≡ b → is_token (scan_slash (begins_comment (c ∷ cs)) cs) ≡ true → found_slash (c ∷ cs) cs ≡ finish_of (c ∷ cs) (scan_slash (begins_comment (c ∷ cs)) cs)
finish_slash c cs true b slash e f t = let no_token : is_token (scan_slash (begins_comment (c ∷ cs)) cs) ≡ false = rw (slash, e) refl in absurd (both_ways _ no_token t)
finish_slash c cs false true slash e f t = let no_token : is_token (scan_slash (begins_comment (c ∷ cs)) cs) ≡ false = rw (slash, e, f) refl in absurd (both_ways _ no_token t)
finish_slash c cs false false slash e f t = rw (slash, e, f) refl

found_finish : (c : ℕ) (cs : List ℕ) (x : Class) → ClassIs x c → is_token (scan_at x c cs) ≡ true → found_at x c cs ≡ finish_of (c ∷ cs) (scan_at x c cs)
found_finish c cs class.Letter h t = finish_word (word c cs) (c ∷ cs) (after_run is_part cs)
found_finish c cs class.Digit h t = refl
found_finish c cs class.Blank h t = absurd (false≢true t)
found_finish c cs class.Quote h t = finish_string (c ∷ cs) (after_string c false cs) (first_bad c false cs) t
found_finish c cs class.Point h t = finish_point (c ∷ cs) cs (Begins is_digit cs)
found_finish c cs class.Slash h t = finish_slash c cs (Starts 47 cs) (Starts 42 cs) h refl refl t
found_finish c cs class.Mark h t = refl
found_finish c cs class.Other h t = absurd (false≢true t)

pub found_scanned : (k : TokenKind) (cs rest : List ℕ) → scan_of cs ≡ scan.Token k rest → found cs ≡ finish k cs rest
found_scanned k [] rest e = absurd (cc e)
found_scanned k (c ∷ cs) rest e = found_finish c cs (class_of c) (class_means c) (ap is_token e) ∙ ap (finish_of (c ∷ cs)) e

-- a token that may stand there is what is found
apart_finish : (k : TokenKind) (cs rest : List ℕ) → IsApart k rest → finish k cs rest ≡ scan.Token k rest
apart_finish kind.Name cs rest a = refl
apart_finish kind.Reserved cs rest a = refl
apart_finish kind.Number cs rest a = rw a refl
apart_finish kind.Str cs rest a = refl
apart_finish kind.Mark cs rest a = refl

pub token_found : {k : TokenKind} {cs rest : List ℕ} → Spelled k cs rest → IsLongest cs rest → IsApart k rest → found cs ≡ scan.Token k rest
token_found {k} {cs} {rest} s long apart = found_scanned k cs rest (token_scanned s long) ∙ apart_finish k cs rest apart
