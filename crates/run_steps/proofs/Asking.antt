-- Words are of one form at most, and of none where no form fits.
use Rattle.std.proofs.Common.{◌≡◌, ℕ, ◌<◌, List, [], ◌∷◌, codes, Option, Some, None, true, refl, sym, ap, subst, ◌∙◌, arith, if◌then◌else◌}
use Rattle.std.specs.Prelude.{◌^◌}
use Rattle.std.specs.Str.{bytes_eq}
use Rattle.std.proofs.lemmas.Fmt.{decimal_injective}
use Rattle.std.proofs.lemmas.Slice.Eq.{bytes_eq-Decides}
use Rattle.run_steps.specs.Request.{Request, Check, CheckLib, Tidy, Render, Replay, Audit, CheckAudit, Demo, IsCount, slice_limit, demo_limit, Asks, check, check_lib, tidy, render, replay, audit, check_audit, demo, IsSliced}
use Rattle.run_steps.proofs.Gathered.{some_is}

-- a request without its number
abbrev pub form_of : Request → Request
form_of (Check manifest) = Check manifest
form_of (CheckLib file) = CheckLib file
form_of (Tidy file) = Tidy file
form_of (Render manifest) = Render manifest
form_of (Replay manifest trace slice) = Replay manifest trace 0
form_of (Audit manifest trace slice) = Audit manifest trace 0
form_of (CheckAudit file) = CheckAudit file
form_of (Demo count) = Demo 0

-- the request of words, without its number, by tests of the first
abbrev form_in : List (List ℕ) → Option Request
form_in (form ∷ one ∷ []) =
    if bytes_eq form (codes "check") then Some (Check one)
    else (if bytes_eq form (codes "check-lib") then Some (CheckLib one)
    else (if bytes_eq form (codes "tidy") then Some (Tidy one)
    else (if bytes_eq form (codes "render") then Some (Render one)
    else (if bytes_eq form (codes "check-audit") then Some (CheckAudit one)
    else (if bytes_eq form (codes "demo") then Some (Demo 0) else None)))))
form_in (form ∷ manifest ∷ trace ∷ slice ∷ []) =
    if bytes_eq form (codes "replay") then Some (Replay manifest trace 0)
    else (if bytes_eq form (codes "audit") then Some (Audit manifest trace 0) else None)
form_in _ = None

asks_in : (words : List (List ℕ)) (request : Request) → Asks words request → form_in words ≡ Some (form_of request)
asks_in words request check = refl
asks_in words request check_lib = refl
asks_in words request tidy = refl
asks_in words request render = refl
asks_in words request (replay count) = refl
asks_in words request (audit count) = refl
asks_in words request check_audit = refl
asks_in words request (demo count) = refl

-- words ask for one thing
pub one_form : (words : List (List ℕ)) (r q : Request) → Asks words r → Asks words q → form_of r ≡ form_of q
one_form words r q a b = some_is (form_of r) (form_of q) (sym (asks_in words r a) ∙ asks_in words q b)

same_word : (xs ys : List ℕ) → bytes_eq xs ys ≡ true → xs ≡ ys
same_word xs ys = (bytes_eq-Decides xs ys).0

-- two words of a form
module _ (form one : List ℕ) where
  pub asks_check : bytes_eq form (codes "check") ≡ true → Asks (form ∷ one ∷ []) (Check one)
  asks_check is = subst (λ f. Asks (f ∷ one ∷ []) (Check one)) (sym (same_word form (codes "check") is)) check

  pub asks_check_lib : bytes_eq form (codes "check-lib") ≡ true → Asks (form ∷ one ∷ []) (CheckLib one)
  asks_check_lib is = subst (λ f. Asks (f ∷ one ∷ []) (CheckLib one)) (sym (same_word form (codes "check-lib") is)) check_lib

  pub asks_tidy : bytes_eq form (codes "tidy") ≡ true → Asks (form ∷ one ∷ []) (Tidy one)
  asks_tidy is = subst (λ f. Asks (f ∷ one ∷ []) (Tidy one)) (sym (same_word form (codes "tidy") is)) tidy

  pub asks_render : bytes_eq form (codes "render") ≡ true → Asks (form ∷ one ∷ []) (Render one)
  asks_render is = subst (λ f. Asks (f ∷ one ∷ []) (Render one)) (sym (same_word form (codes "render") is)) render

  pub asks_check_audit : bytes_eq form (codes "check-audit") ≡ true → Asks (form ∷ one ∷ []) (CheckAudit one)
  asks_check_audit is = subst (λ f. Asks (f ∷ one ∷ []) (CheckAudit one)) (sym (same_word form (codes "check-audit") is)) check_audit

  pub asks_demo : (n : ℕ) → bytes_eq form (codes "demo") ≡ true → IsCount demo_limit one n → Asks (form ∷ one ∷ []) (Demo n)
  asks_demo n is count = subst (λ f. Asks (f ∷ one ∷ []) (Demo n)) (sym (same_word form (codes "demo") is)) (demo count)

-- four words of a form
module _ (form manifest trace word : List ℕ) where
  pub asks_replay : (n : ℕ) → bytes_eq form (codes "replay") ≡ true → IsCount slice_limit word n → Asks (form ∷ manifest ∷ trace ∷ word ∷ []) (Replay manifest trace n)
  asks_replay n is count = subst (λ f. Asks (f ∷ manifest ∷ trace ∷ word ∷ []) (Replay manifest trace n)) (sym (same_word form (codes "replay") is)) (replay count)

  pub asks_audit : (n : ℕ) → bytes_eq form (codes "audit") ≡ true → IsCount slice_limit word n → Asks (form ∷ manifest ∷ trace ∷ word ∷ []) (Audit manifest trace n)
  asks_audit n is count = subst (λ f. Asks (f ∷ manifest ∷ trace ∷ word ∷ []) (Audit manifest trace n)) (sym (same_word form (codes "audit") is)) (audit count)

-- ## Numbers

-- the number of a request, and one with another number
abbrev number_of : Request → ℕ
number_of (Replay manifest trace slice) = slice
number_of (Audit manifest trace slice) = slice
number_of (Demo count) = count
number_of request = 0

abbrev numbered : Request → ℕ → Request
numbered (Replay manifest trace slice) n = Replay manifest trace n
numbered (Audit manifest trace slice) n = Audit manifest trace n
numbered (Demo count) n = Demo n
numbered request n = request

-- the number stands as the last word
abbrev last_word : List (List ℕ) → List ℕ
last_word (form ∷ one ∷ []) = one
last_word (form ∷ manifest ∷ trace ∷ slice ∷ []) = slice
last_word words = []

abbrev IsSpelled : List ℕ → Request → Type 0
IsSpelled word (Replay manifest trace slice) = IsCount slice_limit word slice
IsSpelled word (Audit manifest trace slice) = IsCount slice_limit word slice
IsSpelled word (Demo count) = IsCount demo_limit word count
IsSpelled word request = Unit {0}

is_spelled : (words : List (List ℕ)) (r : Request) → Asks words r → IsSpelled (last_word words) r
is_spelled words r check = tt
is_spelled words r check_lib = tt
is_spelled words r tidy = tt
is_spelled words r render = tt
is_spelled words r (replay count) = count
is_spelled words r (audit count) = count
is_spelled words r check_audit = tt
is_spelled words r (demo count) = count

one_count : (limit : ℕ) (word : List ℕ) (m n : ℕ) → limit < 2 ^ 64 → IsCount limit word m → IsCount limit word n → m ≡ n
one_count limit word m n small a b = decimal_injective m n (omega (arith, small, a.within)) (omega (arith, small, b.within)) (sym a.spelled ∙ b.spelled)

same_number : (r : Request) (n : ℕ) (word : List ℕ) → IsSpelled word r → IsSpelled word (numbered (form_of r) n) → r ≡ numbered (form_of r) n
same_number (Check manifest) n word a b = refl
same_number (CheckLib file) n word a b = refl
same_number (Tidy file) n word a b = refl
same_number (Render manifest) n word a b = refl
same_number (Replay manifest trace slice) n word a b = ap (Replay manifest trace) (one_count slice_limit word slice n (omega arith) a b)
same_number (Audit manifest trace slice) n word a b = ap (Audit manifest trace) (one_count slice_limit word slice n (omega arith) a b)
same_number (CheckAudit file) n word a b = refl
same_number (Demo count) n word a b = ap Demo (one_count demo_limit word count n (omega arith) a b)

by_number : (r : Request) → r ≡ numbered (form_of r) (number_of r)
by_number (Check manifest) = refl
by_number (CheckLib file) = refl
by_number (Tidy file) = refl
by_number (Render manifest) = refl
by_number (Replay manifest trace slice) = refl
by_number (Audit manifest trace slice) = refl
by_number (CheckAudit file) = refl
by_number (Demo count) = refl

-- words ask for one thing, its number included
pub one_request : (words : List (List ℕ)) (r q : Request) → Asks words r → Asks words q → r ≡ q
one_request words r q a b =
    let is : q ≡ numbered (form_of r) (number_of q) = by_number q ∙ ap (λ f. numbered f (number_of q)) (sym (one_form words r q a b)) in
    same_number r (number_of q) (last_word words) (is_spelled words r a) (subst (IsSpelled (last_word words)) is (is_spelled words q b)) ∙ sym is

-- the slice of the words is one, and so is the number
pub sliced : (words : List (List ℕ)) (q : Request) → Asks words q → IsSliced q
sliced words q check = tt
sliced words q check_lib = tt
sliced words q tidy = tt
sliced words q render = tt
sliced words q (replay count) = (count.positive, count.within)
sliced words q (audit count) = (count.positive, count.within)
sliced words q check_audit = tt
sliced words q (demo count) = count.within
