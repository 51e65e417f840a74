-- What a text breaks: A02, and what is found where the other rules begin.
use Rattle.std.proofs.Common.{◌≡◌, ℕ, suc, ◌-◌, ◌<◌, List, [], ◌∷◌, ◌++◌, refl, sym, ap, ◌∙◌, subst, inl, inr, ◌⊎◌, arith, append_assoc, length, get_or, take, drop, Option, None, Bool, true, false}
use Rattle.std.specs.Prelude.{map, All, not, if◌then◌else◌}
use Rattle.std.proofs.lemmas.List.{take_all}
use Rattle.js_tree.specs.declared.nodes.StmtId.{StmtId}
use Rattle.js_tree.specs.Plain.{Stmts}
use Rattle.js_tree.specs.Forest.{Forest, IsStmt}
use Rattle.js_tree.specs.Parts.{Spot, stmts_spots, spot_at}
use Rattle.first_breach.specs.declared.Breach.{Breach}
use Rattle.first_breach.specs.Breaches.{Nothing, One, If}
use Rattle.first_breach.specs.Narrowing.{Narrows}
use Rattle.first_breach.proofs.Members.{map_append}
use Rattle.first_breach.proofs.Narrowing.{narrows_beside, narrows_as}
use Rattle.adsafe_rules.specs.declared.scope.Scope.{Scope}
use Rattle.node_rules.specs.declared.pushes.Work.{Work}
use Rattle.node_rules.specs.Hoisting.{stmt_spot}
use Rattle.adsafe_rules.specs.Program.{is_opening, is_opening_name, opening_functions, Misopened, nothing, first, second, name, tops, Breaks, A02, within}
use Rattle.adsafe_rules.specs.Openings.{OpeningRows, SecondRow, ProgramRows}
use Rattle.adsafe_rules.specs.Rows.{AnyFound}
use Rattle.node_rules.specs.Work.{at_depth, stmt_ids}
use Rattle.adsafe_rules.specs.Walk.{Pushes}
use Rattle.adsafe_rules.proofs.Parting.{in_both, in_stmts}
use Rattle.node_rules.proofs.Lists.{append_nothing}

-- lists by their first
pub first_at : {A : Type 0} (xs : List A) (d : A) → 0 < length xs → xs ≡ get_or xs 0 d ∷ drop 1 xs
first_at [] d lt = absurd (omega arith)
first_at (y ∷ ys) d lt = refl

pub rest_at : {A : Type 0} (xs : List A) (d : A) → 1 < length xs → drop 1 xs ≡ get_or xs 1 d ∷ drop 2 xs
rest_at [] d lt = absurd (omega arith)
rest_at (y ∷ []) d lt = absurd (omega arith)
rest_at (y ∷ z ∷ zs) d lt = refl

pub no_rest : {A : Type 0} (xs : List A) → length xs < 2 → drop 1 xs ≡ []
no_rest [] lt = refl
no_rest (x ∷ []) lt = refl
no_rest (x ∷ y ∷ xs) lt = absurd (omega arith)

pub none_of : {A : Type 0} (xs : List A) → length xs ≡ 0 → xs ≡ []
none_of [] e = refl
none_of (x ∷ xs) e = absurd (omega arith)

pub cut_is : {A : Type 0} (xs : List A) → take (length xs - 1) (drop 1 xs) ≡ drop 1 xs
cut_is [] = refl
cut_is (x ∷ xs) = take_all (length (x ∷ xs) - 1) xs (omega arith)

pub all_rest : {A : Type 0} (P : A → Type 0) (xs : List A) → All P xs → All P (drop 1 xs)
all_rest P [] h = h
all_rest P (x ∷ xs) h = λ k d lt. h (suc k) d (omega arith)

-- A02
not_true : (b : Bool) → not b ≡ true → b ≡ false
not_true true e = cc
not_true false e = refl

not_false : (b : Bool) → b ≡ false → not b ≡ true
not_false true e = cc
not_false false e = refl

abbrev pub Opened : Scope → List Spot → ℕ → ℕ → Type 0
Opened scope spots r p = (r ≡ 2) × Misopened scope spots p

at_two : {scope : Scope} {spots : List Spot} {at r p : ℕ} → One 2 at r p → Misopened scope spots at → Opened scope spots r p
at_two {scope} {spots} e m = (e.same_rule, subst (Misopened scope spots) (sym e.same_place) m)

opening_to : (scope : Scope) (s : Spot) (rest : List Spot) (r p : ℕ) → OpeningRows scope s r p → Opened scope (s ∷ rest) r p
opening_to scope s rest r p h = elim h [
  | inl a ↦ at_two a.broken (first (not_true (is_opening scope s) a.passed))
  | inr a ↦ let b = a.broken in let c = b.broken in at_two c.broken (name a.passed b.is_in (not_true (is_opening_name scope b.item.text) c.passed))
]

second_to : (scope : Scope) (s : Spot) (rest : List Spot) (r p : ℕ) → SecondRow rest r p → Opened scope (s ∷ rest) r p
second_to scope s [] r p h = absurd h
second_to scope s (t ∷ rest) r p h = at_two h second

program_to : (scope : Scope) (spots : List Spot) (r p : ℕ) → ProgramRows scope spots r p → Opened scope spots r p
program_to scope [] r p h = at_two h nothing
program_to scope (s ∷ rest) r p h = elim h [ inl a ↦ opening_to scope s rest r p a | inr a ↦ second_to scope s rest r p a ]

from_misopened : {scope : Scope} {spots : List Spot} {p : ℕ} → Misopened scope spots p → ProgramRows scope spots 2 p
from_misopened nothing = record { same_rule = refl; same_place = refl }
from_misopened {scope} (first {s = s} h) = inl (inl (record { passed = not_false (is_opening scope s) h; broken = record { same_rule = refl; same_place = refl } }))
from_misopened second = inr (record { same_rule = refl; same_place = refl })
from_misopened {scope} (name {x = x} h i w) = inl (inr (record { passed = h; broken = record { item = x; is_in = i; broken = record { passed = not_false (is_opening_name scope x.text) w; broken = record { same_rule = refl; same_place = refl } } } }))

-- the whole text
breaks_split : {program : Stmts} {scope : Scope} {r p : ℕ} → Breaks program scope r p → ProgramRows scope (stmts_spots program) r p ⊎ AnyFound [] (tops scope (stmts_spots program)) r p
breaks_split (A02 m) = inl (from_misopened m)
breaks_split (within h) = inr h

module _ (program : Stmts) (scope : Scope) where
  opened_breaks : (r p : ℕ) → ProgramRows scope (stmts_spots program) r p → Breaks program scope r p
  opened_breaks r p h = let o = program_to scope (stmts_spots program) r p h in subst (λ x. Breaks program scope x p) (sym o.0) (A02 o.1)

  found_breaks : (r p : ℕ) → AnyFound [] (tops scope (stmts_spots program)) r p → Breaks program scope r p
  found_breaks r p h = within h

  pub start_narrows : (B : ℕ → ℕ → Type 0) (b : Option Breach) → ((r p : ℕ) → AnyFound [] (tops scope (stmts_spots program)) r p → B r p) → ((r p : ℕ) → B r p → AnyFound [] (tops scope (stmts_spots program)) r p) → Narrows (ProgramRows scope (stmts_spots program)) None Nothing b → Narrows (Breaks program scope) None B b
  start_narrows B b to back s = narrows_beside s
      (λ r p h. elim (breaks_split h) [ inl a ↦ inl a | inr a ↦ inr (to r p a) ])
      opened_breaks
      (λ r p h. found_breaks r p (back r p h))

-- pushes, one after the other
pub pushes_none : (f : Forest) (d : ℕ) (spots : List Spot) (ws : List Work) → spots ≡ [] → Pushes f d spots ws ws
pushes_none f d spots ws e = record { parts = []; same = e; are_in = tt; pushed = sym (append_nothing ws) }

pub pushes_both : (f : Forest) (d : ℕ) (a b : List Spot) (w0 w1 w2 : List Work) → Pushes f d a w0 w1 → Pushes f d b w1 w2 → Pushes f d (a ++ b) w0 w2
pushes_both f d a b w0 w1 w2 h k = record {
  parts = h.parts ++ k.parts;
  same = ap (λ l. l ++ b) h.same ∙ ap (λ l. map (spot_at f) h.parts ++ l) k.same ∙ sym (map_append (spot_at f) h.parts k.parts);
  are_in = in_both f h.parts k.parts h.are_in k.are_in;
  pushed = k.pushed ∙ ap (λ l. l ++ map (at_depth d) k.parts) h.pushed ∙ append_assoc w0 (map (at_depth d) h.parts) (map (at_depth d) k.parts) ∙ ap (λ l. w0 ++ l) (sym (map_append (at_depth d) h.parts k.parts));
}

stmt_list : (f : Forest) (ids : List StmtId) → map (stmt_spot f) ids ≡ map (spot_at f) (stmt_ids ids)
stmt_list f [] = refl
stmt_list f (id ∷ ids) = ap (λ l. stmt_spot f id ∷ l) (stmt_list f ids)

pub pushes_stmts : (f : Forest) (ids : List StmtId) (w0 w1 : List Work) → All (IsStmt f) ids → w1 ≡ w0 ++ map (at_depth 0) (stmt_ids ids) → Pushes f 0 (map (stmt_spot f) ids) w0 w1
pushes_stmts f ids w0 w1 h e = record { parts = stmt_ids ids; same = stmt_list f ids; are_in = in_stmts f ids h; pushed = e }

-- what is pushed of a text
module _ (f : Forest) (scope : Scope) (ids : List StmtId) (d : StmtId) (lt : 0 < length ids) (w0 w1 w2 : List Work) where
  abbrev s : Spot
  s = stmt_spot f (get_or ids 0 d)

  abbrev rest : List Spot
  rest = map (stmt_spot f) (drop 1 ids)

  spots_are : map (stmt_spot f) ids ≡ s ∷ rest
  spots_are = ap (map (stmt_spot f)) (first_at ids d lt)

  pub tops_open : is_opening scope s ≡ true → Pushes f 0 (opening_functions s) w0 w1 → Pushes f 0 rest w1 w2 → Pushes f 0 (tops scope (map (stmt_spot f) ids)) w0 w2
  tops_open h a b =
      subst (λ l. Pushes f 0 (tops scope l) w0 w2) (sym spots_are)
      (subst (λ t. Pushes f 0 ((if t then opening_functions s else s ∷ []) ++ rest) w0 w2) (sym h) (pushes_both f 0 (opening_functions s) rest w0 w1 w2 a b))

  pub tops_all : is_opening scope s ≡ false → Pushes f 0 (map (stmt_spot f) ids) w0 w1 → Pushes f 0 (tops scope (map (stmt_spot f) ids)) w0 w1
  tops_all h a =
      subst (λ l. Pushes f 0 (tops scope l) w0 w1) (sym spots_are)
      (subst (λ t. Pushes f 0 ((if t then opening_functions s else s ∷ []) ++ rest) w0 w1) (sym h) (subst (λ l. Pushes f 0 l w0 w1) spots_are a))

pub hit_narrows : (rule at place : ℕ) (a b : Option Breach) → at ≡ place → Narrows (If true (One rule at)) a Nothing b → Narrows (One rule place) a Nothing b
hit_narrows rule at place a b e s = narrows_as s (λ r p h. subst (λ x. One rule x r p) e h.broken) (λ r p h. record { passed = refl; broken = subst (λ x. One rule x r p) (sym e) h })
