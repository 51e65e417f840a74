-- What `value` writes leaves trees low: the nodes that get a new text node stand low enough.
use Rattle.std.proofs.Common.{◌≡◌, ℕ, suc, ◌+◌, ◌<◌, ◌≤◌, List, [], ◌∷◌, length, Bool, true, false, refl, sym, ◌∙◌, ◌||◌, arith}
use Rattle.std.specs.Prelude.{not, ◌&&◌, nat_lt, Option, Some, None, codes, if◌then◌else◌}
use Rattle.std.specs.List.{AllByRecursion, fold, list_all}
use Rattle.std.specs.Option.{option_map_or}
use Rattle.std.proofs.lemmas.Bool.{ltb-true, ltb-false}
use Rattle.plain_tree.specs.Trees.{Label, TextOf, ElementOf, End, Node}
use Rattle.tree_ops.specs.Labels.{with_attribute}
use Rattle.tree_ops.specs.Trees.{grafted, numbered}
use Rattle.widget_meaning.specs.Limits.{max_node_depth}
use Rattle.widget_meaning.specs.Trees.{Trees, label_of, children, tops, with_detached, detached, depth_of}
use Rattle.widget_meaning.specs.OwnState.{State}
use Rattle.widget_meaning.specs.NodeLaws.{times}
use Rattle.widget_meaning.specs.PageForms.{is_input, is_text_node, is_tag, with_label}
use Rattle.widget_meaning.specs.BunchWrites.{relabel, emptied, with_text_node, valued, has_new_text, is_value_target}
use Rattle.widget_meaning.proofs.Times.{times_numbered}
use Rattle.widget_meaning.proofs.Ancestors.{IsWithin}
use Rattle.meaning_laws.proofs.Levels.{height_detached, height_grafted, within_depth, within_freed}
use Rattle.meaning_laws.proofs.Low.{IsLow, both_true}
use Rattle.meaning_laws.proofs.Deep.{IsDeep, OfLabel, is_own, deep_own, deep_within, deep_grafted, deep_freed, deep_relabelled, within_other}

-- a node that may get a text node: where there is a text, it stands so deep at most
abbrev pub IsOpen : List ℕ → ℕ → Trees → Type 0
IsOpen [] n ts = Unit {0}
IsOpen (u ∷ us) n ts = IsWithin n 199 0 ts

-- or it takes the value itself
abbrev pub IsReady : List ℕ → ℕ → Trees → Type 0
IsReady [] n ts = Unit {0}
IsReady (u ∷ us) n ts = IsDeep n 0 ts

plus_zero : (a b : ℕ) → a ≤ b → a + 0 ≤ b
plus_zero a b h = omega (arith, h)

zero_plus : (a b : ℕ) → a + 0 ≤ b → a ≤ b
zero_plus a b h = omega (arith, h)

pub low_text : (n k : ℕ) (t : List ℕ) (ts : Trees) → IsLow ts → IsWithin n 199 0 ts → IsLow (grafted n None (Node k (TextOf t) End End) ts)
low_text n k t ts l w = zero_plus _ (max_node_depth + 1) (height_grafted n 199 0 (max_node_depth + 1) None (Node k (TextOf t) End End) ts (plus_zero _ (max_node_depth + 1) l) w (omega arith))

pub low_new : (k : ℕ) (l : Label) (ts : Trees) → IsLow ts → IsLow (with_detached (Node k l End End) ts)
low_new k l ts h = omega (arith, h, height_detached (Node k l End End) ts)

within_all_freed : (n : ℕ) (ms : List ℕ) (ts : Trees) → IsWithin n 199 0 ts → IsWithin n 199 0 (fold detached ts ms)
within_all_freed n [] ts h = h
within_all_freed n (m ∷ ms) ts h = within_all_freed n ms (detached ts m) (within_freed n 199 m ts h)

pub open_freed : (t : List ℕ) (n : ℕ) (ms : List ℕ) (ts : Trees) → IsOpen t n ts → IsOpen t n (fold detached ts ms)
open_freed [] n ms ts h = tt
open_freed (u ∷ us) n ms ts h = within_all_freed n ms ts h

deep_all_freed : (n : ℕ) (ms : List ℕ) (ts : Trees) → IsDeep n 0 ts → IsDeep n 0 (fold detached ts ms)
deep_all_freed n [] ts h = h
deep_all_freed n (m ∷ ms) ts h = deep_all_freed n ms (detached ts m) (deep_freed n m ts h)

-- ## By the tests

neither : (a b : Bool) → a ≡ false → b ≡ false → (a || b) ≡ false
neither false false e f = refl
neither false true e f = f
neither true b e f = e

one_of : (a b : Bool) → a ≡ true → (a || b) ≡ true
one_of true b e = refl
one_of false b e = cc

other_of : (a b : Bool) → b ≡ true → (a || b) ≡ true
other_of true b e = refl
other_of false b e = e

own_label : (b : Bool) (o : Option Label) → is_own o ≡ b → OfLabel b o
own_label b None e = tt
own_label b (Some l) e = e

-- an element that is no `input` stands low enough
pub open_other : (t : List ℕ) (s : State) (n : ℕ) → times n s.own.forest ≤ 1 → IsReady t n s.own.forest → is_input s n ≡ false → is_text_node s n ≡ false → IsOpen t n s.own.forest
open_other [] s n o r e f = tt
open_other (u ∷ us) s n o r e f = within_other n 0 s.own.forest o r (own_label false (label_of n s.own.forest) (neither (is_input s n) (is_text_node s n) e f))

clash : false ≡ true → ⊥
clash e = cc

open_test : (a b c d : Bool) → a ≡ true → b ≡ false → c ≡ false → (not (a && not b && not c) || d) ≡ true → d ≡ true
open_test false b c d x y z e = absurd (clash x)
open_test true true c d x y z e = absurd (clash (sym y))
open_test true false true d x y z e = absurd (clash (sym z))
open_test true false false d x y z e = e

some_length : (b : Bool) (u : ℕ) (us : List ℕ) → nat_lt 0 (length (u ∷ us)) ≡ b → b ≡ true
some_length true u us e = refl
some_length false u us e = absurd (not_none (length us) (ltb-false 0 (length (u ∷ us)) e))
  where
    not_none : (n : ℕ) → suc n ≤ 0 → ⊥
    not_none n h = omega arith

-- what is tested before anything is written
ready_target : (s : State) (u : ℕ) (us : List ℕ) (n : ℕ) → times n s.own.forest ≤ 1 → (not (has_new_text s (u ∷ us) n) || nat_lt (depth_of n s.own.forest) max_node_depth) ≡ true → IsDeep n 0 s.own.forest
ready_target s u us n o e = by (is_input s n) (is_text_node s n) refl refl
  where
    within_low : (p b c d : ℕ) (ts : Trees) → b ≤ c → IsWithin p b d ts → IsWithin p c d ts
    within_low p b c d End l h = tt
    within_low p b c d (Node m v ks ts) l h = (λ q. far d b c (h.0 q) l, (within_low p b c (suc d) ks l h.1.0, within_low p b c d ts l h.1.1))
      where
        far : (i j k : ℕ) → i ≤ j → j ≤ k → i ≤ k
        far i j k x y = omega arith

    lower : (d : ℕ) → nat_lt d max_node_depth ≡ true → d ≤ 199
    lower d x = omega (arith, ltb-true d max_node_depth x)

    by : (a b : Bool) → is_input s n ≡ a → is_text_node s n ≡ b → IsDeep n 0 s.own.forest
    by true b x y = deep_own n 0 s.own.forest o (own_label true (label_of n s.own.forest) (one_of (is_input s n) (is_text_node s n) x))
    by false true x y = deep_own n 0 s.own.forest o (own_label true (label_of n s.own.forest) (other_of (is_input s n) (is_text_node s n) y))
    by false false x y = deep_within n 0 s.own.forest (within_low n (depth_of n s.own.forest) 199 0 s.own.forest
        (lower (depth_of n s.own.forest) (open_test (nat_lt 0 (length (u ∷ us))) (is_text_node s n) (is_input s n) _ (some_length (nat_lt 0 (length (u ∷ us))) u us refl) y x e))
        (within_depth n 0 s.own.forest o))

pub all_ready : (s : State) (t ns : List ℕ) → ((n : ℕ) → times n s.own.forest ≤ 1) → list_all (is_value_target s t) ns ≡ true → AllByRecursion (λ n. IsReady t n s.own.forest) ns
all_ready s t [] o e = tt
all_ready s t (n ∷ ns) o e =
    let a = both_true (is_value_target s t n) (list_all (is_value_target s t) ns) e in
    let b = both_true (not (is_tag (codes "br" ∷ codes "hr" ∷ codes "img" ∷ []) s n)) (not (has_new_text s t n) || nat_lt (depth_of n s.own.forest) max_node_depth) a.0 in
    (one t b.1, all_ready s t ns o a.1)
  where
    one : (x : List ℕ) → (not (has_new_text s x n) || nat_lt (depth_of n s.own.forest) max_node_depth) ≡ true → IsReady x n s.own.forest
    one [] f = tt
    one (u ∷ us) f = ready_target s u us n (o n) f

-- ## What one node gets leaves the others ready

own_attribute : (v : List ℕ) (l : Label) → is_own (Some (with_attribute (codes "value") (Some v) l)) ≡ is_own (Some l)
own_attribute v (TextOf t) = refl
own_attribute v (ElementOf tag attrs) = refl

ready_relabel : (i n : ℕ) (v : List ℕ) (s : State) → is_input s n ≡ true → IsDeep i 0 s.own.forest → IsDeep i 0 (relabel (with_attribute (codes "value") (Some v)) s n).own.forest
ready_relabel i n v s e h = by (label_of n s.own.forest) (one_of (is_input s n) (is_text_node s n) e)
  where
    by : (o : Option Label) → is_own o ≡ true → IsDeep i 0 (option_map_or (λ l. with_label s n (with_attribute (codes "value") (Some v) l)) o s).own.forest
    by None f = h
    by (Some l) f = deep_relabelled i 0 n (with_attribute (codes "value") (Some v) l) s.own.forest (own_attribute v l ∙ f) h

pub ready_valued : (t : List ℕ) (s : State) (n i : ℕ) → i < length s.own.kept → IsReady t i s.own.forest → IsReady t i (valued t s n).own.forest
ready_valued [] s n i l h = tt
ready_valued (u ∷ us) s n i l h = by (is_input s n) (is_text_node s n) refl
  where
    by : (a b : Bool) → is_input s n ≡ a
        → IsDeep i 0 (if a then relabel (with_attribute (codes "value") (Some (u ∷ us))) s n else if b then with_label s n (TextOf (u ∷ us)) else with_text_node n (u ∷ us) (emptied s n)).own.forest
    by true b e = ready_relabel i n (u ∷ us) s e h
    by false true e = deep_relabelled i 0 n (TextOf (u ∷ us)) s.own.forest refl h
    by false false e = deep_grafted i 0 n None (numbered {M = ℕ} (length s.own.kept) (Node 0 (TextOf (u ∷ us)) End End)) (fold detached s.own.forest (tops (children n s.own.forest)))
        ((times_numbered i (length s.own.kept) (Node 0 (TextOf (u ∷ us)) End End)).before l)
        (deep_all_freed i (tops (children n s.own.forest)) s.own.forest h)
