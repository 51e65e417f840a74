-- Trees stay as low as the limit: what the tests of the natives say of the nodes that go under a target.
use Rattle.std.proofs.Common.{◌≡◌, ℕ, ◌+◌, ◌<◌, ◌≤◌, List, [], ◌∷◌, Bool, true, false, refl, ◌∙◌, arith}
use Rattle.std.specs.Prelude.{not, ◌&&◌, nat_le, Option, None}
use Rattle.std.specs.List.{AllByRecursion, fold, list_all}
use Rattle.std.proofs.lemmas.Bool.{leb-true}
use Rattle.plain_tree.specs.Trees.{End, height}
use Rattle.tree_ops.specs.Trees.{has, subtree, grafted, numbered, copied, without}
use Rattle.widget_meaning.specs.Limits.{max_node_depth}
use Rattle.widget_meaning.specs.Trees.{Trees, moved, subtrees, depth_of}
use Rattle.widget_meaning.specs.OwnState.{State}
use Rattle.widget_meaning.specs.NodeLaws.{IsPage}
use Rattle.widget_meaning.specs.BunchWrites.{is_no_root, is_allowed_under, is_target}
use Rattle.widget_meaning.specs.PageForms.{is_text_node, is_void}
use Rattle.widget_meaning.proofs.Times.{times_numbered}
use Rattle.widget_meaning.proofs.Ancestors.{IsWithin, within_height}
use Rattle.meaning_laws.proofs.Each.{every}
use Rattle.meaning_laws.proofs.Levels.{IsApart, apart_from, apart_moved, apart_height, apart_times, apart_elsewhere, apart_off, within_depth, within_grafted, within_without, height_both, height_grafted, height_without, height_numbered, height_copied}

-- a node that may go under a target, which stands so deep at most
pub record MayGo (p b : ℕ) (ts : Trees) (n : ℕ) : Type 0 where
  pub room : ℕ
  pub fits : b + room ≤ max_node_depth
  pub apart : IsApart n p room ts

-- a target, and the nodes that go under it
pub record MayTake (ms : List ℕ) (ts : Trees) (p : ℕ) : Type 0 where
  pub depth : ℕ
  pub within : IsWithin p depth 0 ts
  pub each : AllByRecursion (MayGo p depth ts) ms

-- no tree is higher than the limit
abbrev pub IsLow : Trees → Type 0
IsLow ts = height ts ≤ max_node_depth + 1

-- ## By the tests

pub both_true : (a b : Bool) → (a && b) ≡ true → (a ≡ true) × (b ≡ true)
both_true true b e = (refl, e)
both_true false b e = cc

not_true : (a : Bool) → not a ≡ true → a ≡ false
not_true true e = cc
not_true false e = refl

allowed_goes : (s : State) (k p n : ℕ) → IsPage s.own.forest k → is_allowed_under s p n ≡ true → MayGo p (depth_of p s.own.forest) s.own.forest n
allowed_goes s k p n h e =
    let f : Trees = s.own.forest in
    let a = both_true (is_no_root n && not (has p (subtree n f))) (nat_le (depth_of p f + height (subtree n f)) max_node_depth) e in
    let b = both_true (is_no_root n) (not (has p (subtree n f))) a.0 in
    record {
      room = height (subtree n f);
      fits = leb-true (depth_of p f + height (subtree n f)) max_node_depth a.1;
      apart = apart_from n p (height (subtree n f)) f (h.once n) (not_true (has p (subtree n f)) b.1) (same (height (subtree n f)));
    }
  where
    same : (i : ℕ) → i ≤ i
    same i = omega arith

allowed_go : (s : State) (k p : ℕ) (ms : List ℕ) → IsPage s.own.forest k → list_all (is_allowed_under s p) ms ≡ true → AllByRecursion (MayGo p (depth_of p s.own.forest) s.own.forest) ms
allowed_go s k p [] h e = tt
allowed_go s k p (n ∷ ms) h e =
    let a = both_true (is_allowed_under s p n) (list_all (is_allowed_under s p) ms) e in
    (allowed_goes s k p n h a.0, allowed_go s k p ms h a.1)

pub target_takes : (s : State) (k p : ℕ) (ms : List ℕ) → IsPage s.own.forest k → is_target s ms p ≡ true → MayTake ms s.own.forest p
target_takes s k p ms h e =
    let a = both_true (not (is_text_node s p) && not (is_void s p)) (list_all (is_allowed_under s p) ms) e in
    record {
      depth = depth_of p s.own.forest;
      within = within_depth p 0 s.own.forest (h.once p);
      each = allowed_go s k p ms h a.1;
    }

pub targets_take : (s : State) (k : ℕ) (ms ns : List ℕ) → IsPage s.own.forest k → list_all (is_target s ms) ns ≡ true → AllByRecursion (MayTake ms s.own.forest) ns
targets_take s k ms [] h e = tt
targets_take s k ms (p ∷ ns) h e =
    let a = both_true (is_target s ms p) (list_all (is_target s ms) ns) e in
    (target_takes s k p ms h a.0, targets_take s k ms ns h a.1)

-- ## Moves

one_lower : (b r h : ℕ) → b + r ≤ max_node_depth → h ≤ r → b + 1 + h ≤ max_node_depth + 1
one_lower b r h i j = omega (arith, i, j)

plus_zero : (a b : ℕ) → a ≤ b → a + 0 ≤ b
plus_zero a b h = omega (arith, h)

zero_plus : (a b : ℕ) → a + 0 ≤ b → a ≤ b
zero_plus a b h = omega (arith, h)

far : (a b c : ℕ) → a ≤ b → b ≤ c → a ≤ c
far a b c h i = omega arith

pub low_moved : (p b n : ℕ) (next : Option ℕ) (ts : Trees) → IsLow ts → IsWithin p b 0 ts → MayGo p b ts n → IsLow (moved p next ts n)
low_moved p b n next ts l w g = zero_plus _ (max_node_depth + 1) (height_grafted p b 0 (max_node_depth + 1) next (subtree n ts) (without n ts)
    (plus_zero _ (max_node_depth + 1) (far _ _ (max_node_depth + 1) (height_without n ts) l)) (within_without p b 0 n ts w)
    (one_lower b g.room (height (subtree n ts)) g.fits (apart_height n p g.room ts g.apart)))

within_moved : (p b n : ℕ) (next : Option ℕ) (ts : Trees) → IsWithin p b 0 ts → MayGo p b ts n → IsWithin p b 0 (moved p next ts n)
within_moved p b n next ts w g = within_grafted p b 0 p next (subtree n ts) (without n ts) (apart_times n p g.room ts g.apart) (within_without p b 0 n ts w)

goes_moved : (p b n q : ℕ) (next : Option ℕ) (ts : Trees) → MayGo p b ts n → MayGo p b (moved p next ts q) n
goes_moved p b n q next ts g = record { room = g.room; fits = g.fits; apart = apart_moved n p g.room q next ts g.apart }

pub low_put : (p b : ℕ) (next : Option ℕ) (ms : List ℕ) (ts : Trees) → IsLow ts → IsWithin p b 0 ts → AllByRecursion (MayGo p b ts) ms → IsLow (fold (moved p next) ts ms)
low_put p b next [] ts l w g = l
low_put p b next (n ∷ ms) ts l w g = low_put p b next ms (moved p next ts n) (low_moved p b n next ts l w g.0) (within_moved p b n next ts w g.0)
    (every (MayGo p b ts) (MayGo p b (moved p next ts n)) (λ x h. goes_moved p b x n next ts h) ms g.1)

-- ## Copies

low_joined : (b : ℕ) (ts : Trees) (ms : List ℕ) → b ≤ max_node_depth → AllByRecursion (λ n. b + height (subtree n ts) ≤ max_node_depth) ms → b + height (subtrees ms ts) ≤ max_node_depth
low_joined b ts [] h k = omega (arith, h)
low_joined b ts (n ∷ ms) h k = omega (arith, k.0, low_joined b ts ms h k.1, height_both (subtree n ts) (subtrees ms ts))

goes_low : (p b : ℕ) (ts : Trees) (n : ℕ) → MayGo p b ts n → b + height (subtree n ts) ≤ max_node_depth
goes_low p b ts n g = omega (arith, g.fits, apart_height n p g.room ts g.apart)

one_copy : (b h : ℕ) (us : Trees) → height us ≡ h → b + h ≤ max_node_depth → b + 1 + height us ≤ max_node_depth + 1
one_copy b h us e i = omega (arith, e, i)

pub low_copies : (p k : ℕ) (ms : List ℕ) (ts : Trees) → IsLow ts → MayTake ms ts p → IsLow (grafted p None (numbered k (copied (subtrees ms ts))) ts)
low_copies p k [] ts l t = zero_plus _ (max_node_depth + 1) (height_grafted p max_node_depth 0 (max_node_depth + 1) None End ts (plus_zero _ (max_node_depth + 1) l) (within_height p max_node_depth 0 ts (omega (arith, l))) (omega arith))
low_copies p k (n ∷ ms) ts l t =
    let us : Trees = subtrees (n ∷ ms) ts in
    let b : t.depth ≤ max_node_depth = omega (arith, t.each.0.fits) in
    zero_plus _ (max_node_depth + 1) (height_grafted p t.depth 0 (max_node_depth + 1) None (numbered k (copied us)) ts (plus_zero _ (max_node_depth + 1) l) t.within
    (one_copy t.depth (height us) (numbered k (copied us)) (height_numbered k (copied us) ∙ height_copied us)
    (low_joined t.depth ts (n ∷ ms) b (every (MayGo p t.depth ts) (λ x. t.depth + height (subtree x ts) ≤ max_node_depth) (goes_low p t.depth ts) (n ∷ ms) t.each))))

-- another target takes them still: new nodes have new numbers, and none of them is in a tree that goes
pub takes_still : (p q k : ℕ) (ms : List ℕ) (us ts : Trees) → p < k → AllByRecursion (λ n. n < k) ms → MayTake ms ts q → MayTake ms ts p → MayTake ms (grafted q None (numbered k us) ts) p
takes_still p q k ms us ts l j o t = record {
  depth = t.depth;
  within = within_grafted p t.depth 0 q None (numbered k us) ts ((times_numbered p k us).before l) t.within;
  each = all ms j o.each t.each;
}
  where
    one : (n : ℕ) → n < k → MayGo q o.depth ts n → MayGo p t.depth ts n → MayGo p t.depth (grafted q None (numbered k us) ts) n
    one n i a g = record {
      room = g.room;
      fits = g.fits;
      apart = apart_elsewhere n p g.room q a.room None (numbered k us) ts (apart_off n p g.room (numbered k us) ((times_numbered n k us).before i)) g.apart a.apart;
    }

    all : (ns : List ℕ) → AllByRecursion (λ n. n < k) ns → AllByRecursion (MayGo q o.depth ts) ns → AllByRecursion (MayGo p t.depth ts) ns
        → AllByRecursion (MayGo p t.depth (grafted q None (numbered k us) ts)) ns
    all [] i a g = tt
    all (n ∷ ns) i a g = (one n i.0 a.0 g.0, all ns i.1 a.1 g.1)
