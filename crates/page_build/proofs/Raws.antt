-- Nodes keep their cells, and those that come get theirs.
use Rattle.std.proofs.Common.{◌≡◌, ℕ, suc, ◌+◌, ◌<◌, ◌≤◌, List, [], ◌∷◌, Bool, true, false, refl, ap, length, arith, if◌then◌else◌}
use Rattle.std.specs.Prelude.{nat_lt}
use Rattle.std.proofs.lemmas.Bool.Decides.{nat_tests}
use Rattle.code_units.specs.declared.owner.Owner.{Owner}
use Rattle.plain_tree.specs.Trees.{PlainTrees, size}
use Rattle.js_tree.specs.Forest.{Forest}
use Rattle.store_cells.specs.Cells.{Cells}
use Rattle.page_nodes.specs.Adds.{IsAdded}
use Rattle.page_nodes.specs.Entries.{Entry, at}
use Rattle.page_nodes.specs.Owners.{same_owner}
use Rattle.page_nodes.proofs.Owners.{is_same}
use Rattle.page_tree.specs.Counts.{count_of}
use Rattle.page_tree.specs.declared.page.Page.{Page}
use Rattle.page_tree.specs.Pages.{nodes}
use Rattle.js_image.specs.Held.{Kept}
use Rattle.native_image.specs.Sound.{HasRaw}
use Rattle.native_image.proofs.Added.{raw_stays}
use Rattle.page_build.specs.Homes.{HaveRaws}

-- 1 where it is so, as nodes are counted
abbrev unit : Bool → ℕ
unit b = if b then 1 else 0

-- so many nodes of one owner come behind others
count_more : (o : Owner) (k m : List Entry) (n : ℕ) → length m ≡ length k + n → ((x : ℕ) → x < length k → at m x ≡ at k x) → ((x : ℕ) → length k ≤ x → x < length m → (at m x).owner ≡ o) → count_of o m ≡ count_of o k + n
count_more o [] [] n long same own = omega (arith, long)
count_more o [] (e ∷ m) n long same own =
    let rest = count_more o [] m (length m) (omega arith) (λ x lt. absurd (omega (arith, lt))) (λ x le lt. own (suc x) (omega arith) (omega (arith, lt))) in
    let one : unit (same_owner e.owner o) ≡ 1 = ap unit (is_same e.owner o (own 0 (omega arith) (omega arith))) in
    omega (arith, rest, one, long)
count_more o (d ∷ k) [] n long same own = absurd (omega (arith, long))
count_more o (d ∷ k) (e ∷ m) n long same own =
    let rest = count_more o k m n (omega (arith, long)) (λ x lt. same (suc x) (omega (arith, lt))) (λ x le lt. own (suc x) (omega (arith, le)) (omega (arith, lt))) in
    let first : unit (same_owner e.owner o) ≡ unit (same_owner d.owner o) = ap (λ (z : Entry). unit (same_owner z.owner o)) (same 0 (omega arith)) in
    omega (arith, rest, first)

pub counted_more : (k m : List Entry) (id : ℕ) (o : Owner) (p : PlainTrees) → IsAdded k m id o p → count_of o m ≡ count_of o k + size p
counted_more k m id o p c = count_more o k m (size p) c.made c.older.same c.own

-- a tree came, and its nodes got their cells
module _ (s t : Cells) (kept : (fs : List Forest) (w : ℕ) → Kept fs w s t) (p q : Page) (id : ℕ) (o : Owner) (tree : PlainTrees) (c : IsAdded (nodes p) (nodes q) id o tree) (there : (n : ℕ) → id ≤ n → n < id + size tree → HasRaw t.cells n) (h : HaveRaws s p) where
  raw_at : (n : ℕ) → n < length (nodes q) → (b : Bool) → nat_lt n (length (nodes p)) ≡ b → HasRaw t.cells n
  raw_at n lt true e = raw_stays 0 s.cells t.cells (kept [] 0).grows n (h n (grind (arith, nat_tests, e)))
  raw_at n lt false e = let high : length (nodes p) ≤ n = grind (arith, nat_tests, e) in there n (omega (arith, high, c.number)) (omega (arith, lt, c.made, c.number))

  pub raws_added : HaveRaws t q
  raws_added = λ n lt. raw_at n lt (nat_lt n (length (nodes p))) refl

-- no node came
pub raws_same : (s : Cells) (p q : Page) → length (nodes q) ≡ length (nodes p) → HaveRaws s p → HaveRaws s q
raws_same s p q many h = λ n lt. h n (omega (arith, lt, many))

-- none came, and cells did
pub raws_more : (s t : Cells) → ((fs : List Forest) (w : ℕ) → Kept fs w s t) → (p q : Page) → nodes q ≡ nodes p → HaveRaws s p → HaveRaws t q
raws_more s t kept p q e h = λ n lt. raw_stays 0 s.cells t.cells (kept [] 0).grows n (h n (omega (arith, lt, ap length e)))
