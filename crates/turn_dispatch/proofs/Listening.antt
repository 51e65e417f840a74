-- A node that listens is the widget's, and so are its functions, of which there are some.
use Rattle.std.proofs.Common.{◌≡◌, ℕ, zero, suc, ◌<◌, Bool, true, false, List, [], ◌∷◌, length, refl, sym, ap, ◌∙◌, subst, Option, Some, None, arith, map, if◌then◌else◌}
use Rattle.std.specs.Prelude.{IfSome}
use Rattle.std.specs.List.{AllByRecursion, filter}
use Rattle.std.specs.Str.{bytes_eq}
use Rattle.std.specs.declared.vec.Vec.{Vec}
use Rattle.std.specs.declared.alloc.Global.{Global}
use Rattle.store_cells.specs.Cells.{Cells}
use Rattle.page_nodes.specs.Entries.{Entry}
use Rattle.page_tree.specs.declared.page.Page.{Page}
use Rattle.page_tree.specs.Documents.{parent_within}
use Rattle.page_image.specs.Image.{owns}
use Rattle.event_loop.specs.declared.around.Loop.{Loop}
use Rattle.event_loop.specs.Around.{kept}
use Rattle.event_loop.specs.Kept.{listening}
use Rattle.event_loop.specs.Deliveries.{found_of, here_or, nearest}
use Rattle.native_image.specs.Sound.{HoldsOwn, IsOwnCell}

none_some : {A : Type 0} {a : A} → None ≡ Some a → ⊥
none_some e = cc

-- what is found listens
record Listens (l : Loop) (kind : List ℕ) (n : ℕ) (fs : List ℕ) : Type 0 where
  here : fs ≡ listening (kept l n) kind
  some : 0 < length fs

-- a node with functions, and what is read of it
abbrev found_at : ℕ → List ℕ → Option (ℕ × List ℕ)
found_at n fs = Some (n, fs)

abbrev node_in : Option (ℕ × List ℕ) → ℕ
node_in None = 0
node_in (Some p) = p.0

abbrev functions_in : Option (ℕ × List ℕ) → List ℕ
functions_in None = []
functions_in (Some p) = p.1

listens_here : (l : Loop) (kind : List ℕ) (m n g : ℕ) (gs fs : List ℕ) → listening (kept l m) kind ≡ g ∷ gs → found_at m (g ∷ gs) ≡ found_at n fs → Listens l kind n fs
listens_here l kind m n g gs fs h e = record {
  here = sym (ap functions_in e) ∙ (sym h ∙ ap (λ k. listening (kept l k) kind) (ap node_in e));
  some = subst (λ (xs : List ℕ). 0 < length xs) (ap functions_in e) (omega arith);
}

found_listens : (f : ℕ) (k : List Entry) (r : ℕ) (l : Loop) (o : Option ℕ) (kind : List ℕ) (n : ℕ) (fs : List ℕ) → nearest f k r l o kind ≡ Some (n, fs) → Listens l kind n fs
found_listens f k r l None kind n fs e = absurd (none_some e)
found_listens zero k r l (Some m) kind n fs e = absurd (none_some e)
found_listens (suc f) k r l (Some m) kind n fs e = by (listening (kept l m) kind) refl (λ h. found_listens f k r l (parent_within k (Some r) m) kind n fs h) e
  where
    by : (gs : List ℕ) → listening (kept l m) kind ≡ gs → (nearest f k r l (parent_within k (Some r) m) kind ≡ Some (n, fs) → Listens l kind n fs) → here_or m gs (nearest f k r l (parent_within k (Some r) m) kind) ≡ Some (n, fs) → Listens l kind n fs
    by [] h above e = above e
    by (g ∷ gs) h above e = listens_here l kind m n g gs fs h e

filtered : (p : List ℕ × ℕ → Bool) (P : ℕ → Type 0) (hs : List (List ℕ × ℕ)) → AllByRecursion (λ h. P h.1) hs → AllByRecursion P (map (λ h. h.1) (filter p hs))
filtered p P [] all = tt
filtered p P (h ∷ hs) all = by (p h) (filtered p P hs all.1)
  where
    by : (b : Bool) → AllByRecursion P (map (λ g. g.1) (filter p hs)) → AllByRecursion P (map (λ g. g.1) (if b then h ∷ filter p hs else filter p hs))
    by true rest = (all.0, rest)
    by false rest = rest

-- a node that listens is the widget's
own_node : (w : ℕ) (s : Cells) (p : Page) (l : Loop) → HoldsOwn w s p l → (kind : List ℕ) (n : ℕ) (fs : List ℕ) → Listens l kind n fs → owns p w n ≡ true
own_node w s p l holds kind n fs h = by (owns p w n) refl
  where
    nobody : fs ≡ [] → ⊥
    nobody e = let none : 0 < length {A = ℕ} [] = subst (λ (xs : List ℕ). 0 < length xs) e h.some in omega (arith, none)

    by : (b : Bool) → owns p w n ≡ b → b ≡ true
    by true e = refl
    by false e = absurd (nobody (h.here ∙ ap (λ k. listening k kind) (holds.elsewhere n e)))

-- what is found is the widget's
own_found : (f : ℕ) (k : List Entry) (r : ℕ) (o : Option ℕ) (kind : List ℕ) (n : ℕ) (fs : List ℕ) (w : ℕ) (s : Cells) (p : Page) (l : Loop) → HoldsOwn w s p l → nearest f k r l o kind ≡ Some (n, fs)
    → (owns p w n ≡ true) × AllByRecursion (IsOwnCell w s.cells) fs × (0 < length fs)
own_found f k r o kind n fs w s p l holds e =
    let h : Listens l kind n fs = found_listens f k r l o kind n fs e in (
      own_node w s p l holds kind n fs h,
      subst (AllByRecursion (IsOwnCell w s.cells)) (sym h.here) (filtered (λ g. bytes_eq g.0 kind) (IsOwnCell w s.cells) (kept l n).handlers (holds.handlers n)),
      h.some,
    )

-- the same of an answer
pub all_own : (f : ℕ) (k : List Entry) (r : ℕ) (o : Option ℕ) (kind : List ℕ) (w : ℕ) (s : Cells) (p : Page) (l : Loop) → HoldsOwn w s p l → (found : Option (ℕ × Vec ℕ Global)) → found_of found ≡ nearest f k r l o kind
    → IfSome found (λ at. (owns p w at.0 ≡ true) × AllByRecursion (IsOwnCell w s.cells) at.1.items × (0 < length at.1.items))
all_own f k r o kind w s p l holds None e = tt
all_own f k r o kind w s p l holds (Some (n, fs)) e = own_found f k r o kind n fs.items w s p l holds (sym e)
