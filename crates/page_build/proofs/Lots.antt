-- What nodes are, one after another.
use Rattle.std.proofs.Common.{◌≡◌, ℕ, List, [], ◌∷◌, ◌++◌, refl, sym, ap, ◌∙◌, subst}
use Rattle.page_nodes.specs.Entries.{Entry, at, body}
use Rattle.page_tree.specs.declared.page.Page.{Page}
use Rattle.page_tree.specs.Pages.{nodes}
use Rattle.page_build.specs.Layout.{AreLots, IsLaidOut, IsLot, Lot}

pub lots_kept : (p q : Page) → ((lot : Lot) (n : ℕ) → IsLot p lot n → IsLot q lot n) → (lots : List Lot) (ns : List ℕ) → AreLots p lots ns → AreLots q lots ns
lots_kept p q f [] [] h = tt
lots_kept p q f [] (m ∷ ns) h = absurd h
lots_kept p q f (a ∷ lots) [] h = absurd h
lots_kept p q f (a ∷ lots) (m ∷ ns) h = (f a m h.0, lots_kept p q f lots ns h.1)

-- `body` stays, and what each node is
pub laid_kept : (p q : Page) → ((lot : Lot) (n : ℕ) → IsLot p lot n → IsLot q lot n) → at (nodes q) body ≡ at (nodes p) body → (lots : List Lot) → IsLaidOut p lots → IsLaidOut q lots
laid_kept p q f same lots h = record {
  top = ap (λ (e : Entry). e.label) same ∙ h.top;
  laid = subst (AreLots q lots) (sym (ap (λ (e : Entry). e.children) same)) (lots_kept p q f lots (at (nodes p) body).children h.laid);
}

-- ## Lists that are joined

pub lots_both : (p : Page) (lots more : List Lot) (ns ms : List ℕ) → AreLots p lots ns → AreLots p more ms → AreLots p (lots ++ more) (ns ++ ms)
lots_both p [] more [] ms h g = g
lots_both p [] more (n ∷ ns) ms h g = absurd h
lots_both p (lot ∷ lots) more [] ms h g = absurd h
lots_both p (lot ∷ lots) more (n ∷ ns) ms h g = (h.0, lots_both p lots more ns ms h.1 g)

-- and taken apart
pub record Apart (p : Page) (lots more : List Lot) (ns : List ℕ) : Type 0 where
  pub front : List ℕ
  pub back : List ℕ
  pub both : ns ≡ front ++ back
  pub here : AreLots p lots front
  pub rest : AreLots p more back

pub lots_apart : (p : Page) (lots more : List Lot) (ns : List ℕ) → AreLots p (lots ++ more) ns → Apart p lots more ns
lots_apart p [] more ns h = record { front = []; back = ns; both = refl; here = tt; rest = h }
lots_apart p (lot ∷ lots) more [] h = absurd h
lots_apart p (lot ∷ lots) more (n ∷ ns) h =
    let a = lots_apart p lots more ns h.1 in
    record { front = n ∷ a.front; back = a.back; both = ap (λ ms. n ∷ ms) a.both; here = (h.0, a.here); rest = a.rest }
