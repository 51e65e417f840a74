-- What stays of a node where a page changes.
use Rattle.std.proofs.Common.{◌≡◌, ◌≢◌, ℕ, ◌<◌, List, length, Bool, true, false, refl, sym, ap, ◌∙◌, cond, eqb, eq-eqb, arith, Option, Some, None, ⊎_elim}
use Rattle.std.proofs.lemmas.Bool.{cases_Bool, ltb-true}
use Rattle.code_units.specs.declared.owner.Owner.{Owner}
use Rattle.code_units.specs.declared.owner.Owner.TheVariants as owner
use Rattle.plain_tree.specs.Trees.{unmarked}
use Rattle.page_nodes.specs.Adds.{Older}
use Rattle.page_nodes.specs.Entries.{Entry, at, body, listed}
use Rattle.page_nodes.specs.Moves.{IsLinked}
use Rattle.page_nodes.specs.Owners.{is_owner, same_owner}
use Rattle.page_nodes.proofs.Owners.{same_is}
use Rattle.page_nodes.proofs.Put.{owner_below}
use Rattle.page_nodes.proofs.Upward.{parent_in}
use Rattle.page_tree.specs.declared.page.Page.{Page}
use Rattle.page_tree.specs.Pages.{nodes, root}
use Rattle.page_image.specs.Image.{root_of}
use Rattle.page_image.specs.Stays.{HostStays}
use Rattle.page_build.specs.Layout.{IsLaidOut, IsLot, Lot, Own, Root, Spot}
use Rattle.page_build.specs.Standing.{AreSpots, HostJoins, IsHostOrRoot, IsSpare, IsStanding, Joins}
use Rattle.page_build.proofs.Children.{children_are, kids}
use Rattle.page_build.proofs.Lots.{laid_kept}

no_true : false ≡ true → ⊥
no_true e = cc

pub none_some : (n : ℕ) → ◌≡◌ {A = Option ℕ} None (Some n) → ⊥
none_some n e = cc

-- ## Roots

-- a root of a widget stays, of whatever owner
pub root_stays : (p q : Page) → ((v n : ℕ) → v < 32 → root_of p v ≡ Some n → root_of q v ≡ Some n) → (o : Owner) (n : ℕ) → is_owner o ≡ true → same_owner o owner.Host ≡ false → root p o ≡ Some n → root q o ≡ Some n
unfolding root_of
root_stays p q f owner.Host n is e h = absurd (no_true (sym e))
root_stays p q f (owner.Widget v) n is e h = f v n (ltb-true v 32 is) h

pub host_or_root_stays : (p q : Page) → ((v n : ℕ) → v < 32 → root_of p v ≡ Some n → root_of q v ≡ Some n) → (n : ℕ) → (at (nodes q) n).owner ≡ (at (nodes p) n).owner → IsHostOrRoot p n → IsHostOrRoot q n
host_or_root_stays p q f n same h e =
    let other = sym (ap (λ o. same_owner o owner.Host) same) ∙ e in
    ap (root q) same ∙ root_stays p q f (at (nodes p) n).owner n (p.rooted.owners n) other (h other)

-- ## A tree comes

module _ (p q : Page) (older : Older (nodes p) (nodes q)) (roots : (v n : ℕ) → v < 32 → root_of p v ≡ Some n → root_of q v ≡ Some n) where
  same_body : at (nodes q) body ≡ at (nodes p) body
  same_body = older.same body p.arena.sound.some

  pub standing_older : (n : ℕ) → IsStanding p n → IsStanding q n
  standing_older n h = record { is_in = omega (arith, h.is_in, older.long); under = ap (λ (e : Entry). e.parent) (older.same n h.is_in) ∙ h.under }

  pub spare_older : (n : ℕ) → IsSpare p n → IsSpare q n
  spare_older n h = record {
    is_in = omega (arith, h.is_in, older.long);
    below = h.below;
    top = ap (λ (e : Entry). e.parent) (older.same n h.is_in) ∙ h.top;
    only = host_or_root_stays p q roots n (ap (λ (e : Entry). e.owner) (older.same n h.is_in)) h.only;
  }

  pub lot_older : (lot : Lot) (n : ℕ) → IsLot p lot n → IsLot q lot n
  lot_older (Own own) n m = record {
    is_in = omega (arith, m.is_in, older.long);
    below = m.below;
    hosts = ap (λ (e : Entry). e.owner) (older.same n m.is_in) ∙ m.hosts;
    shows = ap unmarked (older.trees n m.is_in) ∙ m.shows;
  }
  lot_older (Root v) n r = (r.0, roots v n r.0 r.1)
  lot_older (Spot m) n e = e

  pub spots_older : (spots : List ℕ) → AreSpots p spots → AreSpots q spots
  spots_older spots h = record { children = h.children; slots = h.slots; are = ap (λ (e : Entry). e.children) same_body ∙ h.are }

  pub laid_older : (lots : List Lot) → IsLaidOut p lots → IsLaidOut q lots
  laid_older lots h = laid_kept p q lot_older same_body lots h

-- a tree of a widget that had no root
pub joins_roots : (w : ℕ) (p q : Page) → Joins w p q → root_of p w ≡ None → (v n : ℕ) → v < 32 → root_of p v ≡ Some n → root_of q v ≡ Some n
joins_roots w p q j free v n lt is = j.roots v lt (λ e. none_some n (sym free ∙ ap (root_of p) (sym e) ∙ is)) ∙ is

-- a tree of the host
pub host_joins_roots : (p q : Page) → HostJoins p q → (v n : ℕ) → v < 32 → root_of p v ≡ Some n → root_of q v ≡ Some n
host_joins_roots p q j v n lt is = j.kept.roots v lt ∙ is

-- ## What the host has stays, and the roots

module _ (p q : Page) (host : HostStays p q) (roots : (v : ℕ) → v < 32 → root_of q v ≡ root_of p v) where
  kept_roots : (v n : ℕ) → v < 32 → root_of p v ≡ Some n → root_of q v ≡ Some n
  kept_roots v n lt is = roots v lt ∙ is

  pub lot_stays : (lot : Lot) (n : ℕ) → IsLot p lot n → IsLot q lot n
  lot_stays (Own own) n m = record {
    is_in = omega (arith, m.is_in, host.made);
    below = m.below;
    hosts = host.owners n m.is_in ∙ m.hosts;
    shows = ap unmarked (host.trees n m.is_in m.below m.hosts) ∙ m.shows;
  }
  lot_stays (Root v) n r = (r.0, kept_roots v n r.0 r.1)
  lot_stays (Spot m) n e = e

  pub standing_stays : (n : ℕ) → IsStanding p n → IsStanding q n
  standing_stays n h = record {
    is_in = omega (arith, h.is_in, host.made);
    under = q.arena.sound.down body n (ap (λ (e : Entry). listed n e.children) host.top ∙ p.arena.sound.upward n body h.under);
  }

  module _ (n : ℕ) (h : IsSpare p n) where
    mine : (at (nodes q) n).owner ≡ (at (nodes p) n).owner
    mine = host.owners n h.is_in

    not_under_body : (at (nodes q) n).parent ≡ Some body → ⊥
    not_under_body e = none_some body (sym h.top ∙ p.arena.sound.down body n (sym (ap (λ (e : Entry). listed n e.children) host.top) ∙ q.arena.sound.upward n body e))

    only_stays : IsHostOrRoot q n
    only_stays = host_or_root_stays p q kept_roots n mine h.only

    -- a tree of the host is below a node of the host
    under_host : same_owner (at (nodes p) n).owner owner.Host ≡ true → (b : ℕ) → b ≢ body → (at (nodes q) n).parent ≡ Some b → ⊥
    under_host t b ne e =
        let hosts : (at (nodes q) b).owner ≡ owner.Host = sym (owner_below (nodes q) q.arena.sound n b e ne) ∙ mine ∙ same_is (at (nodes p) n).owner owner.Host t in
        let low = host.none_comes b (parent_in (nodes q) q.arena.sound n b e) hosts in
        let same = host.trees b low ne (sym (host.owners b low) ∙ hosts) in
        let kids_same = sym (children_are (nodes q) q.arena.sound b) ∙ ap kids same ∙ children_are (nodes p) p.arena.sound b in
        none_some b (sym h.top ∙ p.arena.sound.down b n (sym (ap (listed n) kids_same) ∙ q.arena.sound.upward n b e))

    -- a root stands under `body`
    under_root : same_owner (at (nodes p) n).owner owner.Host ≡ false → (b : ℕ) → (at (nodes q) n).parent ≡ Some b → b ≡ body
    under_root f b e = q.rooted.high (at (nodes q) n).owner n b (q.rooted.owners n) (only_stays (ap (λ o. same_owner o owner.Host) mine ∙ f)) e

    under_none : (b : ℕ) → (at (nodes q) n).parent ≡ Some b → ⊥
    under_none b e = ⊎_elim
        (λ t. under_host t b (λ g. not_under_body (e ∙ ap Some g)) e)
        (λ f. not_under_body (e ∙ ap Some (under_root f b e)))
        (cases_Bool (same_owner (at (nodes p) n).owner owner.Host))

    is_none : (u : Option ℕ) → ((b : ℕ) → u ≡ Some b → ⊥) → u ≡ None
    is_none None f = refl
    is_none (Some b) f = absurd (f b refl)

    pub spare_stays : IsSpare q n
    spare_stays = record {
      is_in = omega (arith, h.is_in, host.made);
      below = h.below;
      top = is_none (at (nodes q) n).parent under_none;
      only = only_stays;
    }

-- ## A tree comes under `body`

pub standing_linked : (p q : Page) (id : ℕ) → IsLinked (nodes p) (nodes q) body None id → (n : ℕ) → IsStanding p n → IsStanding q n
standing_linked p q id c n h = record {
  is_in = omega (arith, h.is_in, c.kept.made);
  under = c.parents n ∙ either (eqb n id);
}
  where
    either : (b : Bool) → cond b (Some body) (at (nodes p) n).parent ≡ Some body
    either true = refl
    either false = h.under

pub linked_stands : (p q : Page) (id : ℕ) → id < length (nodes p) → IsLinked (nodes p) (nodes q) body None id → IsStanding q id
linked_stands p q id lt c = record {
  is_in = omega (arith, lt, c.kept.made);
  under = c.parents id ∙ ap (λ b. cond b (Some body) (at (nodes p) id).parent) (eq-eqb id id refl);
}
