-- What a pick of one life keeps.
use Rattle.std.proofs.Common.{◌≡◌, ℕ, zero, suc, ◌≤◌, true, false, List, [], ◌∷◌, length, refl, sym, ap, ◌∙◌, subst, arith, Some}
use Rattle.std.specs.Prelude.{IfSome, slice_get, slice_index_or, slice_set}
use Rattle.object_store.specs.Owned.{owned}
use Rattle.page_tree.specs.declared.page.Page.{Page}
use Rattle.page_image.specs.Image.{own}
use Rattle.page_image.proofs.Hosting.{host_same}
use Rattle.native_image.specs.Sound.{HasRaw}
use Rattle.native_image.proofs.Added.{raw_stays}
use Rattle.js_names.specs.Code.{trees_of}
use Rattle.native_image.specs.declared.handed.Shared.{Shared}
use Rattle.life_queue.specs.declared.life.Life.{Life}
use Rattle.life_queue.specs.Fine.{FineTurn, KeepsLife}
use Rattle.slot_picks.specs.declared.lives.Lives.{Lives}
use Rattle.slot_picks.specs.declared.lives.Place.{Place}
use Rattle.slot_picks.specs.Lives.{KeepsLivesAndPage, KeepsLives, PageStays}
use Rattle.slot_picks.specs.Places.{OwnPlaces, accepts_of, codes_of, homes_of, is_accepted, lent, roots_of, told_of}
use Rattle.slot_picks.proofs.Owning.{own_here, owns_set}

homes_set : (i : ℕ) (ls : List Place) (a b : Place) → slice_get ls i ≡ Some a → b.life.slot ≡ a.life.slot → homes_of (slice_set ls i b) ≡ homes_of ls
homes_set i [] a b at slot = cc
homes_set zero (l ∷ ls) a b at slot =
    let same : l ≡ a = cc in
    ap (λ w. w ∷ homes_of ls) (slot ∙ ap (λ (x : Place). x.life.slot) (sym same))
homes_set (suc i) (l ∷ ls) a b at slot = ap (λ ws. l.life.slot ∷ ws) (homes_set i ls a b at slot)

roots_set : (i : ℕ) (ls : List Place) (a b : Place) → slice_get ls i ≡ Some a → b.root ≡ a.root → roots_of (slice_set ls i b) ≡ roots_of ls
roots_set i [] a b at root = cc
roots_set zero (l ∷ ls) a b at root =
    let same : l ≡ a = cc in
    ap (λ n. n ∷ roots_of ls) (root ∙ ap (λ (x : Place). x.root) (sym same))
roots_set (suc i) (l ∷ ls) a b at root = ap (λ ns. l.root ∷ ns) (roots_set i ls a b at root)

told_set : (i : ℕ) (ls : List Place) (a b : Place) → slice_get ls i ≡ Some a → b.told ≡ a.told → told_of (slice_set ls i b) ≡ told_of ls
told_set i [] a b at told = cc
told_set zero (l ∷ ls) a b at told =
    let same : l ≡ a = cc in
    ap (λ n. n ∷ told_of ls) (told ∙ ap (λ (x : Place). x.told) (sym same))
told_set (suc i) (l ∷ ls) a b at told = ap (λ ns. l.told ∷ ns) (told_set i ls a b at told)

accepts_set : (i : ℕ) (ls : List Place) (a b : Place) → slice_get ls i ≡ Some a → b.life.accepted ≡ a.life.accepted → accepts_of (slice_set ls i b) ≡ accepts_of ls
accepts_set i [] a b at accepted = cc
accepts_set zero (l ∷ ls) a b at accepted =
    let same : l ≡ a = cc in
    ap (λ w. w ∷ accepts_of ls) (accepted ∙ ap (λ (x : Place). x.life.accepted) (sym same))
accepts_set (suc i) (l ∷ ls) a b at accepted = ap (λ ws. l.life.accepted ∷ ws) (accepts_set i ls a b at accepted)

codes_set : (i : ℕ) (ls : List Place) (a b : Place) → slice_get ls i ≡ Some a → b.codes ≡ a.codes → codes_of (slice_set ls i b) ≡ codes_of ls
codes_set i [] a b at codes = cc
codes_set zero (l ∷ ls) a b at codes =
    let same : l ≡ a = cc in
    ap (λ cs. cs ∷ codes_of ls) (codes ∙ ap (λ (x : Place). x.codes) (sym same))
codes_set (suc i) (l ∷ ls) a b at codes = ap (λ cs. l.codes ∷ cs) (codes_set i ls a b at codes)

accepted_at : (i : ℕ) (ls : List Place) (a : Place) → slice_get ls i ≡ Some a → is_accepted ls i ≡ a.life.accepted
accepted_at i [] a at = cc
accepted_at zero (l ∷ ls) a at = let same : l ≡ a = cc in ap (λ (x : Place). x.life.accepted) same
accepted_at (suc i) (l ∷ ls) a at = accepted_at i ls a at

no_true : true ≡ false → ⊥
no_true e = cc

page_here : (p : Page) → PageStays p p
page_here p = record { host = host_same p p refl; owners = λ v n h. h; numbers = λ v n h. refl; roots = λ v lt. refl }

page_kept : (w : ℕ) (h m : Shared) (a b : Life) → KeepsLife w h m a b → PageStays h.page m.page
page_kept w h m a b k = record { host = k.host; owners = k.page.owners; numbers = k.page.numbers; roots = k.page.roots }

pub lives_here : (c : Lives) → KeepsLives c c
lives_here c = record { homes = refl; roots = refl; told = refl; accepts = refl; codes = refl; holds = λ h. h; rest = refl; raws = λ n h. h; cells = λ v e. refl; nodes = λ v e. refl }

pub lives_then : (c d e : Lives) → KeepsLives c d → KeepsLives d e → KeepsLives c e
lives_then c d e f g = record {
  homes = g.homes ∙ f.homes;
  roots = g.roots ∙ f.roots;
  told = g.told ∙ f.told;
  accepts = g.accepts ∙ f.accepts;
  codes = g.codes ∙ f.codes;
  holds = λ h. g.holds (f.holds h);
  rest = g.rest ∙ f.rest;
  raws = λ n h. g.raws n (f.raws n h);
  cells = λ v none. g.cells v (ap (λ fs. slice_index_or fs v false) f.accepts ∙ none) ∙ f.cells v none;
  nodes = λ v none. g.nodes v (ap (λ fs. slice_index_or fs v false) f.accepts ∙ none) ∙ f.nodes v none;
}

pub keeps_here : (c : Lives) → KeepsLivesAndPage c c
keeps_here c = record { lives = lives_here c; page = page_here c.shared.page }

-- one accepted life is another after a pick of it
module _ (c d : Lives) (v : ℕ) (a b : Place) (at : slice_get c.places.items v ≡ Some a) (set : d.places.items ≡ slice_set c.places.items v b) (few : length c.places.items ≤ 32) (accepted : a.life.accepted ≡ true) (root : b.root ≡ a.root) (told : b.told ≡ a.told) (k : KeepsLife v (lent c.shared a) (lent d.shared b) a.life b.life) (rest : d.shared.codes ≡ c.shared.codes) (turn : IfSome b.life.turn (FineTurn (trees_of b.codes.items) v d.shared.store d.shared.page b.life.grant)) where
  another : (x : ℕ) → is_accepted c.places.items x ≡ false → v ≡ x → ⊥
  another x none e = no_true (sym accepted ∙ sym (accepted_at v c.places.items a at) ∙ ap (is_accepted c.places.items) e ∙ none)

  set_holds : OwnPlaces c.shared 0 c.places.items → OwnPlaces d.shared 0 (slice_set c.places.items v b)
  set_holds = owns_set v a.codes.items c.shared d.shared k.cells k.page a b (own_here v c.shared d.shared a b k turn) 0 v c.places.items (omega arith) at (omega (arith, few))

  pub keeps_set : KeepsLivesAndPage c d
  keeps_set = record {
    lives = record {
      homes = ap homes_of set ∙ homes_set v c.places.items a b at k.slot;
      roots = ap roots_of set ∙ roots_set v c.places.items a b at root;
      told = ap told_of set ∙ told_set v c.places.items a b at told;
      accepts = ap accepts_of set ∙ accepts_set v c.places.items a b at k.accepted;
      codes = ap codes_of set ∙ codes_set v c.places.items a b at k.codes;
      holds = λ h. subst (λ ps. OwnPlaces d.shared 0 ps) (sym set) (set_holds h);
      rest = rest;
      raws = raw_stays v c.shared.store.cells d.shared.store.cells k.cells.grows;
      cells = λ x none. k.cells.others x (another x none);
      nodes = λ x none. k.page.others x (λ e. another x none (sym e));
    };
    page = page_kept v (lent c.shared a) (lent d.shared b) a.life b.life k;
  }

-- the same with another journal
pub keeps_journal : (c d e : Lives) → e.shared ≡ d.shared → e.places.items ≡ d.places.items → KeepsLivesAndPage c d → KeepsLivesAndPage c e
keeps_journal c d e same places k = record {
  lives = record {
    homes = ap homes_of places ∙ k.lives.homes;
    roots = ap roots_of places ∙ k.lives.roots;
    told = ap told_of places ∙ k.lives.told;
    accepts = ap accepts_of places ∙ k.lives.accepts;
    codes = ap codes_of places ∙ k.lives.codes;
    holds = λ h. subst (λ ps. OwnPlaces e.shared 0 ps) (sym places) (subst (λ s. OwnPlaces s 0 d.places.items) (sym same) (k.lives.holds h));
    rest = ap (λ (s : Shared). s.codes) same ∙ k.lives.rest;
    raws = λ n h. subst (λ (s : Shared). HasRaw s.store.cells n) (sym same) (k.lives.raws n h);
    cells = λ v none. ap (λ (s : Shared). owned v s.store) same ∙ k.lives.cells v none;
    nodes = λ v none. ap (λ (s : Shared). own s.page v) same ∙ k.lives.nodes v none;
  };
  page = subst (λ (s : Shared). PageStays c.shared.page s.page) (sym same) k.page;
}
