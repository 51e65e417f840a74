-- Lives that are as they were but for their queues, and for how many of their posts were taken, keep all else that picks keep.
use Rattle.std.proofs.Common.{◌≡◌, ◌≤◌, List, map, length, refl, sym, ap, ◌∙◌, subst, Some, None}
use Rattle.std.proofs.lemmas.List.{length-map}
use Rattle.life_laws.specs.Chains.{Chains}
use Rattle.std.specs.Prelude.{slice_get, slice_index_or}
use Rattle.page_nodes.specs.Entries.{body}
use Rattle.page_image.specs.Image.{own, root_of}
use Rattle.native_image.specs.Sound.{HasRaw}
use Rattle.object_store.specs.Owned.{owned}
use Rattle.page_build.specs.Layout.{IsLot, lot_of}
use Rattle.page_build.specs.Standing.{AreSpots, IsSpare, IsStanding, PagePasses}
use Rattle.page_build.proofs.Passing.{pages_here}
use Rattle.native_image.specs.declared.handed.Shared.{Shared}
use Rattle.slot_picks.specs.declared.lives.Lives.{Lives}
use Rattle.slot_picks.specs.declared.lives.Place.{Place}
use Rattle.slot_picks.specs.declared.slots.Slot.{Slot}
use Rattle.slot_picks.specs.Lives.{AreStanding, KeepsLives, KeepsSlots, chains_of, present_of, spots_of}
use Rattle.slot_picks.specs.Places.{OwnPlaces, told_of}
use Rattle.slot_picks.specs.Posting.{AreAlike}
use Rattle.widget_host.proofs.Alike.{accepts_alike, codes_alike, homes_alike, own_alike, roots_alike, was_at}

module _ (c d : Lives) (all : d.shared ≡ c.shared) (same : AreAlike c.places.items d.places.items) where
  lives_same : told_of d.places.items ≡ told_of c.places.items → KeepsLives c d
  lives_same told = record {
    homes = homes_alike c.places.items d.places.items same;
    roots = roots_alike c.places.items d.places.items same;
    told = told;
    accepts = accepts_alike c.places.items d.places.items same;
    codes = codes_alike c.places.items d.places.items same;
    holds = λ own. subst (λ (h : Shared). OwnPlaces h 0 d.places.items) (sym all) (own_alike c.shared 0 c.places.items d.places.items same own);
    rest = ap (λ (h : Shared). h.codes) all;
    raws = λ n has. subst (λ (h : Shared). HasRaw h.store.cells n) (sym all) has;
    cells = λ v none. ap (λ (h : Shared). owned v h.store) all;
    nodes = λ v none. ap (λ (h : Shared). own h.page v) all;
  }

  module _ (ss : List Slot) where
    pub spots_same : spots_of d ss ≡ spots_of c ss
    spots_same = ap (λ rs. map (λ lives. slice_index_or rs (present_of lives) body) (chains_of ss)) (roots_alike c.places.items d.places.items same)

    long : length d.places.items ≡ length c.places.items
    long = sym (length-map d.places.items (λ (x : Place). x.root)) ∙ ap length (roots_alike c.places.items d.places.items same) ∙ length-map c.places.items (λ (x : Place). x.root)

    pub standing_same : AreStanding c ss → AreStanding d ss
    standing_same st = record {
      born = st.born;
      few = subst (λ n. st.born ≤ n) (sym long) st.few;
      chains = subst (λ hs. Chains hs st.born 0 (chains_of ss)) (sym (homes_alike c.places.items d.places.items same)) st.chains;
      nodes = λ v b at there.
          let a = was_at c.places.items d.places.items same v b at in
          λ e. st.nodes v a.0 a.1 there (sym (ap (λ (x : Place). x.root) a.2) ∙ e);
      apart = λ v u b e at here below one.
          let a = was_at c.places.items d.places.items same v b at in
          let f = was_at c.places.items d.places.items same u e here in
          st.apart v u a.0 f.0 a.1 f.1 (λ g. below (ap (λ (x : Place). x.root) a.2 ∙ g)) (sym (ap (λ (x : Place). x.root) a.2) ∙ one ∙ ap (λ (x : Place). x.root) f.2);
      roots = λ v b at is.
          let a = was_at c.places.items d.places.items same v b at in
          ap (λ (h : Shared). root_of h.page v) all
          ∙ st.roots v a.0 a.1 (sym (ap (λ (x : Place). x.life.accepted) a.2) ∙ is)
          ∙ ap (λ (x : Place). Some x.root) (sym a.2);
      divs = λ v b s at not below here.
          let a = was_at c.places.items d.places.items same v b at in
          subst (λ (x : Place). IsLot d.shared.page (lot_of s.name None) x.root) (sym a.2)
          (subst (λ (h : Shared). IsLot h.page (lot_of s.name None) a.0.root) (sym all)
          (st.divs v a.0 s a.1 (sym (ap (λ (x : Place). x.life.accepted) a.2) ∙ not) (λ e. below (ap (λ (x : Place). x.root) a.2 ∙ e)) (ap (λ (x : Place). slice_get ss x.life.slot) (sym a.2) ∙ here)));
      stand = λ w v b present at.
          let a = was_at c.places.items d.places.items same v b at in
          subst (λ (x : Place). IsStanding d.shared.page x.root) (sym a.2)
          (subst (λ (h : Shared). IsStanding h.page a.0.root) (sym all) (st.stand w v a.0 present a.1));
      spare = λ v b at below out.
          let a = was_at c.places.items d.places.items same v b at in
          subst (λ (x : Place). IsSpare d.shared.page x.root) (sym a.2)
          (subst (λ (h : Shared). IsSpare h.page a.0.root) (sym all) (st.spare v a.0 a.1 (λ e. below (ap (λ (x : Place). x.root) a.2 ∙ e)) out));
      spots = subst (AreSpots d.shared.page) (sym spots_same) (subst (λ (h : Shared). AreSpots h.page (spots_of c ss)) (sym all) st.spots);
    }

    pub passes_same : PagePasses c.shared.page d.shared.page (spots_of c ss) (spots_of d ss)
    passes_same = subst (PagePasses c.shared.page d.shared.page (spots_of c ss)) (sym spots_same)
        (subst (λ (h : Shared). PagePasses c.shared.page h.page (spots_of c ss) (spots_of c ss)) (sym all) (pages_here c.shared.page (spots_of c ss)))

    pub slots_same : told_of d.places.items ≡ told_of c.places.items → KeepsSlots c d ss ss
    slots_same told = record {
      lives = lives_same told;
      names = refl;
      fuels = refl;
      page = passes_same;
      standing = standing_same;
    }
