use Rattle.std.proofs.Common.{ap, arith, length, refl, subst, sym, ◌∙◌}
use Rattle.std.proofs.lemmas.List.{length_push}
use Rattle.slot_picks.specs.declared.lives.Place.{Place}
use Rattle.page_load.specs.Lives.{HaveTrees, IsPlaceOf}
use Rattle.page_load.proofs.Growing.{in_rooted, nobodys_more, places_more, places_none, rooted, roots_more, roots_none, taken, tree_left}
use Rattle.page_load.proofs.lives.places_of.Goals as goal

pub places-init : goal.places-init
places-init c = record {
  made = ap length c.in_ok-places.ensures.items;
  few = omega arith;
  left = refl;
  places = places_none c.args.shared.now c.args.starts.items c.in_ok-places.places.items c.in_ok-places.ensures.items;
  roots = roots_none c.args.roots.now c.in_ok-places.places.items c.in_ok-places.ensures.items;
  codes = refl;
  page = refl;
  raws = c.requires.raws;
  unused = c.requires.unused;
  others = λ v none. c.requires.free v;
}

pub place_of-requires-clause-tree : goal.place_of-requires-clause-tree
place_of-requires-clause-tree c =
    let inv = c.places.invariant in
    let at = taken c.args.starts.items c.places.w c.pop_front-start.result c.places.starts.items c.pop_front-start.new.self.items _ _ inv.left c.pop_front-start.ensures.items c.pop_front-start.ensures.cases c.places.starts.ok.0 in
    tree_left c.places.shared.page c.args.starts.items c.places.w c.pop_front-start.result at.0 (subst (λ p. HaveTrees p c.args.starts.items) (sym inv.page) c.requires.trees)

pub places-preserved : goal.places-preserved
places-preserved c =
    let inv = c.places.invariant in
    let e = c.in_ok-place.ensures in
    let a = c.in_ok-place.place in
    let b : Place = record a { root = c.root_at.result } in
    let k = c.place_of.new.shared in
    let at = taken c.args.starts.items c.places.w c.pop_front-start.result c.places.starts.items c.pop_front-start.new.self.items _ _ inv.left c.pop_front-start.ensures.items c.pop_front-start.ensures.cases c.places.starts.ok.0 in
    record {
      made = omega (arith, ap length c.in_ok-push.ensures.items, length_push c.places.places.items b, inv.made);
      few = omega (arith, c.places-test.true);
      left = at.1;
      places = places_more c.places.shared k c.args.starts.items c.places.places.items c.push.new.self.items c.places.w b inv.made c.places-test.true e.others inv.places (in_rooted k c.places.w c.root_at.result a e.slot)
          (rooted k c.places.w c.root_at.result a _ (subst (λ o. IsPlaceOf k c.places.w o a) (sym at.0) e.place)) c.in_ok-push.ensures.items;
      roots = roots_more c.args.roots.now c.places.places.items c.push.new.self.items c.places.w b inv.made inv.roots c.root_at.ensures c.in_ok-push.ensures.items;
      codes = e.others.codes ∙ inv.codes;
      page = e.others.page ∙ inv.page;
      raws = e.others.raws;
      unused = e.others.unused;
      others = nobodys_more c.places.shared k c.places.places.items c.push.new.self.items c.places.w b inv.made e.others e.same c.in_ok-push.ensures.items inv.others;
    }

pub returns-clause-twenty : goal.returns-clause-twenty
returns-clause-twenty c = omega (arith, c.places.invariant.made, c.places.invariant.few, c.places-test.false)

pub returns-clause-others : goal.returns-clause-others
returns-clause-others c = c.places.invariant.others
