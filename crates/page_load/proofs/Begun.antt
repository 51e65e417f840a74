-- A life whose widget has its tree and the object `lib` begins.
use Rattle.std.proofs.Common.{◌≡◌, ℕ, ◌+◌, ◌≤◌, List, [], ◌∷◌, Bool, true, false, refl, sym, ap, ◌∙◌, subst, length, map, replicate, Option, arith, eqb, eqb-true, eq-eqb}
use Rattle.std.proofs.lemmas.List.{length-append, length-map}
use Rattle.std.specs.Prelude.{IfSome, ◌^◌}
use Rattle.std.specs.List.{AllByRecursion}
use Rattle.std.specs.Option.{option_map}
use Rattle.js_tree.specs.Forest.{Forest}
use Rattle.js_tree.specs.Trees.{program_of}
use Rattle.js_names.specs.declared.code.Code.{Code}
use Rattle.js_names.specs.Code.{tree_in, trees_of}
use Rattle.plain_tree.specs.Trees.{size}
use Rattle.tree_ops.specs.Trees.{numbered}
use Rattle.store_cells.specs.Cells.{Cells, own_count}
use Rattle.object_store.specs.Owned.{OwnCell, Owned, owned}
use Rattle.query_grammar.specs.Renumbering.{renumbered}
use Rattle.widget_meaning.specs.OwnState.{nothing_kept}
use Rattle.widget_meaning.specs.Alone.{Content, beginning}
use Rattle.page_image.specs.Held.{OptionIn}
use Rattle.page_image.specs.Image.{HasRoot, forest, number, own, owns}
use Rattle.page_image.proofs.Pages.{is_node}
use Rattle.page_tree.specs.declared.page.Page.{Page}
use Rattle.event_loop.specs.Around as around
use Rattle.event_loop.specs.Kept.{PlainKept}
use Rattle.event_loop.specs.declared.around.Loop.{Loop}
use Rattle.event_loop.specs.declared.timers.Timer.{Timer}
use Rattle.event_loop.specs.Kept as kept_with
use Rattle.page_image.specs.Around.{kept_of, timer_of}
use Rattle.js_image.specs.Held.{IsConfined, Kept, PassNodes}
use Rattle.js_image.specs.Image.{meant_cell, meant_counts, meant_scope}
use Rattle.native_image.specs.Sound.{HoldsOwn, IsOwnCell, KeepsPage}
use Rattle.native_image.proofs.Added.{raw_stays}
use Rattle.native_image.proofs.Keeping.{page_same}
use Rattle.life_laws.specs.Life.{potentials, waiting}
use Rattle.native_image.specs.declared.handed.Shared.{Shared}
use Rattle.native_image.specs.declared.handed.Widget.{Widget}
use Rattle.slot_picks.specs.Turn.{Turn}
use Rattle.slot_picks.specs.life.Life.{Life}
use Rattle.slot_picks.specs.QueueLives.{going_of, life_seen, meant_stop, own_of, post_of, trees_in, work_of, works_of}
use Rattle.slot_picks.specs.Fine.{FineLife, FineTurn, FineWork, KeepsCells, held_back, most_fuel, tally}
use Rattle.slot_picks.proofs.Apart.{fine_apart, seen_apart}
use Rattle.slot_picks.specs.declared.lives.Place.{Place}
use Rattle.slot_picks.specs.Places.{lent}
use Rattle.page_build.specs.Homes.{HaveRaws}
use Rattle.page_load.specs.Laying.{IsUnused}
use Rattle.page_load.specs.declared.codes.Scripts.{Scripts}
use Rattle.page_load.specs.Lives.{HasTree, IsBegun, IsBlank, IsLib, IsNew, IsReady, KeepsOthers, content_at}
use Rattle.page_load.specs.Queues.{programs_of}
use Rattle.page_load.specs.Owning.{one_object}
use Rattle.page_load.proofs.Due.{few_loads}

no_true : false ≡ true → ⊥
no_true e = cc

-- nothing is kept with any of these nodes
none_kept : (l : Loop) (g : ℕ → ℕ) → ((n : ℕ) → around.kept l n ≡ kept_with.nothing) → (ns : List ℕ) → map (λ n. kept_of g (around.kept l n)) ns ≡ replicate (length ns) nothing_kept
none_kept l g none [] = refl
none_kept l g none (n ∷ ns) = λ j. kept_of g (none n j) ∷ none_kept l g none ns j

-- what a life holds that has done nothing
pub holds_with : (w : ℕ) (s : Cells) (p : Page) (a : Widget) → IsBlank w a → HasRoot p w → AllByRecursion (λ (c : OwnCell). PassNodes (owns p w) c.kind) (owned w s).heap → HoldsOwn w s p a.around
holds_with w s p a blank home bunches = record {
  home = home;
  bunches = bunches;
  handlers = λ n. subst (λ (k : PlainKept). AllByRecursion (λ e. IsOwnCell w s.cells e.1) k.handlers) (sym (blank.kept_none n)) tt;
  timers = subst (AllByRecursion (λ (t : Timer). IsOwnCell w s.cells t.func)) (sym blank.no_timers) tt;
  focus = subst (OptionIn (owns p w)) (sym blank.no_focus) tt;
  elsewhere = λ n e. blank.kept_none n;
}

-- ## The life

module _ (h : Shared) (w : ℕ) (l : Life) (blank : IsBlank w l.widget) (new : IsNew l) (tree : HasTree h.page w) (one : owned w h.store ≡ one_object) where
  own_is : (c : Content) → c.root ≡ forest h.page w → own_of h w l ≡ beginning c l.grant
  own_is c root =
      let nodes : length (own h.page w) ≡ size c.root = tree.nodes ∙ ap size (sym root) in
      let trees : forest h.page w ≡ numbered 0 c.root = sym tree.trees ∙ ap (numbered 0) (sym root) in
      let g = own_count w h.store.cells in
      let kept : map (λ n. kept_of g (around.kept l.widget.around n)) (own h.page w) ≡ replicate (size c.root) nothing_kept = none_kept l.widget.around g blank.kept_none (own h.page w) ∙ ap (λ n. replicate n nothing_kept) nodes in
      λ j. record {
        heap = map (meant_cell (trees_in h) (own h.page w)) (one j).heap;
        scopes = map meant_scope (one j).scopes;
        forest = trees j;
        kept = kept j;
        timers = map (timer_of g) (blank.no_timers j);
        clock = blank.no_time j;
        focus = renumbered (number h.page w) (blank.no_focus j);
        log = blank.no_log j;
        uncaught = new.uncaught j;
        posts = map post_of (blank.no_posts j);
        counts = meant_counts (nodes j) (one j).paid;
        turns = new.turns j;
        spent = new.spent j;
        missed = new.missed j;
        gone = new.gone j;
        stop = option_map meant_stop (new.stop j);
        grant = l.grant;
      }

  seen_is : (c : Content) → c.root ≡ forest h.page w → life_seen h w l ≡ waiting (beginning c l.grant) (works_of h w l)
  seen_is c root = λ j. record { own = own_is c root j; going = option_map (going_of h w l) (new.rests j); queue = works_of h w l }

  module _ (confined : IsConfined (trees_in h) w h.store) (raws : HaveRaws h.store h.page) (lib : IsLib w h.store l.lib) (grant : l.grant ≤ most_fuel) (works : AllByRecursion (FineWork (trees_in h)) l.queue.items) (few : potentials (map (work_of (trees_in h)) l.queue.items) ≤ 2 ^ 31) where
    pub tally_few : tally h w l ≤ 2 ^ 31
    tally_few = omega (arith, new.turns, new.missed, new.gone, few)

    pub fine_is : FineLife h w l
    fine_is = record {
      number = blank.number;
      confined = confined;
      sound = record {
        holds = holds_with w h.store h.page l.widget blank tree.home (subst (λ (o : Owned). AllByRecursion (λ (c : OwnCell). PassNodes (owns h.page w) c.kind) o.heap) (sym one) (tt, tt));
        raws = λ v n e. raws n (is_node h.page v n e);
      };
      lib = record { held = lib.held; first = lib.first };
      works = works;
      turn = subst (λ (t : Option Turn). IfSome t (FineTurn (trees_in h) w h.store h.page l.grant)) (sym new.rests) tt;
      counts = record {
        grant = grant;
        spent = let back = ap held_back new.rests in omega (arith, new.spent, back);
        room = omega (arith, tally_few);
      };
    }

-- with the object `lib`, a slot and a node that stands there
abbrev pub seated : ℕ → ℕ → ℕ → Place → Place
seated lib to root a = record a { life = record a.life { slot = to; lib = lib }; root = root }

-- a life that is ready begins where it has its tree and the object `lib`
module _ (h : Shared) (w fuel : ℕ) (s : Scripts) (a : Place) (ready : IsReady w fuel s a) (lib to root : ℕ) where
  its_potentials : potentials (map (work_of (trees_of a.codes.items)) a.life.queue.items) ≤ 2 ^ 31
  its_potentials =
      let one = ap length ready.codes ∙ length-append s.libs.items (s.script ∷ []) in
      omega (arith, ap potentials ready.queue.are, few_loads (programs_of s.libs.items) (program_of (tree_in s.script)), length-map s.libs.items (λ (c : Code). program_of (tree_in c)), one, ready.many)

  its_new : IsNew (seated lib to root a).life
  its_new = let n = ready.life.new in record { uncaught = n.uncaught; turns = n.turns; spent = n.spent; missed = n.missed; gone = n.gone; stop = n.stop; rests = n.rests }

  pub begun_is : HasTree h.page w → owned w h.store ≡ one_object → IsConfined (trees_of a.codes.items) w h.store → HaveRaws h.store h.page → IsLib w h.store lib → fuel ≤ most_fuel → IsBegun h w fuel s (seated lib to root a)
  begun_is tree one confined raws is few =
      let b = seated lib to root a in
      let k = lent h b in
      let c = content_at h.page w s in
      let grant : a.life.grant ≤ most_fuel = omega (arith, ready.life.granted, few) in
      let works : AllByRecursion (FineWork (trees_of a.codes.items)) a.life.queue.items = ready.queue.fine tt in
      record {
        codes = ready.codes;
        accepted = ready.life.accepted;
        fine = fine_is k w b.life ready.life.blank its_new tree one confined raws is grant works its_potentials;
        seen = seen_is k w b.life ready.life.blank its_new tree one c refl ∙ (λ j. waiting (beginning c (ready.life.granted j)) (ready.queue.are j));
        few = tally_few k w b.life ready.life.blank its_new tree one confined raws is grant works its_potentials;
      }

-- ## The others

-- each widget stays confined
confined_each : (fs : List Forest) (w : ℕ) (s t : Cells) → Kept fs w s t → (v : ℕ) → IsConfined fs v s → IsConfined fs v t
confined_each fs w s t k v h = by (eqb w v) refl
  where
    differ : eqb w v ≡ false → w ≡ v → ⊥
    differ e g = no_true (sym e ∙ eq-eqb w v g)

    by : (b : Bool) → eqb w v ≡ b → IsConfined fs v t
    by true e = let g = eqb-true w v e in subst (λ x. IsConfined fs x t) g (k.confined (subst (λ x. IsConfined fs x s) (sym g) h))
    by false e = k.others_confined fs v (differ e) h

module _ (w : ℕ) (h : Shared) (new : Cells) (kept : (fs : List Forest) → Kept fs w h.store new) (unused : IsUnused h.store w) (raws : HaveRaws h.store h.page) where
  pub unused_behind : IsUnused new (w + 1)
  unused_behind = record {
    nothing = λ v le lt. (kept []).others v (λ e. omega (arith, e, le)) ∙ unused.nothing v (omega (arith, le)) lt;
    confined = λ fs v. confined_each fs w h.store new (kept fs) v (unused.confined fs v);
  }

  pub raws_kept : HaveRaws new h.page
  raws_kept = λ n lt. raw_stays w h.store.cells new.cells (kept []).grows n (raws n lt)

-- where nothing changes
pub keeps_same : (w : ℕ) (h : Shared) → IsUnused h.store w → HaveRaws h.store h.page → KeepsOthers w h h
keeps_same w h unused raws = record {
  codes = refl;
  page = refl;
  raws = raws;
  unused = record { nothing = λ v le lt. unused.nothing v (omega (arith, le)) lt; confined = unused.confined };
  others = λ v ne. refl;
  fine = λ v a lt ne f. f;
  seen = λ v a lt ne f. refl;
}

-- after a life began
module _ (w : ℕ) (h k : Shared) (codes : k.codes ≡ h.codes) (page : k.page ≡ h.page) (kept : (fs : List Forest) → Kept fs w h.store k.store) (unused : IsUnused h.store w) (raws : HaveRaws h.store h.page) where
  raws_here : HaveRaws k.store k.page
  raws_here = subst (HaveRaws k.store) (sym page) (raws_kept w h k.store kept unused raws)

  cells_here : KeepsCells [] w h.store k.store
  cells_here = let c = kept [] in record { confined = c.confined; grows = c.grows; others = c.others; others_grow = c.others_grow; others_confined = c.others_confined }

  page_here : KeepsPage w h.page k.page
  page_here = subst (KeepsPage w h.page) (sym page) (page_same w h.page)

  pub keeps_begun : KeepsOthers w h k
  keeps_begun = record {
    codes = codes;
    page = page;
    raws = raws_here;
    unused = unused_behind w h k.store kept unused raws;
    others = (kept []).others;
    fine = λ v a lt ne f. fine_apart w v ne lt [] (lent h a) (lent k a) refl cells_here page_here a.life f (λ u n e. raws_here n (is_node k.page u n e));
    seen = λ v a lt ne f. seen_apart w v ne lt [] (lent h a) (lent k a) refl cells_here page_here a.life f;
  }
