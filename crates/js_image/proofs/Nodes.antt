-- What a call keeps of the nodes of Bunches, and of the counts.
use Rattle.std.proofs.Common.{◌≡◌, ℕ, zero, suc, List, [], ◌∷◌, ◌++◌, sym, ap, subst, Option, None, Some, arith, Bool, true, false, if◌then◌else◌}
use Rattle.std.specs.List.{AllByRecursion}
use Rattle.std.specs.Option.{option_map}
use Rattle.std.specs.Str.{bytes_eq}
use Rattle.js_tree.specs.Forest.{Forest}
use Rattle.store_cells.specs.declared.counts.Counts.{Counts}
use Rattle.store_cells.specs.Cells.{Cells, PlainCell}
use Rattle.store_cells.specs.Costs.{paid}
use Rattle.store_cells.specs.Arrays.{length_name}
use Rattle.store_cells.specs.Lists.{changed}
use Rattle.object_store.specs.declared.store.NewCell.{NewCell}
use Rattle.object_store.specs.declared.store.NewCell.TheVariants as fresh
use Rattle.object_store.specs.Owned as store
use Rattle.object_store.specs.Owned.{Changed, OwnCell, OwnKind, OwnValue, made_cells, own_cells, own_length, own_placed, own_put, own_removed, own_resized, own_stored, owned}
use Rattle.js_image.specs.Held.{CountsRise, HoldNodes, PassNodes}
use Rattle.js_image.specs.Plans.{IsNewOf}

-- ## Counts

pub rise_same : (o : Option Counts) → CountsRise o o
rise_same None = tt
rise_same (Some a) = (omega arith, omega arith, omega arith)

pub rise_paid : (c n u : ℕ) (o : Option Counts) → CountsRise o (option_map (paid c n u) o)
rise_paid c n u None = tt
rise_paid c n u (Some a) = (omega arith, omega arith, omega arith)

pub rise_then : (a b c : Option Counts) → CountsRise a b → CountsRise b c → CountsRise a c
rise_then None b c f g = tt
rise_then (Some a) None c f g = absurd f
rise_then (Some a) (Some b) None f g = absurd g
rise_then (Some a) (Some b) (Some c) f g = (omega (arith, f.0, g.0), omega (arith, f.1, g.1), omega (arith, f.2, g.2))

-- what is paid on top
pub rise_to : (c n u : ℕ) (a b : Option Counts) → b ≡ option_map (paid c n u) a → CountsRise a b
rise_to c n u a b e = subst (CountsRise a) (sym e) (rise_paid c n u a)

-- ## Nodes

module _ (p : ℕ → Bool) where
  abbrev Pass : OwnCell → Type 0
  Pass c = PassNodes p c.kind

  pub pass_append : (cs ds : List OwnCell) → AllByRecursion Pass cs → AllByRecursion Pass ds → AllByRecursion Pass (cs ++ ds)
  pass_append [] ds f g = g
  pass_append (c ∷ cs) ds f g = (f.0, pass_append cs ds f.1 g)

  pass_changed : (g : OwnCell → OwnCell) → ((c : OwnCell) → Pass c → Pass (g c)) → (cs : List OwnCell) (i : ℕ) → AllByRecursion Pass cs → AllByRecursion Pass (changed cs i g)
  pass_changed g h [] i f = tt
  pass_changed g h (c ∷ cs) zero f = (h c f.0, f.1)
  pass_changed g h (c ∷ cs) (suc i) f = (f.0, pass_changed g h cs i f.1)

  -- a write to a property leaves what a cell is
  pub pass_put : (x : List ℕ) (v : OwnValue) (c : OwnCell) → Pass c → Pass (own_put x v c)
  pass_put x v c h = by c.kind h
    where
      sized : (o : Option ℕ) → Pass (own_resized c o)
      sized None = h
      sized (Some n) = tt

      placed : (n : ℕ) (b : Bool) → Pass (if b then own_resized c (own_length v) else own_placed x v c n)
      placed n true = sized (own_length v)
      placed n false = tt

      by : (k : OwnKind) → PassNodes p k → Pass (own_stored x v c k)
      by store.Object f = tt
      by (store.Array n) f = placed n (bytes_eq x length_name)
      by (store.Function code fun declared scope) f = tt
      by (store.Bunch ns) f = f

  pub pass_removed : (x : List ℕ) (c : OwnCell) → Pass c → Pass (own_removed x c)
  pass_removed x c h = h

  -- a new cell that is no Bunch
  pub pass_made : (fs : List Forest) (w : ℕ) (cells : List PlainCell) (n : NewCell) → IsNewOf fs n → AllByRecursion Pass (made_cells w cells n)
  pass_made fs w cells (fresh.Object proto) h = (tt, tt)
  pass_made fs w cells fresh.Array h = (tt, tt)
  pass_made fs w cells (fresh.Function code fun declared scope) h = (tt, tt)
  pass_made fs w cells (fresh.Scope outer names) h = tt
  pass_made fs w cells (fresh.Bunch nodes) h = absurd h
  pass_made fs w cells (fresh.ObjectWith proto pairs) h = (tt, tt)
  pass_made fs w cells (fresh.ArrayWith values) h = (tt, tt)
  pass_made fs w cells (fresh.ScopeWith outer pairs) h = tt

  module _ (w : ℕ) (old new : Cells) where
    pub hold_same : (owned w new).heap ≡ (owned w old).heap → HoldNodes p w old → HoldNodes p w new
    hold_same e h = subst (AllByRecursion Pass) (sym e) h

    pub hold_more : (more : List OwnCell) → (owned w new).heap ≡ (owned w old).heap ++ more → AllByRecursion Pass more → HoldNodes p w old → HoldNodes p w new
    hold_more more e f h = subst (AllByRecursion Pass) (sym e) (pass_append (owned w old).heap more h f)

    pub hold_changed : (i slots : ℕ) (g : OwnCell → OwnCell) → ((c : OwnCell) → Pass c → Pass (g c)) → Changed w old new i slots g → HoldNodes p w old → HoldNodes p w new
    hold_changed i slots g f is h = subst (AllByRecursion Pass) (sym is.heap) (pass_changed g f (owned w old).heap _ h)

-- the same cells are the same objects
pub heap_by_cells : (w : ℕ) (old new : Cells) → new.cells ≡ old.cells → (owned w new).heap ≡ (owned w old).heap
unfolding owned
heap_by_cells w old new e = ap (λ l. own_cells w l l) e
