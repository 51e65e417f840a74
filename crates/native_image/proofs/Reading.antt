-- How a native that reads comes to what its plan gives.
use Rattle.std.proofs.Common.{◌≡◌, ℕ, ◌+◌, ◌<◌, List, [], refl, sym, subst, Result, Ok, IfOk}
use Rattle.std.specs.Prelude.{IsErr}
use Rattle.std.proofs.lemmas.Result.{IfOk-from_err, IfOk-weaker}
use Rattle.code_units.specs.declared.memory.Memory.{Memory}
use Rattle.js_tree.specs.Forest.{Forest}
use Rattle.store_cells.specs.Cells.{Cells}
use Rattle.widget_meaning.specs.OwnState.{State}
use Rattle.widget_meaning.specs.Plan.{Plan, charge}
use Rattle.widget_meaning.specs.Costs.{throw}
use Rattle.js_image.specs.Held.{Kept}
use Rattle.js_image.specs.Image.{seen}
use Rattle.js_image.specs.Plans.{meant_fault}
use Rattle.js_image.specs.declared.outcome.Fault.{Fault}
use Rattle.js_values.specs.Answers.{IsFineOut, Leaves}
use Rattle.js_values.specs.Fuel.{Fuel}
use Rattle.js_values.specs.declared.outcome.NativeOut.{NativeOut}
use Rattle.js_values.specs.declared.outcome.NativeOut.TheVariants as native
use Rattle.page_image.specs.Image.{number}
use Rattle.page_image.specs.Stays.{HostStays}
use Rattle.page_tree.specs.declared.page.Page.{Page}
use Rattle.native_common.specs.Refines.{Ends, Refines}
use Rattle.native_image.specs.Handed.{IsSoundIn, Reads, Writes, parts, state}
use Rattle.native_image.specs.Image.{Outside, Parts}
use Rattle.native_image.specs.Refines.{EndsAt, FiresAtOwn, RefinesAt}
use Rattle.native_image.specs.Sound.{IsSound, KeepsPage, KeepsStore}
use Rattle.native_image.specs.declared.handed.Shared.{Shared}
use Rattle.native_image.specs.declared.handed.Widget.{Widget}
use Rattle.native_image.proofs.Joint.{keeps_of, sound_stays}
use Rattle.native_image.proofs.Keeping.{host_here, page_same}
use Rattle.native_image.proofs.Meeting.{at_charged, at_free, at_lacking, at_same, ends_lift, refines_lift}
use Rattle.native_image.proofs.Nodes.{same_kept}

-- what all share once the store is this
abbrev pub after : Shared → Cells → Shared
after h s = record h { store = s }

module _ (h : Shared) (v : Widget) where
  -- two plans are the same at the widget's state
  abbrev pub AreSame : (ℕ → State → Plan) → (ℕ → State → Plan) → Type 0
  AreSame p q = (fs : List Forest) (x : Outside) (d : ℕ) → p d (state h v fs x) ≡ q d (state h v fs x)

  -- a plan that is the same at the state
  pub reads_same : (new : Shared) (had has : Fuel) (p q : ℕ → State → Plan) (r : Result NativeOut Memory) → AreSame p q → Reads h new v had has q r → Reads h new v had has p r
  reads_same new had has p q r same m = record {
    refines = IfOk-weaker r _ _ (λ o. at_same v.id.index (parts h v) (parts new v) p q o had has same) m.refines;
    page = m.page;
    codes = m.codes;
    holds = m.holds;
    kept = m.kept;
  }

  -- what an answer does to the store
  module _ (sound : IsSoundIn h v) where
    pub reads_by : (new : Cells) (had has : Fuel) (p q : ℕ → State → Plan) (o : NativeOut) → ((w : ℕ) (k : Parts) → FiresAtOwn w k o) → AreSame p q → Refines v.id.index h.store new had has q o → Reads h (after h new) v had has p (Ok o)
    reads_by new had has p q o fires same m = record {
      refines = at_same v.id.index (parts h v) (parts (after h new) v) p q o had has same (refines_lift v.id.index v.id.small h.store new h.page v.around v.bubbled sound had has q o (fires v.id.index (parts (after h new) v)) m);
      page = refl;
      codes = refl;
      holds = (sound_stays v.id.index h.store new h.page v.around sound (m.kept [])).holds;
      kept = keeps_of v.id.index h.store new m.kept;
    }

    -- an answer before any charge
    pub reads_free : (had : Fuel) (p : ℕ → State → Plan) (o : NativeOut) → IsFineOut v.id.index h.store.cells o → ((w : ℕ) (k : Parts) → FiresAtOwn w k o) → ((fs : List Forest) (x : Outside) (d : ℕ) → Leaves (seen v.id.index h.store.cells) (number h.page v.id.index) d o (state h v fs x) (p d (state h v fs x))) → Reads h h v had had p (Ok o)
    reads_free had p o fine fires leaves = record {
      refines = at_free v.id.index (parts h v) (parts h v) p o had (record { leaves = leaves; fine = fine; fires = fires v.id.index (parts h v); sound = sound });
      page = refl;
      codes = refl;
      holds = sound.holds;
      kept = same_kept v.id.index h.store h.store refl;
    }

    -- want of memory before any change of the store
    pub reads_memory : (had has : Fuel) (p : ℕ → State → Plan) (r : Result NativeOut Memory) → IsErr r → Reads h h v had has p r
    reads_memory had has p r e = record { refines = IfOk-from_err r _ e; page = refl; codes = refl; holds = sound.holds; kept = same_kept v.id.index h.store h.store refl }

    -- a charge that is not there
    pub reads_lacking : (n : ℕ) (p q : ℕ → State → Plan) (had has : Fuel) → has ≡ had → had.left < n → AreSame p (λ d s. charge n s (q d s)) → Reads h h v had has p (Ok native.OutOfFuel)
    reads_lacking n p q had has e lt same = record {
      refines = subst (λ (f : Fuel). RefinesAt v.id.index (parts h v) (parts h v) had f p native.OutOfFuel) (sym e)
          (at_same v.id.index (parts h v) (parts h v) p (λ d s. charge n s (q d s)) native.OutOfFuel had had same (at_lacking v.id.index (parts h v) n q had sound lt));
      page = refl;
      codes = refl;
      holds = sound.holds;
      kept = same_kept v.id.index h.store h.store refl;
    }

  -- a charge was taken, and what comes then
  module _ (new : Cells) (n : ℕ) (p q : ℕ → State → Plan) (had has : Fuel) (left : had.left ≡ n + has.left) (spent : has.spent ≡ had.spent + n) (same : AreSame p (λ d s. charge n s (q d s))) where
    pub reads_charged : (r : Result NativeOut Memory) → IsSound v.id.index new h.page v.around → KeepsStore v.id.index h.store new → IfOk r (EndsAt v.id.index (parts h v) (parts (after h new) v) q) → Reads h (after h new) v had has p r
    reads_charged r sound kept ends = record {
      refines = IfOk-weaker r _ _ (λ o e. at_same v.id.index (parts h v) (parts (after h new) v) p (λ d s. charge n s (q d s)) o had has same (at_charged v.id.index (parts h v) (parts (after h new) v) n q o had has left spent e)) ends;
      page = refl;
      codes = refl;
      holds = sound.holds;
      kept = kept;
    }

    -- of the store alone
    pub reads_made : (r : Result NativeOut Memory) → IsSoundIn h v → ((fs : List Forest) → Kept fs v.id.index h.store new) → IfOk r (λ o. Ends v.id.index h.store new q o × FiresAtOwn v.id.index (parts (after h new) v) o) → Reads h (after h new) v had has p r
    reads_made r sound kept ends = reads_charged r (sound_stays v.id.index h.store new h.page v.around sound (kept [])) (keeps_of v.id.index h.store new kept)
        (IfOk-weaker r _ _ (λ o e. ends_lift v.id.index v.id.small h.store new h.page v.around v.bubbled sound q o e.1 e.0) ends)

-- ## A native that may change more

-- one that read alone, as its refusals do
pub writes_of_reads : (h new : Shared) (v : Widget) (had has : Fuel) (p : ℕ → State → Plan) (r : Result NativeOut Memory) → Reads h new v had has p r → Writes h new v v had has p r
writes_of_reads h new v had has p r m = record {
  refines = m.refines;
  kept = record {
    store = m.kept;
    page = subst (λ (q : Page). KeepsPage v.id.index h.page q) (sym m.page) (page_same v.id.index h.page);
    host = subst (λ (q : Page). HostStays h.page q) (sym m.page) (host_here h.page);
    holds = m.holds;
  };
  codes = m.codes;
  rest = refl;
}

-- a plan that is the same at the state
pub writes_same : (h new : Shared) (v u : Widget) (had has : Fuel) (p q : ℕ → State → Plan) (r : Result NativeOut Memory) → AreSame h v p q → Writes h new v u had has q r → Writes h new v u had has p r
writes_same h new v u had has p q r same m = record {
  refines = IfOk-weaker r _ _ (λ o. at_same v.id.index (parts h v) (parts new u) p q o had has same) m.refines;
  kept = m.kept;
  codes = m.codes;
  rest = m.rest;
}

module _ (h : Shared) (v : Widget) (sound : IsSoundIn h v) where
  -- want of memory before any change
  pub writes_memory : (had has : Fuel) (p : ℕ → State → Plan) (r : Result NativeOut Memory) → IsErr r → Writes h h v v had has p r
  writes_memory had has p r e = writes_of_reads h h v had has p r (reads_memory h v sound had has p r e)

  -- a fault before any charge
  pub writes_thrown : (p : ℕ → State → Plan) (f : Fault) (had : Fuel) → ((fs : List Forest) (x : Outside) (d : ℕ) → p d (state h v fs x) ≡ throw (meant_fault f) (state h v fs x)) → Writes h h v v had had p (Ok (native.Throw f))
  writes_thrown p f had same = writes_of_reads h h v had had p (Ok (native.Throw f)) (reads_free h v sound had p (native.Throw f) tt (λ w k. tt) same)
