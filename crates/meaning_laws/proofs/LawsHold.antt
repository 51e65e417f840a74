-- The laws of own states hold.
use Rattle.std.proofs.Common.{◌≡◌, refl, false, true, ℕ, suc, length, ◌+◌, ◌≤◌, arith}
use Rattle.std.proofs.lemmas.Bool.{false≢true}
use Rattle.std.specs.Prelude.{[], ◌∷◌, Some}
use Rattle.std.specs.List.{AllByRecursion}
use Rattle.widget_meaning.specs.Limits.{max_chain}
use Rattle.widget_meaning.specs.Alone.{loaded}
use Rattle.widget_meaning.proofs.Ancestors.{ancestor_laws}
use Rattle.widget_meaning.specs.Values.{Value, Undefined, Null, Truth, NaN, Num, Text, Own, Host}
use Rattle.widget_meaning.specs.OwnState.{State, Pairs, cell_at}
use Rattle.widget_meaning.specs.JsonLaws.{IsOrdinary, AreOrdinary}
use Rattle.widget_meaning.proofs.JsonHolds.{json_laws}
use Rattle.widget_meaning.proofs.JsonReturns.{return_laws}
use Rattle.meaning_laws.specs.There.{Sizes, ValueIs, HasOrdinaryValues, told_sizes}
use Rattle.meaning_laws.specs.Texts.{IsOrdinaryValue, AreNames}
use Rattle.meaning_laws.specs.OrdinaryLaws.{OrdinaryLaws, JsonStateLaws}
use Rattle.meaning_laws.proofs.Spelled.{unit_at}
use Rattle.meaning_laws.specs.ThereLaws.{ChainLaws, LengthLaws, ThereLaws, WayLaws}
use Rattle.meaning_laws.proofs.Chains.{all_short, read_ends, list_ends, count_ends}
use Rattle.meaning_laws.proofs.Alone.{job_keeps, job_ends, items_r, loaded_r}

no_fewer : (n more : ℕ) → n ≤ n + more
no_fewer n more = omega arith

unsaid : {P : Type 0} → false ≡ true → P
unsaid e = absurd (false≢true e)

pub there_laws : ThereLaws
there_laws = record {
  jobs = job_keeps false;
  ends = job_ends false;
  kept = λ o is h. items_r false o is h (λ e. unsaid e);
  whole = λ w grant is h l. items_r false (loaded w grant) is (loaded_r false w grant h l (λ e. unsaid e)) (λ e. unsaid e);
}

pub chain_laws : ChainLaws
chain_laws = record {
  reads = λ s v x more h. read_ends (suc max_chain) (suc max_chain + more) (no_fewer (suc max_chain) more) s (Some v) x (all_short s.own.heap v h.chains);
  lists = λ s v more h. list_ends (suc max_chain) (suc max_chain + more) (no_fewer (suc max_chain) more) s (Some v) [] (all_short s.own.heap v h.chains);
  counts = λ s v more h. count_ends (suc max_chain) (suc max_chain + more) (no_fewer (suc max_chain) more) s (Some v) (all_short s.own.heap v h.chains);
}

pub way_laws : WayLaws
way_laws s o kind more h = ancestor_laws s o kind (length s.own.kept) more h.page h.low

pub length_laws : LengthLaws
length_laws s n h = (h.fits n).len

-- ## Texts

ordinary_value : (v : Value) → IsOrdinaryValue v → IsOrdinary v
ordinary_value Undefined h = tt
ordinary_value Null h = tt
ordinary_value (Truth b) h = tt
ordinary_value NaN h = tt
ordinary_value (Num z) h = h
ordinary_value (Text t) h = unit_at t h.0
ordinary_value (Own n) h = tt
ordinary_value (Host e) h = tt

ordinary_pairs : (m : Sizes) (ps : Pairs) → m.texts ≡ true → AreNames ps → AllByRecursion (λ p. ValueIs m p.1) ps → AreOrdinary ps
ordinary_pairs m [] e h k = tt
ordinary_pairs m (p ∷ ps) e h k = (unit_at p.0 h.0.0, ordinary_value p.1 (k.0.text.holds e), ordinary_pairs m ps e h.1 k.1)

ordinary_object : (s : State) (n : ℕ) → HasOrdinaryValues s.own → AreOrdinary (cell_at s n).pairs
ordinary_object s n h = ordinary_pairs (told_sizes s.own) (cell_at s n).pairs refl ((h.objects n).names.holds refl) (h.objects n).pairs.each

pub ordinary_laws : OrdinaryLaws
ordinary_laws = record {
  jobs = job_keeps true;
  ends = job_ends true;
  kept = λ o is h k. items_r true o is h (λ e. k);
  whole = λ w grant is h l c k. items_r true (loaded w grant) is (loaded_r true w grant h l (λ e. c)) (λ e. k);
  ordinary = ordinary_object;
}

pub json_state_laws : JsonStateLaws
json_state_laws = record {
  written = λ s v t h q e. json_laws s v t (λ n. ordinary_object s n h) (ordinary_value v (q.text.holds refl)) e;
  returns = λ s v t h q c e. return_laws s v t (λ n. record { ordinary = ordinary_object s n h; names = c n; len = (h.fits n).len }) (ordinary_value v (q.text.holds refl)) e;
}
