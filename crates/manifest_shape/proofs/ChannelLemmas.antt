-- Channels so far, and where they stop.
use Rattle.std.proofs.Common.{◌≡◌, ℕ, ◌+◌, ◌<◌, true, false, not, List, [], ◌∷◌, ◌++◌, length, map, take, drop, get_or, sym, ap, subst, ◌∙◌}
use Rattle.std.proofs.lemmas.List.{take-append-drop}
use Rattle.std.specs.List.{list_any}
use Rattle.serde_json.specs.Data.{Data}
use Rattle.serde_json.specs.View.{view}
use Rattle.serde_json.specs.declared.value.Value.{Value}
use Rattle.manifest_shape.specs.Distinct.{distinct}
use Rattle.json_shapes.specs.Each.{Each, none_left}
use Rattle.manifest_shape.specs.Manifest.{IsChannel, AreChannels, same_channel, slot_in}
use Rattle.json_shapes.proofs.EachLemmas.{each_take, each_same, no_each_value, taken_more}
use Rattle.json_shapes.proofs.EachLemmas.{taken_map}
use Rattle.manifest_shape.proofs.DistinctLemmas.{distinct_front, distinct_snoc, and_true, and_false}

-- the first i values are these channels
pub record ChannelsSoFar (names : List (List ℕ)) (vs : List Value) (i : ℕ) (channels : List (ℕ × ℕ)) : Type 0 where
  pub each : Each (IsChannel names) (map view (take i vs)) channels
  pub apart : distinct same_channel channels ≡ true

pub no_channel_yet : (names : List (List ℕ)) (vs : List Value) (channels : List (ℕ × ℕ)) → channels ≡ [] → ChannelsSoFar names vs 0 channels
no_channel_yet names vs channels empty =
    record {
      each = subst (λ (cs : List (ℕ × ℕ)). Each (IsChannel names) [] cs) (sym empty) none_left;
      apart = ap (distinct same_channel) empty;
    }

-- a value is one channel at most
one_channel : (names : List (List ℕ)) (d : Data) (a b : ℕ × ℕ) → IsChannel names d a → IsChannel names d b → a ≡ b
one_channel names d a b left right =
    let same : left.ends ≡ right.ends = let l = left.list in let r = right.list in cc in
    let from : a.0 ≡ b.0 = let l = left.from in let r = right.from in let s = ap (slot_in names 0) same in cc in
    let to : a.1 ≡ b.1 = let l = left.to in let r = right.to in let s = ap (slot_in names 1) same in cc in
    let step : (a.0, a.1) ≡ (b.0, a.1) = ap (λ (x : ℕ). let p : ℕ × ℕ = (x, a.1) in p) from in
    let last : (b.0, a.1) ≡ (b.0, b.1) = ap (λ (y : ℕ). let p : ℕ × ℕ = (b.0, y) in p) to in
    step ∙ last

-- a value that is no channel
pub no_channel : (names : List (List ℕ)) (vs : List Value) (i : ℕ) (v : Value) (all : List (ℕ × ℕ)) → i < length vs → v ≡ get_or vs i v → ((c : ℕ × ℕ) → IsChannel names (view v) c → ⊥) → AreChannels names (map view vs) all → ⊥
no_channel names vs i v all within is none are = no_each_value (IsChannel names) vs all i v within is none are.each

-- a channel again
pub channel_again : (names : List (List ℕ)) (vs : List Value) (i : ℕ) (v : Value) (channels all : List (ℕ × ℕ)) (c : ℕ × ℕ) → i < length vs → v ≡ get_or vs i v → ChannelsSoFar names vs i channels → IsChannel names (view v) c → true ≡ list_any (λ b. same_channel b c) channels → AreChannels names (map view vs) all → ⊥
channel_again names vs i v channels all c within is so_far here again are =
    let ours : Each (IsChannel names) (map view (take (i + 1) vs)) (channels ++ c ∷ []) = taken_more (IsChannel names) vs i v channels c within is so_far.each here in
    let theirs : Each (IsChannel names) (map view (take (i + 1) vs)) (take (i + 1) all) =
    subst (λ ds. Each (IsChannel names) ds (take (i + 1) all)) (taken_map (i + 1) vs) (each_take (IsChannel names) (map view vs) all (i + 1) are.each) in
    let same : channels ++ c ∷ [] ≡ take (i + 1) all = each_same (IsChannel names) (map view (take (i + 1) vs)) (channels ++ c ∷ []) (take (i + 1) all) (one_channel names) ours theirs in
    let whole : distinct same_channel (take (i + 1) all ++ drop (i + 1) all) ≡ true = ap (distinct same_channel) (take-append-drop (i + 1) all) ∙ are.distinct in
    let front = distinct_front same_channel (take (i + 1) all) (drop (i + 1) all) whole in
    let twice : distinct same_channel (channels ++ c ∷ []) ≡ false =
    distinct_snoc same_channel channels c ∙ and_false (distinct same_channel channels) (not (list_any (λ b. same_channel b c) channels)) (ap not (sym again)) in
    let once : distinct same_channel (channels ++ c ∷ []) ≡ true = ap (distinct same_channel) same ∙ front in
    cc

-- one channel more
pub channels_more : (names : List (List ℕ)) (vs : List Value) (i : ℕ) (v : Value) (channels new : List (ℕ × ℕ)) (c : ℕ × ℕ) → i < length vs → v ≡ get_or vs i v → ChannelsSoFar names vs i channels → IsChannel names (view v) c → false ≡ list_any (λ b. same_channel b c) channels → new ≡ channels ++ c ∷ [] → ChannelsSoFar names vs (i + 1) new
channels_more names vs i v channels new c within is so_far here fresh pushed =
    record {
      each = subst (λ cs. Each (IsChannel names) (map view (take (i + 1) vs)) cs) (sym pushed) (taken_more (IsChannel names) vs i v channels c within is so_far.each here);
      apart = ap (distinct same_channel) pushed ∙ distinct_snoc same_channel channels c ∙ and_true (distinct same_channel channels) (not (list_any (λ b. same_channel b c) channels)) so_far.apart (ap not (sym fresh));
    }
