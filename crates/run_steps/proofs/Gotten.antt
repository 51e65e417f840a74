-- The steps that read: a manifest, its files, a trace, the files of its swaps, a certificate.
use Rattle.std.proofs.Common.{Vec, ◌≡◌, ℕ, zero, suc, ◌+◌, ◌<◌, ◌≤◌, List, [], ◌∷◌, length, map, All, Option, Some, None, IsSome, IfSome, IsSomeAnd, Result, Ok, Err, IfOk, IfErr, IsErrOf, refl, sym, ap, subst, ◌∙◌, arith}
use Rattle.std.specs.Prelude.{codes, position, option_and_then, is_some, true, String, string_bytes}
use Rattle.std.specs.List.{count_by}
use Rattle.std.specs.declared.alloc.Global.{Global}
use Rattle.std.specs.Str.{bytes_eq}
use Rattle.std.proofs.lemmas.List.{length-map}
use Rattle.std.proofs.lemmas.List.Quantifiers.{position-Some}
use Rattle.std.proofs.lemmas.Grind.{common_steps}
use Rattle.host_io.specs.Files.{FileMap, IsThere}
use Rattle.serde_json.specs.Data.{Data}
use Rattle.json_shapes.specs.Each.{Each, none_left, one_each}
use Rattle.json_shapes.specs.Json.{judged_version}
use Rattle.json_shapes.specs.Look.{slot_at, text_at}
use Rattle.serde_json.specs.Find.{get, as_str}
use Rattle.json_shapes.proofs.EachLemmas.{each_length}
use Rattle.json_shapes.specs.declared.fault.ShapeFault.{ShapeFault}
use Rattle.json_shapes.specs.declared.fault.ShapeFault.TheVariants as fault
use Rattle.manifest_reader.specs.declared.entry.Manifest.{Manifest}
use Rattle.manifest_reader.specs.Manifest.{IsManifest, ReadsManifest, IsManifestFault}
use Rattle.manifest_reader.proofs.ManifestLemmas.{one_value}
use Rattle.trace_reader.specs.declared.item.TraceItem.{TraceItem}
use Rattle.trace_reader.specs.declared.item.TraceItem.TheVariants as item
use Rattle.trace_reader.specs.Items.{IsItem, IsSwap, is_swap}
use Rattle.trace_reader.specs.Said.{said}
use Rattle.trace_reader.specs.Trace.{ReadsTrace, IsTrace, HasTooMany, IsTraceFault}
use Rattle.slot_check.specs.declared.sources.SourceFile.{SourceFile}
use Rattle.slot_check.specs.Verdicts.{sources_of}
use Rattle.run_steps.specs.declared.ending.Status.{Status}
use Rattle.run_steps.specs.declared.ending.Status.TheVariants as status
use Rattle.run_steps.specs.declared.reading.NoReport.{NoReport}
use Rattle.run_steps.specs.declared.reading.NoReport.TheVariants as stop
use Rattle.run_steps.specs.Page.{texts, file_limit, manifest_limit, trace_limit, AreRead, IsFirstLong, files_swapped, HasManifest, HasTrace, HasBytes}
use Rattle.run_steps.specs.Reading.{ReadsFiles, IsLong, ComesThrough, IsTraceThere, IsReadStop}
use Rattle.run_steps.specs.Items.{IsFor, AreItems}
use Rattle.run_steps.specs.Steps.{NoBytes, long_bytes, NoManifest, long_manifest, bad_manifest, NoFiles, long_file, NoTrace, long_trace, many_items, bad_trace, HasItems, NoItems, IsManifestStop, IsTraceStop, manifest_stop_of, trace_stop_of}
use Rattle.run_steps.specs.Ends.{IsStop, Stepped}
use Rattle.run_steps.proofs.ReadsLemmas.{reads_nothing, reads_as}
use Rattle.run_steps.proofs.Stepping.{again}

none_number : (n : ℕ) → None ≡ Some n → ⊥
none_number n e = cc

-- ## Stops

-- a file of a name that was not read
module _ (Stops : FileMap → Status → Type 0) (name : List ℕ) (limit : ℕ) (long : (m : FileMap) (file : List ℕ) → m name ≡ Some file → limit < length file → Stops m status.TooLarge) where
  long_stop : (m : FileMap) (o : Option (List ℕ)) → m name ≡ o → IsLong o limit → Stops m status.TooLarge
  long_stop m None there is = absurd is
  long_stop m (Some file) there is = long m file there is

  pub unread : (told : Option FileMap) (e : NoReport) → IsReadStop e → (e ≡ stop.TooLarge → IfSome told (λ m. IsLong (m name) limit)) → IfSome told (λ m. IsStop (Stops m) e)
  unread None e is large = tt
  unread (Some m) stop.BadManifest is large = absurd is
  unread (Some m) stop.BadTrace is large = absurd is
  unread (Some m) stop.CertTooLarge is large = absurd is
  unread (Some m) stop.BadCert is large = absurd is
  unread (Some m) stop.TooLarge is large = long_stop m (m name) refl (large refl)
  unread (Some m) stop.ReadFault is large = tt
  unread (Some m) stop.Memory is large = tt

pub there_and : (told : Option FileMap) (name : List ℕ) → IsSomeAnd told (λ m. IsSome (m name)) → IsThere told name
there_and None name has = has
there_and (Some m) name has = has

module _ {F : Type 0} (told : F → Option FileMap) (calm : F → Type 0) (faults : F → ℕ) where
  -- the file was not read
  pub none_read : {T U : Type 0} {a b : F} {e : NoReport} (Gives : FileMap → U → Type 0) (Stops : FileMap → Status → Type 0) (name : List ℕ) (limit : ℕ) → ((m : FileMap) (file : List ℕ) → m name ≡ Some file → limit < length file → Stops m status.TooLarge) → IsReadStop e → (IsErrOf {T = T} (Err e) stop.TooLarge → IfSome (told a) (λ m. IsLong (m name) limit)) → ReadsFiles told calm faults a b (IsErrOf {T = T} (Err e) stop.ReadFault) (IsThere (told a) name) → Stepped told calm faults a b (Err e) Gives Stops (λ m. IsSome (m name))
  none_read {T} {U} {a} {b} {e} Gives Stops name limit long is large reads = record {
    gives = tt;
    stops = unread Stops name limit long (told a) e is (λ same. large (ap Err same));
    reads = reads_as told calm faults reads (again e stop.ReadFault) (there_and (told a) name);
  }

-- ## Bytes of a file

module _ {F : Type 0} (told : F → Option FileMap) (calm : F → Type 0) (faults : F → ℕ) (name : List ℕ) (limit : ℕ) where
  bytes_told : (o : Option FileMap) (bytes : List ℕ) → IfSome o (λ m. m name ≡ Some bytes) → length bytes ≤ limit → IfSome o (λ m. HasBytes m limit name bytes)
  bytes_told None bytes there within = tt
  bytes_told (Some m) bytes there within = record { named = refl; there = there; within = within }

  pub bytes_step : {a b : F} (r : Result (Vec ℕ Global) NoReport) → IfOk r (λ v. IfSome (told a) (λ m. m name ≡ Some v.items)) → IfOk r (λ v. length v.items ≤ limit) → (IsErrOf r stop.TooLarge → IfSome (told a) (λ m. IsLong (m name) limit)) → IfErr r IsReadStop → ReadsFiles told calm faults a b (IsErrOf r stop.ReadFault) (IsThere (told a) name) → Stepped told calm faults a b r (λ m v. HasBytes m limit name v.items) (λ m. NoBytes m limit name) (λ m. IsSome (m name))
  bytes_step {a} {b} r there within large is reads = record {
    gives = gives_of r there within;
    stops = stops_of r large is;
    reads = reads_as told calm faults reads (λ failed. failed) (there_and (told a) name);
  } where
    gives_of : (x : Result (Vec ℕ Global) NoReport) → IfOk x (λ v. IfSome (told a) (λ m. m name ≡ Some v.items)) → IfOk x (λ v. length v.items ≤ limit) → IfOk x (λ v. IfSome (told a) (λ m. HasBytes m limit name v.items))
    gives_of (Ok v) has few = bytes_told (told a) v.items has few
    gives_of (Err e) has few = tt

    stops_of : (x : Result (Vec ℕ Global) NoReport) → (IsErrOf x stop.TooLarge → IfSome (told a) (λ m. IsLong (m name) limit)) → IfErr x IsReadStop → IfErr x (λ e. IfSome (told a) (λ m. IsStop (NoBytes m limit name) e))
    stops_of (Ok v) long stopped = tt
    stops_of (Err e) long stopped = unread (λ m. NoBytes m limit name) name limit (λ m file at above. long_bytes at above) (told a) e stopped (λ same. long (ap Err same))

-- ## A manifest

manifest_of : (m : FileMap) (name file : List ℕ) (manifest : Manifest) → m name ≡ Some file → length file ≤ manifest_limit → ReadsManifest file manifest → HasManifest m name manifest
manifest_of m name file manifest there within reads = record { source = record { name = name; bytes = file }; read = record { named = refl; there = there; within = within }; reads = reads }

manifest_told : (told : Option FileMap) (name file : List ℕ) (manifest : Manifest) → IfSome told (λ m. m name ≡ Some file) → length file ≤ manifest_limit → ReadsManifest file manifest → IfSome told (λ m. HasManifest m name manifest)
manifest_told None name file manifest there within reads = tt
manifest_told (Some m) name file manifest there within reads = manifest_of m name file manifest there within reads

manifest_stop : (told : Option FileMap) (name file : List ℕ) (e : NoReport) → IfSome told (λ m. m name ≡ Some file) → length file ≤ manifest_limit → IsManifestStop file e → IfSome told (λ m. IsStop (NoManifest m name) e)
manifest_stop None name file e there within is = tt
manifest_stop (Some m) name file stop.BadManifest there within is = bad_manifest {source = record { name = name; bytes = file }} (record { named = refl; there = there; within = within }) is
manifest_stop (Some m) name file stop.BadTrace there within is = absurd is
manifest_stop (Some m) name file stop.CertTooLarge there within is = absurd is
manifest_stop (Some m) name file stop.BadCert there within is = absurd is
manifest_stop (Some m) name file stop.TooLarge there within is = absurd is
manifest_stop (Some m) name file stop.ReadFault there within is = tt
manifest_stop (Some m) name file stop.Memory there within is = tt

never_unread : {T : Type 0} (bytes : List ℕ) (r : Result T NoReport) → IfErr r (IsManifestStop bytes) → IsErrOf r stop.ReadFault → ⊥
never_unread bytes (Ok x) is failed = (let e = failed in cc)
never_unread bytes (Err e) is failed = let same : e ≡ stop.ReadFault = (let f = failed in cc) in subst (IsManifestStop bytes) same is

pub long_manifest_of : (name : List ℕ) (m : FileMap) (file : List ℕ) → m name ≡ Some file → manifest_limit < length file → NoManifest m name status.TooLarge
long_manifest_of name m file there long = long_manifest there long

module _ {F : Type 0} (told : F → Option FileMap) (calm : F → Type 0) (faults : F → ℕ) where
  pub manifest_step : {a b : F} {Failed : Type 0} (name file shown : List ℕ) (r : Result Manifest NoReport) → ReadsFiles told calm faults a b Failed (IsThere (told a) name) → IfSome (told a) (λ m. m name ≡ Some file) → length file ≤ manifest_limit → shown ≡ file → IfOk r (ReadsManifest shown) → IfErr r (IsManifestStop shown) → Stepped told calm faults a b r (λ m x. HasManifest m name x) (λ m. NoManifest m name) (λ m. IsSome (m name))
  manifest_step {a} {b} name file shown r reads there within same ok bad = record {
    gives = gives_of r (subst (λ x. IfOk r (ReadsManifest x)) same ok);
    stops = stops_of r (subst (λ x. IfErr r (IsManifestStop x)) same bad);
    reads = reads_as told calm faults reads (λ failed. absurd (never_unread shown r bad failed)) (there_and (told a) name);
  } where
    gives_of : (x : Result Manifest NoReport) → IfOk x (ReadsManifest file) → IfOk x (λ v. IfSome (told a) (λ m. HasManifest m name v))
    gives_of (Ok v) is = manifest_told (told a) name file v there within is
    gives_of (Err e) is = is

    stops_of : (x : Result Manifest NoReport) → IfErr x (IsManifestStop file) → IfErr x (λ e. IfSome (told a) (λ m. IsStop (NoManifest m name) e))
    stops_of (Ok v) is = is
    stops_of (Err e) is = manifest_stop (told a) name file e there within is

-- bytes that are refused are no manifest
pub no_manifest : (bytes : List ℕ) (e : ShapeFault) → IsManifestFault bytes e → (e ≡ fault.Memory → ⊥) → (m : Manifest) → ReadsManifest bytes m → ⊥
no_manifest bytes fault.NotJson refused kept m reads = refused reads.value reads.json
no_manifest bytes (fault.BadShape item) refused kept m reads =
    let same = one_value bytes reads.value refused.0 reads.json refused.1 in
    refused.2.no_manifest m (subst (λ d. IsManifest d m) same reads.is)
no_manifest bytes (fault.TooMany items) refused kept m reads = refused
no_manifest bytes fault.Memory refused kept m reads = kept refl

-- ## Its files

files_stop : (told : Option FileMap) (names : List (List ℕ)) (e : NoReport) → IsReadStop e → (e ≡ stop.TooLarge → IfSome told (λ m. IsFirstLong m file_limit names)) → IfSome told (λ m. IsStop (NoFiles m names) e)
files_stop None names e is long = tt
files_stop (Some m) names stop.BadManifest is long = absurd is
files_stop (Some m) names stop.BadTrace is long = absurd is
files_stop (Some m) names stop.CertTooLarge is long = absurd is
files_stop (Some m) names stop.BadCert is long = absurd is
files_stop (Some m) names stop.TooLarge is long = long_file (long refl)
files_stop (Some m) names stop.ReadFault is long = tt
files_stop (Some m) names stop.Memory is long = tt

module _ {F : Type 0} (told : F → Option FileMap) (calm : F → Type 0) (faults : F → ℕ) (names : List (List ℕ)) where
  pub files_step : {a b : F} (shown : List (List ℕ)) (r : Result (Vec SourceFile Global) NoReport) → shown ≡ names → IfOk r (λ v. IfSome (told a) (λ m. AreRead m file_limit shown (sources_of v.items))) → (IsErrOf r stop.TooLarge → IfSome (told a) (λ m. IsFirstLong m file_limit shown)) → IfErr r IsReadStop → ReadsFiles told calm faults a b (IsErrOf r stop.ReadFault) (IsSomeAnd (told a) (λ m. ComesThrough m file_limit shown)) → Stepped told calm faults a b r (λ m v. AreRead m file_limit names (sources_of v.items)) (λ m. NoFiles m names) (λ m. ComesThrough m file_limit names)
  files_step {a} {b} shown r same ok large is reads = subst (λ ns. Stepped told calm faults a b r (λ m v. AreRead m file_limit ns (sources_of v.items)) (λ m. NoFiles m ns) (λ m. ComesThrough m file_limit ns)) same (record {
    gives = ok;
    stops = stops_of r large is;
    reads = reads;
  }) where
    stops_of : (x : Result (Vec SourceFile Global) NoReport) → (IsErrOf x stop.TooLarge → IfSome (told a) (λ m. IsFirstLong m file_limit shown)) → IfErr x IsReadStop → IfErr x (λ e. IfSome (told a) (λ m. IsStop (NoFiles m shown) e))
    stops_of (Ok v) large is = tt
    stops_of (Err e) large is = files_stop (told a) shown e is (λ same. large (ap Err same))

-- ## A trace

trace_told : (told : Option FileMap) (names : List (List ℕ)) (name file : List ℕ) (items : List TraceItem) → IfSome told (λ m. m name ≡ Some file) → length file ≤ trace_limit → ReadsTrace file names items → IfSome told (λ m. HasTrace m names name items)
trace_told None names name file items there within reads = tt
trace_told (Some m) names name file items there within reads = record { source = record { name = name; bytes = file }; read = record { named = refl; there = there; within = within }; reads = reads }

trace_stop : (told : Option FileMap) (names : List (List ℕ)) (name file : List ℕ) (e : NoReport) → IfSome told (λ m. m name ≡ Some file) → length file ≤ trace_limit → IsTraceStop file names e → IfSome told (λ m. IsStop (NoTrace m names name) e)
trace_stop None names name file e there within is = tt
trace_stop (Some m) names name file stop.BadManifest there within is = absurd is
trace_stop (Some m) names name file stop.BadTrace there within is = bad_trace {source = record { name = name; bytes = file }} (record { named = refl; there = there; within = within }) is.0 is.1
trace_stop (Some m) names name file stop.CertTooLarge there within is = absurd is
trace_stop (Some m) names name file stop.BadCert there within is = absurd is
trace_stop (Some m) names name file stop.TooLarge there within is = many_items {source = record { name = name; bytes = file }} (record { named = refl; there = there; within = within }) is.2 is.3
trace_stop (Some m) names name file stop.ReadFault there within is = tt
trace_stop (Some m) names name file stop.Memory there within is = tt

never_lost : {T : Type 0} (bytes : List ℕ) (names : List (List ℕ)) (r : Result T NoReport) → IfErr r (IsTraceStop bytes names) → IsErrOf r stop.ReadFault → ⊥
never_lost bytes names (Ok x) is failed = (let e = failed in cc)
never_lost bytes names (Err e) is failed = let same : e ≡ stop.ReadFault = (let f = failed in cc) in subst (IsTraceStop bytes names) same is

pub long_trace_of : (names : List (List ℕ)) (name : List ℕ) (m : FileMap) (file : List ℕ) → m name ≡ Some file → trace_limit < length file → NoTrace m names name status.TooLarge
long_trace_of names name m file there long = long_trace there long

module _ {F : Type 0} (told : F → Option FileMap) (calm : F → Type 0) (faults : F → ℕ) (names : List (List ℕ)) where
  pub trace_step : {a b : F} {Failed : Type 0} (name file shown : List ℕ) (r : Result (Vec TraceItem Global) NoReport) → ReadsFiles told calm faults a b Failed (IsThere (told a) name) → IfSome (told a) (λ m. m name ≡ Some file) → length file ≤ trace_limit → shown ≡ file → IfOk r (λ v. ReadsTrace shown names v.items) → IfErr r (IsTraceStop shown names) → Stepped told calm faults a b r (λ m v. HasTrace m names name v.items) (λ m. NoTrace m names name) (λ m. IsSome (m name))
  trace_step {a} {b} name file shown r reads there within same ok bad = record {
    gives = gives_of r (subst (λ x. IfOk r (λ v. ReadsTrace x names v.items)) same ok);
    stops = stops_of r (subst (λ x. IfErr r (IsTraceStop x names)) same bad);
    reads = reads_as told calm faults reads (λ failed. absurd (never_lost shown names r bad failed)) (there_and (told a) name);
  } where
    gives_of : (x : Result (Vec TraceItem Global) NoReport) → IfOk x (λ v. ReadsTrace file names v.items) → IfOk x (λ v. IfSome (told a) (λ m. HasTrace m names name v.items))
    gives_of (Ok v) is = trace_told (told a) names name file v.items there within is
    gives_of (Err e) is = is

    stops_of : (x : Result (Vec TraceItem Global) NoReport) → IfErr x (IsTraceStop file names) → IfErr x (λ e. IfSome (told a) (λ m. IsStop (NoTrace m names name) e))
    stops_of (Ok v) is = is
    stops_of (Err e) is = trace_stop (told a) names name file e there within is

-- ## What bytes say

pub bad_manifest_bytes : (bytes : List ℕ) (f : ShapeFault) → IsManifestFault bytes f → IsManifestStop bytes (manifest_stop_of f)
bad_manifest_bytes bytes fault.NotJson refused = no_manifest bytes fault.NotJson refused (λ is. cc)
bad_manifest_bytes bytes (fault.BadShape item) refused = no_manifest bytes (fault.BadShape item) refused (λ is. cc)
bad_manifest_bytes bytes (fault.TooMany items) refused = absurd refused
bad_manifest_bytes bytes fault.Memory refused = tt

pub bad_trace_bytes : (bytes : List ℕ) (names : List (List ℕ)) (f : ShapeFault) → IsTraceFault bytes names f → IsTraceStop bytes names (trace_stop_of f)
bad_trace_bytes bytes names fault.NotJson refused = (λ items reads. refused reads.value reads.json, λ value items json many. refused value json)
bad_trace_bytes bytes names (fault.BadShape item) refused = (
  λ items reads. refused.2.no_trace items (subst (λ d. IsTrace names d items) (one_value bytes reads.value refused.0 reads.json refused.1) reads.trace),
  λ value items json many. refused.2.few items (subst (λ d. HasTooMany d items) (one_value bytes value refused.0 json refused.1) many),
)
bad_trace_bytes bytes names (fault.TooMany items) refused = (refused.0, items, refused.1, refused.2)
bad_trace_bytes bytes names fault.Memory refused = tt

-- a slot that has a number is there
slot_within : (names : List (List ℕ)) (key : List ℕ) (d : Data) (to : ℕ) → slot_at key names d ≡ Some to → to < length names
slot_within names key d to is = by (text_at key d) is where
  by : (o : Option (List ℕ)) → option_and_then (λ text. position (λ name. bytes_eq name text) names) o ≡ Some to → to < length names
  by None e = absurd (none_number to e)
  by (Some text) e = (position-Some (λ name. bytes_eq name text) names to [] e).0

-- the items of a trace are for its slots
for_slots : (version : ℕ) (names : List (List ℕ)) (d : Data) (t : TraceItem) → IsItem version names d t → IsFor (length names) (said t)
for_slots version names d (item.Event to event) is = slot_within names (codes "to") d to is.slot
for_slots version names d (item.Advance ms) is = is.short
for_slots version names d (item.Swap to file) is = slot_within names (codes "swap") d to is.1.slot

all_for : (version : ℕ) (names : List (List ℕ)) (ds : List Data) (items : List TraceItem) → Each (IsItem version names) ds items → All (IsFor (length names)) (map said items)
all_for version names ds items none_left = λ k d within. absurd (omega arith)
all_for version names ds items (one_each {x = d} {y = t} {xs = rest} {ys = ts} is others) = all_more (for_slots version names d t is) (all_for version names rest ts others)
  where
    all_more : IsFor (length names) (said t) → All (IsFor (length names)) (map said ts) → All (IsFor (length names)) (said t ∷ map said ts)
    all_more here behind zero e within = here
    all_more here behind (suc k) e within = behind k e (omega (arith, within))

-- a swap has its key, so the swaps are counted
is_counted : (names : List (List ℕ)) (d : Data) (to : ℕ) (file : List ℕ) → IsSwap names d to file → is_swap d ≡ true
is_counted names d to file is = by (get (codes "swap") d) is.slot where
  by : (o : Option Data) → option_and_then (λ text. position (λ name. bytes_eq name text) names) (option_and_then as_str o) ≡ Some to → is_some o ≡ true
  by None e = absurd (none_number to e)
  by (Some value) e = refl

counted_more : (d : Data) (ds : List Data) → count_by is_swap ds ≤ count_by is_swap (d ∷ ds)
counted_more d ds = grind (arith, common_steps)

counted_one : (d : Data) (ds : List Data) → is_swap d ≡ true → 1 + count_by is_swap ds ≤ count_by is_swap (d ∷ ds)
counted_one d ds is = grind (arith, common_steps, is)

few_swaps : (version : ℕ) (names : List (List ℕ)) (ds : List Data) (items : List TraceItem) → Each (IsItem version names) ds items → length (files_swapped (map said items)) ≤ count_by is_swap ds
few_swaps version names ds items none_left = omega arith
few_swaps version names ds items (one_each {x = d} {y = t} {xs = rest} {ys = ts} is others) = one t is (few_swaps version names rest ts others)
  where
    one : (u : TraceItem) → IsItem version names d u → length (files_swapped (map said ts)) ≤ count_by is_swap rest → length (files_swapped (said u ∷ map said ts)) ≤ count_by is_swap (d ∷ rest)
    one (item.Event to event) has few = omega (arith, few, counted_more d rest)
    one (item.Advance ms) has few = omega (arith, few, counted_more d rest)
    one (item.Swap to file) has few = omega (arith, few, counted_one d rest (is_counted names d to (string_bytes file) has.1))

pub items_for : (bytes : List ℕ) (names : List (List ℕ)) (items : List TraceItem) → ReadsTrace bytes names items → AreItems (length names) (map said items)
items_for bytes names items reads = record {
  few = omega (arith, reads.trace.few, each_length (IsItem (judged_version reads.value) names) reads.trace.entries items reads.trace.each, length-map items said);
  each = all_for (judged_version reads.value) names reads.trace.entries items reads.trace.each;
  swaps = omega (arith, few_swaps (judged_version reads.value) names reads.trace.entries items reads.trace.each, reads.trace.swaps);
}

pub ok_for : (bytes : List ℕ) (names : List (List ℕ)) (r : Result (Vec TraceItem Global) NoReport) → IfOk r (λ v. ReadsTrace bytes names v.items) → IfOk r (λ v. AreItems (length names) (map said v.items))
ok_for bytes names (Ok v) is = items_for bytes names v.items is
ok_for bytes names (Err e) is = is

pub none_for : (names : List (List ℕ)) (items : List TraceItem) → items ≡ [] → AreItems (length names) (map said items)
none_for names items is = subst (λ xs. AreItems (length names) (map said xs)) (sym is) (record { few = omega arith; each = λ k d within. absurd (omega arith); swaps = omega arith })

-- where no trace is asked for there are no items
module _ {F : Type 0} (told : F → Option FileMap) (calm : F → Type 0) (faults : F → ℕ) (names : List (List ℕ)) where
  pub no_trace_step : {a : F} (items : Vec TraceItem Global) → items.items ≡ [] → Stepped told calm faults a a (Ok items) (λ m v. HasItems m names None v.items) (λ m. NoItems m names None) (λ m. IsTraceThere m None)
  no_trace_step {a} items is = record {
    gives = none_told (told a);
    stops = tt;
    reads = reads_nothing told calm faults (λ failed. (let e = failed in cc));
  } where
    none_told : (o : Option FileMap) → IfSome o (λ m. items.items ≡ [])
    none_told None = tt
    none_told (Some m) = is

pub many_files : (r : Result (Vec SourceFile Global) NoReport) (shown : List (String Global)) (names : List (List ℕ)) → texts shown ≡ names → IfOk r (λ v. length v.items ≡ length shown) → IfOk r (λ v. length v.items ≡ length names)
many_files (Ok v) shown names same many = many ∙ sym (length-map shown string_bytes) ∙ ap length same
many_files (Err e) shown names same many = many
