-- What bytes of manifests and traces say.
use Rattle.std.proofs.Common.{◌≡◌, ℕ, List, Result, IfOk, IfErr, subst, sym}
use Rattle.host_io.specs.Files.{FileMap}
use Rattle.json_shapes.specs.declared.fault.ShapeFault.{ShapeFault}
use Rattle.json_shapes.specs.declared.fault.ShapeFault.TheVariants as fault
use Rattle.manifest_reader.specs.declared.entry.Manifest.{Manifest}
use Rattle.manifest_reader.specs.Manifest.{IsManifest, ReadsManifest, IsManifestFault}
use Rattle.manifest_reader.proofs.ManifestLemmas.{one_value}
use Rattle.trace_reader.specs.Trace.{IsTrace, HasTooMany, IsTraceFault}
use Rattle.explain_run.specs.declared.ending.Status.{Status}
use Rattle.explain_run.specs.declared.ending.Status.TheVariants as status
use Rattle.explain_run.specs.declared.reading.NotTold.{NotTold}
use Rattle.explain_run.specs.declared.reading.NotTold.TheVariants as stop
use Rattle.explain_run.specs.declared.reading.Why.{Why}
use Rattle.explain_run.specs.declared.reading.Why.TheVariants as why
use Rattle.run_steps.specs.Page.{manifest_limit, trace_limit}
use Rattle.explain_run.specs.Page.{HasBytes}
use Rattle.explain_run.specs.Steps.{status_of, IsBecause, IsMisshapen, IsStopBy, IsNoManifest, IsNoTrace, NoManifest, bad_manifest, NoTrace, many_items, bad_trace}

because : (P : Status → Type 0) (w : Why) (e : NotTold) → P (status_of w) → IsBecause w e → IsStopBy P e
because P w (stop.Bad file v) is same = subst (λ x. P (status_of x)) (sym same) is
because P w stop.Memory is same = tt

no_memory : (P : Status → Type 0) (e : NotTold) → e ≡ stop.Memory → IsStopBy P e
no_memory P e is = subst (IsStopBy P) (sym is) tt

-- bytes that are refused are no manifest
pub no_manifest : (bytes : List ℕ) (f : ShapeFault) (e : NotTold) → IsManifestFault bytes f → IsMisshapen f (why.Manifest f) e → IsStopBy (IsNoManifest bytes) e
no_manifest bytes fault.NotJson e refused is = because (IsNoManifest bytes) (why.Manifest fault.NotJson) e (λ m reads. refused reads.value reads.json) is
no_manifest bytes (fault.BadShape item) e refused is =
    because (IsNoManifest bytes) (why.Manifest (fault.BadShape item)) e
    (λ m reads. refused.2.no_manifest m (subst (λ d. IsManifest d m) (one_value bytes reads.value refused.0 reads.json refused.1) reads.is)) is
no_manifest bytes (fault.TooMany items) e refused is = absurd refused
no_manifest bytes fault.Memory e refused is = no_memory (IsNoManifest bytes) e is

-- nor a trace
pub no_trace : (bytes : List ℕ) (names : List (List ℕ)) (f : ShapeFault) (e : NotTold) → IsTraceFault bytes names f → IsMisshapen f (why.Trace f) e → IsStopBy (IsNoTrace bytes names) e
no_trace bytes names fault.NotJson e refused is =
    because (IsNoTrace bytes names) (why.Trace fault.NotJson) e (λ items reads. refused reads.value reads.json, λ value items json many. refused value json) is
no_trace bytes names (fault.BadShape item) e refused is =
    because (IsNoTrace bytes names) (why.Trace (fault.BadShape item)) e (
      λ items reads. refused.2.no_trace items (subst (λ d. IsTrace names d items) (one_value bytes reads.value refused.0 reads.json refused.1) reads.trace),
      λ value items json many. refused.2.few items (subst (λ d. HasTooMany d items) (one_value bytes value refused.0 json refused.1) many),
    ) is
no_trace bytes names (fault.TooMany items) e refused is = because (IsNoTrace bytes names) (why.Trace (fault.TooMany items)) e (refused.0, items, refused.1, refused.2) is
no_trace bytes names fault.Memory e refused is = no_memory (IsNoTrace bytes names) e is

-- the status of a file that is none
pub manifest_status : (m : FileMap) (name bytes : List ℕ) → HasBytes m manifest_limit name bytes → (s : Status) → IsNoManifest bytes s → NoManifest m name s
manifest_status m name bytes has status.BadManifest is = bad_manifest has is
manifest_status m name bytes has status.Ok is = absurd is
manifest_status m name bytes has status.Refused is = absurd is
manifest_status m name bytes has status.Usage is = absurd is
manifest_status m name bytes has status.BadTrace is = absurd is
manifest_status m name bytes has status.TooLarge is = absurd is
manifest_status m name bytes has status.ReadFault is = absurd is
manifest_status m name bytes has status.WriteFault is = absurd is
manifest_status m name bytes has status.Memory is = absurd is

pub trace_status : (m : FileMap) (names : List (List ℕ)) (name bytes : List ℕ) → HasBytes m trace_limit name bytes → (s : Status) → IsNoTrace bytes names s → NoTrace m names name s
trace_status m names name bytes has status.BadTrace is = bad_trace has is.0 is.1
trace_status m names name bytes has status.TooLarge is = many_items has is.2 is.3
trace_status m names name bytes has status.Ok is = absurd is
trace_status m names name bytes has status.Refused is = absurd is
trace_status m names name bytes has status.Usage is = absurd is
trace_status m names name bytes has status.BadManifest is = absurd is
trace_status m names name bytes has status.ReadFault is = absurd is
trace_status m names name bytes has status.WriteFault is = absurd is
trace_status m names name bytes has status.Memory is = absurd is

-- the same of bytes as they are shown
pub shown_manifest : (shown bytes : List ℕ) → shown ≡ bytes → (r : Result Manifest NotTold) → IfOk r (ReadsManifest shown) → IfOk r (ReadsManifest bytes)
shown_manifest shown bytes same r is = subst (λ b. IfOk r (ReadsManifest b)) same is

pub shown_no_manifest : (shown bytes : List ℕ) → shown ≡ bytes → (r : Result Manifest NotTold) → IfErr r (IsStopBy (IsNoManifest shown)) → IfErr r (IsStopBy (IsNoManifest bytes))
shown_no_manifest shown bytes same r is = subst (λ b. IfErr r (IsStopBy (IsNoManifest b))) same is
