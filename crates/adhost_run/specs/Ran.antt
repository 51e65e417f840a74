-- A page that ran.
use Rattle.std.specs.Prelude.{◌≡◌, ℕ, List, [], map}
use Rattle.manifest_reader.specs.declared.entry.Manifest.{Manifest}
use Rattle.trace_reader.specs.Said.{said}
use Rattle.trace_reader.specs.declared.item.TraceItem.{TraceItem}
use Rattle.slot_check.specs.Sources.{Source}
use Rattle.page_plan.specs.declared.PageSpec.{PageSpec}
use Rattle.page_plan.specs.declared.SlotContent.{SlotContent}
use Rattle.page_plan.specs.Pages.{piece_of}
use Rattle.page_check.specs.Runs.{pieces}
use Rattle.page_play.specs.Findings.{AreFindings}
use Rattle.page_play.specs.Played.{IsPlayed}
use Rattle.run_steps.specs.declared.ending.Status.TheVariants as status
use Rattle.run_steps.specs.declared.reading.NoReport.{NoReport}
use Rattle.run_steps.specs.declared.reading.NoReport.TheVariants as stop
use Rattle.run_steps.specs.Page.{parts}
use Rattle.adhost_run.specs.declared.playing.Ran.{Ran}
use Rattle.adhost_run.specs.declared.playing.Writes.{Writes}
use Rattle.adhost_run.specs.Page.{runs_of}
use Rattle.adhost_run.specs.Answer.{PlayAnswer}
use Rattle.adhost_run.specs.Stage.{IsStage}

-- the page of a manifest with its files was judged, and a host has played it on these items, whose swaps have these files
pub record IsRan (manifest : Manifest) (sources : List Source) (items : List TraceItem) (files : List Source) (slice : ℕ) (ran : Ran) : Type 0 where
  pub spec : PageSpec
  pub swaps : List SlotContent
  pub laid : map piece_of spec.pieces.items ≡ pieces (parts manifest)
  pub channels : spec.channels.items ≡ manifest.channels.items
  pub found : AreFindings spec swaps (map said items) (runs_of manifest sources) files ran.findings
  pub played : IsPlayed spec swaps (map said items) ran.host
  pub stage : IsStage (parts manifest) manifest.channels.items (runs_of manifest sources) files (map said items) slice ran.host

-- so some page was
pub record HasRun (ran : Ran) : Type 0 where
  pub manifest : Manifest
  pub sources : List Source
  pub items : List TraceItem
  pub files : List Source
  pub slice : ℕ
  pub is : IsRan manifest sources items files slice ran

-- what is written of a page that ran stops for want of memory, or with the answer that the certificate is too long
abbrev pub IsLateStop : Ran → Writes → NoReport → Type 0
IsLateStop ran what stop.Memory = Unit {0}
IsLateStop ran what stop.CertTooLarge = (manifest : Manifest) (sources : List Source) (items : List TraceItem) (files : List Source) (slice : ℕ) → IsRan manifest sources items files slice ran → PlayAnswer what manifest sources items files status.CertTooLarge []
IsLateStop ran what _ = ⊥
