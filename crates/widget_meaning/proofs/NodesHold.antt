-- Each node has a number of its own, below how many nodes there were.
use Rattle.std.proofs.Common.{length, arith}
use Rattle.std.specs.Prelude.{replicate}
use Rattle.std.proofs.lemmas.List.{length-replicate}
use Rattle.plain_tree.specs.Trees.{size}
use Rattle.widget_meaning.specs.Trees.{Trees, numbered}
use Rattle.widget_meaning.specs.OwnState.{OwnState, nothing_kept}
use Rattle.widget_meaning.specs.Plan.{Job, Eval, Target, Exec, Pass, Call, RunNative, Hear}
use Rattle.widget_meaning.specs.Alone.{beginning, loaded}
use Rattle.widget_meaning.specs.Keeps.{Pages, Invariant, JobOf}
use Rattle.widget_meaning.specs.NodeLaws.{IsPage, NodeLaws}
use Rattle.widget_meaning.proofs.Keeping.{no_links}
use Rattle.widget_meaning.proofs.KeepingRuns.{job_keeps}
use Rattle.widget_meaning.proofs.Rest.{standing, Stands, fine, items_r, loaded_r}
use Rattle.widget_meaning.proofs.Times.{times_numbered, relabelled_once, moved_once, detached_once, grown_once, born_once}

abbrev paging : Pages
paging = record {
  Page = IsPage;
  labelled = λ ts k n l h. relabelled_once ts k n l h;
  put = λ ts k p n next h. moved_once ts k p n next h;
  freed = λ ts k n h. detached_once ts k n h;
  grown = λ ts us k p next h. grown_once ts us k p next h;
  added = λ ts k l h. born_once ts k l h;
}

abbrev paged : Invariant
paged = standing no_links paging

any_job : (j : Job) → JobOf paged 0 j
any_job (Eval e p) = tt
any_job (Target e p) = tt
any_job (Exec i p) = tt
any_job (Pass l p) = tt
any_job (Call f this vs d) = tt
any_job (RunNative f this vs d) = tt
any_job (Hear h) = tt

at_rest : (o : OwnState) → IsPage o.forest (length o.kept) → Stands no_links paging o.heap o.scopes o.forest (length o.kept)
at_rest o h = record { linked = tt; page = h }

first_page : (ts : Trees) → IsPage (numbered 0 ts) (length (replicate (size ts) nothing_kept))
first_page ts = record {
  once = λ n. (times_numbered n 0 ts).once;
  there = λ n h. (times_numbered n 0 ts).past (omega (arith, h, length-replicate (size ts) nothing_kept));
}

pub node_laws : NodeLaws
node_laws = record {
  jobs = λ j s g h. (job_keeps paged 0 j s g (fine no_links paging s (at_rest s.own h)) (any_job j)).page;
  kept = λ o is h. (items_r no_links paging o is (at_rest o h)).page;
  whole = λ w grant is. (items_r no_links paging (loaded w grant) is (loaded_r no_links paging w grant (at_rest (beginning w grant) (first_page w.root)))).page;
}
