use Rattle.std.proofs.Common.{List, map, sym, subst}
use Rattle.std.proofs.lemmas.List.{take-map}
use Rattle.serde_json.specs.Data.{Data}
use Rattle.serde_json.specs.View.{view}
use Rattle.manifest_reader.specs.Html.{html_text, IsLongestHtml}
use Rattle.manifest_reader.proofs.ManifestLemmas.{lowered}
use Rattle.manifest_reader.proofs.manifest.bad_item.Goals as goal

pub returns : goal.returns
returns c =
    let page = c.in-Some.page.now in
    let item = c.args.item in
    lowered (view c.args.value.now) (map view page) item c.in_ok-good.good (sym c.in-Some.ensures) c.requires
    (subst (λ (ds : List Data). IsLongestHtml (map html_text ds) c.in_ok-good.good) (sym (take-map view item page)) c.in_ok-good.ensures)
