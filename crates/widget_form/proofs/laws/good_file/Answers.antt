use Rattle.widget_form.proofs.GoodFiles.{good_file}
use Rattle.widget_form.proofs.laws.good_file.Goals as goal

pub returns : goal.returns
returns c = good_file
