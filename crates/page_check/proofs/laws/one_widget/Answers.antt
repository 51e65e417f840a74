use Rattle.page_check.proofs.OneWidget.{widget_once, never_refused, some_widget}
use Rattle.page_check.proofs.laws.one_widget.Goals as goal

pub returns-clause-widget : goal.returns-clause-widget
returns-clause-widget c = widget_once

pub returns-clause-refused : goal.returns-clause-refused
returns-clause-refused c = never_refused

pub returns-clause-clean : goal.returns-clause-clean
returns-clause-clean c = some_widget
