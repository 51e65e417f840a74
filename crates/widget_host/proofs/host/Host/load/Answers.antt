use Rattle.widget_host.proofs.host.Host.load.Goals as goal

pub load_host-requires : goal.load_host-requires
load_host-requires c = c.requires.loadable.distinct
