use Rattle.std.proofs.Common.{false, refl}
use Rattle.widget_host.specs.declared.host.Host.{Host}
use Rattle.widget_host.proofs.Firsts.{host_loads}
use Rattle.widget_host.proofs.loading.load_host.Goals as goal

pub returns : goal.returns
returns c =
    let l = c.in_ok-lives.field-0 in
    let host : Host = record { lives = l.lives; slots = l.slots; libs = l.libs; keys = c.args.keys; channels = l.channels; given = 0; ends = c.new.result; marked = false } in
    host_loads c.args.spec l c.in_ok-lives.ensures host refl refl refl refl c.new.ensures.items c.requires refl refl
