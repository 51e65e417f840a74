use Rattle.store_natives.proofs.InRooms.{every, rooms}
use Rattle.store_natives.proofs.laws.rooms_are_whole.Goals as goal

pub returns-clause-each : goal.returns-clause-each
returns-clause-each c = λ which. rooms which

pub returns-clause-every : goal.returns-clause-every
returns-clause-every c = λ which. every which
