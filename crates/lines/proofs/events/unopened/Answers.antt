-- An opening with the empty list.
use Rattle.lines.specs.Along.{unopened_is}
use Rattle.lines.proofs.events.unopened.Goals as goal

pub returns : goal.returns
returns c = unopened_is c.«open».result c.«open».ensures
