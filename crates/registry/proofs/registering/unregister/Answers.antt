-- `registry::registering::unregister` meets its contract: the columns one after the other, then the links. The calls are written by their
-- places: congruence closure over the five memories takes three seconds.
use Rattle.registry.specs.Registering.{unregistered}
use Rattle.registry.proofs.registering.unregister.Goals as goal

pub returns : goal.returns
unfolding unregistered
returns c =
    rw (
      c.mend_links.ensures,
      c.shift_down-4.ensures,
      c.shift_down-3.ensures,
      c.shift_down-2.ensures,
      c.shift_down.ensures,
    )
