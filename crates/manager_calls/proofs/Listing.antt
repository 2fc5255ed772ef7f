-- How many children are listed.
use Rattle.registry.specs.ChildrenLaws.{child_ids-length}

pub ruleset listing = (child_ids-length)
