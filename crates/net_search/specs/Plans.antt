-- What searches go by.
use Rattle.grid_base.specs.declared.size.Size.{Size}
use Rattle.net_search.specs.declared.plan.Plan.{Plan}

-- the size of the grid that a plan is for
abbrev pub size_of_plan : Plan → Size
size_of_plan plan = plan.size
