-- What an error of a route text says.
use Rattle.std.specs.Prelude.{ℕ, Option, None, Some}
use Rattle.route_text.specs.declared.route_error.RouteError.{RouteError}
use Rattle.route_text.specs.declared.route_error.RouteError.TheVariants.{Syntax, NoMemory}

-- the number of its refusal; none for want of memory
abbrev pub route_error_number : RouteError → Option ℕ
route_error_number (Syntax at) = Some 31
route_error_number NoMemory = None

-- the place that it says; none for want of memory
abbrev pub refused_at : RouteError → Option ℕ
refused_at (Syntax at) = Some at
refused_at NoMemory = None
