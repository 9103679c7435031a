-- What reading a part of a route text answers.
use Rattle.std.specs.Prelude.{ℕ, Result}
use Rattle.text_scan.specs.Parts as parts
use Rattle.text_scan.specs.Reading.{Reading}
use Rattle.route_text.specs.declared.route_error.RouteError.{RouteError}
use Rattle.route_text.specs.Faults.{refused_at}

-- the value of the part and what is left of the text, or the place at which the part can't be read
abbrev pub RouteRead : Type 0 → Type 0
RouteRead A = parts.Read Reading ℕ A

-- an error is the refusal that reading gives, or want of memory
abbrev pub RefusesRoute : {Y : Type 0} → RouteError → Result Y ℕ → Type 0
RefusesRoute e read = parts.Refuses refused_at e read

-- what a call answered, seen by view, is what reading a part gives, and this is left of the text then, unless memory ran out
abbrev pub IsRouteReadAs : {X Y : Type 0} → (X → Y) → Result X RouteError → Reading → RouteRead Y → Type 0
IsRouteReadAs view answer left read = parts.IsReadAs refused_at view answer left read
