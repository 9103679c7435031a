-- The files that `route` and `make` make.
use Rattle.std.proofs.Common.{◌≡◌, ℕ, List, [], ◌∷◌, refl}
use Rattle.gr_desk.specs.declared.port.Port.TheVariants.{RoutesOut, CertOut, DesignOut}
use Rattle.command_runs.proofs.FilePorts.{AreOutputs}
use Rattle.command_runs.proofs.Traces.{none_in, only_of}
use Rattle.router_cli.specs.MakeRun.{MakeTask, make_files}
use Rattle.router_cli.specs.RouteRun.{route_files}
use Rattle.router_cli.specs.Tasks.{RouteTask}

pub cert-output : (name : List ℕ) → AreOutputs (record { port = CertOut; name = name } ∷ [])
cert-output name = (refl, none_in CertOut, tt)

pub route-outputs : (q : RouteTask) → AreOutputs (route_files q)
route-outputs q = (refl, (λ at. let same : RoutesOut ≡ CertOut = only_of RoutesOut CertOut at in cc), cert-output q.cert)

pub make-outputs : (q : MakeTask) → AreOutputs (make_files q)
make-outputs q = (refl, none_in DesignOut, tt)
