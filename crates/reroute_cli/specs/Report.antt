-- The report of new routes.
use Rattle.std.specs.Prelude.{ℕ, List, [], ◌∷◌, ◌++◌, codes}
use Rattle.cert_text.specs.CertText.{fraction_text, labelled}
use Rattle.command_runs.specs.Lines.{line}
use Rattle.reroute_cli.specs.declared.reroute_report.RerouteReport.{RerouteReport}

-- how many nets there are, and what became of them
abbrev pub counts_text : RerouteReport → List ℕ
counts_text report =
    line (codes "nets") (report.nets ∷ [])
    ++ line (codes "forced") (report.forced ∷ [])
    ++ line (codes "routed") (report.routed ∷ [])
    ++ line (codes "rerouted") (report.rerouted ∷ [])
    ++ line (codes "rounds") (report.rounds ∷ [])

-- these counts, overflow, wirelength and peak of the new routes, and overflow and wirelength of the given ones
abbrev pub reroute_report_text : RerouteReport → List ℕ
reroute_report_text report =
    counts_text report
    ++ line (codes "overflow") (report.measure.overflow ∷ [])
    ++ line (codes "wirelength") (report.measure.wirelength ∷ [])
    ++ labelled (codes "peak") (fraction_text report.measure.peak)
    ++ line (codes "given") (report.given.overflow ∷ report.given.wirelength ∷ [])
