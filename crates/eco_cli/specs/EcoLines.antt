-- What `eco` says and writes.
use Rattle.std.specs.Prelude.{ℕ, List, [], ◌∷◌, ◌++◌, codes, Option, None, Some, false}
use Rattle.cert_text.specs.CertText.{labelled, fraction_text}
use Rattle.command_runs.specs.CommandRun.{RunOutcome}
use Rattle.command_runs.specs.Lines.{line}
use Rattle.eco_cli.specs.declared.eco_report.EcoReport.{EcoReport}
use Rattle.eco_cli.specs.declared.edited_routes.EditedRoutes.{EditedRoutes}
use Rattle.eco_cli.specs.declared.refused_edit.RefusedEdit.{RefusedEdit}
use Rattle.eco_route.specs.EditFaults.{edit_fault_field, edit_fault_number}
use Rattle.route_text.specs.RouteText.{routes_text}

-- the lines of an edited design and its routes
abbrev pub eco_report_text : EcoReport → List ℕ
eco_report_text report =
    line (codes "nets") (report.nets ∷ [])
    ++ line (codes "forced") (report.forced ∷ [])
    ++ line (codes "kept") (report.kept ∷ [])
    ++ line (codes "routed") (report.routed ∷ [])
    ++ line (codes "overflow") (report.measure.overflow ∷ [])
    ++ line (codes "wirelength") (report.measure.wirelength ∷ [])
    ++ labelled (codes "peak") (fraction_text report.measure.peak)

-- what a run has to leave: the routes of the edited design, and these lines
abbrev pub eco_outcome : EditedRoutes → RunOutcome
eco_outcome edited = record {
  texts = routes_text edited.eco.design.grid edited.eco.design.nets edited.eco.sets ∷ [];
  report = eco_report_text edited.report;
  objects = false;
}

-- the status of a run that an edit ends
abbrev pub refused_edit_status : ℕ
refused_edit_status = 9

abbrev pub in_list : Option ℕ → List ℕ
in_list None = []
in_list (Some n) = n ∷ []

-- the line of such a run: the number of the fault, which edit has it, counted from 0, and the id, pin or terminal that it names
abbrev pub refused_edit_text : RefusedEdit → List ℕ
refused_edit_text refused =
    line (codes "refused") (refused_edit_status ∷ edit_fault_number refused.fault ∷ refused.index ∷ in_list (edit_fault_field refused.fault))
