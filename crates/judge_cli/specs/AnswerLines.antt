-- What is said of routes that are judged: its lines, and what a run leaves that says it.
use Rattle.std.specs.Prelude.{ℕ, Bool, true, false, List, [], ◌∷◌, ◌++◌, codes, Option}
use Rattle.cert_text.specs.CertText.{labelled, fraction_text}
use Rattle.route_judge.specs.declared.reason.Reason.{Reason}
use Rattle.route_judge.specs.declared.reason.Reason.TheVariants.{UnknownNet, RepeatedNet, MissingNet, PointOutside, Slanted, OnWall, NotJoined, WrongOverflow, WrongWirelength, WrongPeak, WrongCount, BoundTooHigh}
use Rattle.route_judge.specs.Counted.{counted_word}
use Rattle.route_judge.specs.Reasons.{reason_number}
use Rattle.fractions.specs.declared.fraction.Fraction.{Fraction}
use Rattle.judge_cli.specs.declared.answer.Answer.{Answer}
use Rattle.judge_cli.specs.declared.answer.Answer.TheVariants.{Measured, Yes, No}
use Rattle.judge_cli.specs.declared.routes_report.RoutesReport.{RoutesReport}
use Rattle.command_runs.specs.CommandRun.{RunOutcome}
use Rattle.command_runs.specs.Lines.{fields, line, budget_line}

-- two fractions or none, each behind a space
abbrev pub fraction_fields : Option Fraction → Option Fraction → List ℕ
fraction_fields stated found = codes " " ++ fraction_text stated ++ codes " " ++ fraction_text found

-- what a reason names: blocks, segments and nets by their numbers, and what was stated before what was found
abbrev pub reason_fields : Reason → List ℕ
reason_fields (UnknownNet block) = fields (block ∷ [])
reason_fields (RepeatedNet id) = fields (id ∷ [])
reason_fields (MissingNet id) = fields (id ∷ [])
reason_fields (PointOutside block segment) = fields (block ∷ segment ∷ [])
reason_fields (Slanted block segment) = fields (block ∷ segment ∷ [])
reason_fields (OnWall block segment) = fields (block ∷ segment ∷ [])
reason_fields (NotJoined id) = fields (id ∷ [])
reason_fields (WrongOverflow stated found) = fields (stated ∷ found ∷ [])
reason_fields (WrongWirelength stated found) = fields (stated ∷ found ∷ [])
reason_fields (WrongPeak stated found) = fraction_fields stated found
reason_fields (WrongCount what stated found) = codes " " ++ counted_word what ++ fields (stated ∷ found ∷ [])
reason_fields (BoundTooHigh stated found) = fraction_fields stated found

-- the line of a reason
abbrev pub reason_text : Reason → List ℕ
reason_text reason = codes "no" ++ fields (reason_number reason ∷ []) ++ reason_fields reason ++ codes "\n"

-- the six lines of routes that are accepted
abbrev pub routes_report_text : RoutesReport → List ℕ
routes_report_text report =
    line (codes "nets") (report.nets ∷ [])
    ++ line (codes "forced") (report.forced ∷ [])
    ++ line (codes "beyond") (report.beyond ∷ [])
    ++ line (codes "overflow") (report.measure.overflow ∷ [])
    ++ line (codes "wirelength") (report.measure.wirelength ∷ [])
    ++ labelled (codes "peak") (fraction_text report.measure.peak)

-- what is said
abbrev pub answer_text : Answer → List ℕ
answer_text (Measured report) = routes_report_text report
answer_text (Yes report bound budget) =
    codes "yes\n" ++ routes_report_text report ++ labelled (codes "bound") (fraction_text bound) ++ budget_line budget
answer_text (No reason) = reason_text reason

-- it is a reason against what was judged
abbrev pub is_objection : Answer → Bool
is_objection (Measured report) = false
is_objection (Yes report bound budget) = false
is_objection (No reason) = true

-- what a run has to leave that says it
abbrev pub answer_outcome : Answer → RunOutcome
answer_outcome answer = record { texts = []; report = answer_text answer; objects = is_objection answer }
