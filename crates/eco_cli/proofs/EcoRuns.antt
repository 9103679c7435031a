-- How a run of `eco` ends.
use Rattle.std.proofs.Common.{◌≡◌, ℕ, List, [], ◌∷◌, ◌++◌, Ok, Err, refl, sym, ap, ◌∙◌, subst, inl, inr, true}
use Rattle.std.specs.Prelude.{◌⊎◌}
use Rattle.std.proofs.lemmas.Slice.Zip.{AllZip-long}
use Rattle.gr_desk.specs.declared.port.Port.TheVariants.{EditsIn, Report, RoutesOut}
use Rattle.gr_desk.specs.Told.{Told}
use Rattle.edit_text.specs.declared.edit.Edit.{Edit}
use Rattle.grid_base.specs.declared.piece.Piece.{Piece}
use Rattle.grid_graph.specs.declared.design.Design.{Design}
use Rattle.route_judge.specs.declared.reason.Reason.{Reason}
use Rattle.command_runs.specs.declared.refusal.Refusal.{Refusal}
use Rattle.command_runs.specs.declared.refusal.Refusal.TheVariants.{Unread, NoMemory}
use Rattle.command_runs.specs.AnsweredRun.{AnswersRightly}
use Rattle.command_runs.specs.Lines.{lines_of, objected_status, status_of}
use Rattle.command_runs.specs.Refusals.{AreUnopened}
use Rattle.command_runs.specs.Saying.{Leaves, Says, TriesToSay}
use Rattle.command_runs.specs.Steps.{ReadsSources}
use Rattle.route_judge.specs.NetSets.{IsSetOfNet}
use Rattle.command_runs.proofs.Causes.{grounds_reachable}
use Rattle.command_runs.proofs.Endings.{tries-of_said}
use Rattle.command_runs.proofs.EndedRuns.{run-left, run-refused}
use Rattle.command_runs.proofs.FilePorts.{AreInputs, AreOutputs}
use Rattle.command_runs.proofs.ReadFiles.{sources-memory}
use Rattle.command_runs.proofs.StoppedRuns.{stopped-run}
use Rattle.command_runs.proofs.Traces.{none_in, only_of}
use Rattle.judge_cli.specs.AnswerLines.{reason_text}
use Rattle.judge_laws.proofs.SetPieces.{sets_are_pieces}
use Rattle.eco_laws.proofs.EcoChains.{steps_make}
use Rattle.eco_laws.proofs.EditChains.{made_or_refused}
use Rattle.eco_laws.specs.EditChains.{IsFirstRefused}
use Rattle.eco_cli.specs.declared.edited_routes.EditedRoutes.{EditedRoutes}
use Rattle.eco_cli.specs.declared.refused_edit.RefusedEdit.{RefusedEdit}
use Rattle.eco_cli.specs.Editable.{IsEditable}
use Rattle.eco_cli.specs.EcoInputs.{EcoTask, AreReadEdits, AreReadSets, IsNotForObjected, IsReadObjection, TellsRefusedEdit, eco_sources, edits_source, routed_sources}
use Rattle.eco_cli.specs.EcoLines.{eco_outcome, refused_edit_status, refused_edit_text}
use Rattle.eco_cli.specs.EcoRun.{AreEditedFrom, IsEcoAnswer, IsObjectedRun, IsUneditedRun, IsUnstoppedRun, eco_files}
use Rattle.eco_cli.proofs.EcoFiles.{accepted-never, refused-early, told-edited}

pub eco-inputs : (q : EcoTask) → AreInputs (eco_sources q)
eco-inputs q = (refl, (refl, (refl, tt)))

routed-inputs : (q : EcoTask) → AreInputs (routed_sources q)
routed-inputs q = (refl, (refl, tt))

pub eco-outputs : (q : EcoTask) → AreOutputs (eco_files q)
eco-outputs q = (refl, none_in RoutesOut, tt)

-- what is said on the report opens nothing
pub unopened-said : (q : EcoTask) (b c : Told) (text : List ℕ) → TriesToSay text b c → AreUnopened (edits_source q.edits) b c
unopened-said q b c text tries p at =
    let apart : ¬ (p ≡ Report) = λ report. (let clash : EditsIn ≡ Report = sym (only_of p EditsIn at) ∙ report in cc) in
    tries.part.others.ports p apart

-- ---- a run that is stopped

said-objected : (text : List ℕ) (b c : Told) (status : ℕ) → Says text true b c status → status ≡ objected_status
said-objected text b c status (inl whole) = whole.0
said-objected text b c status (inr cut) = cut.0

-- by an objection
pub run-objected : {T : Type 0} {v : T} (q : EcoTask) (a b c : Told) (status : ℕ) (reason : Reason) → IsReadObjection q a reason → ReadsSources (routed_sources q) a b (Ok v)
    → Says (reason_text reason) true b c status → IsObjectedRun q a c status
run-objected q a b c status reason objection reads says = record {
  reason = reason;
  objection = objection;
  status_is = said-objected (reason_text reason) b c status says;
  stopped = stopped-run (routed_sources q) (edits_source q.edits ++ eco_files q) (reason_text reason) a b c (routed-inputs q) reads.reads (reads.quiet (λ h. cc))
      (tries-of_said (reason_text reason) true b c status says);
}

-- by an edit
pub run-unedited : {T : Type 0} {v : T} (q : EcoTask) (a b c : Told) (status : ℕ) (d : Design) (trees : List (List Piece)) (edits : List Edit) (refused : RefusedEdit)
    → AreReadSets q a d trees → AreReadEdits q.edits a edits → IsFirstRefused edits d refused.index refused.fault → ReadsSources (eco_sources q) a b (Ok v)
    → status ≡ refused_edit_status → TriesToSay (refused_edit_text refused) b c → IsUneditedRun q a c status
run-unedited q a b c status d trees edits refused read edits_read first reads is tries = record {
  design = d;
  trees = trees;
  are_read = read;
  edits = edits;
  edits_read = edits_read;
  refused = refused;
  is_refused = first;
  status_is = is;
  stopped = stopped-run (eco_sources q) (eco_files q) (refused_edit_text refused) a b c (eco-inputs q) reads.reads (reads.quiet (λ h. cc)) tries;
}

-- ---- a run that nothing stops

-- where all edits were made, the desk tells none that is refused
made-never : (q : EcoTask) (told : Told) (d : Design) (trees : List (List Piece)) (edits : List Edit) (edited : EditedRoutes) → AreReadSets q told d trees → AreReadEdits q.edits told edits
    → AreEditedFrom edits d trees edited → ¬ TellsRefusedEdit q told
made-never q told d trees edits edited read edits_read from tells =
    let same = told-edited q told d trees edits read edits_read tells in
    made_or_refused edits d tells.design edited.eco.design tells.index tells.fault same.0 (steps_make edits (record { design = d; sets = trees }) edited.eco from.steps)
    (subst (λ (es : List Edit). IsFirstRefused es tells.design tells.index tells.fault) (sym same.1) tells.refused)

-- it leaves the edited routes
pub run-edited : {T : Type 0} {v : T} (q : EcoTask) (a b c : Told) (status : ℕ) (d : Design) (trees : List (List Piece)) (edits : List Edit) (edited : EditedRoutes)
    → AreReadSets q a d trees → AreReadEdits q.edits a edits → AreEditedFrom edits d trees edited → ReadsSources (eco_sources q) a b (Ok v)
    → Leaves (eco_files q) (eco_outcome edited) b c status → IsUnstoppedRun q a c status
run-edited q a b c status d trees edits edited read edits_read from reads leaves = record {
  run = run-left (eco_sources q) (eco_files q) (AnswersRightly eco_outcome (IsEcoAnswer q a)) a b c status (eco_outcome edited) (eco-inputs q) (eco-outputs q) (
    edited,
    record { design = d; trees = trees; are_read = read; edits = edits; edits_read = edits_read; are_edited = from },
    refl,
  )
      reads leaves;
  unobjected = λ tells. absurd (accepted-never q a d trees read tells);
  unrefused = λ tells. absurd (made-never q a d trees edits edited read edits_read from tells);
}

-- or memory was wanting behind the last text
pub run-wanting : {T : Type 0} {v : T} (q : EcoTask) (a b c : Told) (status : ℕ) (d : Design) (trees : List (List Piece)) → AreReadSets q a d trees
    → ReadsSources (eco_sources q) a b (Ok v) → status ≡ status_of NoMemory → TriesToSay (lines_of NoMemory) b c → IsUnstoppedRun q a c status
run-wanting q a b c status d trees read reads is tries = record {
  run = run-refused (eco_sources q) (eco_files q) (AnswersRightly eco_outcome (IsEcoAnswer q a)) a b c status NoMemory (eco-inputs q) (eco-outputs q)
      (sources-memory {sources = eco_sources q} reads) is tries;
  unobjected = λ tells. absurd (accepted-never q a d trees read tells);
  unrefused = λ tells. inr is;
}

-- the status of a refusal that is a failed read or want of memory
early-status : (status : ℕ) (r : Refusal) → status ≡ status_of r → (r ≡ Unread) ⊎ (r ≡ NoMemory) → (status ≡ status_of Unread) ⊎ (status ≡ status_of NoMemory)
early-status status r is (inl unread) = inl (is ∙ ap status_of unread)
early-status status r is (inr memory) = inr (is ∙ ap status_of memory)

-- or a text is refused
pub run-unread : {T : Type 0} (q : EcoTask) (a b c : Told) (status : ℕ) (r : Refusal) → ReadsSources {T = T} (eco_sources q) a b (Err r) → IsNotForObjected q a b r
    → status ≡ status_of r → TriesToSay (lines_of r) b c → IsUnstoppedRun q a c status
run-unread q a b c status r reads early is tries = record {
  run = run-refused (eco_sources q) (eco_files q) (AnswersRightly eco_outcome (IsEcoAnswer q a)) a b c status r (eco-inputs q) (eco-outputs q) reads is tries;
  unobjected = λ tells. (early-status status r is (early tells).0, λ p at. unopened-said q b c (lines_of r) tries p at ∙ (early tells).1 p at);
  unrefused = λ tells. early-status status r is (refused-early q a b r reads tells);
}

-- ---- what was read can be edited

pub editable : (q : EcoTask) (told : Told) (d : Design) (trees : List (List Piece)) → AreReadSets q told d trees → IsEditable d trees
editable q told d trees read = record {
  sets = record {
    one_each = AllZip-long (IsSetOfNet d.grid read.blocks) d.nets trees read.sets;
    pieces = sets_are_pieces d.grid read.blocks d.nets trees read.sets;
  };
  reachable = grounds_reachable d.grid d.nets read.grounds read.are_read.grounds;
}
