-- Refusals and their statuses.
use Rattle.std.proofs.Common.{◌≡◌, ◌≢◌, Err, Ok, IsErrOf, IsErrAnd}
use Rattle.std.specs.Prelude.{Result}
use Rattle.command_runs.specs.declared.refusal.Refusal.{Refusal}
use Rattle.command_runs.specs.declared.refusal.Refusal.TheVariants.{NoCommand, Input, Unreachable, Text, Unread, NoMemory}
use Rattle.command_runs.specs.Lines.{done_status, objected_status, unwritten_status, status_of}

-- no refusal has the status of a report, whole or not
pub status-no_report : (r : Refusal) → (status_of r ≢ done_status) × (status_of r ≢ unwritten_status)
status-no_report NoCommand = ((λ h. cc), (λ h. cc))
status-no_report (Input fault) = ((λ h. cc), (λ h. cc))
status-no_report (Unreachable net) = ((λ h. cc), (λ h. cc))
status-no_report (Text fault) = ((λ h. cc), (λ h. cc))
status-no_report Unread = ((λ h. cc), (λ h. cc))
status-no_report NoMemory = ((λ h. cc), (λ h. cc))

-- nor that of a reason
pub status-no_objection : (r : Refusal) → status_of r ≢ objected_status
status-no_objection NoCommand h = cc
status-no_objection (Input fault) h = cc
status-no_objection (Text fault) h = cc
status-no_objection (Unreachable net) h = cc
status-no_objection Unread h = cc
status-no_objection NoMemory h = cc

-- an answer that fails with this refusal fails with that one
pub same_refusal : {T : Type 0} (r : Result T Refusal) (e x : Refusal) → IsErrAnd r (λ y. y ≡ e) → IsErrOf r x → e ≡ x
same_refusal (Ok v) e x made is = cc
same_refusal (Err y) e x made is = cc
