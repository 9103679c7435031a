use Rattle.command_runs.proofs.ReadFiles.{file-failed, file-refused, file-text, sources-failed}
use Rattle.eco_cli.proofs.EditTexts.{edits-read, edits-refused}
use Rattle.eco_cli.proofs.eco_files.read_edit_list.Goals as goal

pub returns-in_err-bytes-clause-reads : goal.returns-in_err-bytes-clause-reads
returns-in_err-bytes-clause-reads g c =
    sources-failed c.from_residual.result c.in_err-bytes.field-0.0 c.in_err-bytes.was c.from_residual.ensures.1
    (file-failed c.read_source.result c.in_err-bytes.was c.read_source.ensures.reads)

pub returns-in_err-read_edits-clause-reads : goal.returns-in_err-read_edits-clause-reads
returns-in_err-read_edits-clause-reads g c =
    let text = c.in_ok-bytes.bytes.items in
    let read = c.in_ok-bytes.ensures in
    let refusal = rw c.as_slice.ensures.value at c.in_err-read_edits.ensures.refusal in
    file-refused text c.from_residual-in_err-read_edits.result _ read.reads read.bytes c.from_residual-in_err-read_edits.ensures.1
    (edits-refused text c.in_err-read_edits.field-0.0 read.short refusal)

pub returns-clause-reads : goal.returns-clause-reads
returns-clause-reads g c =
    let text = c.in_ok-bytes.bytes.items in
    let edits = c.in_ok-read_edits.field-0.items in
    let read = c.in_ok-bytes.ensures in
    let is = rw c.as_slice.ensures.value at c.in_ok-read_edits.ensures.edits in
    file-text text _ read.reads read.bytes (λ q is. cc) (λ _. (edits, edits-read text edits read.short is))

pub returns-clause-edits : goal.returns-clause-edits
returns-clause-edits g c =
    let text = c.in_ok-bytes.bytes.items in
    let read = c.in_ok-bytes.ensures in
    let is = rw c.as_slice.ensures.value at c.in_ok-read_edits.ensures.edits in
    record { bytes = text; is_so = edits-read text c.in_ok-read_edits.field-0.items read.short is; are_told = read.bytes }
