-- What a text of edits is read as.
use Rattle.std.proofs.Common.{◌≡◌, ◌≤◌, ℕ, List, length, Ok, refl, le-ltb}
use Rattle.command_runs.specs.JudgedTexts.{edits_or_refusal, of_edit_error}
use Rattle.command_runs.specs.Steps.{IsRefusedFor}
use Rattle.edit_text.specs.declared.edit.Edit.{Edit}
use Rattle.edit_text.specs.declared.edit_text_error.EditTextError.{EditTextError}
use Rattle.edit_text.specs.declared.edit_text_error.EditTextError.TheVariants as edit_errors
use Rattle.edit_text.specs.EditReads.{RefusesEdits}
use Rattle.edit_text.specs.ReadEdits.{edits_of}
use Rattle.gr_desk.specs.declared.port.Port.TheVariants.{EditsIn}
use Rattle.ispd_reader.specs.Limits.{max_bytes}

-- a text that isn't too long
pub edits-read : (text : List ℕ) (edits : List Edit) → length text ≤ max_bytes → edits_of text ≡ Ok edits → edits_or_refusal text ≡ Ok edits
edits-read text edits short is = rw (le-ltb max_bytes (length text) short, is) refl

pub edits-refused : (text : List ℕ) (e : EditTextError) → length text ≤ max_bytes → RefusesEdits e (edits_of text)
    → IsRefusedFor EditsIn text (of_edit_error e)
edits-refused text (edit_errors.Syntax at) short is = rw (le-ltb max_bytes (length text) short, is) refl
edits-refused text edit_errors.NoMemory short is = tt
