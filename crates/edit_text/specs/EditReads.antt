-- What reading a part of a text of edits answers.
use Rattle.std.specs.Prelude.{ℕ, Result}
use Rattle.text_scan.specs.Parts as parts
use Rattle.text_scan.specs.Reading.{Reading}
use Rattle.edit_text.specs.declared.edit_text_error.EditTextError.{EditTextError}
use Rattle.edit_text.specs.EditFaults.{edit_refused_at}

-- the value of the part and what is left of the text, or the place of the token at which the part can't be read
abbrev pub EditRead : Type 0 → Type 0
EditRead A = parts.Read Reading ℕ A

-- an error is the refusal that reading gives, or want of memory
abbrev pub RefusesEdits : {Y : Type 0} → EditTextError → Result Y ℕ → Type 0
RefusesEdits e read = parts.Refuses edit_refused_at e read

-- what a call answered, seen by view, is what reading a part gives, and this is left of the text then, unless memory ran out
abbrev pub IsEditReadAs : {X Y : Type 0} → (X → Y) → Result X EditTextError → Reading → EditRead Y → Type 0
IsEditReadAs view answer left read = parts.IsReadAs edit_refused_at view answer left read
