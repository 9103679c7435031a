-- What an error of a text of edits says.
use Rattle.std.specs.Prelude.{ℕ, Option, None, Some}
use Rattle.edit_text.specs.declared.edit_text_error.EditTextError.{EditTextError}
use Rattle.edit_text.specs.declared.edit_text_error.EditTextError.TheVariants.{Syntax, NoMemory}

-- the number of its refusal; none for want of memory
abbrev pub edit_error_number : EditTextError → Option ℕ
edit_error_number (Syntax at) = Some 61
edit_error_number NoMemory = None

-- the place that it says; none for want of memory
abbrev pub edit_refused_at : EditTextError → Option ℕ
edit_refused_at (Syntax at) = Some at
edit_refused_at NoMemory = None
