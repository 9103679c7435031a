-- What the texts say that are read beside a design: the blocks of a route text, what a certificate's text states, and edits.
use Rattle.std.specs.Prelude.{ℕ, List, length, if◌then◌else◌, nat_lt, Result, Err}
use Rattle.edit_text.specs.declared.edit.Edit.{Edit}
use Rattle.edit_text.specs.declared.edit_text_error.EditTextError.{EditTextError}
use Rattle.edit_text.specs.declared.edit_text_error.EditTextError.TheVariants as edit_errors
use Rattle.edit_text.specs.ReadEdits.{edits_of}
use Rattle.ispd_reader.specs.Limits.{max_bytes}
use Rattle.text_scan.specs.Parts.{refused_as}
use Rattle.cert_text.specs.declared.cert_error.CertError.{CertError}
use Rattle.cert_text.specs.declared.cert_error.CertError.TheVariants as cert_errors
use Rattle.cert_text.specs.declared.stated.Stated.{Stated}
use Rattle.cert_text.specs.StatedCerts.{stated_in}
use Rattle.route_text.specs.declared.block.Block.{Block}
use Rattle.route_text.specs.declared.route_error.RouteError.{RouteError}
use Rattle.route_text.specs.declared.route_error.RouteError.TheVariants as route_errors
use Rattle.route_text.specs.Blocks.{blocks_of}
use Rattle.command_runs.specs.declared.refusal.Refusal.{Refusal}
use Rattle.command_runs.specs.declared.refusal.Refusal.TheVariants.{Text, NoMemory}
use Rattle.command_runs.specs.declared.text_fault.TextFault.TheVariants.{Routes, Certificate, Price, Number, Edits, TooLong}

-- what an error of a route text is
abbrev pub of_route_error : RouteError → Refusal
of_route_error (route_errors.Syntax at) = Text (Routes at)
of_route_error route_errors.NoMemory = NoMemory

-- what an error of a certificate's text is
abbrev pub of_cert_error : CertError → Refusal
of_cert_error (cert_errors.Syntax at) = Text (Certificate at)
of_cert_error (cert_errors.PriceLimit at) = Text (Price at)
of_cert_error (cert_errors.NumberLimit at) = Text (Number at)
of_cert_error cert_errors.NoMemory = NoMemory

-- what an error of a text of edits is
abbrev pub of_edit_error : EditTextError → Refusal
of_edit_error (edit_errors.Syntax at) = Text (Edits at)
of_edit_error edit_errors.NoMemory = NoMemory

-- what is read of a text, where it isn't too long
abbrev pub unless_too_long : {A : Type 0} → List ℕ → Result A Refusal → Result A Refusal
unless_too_long text read = if nat_lt max_bytes (length text) then Err (Text TooLong) else read

-- the blocks of a route text, or its refusal
abbrev pub blocks_or_refusal : List ℕ → Result (List Block) Refusal
blocks_or_refusal text = unless_too_long text (refused_as (λ at. Text (Routes at)) (blocks_of text))

-- what a certificate's text states, or its refusal
abbrev pub stated_or_refusal : List ℕ → Result Stated Refusal
stated_or_refusal text = unless_too_long text (refused_as of_cert_error (stated_in text))

-- the edits of a text, or its refusal
abbrev pub edits_or_refusal : List ℕ → Result (List Edit) Refusal
edits_or_refusal text = unless_too_long text (refused_as (λ at. Text (Edits at)) (edits_of text))
