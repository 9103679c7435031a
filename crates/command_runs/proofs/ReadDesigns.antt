-- Designs that are read piece by piece.
use Rattle.std.proofs.Common.{◌≡◌, ℕ, List, ◌++◌, Some, None, Ok, Err, IsErrAnd, false, refl, sym, ◌∙◌, ap, subst, append-nil}
use Rattle.std.specs.Prelude.{Option, Result, is_err}
use Rattle.std.specs.Io.KnownBytes.{Consumes, IsAtEnd}
use Rattle.gr_desk.specs.declared.port.Port.{Port}
use Rattle.gr_desk.specs.declared.port.Port.TheVariants.{In}
use Rattle.gr_desk.specs.Calls.{Opens}
use Rattle.gr_desk.specs.Runs.{Takes}
use Rattle.gr_desk.specs.Told.{Told, PortTold}
use Rattle.grid_graph.specs.declared.design.Design.{Design}
use Rattle.grid_graph.specs.declared.ground_error.GroundError.{GroundError}
use Rattle.grid_graph.specs.Grounds.{AreGrounds, IsFirstGroundError}
use Rattle.design_tokens.specs.declared.input_error.InputError.{InputError}
use Rattle.design_tokens.specs.declared.input_error.InputError.TheVariants as input_errors
use Rattle.ispd_reader.specs.Designs.{IsDesignOfText, contents_of}
use Rattle.ispd_reader.specs.Parsing.{Refuses, refusal_in}
use Rattle.command_runs.specs.declared.grounded_design.GroundedDesign.{GroundedDesign}
use Rattle.command_runs.specs.declared.refusal.Refusal.{Refusal}
use Rattle.command_runs.specs.Refusals.{IsCauseAt}
use Rattle.command_runs.specs.Sources.{HasBytes, IfTold, design_source}
use Rattle.command_runs.specs.Steps.{IsRefusedFor, ReadsFile, ReadsSources, of_ground_error, of_input_error}
use Rattle.command_runs.proofs.Causes.{cause_at-of_text, design-accepted, design-ungrounded}
use Rattle.command_runs.proofs.Outcomes.{same_refusal}
use Rattle.command_runs.proofs.ReadFiles.{file-refused, file-text, reads-taken}

-- all that was left of known bytes was taken
all_taken : (x rest : Option (List ℕ)) (bytes under : List ℕ) → Consumes x rest bytes → IsAtEnd rest → x ≡ Some under → bytes ≡ under
all_taken None rest bytes under taken at_end known = cc
all_taken (Some all) None bytes under taken at_end known = absurd taken
all_taken (Some all) (Some left) bytes under taken at_end known =
    let same : all ≡ under = cc known in
    sym (sym same ∙ taken ∙ ap (λ l. bytes ++ l) at_end ∙ append-nil bytes)

-- what was taken of a file, up to its end, are the bytes under its name
pub taken-are_told : {T E : Type 0} (a b c : Told) (port : Port) (name bytes : List ℕ) (r : Result T E) → Opens a b port name r → is_err r ≡ false
    → Takes b c port bytes → IsAtEnd (c.ports port).rest → IfTold a.files name (λ told. bytes ≡ told)
taken-are_told a b c port name bytes (Err e) opens done taken at_end under told = cc
taken-are_told a b c port name bytes (Ok v) opens done taken at_end under told =
    all_taken (b.ports port).rest (c.ports port).rest bytes under taken.taken at_end (ap (λ (x : PortTold). x.rest) opens.ok ∙ told)

-- ---- a design that was read, and its grounds

-- one whose nets have grounds is accepted
pub design-grounded : {name : List ℕ} {a b : Told} {d : Design} (g : GroundedDesign) → ReadsFile (record { port = In; name = name }) a b (Ok d)
    → HasBytes a.files name (λ bytes. IsDesignOfText bytes d) → g.design ≡ d → AreGrounds g.design.grid g.design.nets g.grounds.items
    → ReadsSources (design_source name) a b (Ok g)
design-grounded g read named same grounds =
    file-text named.bytes (Ok g) read named.are_told (λ q wrong. cc)
    (λ ok. design-accepted named.bytes g.design g.grounds.items (subst (IsDesignOfText named.bytes) (sym same) named.is_so) grounds)

-- and one of which a net has none is refused
pub design-cut_off : {T : Type 0} {name : List ℕ} {a b : Told} {d : Design} (x : Result T Refusal) (e : GroundError)
    → ReadsFile (record { port = In; name = name }) a b (Ok d) → HasBytes a.files name (λ bytes. IsDesignOfText bytes d)
    → IsFirstGroundError d.grid d.nets e → IsErrAnd x (λ y. y ≡ of_ground_error e) → ReadsSources (design_source name) a b x
design-cut_off {d = d} x e read named cause answered =
    file-refused named.bytes x (of_ground_error e) read named.are_told answered (design-ungrounded named.bytes d e named.is_so cause)

-- ---- a text that was fed to a reader

-- what its end answers
text-refused : (text : List ℕ) (e : InputError) → Refuses refusal_in e (contents_of text) → IsRefusedFor In text (of_input_error e)
text-refused text (input_errors.Input fault) refuses = refuses
text-refused text input_errors.NoMemory refuses = tt

-- a file whose text is refused at its end
pub file-ended : {T E U : Type 0} (a b c : Told) (name bytes : List ℕ) (r : Result T E) (x : Result U Refusal) (e : InputError) → Opens a b In name r → is_err r ≡ false
    → Takes b c In bytes → IsAtEnd (c.ports In).rest → c.in_faults ≡ b.in_faults → Refuses refusal_in e (contents_of bytes)
    → IsErrAnd x (λ y. y ≡ of_input_error e) → ReadsFile (record { port = In; name = name }) a c x
file-ended a b c name bytes (Err y) x e opens done taken at_end calm refuses answered = cc
file-ended a b c name bytes (Ok v) x e opens done taken at_end calm refuses answered =
    let cause : IsCauseAt (record { port = In; name = name }) a c (of_input_error e) =
    cause_at-of_text (record { port = In; name = name }) bytes a c (of_input_error e)
    (taken-are_told a b c In name bytes (Ok v) opens refl taken at_end) (text-refused bytes e refuses) in
    record {
      refused = λ q is. subst (IsCauseAt (record { port = In; name = name }) a c) (same_refusal x (of_input_error e) q answered is) cause;
      reads = reads-taken a b c In name bytes (Ok v) opens refl taken;
      quiet = λ _. calm ∙ opens.cause.quiet;
    }
