-- How an outcome is left: a text is said, and files are made before that.
use Rattle.std.proofs.Common.{◌≡◌, ◌≢◌, ℕ, List, [], ◌∷◌, take, Contains, Bool, false, refl, sym, ◌∙◌, subst, arith, inl, inr, IsErr, IsOk, Ok, Err}
use Rattle.std.specs.Prelude.{Result}
use Rattle.std.specs.Io.KnownBytes.{Appends}
use Rattle.gr_desk.specs.declared.port.Port.{Port}
use Rattle.gr_desk.specs.declared.port.Port.TheVariants.{Report}
use Rattle.gr_desk.specs.Causes.{Rose}
use Rattle.gr_desk.specs.Told.{Told, PortTold}
use Rattle.grid_base.proofs.Lists.{head_or_rest, Contains-rest}
use Rattle.command_runs.specs.CommandRun.{RunOutcome, AreMade, EndsEarly}
use Rattle.command_runs.specs.Lines.{unwritten_status, unwritten_line}
use Rattle.command_runs.specs.Outputs.{HasFile, HasPart, Makes}
use Rattle.command_runs.specs.Refusals.{AreUnopened}
use Rattle.command_runs.specs.Saying.{Says, Leaves, TriesToSay}
use Rattle.command_runs.specs.Sources.{Source, ports_of, AreOrderlyCreates}
use Rattle.command_runs.specs.Traces.{ReportGains, ReportsUnwritten, TouchesOnly, OutputFailed, but_for_output}
use Rattle.command_runs.proofs.FilePorts.{AreOutputs, made_apart}
use Rattle.command_runs.proofs.MadeFiles.{file-keeps, part-keeps, still_orderly}
use Rattle.command_runs.proofs.Traces.{none_in, touches-more, touches-none}

-- ---- behind a step that left some ports alone

pub gains-since : (a b c : Told) (text : List ℕ) → b.ports Report ≡ a.ports Report → ReportGains b c text → ReportGains a c text
gains-since a b c text same gains = subst (λ (x : PortTold). Appends x.written (c.ports Report).written text) same gains

pub made-since : (made : List Source) (texts : List (List ℕ)) (a b c : Told) → AreUnopened made a b → AreMade made texts b c
    → AreMade made texts a c
made-since [] [] a b c kept files = tt
made-since [] (text ∷ texts) a b c kept files = absurd files
made-since (f ∷ later) [] a b c kept files = absurd files
made-since (f ∷ later) (text ∷ texts) a b c kept files = (
  subst (λ (x : PortTold). HasFile x (c.ports f.port) f.name text) (kept f.port (0, omega arith, refl)) files.0,
  made-since later texts a b c (λ p at. kept p (Contains-rest f.port (ports_of later) p at)) files.1,
)

unwritten-since : (a b c : Told) → b.ports Report ≡ a.ports Report → b.out_faults ≡ a.out_faults → ReportsUnwritten b c
    → ReportsUnwritten a c
unwritten-since a b c same still (since, rose, says) = (
  since,
  subst (λ (n : ℕ). Rose n since) still rose,
  record {
    count = says.count;
    part = gains-since a b c (take says.count unwritten_line) same says.part;
    whole = λ calm. gains-since a b c unwritten_line same (says.whole calm);
  },
)

pub early-since : (made : List Source) (texts : List (List ℕ)) (report : List ℕ) (a b c : Told) → AreUnopened made a b
    → b.ports Report ≡ a.ports Report
    → b.out_faults ≡ a.out_faults → EndsEarly made texts report b c → EndsEarly made texts report a c
early-since [] texts report a b c kept same still early = (early.0, gains-since a b c (take early.0 report) same early.1)
early-since (f ∷ later) [] report a b c kept same still early = absurd early
early-since (f ∷ later) (text ∷ texts) report a b c kept same still (inl first) = inl (
  subst (λ (x : PortTold). HasPart x (c.ports f.port) f.name text) (kept f.port (0, omega arith, refl)) first.0,
  (λ p at. first.1 p at ∙ kept p (Contains-rest f.port (ports_of later) p at)),
  unwritten-since a b c same still first.2,
)
early-since (f ∷ later) (text ∷ texts) report a b c kept same still (inr behind) = inr (
  subst (λ (x : PortTold). HasFile x (c.ports f.port) f.name text) (kept f.port (0, omega arith, refl)) behind.0,
  early-since later texts report a b c (λ p at. kept p (Contains-rest f.port (ports_of later) p at)) same still behind.1,
)

-- files are created in order where they would have been before
pub creates-since : (made : List Source) (a b : Told) → AreUnopened made a b → AreOrderlyCreates a made
    → AreOrderlyCreates b made
creates-since [] a b kept orderly = tt
creates-since (f ∷ later) a b kept orderly = (
  still_orderly a b f.port f.name (kept f.port (0, omega arith, refl)) orderly.0,
  creates-since later a b (λ p at. kept p (Contains-rest f.port (ports_of later) p at)) orderly.1,
)

-- ---- a text alone

pub leaves-text : (text : List ℕ) (objects : Bool) (a c : Told) (status : ℕ) → Says text objects a c status
    → Leaves [] (record { texts = []; report = text; objects = objects }) a c status
leaves-text text objects a c status (inl whole) = record {
  ends = inl (whole.0, tt, whole.1.added, whole.2);
  touches = touches-none a c text whole.1;
  in_order = λ _. whole.1.stray.kept (λ other. absurd (other refl));
  still = whole.1.still;
}
leaves-text text objects a c status (inr cut) = record {
  ends = inr (cut.0, (cut.1.0, cut.1.1.added), cut.2);
  touches = touches-none a c (take cut.1.0 text) cut.1.1;
  in_order = λ _. cut.1.1.stray.kept (λ other. absurd (other refl));
  still = cut.1.1.still;
}

-- ---- a file, and what is left behind it

-- the port keeps what no create and no write changes
port-keeps : {T E : Type 0} (a b : Told) (port : Port) (name text : List ℕ) (r : Result T E) → Makes a b port name text r
    → b.ports port ≡ but_for_output (a.ports port) (b.ports port)
port-keeps a b port name text (Ok v) makes = file-keeps _ _ name text makes.all
port-keeps a b port name text (Err e) makes = part-keeps _ _ name text makes.part

touches-file : {T E : Type 0} (a b c : Told) (port : Port) (name text : List ℕ) (r : Result T E) (ports : List Port)
    → port ≢ Report → ¬ Contains ports port
    → Makes a b port name text r → TouchesOnly [] ports b c → TouchesOnly [] (port ∷ ports) a c
touches-file a b c port name text r ports apart single makes touches =
    let here : c.ports port ≡ b.ports port = touches.others port (none_in port) single apart in
    let kept : c.ports port ≡ but_for_output (a.ports port) (c.ports port) =
    subst (λ (x : PortTold). x ≡ but_for_output (a.ports port) x) (sym here) (port-keeps a b port name text r makes) in
    record {
      files = touches.files ∙ makes.others.files;
      inputs = λ p at. absurd (none_in p at);
      outputs = λ p at. elim (head_or_rest port ports p at) [
        | inl is ↦ subst (λ (x : Port). c.ports x ≡ but_for_output (a.ports x) (c.ports x)) (sym is) kept
        | inr rest ↦ subst (λ (x : PortTold). c.ports p ≡ but_for_output x (c.ports p))
            (makes.others.ports p (λ is. single (subst (λ (x : Port). Contains ports x) is rest))) (touches.outputs p rest)
      ];
      report = subst (λ (x : PortTold). c.ports Report ≡ record x { written = (c.ports Report).written })
          (makes.others.ports Report (λ h. apart (sym h))) touches.report;
      others = λ p unread unmade not_report. touches.others p (none_in p) (λ at. unmade (Contains-rest port ports p at))
          not_report
          ∙ makes.others.ports p (λ is. unmade (0, omega arith, sym is));
      in_count = omega (arith, touches.in_count, makes.still);
      out_count = omega (arith, touches.out_count, makes.cause.later);
    }

-- a file was made, and then the rest was left
pub leaves-file : {T E : Type 0} (f : Source) (later : List Source) (text : List ℕ) (outcome : RunOutcome) (a b c : Told)
    (status : ℕ) (r : Result T E)
    → AreOutputs (f ∷ later) → IsOk r → Makes a b f.port f.name text r → Leaves later outcome b c status
    → Leaves (f ∷ later) (record outcome { texts = text ∷ outcome.texts }) a c status
leaves-file f later text outcome a b c status (Err e) outputs ok makes leaves = cc
leaves-file f later text outcome a b c status (Ok v) outputs ok makes leaves =
    let apart : f.port ≢ Report = made_apart (f ∷ later) f.port outputs (0, omega arith, refl) in
    let kept : AreUnopened later a b =
    λ p at. makes.others.ports p (λ is. outputs.1 (subst (λ (x : Port). Contains (ports_of later) x) is at)) in
    let report : b.ports Report ≡ a.ports Report = makes.others.ports Report (λ h. apart (sym h)) in
    let here : c.ports f.port ≡ b.ports f.port = leaves.touches.others f.port (none_in f.port) outputs.1 apart in
    let file : HasFile (a.ports f.port) (c.ports f.port) f.name text =
    subst (λ (x : PortTold). HasFile (a.ports f.port) x f.name text) (sym here) makes.all in
    record {
      ends = elim leaves.ends [
        | inl whole ↦ inl (
          whole.0,
          (file, made-since later outcome.texts a b c kept whole.1),
          gains-since a b c outcome.report report whole.2,
          whole.3 ∙ makes.cause.quiet,
        )
        | inr cut ↦ inr (
          cut.0,
          inr (file, early-since later outcome.texts outcome.report a b c kept report makes.cause.quiet cut.1),
          subst (λ (n : ℕ). Rose n c.out_faults) makes.cause.quiet cut.2,
        )
      ];
      touches = touches-file a b c f.port f.name text (Ok v) (ports_of later) apart outputs.1 makes leaves.touches;
      in_order = λ orderly. leaves.in_order (creates-since later a b kept orderly.1) ∙ makes.stray.kept orderly.0;
      still = leaves.still ∙ makes.still;
    }

-- a file failed, and the report says so as far as it can
pub leaves-unmade : {T E : Type 0} (f : Source) (later : List Source) (text : List ℕ) (texts : List (List ℕ)) (report : List ℕ)
    (a b c : Told) (status : ℕ) (r : Result T E)
    → AreOutputs (f ∷ later) → IsErr r → Makes a b f.port f.name text r
    → status ≡ unwritten_status → TriesToSay unwritten_line b c
    → Leaves (f ∷ later) (record { texts = text ∷ texts; report = report; objects = false }) a c status
leaves-unmade f later text texts report a b c status (Ok v) outputs failed makes is says = cc
leaves-unmade f later text texts report a b c status (Err e) outputs failed makes is says =
    let part = says.part in
    let apart : f.port ≢ Report = made_apart (f ∷ later) f.port outputs (0, omega arith, refl) in
    let other : (p : Port) → Contains (ports_of later) p → p ≢ Report = λ p at. made_apart later p outputs.2 at in
    let same : b.ports Report ≡ a.ports Report = makes.others.ports Report (λ h. apart (sym h)) in
    let here : c.ports f.port ≡ b.ports f.port = part.others.ports f.port apart in
    let rose : Rose a.out_faults b.out_faults = makes.cause.failed in
    let all : OutputFailed a c = omega (arith, rose, part.later) in
    record {
      ends = inr (
        is,
        inl (
          subst (λ (x : PortTold). HasPart (a.ports f.port) x f.name text) (sym here) makes.part,
          (λ p at. part.others.ports p (other p at)
              ∙ makes.others.ports p (λ h. outputs.1 (subst (λ (x : Port). Contains (ports_of later) x) h at))),
          (
            b.out_faults,
            rose,
            record {
              count = says.count;
              part = gains-since a b c (take says.count unwritten_line) same part.added;
              whole = λ calm. gains-since a b c unwritten_line same (says.whole calm).added;
            },
          ),
        ),
        all,
      );
      touches = touches-file a b c f.port f.name text (Err e) (ports_of later) apart outputs.1 makes
          (touches-more [] (ports_of later) b c (λ p at. none_in p) other (touches-none b c (take says.count unwritten_line) part));
      in_order = λ orderly. part.stray.kept (λ h. absurd (h refl)) ∙ makes.stray.kept orderly.0;
      still = part.still ∙ makes.still;
    }
