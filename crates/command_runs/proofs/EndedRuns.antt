-- The two ways in which a run of a command ends: with an outcome that was left, or refused.
use Rattle.std.proofs.Common.{◌≡◌, ◌≢◌, ℕ, List, [], ◌∷◌, ◌++◌, take, Some, Ok, Err, Contains, true, false, refl, sym, ◌∙◌, ap, subst, arith, inl, inr}
use Rattle.std.specs.Prelude.{◌⊎◌, Bool}
use Rattle.std.proofs.lemmas.List.Elements.{Contains-append_left, Contains-append_right}
use Rattle.gr_desk.specs.declared.port.Port.{Port}
use Rattle.gr_desk.specs.declared.port.Port.TheVariants.{Report}
use Rattle.gr_desk.specs.declared.state.State.TheVariants.{Fresh}
use Rattle.gr_desk.specs.Causes.{Rose}
use Rattle.gr_desk.specs.Told.{Told, PortTold}
use Rattle.grid_base.proofs.Lists.{Contains-rest}
use Rattle.command_runs.specs.declared.refusal.Refusal.{Refusal}
use Rattle.command_runs.specs.declared.refusal.Refusal.TheVariants.{Unread}
use Rattle.command_runs.specs.CommandRun.{RunOutcome, IsWhole, IsCutShort, ExpectsNames, IsCommandRun}
use Rattle.command_runs.specs.Lines.{done_status, objected_status, unwritten_status, lines_of, status_of}
use Rattle.command_runs.specs.Refusals.{AreUnopened, IsRefused}
use Rattle.command_runs.specs.Saying.{Leaves, TriesToSay, whole_status, cut_status}
use Rattle.command_runs.specs.Sources.{Source, ports_of, AreOrderlyOpens, AreOrderlyCreates}
use Rattle.command_runs.specs.Steps.{OnlyReads, ReadsSources}
use Rattle.command_runs.specs.Traces.{ReportsRefusal, TouchesOnly, but_for_output}
use Rattle.command_runs.proofs.Causes.{accepted-not_due, cause-due, cause-accepted}
use Rattle.command_runs.proofs.FilePorts.{AreInputs, AreOutputs, made_apart, made_not_read, report_not_read}
use Rattle.command_runs.proofs.LeftOutcomes.{creates-since, early-since, gains-since, made-since}
use Rattle.command_runs.proofs.Outcomes.{status-no_report, status-no_objection}
use Rattle.command_runs.proofs.RefusedRuns.{is_refused}
use Rattle.command_runs.proofs.Traces.{none_in, touches-more, touches-read, in_order-after_reads}

-- ---- the files of a command

-- a desk that expects them expects to have them opened
opens_of : (read : List Source) (a : Told) → AreInputs read → ((p : Port) → (a.ports p).state ≡ Some Fresh)
    → ((s : Source) → Contains read s → (a.ports s.port).expected ≡ Some (Some s.name)) → AreOrderlyOpens a read
opens_of [] a inputs fresh names = tt
opens_of (s ∷ later) a inputs fresh names = (
  record { input = inputs.0; fresh = fresh s.port; expected = names s (0, omega arith, refl) },
  opens_of later a inputs.1 fresh (λ t at. names t (Contains-rest s later t at)),
)

-- and created
creates_of : (made : List Source) (a : Told) → AreOutputs made → ((p : Port) → (a.ports p).state ≡ Some Fresh)
    → ((f : Source) → Contains made f → (a.ports f.port).expected ≡ Some (Some f.name)) → AreOrderlyCreates a made
creates_of [] a outputs fresh names = tt
creates_of (f ∷ later) a outputs fresh names = (
  record { output = outputs.0; fresh = fresh f.port; expected = names f (0, omega arith, refl) },
  creates_of later a outputs.2 fresh (λ t at. names t (Contains-rest f later t at)),
)

pub expected_opens : (read made : List Source) (a : Told) → AreInputs read → ExpectsNames (read ++ made) a → AreOrderlyOpens a read
expected_opens read made a inputs expects = opens_of read a inputs expects.fresh
    (λ s at. expects.names s (Contains-append_left read made s at))

expected_creates : (read made : List Source) (a : Told) → AreOutputs made → ExpectsNames (read ++ made) a
    → AreOrderlyCreates a made
expected_creates read made a outputs expects = creates_of made a outputs expects.fresh
    (λ f at. expects.names f (Contains-append_right read made f at))

-- files are read before others are made
touches-then : (read made : List Source) (a b c : Told) → AreInputs read → AreOutputs made → OnlyReads read a b
    → TouchesOnly [] (ports_of made) b c
    → c.in_faults ≡ b.in_faults → TouchesOnly (ports_of read) (ports_of made) a c
touches-then read made a b c inputs outputs reads touches still = record {
  files = touches.files ∙ reads.files;
  inputs = λ p at.
      let same : c.ports p ≡ b.ports p =
      touches.others p (none_in p) (λ in_made. made_not_read read made p inputs outputs in_made at)
      (λ is. report_not_read read inputs (subst (λ (x : Port). Contains (ports_of read) x) is at)) in
      rw same (reads.inputs p at);
  outputs = λ p at. subst (λ (x : PortTold). c.ports p ≡ but_for_output x (c.ports p))
      (reads.others p (made_not_read read made p inputs outputs at)) (touches.outputs p at);
  report = subst (λ (x : PortTold). c.ports Report ≡ record x { written = (c.ports Report).written })
      (reads.others Report (report_not_read read inputs)) touches.report;
  others = λ p unread unmade not_report. touches.others p (none_in p) unmade not_report ∙ reads.others p unread;
  in_count = rw still reads.later;
  out_count = rw reads.still at touches.out_count;
}

-- where no file was made, these might have been
touches-unmade : (read made : List Source) (a c : Told) → AreInputs read → AreOutputs made → TouchesOnly (ports_of read) [] a c
    → TouchesOnly (ports_of read) (ports_of made) a c
touches-unmade read made a c inputs outputs touches =
    touches-more (ports_of read) (ports_of made) a c (λ p at. made_not_read read made p inputs outputs at)
    (λ p at. made_apart made p outputs at) touches

-- ---- the files that an outcome leaves

-- an objection leaves none
abbrev pub left_files : Bool → List Source → List Source
left_files false made = made
left_files true made = []

left_outputs : (objects : Bool) (made : List Source) → AreOutputs made → AreOutputs (left_files objects made)
left_outputs false made outputs = outputs
left_outputs true made outputs = tt

left_creates : (objects : Bool) (read made : List Source) (a : Told) → AreOutputs made → ExpectsNames (read ++ made) a
    → AreOrderlyCreates a (left_files objects made)
left_creates false read made a outputs expects = expected_creates read made a outputs expects
left_creates true read made a outputs expects = tt

left_touches : (objects : Bool) (read made : List Source) (a c : Told) → AreInputs read → AreOutputs made
    → TouchesOnly (ports_of read) (ports_of (left_files objects made)) a c → TouchesOnly (ports_of read) (ports_of made) a c
left_touches false read made a c inputs outputs touches = touches
left_touches true read made a c inputs outputs touches = touches-unmade read made a c inputs outputs touches

-- nor does any outcome of a command that makes none
pub left_none : (objects : Bool) → left_files objects [] ≡ []
left_none false = refl
left_none true = refl

-- ---- by its status

-- whole or cut short, with the status that belongs to it
abbrev EndsWith : List Source → (RunOutcome → Type 0) → Bool → Told → Told → ℕ → Type 0
EndsWith made IsRight objects a c status =
    (status ≡ whole_status objects) × IsWhole (left_files objects made) IsRight objects a c
    ⊎ (status ≡ cut_status objects) × IsCutShort (left_files objects made) IsRight objects a c

if_done : (made : List Source) (IsRight : RunOutcome → Type 0) (objects : Bool) (a c : Told) (status : ℕ)
    → EndsWith made IsRight objects a c status
    → status ≡ done_status → IsWhole made IsRight false a c
if_done made IsRight false a c status (inl (is, whole)) zero = whole
if_done made IsRight false a c status (inr (is, cut)) zero = let clash : done_status ≡ unwritten_status = sym zero ∙ is in cc
if_done made IsRight true a c status (inl (is, whole)) zero = let clash : done_status ≡ objected_status = sym zero ∙ is in cc
if_done made IsRight true a c status (inr (is, cut)) zero = let clash : done_status ≡ objected_status = sym zero ∙ is in cc

if_objected : (made : List Source) (IsRight : RunOutcome → Type 0) (objects : Bool) (a c : Told) (status : ℕ)
    → EndsWith made IsRight objects a c status
    → status ≡ objected_status → IsWhole [] IsRight true a c ⊎ IsCutShort [] IsRight true a c
if_objected made IsRight false a c status (inl (is, whole)) one = let clash : objected_status ≡ done_status = sym one ∙ is in cc
if_objected made IsRight false a c status (inr (is, cut)) one =
    let clash : objected_status ≡ unwritten_status = sym one ∙ is in cc
if_objected made IsRight true a c status (inl (is, whole)) one = inl whole
if_objected made IsRight true a c status (inr (is, cut)) one = inr cut

if_unwritten : (made : List Source) (IsRight : RunOutcome → Type 0) (objects : Bool) (a c : Told) (status : ℕ)
    → EndsWith made IsRight objects a c status
    → status ≡ unwritten_status → IsCutShort made IsRight false a c
if_unwritten made IsRight false a c status (inl (is, whole)) seven =
    let clash : unwritten_status ≡ done_status = sym seven ∙ is in cc
if_unwritten made IsRight false a c status (inr (is, cut)) seven = cut
if_unwritten made IsRight true a c status (inl (is, whole)) seven =
    let clash : unwritten_status ≡ objected_status = sym seven ∙ is in cc
if_unwritten made IsRight true a c status (inr (is, cut)) seven =
    let clash : unwritten_status ≡ objected_status = sym seven ∙ is in cc

-- a file is made only by a run that is done or unwritten
if_neither : (read made : List Source) (IsRight : RunOutcome → Type 0) (objects : Bool) (a c : Told) (status : ℕ)
    → EndsWith made IsRight objects a c status
    → TouchesOnly (ports_of read) (ports_of (left_files objects made)) a c
    → status ≢ done_status → status ≢ unwritten_status → TouchesOnly (ports_of read) [] a c
if_neither read made IsRight false a c status (inl (is, whole)) touches not_zero not_seven = absurd (not_zero is)
if_neither read made IsRight false a c status (inr (is, cut)) touches not_zero not_seven = absurd (not_seven is)
if_neither read made IsRight true a c status ends touches not_zero not_seven = touches

one_of_three : (made : List Source) (IsRight : RunOutcome → Type 0) (objects : Bool) (a c : Told) (status : ℕ)
    → EndsWith made IsRight objects a c status
    → (status ≡ done_status) ⊎ (status ≡ objected_status) ⊎ (status ≡ unwritten_status)
one_of_three made IsRight false a c status (inl (is, whole)) = inl is
one_of_three made IsRight false a c status (inr (is, cut)) = inr (inr is)
one_of_three made IsRight true a c status (inl (is, whole)) = inr (inl is)
one_of_three made IsRight true a c status (inr (is, cut)) = inr (inl is)

-- ---- the two ways

-- a run that left an outcome
pub run-left : {T : Type 0} (read made : List Source) (IsRight : RunOutcome → Type 0) (a b c : Told) (status : ℕ) (outcome : RunOutcome)
    {v : T}
    → AreInputs read
    → AreOutputs made
    → IsRight outcome
    → ReadsSources read a b (Ok v)
    → Leaves (left_files outcome.objects made) outcome b c status
    → IsCommandRun read made IsRight a c status
run-left read made IsRight a b c status outcome inputs outputs right step leaves =
    let reads = step.reads in
    let objects = outcome.objects in
    let files = left_files objects made in
    let written : AreOutputs files = left_outputs objects made outputs in
    let kept : AreUnopened files a b = λ p at. reads.others p (made_not_read read files p inputs written at) in
    let report : b.ports Report ≡ a.ports Report = reads.others Report (report_not_read read inputs) in
    let ends : EndsWith made IsRight objects a c status = elim leaves.ends [
      | inl whole ↦ inl (
        whole.0,
        record {
          outcome = outcome;
          is_right = right;
          objects_is = refl;
          files = made-since files outcome.texts a b c kept whole.1;
          report = gains-since a b c outcome.report report whole.2;
          quiet = whole.3 ∙ reads.still;
        },
      )
      | inr cut ↦ inr (
        cut.0,
        record {
          outcome = outcome;
          is_right = right;
          objects_is = refl;
          early = early-since files outcome.texts outcome.report a b c kept report reads.still cut.1;
          failed = subst (λ (n : ℕ). Rose n c.out_faults) reads.still cut.2;
        },
      )
    ] in
    let statuses = one_of_three made IsRight objects a c status ends in
    let touches : TouchesOnly (ports_of read) (ports_of files) a c =
    touches-then read files a b c inputs written reads leaves.touches leaves.still in
    record {
      done = if_done made IsRight objects a c status ends;
      objected = if_objected made IsRight objects a c status ends;
      cut_short = if_unwritten made IsRight objects a c status ends;
      refused = λ not_zero not_one not_seven. elim statuses [
        | inl zero ↦ absurd {A = IsRefused read a c status} (not_zero zero)
        | inr rest ↦ elim rest [
          | inl one ↦ absurd {A = IsRefused read a c status} (not_one one)
          | inr seven ↦ absurd {A = IsRefused read a c status} (not_seven seven)
        ]
      ];
      tested = λ r due in_ok. inr (absurd (accepted-not_due a.files read r (step.accepted refl) due));
      complete = λ all in_ok out_ok. elim statuses [
        | inl zero ↦ inl zero
        | inr rest ↦ elim rest [
          | inl one ↦ inr (inl one)
          | inr seven ↦ absurd (out_ok (if_unwritten made IsRight objects a c status ends seven).failed)
        ]
      ];
      touches = left_touches objects read made a c inputs outputs touches;
      uncreated = if_neither read made IsRight objects a c status ends touches;
      unread = λ not_six. leaves.still ∙ step.quiet (λ h. cc);
      in_order = λ expects. leaves.in_order (creates-since files a b kept (left_creates objects read made a outputs expects))
          ∙ reads.in_order (expected_opens read made a inputs expects);
    }

-- a run that was refused
pub run-refused : {T : Type 0} (read made : List Source) (IsRight : RunOutcome → Type 0) (a b c : Told) (status : ℕ) (r : Refusal)
    → AreInputs read
    → AreOutputs made
    → ReadsSources {T = T} read a b (Err r)
    → status ≡ status_of r
    → TriesToSay (lines_of r) b c
    → IsCommandRun read made IsRight a c status
run-refused read made IsRight a b c status r inputs outputs step is tries =
    let reads = step.reads in
    let part = tries.part in
    let said = take tries.count (lines_of r) in
    let apart = report_not_read read inputs in
    let refused = is_refused read a b c status r apart (step.refused r refl) reads is tries in
    let touches : TouchesOnly (ports_of read) [] a c = touches-read read a b c said apart reads part in
    record {
      done = λ zero. absurd {A = IsWhole made IsRight false a c} ((status-no_report r).0 (sym is ∙ zero));
      objected = λ one. absurd {A = IsWhole [] IsRight true a c ⊎ IsCutShort [] IsRight true a c}
          (status-no_objection r (sym is ∙ one));
      cut_short = λ seven. absurd {A = IsCutShort made IsRight false a c} ((status-no_report r).1 (sym is ∙ seven));
      refused = λ not_zero not_one not_seven. refused;
      tested = λ x due in_ok. elim (cause-due read a c r x refused.cause due in_ok) [
        | inl same ↦ inl (is ∙ ap status_of same, subst (ReportsRefusal a c) same refused.says)
        | inr memory ↦ inr (is ∙ ap status_of memory)
      ];
      complete = λ all in_ok out_ok. inr (inr (is ∙ ap status_of (cause-accepted read a c r refused.cause all in_ok)));
      touches = touches-unmade read made a c inputs outputs touches;
      uncreated = λ not_zero not_seven. touches;
      unread = λ not_six. part.still ∙ step.quiet (λ six. not_six (is ∙ ap status_of (let same : r ≡ Unread = cc in same)));
      in_order = λ expects. in_order-after_reads read a b c said reads part
          (expected_opens read made a inputs expects);
    }
