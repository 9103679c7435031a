-- How a run stops behind the files that it read.
use Rattle.std.proofs.Common.{◌≡◌, ℕ, List, ◌++◌, take, ◌∙◌}
use Rattle.gr_desk.specs.Told.{Told}
use Rattle.command_runs.specs.Saying.{TriesToSay}
use Rattle.command_runs.specs.Sources.{Source}
use Rattle.command_runs.specs.Steps.{OnlyReads}
use Rattle.command_runs.specs.StoppedRuns.{IsStoppedRun}
use Rattle.command_runs.proofs.EndedRuns.{expected_opens}
use Rattle.command_runs.proofs.FilePorts.{AreInputs, report_not_read}
use Rattle.command_runs.proofs.Traces.{gains-after_reads, failed-after_reads, touches-read, in_order-after_reads}

-- the files were read, and then the text was said
pub stopped-run : (read others : List Source) (text : List ℕ) (a b c : Told) → AreInputs read → OnlyReads read a b → b.in_faults ≡ a.in_faults
    → TriesToSay text b c → IsStoppedRun read (read ++ others) text a c
stopped-run read others text a b c inputs reads quiet tries =
    let apart = report_not_read read inputs in
    let said = take tries.count text in
    record {
      says = record {
        count = tries.count;
        part = gains-after_reads read a b c said apart reads tries.part;
        whole = λ ok. gains-after_reads read a b c text apart reads (tries.whole (λ failed. ok (failed-after_reads read a b c reads failed)));
      };
      touches = touches-read read a b c said apart reads tries.part;
      unread = tries.part.still ∙ quiet;
      in_order = λ expects. in_order-after_reads read a b c said reads tries.part (expected_opens read others a inputs expects);
    }
