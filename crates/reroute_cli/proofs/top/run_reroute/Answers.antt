use Rattle.std.proofs.Common.{◌≡◌, false, sym, ◌∙◌, subst, string_bytes, map, true≢false}
use Rattle.command_words.specs.RerouteLine.{AsksForReroute, RerouteTask, is_reroute, reroute_task_of_words}
use Rattle.reroute_cli.specs.RerouteRun.{IsRerouteRun}
use Rattle.reroute_cli.proofs.WholeRuns.{run-uncalled, run-uncalled_memory, run-unread_words}
use Rattle.reroute_cli.proofs.top.run_reroute.Goals as goal

pub returns-in-Ok : goal.returns-in-Ok
returns-in-Ok g c =
    let told = g.D.Desk.told in
    let words = map string_bytes c.args.words.now.items in
    let asks : AsksForReroute words c.in-Ok.request = rw c.as_slice.ensures.value at c.in-Ok.ensures.asked in
    record {
      no_command = λ none. absurd (true≢false (sym asks.is_command ∙ none));
      command = λ _. subst (λ (q : RerouteTask). IsRerouteRun q (told c.args.desk.now) (told c.rerouting.new.desk) c.rerouting.result) (sym asks.task) c.rerouting.ensures;
    }

pub returns-in-Err-Refused : goal.returns-in-Err-Refused
returns-in-Err-Refused g c =
    let told = g.D.Desk.told in
    let words = map string_bytes c.args.words.now.items in
    let none : is_reroute words ≡ false = rw c.as_slice.ensures.value at (c.in-Err-Refused.ensures.refused c.in-Err-Refused.field-0-is) in
    let said = c.say_usage.ensures in
    record {
      no_command = λ _. run-uncalled (told c.args.desk.now) (told c.say_usage.new.desk) c.say_usage.result said.status said.says;
      command = λ some. absurd (true≢false (sym some ∙ none));
    }

pub returns-in-Err-NoMemory : goal.returns-in-Err-NoMemory
returns-in-Err-NoMemory g c =
    let told = g.D.Desk.told in
    let words = map string_bytes c.args.words.now.items in
    let said = c.refuse.ensures in
    record {
      no_command = λ _. run-uncalled_memory (told c.args.desk.now) (told c.refuse.new.desk) c.refuse.result said.status said.says;
      command = λ _. run-unread_words (reroute_task_of_words words) (told c.args.desk.now) (told c.refuse.new.desk) c.refuse.result said.status said.says;
    }
