use Rattle.std.proofs.Common.{◌≡◌, true, false, sym, ◌∙◌, subst, string_bytes, map, true≢false}
use Rattle.unavoidable_cli.specs.UnavoidableRun.{IsUnavoidableRun}
use Rattle.unavoidable_cli.specs.Words.{UnavoidableTask, are_names, unavoidable_task_of, unavoidable_task_of_words}
use Rattle.unavoidable_cli.proofs.WholeRuns.{run-usage}
use Rattle.unavoidable_cli.proofs.top.run_unavoidable.Goals as goal

pub returns-in-Some : goal.returns-in-Some
returns-in-Some g c =
    let told = g.D.Desk.told in
    let words = map string_bytes c.args.words.now.items in
    let asked = c.in-Some.ensures in
    let is : are_names words ≡ true = rw c.as_slice.ensures.value at asked.0 in
    let task : unavoidable_task_of c.in-Some.names ≡ unavoidable_task_of_words words = rw c.as_slice.ensures.value at asked.1 in
    record {
      no_command = λ none. absurd (true≢false (sym is ∙ none));
      command = λ _. subst (λ (q : UnavoidableTask). IsUnavoidableRun q (told c.args.desk.now) (told c.show.new.desk) c.show.result) task c.show.ensures;
    }

pub returns-in-None : goal.returns-in-None
returns-in-None g c =
    let told = g.D.Desk.told in
    let words = map string_bytes c.args.words.now.items in
    let none : are_names words ≡ false = rw c.as_slice.ensures.value at c.in-None.ensures in
    let said = c.say_usage.ensures in
    record {
      no_command = λ _. run-usage (told c.args.desk.now) (told c.say_usage.new.desk) c.say_usage.result said.status said.says;
      command = λ some. absurd (true≢false (sym some ∙ none));
    }
