use Rattle.std.proofs.Common.{◌≡◌, false, sym, ◌∙◌, subst, string_bytes, map, true≢false}
use Rattle.command_words.specs.MapLine.{MapTask, is_map_command}
use Rattle.congestion_cli.specs.MapRun.{IsMapRun}
use Rattle.congestion_cli.proofs.WholeMaps.{run-map_usage}
use Rattle.congestion_cli.proofs.top.run_map.Goals as goal

pub returns-in-Ok : goal.returns-in-Ok
returns-in-Ok g c =
    let told = g.D.Desk.told in
    let words = map string_bytes c.args.words.now.items in
    let asked = rw c.as_slice.ensures.value at c.in-Ok.ensures.asked in
    record {
      no_command = λ none. absurd (true≢false (sym asked.is_command ∙ none));
      command = λ _. subst (λ (q : MapTask). IsMapRun q (told c.args.desk.now) (told c.show.new.desk) c.show.result) (sym asked.task) c.show.ensures;
    }

pub returns-in-Err : goal.returns-in-Err
returns-in-Err g c =
    let told = g.D.Desk.told in
    let words = map string_bytes c.args.words.now.items in
    let none : is_map_command words ≡ false = rw c.as_slice.ensures.value at c.in-Err.ensures.refused.1 in
    let said = c.say_usage.ensures in
    record {
      no_command = λ _. run-map_usage (told c.args.desk.now) (told c.say_usage.new.desk) c.say_usage.result said.status said.says;
      command = λ some. absurd (true≢false (sym some ∙ none));
    }
