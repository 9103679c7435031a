use Rattle.std.proofs.Common.{rules, ◌≤◌}
use Rattle.command_runs.proofs.Feeding.{fed-ended, fed-nothing, fed-piece, taken-failed, taken-piece}
use Rattle.command_runs.proofs.design_source.fed_reader.Goals as goal

pub loop-left-init : goal.loop-left-init
loop-left-init g c = fed-nothing (g.D.Desk.told c.args.desk.now) c.in-Ok.reader c.in-Ok.ensures.read

pub returns-in-Err-NoMemory-clause-no_memory : goal.returns-in-Err-NoMemory-clause-no_memory
returns-in-Err-NoMemory-clause-no_memory g c =
    let within : c.in-Ok-read.count ≤ c.loop-left.left = search rules in
    λ _. taken-piece _ _ _ c.loop-left.reader c.loop-left.left c.in-Ok-read.count _ c.loop-left.invariant c.in-Ok-read.ensures.does within

pub loop-left-preserved : goal.loop-left-preserved
loop-left-preserved g c =
    let within : c.in-Ok-read.count ≤ c.loop-left.left = search rules in
    fed-piece _ _ _ c.loop-left.reader c.feed.new.self c.loop-left.left c.in-Ok-read.count c.read.new.buf _ c.loop-left.invariant c.in-Ok-read.ensures.does (search rules) within c.feed.ensures.read

pub returns-in-Err-read-clause-failed : goal.returns-in-Err-read-clause-failed
returns-in-Err-read-clause-failed g c = λ _. taken-failed _ _ _ c.loop-left.reader c.loop-left.left _ _ c.loop-left.invariant c.loop-left-test.true c.in-Err-read.ensures.does

pub returns-then-count-eq0-clause-fed : goal.returns-then-count-eq0-clause-fed
returns-then-count-eq0-clause-fed g c = fed-ended _ _ _ c.loop-left.reader c.loop-left.left c.in-Ok-read.count _ c.loop-left.invariant c.if-count-eq0.true c.in-Ok-read.ensures.does
