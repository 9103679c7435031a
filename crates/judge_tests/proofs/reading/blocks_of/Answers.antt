use Rattle.std.proofs.Common.{◌<◌, length, arith}
use Rattle.route_judge.specs.Limits.{number_limit}
use Rattle.route_judge.proofs.ShortTexts.{short_text}
use Rattle.judge_tests.proofs.reading.blocks_of.Goals as goal

pub returns : goal.returns
returns c =
    let read = c.in_ok-blocks in
    let bytes = length c.args.routes.now in
    let short : bytes < number_limit = omega (arith, c.if-routes.false) in
    short_text read.blocks.items bytes read.ensures.range read.ensures.few short
