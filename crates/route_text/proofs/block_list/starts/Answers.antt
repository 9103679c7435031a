use Rattle.std.proofs.Common.{◌≡◌, suc, ◌-◌, sym, ◌∙◌, ap, arith}
use Rattle.route_text.specs.FlatBlocks.{starts}
use Rattle.route_text.proofs.FlatBlocks.{at_first, starts_behind}
use Rattle.route_text.proofs.block_list.starts.Goals as goal

pub returns-then-number-eq0 : goal.returns-then-number-eq0
returns-then-number-eq0 c = sym (at_first 0 0 c.args.heads.now) ∙ ap (starts 0 0 c.args.heads.now) (sym c.if-number-eq0.true)

pub returns : goal.returns
returns c =
    let number = c.args.number in
    let behind : suc (number - 1) ≡ number = omega (arith, c.if-number-eq0.false) in
    sym (starts_behind 0 0 c.args.heads.now (number - 1) c.head_of-before.result c.head_of-before.ensures) ∙ ap (starts 0 0 c.args.heads.now) behind
