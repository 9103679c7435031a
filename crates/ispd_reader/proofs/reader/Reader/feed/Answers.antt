use Rattle.std.proofs.Common.{◌++◌, length-append, arith}
use Rattle.ispd_reader.proofs.Fed.{answer_refuses, answer_tells_length, answer_settles}
use Rattle.ispd_reader.proofs.reader.Reader.feed.Goals as goal

pub returns-clause-read : goal.returns-clause-read
returns-clause-read c text read = record {
  fed = omega (arith, read.fed, c.saturating_add-self.ensures, c.read-answer.ensures.fed, length-append text c.args.piece.now);
  so_far = rw c.err-self.ensures.value (c.read-answer.ensures.so_far text read.fed read.so_far);
}

pub returns-clause-refused : goal.returns-clause-refused
returns-clause-refused c text read =
    answer_refuses c.read-answer.result c.read-answer.new.self.progress (text ++ c.args.piece.now) (c.read-answer.ensures.so_far text read.fed read.so_far)

pub returns-clause-too_long : goal.returns-clause-too_long
returns-clause-too_long c text read memory =
    answer_tells_length c.read-answer.result c.read-answer.new.self.progress (text ++ c.args.piece.now) (c.read-answer.ensures.so_far text read.fed read.so_far) memory

pub returns-clause-settled : goal.returns-clause-settled
returns-clause-settled c text fault read short ends refuses =
    answer_settles c.read-answer.result c.read-answer.new.self.progress (text ++ c.args.piece.now) fault (c.read-answer.ensures.so_far text read.fed read.so_far) short ends refuses
