use Rattle.std.proofs.Common.{◌≡◌, ◌≤◌, ◌++◌, length, length-append, arith}
use Rattle.ispd_reader.specs.Limits.{max_bytes}
use Rattle.ispd_reader.proofs.Fed.{answers_what_was_read}
use Rattle.ispd_reader.proofs.reader.Reader.read.Goals as goal

pub returns-in-None-clause-so_far : goal.returns-in-None-clause-so_far
returns-in-None-clause-so_far c text start so_far =
    let piece = c.args.piece.now in
    let before = rw c.in-None.is at so_far in
    let long : length text ≡ c.args.start = omega (arith, start, before.0) in
    let short : length (text ++ piece) ≤ max_bytes = omega (arith, start, before.0, c.requires, c.if-self-gt-MAX_BYTES.false, length-append text piece) in
    answers_what_was_read c.read.new.self c.read.result (text ++ piece) short (c.read.ensures text long before.1)
