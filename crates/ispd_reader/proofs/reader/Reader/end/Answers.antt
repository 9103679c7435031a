use Rattle.std.proofs.Common.{◌≡◌, length, arith}
use Rattle.ispd_reader.proofs.Fed.{answer_stands, text_design, text_refusal}
use Rattle.ispd_reader.proofs.reader.Reader.end.Goals as goal

pub returns-in-Some-clause-refusal : goal.returns-in-Some-clause-refusal
returns-in-Some-clause-refusal c text read = answer_stands c.in-Some.answer c.args.self.progress text (rw c.in-Some.is at read.so_far)

pub returns-in-None-clause-design : goal.returns-in-None-clause-design
returns-in-None-clause-design c text read =
    let so_far = rw c.in-None.is at read.so_far in
    let long : length text ≡ c.args.self.fed = omega (arith, read.fed, so_far.0) in
    text_design c.end.result text so_far.0 (c.end.ensures.design text long so_far.1)

pub returns-in-None-clause-refusal : goal.returns-in-None-clause-refusal
returns-in-None-clause-refusal c text read =
    let so_far = rw c.in-None.is at read.so_far in
    let long : length text ≡ c.args.self.fed = omega (arith, read.fed, so_far.0) in
    text_refusal c.end.result text so_far.0 (c.end.ensures.refusal text long so_far.1)
