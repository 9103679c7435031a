use Rattle.std.proofs.Common.{drop, length, refl, sym, ◌∙◌, arith, length-drop, to_z-of_z}
use Rattle.text_scan.specs.Numbers.{value_of, number_front}
use Rattle.text_scan.proofs.Numbers.{front_read}
use Rattle.text_scan.proofs.Reading.{number_leads}
use Rattle.text_scan.proofs.scanner.Scanner.digits.Goals as goal

pub returns-clause-answer : goal.returns-clause-answer
returns-clause-answer c =
    let text = c.self.inside.bytes.now in
    let rest = drop c.blanks_end-start.result text in
    let front = c.in-Some.ensures.front in
    rw (← c.self.view_is) (rw (← c.blanks_end-start.ensures.end)
    (rw (to_z-of_z c.ranges.lo, to_z-of_z c.ranges.hi) at c.in_range.ensures (value_of (number_front rest)) front.value
    ∙ sym (front_read c.args.lo c.args.hi (length text) c.blanks_end-start.result rest _ (omega (arith, c.blanks_end-start.ensures.within, length-drop c.blanks_end-start.result text)) refl front.number)))

pub returns-clause-passed : goal.returns-clause-passed
returns-clause-passed c =
    let text = c.self.inside.bytes.now in
    let front = c.in-Some.ensures.front in
    rw (← c.self.view_is) (sym (number_leads (record { text = text; place = c.self.inside.at }) c.blanks_end-start.result c.in-Some.front.end
    c.blanks_end-start.ensures.end front.number front.end))
