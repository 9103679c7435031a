use Rattle.std.specs.Fmt.{signed_decimal}
use Rattle.text_scan.proofs.Words.{number_is_front, printed_number}
use Rattle.text_scan.proofs.laws.printed_numbers_read_back.Goals as goal

pub returns-clause-number : goal.returns-clause-number
returns-clause-number c = λ z fits. (printed_number z fits).0

pub returns-clause-value : goal.returns-clause-value
returns-clause-value c = λ z fits. (printed_number z fits).1

pub returns-clause-front : goal.returns-clause-front
returns-clause-front c = λ z rest fits ends. number_is_front (signed_decimal z) rest (printed_number z fits).0 ends
