use Rattle.std.proofs.Common.{◌≡◌, arith}
use Rattle.std.proofs.lemmas.Grind.{common_steps, elements}
use Rattle.text_scan.specs.Reading.{next_byte}
use Rattle.text_scan.proofs.Reading.{tokens_past_blanks, no_byte}
use Rattle.text_scan.proofs.scanner.Scanner.peek.Goals as goal

pub returns-clause-none : goal.returns-clause-none
returns-clause-none c =
    let byte : c.copied.result ≡ next_byte c.args.self.now = first_of (grind (arith, common_steps), grind (arith, elements)) in
    rw byte (no_byte c.args.self.now)

pub returns-clause-tokens : goal.returns-clause-tokens
returns-clause-tokens c = rw (← c.self.view_is, c.blanks_end-self-inside.ensures.end) (tokens_past_blanks (record { text = c.self.inside.bytes.now; place = c.self.inside.at }))
