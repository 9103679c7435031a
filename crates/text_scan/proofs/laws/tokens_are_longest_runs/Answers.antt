use Rattle.std.proofs.Common.{◌+◌, ◌++◌, length, ◌∙◌}
use Rattle.text_scan.proofs.Reading.{tokens_past_token}
use Rattle.text_scan.proofs.Tokens.{tokens_stand_within}
use Rattle.text_scan.proofs.Words.{no_token_in_gap, tokens_after_gap, word_is_token}
use Rattle.text_scan.proofs.laws.tokens_are_longest_runs.Goals as goal

pub returns-clause-gap : goal.returns-clause-gap
returns-clause-gap c = λ place gap blank. no_token_in_gap place gap blank

pub returns-clause-run : goal.returns-clause-run
returns-clause-run c = λ place gap run rest blank word ends.
    tokens_after_gap place gap (run ++ rest) blank ∙ word_is_token (place + length gap) run rest word ends

pub returns-clause-within : goal.returns-clause-within
returns-clause-within c = λ place bytes. tokens_stand_within place bytes

pub returns-clause-behind : goal.returns-clause-behind
returns-clause-behind c = tokens_past_token
