use Rattle.std.proofs.Common.{ℕ, refl, sym, ap, true≢false}
use Rattle.text_scan.proofs.Reading.{IsNextRun, no_token_in_run, token_in_run, run_leads}
use Rattle.text_scan.proofs.scanner.Scanner.token.Goals as goal
use Rattle.text_scan.proofs.scanner.Scanner.token.Goals.{then-start-end, else-start-end}

run : (c : goal.Joined-start-end) → IsNextRun (record { text = c.self.inside.bytes.now; place = c.self.inside.at }) c.blanks_end-start.result c.token_end-end.result
run c = record {
  starts = c.blanks_end-start.ensures.end;
  ends = c.token_end-end.ensures.end;
  in_text = c.blanks_end-start.ensures.within;
}

pub returns-clause-none : goal.returns-clause-none
returns-clause-none c = rw (← c.self.view_is) (elim c.if-start-end.branch [
  | then-start-end w ↦ rw w.result-is (λ _. no_token_in_run (run c) w.if-start-end.true, λ _. refl)
  | else-start-end w ↦ rw w.result-is (λ none. absurd (true≢false none), λ none. absurd (cc (none, token_in_run (run c) w.if-start-end.false)))
])

pub returns-clause-token : goal.returns-clause-token
returns-clause-token c = rw (← c.self.view_is) (elim c.if-start-end.branch [
  | then-start-end w ↦ rw w.result-is tt
  | else-start-end w ↦ rw w.result-is (token_in_run (run c) w.if-start-end.false)
])

pub returns-clause-passed : goal.returns-clause-passed
returns-clause-passed c = rw (← c.self.view_is) (ap (λ (place : ℕ). record { text = c.self.inside.bytes.now; place = place }) (sym (run_leads (run c) c.token_end-end.ensures.within)))
