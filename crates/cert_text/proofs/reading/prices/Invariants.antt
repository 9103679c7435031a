use Rattle.std.proofs.Common.{◌≡◌, ◌-◌, ◌≤◌, All, length}
use Rattle.std.specs.Prelude.{ℕ}
use Rattle.text_scan.specs.Parts.{parts_at}
use Rattle.text_scan.proofs.Parts.{with_parts}
use Rattle.cert_text.specs.declared.cert_error.CertError.TheVariants.{PriceLimit}
use Rattle.cert_text.specs.CertTokens.{limited_at}
use Rattle.cert_text.specs.Limits.{max_stated_count, max_stated_price}
use Rattle.cert_text.specs.StatedCerts.{prices_at}
use Rattle.cert_text.proofs.reading.prices.Given as goal

abbrev pub invariant-loop : goal.invariant-loop
invariant-loop l = record {
  read : with_parts l.prices.items (parts_at (λ _. limited_at PriceLimit 0 max_stated_price) l.counter (l.count - l.counter) l.scanner) ≡ prices_at l.fn.scanner;
  few : l.count ≤ max_stated_count;
  long : length l.prices.items ≡ l.counter;
  range : All (λ (x : ℕ). x ≤ max_stated_price) l.prices.items;
}
