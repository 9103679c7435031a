-- One more event after those that were made.
use Rattle.std.proofs.Common.{◌≡◌, ℕ, ◌+◌, ◌<◌, List, [], ◌∷◌, ◌++◌, length, get_or, take, sym, ap, ◌∙◌, subst, arith}
use Rattle.std.proofs.lemmas.List.{take_more}
use Rattle.std.proofs.lemmas.List.Sums.{fold_push}
use Rattle.load_core.specs.declared.core_state.Core.{Core}
use Rattle.load_core.specs.declared.event.Event.{Event}
use Rattle.load_core.specs.Events.{IsLawful, after}
use Rattle.load_core.specs.Runs.{AreLawful, after_all, IsAfter}

lawful-push : (events : List Event) (core : Core) (event : Event) → AreLawful core events → IsLawful (after_all core events) event
    → AreLawful core (events ++ event ∷ [])
lawful-push [] core event lawful last = (last, tt)
lawful-push (first ∷ events) core event lawful last = (lawful.0, lawful-push events (after core first) event lawful.1 last)

pub after-more : (old : Core) (events : List Event) (n : ℕ) (mid new : Core) (event : Event) → IsAfter old events n mid
    → n < length events → get_or events n event ≡ event → IsLawful mid event → new ≡ after mid event → IsAfter old events (n + 1) new
after-more old events n mid new event before low at lawful made =
    let more : take (n + 1) events ≡ take n events ++ event ∷ [] = take_more events n event low ∙ ap (λ (e : Event). take n events ++ e ∷ []) at in
    record {
      long = omega arith;
      lawful = subst (λ (es : List Event). AreLawful old es) (sym more) (lawful-push (take n events) old event before.lawful (subst (λ (c : Core). IsLawful c event) before.core lawful));
      core = made ∙ ap (λ (c : Core). after c event) before.core ∙ sym (fold_push after old (take n events) event) ∙ sym (ap (λ (es : List Event). after_all old es) more);
    }
