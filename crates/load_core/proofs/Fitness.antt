-- Each lawful event keeps a core fit for events, and so does each list of them.
use Rattle.std.proofs.Common.{◌≡◌, ℕ, ◌+◌, ◌-◌, ◌<◌, ◌≤◌, List, [], ◌∷◌, length, set, get_or, true, refl, sym, ap, ◌∙◌, ⊎_elim, arith}
use Rattle.std.proofs.lemmas.Bool.{both_ways, cases_lt}
use Rattle.std.proofs.lemmas.List.{length-set, length-append, length-replicate, get_or_past}
use Rattle.std.proofs.lemmas.List.Elements.{All-set, All-push}
use Rattle.load_core.specs.declared.party.Party.{Party}
use Rattle.load_core.specs.declared.core_state.Core.{Core}
use Rattle.load_core.specs.declared.event.Event.{Event}
use Rattle.load_core.specs.declared.event.Event.TheVariants.{Add, Sub, Load, Split, Join}
use Rattle.load_core.specs.Parties.{share_at, nobody, added, taken, loaded, kept_after_split, split_off, joined, spent}
use Rattle.load_core.specs.Soundness.{HasNothing, HasOnePerWord}
use Rattle.load_core.specs.Events.{IsFit, IsLawful, after, party_at}
use Rattle.load_core.specs.Runs.{AreLawful, after_all}
use Rattle.load_core.proofs.Entries.{length-minus, length-plus, zeros}
use Rattle.load_core.proofs.Soundness.{sound-added, sound-taken, sound-loaded, sound-split, sound-joined}

-- a live party has a place
pub has-place : (core : Core) (i : ℕ) → (party_at core i).live ≡ true → i < length core.parties
has-place core i live = ⊎_elim
    (λ (low : i < length core.parties). low)
    (λ (past : length core.parties ≤ i). absurd (both_ways (party_at core i).live (ap (λ (p : Party). p.live) (get_or_past core.parties i nobody past)) live))
    (cases_lt i (length core.parties))

-- what a joined party leaves behind has nothing
pub spent-has-nothing : (p : Party) → HasNothing (spent p)
spent-has-nothing p = record { allot = refl; shares = zeros (length p.shares) }

pub fit-after : (core : Core) (event : Event) → IsFit core → IsLawful core event → IsFit (after core event)
fit-after core (Add party word amount) fit may =
    let p = party_at core party in
    let low = has-place core party may.live in
    let wide = fit.wide party nobody low in
    let in' : word < length p.shares = omega (arith, may.exists, wide.shares) in
    let all = All-set (HasOnePerWord (length core.words)) core.parties party (added p word amount)
    (record { shares = length-set p.shares word (share_at word p + amount) ∙ wide.shares; last = wide.last }) fit.wide in
    record {
      sound = sound-added core.words core.parties party word amount low may.live may.exists in' may.room fit.sound;
      wide = rw (length-set core.words word (get_or core.words word 0 + amount)) all;
      few = omega (arith, fit.few, length-set core.parties party (added p word amount));
    }
fit-after core (Sub party word amount) fit may =
    let p = party_at core party in
    let low = has-place core party may.live in
    let wide = fit.wide party nobody low in
    let in' : word < length p.shares = omega (arith, may.exists, wide.shares) in
    let all = All-set (HasOnePerWord (length core.words)) core.parties party (taken p word amount)
    (record { shares = length-set p.shares word (share_at word p - amount) ∙ wide.shares; last = wide.last }) fit.wide in
    record {
      sound = sound-taken core.words core.parties party word amount low may.live may.exists in' may.had fit.sound;
      wide = rw (length-set core.words word (get_or core.words word 0 - amount)) all;
      few = omega (arith, fit.few, length-set core.parties party (taken p word amount));
    }
fit-after core (Load party word) fit may =
    let p = party_at core party in
    let low = has-place core party may.live in
    let wide = fit.wide party nobody low in
    let value = get_or core.words word 0 in
    record {
      sound = sound-loaded core.words core.parties party word value low may.live fit.sound;
      wide = All-set (HasOnePerWord (length core.words)) core.parties party (loaded p word value)
          (record { shares = wide.shares; last = length-set p.last word value ∙ wide.last }) fit.wide;
      few = omega (arith, fit.few, length-set core.parties party (loaded p word value));
    }
fit-after core (Split party allot given) fit may =
    let p = party_at core party in
    let low = has-place core party may.live in
    let wide = fit.wide party nobody low in
    let kept = kept_after_split p allot given in
    let new = split_off allot given in
    record {
      sound = sound-split core.words core.parties party allot given low may.live may.part fit.sound;
      wide = All-push (HasOnePerWord (length core.words)) (set core.parties party kept) new
          (All-set (HasOnePerWord (length core.words)) core.parties party kept (record { shares = length-minus p.shares given ∙ wide.shares; last = wide.last }) fit.wide)
          (record { shares = may.part.long; last = length-replicate (length given) 0 ∙ may.part.long });
      few = omega (arith, may.few, length-set core.parties party kept, length-append (set core.parties party kept) (new ∷ []));
    }
fit-after core (Join into from) fit may =
    let p = party_at core into in
    let q = party_at core from in
    let low = has-place core into may.into_live in
    let low' = has-place core from may.from_live in
    let wide = fit.wide into nobody low in
    let wide' = fit.wide from nobody low' in
    let both = joined p q in
    let same : length p.shares ≡ length q.shares = wide.shares ∙ sym wide'.shares in
    record {
      sound = sound-joined core.words core.parties into from (spent q) low low' may.two may.into_live (spent-has-nothing q) fit.sound;
      wide = All-set (HasOnePerWord (length core.words)) (set core.parties into both) from (spent q) (record { shares = length-replicate (length q.shares) 0 ∙ wide'.shares; last = wide'.last })
          (All-set (HasOnePerWord (length core.words)) core.parties into both (record { shares = length-plus p.shares q.shares same ∙ wide.shares; last = wide.last }) fit.wide);
      few = omega (arith, fit.few, length-set core.parties into both, length-set (set core.parties into both) from (spent q));
    }

pub fit-after-all : (events : List Event) (core : Core) → IsFit core → AreLawful core events → IsFit (after_all core events)
fit-after-all [] core fit lawful = fit
fit-after-all (event ∷ events) core fit lawful = fit-after-all events (after core event) (fit-after core event fit lawful.0) lawful.1
