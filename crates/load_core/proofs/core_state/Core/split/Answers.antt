use Rattle.std.proofs.Common.{◌≡◌, ◌<◌, ℕ, List, [], ◌∷◌, ◌++◌, length, get_or, set, subst, sym, ap, ◌∙◌}
use Rattle.std.proofs.lemmas.List.{get_or_append_left, set-append_left}
use Rattle.load_core.specs.declared.core_state.Core.{Core}
use Rattle.load_core.specs.declared.party.Party.{Party}
use Rattle.load_core.specs.Parties.{nobody, kept_after_split, split_off, IsPart}
use Rattle.load_core.proofs.Fitness.{has-place}
use Rattle.load_core.proofs.core_state.Core.split.Goals as goal

-- a party more changes none of the others
still_there : (parties after : List Party) (new p : Party) (i : ℕ) → after ≡ parties ++ new ∷ [] → i < length parties → p ≡ get_or after i nobody → p ≡ get_or parties i nobody
still_there parties after new p i pushed low is = is ∙ ap (λ (ps : List Party). get_or ps i nobody) pushed ∙ get_or_append_left parties (new ∷ []) nobody i low

pub give-requires : goal.give-requires
give-requires c =
    let core = c.args.self.now in
    let low = has-place core c.args.party c.requires.lawful.live in
    let given = c.args.given.now in
    let old = still_there core.parties c.push.new.self c.in_ok-part.part c.at_mut.result.now c.args.party c.in_ok-push.ensures.pushed low (c.at_mut.ensures.item nobody) in
    record {
      part = subst (λ (p : Party). IsPart (length p.shares) p c.args.allot given) (sym old)
          (subst (λ (n : ℕ). IsPart n (get_or core.parties c.args.party nobody) c.args.allot given) (sym (c.requires.fit.wide c.args.party nobody low).shares) c.requires.lawful.part);
    }

pub returns-clause-made : goal.returns-clause-made
returns-clause-made c =
    let core = c.args.self.now in
    let i = c.args.party in
    let parties : List Party = core.parties in
    let low = has-place core i c.requires.lawful.live in
    let new = split_off c.args.allot c.args.given.now in
    let kept = kept_after_split (get_or parties i nobody) c.args.allot c.args.given.now in
    let pushed : c.push.new.self ≡ parties ++ new ∷ [] = c.in_ok-push.ensures.pushed ∙ ap (λ (p : Party). parties ++ p ∷ []) c.in_ok-part.ensures in
    let old = still_there parties c.push.new.self new c.at_mut.result.now i pushed low (c.at_mut.ensures.item nobody) in
    let gave : c.give.new.self ≡ kept = c.give.ensures ∙ ap (λ (p : Party). kept_after_split p c.args.allot c.args.given.now) old in
    let put : List Party → Core = λ ps. record { words = core.words; parties = ps } in
    ap put (ap (λ (ps : List Party). set ps i c.give.new.self) pushed ∙ ap (λ (p : Party). set (parties ++ new ∷ []) i p) gave ∙ set-append_left parties (new ∷ []) i kept low)
