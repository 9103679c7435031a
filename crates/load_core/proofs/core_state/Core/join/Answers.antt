use Rattle.std.proofs.Common.{◌≡◌, List, length, get_or, set, refl, sym, ap, ◌∙◌, arith}
use Rattle.std.proofs.lemmas.List.{get_or-set_other}
use Rattle.std.proofs.lemmas.Result.{on_ok_weaker, on_err_weaker}
use Rattle.load_core.specs.declared.core_state.Core.{Core}
use Rattle.load_core.specs.declared.party.Party.{Party}
use Rattle.load_core.specs.Parties.{nobody, joined, share_at, spent}
use Rattle.load_core.proofs.Fitness.{has-place}
use Rattle.load_core.proofs.Joining.{joined-put, put-back}
use Rattle.load_core.proofs.Soundness.{two-le, word-le}
use Rattle.load_core.proofs.core_state.Core.join.Goals as goal

pub join-joined-requires-clause-long : goal.join-joined-requires-clause-long
join-joined-requires-clause-long c =
    let core = c.args.self.now in
    let into = c.requires.fit.wide c.args.into nobody (has-place core c.args.into c.requires.lawful.into_live) in
    let from = c.requires.fit.wide c.args.from nobody (has-place core c.args.from c.requires.lawful.from_live) in
    let old : c.at_mut-2.result.now ≡ get_or core.parties c.args.into nobody =
    c.at_mut-2.ensures.item nobody ∙ get_or-set_other core.parties c.args.from c.args.into c.replace-gone.new.dest nobody c.requires.lawful.two in
    ap (λ (p : Party). length p.shares) (c.replace-gone.ensures.value ∙ c.at_mut.ensures.item nobody) ∙ from.shares ∙ sym into.shares
    ∙ sym (ap (λ (p : Party). length p.shares) old)

pub join-joined-requires-clause-allots : goal.join-joined-requires-clause-allots
join-joined-requires-clause-allots c =
    let core = c.args.self.now in
    let low = has-place core c.args.into c.requires.lawful.into_live in
    let low' = has-place core c.args.from c.requires.lawful.from_live in
    let put : c.replace-gone.new.dest ≡ nobody = c.replace-gone.ensures.after ∙ c.nobody-nobody.ensures in
    let into : c.at_mut-2.result.now ≡ get_or (set core.parties c.args.from nobody) c.args.into nobody =
    c.at_mut-2.ensures.item nobody ∙ ap (λ (p : Party). get_or (set core.parties c.args.from p) c.args.into nobody) put in
    let from : c.replace-gone.result ≡ get_or core.parties c.args.from nobody = c.replace-gone.ensures.value ∙ c.at_mut.ensures.item nobody in
    omega (arith, ap (λ (p : Party). p.allot) into, ap (λ (p : Party). p.allot) from, two-le (λ (p : Party). p.allot) core.parties c.args.into c.args.from refl low low', c.requires.fit.sound.whole)

pub join-joined-requires-clause-shares : goal.join-joined-requires-clause-shares
join-joined-requires-clause-shares c = λ k.
    let core = c.args.self.now in
    let low = has-place core c.args.into c.requires.lawful.into_live in
    let low' = has-place core c.args.from c.requires.lawful.from_live in
    let put : c.replace-gone.new.dest ≡ nobody = c.replace-gone.ensures.after ∙ c.nobody-nobody.ensures in
    let into : c.at_mut-2.result.now ≡ get_or (set core.parties c.args.from nobody) c.args.into nobody =
    c.at_mut-2.ensures.item nobody ∙ ap (λ (p : Party). get_or (set core.parties c.args.from p) c.args.into nobody) put in
    let from : c.replace-gone.result ≡ get_or core.parties c.args.from nobody = c.replace-gone.ensures.value ∙ c.at_mut.ensures.item nobody in
    omega (arith, ap (share_at k) into, ap (share_at k) from, two-le (share_at k) core.parties c.args.into c.args.from refl low low', c.requires.fit.sound.sums k, word-le core.words core.parties k c.requires.fit.sound)

pub returns-clause-made : goal.returns-clause-made
returns-clause-made c =
    let core = c.args.self.now in
    let from : c.replace-gone.result ≡ get_or core.parties c.args.from nobody = c.replace-gone.ensures.value ∙ c.at_mut.ensures.item nobody in
    let put : List Party → Core = λ ps. record { words = core.words; parties = ps } in
    on_ok_weaker c.join-joined.result
    (λ (made : (c.join-joined.new.self ≡ joined c.at_mut-2.result.now c.replace-gone.result) × (c.join-joined.new.other ≡ spent c.replace-gone.result)).
    ap put (joined-put core.parties c.args.into c.args.from c.replace-gone.new.dest c.at_mut-2.result.now c.replace-gone.result c.join-joined.new.self c.join-joined.new.other c.requires.lawful.two (c.at_mut-2.ensures.item nobody) from made.0 made.1))
    c.join-joined.ensures.joined

pub returns-clause-no_memory : goal.returns-clause-no_memory
returns-clause-no_memory c =
    let core = c.args.self.now in
    let from : c.replace-gone.result ≡ get_or core.parties c.args.from nobody = c.replace-gone.ensures.value ∙ c.at_mut.ensures.item nobody in
    let put : List Party → Core = λ ps. record { words = core.words; parties = ps } in
    on_err_weaker c.join-joined.result
    (λ (same : (c.join-joined.new.self ≡ c.at_mut-2.result.now) × (c.join-joined.new.other ≡ c.replace-gone.result)).
    ap put (put-back core.parties c.args.into c.args.from c.replace-gone.new.dest c.at_mut-2.result.now c.replace-gone.result c.join-joined.new.self c.join-joined.new.other c.requires.lawful.two (c.at_mut-2.ensures.item nobody) from same.0 same.1))
    c.join-joined.ensures.no_memory
