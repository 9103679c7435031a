use Rattle.std.proofs.Common.{◌≡◌, ◌+◌, ◌*◌, ℕ, List, length, sym, ◌∙◌, ap, subst, arith}
use Rattle.price_workers.proofs.Common.{ext_get_or, TableId, Size, entries, loads_of, held, LoadsBetween, KeepsSetting-trans, after_reading}
use Rattle.grid_base.specs.Numbers.{vertices}
use Rattle.price_workers.proofs.ReadSteps.{after_all_words, close_to_all}
use Rattle.price_workers.proofs.TurnFacts.{kept_long, same_share}
use Rattle.price_workers.proofs.reading.read_all.Goals as goal

pub returns : goal.returns
returns c =
    let its = c.load_all.ensures in
    let g = c.args.grid.now in
    let start = c.args.share.now.party in
    let share = c.load_all.new.share in
    let p = share.party in
    let loads : List ℕ = loads_of c.settle_all.new.kept in
    let count : 2 * c.vertices.result + 1 ≡ entries g = omega (arith, c.vertices.ensures ∙ ap (λ (s : Size). vertices s) c.size.ensures) in
    let table : share.table ≡ c.args.table.now = its.table ∙ c.requires.table in
    let last : length p.last ≡ entries g = its.valid.wide.last ∙ ap (λ (t : TableId). t.words) table ∙ c.requires.words in
    let long : length loads ≡ entries g = kept_long c.settle_all.new.kept (c.settle_all.ensures.setting.grid ∙ its.setting.grid ∙ c.requires.grid) in
    let same : loads ≡ p.last = ext_get_or 0 loads p.last (long ∙ sym last)
    (λ e within. c.settle_all.ensures.found e (omega arith) (omega (arith, within, long, count))) in
    let read : LoadsBetween 0 (length p.last) start p = subst (λ (k : ℕ). LoadsBetween 0 k start p) (count ∙ sym last) its.read in
    record {
      reading = rw same (same_share (held c.args.table.now (after_reading start p.last)) share table (after_all_words start p read));
      close = rw same (close_to_all start p read (its.valid.wide.shares ∙ sym its.valid.wide.last));
      valid = its.valid;
      setting = KeepsSetting-trans _ _ _ its.setting c.settle_all.ensures.setting;
    }
