use Rattle.std.proofs.Common.{◌≡◌, ◌∙◌, ◌<◌, ◌-◌, ◌∷◌, ℕ, Bool, List, String, Result, Ok, Err, IfErr, [], inl, inr, drop, map, ap, ap₂, sym, subst, true, false, refl, arith}
use Rattle.std.proofs.lemmas.List.{drop-map, length-map}
use Rattle.std.specs.Prelude.{string_bytes}
use Rattle.std.specs.Result.{IsErrAnd}
use Rattle.clap.specs.Kinds.{HasKind, Kinds}
use Rattle.clap.specs.Values.{kind_of}
use Rattle.clap.specs.Words.{app_of, fault_of, is_simple, matches_of}
use Rattle.clap.specs.Faults.{is_simple_and_free}
use Rattle.clap.specs.declared.error.Error.{Error}
use Rattle.clap.specs.declared.error.kind.ErrorKind.TheVariants.{OutOfMemory}
use Rattle.command_words.specs.CommandLine.{has_values_in_range}
use Rattle.command_words.specs.Kinds.{form_of, with_word}
use Rattle.command_words.specs.Apps.{app_of_kind}
use Rattle.command_words.specs.declared.words_error.WordsError.{WordsError}
use Rattle.command_words.specs.declared.words_error.WordsError.TheVariants.{NoMemory, Refused}
use Rattle.command_words.proofs.Parts.{drop_behind, fails, found_is, parted, passes}
use Rattle.command_words.proofs.Rules.{known}
use Rattle.command_words.proofs.read_words.ReadWords.of.Goals as goal

-- where the values are in range a parse fails for want of memory alone
refused_out_of_range : {T : Type 0} (r : Result T WordsError) (fault : Error) (kinds : Kinds) (b : Bool) → HasKind kinds fault → (b ≡ true → kinds ≡ [])
    → IsErrAnd r (λ e. kind_of fault ≡ OutOfMemory → e ≡ NoMemory) → IfErr r (λ e. e ≡ Refused → b ≡ false)
refused_out_of_range (Ok x) fault kinds b has none gives = tt
refused_out_of_range (Err e) fault kinds false has none gives = λ is. refl
refused_out_of_range (Err e) fault kinds true has none gives = λ is.
    let memory : HasKind [] fault = subst (λ ks. HasKind ks fault) (none refl) has in
    elim memory [
      | inl out ↦
          let bad : e ≡ NoMemory = gives out in
          cc
      | inr never ↦ absurd never
    ]

pub words_from-given-requires : goal.words_from-given-requires
words_from-given-requires c =
    let p = parted c.args.kind (with_word c.args.kind (map string_bytes c.args.words.now)) c.requires in
    omega (arith, p.within, length-map c.args.words.now string_bytes, c.name_count.ensures.count, c.name_count.ensures.some)

-- the words that clap sees
behind : {Z : Type 0} (words seen : List (String Z)) (count names : ℕ) (word : List ℕ) → seen ≡ drop (count - 1) words → count ≡ names → 0 < count
    → map string_bytes seen ≡ drop names (word ∷ map string_bytes words)
behind words seen count names word is same some = ap (map string_bytes) is ∙ sym (drop-map string_bytes (count - 1) words)
    ∙ sym (drop_behind count (count - 1) word (map string_bytes words) some refl) ∙ ap (λ n. drop n (word ∷ map string_bytes words)) same

pub returns-in_err-matches-clause-refused : goal.returns-in_err-matches-clause-refused
returns-in_err-matches-clause-refused c =
    let kind = c.args.kind in
    let words = with_word kind (map string_bytes c.args.words.now) in
    let app : app_of c.in_ok-clap_command.field-0 ≡ app_of_kind kind = c.in_ok-clap_command.ensures in
    let seen = behind c.args.words.now c.words_from-given.result.now _ (form_of kind).names (form_of kind).word c.words_from-given.ensures c.name_count.ensures.count c.name_count.ensures.some in
    refused_out_of_range _ c.in_err-matches.field-0.0 _ (has_values_in_range (form_of kind) words)
    (c.in_err-matches.ensures.kinds (ap is_simple_and_free app ∙ (known kind).free))
    (λ ranged. ap₂ fault_of app seen ∙ passes kind words c.requires ranged) c.from_residual-in_err-matches.ensures.1

pub invariant_of-result : goal.invariant_of-result
invariant_of-result c =
    let kind = c.args.kind in
    let words = with_word kind (map string_bytes c.args.words.now) in
    let app : app_of c.in_ok-clap_command.field-0 ≡ app_of_kind kind = c.in_ok-clap_command.ensures in
    let seen = behind c.args.words.now c.words_from-given.result.now _ (form_of kind).names (form_of kind).word c.words_from-given.ensures c.name_count.ensures.count c.name_count.ensures.some in
    let none = c.in_ok-matches.ensures.kinds (ap is_simple_and_free app ∙ (known kind).free) in
    record {
      read = record {
        shaped = c.requires;
        in_range = fails kind words c.requires (sym (ap₂ fault_of app seen) ∙ none);
        found = (c.in_ok-matches.ensures.matches (ap is_simple app ∙ (known kind).simple)).0 ∙ ap₂ matches_of app seen ∙ sym (found_is kind words);
      };
    }
