-- The name of each net that is read is a token.
use Rattle.std.proofs.Common.{ℕ, zero, suc, ◌-◌, ◌==◌, ◌||◌, Bool, false, nat_lt, List, length, map, sym, subst, arith}
use Rattle.std.specs.Prelude.{IfOk, IsTrue}
use Rattle.std.specs.List.{All}
use Rattle.std.proofs.lemmas.List.{get_or-map, length-map}
use Rattle.std.proofs.lemmas.List.Elements.{All-nil, All-cons}
use Rattle.std.proofs.lemmas.Result.{IfOk-at_ok}
use Rattle.text_scan.specs.Tokens.{Token, is_word}
use Rattle.text_scan.specs.Reading.{whole, first_token}
use Rattle.text_scan.proofs.Reading.{first_token_is_word}
use Rattle.text_scan.proofs.Parts.{IfOk-then, IfOk-behind, IfOk-where_false}
use Rattle.grid_graph.specs.declared.design.Design.{Design}
use Rattle.design_tokens.specs.declared.input_fault.InputFault.TheVariants.{Syntax}
use Rattle.design_tokens.specs.declared.wanted.Wanted.TheVariants as wanted
use Rattle.grid_graph.specs.Limits.{max_nets, max_pins}
use Rattle.ispd_reader.specs.Limits.{max_bytes}
use Rattle.design_tokens.specs.Parsing.{Reading}
use Rattle.design_tokens.specs.Numbers.{wanted_token, word_at, name_at, count_at}
use Rattle.ispd_reader.specs.Header.{Header, header_at}
use Rattle.ispd_reader.specs.Nets.{Net, id_at, net_width_at, pins_at, net_at, more_nets_at, nets_at}
use Rattle.ispd_reader.specs.Adjustments.{adjustments_at}
use Rattle.ispd_reader.specs.Views.{net_of}
use Rattle.ispd_reader.specs.Designs.{Contents, contents_at, contents_of, IsDesignOfText}

-- the name is a token
abbrev IsNamed : Net → Type 0
IsNamed n = IsTrue (is_word n.name)

-- each net of the contents has such a name
abbrev HasNamedNets : Contents → Type 0
HasNamedNets c = All IsNamed c.nets

name_is_word : (r : Reading) → IfOk (name_at r) (λ name. IsTrue (is_word name.0))
unfolding name_at
name_is_word r =
    let first = first_token (λ end. Syntax end wanted.Name) r in
    IfOk-then (λ (token : Token × Reading). IsTrue (is_word token.0.bytes)) _ (wanted_token wanted.Name r) _
    (IfOk-then _ (λ (token : Token × Reading). IsTrue (is_word token.0.bytes)) first _ (first_token_is_word (λ end. Syntax end wanted.Name) r) (λ token word. word)) (λ token word. word)

net_named : (header : Header) (taken : ℕ → Bool) (pins : ℕ) (r : Reading) → IfOk (net_at header taken pins r) (λ net. IsNamed net.0.0)
unfolding net_at
net_named header taken pins r =
    let Q = λ (net : (Net × ℕ) × Reading). IsNamed net.0.0 in
    IfOk-then _ Q (name_at r) _ (name_is_word r) (λ name word.
    IfOk-behind Q (id_at taken name.1) _ (λ id.
    IfOk-behind Q (count_at (max_pins - pins) id.1) _ (λ count.
    IfOk-behind Q (net_width_at header count.1) _ (λ width.
    IfOk-behind Q (pins_at header id.0 count.0 width.1) _ (λ places. word)))))

more_nets_named : (header : Header) (taken : ℕ → Bool) (pins count : ℕ) (r : Reading) → IfOk (more_nets_at header taken pins count r) (λ nets. All IsNamed nets.0)
unfolding more_nets_at
more_nets_named header taken pins zero r = All-nil IsNamed
more_nets_named header taken pins (suc count) r =
    let Q = λ (nets : List Net × Reading). All IsNamed nets.0 in
    IfOk-then _ Q (net_at header taken pins r) _ (net_named header taken pins r) (λ net named.
    IfOk-then Q Q (more_nets_at header (λ id. id == net.0.0.id || taken id) net.0.1 count net.1) _ (more_nets_named header (λ id. id == net.0.0.id || taken id) net.0.1 count net.1) (λ more all. All-cons IsNamed net.0.0 more.0 named all))

nets_named : (header : Header) (r : Reading) → IfOk (nets_at header r) (λ nets. All IsNamed nets.0)
unfolding nets_at
nets_named header r =
    let Q = λ (nets : List Net × Reading). All IsNamed nets.0 in
    IfOk-behind Q (word_at wanted.Num r) _ (λ num.
    IfOk-behind Q (word_at wanted.Net num.1) _ (λ net.
    IfOk-behind Q (count_at max_nets net.1) _ (λ count. more_nets_named header (λ _. false) 0 count.0 count.1)))

parts_named : (r : Reading) → IfOk (contents_at r) HasNamedNets
unfolding contents_at
parts_named r =
    IfOk-behind HasNamedNets (header_at r) _ (λ header.
    IfOk-then _ HasNamedNets (nets_at header.0 header.1) _ (nets_named header.0 header.1) (λ nets named.
    IfOk-behind HasNamedNets (adjustments_at header.0.extent nets.1) _ (λ adjustments. named)))

-- each net of a text has a name
contents_named : (text : List ℕ) → IfOk (contents_of text) HasNamedNets
contents_named text = IfOk-where_false HasNamedNets (nat_lt max_bytes (length text)) (contents_at (whole text)) _ (parts_named (whole text))

-- the name of each net of a design that a text names is a token
pub design_named : (text : List ℕ) (d : Design) → IsDesignOfText text d → All (λ n. IsTrue (is_word n.name)) d.nets
design_named text d named = λ k e below.
    let all : All IsNamed named.contents.nets = IfOk-at_ok HasNamedNets named.read (contents_named text) in
    let mapped : All IsNamed (map net_of d.nets) = subst (All IsNamed) (sym named.says.nets) all in
    subst IsNamed (get_or-map net_of d.nets k e (net_of e) below) (mapped k (net_of e) (omega (arith, length-map d.nets net_of, below)))
