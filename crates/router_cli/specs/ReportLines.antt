-- The report of routes.
use Rattle.std.specs.Prelude.{ℕ, List, ◌∷◌, [], ◌++◌, codes}
use Rattle.cert_text.specs.declared.cert.Cert.{Cert}
use Rattle.cert_text.specs.CertText.{labelled, fraction_text}
use Rattle.command_runs.specs.Lines.{line, budget_line}

-- what their certificate says of them, and behind the counts of nets the overflow of the picked sets and the rounds of repair
abbrev pub report_text : ℕ → ℕ → Cert → List ℕ
report_text rounded rounds cert =
    line (codes "nets") (cert.nets ∷ [])
    ++ line (codes "forced") (cert.forced ∷ [])
    ++ line (codes "rounded") (rounded ∷ [])
    ++ line (codes "rounds") (rounds ∷ [])
    ++ line (codes "overflow") (cert.overflow ∷ [])
    ++ line (codes "wirelength") (cert.wirelength ∷ [])
    ++ labelled (codes "peak") (fraction_text cert.peak)
    ++ labelled (codes "bound") (fraction_text cert.bound)
    ++ budget_line cert.budget
