-- The text of a report: nine lines, each a name and its number, `kinds` with five; or only the line that says a refusal.
use Rattle.std.specs.Prelude.{ℕ, cond, List, [], ◌∷◌, ◌++◌, eqb}
use Rattle.decimal.specs.Line.{decimal, line}
use Rattle.report.specs.declared.Kinds.{Kinds}
use Rattle.report.specs.declared.Totals.{Totals}
use Rattle.report.specs.declared.Reported.{Reported}

-- room for any of them
abbrev pub output_room : ℕ
output_room = 512

-- a name and a number
unfoldable pub named : List ℕ → ℕ → List ℕ
named name n = name ++ decimal n

-- The names; each line but the first begins with the newline that ends the one before.

-- `sections`
abbrev pub sections_name : List ℕ
sections_name = 115 ∷ 101 ∷ 99 ∷ 116 ∷ 105 ∷ 111 ∷ 110 ∷ 115 ∷ 32 ∷ []

-- `refused`
abbrev pub refused_name : List ℕ
refused_name = 10 ∷ 114 ∷ 101 ∷ 102 ∷ 117 ∷ 115 ∷ 101 ∷ 100 ∷ 32 ∷ []

-- `functions`
abbrev pub functions_name : List ℕ
functions_name = 10 ∷ 102 ∷ 117 ∷ 110 ∷ 99 ∷ 116 ∷ 105 ∷ 111 ∷ 110 ∷ 115 ∷ 32 ∷ []

-- `records`
abbrev pub records_name : List ℕ
records_name = 10 ∷ 114 ∷ 101 ∷ 99 ∷ 111 ∷ 114 ∷ 100 ∷ 115 ∷ 32 ∷ []

-- `statepoints`
abbrev pub statepoints_name : List ℕ
statepoints_name = 10 ∷ 115 ∷ 116 ∷ 97 ∷ 116 ∷ 101 ∷ 112 ∷ 111 ∷ 105 ∷ 110 ∷ 116 ∷ 115 ∷ 32 ∷ []

-- `pairs`
abbrev pub pairs_name : List ℕ
pairs_name = 10 ∷ 112 ∷ 97 ∷ 105 ∷ 114 ∷ 115 ∷ 32 ∷ []

-- `kinds`
abbrev pub kinds_name : List ℕ
kinds_name = 10 ∷ 107 ∷ 105 ∷ 110 ∷ 100 ∷ 115 ∷ 32 ∷ []

-- `a space`
abbrev pub space : List ℕ
space = 32 ∷ []

-- `stack`
abbrev pub stack_name : List ℕ
stack_name = 10 ∷ 115 ∷ 116 ∷ 97 ∷ 99 ∷ 107 ∷ 32 ∷ []

-- `unknown`
abbrev pub unknown_name : List ℕ
unknown_name = 10 ∷ 117 ∷ 110 ∷ 107 ∷ 110 ∷ 111 ∷ 119 ∷ 110 ∷ 32 ∷ []

-- `the last newline`
abbrev pub newline : List ℕ
newline = 10 ∷ []

unfoldable pub head : Totals → List ℕ
head t =
    named sections_name t.sections ++ named refused_name t.refused ++ named functions_name t.functions
    ++ named records_name t.records ++ named statepoints_name t.statepoints ++ named pairs_name t.pairs

unfoldable pub kinds_line : Kinds → List ℕ
kinds_line k =
    named kinds_name k.register ++ named space k.direct ++ named space k.indirect ++ named space k.constant
    ++ named space k.pool

unfoldable pub report_text : Totals → List ℕ
report_text t = head t ++ kinds_line t.kinds ++ named stack_name t.stack ++ named unknown_name t.unknown ++ newline

unfoldable pub written : Reported → List ℕ
written r = cond (eqb r.number 0) (report_text r.totals) (line r.number r.place)
