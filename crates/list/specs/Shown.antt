-- What the lines of a listing are, byte for byte; the line feed that ends each is left out.
use Rattle.std.specs.Prelude.{ℕ, List, ◌++◌, Some, None, codes, decimal, Option}
use Rattle.std.specs.List.{flat_map}
use Rattle.scenarios.specs.declared.round.RoundScenario.{RoundScenario}

abbrev pub header : ℕ → ℕ → ℕ → List ℕ
header n R total = codes "participants " ++ (decimal n ++ (codes " rounds " ++ (decimal R ++ (codes " scenarios " ++ decimal total))))

-- a round of a line, and the space before it
abbrev pub item : RoundScenario → List ℕ
item r = codes " " ++ (decimal r.leader ++ (codes ":" ++ (decimal r.primary ++ (codes ":" ++ decimal r.secondary))))

-- a rank and its rounds
abbrev pub line : ℕ → List RoundScenario → List ℕ
line rank rounds = decimal rank ++ flat_map item rounds

-- a refusal by its number, and the place that is at fault in a text
abbrev pub refused : ℕ → Option ℕ → List ℕ
refused k None = codes "refused " ++ decimal k
refused k (Some place) = codes "refused " ++ (decimal k ++ (codes " " ++ decimal place))
