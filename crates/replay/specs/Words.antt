-- The word that a question of each kind begins with.
use Rattle.std.specs.Prelude.{ℕ, List, codes}
use Rattle.replay.specs.declared.kind.Kind.{Kind}
use Rattle.replay.specs.declared.kind.Kind.TheVariants.{Total, Edges, Edge, Unrank}

abbrev pub word_of : Kind → List ℕ
word_of Total = codes "total"
word_of Edges = codes "edges"
word_of Edge = codes "edge"
word_of Unrank = codes "unrank"
