-- The word that a question of each kind begins with.
use Rattle.std.specs.Prelude.{ℕ, List, codes}
use Rattle.replay_rigs.specs.declared.kind.Kind.{Kind}
use Rattle.replay_rigs.specs.declared.kind.Kind.TheVariants.{Sample, Shuffle, SplitMix, Sets, Set, Place, Partitions, Route, ViewPartitions, ViewRoute, Elect}

abbrev pub word_of : Kind → List ℕ
word_of Sample = codes "sample"
word_of Shuffle = codes "shuffle"
word_of SplitMix = codes "splitmix"
word_of Sets = codes "sets"
word_of Set = codes "set"
word_of Place = codes "place"
word_of Partitions = codes "partitions"
word_of Route = codes "route"
word_of ViewPartitions = codes "view_partitions"
word_of ViewRoute = codes "view_route"
word_of Elect = codes "elect"
