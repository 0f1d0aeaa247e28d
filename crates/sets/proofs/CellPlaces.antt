-- Which cell a participant is in: the first, or one behind it.
use Rattle.std.proofs.Common.{◌≡◌, ℕ, suc, ◌-◌, ◌<◌, ◌≤◌, ltb, List, ◌∷◌}
use Rattle.std.proofs.lemmas.Bool.{cond-true, cond-false, lt-ltb, le-ltb}
use Rattle.sets.specs.Sets.{cell_of}

pub cell_here : (c : ℕ) (cs : List ℕ) (i : ℕ) → i < c → cell_of (c ∷ cs) i ≡ 0
cell_here c cs i h = cond-true (ltb i c) 0 (suc (cell_of cs (i - c))) (lt-ltb i c h)

pub cell_behind : (c : ℕ) (cs : List ℕ) (i : ℕ) → c ≤ i → cell_of (c ∷ cs) i ≡ suc (cell_of cs (i - c))
cell_behind c cs i h = cond-false (ltb i c) 0 (suc (cell_of cs (i - c))) (le-ltb i c h)
