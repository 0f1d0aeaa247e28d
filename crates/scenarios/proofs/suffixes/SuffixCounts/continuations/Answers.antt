use Rattle.std.proofs.Common.{◌≡◌, ◌-◌, length, sym, ap, arith}
use Rattle.std.proofs.lemmas.List.{length-take}
use Rattle.scenarios.specs.Cells.{cells}
use Rattle.scenarios.specs.Scenarios.{count}
use Rattle.scenarios.specs.Counting.{entries}
use Rattle.scenarios.proofs.Finding.{entry_found}
use Rattle.scenarios.proofs.suffixes.SuffixCounts.continuations.Goals as goal

pub returns-then-place-self : goal.returns-then-place-self
returns-then-place-self c =
    let e : c.args.self.now.rounds - c.args.place.depth ≡ 0 = omega arith in
    sym (ap (λ k. count k (cells c.args.self.now.participants.number c.args.place.state.boundaries)) e)

pub returns : goal.returns
returns c =
    let n = c.args.self.now.participants.number in
    let R = c.args.self.now.rounds in
    let ys = c.args.self.now.slots.now in
    let l = ap length c.args.self.now.held in
    let t = length-take (length (entries n R)) ys in
    entry_found n R (length ys) ys c.args.self.now.held (omega arith) c.args.place.depth c.args.place.state.boundaries c.value_of.result c.requires.within c.requires.reached c.value_of.ensures
