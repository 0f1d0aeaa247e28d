use Rattle.std.proofs.Common.{◌≡◌, [], ◌∷◌, ◌++◌, length, take, drop, ap, ◌∙◌, arith}
use Rattle.std.proofs.lemmas.List.{append-nil, drop_all, length-take-le}
use Rattle.scenarios.specs.Scenarios.{scenario}
use Rattle.scenarios.proofs.Stepping.{unranked_start, unranked_all}
use Rattle.scenarios.proofs.suffixes.SuffixCounts.unrank.Goals as goal

pub loop-depth-init : goal.loop-depth-init
loop-depth-init c =
    let k = c.args.self.now in
    unranked_start k.participants.number k.rounds c.args.rank (take k.rounds c.args.out.now) _ k.participants.within.0 c.initial-state.ensures c.requires.below

pub returns : goal.returns
returns c =
    let k = c.args.self.now in
    let n = k.participants.number in
    let R = k.rounds in
    let out = c.args.out.now in
    let long : length (take R out) ≡ R = length-take-le R out c.requires.room in
    let same : length c.loop-depth.round-items ≡ length (take R out) = c.loop-depth.auto.round-items in
    let at : c.loop-depth.depth ≡ R = omega (arith, c.loop-depth-test.false, c.loop-depth.auto.depth-end) in
    let all = unranked_all n R c.args.rank (take R out) c.loop-depth.round-items c.loop-depth.depth c.loop-depth.state.boundaries c.loop-depth.left k.participants.within.0 at c.loop-depth.invariant in
    let none : drop R (take R out) ≡ [] = drop_all R (take R out) (omega arith) in (
      ap (λ l. l ++ drop R out) (all.0 ∙ ap (λ l. scenario R (n ∷ []) c.args.rank ++ l) none ∙ append-nil (scenario R (n ∷ []) c.args.rank)),
      all.1,
    )
