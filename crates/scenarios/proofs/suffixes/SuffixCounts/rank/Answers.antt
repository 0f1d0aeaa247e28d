use Rattle.std.proofs.Common.{◌+◌, ◌-◌, ◌^◌, ◌<◌, [], ◌∷◌, sym, refl, subst, arith}
use Rattle.scenarios.specs.Cells.{cells}
use Rattle.scenarios.specs.Scenarios.{count}
use Rattle.scenarios.specs.Ranking.{Tells, FirstRank, RankTold}
use Rattle.scenarios.proofs.Canoning.{read_none}
use Rattle.scenarios.proofs.Ranking.{Ranking, rank_start, rank_fits, rank_more, rank_all}
use Rattle.scenarios.proofs.suffixes.SuffixCounts.rank.Goals as goal

pub loop-depth-init : goal.loop-depth-init
loop-depth-init c =
    let n = c.args.self.now.participants.number in
    subst (λ s. Ranking n c.args.script.now 0 s 0) (sym c.initial-state.ensures) (rank_start n c.args.script.now c.args.self.now.participants.within.0)

pub returns-in_err-read : goal.returns-in_err-read
returns-in_err-read c =
    let n = c.args.self.now.participants.number in
    subst (RankTold n c.args.script.now) (sym c.from_residual.ensures)
    (read_none n c.args.self.now.participants.within.0 c.args.script.now c.loop-depth.depth c.loop-depth.state.boundaries c.loop-depth.invariant.read (record { leader = 0; primary = 0; secondary = 0 }) c.loop-depth-test.true
    c.in_err-read.ensures)

pub overflow_add-rank : goal.overflow_add-rank
overflow_add-rank c =
    let n = c.args.self.now.participants.number in
    let rs = c.args.script.now in
    let i = c.loop-depth.depth in
    let s = c.loop-depth.state.boundaries in
    let so = c.loop-depth.invariant in
    let x = c.in_ok-read.ensures in
    let tells : Tells n s c.in_ok-read.read x.0 = record { fits = x.1; leads = x.2; leaves = x.3; below = x.4 } in
    let first =
    subst (λ m. FirstRank (m - (i + 1)) (cells n s) x.0 c.in_ok-read.read.rank c.rank_before-rank.result) (sym c.requires) (c.rank_before-rank.ensures x.0 tells) in
    let f =
    rank_fits n rs i s c.loop-depth.rank c.args.self.now.participants.within.0 so (record { leader = 0; primary = 0; secondary = 0 }) c.loop-depth-test.true
    x.0 c.in_ok-read.read.rank x.1 x.4 x.5 c.rank_before-rank.result first in
    let small = subst (λ m. count m (n ∷ []) < 2 ^ 64) (sym c.requires) c.args.self.now.fits in
    omega arith

pub loop-depth-preserved : goal.loop-depth-preserved
loop-depth-preserved c =
    let n = c.args.self.now.participants.number in
    let rs = c.args.script.now in
    let i = c.loop-depth.depth in
    let s = c.loop-depth.state.boundaries in
    let so = c.loop-depth.invariant in
    let x = c.in_ok-read.ensures in
    let tells : Tells n s c.in_ok-read.read x.0 = record { fits = x.1; leads = x.2; leaves = x.3; below = x.4 } in
    let first =
    subst (λ m. FirstRank (m - (i + 1)) (cells n s) x.0 c.in_ok-read.read.rank c.rank_before-rank.result) (sym c.requires) (c.rank_before-rank.ensures x.0 tells) in
    rank_more n rs i s c.loop-depth.rank c.args.self.now.participants.within.0 so (record { leader = 0; primary = 0; secondary = 0 }) c.loop-depth-test.true
    x.0 c.in_ok-read.read.rank x.1 x.4 x.5 c.rank_before-rank.result first
    c.in_ok-read.read.next.boundaries (c.loop-depth.rank + c.rank_before-rank.result) x.3 refl

pub returns : goal.returns
returns c = rank_all c.args.self.now.participants.number c.args.script.now c.loop-depth.depth c.loop-depth.state.boundaries c.loop-depth.rank c.loop-depth-test.false c.loop-depth.invariant
