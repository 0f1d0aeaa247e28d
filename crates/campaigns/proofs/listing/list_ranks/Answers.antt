use Rattle.std.proofs.Common.{◌<◌, ◌∷◌, [], length, take, sym, subst, arith, rules, length-append}
use Rattle.std.proofs.ByRecursion.{All-get_or}
use Rattle.campaigns.specs.Tickets.{tickets_of}
use Rattle.campaigns.specs.Listings.{Front, Listed}
use Rattle.campaigns.proofs.Fronts.{rank_at, ranks_end, ranks_all, ranks_more, ranks_short}
use Rattle.campaigns.proofs.listing.list_ranks.Goals as goal

pub returns-in_err-len-clause-told : goal.returns-in_err-len-clause-told
returns-in_err-len-clause-told g c ks yields low =
    let plan = c.args.counted.now.plan in
    let xs = c.args.tickets.now in
    let ys = c.note_rank.new.tickets in
    let so_far = c.loop-rank.yielded in
    let turn = rank_at g.I.Iterator.next_gives c.into_iter-rank-iterator.result c.args.ranks c.into_iter-rank-iterator.ensures.into_iter_gives ks yields so_far c.loop-rank.rank-iterator c.loop-rank.yielded_by c.next.result c.next.new.self c.in-Some.rank c.in-Some.is c.next.ensures.steps in
    let below = subst (λ k. k < c.args.counted.now.total) turn.1 (All-get_or (λ k. k < c.args.counted.now.total) ks (length so_far) 0 turn.0 low) in
    subst (λ r. Listed xs (tickets_of plan ks) r ys) (sym c.from_residual.ensures)
    (ranks_short plan ks (length so_far) _ turn.0 turn.1 xs ys (c.in_err-len.ensures.told below xs (tickets_of plan (take (length so_far) ks)) (c.loop-rank.invariant.2 ks yields low)))

pub loop-rank-preserved : goal.loop-rank-preserved
loop-rank-preserved g c = (
  c.in_ok-len.ensures.within,
  search rules,
  λ ks yields low.
      let plan = c.args.counted.now.plan in
      let xs = c.args.tickets.now in
      let ys = c.note_rank.new.tickets in
      let so_far = c.loop-rank.yielded in
      let turn = rank_at g.I.Iterator.next_gives c.into_iter-rank-iterator.result c.args.ranks c.into_iter-rank-iterator.ensures.into_iter_gives ks yields so_far c.loop-rank.rank-iterator c.loop-rank.yielded_by c.next.result c.next.new.self c.in-Some.rank c.in-Some.is c.next.ensures.steps in
      let below = subst (λ k. k < c.args.counted.now.total) turn.1 (All-get_or (λ k. k < c.args.counted.now.total) ks (length so_far) 0 turn.0 low) in
      subst (λ n. Front xs (tickets_of plan (take n ks)) c.in_ok-len.len ys) (sym (length-append so_far (c.in-Some.rank ∷ [])))
      (ranks_more plan ks (length so_far) _ turn.0 turn.1 c.in_ok-len.len xs ys (c.in_ok-len.ensures.told below xs (tickets_of plan (take (length so_far) ks)) (c.loop-rank.invariant.2 ks yields low))),
)

pub returns-clause-told : goal.returns-clause-told
returns-clause-told g c ks yields low =
    let end = ranks_end g.I.Iterator.next_gives c.into_iter-rank-iterator.result c.args.ranks c.into_iter-rank-iterator.ensures.into_iter_gives ks yields c.loop-rank.yielded c.loop-rank.rank-iterator c.loop-rank.yielded_by c.next.result c.next.new.self c.in-None.is c.next.ensures.steps in
    ranks_all c.args.counted.now.plan ks (length c.loop-rank.yielded) c.loop-rank.len c.args.tickets.now c.loop-rank.tickets (omega arith) (c.loop-rank.invariant.2 ks yields low)
