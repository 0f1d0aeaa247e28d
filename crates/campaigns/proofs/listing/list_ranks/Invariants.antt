use Rattle.std.proofs.Common.{ℕ, ◌<◌, ◌≤◌, List, length, take}
use Rattle.std.specs.List.{AllByRecursion}
use Rattle.std.specs.Iterator.{AlwaysYields}
use Rattle.campaigns.specs.Tickets.{tickets_of}
use Rattle.campaigns.specs.Listings.{Front}
use Rattle.campaigns.proofs.listing.list_ranks.Given as goal

abbrev pub invariant-loop-rank : goal.invariant-loop-rank
invariant-loop-rank g l =
    (l.len ≤ length l.tickets)
    × g.I.Iterator.can_next l.rank-iterator
    × ((chosen : List ℕ) → AlwaysYields g.I.Iterator.next_gives (λ k. k) l.fn.ranks chosen → AllByRecursion (λ k. k < l.counted.total) chosen → Front l.initial.tickets (tickets_of l.counted.plan (take (length l.yielded) chosen)) l.len l.tickets)
