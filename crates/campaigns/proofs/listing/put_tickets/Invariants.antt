use Rattle.std.proofs.Common.{◌≡◌, ◌++◌, drop}
use Rattle.campaigns.specs.Listings.{numbered}
use Rattle.campaigns.proofs.listing.put_tickets.Given as goal

abbrev pub invariant-loop-number : goal.invariant-loop-number
invariant-loop-number l = l.ticket-items ≡ numbered l.rank l.number ++ drop l.number l.initial.ticket-items
