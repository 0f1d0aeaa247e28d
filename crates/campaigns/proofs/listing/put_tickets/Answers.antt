use Rattle.std.proofs.Common.{ℕ, ◌≡◌, ◌+◌, ◌++◌, ◌-◌, take, drop, set, sym, ap, ◌∙◌, arith}
use Rattle.std.proofs.lemmas.List.{length-drop, length-take}
use Rattle.std.proofs.lemmas.List.FromFn.{length-map-range_with_len, map-range_with_len_more}
use Rattle.table.proofs.Writes.{write_more}
use Rattle.campaigns.specs.declared.ticket.Ticket.{Ticket}
use Rattle.campaigns.specs.Listings.{numbered}
use Rattle.campaigns.proofs.Fronts.{put_all, put_short}
use Rattle.campaigns.proofs.listing.put_tickets.Goals as goal

pub returns-then-count-tickets-clause-told : goal.returns-then-count-tickets-clause-told
returns-then-count-tickets-clause-told c = put_short c.args.rank c.args.count c.args.len c.args.tickets.now (omega arith)

pub loop-number-preserved : goal.loop-number-preserved
loop-number-preserved c =
    let i = c.loop-number.number in
    let f : ℕ → Ticket = λ number. record { rank = c.args.rank; set = number } in
    let d = take (c.args.len + c.args.count - c.args.len) (drop c.args.len c.args.tickets.now) in
    ap (λ l. set l i (f i)) c.loop-number.invariant
    ∙ write_more (numbered c.args.rank i) d i (f i) (length-map-range_with_len f 0 i) (omega arith)
    ∙ ap (λ l. l ++ drop (i + 1) d) (sym (map-range_with_len_more f 0 i i (omega arith)))

pub returns-clause-told : goal.returns-clause-told
returns-clause-told c =
    let at = c.args.len in
    let count = c.args.count in
    let ys = c.args.tickets.now in
    let behind = length-drop at ys in
    let cut = length-take (at + count - at) (drop at ys) in
    let last : c.loop-number.number ≡ count = omega (arith, c.loop-number.auto.number-end, c.loop-number-test.false) in
    put_all c.args.rank count at c.loop-number.number ys c.loop-number.ticket-items c.requires c.if-count-tickets.false last c.loop-number.invariant
