use Rattle.std.proofs.Common.{◌<◌, min, take, refl, ap, subst, arith, rules}
use Rattle.std.specs.List.{range_with_len}
use Rattle.std.proofs.lemmas.Iterator.{YieldsList-from_range, YieldsList-from_slice, YieldsList-from_map}
use Rattle.sampling.specs.Samples.{Slot, Sampled}
use Rattle.campaigns.proofs.Steps.{gives, drawn, drawn_keys, drawn_below, ranks_below, sampled_told}
use Rattle.campaigns.proofs.opening.list_chosen.Goals as goal

pub returns-then-total-cap : goal.returns-then-total-cap
returns-then-total-cap g c =
    let total = c.args.counted.now.total in
    let listed = c.list_ranks.ensures.told (range_with_len 0 total) (YieldsList-from_range 0 c.total-total.result total refl (omega (arith, c.total-total.ensures.value))).runs (ranks_below total) in
    search rules

pub returns : goal.returns
returns g c =
    let plan = c.args.counted.now.plan in
    let total = c.args.counted.now.total in
    let memory = c.args.counted.now.memory in
    let counted = c.total-total.ensures.counted in
    let w = g.S.Source.coming c.args.source.now in
    let w' = g.S.Source.coming c.sample_unique_indices.new.source in
    let ranks = c.args.ranks.now in
    let ranks₁ = c.sample_unique_indices.new.ranks in
    let many = c.in_ok-many.many in
    let cap = ap (λ p. p.cap) c.numbers-cap.ensures.value in
    let more : plan.cap < total = omega (arith, c.if-total-cap.false, c.total-total.ensures.value, cap) in
    let told = c.in_ok-many.ensures in
    let sampled = subst (λ t. Sampled t (min plan.cap t) w ranks w' ranks₁) c.total-total.ensures.value (subst (λ k. Sampled c.total-total.result (min k c.total-total.result) w ranks w' ranks₁) cap told.1) in
    let keys = drawn_keys plan total memory counted more w w' ranks ranks₁ sampled many (omega (arith, told.0, c.total-total.ensures.value, cap)) in
    let listed = c.list_ranks-2.ensures.told (drawn plan total memory counted more w w' ranks ranks₁ sampled)
    (gives keys (YieldsList-from_map _ (λ (x : Slot). x.key) (YieldsList-from_slice (take many ranks₁) cc) c.map-chosen.ensures.closure (λ x r q k. search rules)))
    (drawn_below plan total memory counted more w w' ranks ranks₁ sampled) in
    sampled_told plan total memory counted more w w' ranks ranks₁ sampled c.list_ranks-2.result c.args.tickets.now c.list_ranks-2.new.tickets c.ok_or-2.result listed c.ok_or-2.ensures.value
