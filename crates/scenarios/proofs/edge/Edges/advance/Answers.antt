use Rattle.std.proofs.Common.{refl, arith}
use Rattle.scenarios.proofs.Walkings.{walk_small, left_on, left_again, left_over, left_stands, left_moves, again_small}
use Rattle.scenarios.proofs.edge.Edges.advance.Goals as goal

pub next_splits-requires-clause-small : goal.next_splits-requires-clause-small
next_splits-requires-clause-small c = rw c.as_mut_slice.ensures.value (walk_small c.args.self.now)

pub invariant_of-self : goal.invariant_of-self
invariant_of-self c =
    record { stands = left_stands c.args.self.now _ _ (left_on c.args.self.now c.as_mut_slice.result.now c.next_splits.new.cells c.as_mut_slice.ensures.value c.next_splits.auto.cells c.if-next_splits.ensures.placed c.if-next_splits.ensures.stepped) }

pub returns-then-next_splits : goal.returns-then-next_splits
returns-then-next_splits c =
    left_moves c.args.self.now _ refl (left_on c.args.self.now c.as_mut_slice.result.now c.next_splits.new.cells c.as_mut_slice.ensures.value c.next_splits.auto.cells c.if-next_splits.ensures.placed c.if-next_splits.ensures.stepped)

pub invariant_of-self-then-self-len : goal.invariant_of-self-then-self-len
invariant_of-self-then-self-len c =
    record { stands = left_again c.args.self.now c.as_mut_slice.result.now c.next_splits.new.cells c.as_mut_slice.ensures.value c.next_splits.auto.cells c.if-next_splits.ensures.placed (c.if-next_splits.ensures.again refl) }

pub first_splits-requires : goal.first_splits-requires
first_splits-requires c =
    record { small = again_small c.args.self.now c.as_mut_slice.result.now c.next_splits.new.cells c.as_mut_slice.ensures.value c.next_splits.auto.cells c.if-next_splits.ensures.placed c.as_mut_slice-2.result.now c.as_mut_slice-2.ensures.value }

pub invariant_of-self-2 : goal.invariant_of-self-2
invariant_of-self-2 c =
    record {
      stands = left_stands c.args.self.now _ _ (left_over c.args.self.now c.as_mut_slice.result.now c.next_splits.new.cells c.as_mut_slice.ensures.value c.next_splits.auto.cells c.if-next_splits.ensures.placed
          c.as_mut_slice-2.result.now c.as_mut_slice-2.ensures.value _ c.first_splits.new.cells refl c.first_splits.auto.cells c.first_splits.ensures.placed c.if-next_splits.ensures.stepped (omega (arith, c.if-self-len.false, c.len.ensures.value)) c.first_splits.ensures.begun);
    }

pub returns : goal.returns
returns c =
    left_moves c.args.self.now _ refl (left_over c.args.self.now c.as_mut_slice.result.now c.next_splits.new.cells c.as_mut_slice.ensures.value c.next_splits.auto.cells c.if-next_splits.ensures.placed
    c.as_mut_slice-2.result.now c.as_mut_slice-2.ensures.value _ c.first_splits.new.cells refl c.first_splits.auto.cells c.first_splits.ensures.placed c.if-next_splits.ensures.stepped (omega (arith, c.if-self-len.false, c.len.ensures.value)) c.first_splits.ensures.begun)
