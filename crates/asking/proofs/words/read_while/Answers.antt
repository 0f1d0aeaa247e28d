use Rattle.std.proofs.Common.{◌≡◌, ◌+◌, [], ◌∷◌, ◌++◌, length, Some, None, refl, inr, arith, append_assoc, append-nil, length-append}
use Rattle.asking.proofs.words.read_while.Goals as goal

pub loop-word-preserved : goal.loop-word-preserved
loop-word-preserved g c =
    let item = c.in-Ok.field-0 in
    let grown : length (c.loop-word.items.items ++ item ∷ []) ≡ length c.loop-word.items.items + 1 = length-append c.loop-word.items.items (item ∷ []) in
    let len = c.len.ensures in
    let held = c.loop-word.items.ok.0 in
    let less = c.if-len-most.false in
    rw c.in_ok-push-in-Ok-2.ensures.items (
      omega arith,
      λ xs end t left.
          rw append_assoc
          (c.loop-word.invariant.1 (item ∷ xs) end t (c.next.new.self, c.in-Some.word, c.in-Some.ensures.steps, c.in-Ok.ensures.value, left)),
      λ xs t left.
          rw append_assoc
          (c.loop-word.invariant.2 (item ∷ xs) t (c.next.new.self, c.in-Some.word, c.in-Some.ensures.steps, c.in-Ok.ensures.value, left)),
    )

pub returns-in-Ok-clause-unread : goal.returns-in-Ok-clause-unread
returns-in-Ok-clause-unread g c =
    let item = c.in-Ok.field-0 in
    let grown : length (c.loop-word.items.items ++ item ∷ []) ≡ length c.loop-word.items.items + 1 = length-append c.loop-word.items.items (item ∷ []) in
    let len = c.len.ensures in
    let held = c.loop-word.items.ok.0 in
    let most = c.if-len-most.true in
    let so_far = c.loop-word.invariant.0 in
    inr (
      refl,
      c.loop-word.items.items ++ item ∷ [],
      omega arith,
      c.loop-word.invariant.2 (item ∷ []) c.next.new.self (c.next.new.self, c.in-Some.word, c.in-Some.ensures.steps, c.in-Ok.ensures.value, refl),
    )

pub returns-in-Err : goal.returns-in-Err
returns-in-Err g c = record {
  read =
      rw (← append-nil c.loop-word.items.items)
      (c.loop-word.invariant.1 [] (Some c.in-Some.word) c.next.new.self (c.in-Some.ensures.steps, (c.in-Err.field-0, c.in-Err.ensures.value)));
  bound = c.loop-word.invariant.0;
  unread = tt;
}

pub returns : goal.returns
returns g c = record {
  read =
      rw (← append-nil c.loop-word.items.items)
      (c.loop-word.invariant.1 [] None c.next.new.self (rw c.in_default.is at c.next.ensures.steps, tt));
  bound = c.loop-word.invariant.0;
  unread = tt;
}
