use Rattle.std.proofs.Common.{◌≡◌, ◌<◌, length, Option, Some, None, Result, Ok, Err, refl, ◌∙◌, subst, inl, inr, arith}
use Rattle.std.specs.Option.{ok_or}
use Rattle.std.proofs.lemmas.Result.{err_from_is_err_and}
use Rattle.refusals.specs.declared.Refusal.TheVariants.{CountMemory, TotalTooLarge}
use Rattle.scenarios.specs.Counting.{places, Cause}
use Rattle.scenarios.specs.Slots.{Holds, Kept, Settled, SettledOr}
use Rattle.scenarios.proofs.Slots.{settled_all, settled_total}
use Rattle.scenarios.proofs.Settling.{entries_long}
use Rattle.scenarios.proofs.counting.count_through.Goals as goal

-- an option that became an error was none, and the error is the one put in its place
was_none : {T E : Type 0} (o : Option T) (e f : E) (r : Result T E) → r ≡ ok_or o e → r ≡ Err f → (o ≡ None) × (e ≡ f)
was_none None e f r p q = (refl, cc)
was_none (Some x) e f r p q = absurd cc

was_some : {T E : Type 0} (o : Option T) (e : E) (x : T) (r : Result T E) → r ≡ ok_or o e → r ≡ Ok x → o ≡ Some x
was_some None e x r p q = absurd cc
was_some (Some y) e x r p q = cc

pub returns-in_err-len : goal.returns-in_err-len
returns-in_err-len c =
    let n = c.args.participants.number in
    let R = c.args.rounds in
    let xs = c.args.slots.now in
    let e = entries_long n R in
    let o = was_none c.discover.result CountMemory c.in_err-len.field-0.0 c.ok_or.result c.ok_or.ensures.value c.in_err-len.was in
    let b : length xs < length (places n R) = subst (λ k. Kept (places n R) xs k c.discover.new.slots) o.0 c.discover.ensures in
    let short : Cause n R xs CountMemory = inl ((λ _. 8), (omega arith)) in
    let p = err_from_is_err_and c.from_residual.result c.from_residual.ensures.1 in
    rw (p.1, p.2) (subst (Cause n R xs) o.1 short)

pub returns-in_err-ok_or : goal.returns-in_err-ok_or
returns-in_err-ok_or c =
    let n = c.args.participants.number in
    let R = c.args.rounds in
    let xs = c.args.slots.now in
    let ys = c.settle.new.slots in
    let e = entries_long n R in
    let k = was_some c.discover.result CountMemory c.in_ok-len.len c.ok_or.result c.ok_or.ensures.value c.in_ok-len.was in
    let h : Holds (places n R) c.in_ok-len.len xs c.discover.new.slots = subst (λ k. Kept (places n R) xs k c.discover.new.slots) k c.discover.ensures in
    let u = h.used in
    let f = h.fits in
    let l = h.long in
    let o = was_none c.settle.result TotalTooLarge c.in_err-ok_or.field-0.0 c.ok_or-2.result c.ok_or-2.ensures.value c.in_err-ok_or.was in
    let large = subst (λ r. SettledOr n R c.in_ok-len.len xs r ys) o.0 (c.settle.ensures xs h) in
    let refused : Cause n R xs TotalTooLarge = inr ((λ _. 9), (omega arith), large) in
    let p = err_from_is_err_and c.from_residual-in_err-ok_or.result c.from_residual-in_err-ok_or.ensures.1 in
    rw (p.1, p.2) (subst (Cause n R xs) o.1 refused)

pub returns : goal.returns
returns c =
    let n = c.args.participants.number in
    let R = c.args.rounds in
    let xs = c.args.slots.now in
    let ys = c.settle.new.slots in
    let k = was_some c.discover.result CountMemory c.in_ok-len.len c.ok_or.result c.ok_or.ensures.value c.in_ok-len.was in
    let h : Holds (places n R) c.in_ok-len.len xs c.discover.new.slots = subst (λ k. Kept (places n R) xs k c.discover.new.slots) k c.discover.ensures in
    let o = was_some c.settle.result TotalTooLarge c.in_ok-ok_or.field-0 c.ok_or-2.result c.ok_or-2.ensures.value c.in_ok-ok_or.was in
    let s : Settled n R (places n R) c.in_ok-len.len 0 xs ys = subst (λ r. SettledOr n R c.in_ok-len.len xs r ys) o (c.settle.ensures xs h) in
    let a = settled_all n R c.in_ok-len.len xs ys s in
    let t = settled_total n R c.in_ok-len.len xs ys c.args.participants.within.0 s in
    (a.0, c.first_value.ensures ∙ t, c.first_value.type_inv, a.1)
