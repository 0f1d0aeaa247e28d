use Rattle.std.proofs.Common.{◌≡◌, ℕ, zero, suc, ◌+◌, ◌-◌, ◌*◌, ◌^◌, ◌<◌, ◌≤◌, Bool, true, false, cond, ◌&&◌, eqb, ltb, List, [], ◌∷◌, length, get_or, drop, Some, None, decimal, Option, sym, refl, ap, ◌∙◌, ⊎_elim, arith, rules}
use Rattle.std.specs.Char.{is_ascii_digit}
use Rattle.std.specs.Str.{all_ascii_digits}
use Rattle.std.proofs.lemmas.List.{at_drop_more}
use Rattle.std.proofs.lemmas.Bool.{cond-true, cond-false, and_parts, and_right, and_from, and_left, and_cases, ltb-true, ltb-false, lt-ltb, le-ltb, eqb-false, ne_eqb, cases_eq, true≢false, false≢true}
use Rattle.std.proofs.lemmas.Str.Parse.{IsNumeralModel, numerals_by_fold, tells_all_ascii_digits}
use Rattle.std.proofs.lemmas.Fmt.{decimal-digits_value, decimal_digit, decimal_nonempty, first_decimal, digits_decimal, digits_value-decimal}
use Rattle.text.proofs.Fields.{Free}
use Rattle.text.specs.Lines.{value_after, value, misbegun, numeral, pushed}

-- the number that digits write after `n`, where it is of at most 32 bits
abbrev pub counted : ℕ → List ℕ → Option ℕ
counted n bs = cond (all_ascii_digits bs && ltb (value_after n bs) (2 ^ 32)) (Some (value_after n bs)) None

pub value_after_ge : (n : ℕ) (bs : List ℕ) → n ≤ value_after n bs
value_after_ge n [] = omega arith
value_after_ge n (b ∷ bs) = omega (arith, value_after_ge (n * 10 + (b - 48)) bs)

only_some : (b : Bool) (m k : ℕ) → cond b (Some m) None ≡ Some k → (b ≡ true) × (m ≡ k)
only_some true m k e = (refl, cc)
only_some false m k e = (cc, cc)

only_none : (b : Bool) (m : ℕ) → cond b (Some m) None ≡ None → b ≡ false
only_none true m e = cc
only_none false m e = refl

small_so_far : (n : ℕ) (bs : List ℕ) → ltb n (2 ^ 32) ≡ false → ltb (value_after n bs) (2 ^ 32) ≡ false
small_so_far n bs e = le-ltb _ _ (omega (arith, value_after_ge n bs, ltb-false n (2 ^ 32) e))

none_by : (d t a u : Bool) → (d && t) ≡ false → (t ≡ false → u ≡ false) → ((d && a) && u) ≡ false
none_by true t a u e h = and_right a u (h e)
none_by false t a u e h = refl

pub counted_yes : (n b k : ℕ) (bs : List ℕ) → pushed n b ≡ Some k → (k < 2 ^ 32) × (counted n (b ∷ bs) ≡ counted k bs)
counted_yes n b k bs e =
    let m : ℕ = n * 10 + (b - 48) in
    let p = only_some (is_ascii_digit b && ltb m (2 ^ 32)) m k e in
    let q = and_parts (is_ascii_digit b) (ltb m (2 ^ 32)) p.0 in (
      omega (arith, ltb-true m (2 ^ 32) q.1, p.1),
      ap (λ d. cond ((d && all_ascii_digits bs) && ltb (value_after m bs) (2 ^ 32)) (Some (value_after m bs)) None) q.0 ∙ ap (λ v. counted v bs) p.1,
    )

pub counted_no : (n b : ℕ) (bs : List ℕ) → pushed n b ≡ None → counted n (b ∷ bs) ≡ None
counted_no n b bs e =
    let m : ℕ = n * 10 + (b - 48) in
    cond-false _ _ _ (none_by (is_ascii_digit b) (ltb m (2 ^ 32)) (all_ascii_digits bs) (ltb (value_after m bs) (2 ^ 32)) (only_none (is_ascii_digit b && ltb m (2 ^ 32)) m e) (small_so_far m bs))

pub counted_all : (n : ℕ) → n < 2 ^ 32 → counted n [] ≡ Some n
counted_all n h = cond-true (ltb n (2 ^ 32)) (Some n) None (lt-ltb n (2 ^ 32) h)

-- the steps of a loop over the digits
pub counted_more : (n k : ℕ) (bs : List ℕ) (i : ℕ) → i < length bs → pushed n (get_or bs i 0) ≡ Some k → (k < 2 ^ 32) × (counted k (drop (i + 1) bs) ≡ counted n (drop i bs))
counted_more n k bs i h e = let y = counted_yes n (get_or bs i 0) k (drop (i + 1) bs) e in (y.0, sym (at_drop_more (counted n) bs i 0 h ∙ y.1))

pub counted_stop : (n : ℕ) (bs : List ℕ) (i : ℕ) → i < length bs → pushed n (get_or bs i 0) ≡ None → counted n (drop i bs) ≡ None
counted_stop n bs i h e = at_drop_more (counted n) bs i 0 h ∙ counted_no n (get_or bs i 0) (drop (i + 1) bs) e

-- what a numeral is: the way its number is written
own : IsNumeralModel (λ ds. all_ascii_digits ds ≡ true) value
own = numerals_by_fold _ tells_all_ascii_digits value_after (search rules)

misbegun_is : (bs : List ℕ) → misbegun bs ≡ false → (0 < length bs) × (get_or bs 0 0 ≡ 48 → length bs ≡ 1)
misbegun_is [] e = absurd (false≢true (sym e))
misbegun_is (b ∷ bs) e = (omega arith, λ z. omega (arith, ltb-false 0 (length bs) (⊎_elim (λ f. absurd (eqb-false b 48 f z)) (λ f. f) (and_cases (eqb b 48) (ltb 0 (length bs)) e))))

begun : (bs : List ℕ) → 0 < length bs → (get_or bs 0 0 ≡ 48 → length bs ≡ 1) → misbegun bs ≡ false
begun [] h one = absurd (omega arith)
begun (b ∷ bs) h one = ⊎_elim (λ z. and_right (eqb b 48) (ltb 0 (length bs)) (le-ltb 0 (length bs) (omega (arith, one z)))) (λ z. and_left (eqb b 48) (ltb 0 (length bs)) (ne_eqb b 48 z)) (cases_eq b 48)

not_misbegun : (t : Bool) (o : Option ℕ) (n : ℕ) → cond t None o ≡ Some n → (t ≡ false) × (o ≡ Some n)
not_misbegun true o n e = (cc, cc)
not_misbegun false o n e = (refl, e)

pub numeral_written : (bs : List ℕ) (n : ℕ) → numeral bs ≡ Some n → (bs ≡ decimal n) × (n < 2 ^ 32)
numeral_written bs n e =
    let p = not_misbegun (misbegun bs) (counted 0 bs) n e in
    let q = only_some (all_ascii_digits bs && ltb (value bs) (2 ^ 32)) (value bs) n p.1 in
    let d = and_parts (all_ascii_digits bs) (ltb (value bs) (2 ^ 32)) q.0 in
    let b = misbegun_is bs p.0 in
    let low : value bs < 2 ^ 32 = ltb-true (value bs) (2 ^ 32) d.1 in
    (sym (decimal-digits_value own bs d.0 b.0 b.1 (omega arith)) ∙ ap decimal q.1, omega (arith, q.1))

decimal_begun : (n : ℕ) → n < 2 ^ 64 → misbegun (decimal n) ≡ false
decimal_begun zero h = ap misbegun (decimal_digit 0 (omega arith))
decimal_begun (suc n) h = begun (decimal (suc n)) (decimal_nonempty (suc n) h) (λ e. let f = first_decimal (suc n) (omega arith) h in omega arith)

pub numeral_decimal : (n : ℕ) → n < 2 ^ 32 → numeral (decimal n) ≡ Some n
numeral_decimal n h =
    let wide : n < 2 ^ 64 = omega arith in
    let d = digits_decimal own n wide in
    let v = digits_value-decimal own n wide in
    let s : ltb (value (decimal n)) (2 ^ 32) ≡ true = ap (λ k. ltb k (2 ^ 32)) v ∙ lt-ltb n (2 ^ 32) h in
    cond-false (misbegun (decimal n)) None (counted 0 (decimal n)) (decimal_begun n wide)
    ∙ cond-true (all_ascii_digits (decimal n) && ltb (value (decimal n)) (2 ^ 32)) (Some (value (decimal n))) None (and_from _ _ d s)
    ∙ ap Some v

-- no byte of a number is the end of a field
free_digits : (end : ℕ) (bs : List ℕ) → is_ascii_digit end ≡ false → all_ascii_digits bs ≡ true → Free end bs
free_digits end [] f d = tt
free_digits end (b ∷ bs) f d = let p = and_parts (is_ascii_digit b) (all_ascii_digits bs) d in (λ e. true≢false (sym p.0 ∙ ap is_ascii_digit e ∙ f), free_digits end bs f p.1)

pub free_decimal : (end n : ℕ) → is_ascii_digit end ≡ false → n < 2 ^ 32 → Free end (decimal n)
free_decimal end n f h = free_digits end (decimal n) f (digits_decimal own n (omega arith))
