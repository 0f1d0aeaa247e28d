-- A round that grows by the letters of more participants.
use Rattle.std.proofs.Common.{◌≡◌, ℕ, zero, suc, ◌+◌, ◌-◌, ◌*◌, ◌^◌, ◌<◌, ◌≤◌, Bool, true, false, cond, List, [], ◌∷◌, ◌++◌, map, length, replicate, sym, refl, ap, ◌∙◌, mul_assoc, mul_comm, pow-suc, mul-add, arith}
use Rattle.std.proofs.lemmas.Nat.{pow_pos, pow-add, mul-le}
use Rattle.std.proofs.lemmas.List.{map-append, length-map}
use Rattle.scenarios.specs.declared.round.RoundScenario.{RoundScenario}
use Rattle.scenarios.specs.Masks.{pack}
use Rattle.scenarios.proofs.Masks.{pack_append, pack_below}
use Rattle.scenarios.specs.Letters.{in_primary, in_secondary, grown, Below}

pub pack_replicate : (len : ℕ) (b : Bool) → pack (replicate len b) ≡ cond b (2 ^ len - 1) 0
pack_replicate zero true = refl
pack_replicate zero false = refl
pack_replicate (suc n) true = let ih = pack_replicate n true in let p = pow-suc 2 n in let q = pow_pos n in omega arith
pack_replicate (suc n) false = let ih = pack_replicate n false in omega arith

map_replicate : {X : Type 0} (f : ℕ → X) (len x : ℕ) → map f (replicate len x) ≡ replicate len (f x)
map_replicate f zero x = refl
map_replicate f (suc n) x = ap (λ l. f x ∷ l) (map_replicate f n x)

pub pack_same : (f : ℕ → Bool) (len x : ℕ) → pack (map f (replicate len x)) ≡ cond (f x) (2 ^ len - 1) 0
pack_same f len x = ap pack (map_replicate f len x) ∙ pack_replicate len (f x)

pub grown_none : (r : RoundScenario) (start : ℕ) → grown r start [] ≡ r
grown_none r start = λ i. record { leader = r.leader; primary = none r.primary i; secondary = none r.secondary i }
  where
    none : (m : ℕ) → m + 2 ^ start * 0 ≡ m
    none m = omega arith

more : (f : ℕ → Bool) (m start : ℕ) (xs ys : List ℕ)
    → m + 2 ^ start * pack (map f xs) + 2 ^ (start + length xs) * pack (map f ys) ≡ m + 2 ^ start * pack (map f (xs ++ ys))
more f m start xs ys =
    let e = ap pack (map-append f xs ys) ∙ pack_append (map f xs) (map f ys) ∙ ap (λ k. pack (map f xs) + 2 ^ k * pack (map f ys)) (length-map xs f) in
    let w : ℕ = 2 ^ start in
    let v : ℕ = 2 ^ length xs in
    let a : ℕ = pack (map f xs) in
    let b : ℕ = pack (map f ys) in
    let p : 2 ^ (start + length xs) * b ≡ w * (v * b) = ap (λ k. k * b) (pow-add 2 start (length xs)) ∙ mul_assoc w v b in
    let q : w * pack (map f (xs ++ ys)) ≡ w * a + w * (v * b) = ap (λ k. w * k) e ∙ mul-add w a (v * b) in
    omega arith

pub grown_more : (r : RoundScenario) (start at : ℕ) (xs ys : List ℕ) → start + length xs ≡ at → grown (grown r start xs) at ys ≡ grown r start (xs ++ ys)
grown_more r start at xs ys e =
    ap (λ k. grown (grown r start xs) k ys) (sym e)
    ∙ (λ i. record { leader = r.leader; primary = more in_primary r.primary start xs ys i; secondary = more in_secondary r.secondary start xs ys i })

rises : (f : ℕ → Bool) (m start : ℕ) (xs : List ℕ) → m < 2 ^ start → m + 2 ^ start * pack (map f xs) < 2 ^ (start + length xs)
rises f m start xs h =
    let w : ℕ = 2 ^ start in
    let v : ℕ = 2 ^ length xs in
    let a : ℕ = pack (map f xs) in
    let l : a < v = ap_less (length-map xs f) (pack_below (map f xs)) in
    let p = pow-add 2 start (length xs) in
    let m1 : w * (a + 1) ≤ w * v = mul-le w (a + 1) w v (omega arith) (omega arith) in
    let m2 : w * (a + 1) ≡ w * a + w * 1 = mul-add w a 1 in
    omega arith
  where
    ap_less : {j k a : ℕ} → j ≡ k → a < 2 ^ j → a < 2 ^ k
    ap_less e l = rw (← e) l

pub grown_below : (r : RoundScenario) (start at : ℕ) (xs : List ℕ) → start + length xs ≡ at → Below start r → Below at (grown r start xs)
grown_below r start at xs e b =
    rw (← e) (record { primary_below = rises in_primary r.primary start xs b.primary_below; secondary_below = rises in_secondary r.secondary start xs b.secondary_below })

same_part : (f : ℕ → Bool) (m start len x p : ℕ) → p ≡ m + cond (f x) ((2 ^ len - 1) * 2 ^ start) 0 → p ≡ m + 2 ^ start * pack (map f (replicate len x))
same_part f m start len x p e = go (f x) (pack_same f len x) e
  where
    go : (b : Bool) → pack (map f (replicate len x)) ≡ cond b (2 ^ len - 1) 0 → p ≡ m + cond b ((2 ^ len - 1) * 2 ^ start) 0 → p ≡ m + 2 ^ start * pack (map f (replicate len x))
    go true k h = h ∙ ap (λ y. m + y) (mul_comm (2 ^ len - 1) (2 ^ start) ∙ ap (λ y. 2 ^ start * y) (sym k))
    go false k h = h ∙ ap (λ y. m + y) (let z : 0 ≡ 2 ^ start * 0 = omega arith in z ∙ ap (λ y. 2 ^ start * y) (sym k))

-- one part more, all of one letter
pub grown_part : (r : RoundScenario) (start len x p q : ℕ)
    → p ≡ r.primary + cond (in_primary x) ((2 ^ len - 1) * 2 ^ start) 0
    → q ≡ r.secondary + cond (in_secondary x) ((2 ^ len - 1) * 2 ^ start) 0
    → ◌≡◌ {A = RoundScenario} (record { leader = r.leader; primary = p; secondary = q }) (grown r start (replicate len x))
grown_part r start len x p q hp hq =
    λ i. record { leader = r.leader; primary = same_part in_primary r.primary start len x p hp i; secondary = same_part in_secondary r.secondary start len x q hq i }
