-- How many rounds an edge stands for: at least one, and never more than 128 bits hold.
use Rattle.std.proofs.Common.{◌≡◌, ℕ, zero, suc, ◌+◌, ◌-◌, ◌*◌, ◌^◌, ◌<◌, ◌≤◌, Bool, true, false, eqb, ◌⊎◌, List, [], ◌∷◌, ◌++◌, length, get_or, take, drop, sym, ap, ◌∙◌, subst, inl, inr, mul_assoc, mul_comm, mul-one, arith}
use Rattle.std.specs.List.{AllByRecursion}
use Rattle.std.proofs.lemmas.Nat.{mul-le, pow-add}
use Rattle.std.proofs.lemmas.List.{take-append-drop, take_more, length-take-le}
use Rattle.std.proofs.lemmas.Bool.{cases_eq, eq-eqb, ne_eqb}
use Rattle.scenarios.specs.Cells.{total}
use Rattle.scenarios.specs.Turns.{Turn, choose, free, ways, weight_from, weight}
use Rattle.scenarios.specs.Fits.{Split, Fills, Fits}
use Rattle.scenarios.proofs.Celling.{some_part}
use Rattle.scenarios.proofs.Compositions.{length_filled}
use Rattle.scenarios.proofs.Subsets.{choose_table}

-- four to the power k, as the bits of k participants in two masks

choose_under : (k : ℕ) → k ≤ 4 → (1 ≤ choose k) × (choose k ≤ 4 ^ k)
choose_under zero h = let t = choose_table.0 in (omega arith, omega arith)
choose_under (suc zero) h = let t = choose_table.1 in (omega arith, omega arith)
choose_under (suc (suc zero)) h = let t = choose_table.2 in (omega arith, omega arith)
choose_under (suc (suc (suc zero))) h = let t = choose_table.3 in (omega arith, omega arith)
choose_under (suc (suc (suc (suc zero)))) h = let t = choose_table.4 in (omega arith, omega arith)
choose_under (suc (suc (suc (suc (suc k))))) h = absurd (omega arith)

pub four_mono : (j k : ℕ) → j ≤ k → 4 ^ j ≤ 4 ^ k
four_mono j k h =
    let e = pow-add 4 j (k - j) in
    let s : j + (k - j) ≡ k = omega arith in
    let e' : 4 ^ k ≡ 4 ^ j * 4 ^ (k - j) = ap (λ x. 4 ^ x) (sym s) ∙ e in
    let p = four_some (k - j) in
    let m = mul-le (4 ^ j) 1 (4 ^ j) (4 ^ (k - j)) (omega arith) p in
    omega arith
  where
    four_some : (i : ℕ) → 1 ≤ 4 ^ i
    four_some zero = omega arith
    four_some (suc i) = let e = pow-add 4 i 1 in let q : i + 1 ≡ suc i = omega arith in let e' : 4 ^ suc i ≡ 4 ^ i * 4 = ap (λ x. 4 ^ x) (sym q) ∙ e in let h = four_some i in omega arith

pub ways_some : (led : Bool) (c : ℕ) (ps : List ℕ) → Split led c ps → 1 ≤ ways led ps
ways_some true c ps s = let h = (choose_under (free true ps) s.few).0 in omega arith
ways_some false c ps s = let h = (choose_under (free false ps) s.few).0 in omega arith

ways_free : (c : ℕ) (ps : List ℕ) → Split false c ps → ways false ps ≤ 4 ^ c
ways_free c ps s =
    let h = (choose_under (free false ps) s.few).1 in
    let l = length_filled ps s.filled in
    let w = s.whole in
    let le : free false ps ≤ c = omega arith in
    let m = four_mono (free false ps) c le in
    omega arith

ways_led : (c : ℕ) (ps : List ℕ) → 0 < c → Split true c ps → 4 * ways true ps ≤ 3 * 4 ^ c
ways_led c ps p s =
    let h = (choose_under (free true ps) s.few).1 in
    let l = length_filled ps s.filled in
    let w = s.whole in
    let le : free true ps ≤ c - 1 = omega arith in
    let m = four_mono (free true ps) (c - 1) le in
    let q : c - 1 + 1 ≡ c = omega arith in
    let e : 4 ^ c ≡ 4 ^ (c - 1) * 4 = ap (λ x. 4 ^ x) (sym q) ∙ pow-add 4 (c - 1) 1 in
    omega arith

-- some part is led, or none is

weight_some_from : (l i : ℕ) (cs : List ℕ) (f : List (List ℕ)) → Fills l i cs f → 1 ≤ weight_from l i f
weight_some_from l i [] [] h = omega arith
weight_some_from l i [] (ps ∷ f) h = absurd h
weight_some_from l i (c ∷ cs) [] h = absurd h
weight_some_from l i (c ∷ cs) (ps ∷ f) h =
    mul-le 1 1 (ways (eqb i l) ps) (weight_from l (i + 1) f) (ways_some (eqb i l) c ps h.0) (weight_some_from l (i + 1) cs f h.1)

ways_under : (b : Bool) (c : ℕ) (ps : List ℕ) → Split b c ps → ways b ps ≤ 4 ^ c
ways_under true c ps s =
    let some : 0 < c = omega (arith, some_part c ps s, length_filled ps s.filled, s.whole) in
    let h = ways_led c ps some s in
    omega arith
ways_under false c ps s = ways_free c ps s

pub weight_under : (l i : ℕ) (cs : List ℕ) (f : List (List ℕ)) → Fills l i cs f → weight_from l i f ≤ 4 ^ total cs
weight_under l i [] [] h = omega arith
weight_under l i [] (ps ∷ f) h = absurd h
weight_under l i (c ∷ cs) [] h = absurd h
weight_under l i (c ∷ cs) (ps ∷ f) h =
    let m = mul-le (ways (eqb i l) ps) (weight_from l (i + 1) f) (4 ^ c) (4 ^ total cs) (ways_under (eqb i l) c ps h.0) (weight_under l (i + 1) cs f h.1) in
    let e = pow-add 4 c (total cs) in
    omega arith

weight_led : (l i : ℕ) (cs : List ℕ) (f : List (List ℕ)) → AllByRecursion (λ c. 0 < c) cs → Fills l i cs f → i ≤ l → l < i + length cs → 4 * weight_from l i f ≤ 3 * 4 ^ total cs
weight_led l i [] f p h a b = absurd (omega arith)
weight_led l i (c ∷ cs) [] p h a b = absurd h
weight_led l i (c ∷ cs) (ps ∷ f) p h a b = go (cases_eq i l) (weight_led l (i + 1) cs f p.1 h.1)
  where
    rest : weight_from l (i + 1) f ≤ 4 ^ total cs
    rest = weight_under l (i + 1) cs f h.1

    all : 4 ^ (c + total cs) ≡ 4 ^ c * 4 ^ total cs
    all = pow-add 4 c (total cs)

    go : (i ≡ l) ⊎ (i ≡ l → ⊥) → (i + 1 ≤ l → l < i + 1 + length cs → 4 * weight_from l (i + 1) f ≤ 3 * 4 ^ total cs) → 4 * (ways (eqb i l) ps * weight_from l (i + 1) f) ≤ 3 * 4 ^ (c + total cs)
    go (inl e) ih =
        let s : Split true c ps = subst (λ t. Split t c ps) (eq-eqb i l e) h.0 in
        let w : 4 * ways (eqb i l) ps ≤ 3 * 4 ^ c = subst (λ t. 4 * ways t ps ≤ 3 * 4 ^ c) (sym (eq-eqb i l e)) (ways_led c ps p.0 s) in
        let m = mul-le (4 * ways (eqb i l) ps) (weight_from l (i + 1) f) (3 * 4 ^ c) (4 ^ total cs) w rest in
        let x = mul_assoc 4 (ways (eqb i l) ps) (weight_from l (i + 1) f) in
        let y = mul_assoc 3 (4 ^ c) (4 ^ total cs) in
        omega (arith, all)
    go (inr e) ih =
        let s : Split false c ps = subst (λ t. Split t c ps) (ne_eqb i l e) h.0 in
        let w : ways (eqb i l) ps ≤ 4 ^ c = subst (λ t. ways t ps ≤ 4 ^ c) (sym (ne_eqb i l e)) (ways_free c ps s) in
        let k = ih (omega arith) (omega arith) in
        let m = mul-le (ways (eqb i l) ps) (4 * weight_from l (i + 1) f) (4 ^ c) (3 * 4 ^ total cs) w k in
        let x : ways (eqb i l) ps * (4 * weight_from l (i + 1) f) ≡ 4 * (ways (eqb i l) ps * weight_from l (i + 1) f) = sym (mul_assoc (ways (eqb i l) ps) 4 (weight_from l (i + 1) f)) ∙ ap (λ z. z * weight_from l (i + 1) f) (mul_comm (ways (eqb i l) ps) 4) ∙ mul_assoc 4 (ways (eqb i l) ps) (weight_from l (i + 1) f) in
        let y : 4 ^ c * (3 * 4 ^ total cs) ≡ 3 * (4 ^ c * 4 ^ total cs) = sym (mul_assoc (4 ^ c) 3 (4 ^ total cs)) ∙ ap (λ z. z * 4 ^ total cs) (mul_comm (4 ^ c) 3) ∙ mul_assoc 3 (4 ^ c) (4 ^ total cs) in
        omega (arith, all)

pub weight_some : (cs : List ℕ) (t : Turn) → Fits cs t → 1 ≤ weight t
unfolding weight
weight_some cs t h = weight_some_from t.leader 0 cs t.fill h.split

pub weight_small : (n : ℕ) (cs : List ℕ) (t : Turn) → n ≤ 64 → total cs ≤ n → AllByRecursion (λ c. 0 < c) cs → Fits cs t → weight t < 2 ^ 128
unfolding weight
weight_small n cs t h w p f =
    let a = weight_led t.leader 0 cs t.fill p f.split (omega arith) (let l = f.leads in omega arith) in
    let m = four_mono (total cs) 64 (omega arith) in
    omega arith

-- the weight of the first cells

pub weight_append : (l i : ℕ) (f g : List (List ℕ)) → weight_from l i (f ++ g) ≡ weight_from l i f * weight_from l (i + length f) g
weight_append l i [] g = let e : i ≡ i + 0 = omega arith in ap (λ k. weight_from l k g) e ∙ (let z : weight_from l (i + 0) g ≡ 1 * weight_from l (i + 0) g = omega arith in z)
weight_append l i (ps ∷ f) g =
    let e : i + 1 + length f ≡ i + suc (length f) = omega arith in
    ap (λ k. ways (eqb i l) ps * k) (weight_append l (i + 1) f g ∙ ap (λ k. weight_from l (i + 1) f * weight_from l k g) e)
    ∙ sym (mul_assoc (ways (eqb i l) ps) (weight_from l (i + 1) f) (weight_from l (i + suc (length f)) g))

pub weight_more : (l : ℕ) (f : List (List ℕ)) (k : ℕ) → k < length f → weight_from l 0 (take (k + 1) f) ≡ weight_from l 0 (take k f) * ways (eqb k l) (get_or f k [])
weight_more l f k h =
    let e : 0 + length (take k f) ≡ k = let q = length-take-le k f (omega arith) in omega arith in
    ap (weight_from l 0) (take_more f k [] h)
    ∙ weight_append l 0 (take k f) (get_or f k [] ∷ [])
    ∙ ap (λ j. weight_from l 0 (take k f) * (ways (eqb j l) (get_or f k []) * 1)) e
    ∙ ap (λ x. weight_from l 0 (take k f) * x) (mul-one (ways (eqb k l) (get_or f k [])))

fills_drop : (l i k : ℕ) (cs : List ℕ) (f : List (List ℕ)) → Fills l i cs f → Fills l (i + k) (drop k cs) (drop k f)
fills_drop l i zero cs f h = subst (λ j. Fills l j cs f) (let e : i ≡ i + 0 = omega arith in e) h
fills_drop l i (suc k) [] [] h = tt
fills_drop l i (suc k) [] (ps ∷ f) h = absurd h
fills_drop l i (suc k) (c ∷ cs) [] h = absurd h
fills_drop l i (suc k) (c ∷ cs) (ps ∷ f) h = subst (λ j. Fills l j (drop k cs) (drop k f)) (let e : i + 1 + k ≡ i + suc k = omega arith in e) (fills_drop l (i + 1) k cs f h.1)

pub weight_front : (cs : List ℕ) (t : Turn) (k : ℕ) → Fits cs t → k ≤ length t.fill → weight_from t.leader 0 (take k t.fill) ≤ weight t
unfolding weight
weight_front cs t k h b =
    let l = t.leader in
    let f = t.fill in
    let q = length-take-le k f b in
    let e : weight_from l 0 f ≡ weight_from l 0 (take k f) * weight_from l (0 + length (take k f)) (drop k f) = ap (weight_from l 0) (sym (take-append-drop k f)) ∙ weight_append l 0 (take k f) (drop k f) in
    let z : 0 + length (take k f) ≡ 0 + k = omega arith in
    let s : 1 ≤ weight_from l (0 + length (take k f)) (drop k f) = subst (λ j. 1 ≤ weight_from l j (drop k f)) (sym z) (weight_some_from l (0 + k) (drop k cs) (drop k f) (fills_drop l 0 k cs f h.split)) in
    let m = mul-le (weight_from l 0 (take k f)) 1 (weight_from l 0 (take k f)) (weight_from l (0 + length (take k f)) (drop k f)) (omega arith) s in
    omega arith
