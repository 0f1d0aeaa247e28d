-- One draw, and many.
use Rattle.std.proofs.Common.{◌≡◌, ℕ, zero, suc, ◌+◌, ◌-◌, ◌%◌, ◌<◌, ◌≤◌, Bool, true, false, cond, ◌⊎◌, List, [], ◌∷◌, ◌++◌, length, get_or, Some, None, Ok, Err, Option, sym, refl, ap, ◌∙◌, subst, inl, inr, arith}
use Rattle.refusals.specs.declared.Refusal.{Refusal}
use Rattle.std.proofs.lemmas.List.{append_assoc, append-nil}
use Rattle.std.proofs.lemmas.Bool.{cond-true, cond-false, cases_Bool}
use Rattle.words.specs.Words.{Words, spent, fewer, past, Taken}
use Rattle.words.specs.Draws.{Draw, Draws, draw, draws, onward, Drawn, WordsUsed}

pub draw_taken : (b x : ℕ) (w w' : Words) → Taken w (Ok x) w' → draw b w ≡ record { number = Some (x % (b + 1)); rest = w' }
unfolding draw
draw_taken b x w w' t =
    let e = t.1 in
    let l = t.2 in
    cond-false (spent w) _ _ t.0 ∙ (λ i. record { number = Some (sym e i % (b + 1)); rest = sym l i })

pub draw_spent : (b : ℕ) (e : Refusal) (w w' : Words) → Taken w (Err e) w' → Drawn b w (Err e) w'
unfolding draw
draw_spent b e w w' t = (t.1, cond-true (spent w) _ _ t.0 ∙ (λ i. record { number = None; rest = sym t.2 i }))

-- a number drawn is at most the bound
pub draw_below : (b x : ℕ) (w w' : Words) → draw b w ≡ record { number = Some x; rest = w' } → x ≤ b
unfolding draw
draw_below b x w w' e = go (spent w) e
  where
    go : (s : Bool) → ◌≡◌ {A = Draw} (cond s (record { number = None; rest = w }) (record { number = Some (w.word 0 % (b + 1)); rest = past 1 w })) (record { number = Some x; rest = w' }) → x ≤ b
    go true q = let s : None ≡ Some x = ap (λ d. d.number) q in absurd (let z : ◌≡◌ {A = ℕ} 0 1 = cc in omega arith)
    go false q = let s : Some (w.word 0 % (b + 1)) ≡ Some x = ap (λ d. d.number) q in let z : w.word 0 % (b + 1) ≡ x = cc in omega arith

-- draws up to the bounds bs from w gave the numbers ts and left w', and those up to bs' are still to come
abbrev pub After : List ℕ → Words → List ℕ → List ℕ → Words → Type 0
After bs w ts bs' w' = draws bs w ≡ record { numbers = ts ++ (draws bs' w').numbers; rest = (draws bs' w').rest }

pub after_more : (bs ts bs' : List ℕ) (b x : ℕ) (w w' w'' : Words) → After bs w ts (b ∷ bs') w' → draw b w' ≡ record { number = Some x; rest = w'' } → After bs w (ts ++ (x ∷ [])) bs' w''
after_more bs ts bs' b x w w' w'' a e =
    a ∙ ap (λ d. record { numbers = ts ++ (onward d (draws bs' d.rest)).numbers; rest = (onward d (draws bs' d.rest)).rest }) e
    ∙ (λ i. record { numbers = sym (append_assoc ts (x ∷ []) (draws bs' w'').numbers) i; rest = (draws bs' w'').rest })

pub after_spent : (bs ts bs' : List ℕ) (b : ℕ) (w w' w'' : Words) → After bs w ts (b ∷ bs') w' → draw b w' ≡ record { number = None; rest = w'' } → draws bs w ≡ record { numbers = ts; rest = w'' }
after_spent bs ts bs' b w w' w'' a e =
    a ∙ ap (λ d. record { numbers = ts ++ (onward d (draws bs' d.rest)).numbers; rest = (onward d (draws bs' d.rest)).rest }) e
    ∙ (λ i. record { numbers = append-nil ts i; rest = w'' })

pub after_all : (bs ts : List ℕ) (w w' : Words) → After bs w ts [] w' → draws bs w ≡ record { numbers = ts; rest = w' }
after_all bs ts w w' a = a ∙ (λ i. record { numbers = append-nil ts i; rest = w' })

past_none : (w : Words) → w ≡ past 0 w
past_none w = λ i. record { left = same w.left i; word = λ j. w.word ((let e : j ≡ j + 0 = omega arith in e) i) }
  where
    same : (m : Option ℕ) → m ≡ fewer 0 m
    same None = refl
    same (Some k) = ap Some (let e : k ≡ k - 0 = omega arith in e)

past_past : (k : ℕ) (w : Words) → past k (past 1 w) ≡ past (suc k) w
past_past k w = λ i. record { left = same w.left i; word = λ j. w.word ((let e : j + k + 1 ≡ j + suc k = omega arith in e) i) }
  where
    same : (m : Option ℕ) → fewer k (fewer 1 m) ≡ fewer (suc k) m
    same None = refl
    same (Some m) = ap Some (let e : m - 1 - k ≡ m - suc k = omega arith in e)

used_none : (bs : List ℕ) (w : Words) → (0 < length bs → spent w ≡ true) → WordsUsed bs w (record { numbers = []; rest = w })
used_none bs w h = record { one_each = past_none w; remainders = λ i l. absurd (omega arith); no_more = omega arith; cut_short = h }

used_more : (b : ℕ) (bs : List ℕ) (w : Words) (d : Draws) → WordsUsed bs (past 1 w) d → WordsUsed (b ∷ bs) w (record { numbers = w.word 0 % (b + 1) ∷ d.numbers; rest = d.rest })
used_more b bs w d u = record {
  one_each = u.one_each ∙ past_past (length d.numbers) w;
  remainders = each;
  no_more = let h = u.no_more in omega arith;
  cut_short = λ l. u.cut_short (omega arith);
}
  where
    each : (i : ℕ) → i < suc (length d.numbers) → get_or (w.word 0 % (b + 1) ∷ d.numbers) i 0 ≡ w.word i % (get_or (b ∷ bs) i 0 + 1)
    each zero l = refl
    each (suc i) l = u.remainders i (omega arith) ∙ ap (λ k. w.word k % (get_or bs i 0 + 1)) (let e : i + 1 ≡ suc i = omega arith in e)

pub words_used : (bs : List ℕ) (w : Words) → WordsUsed bs w (draws bs w)
unfolding draw
words_used [] w = used_none [] w (λ l. absurd (omega arith))
words_used (b ∷ bs) w = go (cases_Bool (spent w)) (words_used bs (past 1 w))
  where
    go : (spent w ≡ true) ⊎ (spent w ≡ false) → WordsUsed bs (past 1 w) (draws bs (past 1 w)) → WordsUsed (b ∷ bs) w (draws (b ∷ bs) w)
    go (inl s) u = subst (λ d. WordsUsed (b ∷ bs) w (onward d (draws bs d.rest))) (sym (cond-true (spent w) _ _ s)) (used_none (b ∷ bs) w (λ _. s))
    go (inr s) u = subst (λ d. WordsUsed (b ∷ bs) w (onward d (draws bs d.rest))) (sym (cond-false (spent w) _ _ s)) (used_more b bs w (draws bs (past 1 w)) u)

-- and so are the numbers of many draws
pub draws_below : (bs : List ℕ) (w : Words) (i : ℕ) → i < length (draws bs w).numbers → get_or (draws bs w).numbers i 0 ≤ get_or bs i 0
draws_below [] w i h = absurd (omega arith)
draws_below (b ∷ bs) w i h = go (draw b w).number (λ x e. draw_below b x w (draw b w).rest (λ k. record { number = e k; rest = (draw b w).rest })) (draws_below bs (draw b w).rest) i h
  where
    go : (m : Option ℕ) → ((x : ℕ) → m ≡ Some x → x ≤ b) → ((k : ℕ) → k < length (draws bs (draw b w).rest).numbers → get_or (draws bs (draw b w).rest).numbers k 0 ≤ get_or bs k 0)
        → (j : ℕ) → j < length (onward (record { number = m; rest = (draw b w).rest }) (draws bs (draw b w).rest)).numbers → get_or (onward (record { number = m; rest = (draw b w).rest }) (draws bs (draw b w).rest)).numbers j 0 ≤ get_or (b ∷ bs) j 0
    go None low ih j l = absurd (omega arith)
    go (Some x) low ih zero l = low x refl
    go (Some x) low ih (suc j) l = ih j (omega arith)

-- there are no more numbers than bounds
pub draws_few : (bs : List ℕ) (w : Words) → length (draws bs w).numbers ≤ length bs
draws_few [] w = omega arith
draws_few (b ∷ bs) w = go (draw b w).number (draws_few bs (draw b w).rest)
  where
    go : (m : Option ℕ) → length (draws bs (draw b w).rest).numbers ≤ length bs → length (onward (record { number = m; rest = (draw b w).rest }) (draws bs (draw b w).rest)).numbers ≤ suc (length bs)
    go None ih = omega arith
    go (Some x) ih = omega arith
