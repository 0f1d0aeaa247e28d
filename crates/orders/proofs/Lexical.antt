-- The lexicographic order is total.
use Rattle.std.proofs.Common.{◌≡◌, ℕ, ◌⊎◌, List, [], ◌∷◌, sym, refl, ◌∙◌, inl, inr, ⊎_elim, arith}
use Rattle.std.proofs.lemmas.Bool.{cases_order}
use Rattle.orders.specs.Orders.{Order, Lex}

lex_total : (x y : List ℕ) → Lex x y ⊎ Lex y x
lex_total [] y = inl tt
lex_total (a ∷ x) [] = inr tt
lex_total (a ∷ x) (b ∷ y) =
    ⊎_elim (λ e. ⊎_elim (λ l. inl (inr (e, l))) (λ l. inr (inr (sym e, l))) (lex_total x y)) (⊎_elim (λ l. inl (inl l)) (λ l. inr (inl l))) (cases_order a b)

lex_trans : (x y z : List ℕ) → Lex x y → Lex y z → Lex x z
lex_trans [] y z h k = tt
lex_trans (a ∷ x) [] z h k = absurd h
lex_trans (a ∷ x) (b ∷ y) [] h k = absurd k
lex_trans (a ∷ x) (b ∷ y) (c ∷ z) (inl h) (inl k) = inl (omega arith)
lex_trans (a ∷ x) (b ∷ y) (c ∷ z) (inl h) (inr k) = inl (omega arith)
lex_trans (a ∷ x) (b ∷ y) (c ∷ z) (inr h) (inl k) = inl (omega arith)
lex_trans (a ∷ x) (b ∷ y) (c ∷ z) (inr h) (inr k) = inr (h.0 ∙ k.0, lex_trans x y z h.1 k.1)

lex_antisym : (x y : List ℕ) → Lex x y → Lex y x → x ≡ y
lex_antisym [] [] h k = refl
lex_antisym [] (b ∷ y) h k = absurd k
lex_antisym (a ∷ x) [] h k = absurd h
lex_antisym (a ∷ x) (b ∷ y) (inl h) (inl k) = absurd (omega arith)
lex_antisym (a ∷ x) (b ∷ y) (inl h) (inr k) = absurd (omega arith)
lex_antisym (a ∷ x) (b ∷ y) (inr h) (inl k) = absurd (omega arith)
lex_antisym (a ∷ x) (b ∷ y) (inr h) (inr k) = let e = lex_antisym x y h.1 k.1 in cc (e, h.0)

pub lex_order : Order Lex
lex_order = record { total = lex_total; trans = lex_trans; antisym = lex_antisym }
