-- The turns that a walk has yet to see.
use Rattle.std.proofs.Common.{◌≡◌, ℕ, zero, suc, ◌+◌, ◌<◌, List, [], ◌∷◌, ◌++◌, map, length, drop, Some, None, Option, sym, refl, ap, ◌∙◌, arith}
use Rattle.std.specs.List.{slice_get}
use Rattle.std.proofs.lemmas.List.{length-append, append_assoc, drop-drop}
use Rattle.scenarios.specs.declared.edge.Edges.{Edges}
use Rattle.scenarios.specs.Cells.{CellsOf}
use Rattle.scenarios.specs.Turns.{Turn, turns}
use Rattle.scenarios.specs.Fits.{Among}
use Rattle.scenarios.specs.Steps.{first_of, first_turn, next_turn}
use Rattle.scenarios.specs.Edges.{cells_at, turn_at, Begun, Moved, onward, left_of}
use Rattle.scenarios.proofs.Walks.{turns_fit, turns_begin, turns_walk}
use Rattle.scenarios.proofs.Filling.{cells_long}

-- where a step leads
abbrev onwards : ℕ → List ℕ → Option Turn → List Turn
onwards k cs o = elim o [ None ↦ [] | Some u ↦ onward k cs u ]

onward_is : (n : ℕ) (cs : List ℕ) (b : List Turn) (t : Turn) (r : List Turn) (k : ℕ) → CellsOf n cs → turns cs ≡ b ++ (t ∷ r) → length r < k → onward k cs t ≡ t ∷ r
onward_is n cs b t r zero c e h = absurd (omega arith)
onward_is n cs b t [] (suc k) c e h = ap (λ o. t ∷ onwards k cs o) (turns_walk n cs c b t [] e)
onward_is n cs b t (u ∷ r) (suc k) c e h =
    ap (λ o. t ∷ onwards k cs o) (turns_walk n cs c b t (u ∷ r) e)
    ∙ ap (λ l. t ∷ l) (onward_is n cs (b ++ (t ∷ [])) u r k c (e ∙ sym (append_assoc b (t ∷ []) (u ∷ r))) (omega arith))

module _ (e : Edges) where
  -- the walk stands at one of the turns, and the rest is left
  pub left_split : (b r : List Turn) → turns (cells_at e) ≡ b ++ (turn_at e ∷ r) → left_of e ≡ turn_at e ∷ r
  unfolding left_of
  left_split b r s =
      let l = ap length s ∙ length-append b (turn_at e ∷ r) in
      onward_is e.participants.number (cells_at e) b (turn_at e) r (length (turns (cells_at e))) e.stands.whole s (omega arith)

  pub left_among : Among (turns (cells_at e)) (turn_at e)
  left_among = (turns_fit e.participants.number (cells_at e) e.stands.whole (turn_at e)).1 e.stands.fits

-- the turn at which the walk stands is the first that is left
pub left_here : (e : Edges) → (rest : List Turn) × (left_of e ≡ turn_at e ∷ rest)
left_here e = go (left_among e)
  where
    go : Among (turns (cells_at e)) (turn_at e) → (rest : List Turn) × (left_of e ≡ turn_at e ∷ rest)
    go (b, r, s) = (r, left_split e b r s)

-- at the start all turns are left
pub left_begun : (n : ℕ) (cs : List ℕ) (e : Edges) → Begun n cs e → left_of e ≡ turns cs
left_begun n cs e b = go (turns cs) refl
  where
    some : 0 < length (cells_at e)
    some = omega (arith, cells_long e.cells.items, e.stands.some)

    starts : first_of (turns (cells_at e)) ≡ Some (first_turn (cells_at e))
    starts = turns_begin e.participants.number (cells_at e) e.stands.whole some

    at : turn_at e ≡ first_turn (cells_at e)
    at = b.first ∙ ap first_turn (sym b.at)

    go : (ts : List Turn) → turns cs ≡ ts → left_of e ≡ turns cs
    go [] q = absurd (let z : ◌≡◌ {A = Option Turn} None (Some (first_turn (cells_at e))) = sym (ap first_of (ap turns b.at ∙ q)) ∙ starts in let y : ◌≡◌ {A = ℕ} 0 1 = cc in omega arith)
    go (t ∷ ts) q =
        let s : turns (cells_at e) ≡ t ∷ ts = ap turns b.at ∙ q in
        let f : Some t ≡ Some (first_turn (cells_at e)) = sym (ap first_of s) ∙ starts in
        let same : t ≡ turn_at e = let g : t ≡ first_turn (cells_at e) = cc in g ∙ sym at in
        let s' : turns (cells_at e) ≡ [] ++ (turn_at e ∷ ts) = s ∙ ap (λ x. x ∷ ts) same in
        left_split e [] ts s' ∙ sym (ap (λ x. turns x) (sym b.at) ∙ s')

-- a step leaves one less
pub left_moved : (e f : Edges) → Moved e f → left_of e ≡ turn_at e ∷ left_of f
left_moved e f m = go (left_among e)
  where
    go : Among (turns (cells_at e)) (turn_at e) → left_of e ≡ turn_at e ∷ left_of f
    go (b, r, s) = next r s (turns_walk e.participants.number (cells_at e) e.stands.whole b (turn_at e) r s)
      where
        next : (r' : List Turn) → turns (cells_at e) ≡ b ++ (turn_at e ∷ r') → next_turn (cells_at e) (turn_at e) ≡ first_of r' → left_of e ≡ turn_at e ∷ left_of f
        next [] s' q = absurd (let z = sym m.next ∙ q in let y : ◌≡◌ {A = ℕ} 0 1 = cc in omega arith)
        next (u ∷ r') s' q =
            let z = sym m.next ∙ q in
            let same : turn_at f ≡ u = cc in
            let s'' : turns (cells_at f) ≡ (b ++ (turn_at e ∷ [])) ++ (turn_at f ∷ r') = ap turns m.at ∙ s' ∙ sym (append_assoc b (turn_at e ∷ []) (u ∷ r')) ∙ ap (λ x. (b ++ (turn_at e ∷ [])) ++ (x ∷ r')) (sym same) in
            left_split e b (u ∷ r') s' ∙ ap (λ l. turn_at e ∷ l) (ap (λ x. x ∷ r') (sym same) ∙ sym (left_split f (b ++ (turn_at e ∷ [])) r' s''))

-- at the last turn no other is left
pub left_ended : (e : Edges) → next_turn (cells_at e) (turn_at e) ≡ None → left_of e ≡ turn_at e ∷ []
left_ended e n = go (left_among e)
  where
    go : Among (turns (cells_at e)) (turn_at e) → left_of e ≡ turn_at e ∷ []
    go (b, r, s) = next r s (turns_walk e.participants.number (cells_at e) e.stands.whole b (turn_at e) r s)
      where
        next : (r' : List Turn) → turns (cells_at e) ≡ b ++ (turn_at e ∷ r') → next_turn (cells_at e) (turn_at e) ≡ first_of r' → left_of e ≡ turn_at e ∷ []
        next [] s' q = left_split e b [] s'
        next (u ∷ r') s' q = absurd (let z = sym n ∙ q in let y : ◌≡◌ {A = ℕ} 0 1 = cc in omega arith)

-- the turn at a place

pub drop_next : {X : Type 0} (xs : List X) (k : ℕ) (x : X) (rest : List X) → drop k xs ≡ x ∷ rest → drop (k + 1) xs ≡ rest
drop_next xs k x rest e = sym (drop-drop 1 k xs) ∙ ap (drop 1) e

pub nth_at : {X Y : Type 0} (f : X → Y) (xs : List X) (k : ℕ) (x : X) (rest : List X) → drop k xs ≡ x ∷ rest → slice_get (map f xs) k ≡ Some (f x)
nth_at f [] zero x rest e = absurd (let z : ◌≡◌ {A = ℕ} 0 1 = cc in omega arith)
nth_at f [] (suc k) x rest e = absurd (let z : ◌≡◌ {A = ℕ} 0 1 = cc in omega arith)
nth_at f (y ∷ xs) zero x rest e = let z : y ≡ x = cc in ap (λ u. Some (f u)) z
nth_at f (y ∷ xs) (suc k) x rest e = nth_at f xs k x rest e

pub nth_past : {X Y : Type 0} (f : X → Y) (xs : List X) (j k : ℕ) (x : X) → drop j xs ≡ x ∷ [] → j < k → slice_get (map f xs) k ≡ None
nth_past f [] j zero x e h = refl
nth_past f [] j (suc k) x e h = refl
nth_past f (y ∷ xs) zero zero x e h = absurd (omega arith)
nth_past f (y ∷ xs) zero (suc k) x e h = let z : xs ≡ [] = cc in ap (λ l. slice_get (map f l) k) z
nth_past f (y ∷ xs) (suc j) zero x e h = absurd (omega arith)
nth_past f (y ∷ xs) (suc j) (suc k) x e h = nth_past f xs j k x e (omega arith)
