-- What counting leaves in the slots: each state that rounds can lead to, depth by depth, with the number of scenarios that continue from it.
use Rattle.std.specs.Prelude.{◌≡◌, ℕ, zero, suc, ◌-◌, ◌^◌, ◌<◌, ◌≤◌, Bool, false, cond, ◌&&◌, ◌||◌, ◌⊎◌, List, [], ◌∷◌, ◌++◌, map, length, drop, replicate, ◌==◌, nat_eq}
use Rattle.std.specs.List.{range_with_len, flat_map}
use Rattle.scenarios.specs.Cells.{cells, boundaries}
use Rattle.scenarios.specs.Turns.{turns, after}
use Rattle.refusals.specs.declared.Refusal.{Refusal}
use Rattle.refusals.specs.Refusals.{number_of}
use Rattle.table.specs.declared.Entry.{Entry}
use Rattle.scenarios.specs.declared.counting.Place.{Place}
use Rattle.scenarios.specs.Scenarios.{count}

-- the states that one more round leads to, in the order of turns
abbrev pub nexts : ℕ → ℕ → List ℕ
nexts n s = map (λ t. boundaries (after t)) (turns (cells n s))

-- whether x stands in the list, by a test of two elements
abbrev pub member : {X : Type 0} → (X → X → Bool) → X → List X → Bool
member same x [] = false
member same x (y ∷ ys) = same y x || member same x ys

-- those seen, and behind them one that is new
abbrev pub note : {X : Type 0} → (X → X → Bool) → List X → X → List X
note same seen x = cond (member same x seen) seen (seen ++ (x ∷ []))

-- those seen, and behind them each new one, in order of arrival
abbrev pub noted : {X : Type 0} → (X → X → Bool) → List X → List X → List X
noted same seen [] = seen
noted same seen (x ∷ xs) = noted same (note same seen x) xs

-- the states after d rounds, in order of arrival
abbrev pub layer : ℕ → ℕ → List ℕ
layer n zero = 0 ∷ []
layer n (suc d) = noted nat_eq [] (flat_map (nexts n) (layer n d))

-- the state s after d rounds
abbrev pub place : ℕ → ℕ → Place
place d s = record { depth = d; state = record { boundaries = s } }

-- whether two places are the same
abbrev pub same_place : Place → Place → Bool
same_place p q = p.depth == q.depth && p.state.boundaries == q.state.boundaries

-- the places of the first d depths
abbrev pub places_before : ℕ → ℕ → List Place
places_before n d = flat_map (λ k. map (place k) (layer n k)) (range_with_len 0 d)

-- the places of all depths from 0 to R
abbrev pub places : ℕ → ℕ → List Place
places n R = places_before n (suc R)

-- a slot has a place and a number
abbrev pub Slot : Type 0
Slot = Entry Place ℕ

-- a place with how many scenarios continue from it to depth R
abbrev pub entry : ℕ → ℕ → Place → Slot
entry n R p = record { key = p; value = count (R - p.depth) (cells n p.state.boundaries) }

-- all places with their numbers
unfoldable pub entries : ℕ → ℕ → List Slot
entries n R = map (entry n R) (places n R)

-- the slots suffice, v is the total and fits, and the slots xs become ys: the entries, and behind them what was there
abbrev pub CountedAs : ℕ → ℕ → List Slot → ℕ → List Slot → Type 0
CountedAs n R xs v ys =
    (length (entries n R) ≤ length xs) × (v ≡ count R (n ∷ [])) × (v < 2 ^ 64) × (ys ≡ entries n R ++ drop (length (entries n R)) xs)

-- an empty slot
abbrev pub zero_slot : Slot
zero_slot = record { key = place 0 0; value = 0 }

-- there are too few slots, or they suffice and the total is too large
abbrev pub Cause : ℕ → ℕ → List Slot → Refusal → Type 0
Cause n R xs e =
    ((number_of e ≡ 8) × (length xs < length (entries n R)))
    ⊎ ((number_of e ≡ 9) × (length (entries n R) ≤ length xs) × (2 ^ 64 ≤ count R (n ∷ [])))

-- the refusal e has its cause, and all slots are empty then
abbrev pub RefusedAs : ℕ → ℕ → List Slot → Refusal → List Slot → Type 0
RefusedAs n R xs e ys = Cause n R xs e × (ys ≡ replicate (length xs) zero_slot)
