use Rattle.std.proofs.Common.{◌≡◌, ℕ, ◌+◌, ◌-◌, Bool, true, false, cond, eqb, List, [], ◌∷◌, ◌++◌, length, take, drop, is_some, Some, None, Ok, Err, Option, Result, sym, refl, ap, ◌∙◌, arith}
use Rattle.std.proofs.lemmas.List.{take_at, drop_at, drop-drop, append_assoc, length_push}
use Rattle.std.proofs.lemmas.Bool.{eqb-true, ne_eqb, cond-true, cond-false, eq-eqb}
use Rattle.refusals.specs.declared.Refusal.{Refusal}
use Rattle.refusals.specs.declared.Refusal.TheVariants.{PlanLine as Fault}
use Rattle.text.specs.Lines.{first, end_of, part, Field, fault_from, field_at}

-- a reading that goes on with what came before
abbrev pub and_then : {X Y : Type 0} → Result X Refusal → (X → Result Y Refusal) → Result Y Refusal
and_then (Ok x) k = k x
and_then (Err e) k = Err e

-- WHERE A FIELD IS CUT

abbrev Split : ℕ → ℕ → ℕ → List ℕ → Type 0
Split end at e bs = (p : List ℕ) × (r : List ℕ) × (bs ≡ p ++ end ∷ r) × (e ≡ at + length p)

split_by : (t : Bool) (end at e b : ℕ) (bs : List ℕ) → eqb b end ≡ t → cond t (Some at) (first end (at + 1) bs) ≡ Some e → (first end (at + 1) bs ≡ Some e → Split end (at + 1) e bs) → Split end at e (b ∷ bs)
split_by true end at e b bs w q more = let same : at ≡ e = cc in ([], bs, ap (λ x. x ∷ bs) (eqb-true b end w), omega arith)
split_by false end at e b bs w q more = let s = more q in (b ∷ s.0, s.1, ap (λ l. b ∷ l) s.2, omega (arith, s.3))

pub first_split : (end at e : ℕ) (bs : List ℕ) → first end at bs ≡ Some e → Split end at e bs
first_split end at e [] q = let z : ◌≡◌ {A = ℕ} 0 1 = cc in absurd (omega arith)
first_split end at e (b ∷ bs) q = split_by (eqb b end) end at e b bs refl q (first_split end (at + 1) e bs)

-- no byte of these is `end`
abbrev pub Free : ℕ → List ℕ → Type 0
Free end [] = Unit {0}
Free end (b ∷ bs) = (b ≡ end → ⊥) × Free end bs

pub first_past : (end at : ℕ) (p r : List ℕ) → Free end p → first end at (p ++ end ∷ r) ≡ Some (at + length p)
first_past end at [] r f = cond-true (eqb end end) (Some at) (first end (at + 1) r) (eq-eqb end end refl) ∙ ap Some (omega arith)
first_past end at (b ∷ p) r f = cond-false (eqb b end) (Some at) (first end (at + 1) (p ++ end ∷ r)) (ne_eqb b end f.0) ∙ first_past end (at + 1) p r f.1 ∙ ap Some (omega arith)

pub part_is : (text p r : List ℕ) (at end e : ℕ) → drop at text ≡ p ++ end ∷ r → e ≡ at + length p → part text at e ≡ p
part_is text p r at end e s q = ap (λ l. take (e - at) l) s ∙ take_at p (end ∷ r) (e - at) (omega arith)

pub rest_is : (text p r : List ℕ) (at end e : ℕ) → drop at text ≡ p ++ end ∷ r → e ≡ at + length p → drop (e + 1) text ≡ r
rest_is text p r at end e s q =
    let n : e + 1 ≡ at + (length p + 1) = omega arith in
    ap (λ k. drop k text) n ∙ sym (drop-drop (length p + 1) at text) ∙ ap (drop (length p + 1)) (s ∙ sym (append_assoc p (end ∷ []) r)) ∙ drop_at (p ++ end ∷ []) r (length p + 1) (length_push p end)

-- A FIELD THAT IS FINE

held_ok : {X Y : Type 0} (h : Option X) (at b : ℕ) (k : X × ℕ → Result Y Refusal) (y : Y) → and_then {X = X × ℕ} {Y = Y} (elim h [ None ↦ Err (Fault at) | Some x ↦ Ok (x, b) ]) k ≡ Ok y → (x : X) × (h ≡ Some x) × (k (x, b) ≡ Ok y)
held_ok None at b k y q = let z : ◌≡◌ {A = ℕ} 0 1 = cc in absurd (omega arith)
held_ok (Some x) at b k y q = (x, refl, q)

abbrev pub Got : {X : Type 0} → (List ℕ → Option X) → List ℕ → ℕ → ℕ → X → ℕ → Type 0
Got held text at end x b = (p : List ℕ) × (drop at text ≡ p ++ end ∷ drop b text) × (held p ≡ Some x)

end_ok : {X Y : Type 0} (o : Option ℕ) (held : List ℕ → Option X) (text : List ℕ) (at end : ℕ) (k : X × ℕ → Result Y Refusal) (y : Y) → end_of text at end ≡ o → and_then {X = X × ℕ} {Y = Y} (elim o [ None ↦ Err (Fault (length text)) | Some e ↦ elim (held (part text at e)) [ None ↦ Err (Fault at) | Some x ↦ Ok (x, e + 1) ] ]) k ≡ Ok y → (x : X) × (b : ℕ) × Got held text at end x b × (k (x, b) ≡ Ok y)
end_ok None held text at end k y w q = let z : ◌≡◌ {A = ℕ} 0 1 = cc in absurd (omega arith)
end_ok (Some e) held text at end k y w q =
    let h = held_ok (held (part text at e)) at (e + 1) k y q in
    let s = first_split end at e (drop at text) w in
    let here = part_is text s.0 s.1 at end e s.2 s.3 in
    let rest = rest_is text s.0 s.1 at end e s.2 s.3 in
    (h.0, e + 1, (s.0, s.2 ∙ ap (λ r. s.0 ++ end ∷ r) (sym rest), ap held (sym here) ∙ h.1), h.2)

pub field_ok : {X Y : Type 0} (held : List ℕ → Option X) (text : List ℕ) (at end : ℕ) (k : X × ℕ → Result Y Refusal) (y : Y) → and_then (field_at held text at end) k ≡ Ok y → (x : X) × (b : ℕ) × Got held text at end x b × (k (x, b) ≡ Ok y)
field_ok held text at end k y q = end_ok (end_of text at end) held text at end k y refl q

-- a field of a line that is written out is read as it stands, and is not at fault
abbrev pub field : {X : Type 0} → (List ℕ → Option X) → ℕ → Field
field held end = record { end = end; good = λ bs. is_some (held bs) }

pub field_read : {X : Type 0} (held : List ℕ → Option X) (text p r : List ℕ) (at end : ℕ) (x : X) → drop at text ≡ p ++ end ∷ r → Free end p → held p ≡ Some x → field_at held text at end ≡ Ok (x, at + length p + 1)
field_read {X} held text p r at end x s f h =
    let w : end_of text at end ≡ Some (at + length p) = ap (first end at) s ∙ first_past end at p r f in
    let v : held (part text at (at + length p)) ≡ Some x = ap held (part_is text p r at end (at + length p) s refl) ∙ h in
    ap (λ o. elim o as (λ _. Result (X × ℕ) Refusal) [ None ↦ Err (Fault (length text)) | Some e ↦ elim (held (part text at e)) [ None ↦ Err (Fault at) | Some z ↦ Ok (z, e + 1) ] ]) w
    ∙ ap (λ o. elim o as (λ _. Result (X × ℕ) Refusal) [ None ↦ Err (Fault at) | Some z ↦ Ok (z, at + length p + 1) ]) v

pub field_fine : {X : Type 0} (held : List ℕ → Option X) (text p r : List ℕ) (at end : ℕ) (x : X) (fs : List Field) → drop at text ≡ p ++ end ∷ r → Free end p → held p ≡ Some x → fault_from text at (field held end ∷ fs) ≡ fault_from text (at + length p + 1) fs
field_fine held text p r at end x fs s f h =
    let w : end_of text at end ≡ Some (at + length p) = ap (first end at) s ∙ first_past end at p r f in
    let v : is_some (held (part text at (at + length p))) ≡ true = ap (λ l. is_some (held l)) (part_is text p r at end (at + length p) s refl) ∙ ap is_some h in
    ap (λ o. elim o as (λ _. Option ℕ) [ None ↦ Some (length text) | Some e ↦ cond (is_some (held (part text at e))) (fault_from text (e + 1) fs) (Some at) ]) w
    ∙ cond-true _ (fault_from text (at + length p + 1) fs) (Some at) v

-- A FIELD AT FAULT

abbrev pub Faulty : Refusal → Option ℕ → Type 0
Faulty e found = (place : ℕ) × (e ≡ Fault place) × (found ≡ Some place)

held_fault : {X Y : Type 0} (h : Option X) (at b : ℕ) (k : X × ℕ → Result Y Refusal) (e : Refusal) (next : Option ℕ) → ((x : X) → k (x, b) ≡ Err e → Faulty e next) → and_then {X = X × ℕ} {Y = Y} (elim h [ None ↦ Err (Fault at) | Some x ↦ Ok (x, b) ]) k ≡ Err e → Faulty e (cond (is_some h) next (Some at))
held_fault None at b k e next more q = (at, cc, refl)
held_fault (Some x) at b k e next more q = more x q

end_fault : {X Y : Type 0} (o : Option ℕ) (held : List ℕ → Option X) (text : List ℕ) (at : ℕ) (fs : List Field) (k : X × ℕ → Result Y Refusal) (e : Refusal) → ((x : X) (b : ℕ) → k (x, b) ≡ Err e → Faulty e (fault_from text b fs)) → and_then {X = X × ℕ} {Y = Y} (elim o [ None ↦ Err (Fault (length text)) | Some i ↦ elim (held (part text at i)) [ None ↦ Err (Fault at) | Some x ↦ Ok (x, i + 1) ] ]) k ≡ Err e → Faulty e (elim o [ None ↦ Some (length text) | Some i ↦ cond (is_some (held (part text at i))) (fault_from text (i + 1) fs) (Some at) ])
end_fault None held text at fs k e more q = (length text, cc, refl)
end_fault (Some i) held text at fs k e more q = held_fault (held (part text at i)) at (i + 1) k e (fault_from text (i + 1) fs) (λ x. more x (i + 1)) q

pub field_fault : {X Y : Type 0} (held : List ℕ → Option X) (text : List ℕ) (at end : ℕ) (fs : List Field) (k : X × ℕ → Result Y Refusal) (e : Refusal) → ((x : X) (b : ℕ) → k (x, b) ≡ Err e → Faulty e (fault_from text b fs)) → and_then (field_at held text at end) k ≡ Err e → Faulty e (fault_from text at (field held end ∷ fs))
field_fault held text at end fs k e more q = end_fault (end_of text at end) held text at fs k e more q
