use Rattle.std.proofs.Common.{◌≡◌, ℕ, ◌+◌, ◌^◌, ◌<◌, Bool, true, false, cond, eqb, ltb, List, [], ◌∷◌, ◌++◌, length, drop, Some, None, Ok, Err, decimal, Option, Result, sym, refl, ap, ◌∙◌, subst, arith}
use Rattle.std.specs.Char.{is_ascii_digit}
use Rattle.std.proofs.lemmas.List.{drop_all, nil_from_length, length-drop}
use Rattle.std.proofs.lemmas.Bool.{ltb-false, le-ltb, eqb-true, cond-false}
use Rattle.scenarios.specs.declared.mode.Mode.{Mode}
use Rattle.scenarios.specs.declared.mode.Mode.TheVariants.{Sampled, Sustained}
use Rattle.refusals.specs.declared.Refusal.{Refusal}
use Rattle.refusals.specs.declared.Refusal.TheVariants.{PlanLine as Fault}
use Rattle.refusals.specs.Refusals.{number_of, place_of}
use Rattle.text.proofs.Fields.{and_then, Got, Faulty, Free, field, field_ok, field_read, field_fine, field_fault, rest_is}
use Rattle.text.proofs.Digits.{numeral_written, numeral_decimal, free_decimal}
use Rattle.text.specs.declared.PlanLine.{PlanLine}
use Rattle.text.specs.Lines.{Field, field_at, mode_of, letter, written, Line, numeral, mode_in, number_at, mode_at, number_field, mode_field, fault_from, fault, Refused}

abbrev pub ended : List ℕ → PlanLine → ℕ → Result PlanLine Refusal
ended text l at = cond (ltb at (length text)) (Err (Fault at)) (Ok l)

-- the whole line, field after field
abbrev pub reading : List ℕ → Result PlanLine Refusal
reading text =
    and_then (number_at text 0 32) (λ p.
    and_then (number_at text p.1 32) (λ f.
    and_then (number_at text f.1 32) (λ r.
    and_then (mode_at text r.1) (λ m.
    and_then (number_at text m.1 10) (λ c.
    ended text (record { participants = p.0; faults = f.0; rounds = r.0; mode = m.0; cap = c.0 }) c.1)))))

-- A LINE THAT IS READ IS WRITTEN SO

got_number : (text : List ℕ) (at end n b : ℕ) → Got numeral text at end n b → (drop at text ≡ decimal n ++ end ∷ drop b text) × (n < 2 ^ 32)
got_number text at end n b g = let w = numeral_written g.0 n g.2 in (g.1 ∙ ap (λ p. p ++ end ∷ drop b text) w.0, w.1)

named_by : (s u : Bool) (b : ℕ) (m : Mode) → eqb b 115 ≡ s → eqb b 117 ≡ u → cond s (Some Sampled) (cond u (Some Sustained) None) ≡ Some m → b ≡ letter m
named_by true u b m p q e = let same : Sampled ≡ m = cc in eqb-true b 115 p ∙ ap letter same
named_by false true b m p q e = let same : Sustained ≡ m = cc in eqb-true b 117 q ∙ ap letter same
named_by false false b m p q e = let z : ◌≡◌ {A = ℕ} 0 1 = cc in absurd (omega arith)

one_letter : (t : Bool) (o : Option Mode) (m : Mode) → cond t None o ≡ Some m → (t ≡ false) × (o ≡ Some m)
one_letter true o m e = (cc, cc)
one_letter false o m e = (refl, e)

mode_written : (bs : List ℕ) (m : Mode) → mode_in bs ≡ Some m → bs ≡ letter m ∷ []
mode_written [] m e = let z : ◌≡◌ {A = ℕ} 0 1 = cc in absurd (omega arith)
mode_written (b ∷ bs) m e =
    let p = one_letter (ltb 0 (length bs)) (mode_of b) m e in
    let none : bs ≡ [] = nil_from_length bs (omega (arith, ltb-false 0 (length bs) p.0)) in
    let same : b ≡ letter m = named_by (eqb b 115) (eqb b 117) b m refl refl p.1 in
    ap (λ l. b ∷ l) none ∙ ap (λ x. x ∷ []) same

got_mode : (text : List ℕ) (at : ℕ) (m : Mode) (b : ℕ) → Got mode_in text at 32 m b → drop at text ≡ letter m ∷ 32 ∷ drop b text
got_mode text at m b g = g.1 ∙ ap (λ p. p ++ 32 ∷ drop b text) (mode_written g.0 m g.2)

ended_by : (t : Bool) (b : ℕ) (k l : PlanLine) → cond t (Err (Fault b)) (Ok k) ≡ Ok l → (t ≡ false) × (k ≡ l)
ended_by true b k l e = (cc, cc)
ended_by false b k l e = (refl, cc)

pub read_line : (text : List ℕ) (l : PlanLine) → reading text ≡ Ok l → Line text l
read_line text l q =
    let a = field_ok numeral text 0 32 _ l q in
    let b = field_ok numeral text a.1 32 _ l a.3 in
    let c = field_ok numeral text b.1 32 _ l b.3 in
    let d = field_ok mode_in text c.1 32 _ l c.3 in
    let e = field_ok numeral text d.1 10 _ l d.3 in
    let k : PlanLine = record { participants = a.0; faults = b.0; rounds = c.0; mode = d.0; cap = e.0 } in
    let z = ended_by (ltb e.1 (length text)) e.1 k l e.3 in
    let p = got_number text 0 32 a.0 a.1 a.2 in
    let f = got_number text a.1 32 b.0 b.1 b.2 in
    let r = got_number text b.1 32 c.0 c.1 c.2 in
    let m = got_mode text c.1 d.0 d.1 d.2 in
    let n = got_number text d.1 10 e.0 e.1 e.2 in
    let none : drop e.1 text ≡ [] = drop_all e.1 text (ltb-false e.1 (length text) z.0) in
    let whole : text ≡ written k =
    p.0 ∙ ap (λ t. decimal a.0 ++ 32 ∷ t) (f.0 ∙ ap (λ t. decimal b.0 ++ 32 ∷ t) (r.0 ∙ ap (λ t. decimal c.0 ++ 32 ∷ t) (m ∙ ap (λ t. letter d.0 ∷ 32 ∷ t) (n.0 ∙ ap (λ t. decimal e.0 ++ 10 ∷ t) none)))) in
    let fit : Line text k = (whole, (p.1, f.1, r.1, n.1)) in
    let P : PlanLine → Type 0 = λ x. Line text x in
    subst P z.1 fit

-- the fields that come after the first, the second, ..
abbrev after_1 : List Field
after_1 = number_field 32 ∷ number_field 32 ∷ mode_field ∷ number_field 10 ∷ []

abbrev after_2 : List Field
after_2 = number_field 32 ∷ mode_field ∷ number_field 10 ∷ []

abbrev after_3 : List Field
after_3 = mode_field ∷ number_field 10 ∷ []

abbrev after_4 : List Field
after_4 = number_field 10 ∷ []

-- A LINE THAT IS WRITTEN SO IS READ

abbrev Step : {X : Type 0} → (List ℕ → Option X) → List ℕ → ℕ → ℕ → X → List ℕ → Type 0
Step held text at end x r = (b : ℕ) × (field_at held text at end ≡ Ok (x, b)) × (drop b text ≡ r) × ((fs : List Field) → fault_from text at (field held end ∷ fs) ≡ fault_from text b fs)

step : {X : Type 0} (held : List ℕ → Option X) (text p r : List ℕ) (at end : ℕ) (x : X) → drop at text ≡ p ++ end ∷ r → Free end p → held p ≡ Some x → Step held text at end x r
step held text p r at end x s f h = (at + length p + 1, field_read held text p r at end x s f h, rest_is text p r at end (at + length p) s refl, λ fs. field_fine held text p r at end x fs s f h)

number_step : (text r : List ℕ) (at end n : ℕ) → is_ascii_digit end ≡ false → n < 2 ^ 32 → drop at text ≡ decimal n ++ end ∷ r → Step numeral text at end n r
number_step text r at end n f h s = step numeral text (decimal n) r at end n s (free_decimal end n f h) (numeral_decimal n h)

mode_step : (text r : List ℕ) (at : ℕ) (m : Mode) → drop at text ≡ letter m ∷ 32 ∷ r → Step mode_in text at 32 m r
mode_step text r at Sampled s = step mode_in text (115 ∷ []) r at 32 Sampled s (omega arith, tt) refl
mode_step text r at Sustained s = step mode_in text (117 ∷ []) r at 32 Sustained s (omega arith, tt) refl

go : {X Y : Type 0} (r : Result X Refusal) (x : X) (k : X → Result Y Refusal) (y : Result Y Refusal) → r ≡ Ok x → k x ≡ y → and_then r k ≡ y
go r x k y p q = ap (λ v. and_then v k) p ∙ q

steps_read :
    (text : List ℕ) (l : PlanLine) (s t u v : List ℕ)
    (p : Step numeral text 0 32 l.participants s) (f : Step numeral text p.0 32 l.faults t) (r : Step numeral text f.0 32 l.rounds u) (m : Step mode_in text r.0 32 l.mode v) (c : Step numeral text m.0 10 l.cap [])
    → (reading text ≡ Ok l) × (fault text ≡ None)
steps_read text l s t u v p f r m c =
    let over : ltb c.0 (length text) ≡ false = le-ltb c.0 (length text) (omega (arith, length-drop c.0 text, ap length c.2)) in (
      go _ _ _ (Ok l) p.1 (go _ _ _ (Ok l) f.1 (go _ _ _ (Ok l) r.1 (go _ _ _ (Ok l) m.1 (go _ _ _ (Ok l) c.1 (cond-false (ltb c.0 (length text)) (Err (Fault c.0)) (Ok l) over))))),
      p.3 after_1 ∙ f.3 after_2 ∙ r.3 after_3 ∙ m.3 after_4 ∙ c.3 [] ∙ cond-false (ltb c.0 (length text)) (Some c.0) None over,
    )

pub line_read : (text : List ℕ) (l : PlanLine) → Line text l → (reading text ≡ Ok l) × (fault text ≡ None)
line_read text l fit =
    let p = number_step text _ 0 32 l.participants refl fit.1.0 fit.0 in
    let f = number_step text _ p.0 32 l.faults refl fit.1.1 p.2 in
    let r = number_step text _ f.0 32 l.rounds refl fit.1.2 f.2 in
    let m = mode_step text _ r.0 l.mode r.2 in
    steps_read text l _ _ _ _ p f r m (number_step text [] m.0 10 l.cap refl fit.1.3 m.2)

-- A TEXT THAT IS REFUSED

ended_fault : (t : Bool) (b : ℕ) (l : PlanLine) (e : Refusal) → cond t (Err (Fault b)) (Ok l) ≡ Err e → Faulty e (cond t (Some b) None)
ended_fault true b l e q = (b, cc, refl)
ended_fault false b l e q = let z : ◌≡◌ {A = ℕ} 0 1 = cc in absurd (omega arith)

pub at_fault : (text : List ℕ) (e : Refusal) → reading text ≡ Err e → Faulty e (fault text)
at_fault text e q =
    field_fault numeral text 0 32 after_1 _ e (λ p a q.
    field_fault numeral text a 32 after_2 _ e (λ f b q.
    field_fault numeral text b 32 after_3 _ e (λ r c q.
    field_fault mode_in text c 32 after_4 _ e (λ m d q.
    field_fault numeral text d 10 [] _ e (λ n i q.
    ended_fault (ltb i (length text)) i (record { participants = p; faults = f; rounds = r; mode = m; cap = n }) e q) q) q) q) q) q

pub no_line : (text : List ℕ) (e : Refusal) (l : PlanLine) → reading text ≡ Err e → Line text l → ⊥
no_line text e l q fit = let w = (line_read text l fit).0 in let z : ◌≡◌ {A = ℕ} 0 1 = cc in omega arith

-- what a call answers that reads so
pub sound : (text : List ℕ) (r : Result PlanLine Refusal) → r ≡ reading text → elim r as (λ _. Type 0) [ Ok l ↦ Line text l | Err e ↦ Refused text e ]
sound text (Ok l) q = read_line text l (sym q)
sound text (Err e) q =
    let f = at_fault text e (sym q) in
    (ap number_of f.1, ap place_of f.1 ∙ sym f.2, λ l. no_line text e l (sym q))

pub one_line : (text : List ℕ) (k l : PlanLine) → Line text k → Line text l → k ≡ l
one_line text k l p q = let a = (line_read text k p).0 in let b = (line_read text l q).0 in cc

read_or_fault : (text : List ℕ) (r : Result PlanLine Refusal) → reading text ≡ r → fault text ≡ None → (l : PlanLine) × Line text l
read_or_fault text (Ok l) q none = (l, read_line text l q)
read_or_fault text (Err e) q none = let f = (at_fault text e q).2 in let z : ◌≡◌ {A = ℕ} 0 1 = cc in absurd (omega arith)

pub some_line : (text : List ℕ) → fault text ≡ None → (l : PlanLine) × Line text l
some_line text none = read_or_fault text (reading text) refl none
