-- A processor whose line is low is aimed at by its owner.
use Rattle.std.proofs.Common.{◌≡◌, ◌≢◌, ℕ, ◌<◌, ◌⊎◌, inl, inr, refl, sym, ◌∙◌, ap, subst, Some, None, List, [], ◌∷◌, ◌++◌, length, true, false}
use Rattle.std.specs.Prelude.{Option, Bool, not, if◌then◌else◌, get_or, slice_set}
use Rattle.std.proofs.lemmas.Bool.{cases_eq, eq-eqb}
use Rattle.std.proofs.lemmas.List.{get_or-set_same, get_or-set_other}
use Rattle.std.proofs.lemmas.Option.{none-some}
use Rattle.sa_base.specs.declared.number.SpaceNo.{SpaceNo}
use Rattle.sa_base.specs.declared.number.ProcNo.{ProcNo}
use Rattle.sa_base.specs.declared.record.Record.{Record}
use Rattle.sa_base.specs.declared.record.Record.TheVariants.{Move, Aim, Line}
use Rattle.sa_spaces.specs.Workload.{WorkloadView}
use Rattle.sa_laws.specs.Readings.{Readings, owner_of, aim_of, line_of}
use Rattle.sa_laws.specs.Record.{after_record}
use Rattle.sa_laws.specs.History.{after_records}
use Rattle.sa_laws.specs.Shape.{is_other_line, before_lines}
use Rattle.sa_laws.specs.Upcalls.{EachRecord, RaisesLine, BeginsWithLine}
use Rattle.sa_laws.proofs.Lengths.{lines-length}
use Rattle.sa_promises.proofs.words.Reads.{owners-changed}

abbrev pub LowAimed : Readings → ProcNo → Type 0
LowAimed r q = line_of r q ≡ None → aim_of r q ≡ owner_of r q

-- an aim was put at the processor whose line is low, and its line record comes next
pub record AwaitsLine (r : Readings) (q : ProcNo) (last : Option Record) (xs : List Record) : Type 0 where
  pub space : SpaceNo
  pub last_is : last ≡ Some (Aim q (Some space))
  pub next : BeginsWithLine q xs

abbrev pub Fine : Readings → ProcNo → Option Record → List Record → Type 0
Fine r q last xs = LowAimed r q ⊎ AwaitsLine r q last xs

-- records that move no owner of q and aim it at none
abbrev pub Leaves : ProcNo → ProcNo → Record → Type 0
Leaves p q (Move old new) = q.0 ≢ p.0
Leaves p q (Aim t None) = t.0 ≢ q.0
Leaves p q _ = Unit {0}

abbrev pub AllLeave : ProcNo → ProcNo → List Record → Type 0
AllLeave p q [] = Unit {0}
AllLeave p q (x ∷ xs) = Leaves p q x × AllLeave p q xs

raised-now : (lines : List (Option ℕ)) (q e : ℕ) → q < length lines → get_or (slice_set lines q (Some e)) q None ≡ None → ⊥
raised-now lines q e within low = none-some e (sym low ∙ get_or-set_same lines q (Some e) None within)

fine-line : (w : WorkloadView) (e : ℕ) (p : ProcNo) (r : Readings) (q t : ProcNo) (last : Option Record) (xs : List Record) → q.0 < length r.lines
    → Fine r q last (Line t ∷ xs)
    → LowAimed (after_record w e p r (Line t)) q
fine-line w e p r q t last xs within fine low = elim (cases_eq q.0 t.0) [
  | inl same ↦ absurd (raised-now r.lines q.0 e within (subst (λ n. get_or (slice_set r.lines n (Some e)) q.0 None ≡ None) (sym same) low))
  | inr apart ↦ one fine (sym (get_or-set_other r.lines t.0 q.0 (Some e) None apart) ∙ low) apart
] where
  one : Fine r q last (Line t ∷ xs) → line_of r q ≡ None → q.0 ≢ t.0 → aim_of r q ≡ owner_of r q
  one (inl ok) is apart = ok is
  one (inr awaits) is apart = absurd (apart (ap (λ (k : ProcNo). k.0) (sym awaits.next)))

fine-aim : (w : WorkloadView) (e : ℕ) (p : ProcNo) (r : Readings) (q t : ProcNo) (s : SpaceNo) (xs : List Record) → (line_of r t ≡ None → BeginsWithLine t xs)
    → LowAimed r q
    → Fine (after_record w e p r (Aim t (Some s))) q (Some (Aim t (Some s))) xs
fine-aim w e p r q t s xs heard ok = elim (cases_eq q.0 t.0) [
  | inl same ↦ (let is : t ≡ q = ap (λ n. record { 0 = n }) (sym same) in one is (line_of r q) refl)
  | inr apart ↦ inl (λ low. get_or-set_other r.aims t.0 q.0 (Some s) None apart ∙ ok low)
] where
  one : t ≡ q → (l : Option ℕ) → line_of r q ≡ l → Fine (after_record w e p r (Aim t (Some s))) q (Some (Aim t (Some s))) xs
  one is None low = inr (record {
    space = s;
    last_is = ap (λ (k : ProcNo). Some (Aim k (Some s))) is;
    next = subst (λ (k : ProcNo). BeginsWithLine k xs) is (heard (ap (line_of r) is ∙ low));
  })
  one is (Some v) high = inl (λ low. absurd (none-some v (sym low ∙ high)))

no-line : (q : ProcNo) (x : Record) (xs : List Record) → ((t : ProcNo) → x ≢ Line t) → BeginsWithLine q (x ∷ xs) → ⊥
no-line q (Line t) xs other next = other t refl
no-line q x xs other next = next

-- one record
pub fine-step : (w : WorkloadView) (e : ℕ) (p : ProcNo) (r : Readings) (q : ProcNo) (last : Option Record) (x : Record) (xs : List Record)
    → q.0 < length r.lines → RaisesLine r x xs → Leaves p q x
    → Fine r q last (x ∷ xs) → Fine (after_record w e p r x) q (Some x) xs
fine-step w e p r q last (Line t) xs within heard leaves fine = inl (fine-line w e p r q t last xs within fine)
fine-step w e p r q last (Aim t (Some s)) xs within heard leaves (inl ok) = fine-aim w e p r q t s xs heard.line ok
fine-step w e p r q last (Aim t (Some s)) xs within heard leaves (inr awaits) = absurd awaits.next
fine-step w e p r q last (Aim t None) xs within heard leaves (inl ok) =
    inl (λ low. get_or-set_other r.aims t.0 q.0 None None (λ same. leaves (sym same)) ∙ ok low)
fine-step w e p r q last (Aim t None) xs within heard leaves (inr awaits) = absurd awaits.next
fine-step w e p r q last (Move old new) xs within heard leaves (inl ok) = inl (λ low. ok low ∙ sym (get_or-set_other r.state.owners p.0 q.0 new None leaves))
fine-step w e p r q last (Move old new) xs within heard leaves (inr awaits) = absurd awaits.next
fine-step w e p r q last x xs within heard leaves (inl ok) = inl (λ low. ok low ∙ sym (ap (λ os. get_or os q.0 None) (owners-changed w p r.state x)))
fine-step w e p r q last x xs within heard leaves (inr awaits) = absurd awaits.next

-- up to the first other line
pub front-fine : (w : WorkloadView) (e : ℕ) (p : ProcNo) (r : Readings) (q : ProcNo) (last : Option Record) (xs : List Record) → q.0 < length r.lines
    → EachRecord RaisesLine w e p r xs
    → AllLeave p q xs → Fine r q last xs → LowAimed (after_records w e p r (before_lines last xs)) q
front-fine w e p r q last [] within heard leaves (inl ok) = ok
front-fine w e p r q last [] within heard leaves (inr awaits) = absurd awaits.next
front-fine w e p r q last (x ∷ xs) within heard leaves fine =
    one (is_other_line last x) refl
    (front-fine w e p (after_record w e p r x) q (Some x) xs (subst (λ n. q.0 < n) (sym (lines-length e r.lines x)) within) heard.1 leaves.1
    (fine-step w e p r q last x xs within heard.0 leaves.0 fine)) where
      clash : (y : Record) → AwaitsLine r q last (y ∷ xs) → is_other_line last y ≡ true → ⊥
      clash (Line t) awaits is =
          let follows : is_other_line (Some (Aim q (Some awaits.space))) (Line t) ≡ false =
          ap not (eq-eqb q.0 t.0 (ap (λ (k : ProcNo). k.0) (sym awaits.next))) in
          let both = sym follows ∙ ap (λ (o : Option Record). is_other_line o (Line t)) (sym awaits.last_is) ∙ is in absurd (cc)
      clash y awaits is = absurd awaits.next

      stops : Fine r q last (x ∷ xs) → is_other_line last x ≡ true → LowAimed r q
      stops (inl ok) other = ok
      stops (inr awaits) other = absurd (clash x awaits other)

      one : (b : Bool) → is_other_line last x ≡ b → LowAimed (after_records w e p (after_record w e p r x) (before_lines (Some x) xs)) q
          → LowAimed (after_records w e p r (if b then [] else x ∷ before_lines (Some x) xs)) q
      one true other rest = stops fine other
      one false goes rest = rest

pub each-behind : (L : Rattle.sa_laws.specs.Upcalls.RecordLaw) (w : WorkloadView) (e : ℕ) (p : ProcNo) (r : Readings) (xs ys : List Record)
    → ((r' : Readings) (x : Record) (rest more : List Record) → L r' x rest → L r' x rest)
    → EachRecord L w e p r (xs ++ ys) → EachRecord L w e p (after_records w e p r xs) ys
each-behind L w e p r [] ys same each = each
each-behind L w e p r (x ∷ xs) ys same each = each-behind L w e p (after_record w e p r x) xs ys same each.1
