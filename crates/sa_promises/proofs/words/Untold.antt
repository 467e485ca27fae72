-- What is untold stands untold.
use Rattle.std.proofs.Common.{◌≡◌, ◌≢◌, ℕ, zero, suc, ◌+◌, ◌<◌, ◌⊎◌, inl, inr, refl, sym, ◌∙◌, ap, subst, arith, Some, List, [], ◌∷◌, ◌++◌, length, map, true, false, length-append}
use Rattle.std.specs.Prelude.{slice_get, slice_index_or, slice_set, Contains, All, Option, None, filter, not, Bool, if◌then◌else◌}
use Rattle.std.proofs.lemmas.List.Elements.{Contains-push_cases, All-contains, All-filter, All-contains_itself, All-cons, All-nil}
use Rattle.std.proofs.lemmas.Option.{slice_get_within}
use Rattle.sa_lemmas.proofs.ListUpdates.{slice_get-append_left, slice_get-append_seam, slice_get-push_cases}
use Rattle.sa_base.specs.declared.number.SpaceNo.{SpaceNo}
use Rattle.sa_base.specs.declared.number.ProcNo.{ProcNo}
use Rattle.sa_base.specs.declared.record.Note.{Note}
use Rattle.sa_base.specs.declared.record.Note.TheVariants as note
use Rattle.sa_base.specs.declared.record.Record.{Record}
use Rattle.sa_base.specs.declared.record.Record.TheVariants.{Stop, Block, Unblock, Told}
use Rattle.sa_base.specs.declared.record.Item.{Item}
use Rattle.sa_spaces.specs.Workload.{WorkloadView}
use Rattle.sa_laws.specs.Readings.{Readings, untold_of, space_of_life}
use Rattle.sa_laws.specs.Record.{is_other_note, untold_after, after_record}
use Rattle.sa_laws.specs.Upcalls.{IsUntoldTo, TellsOnce}
use Rattle.sa_laws.specs.History.{Test}
use Rattle.sa_laws.proofs.Notes.{same_note-itself}
use Rattle.sa_laws.proofs.Numbers.{space-by_number}
use Rattle.sa_promises.specs.Words.{Notes, StandsUntold}
use Rattle.sa_histories.proofs.Walk.{IsKept, item}

-- lists of lists, one of which got one item more
with-cases : (xs : List (List Note)) (i j : ℕ) (y z : Note) → Contains (slice_index_or (slice_set xs i (slice_index_or xs i [] ++ y ∷ [])) j []) z
    → Contains (slice_index_or xs j []) z ⊎ ((j ≡ i) × (y ≡ z))
with-cases (x ∷ xs) zero zero y z has = elim (Contains-push_cases x y z has) [ inl old ↦ inl old | inr new ↦ inr (refl, new) ]
with-cases (x ∷ xs) (suc i) (suc j) y z has = elim (with-cases xs i j y z has) [ inl old ↦ inl old | inr new ↦ inr (ap suc new.0, new.1) ]
with-cases _ _ _ y z has = inl has

-- what is left in a list was there and passes the test
left-cases : (test : Note → Bool) (notes : List Note) (z : Note) → Contains (filter test notes) z → Contains notes z × (test z ≡ true)
left-cases test notes z has = (
  All-contains (Contains notes) (filter test notes) z (All-filter test (Contains notes) notes (All-contains_itself notes)) has,
  All-contains (λ (m : Note). test m ≡ true) (filter test notes) z (passes notes) has,
)
  where
    here : (m : Note) (ms : List Note) → All (λ (k : Note). test k ≡ true) (filter test ms) → (b : Bool) → test m ≡ b
        → All (λ (k : Note). test k ≡ true) (if b then m ∷ filter test ms else filter test ms)
    here m ms rest true is = All-cons (λ (k : Note). test k ≡ true) m (filter test ms) is rest
    here m ms rest false is = rest

    passes : (ms : List Note) → All (λ (k : Note). test k ≡ true) (filter test ms)
    passes [] = All-nil (λ (k : Note). test k ≡ true)
    passes (m ∷ ms) = here m ms (passes ms) (test m) refl

without-cases : (test : Note → Bool) (xs : List (List Note)) (j : ℕ) (z : Note) → Contains (slice_index_or (map (filter test) xs) j []) z
    → Contains (slice_index_or xs j []) z × (test z ≡ true)
without-cases test [] j z has = let h = has in absurd (omega (arith, h.1))
without-cases test (x ∷ xs) zero z has = left-cases test x z has
without-cases test (x ∷ xs) (suc j) z has = without-cases test xs j z has

other-note : (n z : Note) → is_other_note n z ≡ true → Told n ≢ Told z
other-note n z other same =
    let e : n ≡ z = cc in
    let no : is_other_note n z ≡ false = ap (λ m. is_other_note m z) e ∙ ap not (same_note-itself z) in
    let both = sym other ∙ no in cc

-- after a record a note is untold that was untold before, and which it does not tell, or it is the record's own
pub untold-cases : (r : Readings) (x : Record) (s : SpaceNo) (n : Note) → Contains (slice_index_or (untold_after r x) s.0 []) n
    → (Contains (untold_of r s) n × (x ≢ Told n)) ⊎ Notes x s n
untold-cases r (Stop of t a) s n has = elim (with-cases r.untold of.0 s.0 (note.Preempted a) n has) [
  | inl old ↦ inl (old, λ no. cc)
  | inr new ↦ inr (space-by_number of s (sym new.0), sym new.1)
]
untold-cases r (Block of t a io) s n has = elim (with-cases r.untold of.0 s.0 (note.Blocked a) n has) [
  | inl old ↦ inl (old, λ no. cc)
  | inr new ↦ inr (space-by_number of s (sym new.0), sym new.1)
]
untold-cases r (Unblock of t a) s n has = elim (with-cases r.untold of.0 s.0 (note.Unblocked a) n has) [
  | inl old ↦ inl (old, λ no. cc)
  | inr new ↦ inr (space-by_number of s (sym new.0), sym new.1)
]
untold-cases r (Told m) s n has =
    let left = without-cases (is_other_note m) r.untold s.0 n has in inl (left.0, other-note m n left.1)
untold-cases r x s n has = inl (has, λ no. cc)

-- what stands untold does so after one item more that does not tell it
pub stands-more : (past : List Item) (x : Item) (s : SpaceNo) (n : Note) → x.what ≢ Told n → StandsUntold past (length past) s n
    → StandsUntold (past ++ x ∷ []) (length (past ++ x ∷ [])) s n
stands-more past x s n other o =
    let len : length (past ++ x ∷ []) ≡ length past + 1 = length-append past (x ∷ []) in
    let before = o.before in
    record {
      place = o.place;
      before = omega arith;
      item = o.item;
      at = slice_get-append_left past (x ∷ []) o.place before ∙ o.at;
      notes = o.notes;
      untold = λ k y above below at told. elim (slice_get-push_cases past k x y at) [
        | inl new ↦ other (ap (λ (z : Item). z.what) (sym new.1) ∙ told)
        | inr old ↦ o.untold k y above (within past k y old) old told
      ];
    }
  where
    within : (xs : List Item) (k : ℕ) (y : Item) → slice_get xs k ≡ Some y → k < length xs
    within xs k y at = slice_get_within xs k y at

-- a stop, block or unblock stands untold after itself
pub stands-new : (past : List Item) (x : Item) (s : SpaceNo) (n : Note) → Notes x.what s n
    → StandsUntold (past ++ x ∷ []) (length (past ++ x ∷ [])) s n
stands-new past x s n notes =
    let len : length (past ++ x ∷ []) ≡ length past + 1 = length-append past (x ∷ []) in
    record {
      place = length past;
      before = omega arith;
      item = x;
      at = slice_get-append_seam past [] x;
      notes = notes;
      untold = λ k y above below. absurd (omega arith);
    }

-- all that is read as untold stands untold
abbrev pub IsCovered : List Item → Readings → Type 0
IsCovered past r = (s : SpaceNo) (n : Note) → Contains (untold_of r s) n → StandsUntold past (length past) s n

-- a told record but `told add` tells what stands untold
abbrev pub TellsUntold : List Item → Item → Type 0
TellsUntold past x = (n : Note) → x.what ≡ Told n → ((p : ProcNo) → n ≢ note.Add p) → (s : SpaceNo) × StandsUntold past (length past) s n

untold-told : (r : Readings) (s : Option SpaceNo) (n : Note) → ((p : ProcNo) → n ≢ note.Add p) → IsUntoldTo r s n → (t : SpaceNo) × Contains (untold_of r t) n
untold-told r s (note.Add p) other h = absurd (other p refl)
untold-told r (Some s) (note.Preempted a) other h = (s, h)
untold-told r (Some s) (note.Blocked a) other h = (s, h)
untold-told r (Some s) (note.Unblocked a) other h = (s, h)
untold-told r None _ other h = absurd h

covered-step : (w : WorkloadView) (e : ℕ) (p : ProcNo) (past : List Item) (r : Readings) (x : Record) → IsCovered past r
    → IsCovered (past ++ item e p x ∷ []) (after_record w e p r x)
covered-step w e p past r x covered s n has = elim (untold-cases r x s n has) [
  | inl old ↦ stands-more past (item e p x) s n old.1 (covered s n old.0)
  | inr new ↦ stands-new past (item e p x) s n new
]

tells-step : (e : ℕ) (p : ProcNo) (past : List Item) (r : Readings) (x : Record) (rest : List Record) → IsCovered past r → TellsOnce r x rest
    → TellsUntold past (item e p x)
tells-step e p past r (Told m) rest covered law n same other =
    let one : m ≡ n = cc in
    let h = untold-told r (space_of_life r r.upped) n other (subst (λ k. IsUntoldTo r (space_of_life r r.upped) k) one law) in (h.0, covered h.0 n h.1)
tells-step e p past r x rest covered law n same other = absurd (cc)

pub tells-kept : (test : Test) (w : WorkloadView) → IsKept test w (λ p. TellsOnce) IsCovered (λ e p. IsCovered) TellsUntold
tells-kept test w = record {
  step = λ e p past r x rest covered law. (covered-step w e p past r x covered, tells-step e p past r x rest covered law);
  begins = λ past r e covered. covered;
  ends = λ past before e r covered. covered;
}
