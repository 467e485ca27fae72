-- Notices are the same exactly where the test says so.
use Rattle.std.proofs.Common.{◌≡◌, true, refl, ap, eq-eqb, eqb-true}
use Rattle.sa_base.specs.declared.record.Note.{Note}
use Rattle.sa_base.specs.declared.record.Note.TheVariants.{Add, Preempted, Blocked, Unblocked}
use Rattle.sa_laws.specs.Record.{same_note}

pub same_note-itself : (n : Note) → same_note n n ≡ true
same_note-itself (Add p) = eq-eqb p.0 p.0 refl
same_note-itself (Preempted a) = eq-eqb a.0 a.0 refl
same_note-itself (Blocked a) = eq-eqb a.0 a.0 refl
same_note-itself (Unblocked a) = eq-eqb a.0 a.0 refl

pub same_note-same : (m n : Note) → same_note m n ≡ true → m ≡ n
same_note-same (Add p) (Add q) is = ap (λ i. Add (record { 0 = i })) (eqb-true p.0 q.0 is)
same_note-same (Preempted a) (Preempted b) is = ap (λ i. Preempted (record { 0 = i })) (eqb-true a.0 b.0 is)
same_note-same (Blocked a) (Blocked b) is = ap (λ i. Blocked (record { 0 = i })) (eqb-true a.0 b.0 is)
same_note-same (Unblocked a) (Unblocked b) is = ap (λ i. Unblocked (record { 0 = i })) (eqb-true a.0 b.0 is)
same_note-same m n is = absurd (cc)
