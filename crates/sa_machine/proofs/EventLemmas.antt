-- A number that is not in use, and events that begin.
use Rattle.std.proofs.Common.{◌≡◌, ℕ, suc, ◌+◌, ◌-◌, ◌<◌, None, length, sym, ap, ◌∙◌, arith}
use Rattle.std.proofs.lemmas.List.{get_or_past}
use Rattle.sa_base.specs.declared.number.ActNo.{ActNo}
use Rattle.sa_acts.specs.Table.{Slots, acts_of}
use Rattle.sa_core_model.specs.Machine.{Machine}
use Rattle.sa_core_model.specs.Turn.{next_event, more_events}

-- a number that is not in use
pub vacant : {C : Type 0} (v : Slots C) → (a : ActNo) × ((acts_of v).acts a.0 ≡ None)
vacant v = (record { 0 = length v.table.slots }, get_or_past v.table.slots (length v.table.slots) None (omega arith))

-- one event more has begun of those that are left
pub skip-one : {U C : Type 0} (n i : ℕ) (m next whole : Machine U C) → i < n → next ≡ next_event m → more_events (n - i) m ≡ whole
    → more_events (n - (i + 1)) next ≡ whole
skip-one n i m next whole below is was =
    let e : n - i ≡ suc (n - (i + 1)) = omega (arith, below) in
    ap (λ z. more_events (n - (i + 1)) z) is ∙ sym (ap (λ k. more_events k m) e) ∙ was
