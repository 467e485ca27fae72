-- The next thread that some records reach: none before it is reached.
use Rattle.std.proofs.Common.{◌≡◌, ℕ, ◌≤◌, ◌<◌, ◌==◌, Bool, true, false, not, ◌&&◌, ◌||◌, if◌then◌else◌, List, [], ◌∷◌, Option, Some, None, refl, sym, ◌∙◌, ap, arith, nat_lt, true≢false}
use Rattle.std.specs.Prelude.{nat_le}
use Rattle.std.proofs.lemmas.Bool.{ne_eqb, ltb-true, leb-true, lt-ltb, le-leb, and_parts, and_from}
use Rattle.std.specs.List.{list_any}
use Rattle.sa_base.specs.declared.number.SpaceNo.{SpaceNo}
use Rattle.sa_base.specs.declared.number.ThreadNo.{ThreadNo}
use Rattle.sa_base.specs.declared.record.Record.{Record}
use Rattle.sa_laws.specs.Record.{is_thread}
use Rattle.sa_cells.specs.Stays.{is_instr, named, reaches, first_from, first_reached, next_reached}

-- one of these numbers
pub record IsWithin (from end n : ℕ) : Type 0 where
  pub low : from ≤ n
  pub high : n ≤ end

-- the thread that a record names
number-within : (from end t : ℕ) (b : Bool) → (nat_le from t && nat_lt t end) ≡ b → from ≤ end → IsWithin from end (if b then t else end)
number-within from end t true is less =
    let both = and_parts (nat_le from t) (nat_lt t end) is in
    record { low = leb-true from t both.0; high = (let below : t < end = ltb-true t end both.1 in omega (arith, below)) }
number-within from end t false is less = record { low = less; high = omega arith }

from-within : (from end : ℕ) (t : Option ThreadNo) → from ≤ end → IsWithin from end (first_from from end t)
from-within from end None less = record { low = less; high = omega arith }
from-within from end (Some t) less = number-within from end t.0 (nat_le from t.0 && nat_lt t.0 end) refl less

number-none : (from end t : ℕ) (b : Bool) → (nat_le from t && nat_lt t end) ≡ b → (k : ℕ) → from ≤ k → k < (if b then t else end) → (k == t) ≡ false
number-none from end t true is k low high = ne_eqb k t (λ same. omega (arith, high, same))
number-none from end t false is k low high = ne_eqb k t (λ same.
    let above : from ≤ t = omega (arith, low, same) in
    let below : t < end = omega (arith, high, same) in
    true≢false (sym (and_from (nat_le from t) (nat_lt t end) (le-leb from t above) (lt-ltb t end below)) ∙ is))

from-none : (from end : ℕ) (t : Option ThreadNo) (k : ℕ) → from ≤ k → k < first_from from end t → is_thread (record { 0 = k }) t ≡ false
from-none from end None k low high = refl
from-none from end (Some t) k low high = number-none from end t.0 (nat_le from t.0 && nat_lt t.0 end) refl k low high

-- and if it is of an instruction that is not calm, the first
any-within : (from end : ℕ) (b : Bool) (t : Option ThreadNo) → from ≤ end → IsWithin from end (if b then from else first_from from end t)
any-within from end true t less = record { low = omega arith; high = less }
any-within from end false t less = from-within from end t less

any-none : (from end : ℕ) (b : Bool) (t : Option ThreadNo) (k : ℕ) → from ≤ k → k < (if b then from else first_from from end t)
    → (if b then true else is_thread (record { 0 = k }) t) ≡ false
any-none from end true t k low high = absurd (omega (arith, low, high))
any-none from end false t k low high = from-none from end t k low high

pub next-within : (calm : Bool) (s : SpaceNo) (from end : ℕ) (records : List Record) → from ≤ end → IsWithin from end (next_reached calm s from end records)
next-within calm s from end [] less = record { low = less; high = omega arith }
next-within calm s from end (x ∷ xs) less =
    let first = any-within from end (is_instr s x && not calm) (named s x) less in
    let rest = next-within calm s from (first_reached calm s from end x) xs first.low in
    record { low = rest.low; high = (let a = rest.high in let b = first.high in omega (arith, a, b)) }

pub next-none : (calm : Bool) (s : SpaceNo) (from end : ℕ) (records : List Record) → from ≤ end → (k : ℕ) → from ≤ k → k < next_reached calm s from end records
    → list_any (reaches calm s (record { 0 = k })) records ≡ false
next-none calm s from end [] less k low high = refl
next-none calm s from end (x ∷ xs) less k low high =
    let first = any-within from end (is_instr s x && not calm) (named s x) less in
    let rest = next-within calm s from (first_reached calm s from end x) xs first.low in
    let below : k < first_reached calm s from end x = (let a = rest.high in omega (arith, high, a)) in
    ap (λ (b : Bool). b || list_any (reaches calm s (record { 0 = k })) xs) (any-none from end (is_instr s x && not calm) (named s x) k low below)
    ∙ next-none calm s from (first_reached calm s from end x) xs first.low k low high
