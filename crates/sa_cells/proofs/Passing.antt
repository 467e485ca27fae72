-- The threads of a space that an event does not reach are passed over.
use Rattle.std.proofs.Common.{◌≡◌, ℕ, ◌+◌, ◌≤◌, ◌<◌, arith, Bool, List, ◌++◌, append-nil, sym, ◌∙◌, ap, subst}
use Rattle.std.specs.List.{flat_map}
use Rattle.sa_base.specs.declared.number.SpaceNo.{SpaceNo}
use Rattle.sa_base.specs.declared.number.ActNo.{ActNo}
use Rattle.sa_base.specs.declared.record.Record.{Record}
use Rattle.sa_laws.specs.Event.{Event}
use Rattle.sa_check_moment.specs.Seen.{Seen}
use Rattle.sa_cells.specs.declared.cell.Cell.{Cell}
use Rattle.sa_cells.specs.declared.cell.Cell.TheVariants.{Thread as ThreadCell}
use Rattle.sa_cells.specs.Cells.{up_to, thread_cell}
use Rattle.sa_cells.specs.Change.{change_line}
use Rattle.sa_cells.specs.Name.{name_of}
use Rattle.sa_cells.specs.Text.{text_of}
use Rattle.sa_cells.specs.Stays.{IsAfter, are_calm, next_reached}
use Rattle.sa_cells.proofs.Calm.{unreached-stays}
use Rattle.sa_cells.proofs.Skipped.{cells-more, passed-over, nothing}
use Rattle.sa_cells.proofs.Next.{IsWithin, next-within, next-none}

-- what was written of the threads before one is what is written of those before the next that is reached
pub passes : (event : ℕ) (ups : List ActNo) (m n : Seen) (e : Event) (s : SpaceNo) (calm : Bool) (from end : ℕ) (old out : List ℕ)
    → IsAfter m n e → calm ≡ are_calm m.workload m.readings.state e.records → from ≤ end
    → out ≡ old ++ flat_map (change_line event ups m n) (up_to (thread_cell s) from)
    → out ≡ old ++ flat_map (change_line event ups m n) (up_to (thread_cell s) (next_reached calm s from end e.records))
passes event ups m n e s calm from end old out after is less so =
    let within = next-within calm s from end e.records less in
    passed-over (change_line event ups m n) s from (next_reached calm s from end e.records) old out within.low
    (λ k low high.
    let c : Cell = ThreadCell s (record { 0 = k }) in
    nothing event (name_of c) (text_of ups m c) (text_of ups n c)
    (unreached-stays m n e s (record { 0 = k }) calm after is (next-none calm s from end e.records less k low high))) so

pub one-passes : (event : ℕ) (ups : List ActNo) (m n : Seen) (e : Event) (s : SpaceNo) (calm : Bool) (t end : ℕ) (old out new : List ℕ)
    → IsAfter m n e → calm ≡ are_calm m.workload m.readings.state e.records → t < end
    → out ≡ old ++ flat_map (change_line event ups m n) (up_to (thread_cell s) t) → new ≡ out ++ change_line event ups m n (ThreadCell s (record { 0 = t }))
    → new ≡ old ++ flat_map (change_line event ups m n) (up_to (thread_cell s) (next_reached calm s (t + 1) end e.records))
one-passes event ups m n e s calm t end old out new after is less so goes =
    passes event ups m n e s calm (t + 1) end old new after is (omega (arith, less))
    (cells-more (change_line event ups m n) (thread_cell s) t old out new so
    (goes ∙ ap (λ (xs : List ℕ). out ++ xs) (sym (append-nil (change_line event ups m n (ThreadCell s (record { 0 = t })))))))

-- the first, and the next one
pub first-within : (calm : Bool) (s : SpaceNo) (end next : ℕ) (records : List Record) → next ≡ next_reached calm s 0 end records → next ≤ end
first-within calm s end next records is =
    subst (λ (n : ℕ). n ≤ end) (sym is) (next-within calm s 0 end records (omega arith)).high

pub first-written : (event : ℕ) (ups : List ActNo) (m n : Seen) (e : Event) (s : SpaceNo) (calm : Bool) (end next : ℕ) (old : List ℕ)
    → IsAfter m n e → calm ≡ are_calm m.workload m.readings.state e.records → next ≡ next_reached calm s 0 end e.records
    → old ≡ old ++ flat_map (change_line event ups m n) (up_to (thread_cell s) next)
first-written event ups m n e s calm end next old after is found =
    passes event ups m n e s calm 0 end old old after is (omega arith) (sym (append-nil old))
    ∙ ap (λ (k : ℕ). old ++ flat_map (change_line event ups m n) (up_to (thread_cell s) k)) (sym found)

pub next-after : (calm : Bool) (s : SpaceNo) (t end next : ℕ) (records : List Record) → t < end → next ≡ next_reached calm s (t + 1) end records
    → IsWithin (t + 1) end next
next-after calm s t end next records less is = subst (IsWithin (t + 1) end) (sym is) (next-within calm s (t + 1) end records (omega (arith, less)))

pub next-written : (event : ℕ) (ups : List ActNo) (m n : Seen) (e : Event) (s : SpaceNo) (calm : Bool) (t end next : ℕ) (old out new : List ℕ)
    → IsAfter m n e → calm ≡ are_calm m.workload m.readings.state e.records → t < end → next ≡ next_reached calm s (t + 1) end e.records
    → out ≡ old ++ flat_map (change_line event ups m n) (up_to (thread_cell s) t) → new ≡ out ++ change_line event ups m n (ThreadCell s (record { 0 = t }))
    → new ≡ old ++ flat_map (change_line event ups m n) (up_to (thread_cell s) next)
next-written event ups m n e s calm t end next old out new after is less found so goes =
    one-passes event ups m n e s calm t end old out new after is less so goes
    ∙ ap (λ (k : ℕ). old ++ flat_map (change_line event ups m n) (up_to (thread_cell s) k)) (sym found)
