-- How the room for activations changes.
use Rattle.std.proofs.Common.{◌≡◌, ◌≢◌, ℕ, zero, suc, ◌+◌, ◌-◌, ◌≤◌, ◌<◌, ◌^◌, true, false, List, [], ◌∷◌, ◌++◌, All, length, drop, if◌then◌else◌, cond, Option, Some, None, is_some, slice_get, slice_index_or, slice_set, sum_by, replicate, refl, sym, ap, ◌∙◌, subst, inl, inr, arith, length-append}
use Rattle.std.proofs.Math.Path.{fun_ext}
use Rattle.std.proofs.lemmas.Bool.{cases_eq, cases_lt, true≢false}
use Rattle.std.proofs.lemmas.Option.{same_Some}
use Rattle.std.proofs.lemmas.List.{get_or_default, get_or_past, get_or-set_other, length-drop, length-map, length-set, map-set, set-get_or, set_past}
use Rattle.std.proofs.lemmas.List.Elements.{All-set}
use Rattle.std.proofs.lemmas.List.Sums.{sum_by-cons, sum_by-set}
use Rattle.slab.specs.Slab.{Slab, Updates, get, slab_len, with_value, HasRoomFor}
use Rattle.sa_lemmas.specs.Function.{put}
use Rattle.sa_lemmas.proofs.FunctionUpdates.{put-at, put-other}
use Rattle.sa_base.specs.declared.limits.TheConstants.{MAX_SPACES}
use Rattle.sa_base.specs.declared.number.SpaceNo.{SpaceNo}
use Rattle.sa_base.specs.declared.number.ActNo.{ActNo}
use Rattle.sa_base.specs.declared.context.Stopped.{Stopped}
use Rattle.sa_acts.specs.declared.acts.Act.{Act}
use Rattle.sa_acts.specs.Queues.{QueueView, queue_at, queued, all_numbers, HaveRoom, IsGrown}
use Rattle.sa_acts.specs.Table.{ActsView, acts_of, runs_in, holding, taken_from, space_of, saved, took, gave, gave_back, without, without_first}
use Rattle.sa_acts.specs.Room.{HasRoom, IsKept, untaken}
use Rattle.sa_acts.proofs.Weights.{weigh-updates}

-- what the queues hold, with another one at s
queued-set : (queues : List QueueView) (s : ℕ) (q : QueueView) → s < length queues
    → sum_by queued (slice_set queues s q) + queued (queue_at queues s) ≡ sum_by queued queues + queued q
queued-set queues s q within = sum_by-set queued queues s q (record { numbers = []; room = 0 }) within

-- the queue of a space without its first number
abbrev pub shorter : List QueueView → ℕ → List QueueView
shorter queues s = slice_set queues s (record (queue_at queues s) { numbers = drop 1 (queue_at queues s).numbers })

-- the queue of a space with a number more
abbrev pub longer : List QueueView → ℕ → ActNo → List QueueView
longer queues s a = slice_set queues s (record (queue_at queues s) { numbers = (queue_at queues s).numbers ++ a ∷ [] })

queued-shorter : (queues : List QueueView) (s : ℕ) → s < length queues
    → sum_by queued (shorter queues s) + queued (queue_at queues s) ≡ sum_by queued queues + (queued (queue_at queues s) - 1)
queued-shorter queues s within =
    let q : QueueView = queue_at queues s in
    omega (arith, queued-set queues s (record q { numbers = drop 1 q.numbers }) within, length-drop 1 q.numbers)

queued-longer : (queues : List QueueView) (s : ℕ) (a : ActNo) → s < length queues
    → sum_by queued (longer queues s a) ≡ sum_by queued queues + 1
queued-longer queues s a within =
    let q : QueueView = queue_at queues s in
    omega (arith, queued-set queues s (record q { numbers = q.numbers ++ a ∷ [] }) within, length-append q.numbers (a ∷ []))

not-empty : (xs : List ActNo) (a : ActNo) → slice_get xs 0 ≡ Some a → 1 ≤ length xs
not-empty [] a first = absurd cc
not-empty (x ∷ xs) a first = omega arith

none-past : (queues : List QueueView) (s : ℕ) (a : ActNo) → length queues ≤ s → slice_get (queue_at queues s).numbers 0 ≡ Some a → ⊥
none-past [] s a past first = cc
none-past (x ∷ xs) zero a past first = absurd (omega arith)
none-past (x ∷ xs) (suc s) a past first = none-past xs s a (omega arith) first

numbers-at : (queues : List QueueView) (s : ℕ) → slice_index_or (all_numbers queues) s [] ≡ (queue_at queues s).numbers
numbers-at (q ∷ qs) (suc s) = numbers-at qs s
numbers-at _ _ = refl

numbers-set : (queues : List QueueView) (s : ℕ) (q : QueueView) → all_numbers (slice_set queues s q) ≡ slice_set (all_numbers queues) s q.numbers
numbers-set queues s q = map-set (λ (x : QueueView). x.numbers) queues s q

numbers-longer : (queues : List QueueView) (s : ℕ) (a : ActNo) → all_numbers (longer queues s a)
    ≡ slice_set (all_numbers queues) s (slice_index_or (all_numbers queues) s [] ++ a ∷ [])
numbers-longer queues s a = numbers-set queues s _ ∙ ap (λ xs. slice_set (all_numbers queues) s (xs ++ a ∷ [])) (sym (numbers-at queues s))

numbers-shorter : (queues : List QueueView) (s : ℕ) → all_numbers (shorter queues s)
    ≡ slice_set (all_numbers queues) s (drop 1 (slice_index_or (all_numbers queues) s []))
numbers-shorter queues s = numbers-set queues s _ ∙ ap (λ xs. slice_set (all_numbers queues) s (drop 1 xs)) (sym (numbers-at queues s))

-- a queue that keeps its numbers and has no less room
pub numbers-grown : (old new : List QueueView) (s : ℕ) → IsGrown old s new → all_numbers new ≡ all_numbers old
numbers-grown old new s grown = ap all_numbers grown.is ∙ reserved old s (queue_at new s).room
  where
    reserved : (qs : List QueueView) (k r : ℕ) → all_numbers (slice_set qs k (record (queue_at qs k) { room = r })) ≡ all_numbers qs
    reserved [] k r = refl
    reserved (x ∷ xs) zero r = refl
    reserved (x ∷ xs) (suc k) r = ap (λ ns. x.numbers ∷ ns) (reserved xs k r)

pub room-grown : (old new : List QueueView) (s n : ℕ) → IsGrown old s new → HaveRoom n old → HaveRoom n new
room-grown old new s n grown each = subst (λ (qs : List QueueView). HaveRoom n qs) (sym grown.is) (elim (cases_lt s (length old)) [
  | inl within ↦
      let mine : n ≤ (queue_at old s).room = each s (record { numbers = []; room = 0 }) within in
      All-set (λ (x : QueueView). n ≤ x.room) old s _ (omega (arith, mine, grown.more)) each
  | inr past ↦ subst (λ (qs : List QueueView). HaveRoom n qs) (sym (set_past old s _ past)) each
])

nothing-queued : (queues : List QueueView) → All (λ (q : QueueView). q.numbers ≡ []) queues → sum_by queued queues ≡ 0
nothing-queued [] none = refl
nothing-queued (q ∷ qs) none =
    let first : queued q ≡ 0 = ap length (none 0 q (omega arith)) in
    omega (arith, first, nothing-queued qs (λ k d below. none (suc k) d (omega (arith, below))), sum_by-cons queued q qs)

pub empty-numbers : (queues : List QueueView) → All (λ (q : QueueView). q.numbers ≡ []) queues → all_numbers queues ≡ replicate (length queues) []
empty-numbers [] none = refl
empty-numbers (q ∷ qs) none = λ i. none 0 q (omega arith) i ∷ empty-numbers qs (λ k d below. none (suc k) d (omega (arith, below))) i

queued-numbers : (queues : List QueueView) → sum_by queued queues ≡ sum_by (λ (ns : List ActNo). length ns) (all_numbers queues)
queued-numbers [] = refl
queued-numbers (q ∷ qs) =
    let rest : sum_by queued qs ≡ sum_by (λ (ns : List ActNo). length ns) (all_numbers qs) = queued-numbers qs in
    omega (arith, rest, sum_by-cons queued q qs, sum_by-cons (λ (ns : List ActNo). length ns) q.numbers (all_numbers qs))

-- the first s queues have room for n numbers
abbrev pub FirstHaveRoom : ℕ → ℕ → List QueueView → Type 0
FirstHaveRoom s n queues = (k : ℕ) → k < s → n ≤ (queue_at queues k).room

pub first-grown : (old new : List QueueView) (s n : ℕ) → IsGrown old s new → n ≤ (queue_at new s).room
    → FirstHaveRoom s n old → FirstHaveRoom (s + 1) n new
first-grown old new s n grown room first k below = elim (cases_eq k s) [
  | inl same ↦ subst (λ (x : QueueView). n ≤ x.room) (ap (queue_at new) (sym same)) room
  | inr apart ↦ subst (λ (x : QueueView). n ≤ x.room)
      (sym (ap (λ qs. queue_at qs k) grown.is ∙ get_or-set_other old s k _ _ apart)) (first k (omega (arith, below, apart)))
]

-- past the queues there is none
-- where the first queues are all of them, each has room for n numbers
pub all-have-room : (queues : List QueueView) (s n : ℕ) → length queues ≤ s → FirstHaveRoom s n queues → HaveRoom n queues
all-have-room queues s n all first k d within =
    subst (λ (x : QueueView). n ≤ x.room) (get_or_default queues k _ d within) (first k (omega arith))

nothing-dropped : (xs : List ActNo) → slice_get xs 0 ≡ None → drop 1 xs ≡ xs
nothing-dropped [] none = refl
nothing-dropped (x ∷ xs) none = absurd (true≢false (ap is_some none))

-- an empty queue stays as it is without its first number
pub shorter-none : (queues : List QueueView) (s : ℕ) → slice_get (queue_at queues s).numbers 0 ≡ None → shorter queues s ≡ queues
shorter-none queues s none =
    ap (λ xs. slice_set queues s (record (queue_at queues s) { numbers = xs })) (nothing-dropped (queue_at queues s).numbers none)
    ∙ set-get_or queues s (record { numbers = []; room = 0 })

-- the first number of a queue is that of its list
pub first-number : (queues : List QueueView) (s : ℕ) → slice_get (queue_at queues s).numbers 0 ≡ slice_get (slice_index_or (all_numbers queues) s []) 0
first-number queues s = ap (λ xs. slice_get xs 0) (sym (numbers-at queues s))

pub none-there : (queues : List QueueView) (s : ℕ) → length queues ≤ s → slice_get (queue_at queues s).numbers 0 ≡ None
none-there queues s past = ap (λ (q : QueueView). slice_get q.numbers 0) (get_or_past queues s _ past)

module _ {C : Type 0} where
  -- 1 for a number in use
  abbrev in_use : Option (Act C) → ℕ
  in_use x = cond (is_some x) 1 0

  -- a change of one slot, in numbers
  pub untaken-updates : (old new : Slab (Act C)) (key : ℕ) (slot : Option (Act C)) → Updates old new key slot
      → sum_by untaken new.slots + untaken (get old key) ≡ sum_by untaken old.slots + untaken slot
  untaken-updates old new key slot u =
      weigh-updates untaken refl old.slots new.slots key u.others
      ∙ ap (λ x. sum_by untaken old.slots + untaken x) u.changed

  pub used-updates : (old new : Slab (Act C)) (key : ℕ) (slot : Option (Act C)) → Updates old new key slot
      → slab_len new + in_use (get old key) ≡ slab_len old + in_use slot
  used-updates old new key slot u =
      weigh-updates in_use refl old.slots new.slots key u.others ∙ ap (λ x. slab_len old + in_use x) u.changed

  -- a change of one slot, as a function
  pub acts-updates : (old new : Slab (Act C)) (key : ℕ) (slot : Option (Act C)) → Updates old new key slot
      → (λ n. get new n) ≡ put (λ n. get old n) key slot
  acts-updates old new key slot u = fun_ext (λ n. elim (cases_eq n key) [
    | inl same ↦ ap (λ k. get new k) same ∙ u.changed ∙ sym (put-at (λ k. get old k) key n slot same)
    | inr apart ↦ u.others n apart ∙ sym (put-other (λ k. get old k) key n slot apart)
  ])

  -- what holds of each activation, where one slot changed
  pub kept-updates : (old new : Slab (Act C)) (key : ℕ) (slot : Option (Act C)) → Updates old new key slot
      → ((n : ℕ) (x : Act C) → get old n ≡ Some x → IsKept x) → ((x : Act C) → slot ≡ Some x → IsKept x)
      → (n : ℕ) (x : Act C) → get new n ≡ Some x → IsKept x
  kept-updates old new key slot u each here n x is = elim (cases_eq n key) [
    | inl same ↦ here x (sym u.changed ∙ sym (ap (λ k. get new k) same) ∙ is)
    | inr apart ↦ each n x (sym (u.others n apart) ∙ is)
  ]

  within-list : (xs : List (Option (Act C))) (i : ℕ) (x : Act C) → slice_index_or xs i None ≡ Some x → i < length xs
  within-list [] i x is = absurd cc
  within-list (y ∷ ys) zero x is = omega arith
  within-list (y ∷ ys) (suc i) x is = let below : i < length ys = within-list ys i x is in omega (arith, below)

  set-same : (xs : List (Option (Act C))) (i : ℕ) (v : Option (Act C)) → i < length xs → slice_index_or (slice_set xs i v) i None ≡ v
  set-same [] i v h = absurd (omega arith)
  set-same (y ∷ ys) zero v h = refl
  set-same (y ∷ ys) (suc i) v h = set-same ys i v (omega arith)

  set-other : (xs : List (Option (Act C))) (i j : ℕ) (v : Option (Act C)) → j ≢ i → slice_index_or (slice_set xs i v) j None ≡ slice_index_or xs j None
  set-other (y ∷ ys) zero zero v apart = absurd (apart refl)
  set-other (y ∷ ys) (suc i) (suc j) v apart = set-other ys i j v (λ e. apart (ap suc e))
  set-other _ _ _ v apart = refl

  -- a value put in where one was is such a change
  pub updates-with_value : (old : Slab (Act C)) (key : ℕ) (x y : Act C) → get old key ≡ Some x
      → Updates old (with_value old key y) key (Some y)
  updates-with_value old key x y is = record {
    changed = set-same old.slots key (Some y) (within-list old.slots key x is);
    others = λ j apart. set-other old.slots key j (Some y) apart;
  }

  pub view-is : (v w : ActsView C) → v.acts ≡ w.acts → v.taken ≡ w.taken → v.used ≡ w.used → v.spare ≡ w.spare → v ≡ w
  view-is v w acts taken used spare = λ i. record { acts = acts i; taken = taken i; used = used i; spare = spare i }

  untaken-in_use : (x : Option (Act C)) → untaken x ≤ in_use x
  untaken-in_use None = omega arith
  untaken-in_use (Some x) = elim x.taken as (λ b. cond b 0 1 ≤ 1) [ true ↦ omega arith | false ↦ omega arith ]

  in_use-one : (x : Option (Act C)) → in_use x ≤ 1
  in_use-one None = omega arith
  in_use-one (Some x) = omega arith

  -- a number more is in use
  pub room-fresh : (old new : Slab (Act C)) (queues : List QueueView) (spare key : ℕ) (s : SpaceNo)
      → HasRoom old queues spare → 1 ≤ spare → slab_len old + 1 < 2 ^ 32 → s.0 < MAX_SPACES
      → get old key ≡ None → Updates old new key (Some (runs_in s)) → new.capacity ≡ old.capacity
      → HasRoom new queues (spare - 1)
  room-fresh old new queues spare key s room some few space vacant u capacity =
      let used : slab_len new ≡ slab_len old + 1 =
      let e = used-updates old new key (Some (runs_in s)) u in let z : in_use (get old key) ≡ 0 = ap in_use vacant in omega (arith, e, z) in
      let more : sum_by untaken new.slots ≡ sum_by untaken old.slots + 1 =
      let e = untaken-updates old new key (Some (runs_in s)) u in let z : untaken (get old key) ≡ 0 = ap untaken vacant in omega (arith, e, z) in
      let same : slab_len old + spare ≡ slab_len new + (spare - 1) = omega (arith, used, some) in
      record {
        queues = room.queues;
        slots = omega (arith, room.slots, same, capacity);
        rooms = subst (λ n. All (λ (q : QueueView). n ≤ q.room) queues) same room.rooms;
        few = omega (arith, room.few, used, more);
        small = omega (arith, few, used);
        kept = kept-updates old new key (Some (runs_in s)) u room.kept (λ x is. record {
          space = subst (λ (y : Act C). y.space.0 < MAX_SPACES) (same_Some (runs_in s) x is) space;
          held = λ h. ap (λ (y : Act C). y.taken) (sym (same_Some (runs_in s) x is));
        });
      }

  -- what is known of a context is another, and the activation is no more taken than before
  pub room-put : (old : Slab (Act C)) (queues : List QueueView) (spare key : ℕ) (x y : Act C)
      → HasRoom old queues spare → get old key ≡ Some x → untaken (Some y) ≡ untaken (Some x) → IsKept y
      → HasRoom (with_value old key y) queues spare
  room-put old queues spare key x y room is same kept =
      let u = updates-with_value old key x y is in
      let used : slab_len (with_value old key y) ≡ slab_len old =
      let e = used-updates old (with_value old key y) key (Some y) u in
      let one : in_use (get old key) ≡ 1 = ap in_use is in omega (arith, e, one) in
      let more : sum_by untaken (slice_set old.slots key (Some y)) ≡ sum_by untaken old.slots =
      let e = untaken-updates old (with_value old key y) key (Some y) u in
      let one : untaken (get old key) ≡ untaken (Some x) = ap untaken is in omega (arith, e, one, same) in
      record {
        queues = room.queues;
        slots = omega (arith, room.slots, used);
        rooms = subst (λ n. All (λ (q : QueueView). n + spare ≤ q.room) queues) (sym used) room.rooms;
        few = omega (arith, room.few, used, more);
        small = omega (arith, room.small, used);
        kept = kept-updates old (with_value old key y) key (Some y) u room.kept (λ z e. subst IsKept (same_Some y z e) kept);
      }

  -- the context of an activation is taken
  pub room-took : (old : Slab (Act C)) (queues : List QueueView) (spare key : ℕ) (x y : Act C) (s : ℕ) (a : ActNo)
      → HasRoom old queues spare → get old key ≡ Some x → x.taken ≡ false → y.taken ≡ true → IsKept y → s < MAX_SPACES
      → HasRoom (with_value old key y) (longer queues s a) spare
  room-took old queues spare key x y s a room is before after kept space =
      let within : s < length queues = omega (arith, room.queues, space) in
      let u = updates-with_value old key x y is in
      let used : slab_len (with_value old key y) ≡ slab_len old =
      let e = used-updates old (with_value old key y) key (Some y) u in
      let one : in_use (get old key) ≡ 1 = ap in_use is in omega (arith, e, one) in
      let less : sum_by untaken (slice_set old.slots key (Some y)) + 1 ≡ sum_by untaken old.slots =
      let e = untaken-updates old (with_value old key y) key (Some y) u in
      let one : untaken (get old key) ≡ 1 = ap untaken is ∙ ap (λ b. cond b 0 1) before in
      let none : untaken (Some y) ≡ 0 = ap (λ b. cond b 0 1) after in omega (arith, e, one, none) in
      let held : All (λ (q : QueueView). slab_len old + spare ≤ q.room) queues = room.rooms in
      let mine : slab_len old + spare ≤ (queue_at queues s).room = held s (record { numbers = []; room = 0 }) within in
      record {
        queues = length-set queues s _ ∙ room.queues;
        slots = omega (arith, room.slots, used);
        rooms = subst (λ n. All (λ (q : QueueView). n + spare ≤ q.room) (longer queues s a)) (sym used)
            (All-set (λ (q : QueueView). slab_len old + spare ≤ q.room) queues s _ mine held);
        few = omega (arith, room.few, used, less, queued-longer queues s a within);
        small = omega (arith, room.small, used);
        kept = kept-updates old (with_value old key y) key (Some y) u room.kept (λ z e. subst IsKept (same_Some y z e) kept);
      }

  -- a queue loses its first number
  pub room-shorter : (old : Slab (Act C)) (queues : List QueueView) (spare s : ℕ) → HasRoom old queues spare
      → HasRoom old (shorter queues s) spare
  room-shorter old queues spare s room = elim (cases_lt s (length queues)) [
    | inl within ↦ record {
      queues = length-set queues s _ ∙ room.queues;
      slots = room.slots;
      rooms = All-set (λ (q : QueueView). slab_len old + spare ≤ q.room) queues s _
          (room.rooms s (record { numbers = []; room = 0 }) within) room.rooms;
      few = omega (arith, room.few, queued-shorter queues s within);
      small = room.small;
      kept = room.kept;
    }
    | inr past ↦ subst (λ (qs : List QueueView). HasRoom old qs spare) (sym (set_past queues s _ past)) room
  ]

  -- a number that is given back is no longer used
  pub room-gave : (old new : Slab (Act C)) (queues : List QueueView) (spare key s : ℕ) (a : ActNo) → HasRoom old queues spare
      → Updates old new key None → new.capacity ≡ old.capacity → slice_get (queue_at queues s).numbers 0 ≡ Some a
      → HasRoom new (shorter queues s) spare
  room-gave old new queues spare key s a room u capacity first = elim (cases_lt s (length queues)) [
    | inl within ↦
        let used = used-updates old new key None u in
        let left = untaken-updates old new key None u in
        let lighter : untaken (get old key) ≤ in_use (get old key) = untaken-in_use (get old key) in
        let one : in_use (get old key) ≤ 1 = in_use-one (get old key) in
        let some : 1 ≤ queued (queue_at queues s) = not-empty (queue_at queues s).numbers a first in
        let fewer : slab_len new ≤ slab_len old = omega (arith, used) in
        let shorter_room = room-shorter old queues spare s room in
        record {
          queues = shorter_room.queues;
          slots = omega (arith, room.slots, fewer, capacity);
          rooms = λ k d below. omega (arith, shorter_room.rooms k d below, fewer);
          few = omega (arith, room.few, queued-shorter queues s within, used, left, lighter, one, some);
          small = omega (arith, room.small, fewer);
          kept = kept-updates old new key None u room.kept (λ x e. absurd cc);
        }
    | inr past ↦ absurd (none-past queues s a past first)
  ]

  -- the table has no less room
  pub room-reserved : (old new : Slab (Act C)) (queues : List QueueView) (spare : ℕ) → HasRoom old queues spare
      → new ≡ record old { capacity = new.capacity } → old.capacity ≤ new.capacity → HasRoom new queues spare
  room-reserved old new queues spare room same more =
      let bigger : HasRoom (record old { capacity = new.capacity }) queues spare = record {
        queues = room.queues;
        slots = omega (arith, room.slots, more);
        rooms = room.rooms;
        few = room.few;
        small = room.small;
        kept = room.kept;
      } in subst (λ (t : Slab (Act C)). HasRoom t queues spare) (sym same) bigger

  -- the queues have no less room
  pub room-requeued : (old : Slab (Act C)) (queues others : List QueueView) (spare : ℕ) → HasRoom old queues spare
      → all_numbers others ≡ all_numbers queues → ((n : ℕ) → HaveRoom n queues → HaveRoom n others) → HasRoom old others spare
  room-requeued old queues others spare room same more = record {
    queues = sym (length-map others _) ∙ ap length same ∙ length-map queues _ ∙ room.queues;
    slots = room.slots;
    rooms = more (slab_len old + spare) room.rooms;
    few = let q = queued-numbers others ∙ ap (sum_by (λ (ns : List ActNo). length ns)) same ∙ sym (queued-numbers queues) in
        omega (arith, room.few, q);
    small = room.small;
    kept = room.kept;
  }

  -- there is room for n more
  pub room-respared : (old : Slab (Act C)) (queues : List QueueView) (spare n : ℕ) → HasRoom old queues spare
      → HasRoomFor old n → HaveRoom (slab_len old + n) queues → HasRoom old queues n
  room-respared old queues spare n room slots rooms = record {
    queues = room.queues;
    slots = slots;
    rooms = rooms;
    few = room.few;
    small = room.small;
    kept = room.kept;
  }

  pub room-none : (table : Slab (Act C)) (queues : List QueueView) → table.slots ≡ [] → length queues ≡ MAX_SPACES
      → All (λ (q : QueueView). q.numbers ≡ []) queues → HasRoom table queues 0
  room-none table queues empty sixteen none = subst (λ (xs : List (Option (Act C))). HasRoom (record table { slots = xs }) queues 0) (sym empty) (record {
    queues = sixteen;
    slots = omega arith;
    rooms = λ k d below. omega arith;
    few = omega (arith, nothing-queued queues none);
    small = omega arith;
    kept = λ n x is. absurd cc;
  })

  pub used-with_value : (old : Slab (Act C)) (key : ℕ) (x y : Act C) → get old key ≡ Some x
      → slab_len (with_value old key y) ≡ slab_len old
  used-with_value old key x y is =
      let e = used-updates old (with_value old key y) key (Some y) (updates-with_value old key x y is) in
      let one : in_use (get old key) ≡ 1 = ap in_use is in omega (arith, e, one)

  pub view-none : (table : Slab (Act C)) (queues : List QueueView) → table.slots ≡ [] → length queues ≡ MAX_SPACES
      → All (λ (q : QueueView). q.numbers ≡ []) queues
      → acts_of (record { table = table; taken = all_numbers queues; spare = 0 })
      ≡ record { acts = λ n. None; taken = replicate MAX_SPACES []; used = 0; spare = 0 }
  view-none table queues empty sixteen none =
      view-is _ _ (ap (λ (xs : List (Option (Act C))). λ n. slice_index_or xs n None) empty)
      (empty-numbers queues none ∙ ap (λ n. replicate n []) sixteen)
      (ap (λ (xs : List (Option (Act C))). sum_by in_use xs) empty) refl

  -- the view after each call
  pub view-saved : (old : Slab (Act C)) (taken : List (List ActNo)) (spare : ℕ) (a : ActNo) (x : Act C) (held : Stopped C)
      → get old a.0 ≡ Some x
      → acts_of (record { table = with_value old a.0 (record x { held = Some held }); taken = taken; spare = spare })
      ≡ saved (acts_of (record { table = old; taken = taken; spare = spare })) a held
  view-saved old taken spare a x held is =
      let y : Act C = record x { held = Some held } in
      view-is _ _
      (acts-updates old (with_value old a.0 y) a.0 (Some y) (updates-with_value old a.0 x y is)
      ∙ ap (λ (act : Option (Act C)). put (λ n. get old n) a.0 (holding held act)) (sym is))
      refl (used-with_value old a.0 x y is) refl

  pub view-took : (old : Slab (Act C)) (queues : List QueueView) (spare : ℕ) (a : ActNo) (x : Act C) → get old a.0 ≡ Some x
      → acts_of (record { table = with_value old a.0 (record x { held = None; taken = true }); taken = all_numbers (longer queues x.space.0 a); spare = spare })
      ≡ took (acts_of (record { table = old; taken = all_numbers queues; spare = spare })) a
  view-took old queues spare a x is =
      let y : Act C = record x { held = None; taken = true } in
      view-is _ _
      (acts-updates old (with_value old a.0 y) a.0 (Some y) (updates-with_value old a.0 x y is)
      ∙ ap (λ (act : Option (Act C)). put (λ n. get old n) a.0 (taken_from act)) (sym is))
      (numbers-longer queues x.space.0 a
      ∙ ap (λ (act : Option (Act C)). slice_set (all_numbers queues) (space_of act).0
      (slice_index_or (all_numbers queues) (space_of act).0 [] ++ a ∷ [])) (sym is))
      (used-with_value old a.0 x y is) refl

  used-without : (old new : Slab (Act C)) (a : ActNo) → Updates old new a.0 None
      → slab_len new ≡ (if is_some (get old a.0) then slab_len old - 1 else slab_len old)
  used-without old new a u =
      let e : slab_len new + in_use (get old a.0) ≡ slab_len old + 0 = used-updates old new a.0 None u in
      by-cases (get old a.0) e
    where
      by-cases : (x : Option (Act C)) → slab_len new + in_use x ≡ slab_len old + 0
          → slab_len new ≡ (if is_some x then slab_len old - 1 else slab_len old)
      by-cases None e = omega (arith, e)
      by-cases (Some x) e = omega (arith, e)

  pub view-gave : (old new : Slab (Act C)) (queues : List QueueView) (spare s : ℕ) (a : ActNo) → Updates old new a.0 None
      → slice_get (queue_at queues s).numbers 0 ≡ Some a
      → acts_of (record { table = new; taken = all_numbers (shorter queues s); spare = spare })
      ≡ gave_back (acts_of (record { table = old; taken = all_numbers queues; spare = spare })) s
  view-gave old new queues spare s a u first =
      view-is _ (without (without_first (acts_of (record { table = old; taken = all_numbers queues; spare = spare })) s) a)
      (acts-updates old new a.0 None u) (numbers-shorter queues s) (used-without old new a u) refl
      ∙ ap (gave (without_first (acts_of (record { table = old; taken = all_numbers queues; spare = spare })) s))
      (sym (ap (λ xs. slice_get xs 0) (numbers-at queues s) ∙ first))

  -- no activation is given back where none was taken
  pub view-kept : (table : Slab (Act C)) (queues : List QueueView) (spare s : ℕ) → slice_get (queue_at queues s).numbers 0 ≡ None
      → acts_of (record { table = table; taken = all_numbers (shorter queues s); spare = spare })
      ≡ gave_back (acts_of (record { table = table; taken = all_numbers queues; spare = spare })) s
  view-kept table queues spare s none =
      let v : ActsView C = acts_of (record { table = table; taken = all_numbers queues; spare = spare }) in
      view-is _ (without_first v s) refl (numbers-shorter queues s) refl refl
      ∙ ap (gave (without_first v s)) (sym none ∙ first-number queues s)
