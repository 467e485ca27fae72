-- Fields of lives that no record changes, but for the up of the life and the telling of its stop or unblock.
use Rattle.std.proofs.Common.{◌≡◌, ℕ, refl, Some, None, List, [], ◌∷◌, true, false, sym, ◌∙◌, ap}
use Rattle.std.specs.Prelude.{Option, Bool, unwrap_or, not, ◌&&◌, is_none}
use Rattle.std.proofs.lemmas.Option.{same_Some}
use Rattle.sa_base.specs.declared.number.ProcNo.{ProcNo}
use Rattle.sa_base.specs.declared.number.SpaceNo.{SpaceNo}
use Rattle.sa_base.specs.declared.number.ThreadNo.{ThreadNo}
use Rattle.sa_base.specs.declared.number.ActNo.{ActNo}
use Rattle.sa_base.specs.declared.record.Note.TheVariants as note
use Rattle.sa_base.specs.declared.record.Record.{Record}
use Rattle.sa_base.specs.declared.record.Record.TheVariants.{Ins, Run, Stop, Block, Unblock, Cont, Back, Ready, Take, Free, Up, Told, GiveBack}
use Rattle.sa_spaces.specs.Workload.{WorkloadView}
use Rattle.sa_laws.specs.Machine.{next_effect}
use Rattle.sa_laws.specs.Life.{Life, Lock, new_life, with_hand, without_lock, with_first, ran, with_cont, held_with, inherits, bereft}
use Rattle.sa_laws.specs.Readings.{Readings, running_of, life_of}
use Rattle.sa_laws.specs.Record.{handed, lives_after, after_record, locks, one_thread, stopped_with, back_with, made_ready}
use Rattle.sa_laws.specs.History.{after_records}
use Rattle.sa_promises.specs.Steps.{told_of, renewed_at, renewed, idle_at, idle_behind}
use Rattle.sa_promises.proofs.read.Lives.{Said, said-where, said-keep, said-new, said-gone, said-lost, said-stays}

pub record Untouched {F : Type 0} (g : Life → F) (first : F) (told : Option F) : Type 0 where
  pub fresh : (s : SpaceNo) (p : ProcNo) → g (new_life s p) ≡ first
  pub bare : (l : Life) → g (bereft l) ≡ unwrap_or told (g l)
  pub joined : (from l : Life) → g (inherits from l) ≡ g l
  pub hand : (ts : List ThreadNo) (l : Life) → g (with_hand ts l) ≡ g l
  pub lock : (f : Lock → Lock) (l : Life) → g (with_first f l) ≡ g l
  pub stopped : (t : Option ThreadNo) (l : Life) → g (stopped_with t l) ≡ g l
  pub held : (t : Option ThreadNo) (l : Life) → g (held_with t l) ≡ g l
  pub cont : (c : Bool) (l : Life) → g (with_cont c l) ≡ g l
  pub back : (t : Option ThreadNo) (l : Life) → g (back_with t l) ≡ g l
  pub ready : (t : ThreadNo) (l : Life) → g (made_ready t l) ≡ g l
  pub locked : (r : Readings) (p q : ProcNo) (t : Option ThreadNo) (l : Life) → g (locks r p q t l) ≡ g l
  pub freed : (l : Life) → g (without_lock l) ≡ g l

told-said : {F : Type 0} (g : Life → F) (first : F) (told : Option F) (up : Option ActNo) (a : ActNo) (o : Option Life) (lives : ℕ → Option Life) (has : ℕ → F)
    → Untouched g first told
    → lives a.0 ≡ o → Said g lives has → Said g (handed up a o lives) (told_of told a has)
told-said g first None up a o lives has same at said = said-stays g up a o lives has same.joined same.bare said
told-said g first (Some v) up a o lives has same at said = said-lost g up a o v lives has same.joined same.bare at said

untouched-step : {F : Type 0} (g : Life → F) (first : F) (told : Option F) (w : WorkloadView) (p : ProcNo) (r : Readings) (x : Record) (has : ℕ → F)
    → Untouched g first told
    → Said g r.lives has → Said g (lives_after w p r x) (renewed_at first told x has)
untouched-step g first told w p r (Ins s t i) has same said =
    said-keep g (with_hand (next_effect w r.state s t).roused) (running_of r p) r.lives has (same.hand _) said
untouched-step g first told w p r (Run s t) has same said = said-keep g (with_first (ran t)) (running_of r p) r.lives has (same.lock _) said
untouched-step g first told w p r (Stop s t a) has same said = said-keep g (stopped_with t) (Some a) r.lives has (same.stopped t) said
untouched-step g first told w p r (Block s t a io) has same said = said-keep g (held_with t) (Some a) r.lives has (same.held t) said
untouched-step g first told w p r (Unblock s t a) has same said = said-keep g (with_hand (one_thread t)) (Some a) r.lives has (same.hand _) said
untouched-step g first told w p r (Cont s t) has same said = said-keep g (with_cont true) (running_of r p) r.lives has (same.cont true) said
untouched-step g first told w p r (Back s t) has same said = said-keep g (back_with t) (running_of r p) r.lives has (same.back t) said
untouched-step g first told w p r (Ready s t) has same said = said-keep g (made_ready t) (running_of r p) r.lives has (same.ready t) said
untouched-step g first told w p r (Take s l t) has same said = said-keep g (locks r p l t) (running_of r p) r.lives has (same.locked r p l t) said
untouched-step g first told w p r (Free s l t) has same said = said-keep g without_lock (running_of r p) r.lives has same.freed said
untouched-step g first told w p r (Up s a) has same said = said-new g a.0 (new_life s p) first r.lives has (same.fresh s p) said
untouched-step g first told w p r (Told (note.Preempted a)) has same said = told-said g first told r.upped a (life_of r a) r.lives has same refl said
untouched-step g first told w p r (Told (note.Unblocked a)) has same said = told-said g first told r.upped a (life_of r a) r.lives has same refl said
untouched-step g first told w p r (GiveBack a) has same said = said-gone g a.0 r.lives has said
untouched-step g first told w p r _ has same said = said

pub untouched-records : {F : Type 0} (g : Life → F) (first : F) (told : Option F) (w : WorkloadView) (e : ℕ) (p : ProcNo) (r : Readings) (xs : List Record)
    (has : ℕ → F)
    → Untouched g first told → Said g r.lives has → Said g (after_records w e p r xs).lives (renewed first told xs has)
untouched-records g first told w e p r [] has same said = said
untouched-records g first told w e p r (x ∷ xs) has same said =
    untouched-records g first told w e p (after_record w e p r x) xs (renewed_at first told x has) same (untouched-step g first told w p r x has same said)

-- its scan count, and whether its last own event was a free
-- whether a life is in
abbrev pub in_now : Life → Bool
in_now life = life.inside

abbrev pub scanned : Life → ℕ
scanned life = life.scans

abbrev pub was_freed : Life → Bool
was_freed life = life.freed

pub in-untouched : Untouched in_now false (Some false)
in-untouched = record {
  fresh = λ s p. refl;
  bare = λ l. refl;
  joined = λ from l. refl;
  hand = λ ts l. refl;
  lock = λ f l. refl;
  stopped = λ t l. refl;
  held = λ t l. refl;
  cont = λ c l. refl;
  back = λ t l. refl;
  ready = λ t l. refl;
  locked = λ r p q t l. refl;
  freed = λ l. refl;
}

pub scanned-untouched : Untouched scanned 0 None
scanned-untouched = record {
  fresh = λ s p. refl;
  bare = λ l. refl;
  joined = λ from l. refl;
  hand = λ ts l. refl;
  lock = λ f l. refl;
  stopped = λ t l. refl;
  held = λ t l. refl;
  cont = λ c l. refl;
  back = λ t l. refl;
  ready = λ t l. refl;
  locked = λ r p q t l. refl;
  freed = λ l. refl;
}

pub freed-untouched : Untouched was_freed false None
freed-untouched = record {
  fresh = λ s p. refl;
  bare = λ l. refl;
  joined = λ from l. refl;
  hand = λ ts l. refl;
  lock = λ f l. refl;
  stopped = λ t l. refl;
  held = λ t l. refl;
  cont = λ c l. refl;
  back = λ t l. refl;
  ready = λ t l. refl;
  locked = λ r p q t l. refl;
  freed = λ l. refl;
}

-- whether a stopped life was idle
abbrev pub idle_then : Life → Bool
idle_then life = life.idle

idle-step : (w : WorkloadView) (p : ProcNo) (r : Readings) (x : Record) (ins has : ℕ → Bool) → Said in_now r.lives ins → Said idle_then r.lives has
    → Said idle_then (lives_after w p r x) (idle_at ins x has)
idle-step w p r (Ins s t i) ins has within said =
    said-keep idle_then (with_hand (next_effect w r.state s t).roused) (running_of r p) r.lives has (λ l. refl) said
idle-step w p r (Run s t) ins has within said = said-keep idle_then (with_first (ran t)) (running_of r p) r.lives has (λ l. refl) said
idle-step w p r (Stop s t a) ins has within said = said-where idle_then (stopped_with t) (λ old. not (ins a.0) && is_none t) (Some a) r.lives has
    (λ b life same is. ap (λ c. not c && is_none t) (within b.0 life is ∙ ap (λ (c : ActNo). ins c.0) (sym (same_Some a b same)))) said
idle-step w p r (Block s t a io) ins has within said = said-keep idle_then (held_with t) (Some a) r.lives has (λ l. refl) said
idle-step w p r (Unblock s t a) ins has within said = said-keep idle_then (with_hand (one_thread t)) (Some a) r.lives has (λ l. refl) said
idle-step w p r (Cont s t) ins has within said = said-keep idle_then (with_cont true) (running_of r p) r.lives has (λ l. refl) said
idle-step w p r (Back s t) ins has within said = said-keep idle_then (back_with t) (running_of r p) r.lives has (λ l. refl) said
idle-step w p r (Ready s t) ins has within said = said-keep idle_then (made_ready t) (running_of r p) r.lives has (λ l. refl) said
idle-step w p r (Take s l t) ins has within said = said-keep idle_then (locks r p l t) (running_of r p) r.lives has (λ life. refl) said
idle-step w p r (Free s l t) ins has within said = said-keep idle_then without_lock (running_of r p) r.lives has (λ life. refl) said
idle-step w p r (Up s a) ins has within said = said-new idle_then a.0 (new_life s p) false r.lives has refl said
idle-step w p r (Told (note.Preempted a)) ins has within said = said-stays idle_then r.upped a (life_of r a) r.lives has (λ from l. refl) (λ l. refl) said
idle-step w p r (Told (note.Unblocked a)) ins has within said = said-stays idle_then r.upped a (life_of r a) r.lives has (λ from l. refl) (λ l. refl) said
idle-step w p r (GiveBack a) ins has within said = said-gone idle_then a.0 r.lives has said
idle-step w p r _ ins has within said = said

pub idle-records : (w : WorkloadView) (e : ℕ) (p : ProcNo) (r : Readings) (xs : List Record) (ins has : ℕ → Bool) → Said in_now r.lives ins
    → Said idle_then r.lives has
    → Said idle_then (after_records w e p r xs).lives (idle_behind ins xs has)
idle-records w e p r [] ins has within said = said
idle-records w e p r (x ∷ xs) ins has within said =
    idle-records w e p (after_record w e p r x) xs (renewed_at false (Some false) x ins) (idle_at ins x has)
    (untouched-step in_now false (Some false) w p r x ins in-untouched within) (idle-step w p r x ins has within said)
