-- The parts of entries: which records they add, what these change of what is read, and that each is lawful.
use Rattle.std.proofs.Common.{◌≡◌, ◌≢◌, ℕ, ◌<◌, ◌+◌, refl, sym, ◌∙◌, ap, subst, Some, None, List, [], ◌∷◌, ◌++◌, append_assoc, length, map, take, true, false}
use Rattle.std.specs.Prelude.{Option, Bool, ◌&&◌, cond, if◌then◌else◌, get_or, slice_set}
use Rattle.std.specs.List.{list_all, list_any}
use Rattle.std.proofs.lemmas.List.{set-get_or, append-nil}
use Rattle.std.proofs.lemmas.Bool.{eq-eqb, and_parts}
use Rattle.std.proofs.lemmas.Option.{none-some, same_Some}
use Rattle.std.proofs.lemmas.List.Folds.{list_all-append}
use Rattle.std.proofs.lemmas.List.Sums.{take_while-cons}
use Rattle.sa_base.specs.declared.number.SpaceNo.{SpaceNo}
use Rattle.sa_base.specs.declared.number.ProcNo.{ProcNo}
use Rattle.sa_base.specs.declared.number.ActNo.{ActNo}
use Rattle.sa_base.specs.declared.record.Note.{Note}
use Rattle.sa_base.specs.declared.record.Note.TheVariants.{Add, Preempted}
use Rattle.sa_base.specs.declared.record.Record.{Record}
use Rattle.sa_base.specs.declared.record.Record.TheVariants.{Up, Told, Move, Want, Aim, Line}
use Rattle.sa_base.specs.declared.record.Item.{Item}
use Rattle.sa_base.specs.Items.{items_at}
use Rattle.sa_base.proofs.Items.{items_at-append}
use Rattle.sa_spaces.specs.Workload.{WorkloadView}
use Rattle.sa_lemmas.specs.Function.{put}
use Rattle.sa_lemmas.proofs.FunctionUpdates.{put-same, put-other, put-self}
use Rattle.sa_acts.specs.declared.acts.Act.{Act}
use Rattle.sa_acts.specs.Table.{runs_in, holding, held_of}
use Rattle.sa_base.specs.declared.context.Stopped.{Stopped}
use Rattle.sa_assign.specs.Aims.{is_aim}
use Rattle.sa_batch.specs.Notices.{notes_told}
use Rattle.sa_devices.specs.Ios.{fetches}
use Rattle.sa_devices.specs.declared.kind.IoKind.TheVariants.{Upcall}
use Rattle.sa_kernel_model.specs.State.{KernelState, Scene, owner_of, life_of, untold_of, is_fetching}
use Rattle.sa_kernel_model.specs.Closing.{was_idle as idle_in}
use Rattle.sa_kernel_model.specs.Parts.{with_owner, without_aim, with_held, put_aside, run_in, upcall, fetch_page, leave, moved, go_to_by}
use Rattle.sa_laws.specs.Life.{Life, new_life}
use Rattle.sa_laws.specs.Readings.{Readings, was_idle}
use Rattle.sa_laws.specs.Record.{after_record}
use Rattle.sa_laws.specs.History.{after_records}
use Rattle.sa_laws.specs.Shape.{told_run, leave_run, is_own, is_of_closing, is_of_leave, BeginsWithUp}
use Rattle.sa_laws.specs.Turns.{AreTold, IsFetchOrNothing, IsPassage}
use Rattle.sa_laws.specs.Upcalls.{leave_records, fetch_records, GoesTo, RunsOn, notes_due}
use Rattle.sa_laws.proofs.Closings.{AreClosing}
use Rattle.sa_kernel_laws.specs.Overview.{Overview, overview, read_off, space_of, act_space, spaces_in, taken_behind}
use Rattle.sa_kernel_laws.proofs.overview.Records.{put-through, up-record}
use Rattle.sa_kernel_laws.proofs.overview.Untold.{copies, AreOnce, none-without, told-run}
use Rattle.sa_kernel_laws.specs.Kept.{IdleAlike, IsTidy}
use Rattle.sa_kernel_laws.proofs.overview.Once.{AreApart}
use Rattle.sa_kernel_laws.proofs.overview.Idle.{told-all_idles, contains-emptied, not-there}
use Rattle.sa_kernel_laws.proofs.overview.Tidy.{tidy-in, tidy-of, tidy-emptied, tidy-fetch}
use Rattle.sa_kernel_laws.proofs.entries.Upcalls.{AreLawful, told-lawful}

-- a list of the closing's records, and a list of an event's own
abbrev pub AreOwn : List Record → Type 0
AreOwn xs = list_all is_own xs ≡ true

pub own-both : (xs ys : List Record) → AreOwn xs → AreOwn ys → AreOwn (xs ++ ys)
own-both xs ys a b = list_all-append is_own xs ys ∙ ap (λ c. c && list_all is_own ys) a ∙ b

pub own-told : (ns : List Note) → AreOwn (map Told ns)
own-told [] = refl
own-told (n ∷ ns) = own-told ns

-- items in order
pub items-both : (e : ℕ) (p : ProcNo) (x y z : List Item) (xs ys : List Record) → y ≡ x ++ items_at e p xs → z ≡ y ++ items_at e p ys
    → z ≡ x ++ items_at e p (xs ++ ys)
items-both e p x y z xs ys one two =
    two ∙ ap (λ v. v ++ items_at e p ys) one ∙ append_assoc x (items_at e p xs) (items_at e p ys)
    ∙ ap (λ v. x ++ v) (sym (items_at-append e p xs ys))

-- the closing's records after a run of others
pub closing-told : (xs : List Record) → AreClosing xs → told_run xs ≡ []
closing-told (Told n ∷ xs) is = absurd (cc)
closing-told _ is = refl

pub told-behind : (ns : List Note) (xs : List Record) → AreClosing xs → told_run (map Told ns ++ xs) ≡ ns
told-behind [] xs is = closing-told xs is
told-behind (n ∷ ns) xs is = ap (λ ms. n ∷ ms) (told-behind ns xs is)

both-not : (x : Record) → is_of_closing x ≡ true → is_of_leave x ≡ false
both-not (Want s n) is = refl
both-not (Aim p (Some s)) is = refl
both-not (Line p) is = refl
both-not x is = absurd (cc)

closing-leave : (xs : List Record) → AreClosing xs → leave_run xs ≡ []
closing-leave [] is = refl
closing-leave (x ∷ xs) is =
    take_while-cons is_of_leave x xs ∙ ap (λ b. cond b (x ∷ leave_run xs) []) (both-not x (and_parts (is_of_closing x) (list_all is_of_closing xs) is).0)

pub leave-behind : (xs ys : List Record) → list_all is_of_leave xs ≡ true → AreClosing ys → leave_run (xs ++ ys) ≡ xs
leave-behind [] ys is closes = closing-leave ys closes
leave-behind (x ∷ xs) ys is closes =
    take_while-cons is_of_leave x (xs ++ ys) ∙ ap (λ b. cond b (x ∷ leave_run (xs ++ ys)) []) (and_parts (is_of_leave x) (list_all is_of_leave xs) is).0
    ∙ ap (λ zs. x ∷ zs) (leave-behind xs ys (and_parts (is_of_leave x) (list_all is_of_leave xs) is).1 closes)

-- the records of a fetch
fetch-laws : (w : WorkloadView) (e : ℕ) (p : ProcNo) (r : Readings) (s : SpaceNo) (b : Bool) (rest : List Record)
    → AreLawful w e p (after_records w e p r (fetch_records s b)) rest → AreLawful w e p r (fetch_records s b ++ rest)
fetch-laws w e p r s true rest law = law
fetch-laws w e p r s false rest law = (record { once = tt; named = tt; all = tt; gives = tt; raises = tt }, law)

fetch-own : (s : SpaceNo) (b : Bool) → AreOwn (fetch_records s b)
fetch-own s true = refl
fetch-own s false = refl

fetch-leaves : (s : SpaceNo) (b : Bool) → list_all is_of_leave (fetch_records s b) ≡ true
fetch-leaves s true = refl
fetch-leaves s false = refl

pub not-empty : {A : Type 0} (x : A) (xs : List A) → x ∷ xs ≢ []
not-empty x xs is = cc

abbrev pub set_aside : ProcNo → SpaceNo → Note → Overview → Overview
set_aside p s n v = record v { running = slice_set v.running p.0 None; untold = slice_set v.untold s.0 (get_or v.untold s.0 [] ++ n ∷ []) }

-- an up with its told records, alone and after a move
pub record IsUpWithTold (xs : List Record) : Type 0 where
  pub alone : IsPassage xs
  pub moved : (o : Option SpaceNo) (n : SpaceNo) → IsPassage (Move o (Some n) ∷ xs)

pub told-alone : (ns : List Note) → AreTold (map Told ns)
told-alone [] = tt
told-alone (n ∷ ns) = told-alone ns

fetch-alone : (s : SpaceNo) (b : Bool) → IsFetchOrNothing (fetch_records s b)
fetch-alone s true = tt
fetch-alone s false = tt

-- from what is read
no-life : (o : Option Life) → space_of o ≡ None → o ≡ None
no-life None is = refl
no-life (Some l) is = absurd (cc)

-- what is read after an upcall
abbrev ran : ProcNo → ActNo → SpaceNo → Overview → Overview
ran p a s v = record v {
  assign = record v.assign { marks = slice_set v.assign.marks p.0 false };
  running = slice_set v.running p.0 (Some a);
  spaces = put v.spaces a.0 (Some s);
}

abbrev all_told : List (List Note) → List Note → Overview → Overview
all_told us notes v = record v { untold = us; taken = taken_behind v.spaces notes v.taken }

-- the notices of an upcall, alone or after that of an added processor
alone-reads : (w : WorkloadView) (e : ℕ) (p : ProcNo) (r : Readings) (us : List (List Note)) (s : SpaceNo) → s.0 < length us → r.untold ≡ us → AreApart us
    → overview (after_records w e p r (map Told (get_or us s.0 []))) ≡ all_told (slice_set us s.0 []) (get_or us s.0 []) (overview r)
alone-reads w e p r us s within is apart =
    let full : slice_set us s.0 (get_or us s.0 []) ≡ us = set-get_or us s.0 [] in
    told-run w e p r us s.0 (get_or us s.0 []) within (is ∙ sym full) (subst (λ v. AreOnce v) (sym full) apart.once)

same-behind : (w : WorkloadView) (e : ℕ) (p : ProcNo) (r : Readings) (us : List (List Note)) → r.untold ≡ us → AreApart us
    → (after_record w e p r (Told (Add p))).untold ≡ us
same-behind w e p r us is apart = none-without (Add p) r.untold (ap (copies (Add p)) is ∙ apart.added p) ∙ is

told-reads : (w : WorkloadView) (e : ℕ) (p : ProcNo) (r : Readings) (us : List (List Note)) (s : SpaceNo) (added : Bool) → s.0 < length us → r.untold ≡ us
    → AreApart us → overview (after_records w e p r (map Told (notes_told added p (get_or us s.0 []))))
    ≡ all_told (slice_set us s.0 []) (notes_told added p (get_or us s.0 [])) (overview r)
told-reads w e p r us s false within is apart = alone-reads w e p r us s within is apart
told-reads w e p r us s true within is apart = alone-reads w e p (after_record w e p r (Told (Add p))) us s within (same-behind w e p r us is apart) apart

alone-laws : (w : WorkloadView) (e : ℕ) (p : ProcNo) (r : Readings) (us : List (List Note)) (s : SpaceNo) (a : ActNo) (rest : List Record) → s.0 < length us
    → r.untold ≡ us → AreApart us → r.upped ≡ Some a → (overview r).spaces a.0 ≡ Some s
    → AreLawful w e p (after_records w e p r (map Told (get_or us s.0 []))) rest → AreLawful w e p r (map Told (get_or us s.0 []) ++ rest)
alone-laws w e p r us s a rest within is apart upped space law =
    let full : slice_set us s.0 (get_or us s.0 []) ≡ us = set-get_or us s.0 [] in
    told-lawful w e p r s a us (get_or us s.0 []) rest within (is ∙ sym full) (subst (λ v. AreOnce v) (sym full) apart.once) upped space law

told-laws : (w : WorkloadView) (e : ℕ) (p : ProcNo) (r : Readings) (us : List (List Note)) (s : SpaceNo) (a : ActNo) (added : Bool) (rest : List Record)
    → s.0 < length us → r.untold ≡ us → AreApart us → r.upped ≡ Some a → (overview r).spaces a.0 ≡ Some s
    → AreLawful w e p (after_records w e p r (map Told (notes_told added p (get_or us s.0 [])))) rest
    → AreLawful w e p r (map Told (notes_told added p (get_or us s.0 [])) ++ rest)
told-laws w e p r us s a false rest within is apart upped space law = alone-laws w e p r us s a rest within is apart upped space law
told-laws w e p r us s a true rest within is apart upped space law = (
  record { once = tt; named = tt; all = tt; gives = tt; raises = tt },
  alone-laws w e p (after_record w e p r (Told (Add p))) us s a rest within (same-behind w e p r us is apart) apart upped space law,
)

pub has-life : (o : Option Life) (s : SpaceNo) → space_of o ≡ Some s → (life : Life) × (o ≡ Some life) × (life.space ≡ s)
has-life None s is = absurd (none-some s is)
has-life (Some life) s is = (life, refl, same_Some life.space s is)

module _ {C : Type 0} where
  -- a part of an entry, between two scenes: its records, after which comes the closing
  pub record Walk (w : WorkloadView) (e : ℕ) (p : ProcNo) (r : Readings) (x y : Scene C) (P Q : List Record → Type 0) : Type 0 where
    pub records : List Record
    pub adds : y.items ≡ x.items ++ items_at e p records
    pub reads : overview (after_records w e p r records) ≡ read_off y.state
    pub lawful : (rest : List Record) → AreClosing rest → AreLawful w e p (after_records w e p r records) rest → AreLawful w e p r (records ++ rest)
    pub fixed : y.state.fixed ≡ x.state.fixed
    pub idle : IdleAlike x.state r → IdleAlike y.state (after_records w e p r records)
    pub tidy : IsTidy x.state → IsTidy y.state
    pub some : records ≢ []
    pub own : AreOwn records
    pub shape : Q records
    pub is : (rest : List Record) → AreClosing rest → P (records ++ rest)

  -- the same part, said otherwise
  pub reshaped : (w : WorkloadView) (e : ℕ) (p : ProcNo) (r : Readings) (x y : Scene C) (P Q R S : List Record → Type 0)
      → ((xs : List Record) → P xs → R xs) → ((xs : List Record) → Q xs → S xs) → Walk w e p r x y P Q → Walk w e p r x y R S
  reshaped w e p r x y P Q R S begins shows walk = record {
    records = walk.records;
    adds = walk.adds;
    reads = walk.reads;
    lawful = walk.lawful;
    fixed = walk.fixed;
    idle = walk.idle;
    tidy = walk.tidy;
    some = walk.some;
    own = walk.own;
    shape = shows walk.records walk.shape;
    is = λ rest closes. begins (walk.records ++ rest) (walk.is rest closes);
  }

  -- what an upcall needs
  pub record CanUp (k : KernelState C) (r : Readings) (p : ProcNo) (s : SpaceNo) (a : ActNo) (added : Bool) : Type 0 where
    pub reads : overview r ≡ read_off k
    pub empty : k.telling ≡ []
    pub unused : k.acts a.0 ≡ None
    pub free : life_of k p ≡ None
    pub inside : s.0 < length k.untold
    pub apart : AreApart k.untold
    pub new : copies (Preempted a) k.untold ≡ 0
    pub moved : is_aim s.0 r.moved ≡ added
    pub some : notes_told added p (untold_of k s.0) ≢ []

  upcalled : (k : KernelState C) (p : ProcNo) (s : SpaceNo) (a : ActNo) (notes : List Note) → k.telling ≡ []
      → all_told (slice_set k.untold s.0 []) notes (ran p a s (read_off k)) ≡ read_off (run_in p s a notes k)
  upcalled k p s a notes empty =
      let G : (ℕ → Option SpaceNo) → List Note → Overview = λ f ns. record (read_off (run_in p s a notes k)) {
        spaces = f;
        taken = taken_behind f notes (taken_behind (spaces_in k) ns (take (length k.fixed.priorities) k.taken));
      } in
      let spaces : put (spaces_in k) a.0 (Some s) ≡ spaces_in (run_in p s a notes k) = sym (put-through act_space k.acts a.0 (Some (runs_in s))) in
      λ i. G (spaces i) (empty i)

  -- the notices that an up is followed by
  notes-are : (k : KernelState C) (r : Readings) (p : ProcNo) (s : SpaceNo) (added : Bool) → overview r ≡ read_off k → is_aim s.0 r.moved ≡ added
      → notes_told added p (untold_of k s.0) ≡ notes_due r p s
  notes-are k r p s false reads is =
      ap (λ (v : Overview). get_or v.untold s.0 []) (sym reads) ∙ ap (λ b. if b then Add p ∷ get_or r.untold s.0 [] else get_or r.untold s.0 []) (sym is)
  notes-are k r p s true reads is =
      ap (λ (v : Overview). Add p ∷ get_or v.untold s.0 []) (sym reads)
      ∙ ap (λ b. if b then Add p ∷ get_or r.untold s.0 [] else get_or r.untold s.0 []) (sym is)

  -- which of those that wait were idle
  up-idle : (w : WorkloadView) (e : ℕ) (p : ProcNo) (r : Readings) (k : KernelState C) (s : SpaceNo) (a : ActNo) (notes : List Note)
      → copies (Preempted a) k.untold ≡ 0 → IdleAlike k r → IdleAlike (run_in p s a notes k) (after_records w e p r (Up s a ∷ map Told notes))
  up-idle w e p r k s a notes new idle t b has =
      let was = contains-emptied k.untold s.0 t (Preempted b) has in
      let apart = not-there k.untold t a b new was in
      ap (λ f. f b.0) (told-all_idles w e p (after_record w e p r (Up s a)) notes) ∙ ap was_idle (put-other r.lives a.0 b.0 (Some (new_life s p)) apart)
      ∙ idle t b was
      ∙ ap (λ o. idle_in (held_of o)) (sym (put-other k.acts a.0 b.0 (Some (runs_in s)) apart))

  pub up-walk : (w : WorkloadView) (e : ℕ) (p : ProcNo) (r : Readings) (x : Scene C) (s : SpaceNo) (a : ActNo) (added : Bool) → CanUp x.state r p s a added
      → Walk w e p r x (upcall e p s a added x) (BeginsWithUp s) IsUpWithTold
  up-walk w e p r x s a added can =
      let k = x.state in
      let us = k.untold in
      let notes = notes_told added p (untold_of k s.0) in
      let first = after_record w e p r (Up s a) in
      let untold : first.untold ≡ us = ap (λ (v : Overview). v.untold) can.reads in
      let space : (overview first).spaces a.0 ≡ Some s =
      ap (λ (v : Overview). v.spaces a.0) (up-record w e p r s a) ∙ put-same (overview r).spaces a.0 (Some s) in
      record {
        records = Up s a ∷ map Told notes;
        adds = append_assoc x.items (record { event = e; proc = p; what = Up s a } ∷ []) (items_at e p (map Told notes));
        reads =
            told-reads w e p first us s added can.inside untold can.apart
            ∙ ap (all_told (slice_set us s.0 []) notes) (up-record w e p r s a ∙ ap (ran p a s) can.reads)
            ∙ upcalled k p s a notes can.empty;
        lawful = λ rest closes law.
            let due : told_run (map Told notes ++ rest) ≡ notes = told-behind notes rest closes in (
              record {
                once = tt;
                named = ap (λ (v : Overview). get_or v.running p.0 None) can.reads ∙ can.free;
                all = record {
                  fresh = no-life (r.lives a.0) (ap (λ (v : Overview). v.spaces a.0) can.reads ∙ ap act_space can.unused);
                  notes = due ∙ notes-are k r p s added can.reads can.moved;
                  some = λ none. can.some (sym due ∙ none);
                };
                gives = tt;
                raises = tt;
              },
              told-laws w e p first us s a added rest can.inside untold can.apart refl space law,
            );
        fixed = refl;
        idle = up-idle w e p r k s a notes can.new;
        tidy = λ tidy. tidy-of (run_in p s a notes k) (tidy-emptied us k.under_way s.0 (tidy-in k tidy)) tidy.taken;
        some = not-empty (Up s a) (map Told notes);
        own = own-told notes;
        shape = record { alone = told-alone notes; moved = λ o n. told-alone notes };
        is = λ rest closes. refl;
      }

  -- a processor is left
  fetch-adds : (e : ℕ) (p : ProcNo) (s : SpaceNo) (b : Bool) (x : Scene C) → (fetch_page e p s b x).items ≡ x.items ++ items_at e p (fetch_records s b)
  fetch-adds e p s true x = sym (append-nil x.items)
  fetch-adds e p s false x = refl

  fetch-reads : (w : WorkloadView) (e : ℕ) (p : ProcNo) (r : Readings) (s : SpaceNo) (b : Bool) (x : Scene C) → x.state.fixed.fetch ≡ w.fetch
      → overview r ≡ read_off x.state → overview (after_records w e p r (fetch_records s b)) ≡ read_off (fetch_page e p s b x).state
  fetch-reads w e p r s true x same reads = reads
  fetch-reads w e p r s false x same reads =
      let G : Overview → ℕ → Overview =
      λ v n. record v { io_count = v.io_count + 1; under_way = v.under_way ++ record { number = v.io_count; ends = e + n; kind = Upcall s } ∷ [] } in
      let back = sym same in
      λ i. G (reads i) (back i)

  fetch-fixed : (e : ℕ) (p : ProcNo) (s : SpaceNo) (b : Bool) (x : Scene C) → (fetch_page e p s b x).state.fixed ≡ x.state.fixed
  fetch-fixed e p s true x = refl
  fetch-fixed e p s false x = refl

  fetch-idle : (w : WorkloadView) (e : ℕ) (p : ProcNo) (r : Readings) (s : SpaceNo) (b : Bool) (x : Scene C) → IdleAlike x.state r
      → IdleAlike (fetch_page e p s b x).state (after_records w e p r (fetch_records s b))
  fetch-idle w e p r s true x idle = idle
  fetch-idle w e p r s false x idle = idle

  fetch-tidy : (e : ℕ) (p : ProcNo) (s : SpaceNo) (b : Bool) (x : Scene C) → is_fetching x.state s.0 ≡ b → IsTidy x.state → IsTidy (fetch_page e p s b x).state
  fetch-tidy e p s true x is tidy = tidy
  fetch-tidy e p s false x is tidy =
      tidy-of (fetch_page e p s false x).state
      (tidy-fetch x.state.untold x.state.under_way s x.state.io_count (e + x.state.fixed.fetch) is (tidy-in x.state tidy)) tidy.taken

  pub leave-walk : (w : WorkloadView) (e : ℕ) (p : ProcNo) (r : Readings) (x : Scene C) (s : SpaceNo) → x.state.fixed.fetch ≡ w.fetch
      → overview r ≡ read_off x.state → Walk w e p r x (leave e p s x) (λ all. leave_run all
      ≡ leave_records p (owner_of x.state p) s (is_fetching x.state s.0)) IsPassage
  leave-walk w e p r x s same reads =
      let owner = owner_of x.state p in
      let fetching = is_fetching x.state s.0 in
      let F : Overview → Overview =
      λ (v : Overview). record v { assign = record v.assign { owners = slice_set v.assign.owners p.0 None; aims = slice_set v.assign.aims p.0 None } } in
      let left = after_record w e p (after_record w e p r (Move owner None)) (Aim p None) in
      let left_scene : Scene C = record {
        state = without_aim p (with_owner p None x.state);
        items = (x.items ++ record { event = e; proc = p; what = Move owner None } ∷ []) ++ record { event = e; proc = p; what = Aim p None } ∷ [];
      } in
      record {
        records = leave_records p owner s fetching;
        adds =
            items-both e p x.items left_scene.items (leave e p s x).items (Move owner None ∷ Aim p None ∷ []) (fetch_records s fetching)
            (append_assoc x.items (record { event = e; proc = p; what = Move owner None } ∷ []) (record { event = e; proc = p; what = Aim p None } ∷ []))
            (fetch-adds e p s fetching left_scene);
        reads = fetch-reads w e p left s fetching left_scene same (ap F reads);
        lawful = λ rest closes law. (
          record { once = tt; named = tt; all = tt; gives = tt; raises = tt },
          (
            record { once = tt; named = tt; all = tt; gives = tt; raises = tt },
            fetch-laws w e p left s fetching rest law,
          ),
        );
        fixed = fetch-fixed e p s fetching left_scene;
        idle = fetch-idle w e p left s fetching left_scene;
        tidy =
            λ tidy. fetch-tidy e p s fetching left_scene refl
            (record { added = tidy.added; blocked = tidy.blocked; fetched = tidy.fetched; taken = tidy.taken });
        some = not-empty (Move owner None) (Aim p None ∷ fetch_records s fetching);
        own = fetch-own s fetching;
        shape = fetch-alone s fetching;
        is = λ rest closes. leave-behind (leave_records p owner s fetching) rest (fetch-leaves s fetching) closes;
      }

  -- a processor goes to a space, by an upcall or by leaving it
  pub record CanPassTo (w : WorkloadView) (k : KernelState C) (r : Readings) (p : ProcNo) (s : SpaceNo) (a : ActNo) (owned : Bool) : Type 0 where
    pub reads : overview r ≡ read_off k
    pub fetch : k.fixed.fetch ≡ w.fetch
    pub empty : k.telling ≡ []
    pub unused : k.acts a.0 ≡ None
    pub free : life_of k p ≡ None
    pub inside : s.0 < length k.untold
    pub apart : AreApart k.untold
    pub new : copies (Preempted a) k.untold ≡ 0
    pub moved : r.moved ≡ None
    pub some : owned ≡ true → untold_of k s.0 ≢ []

  abbrev pub PassesTo : KernelState C → ProcNo → SpaceNo → Bool → Bool → List Record → Type 0
  PassesTo k p s owned can all = (c : Readings) → c.under_way ≡ k.under_way → GoesTo can owned p c (owner_of k p) s all

  pub go-walk : (w : WorkloadView) (e : ℕ) (p : ProcNo) (r : Readings) (x : Scene C) (s : SpaceNo) (a : ActNo) (owned can : Bool)
      → CanPassTo w x.state r p s a owned → Walk w e p r x (go_to_by e p s a owned can x) (PassesTo x.state p s owned can) IsPassage
  go-walk w e p r x s a owned false go =
      let k = x.state in
      let leaves : Bool → List Record = leave_records p (owner_of k p) s in
      reshaped w e p r x (leave e p s x) (λ all. leave_run all ≡ leaves (is_fetching k s.0)) IsPassage (PassesTo k p s owned false) IsPassage
      (λ all left c same. left ∙ ap (λ ios. leaves (list_any (fetches s.0) ios)) (sym same)) (λ xs passes. passes) (leave-walk w e p r x s go.fetch go.reads)
  go-walk w e p r x s a true true go =
      let can : CanUp x.state r p s a false = record {
        reads = go.reads;
        empty = go.empty;
        unused = go.unused;
        free = go.free;
        inside = go.inside;
        apart = go.apart;
        new = go.new;
        moved = ap (is_aim s.0) go.moved;
        some = go.some refl;
      } in
      reshaped w e p r x (upcall e p s a false x) (BeginsWithUp s) IsUpWithTold (PassesTo x.state p s true true) IsPassage
      (λ all begins c same. begins) (λ xs told. told.alone) (up-walk w e p r x s a false can)
  go-walk w e p r x s a false true go =
      let owner = owner_of x.state p in
      let move = Move owner (Some s) in
      let F : Overview → Overview = λ (v : Overview). record v { assign = record v.assign { owners = slice_set v.assign.owners p.0 (Some s) } } in
      let next = after_record w e p r move in
      let y = moved e p s false x in
      let can : CanUp y.state next p s a true = record {
        reads = ap F go.reads;
        empty = go.empty;
        unused = go.unused;
        free = go.free;
        inside = go.inside;
        apart = go.apart;
        new = go.new;
        moved = eq-eqb s.0 s.0 refl;
        some = not-empty (Add p) (untold_of x.state s.0);
      } in
      let walk = up-walk w e p next y s a true can in
      record {
        records = move ∷ walk.records;
        adds = items-both e p x.items y.items (upcall e p s a true y).items (move ∷ []) walk.records refl walk.adds;
        reads = walk.reads;
        lawful = λ rest closes law. (record { once = tt; named = tt; all = tt; gives = tt; raises = tt }, walk.lawful rest closes law);
        fixed = walk.fixed;
        idle = walk.idle;
        tidy = λ tidy. walk.tidy (record { added = tidy.added; blocked = tidy.blocked; fetched = tidy.fetched; taken = tidy.taken });
        some = not-empty move walk.records;
        own = walk.own;
        shape = walk.shape.moved owner s;
        is = λ rest closes c same. (refl, refl, walk.is rest closes);
      }

  -- the context that ran on a processor is put aside
  held-space : (held : Stopped C) (o : Option (Act C)) → act_space (holding held o) ≡ act_space o
  held-space held None = refl
  held-space held (Some x) = refl

  pub spaces-held : (k : KernelState C) (a : ActNo) (held : Stopped C) → spaces_in (with_held a held k) ≡ spaces_in k
  spaces-held k a held =
      put-through act_space k.acts a.0 (holding held (k.acts a.0)) ∙ ap (put (spaces_in k) a.0) (held-space held (k.acts a.0)) ∙ put-self (spaces_in k) a.0

  pub aside-reads : (k : KernelState C) (p : ProcNo) (s : SpaceNo) (a : ActNo) (n : Note) (held : Stopped C)
      → set_aside p s n (read_off k) ≡ read_off (put_aside p s a n held k)
  aside-reads k p s a n held =
      let G : (ℕ → Option SpaceNo) → Overview =
      λ f. record (set_aside p s n (read_off k)) { spaces = f; taken = taken_behind f k.telling (take (length k.fixed.priorities) k.taken) } in
      ap G (sym (spaces-held k a held))

  -- who runs on a processor
  pub record Running (k : KernelState C) (p : ProcNo) (s : SpaceNo) (a : ActNo) : Type 0 where
    pub life : life_of k p ≡ Some a
    pub act : k.acts a.0 ≡ Some (runs_in s)

  pub runs-on : (k : KernelState C) (r : Readings) (p : ProcNo) (s : SpaceNo) (a : ActNo) → overview r ≡ read_off k → Running k p s a → RunsOn r p s a
  runs-on k r p s a reads runs = record {
    act = ap (λ (v : Overview). get_or v.running p.0 None) reads ∙ runs.life;
    space = ap (λ (v : Overview). v.spaces a.0) reads ∙ ap act_space runs.act;
  }
